use borrow.Rule.Slice.PartMut.{post_of, mid_len, Post-is}
use Rattle.std.proofs.Common.{◌≡◌, ℕ, ◌+◌, ◌-◌, ◌++◌, ◌∙◌, List, ap, arith, take, replicate}
use Rattle.pool.proofs.Walks.{zeros-filled}
use Rattle.pool.proofs.slots.clear.Goals as goal

pub returns : goal.returns
returns c =
    let at = c.args.at in
    let words = c.args.pool.now in
    let long = mid_len at (at + 34) words c.requires in
    let many : at + 34 - at ≡ 34 = omega arith in
    let filled : c.fill.new.self ≡ replicate 34 0 = c.fill.ensures.after (λ y e. e) ∙ ap (λ (n : ℕ). replicate n 0) (long ∙ many) in
    ap (λ (l : List ℕ). take at words ++ (l ++ post_of at (at + 34 - at) words)) filled
    ∙ ap (λ (l : List ℕ). take at words ++ (replicate 34 0 ++ l)) (Post-is at (at + 34) words (omega arith))
    ∙ zeros-filled words at 34 c.requires
