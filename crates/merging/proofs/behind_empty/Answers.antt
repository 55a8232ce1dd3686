-- `behind_empty` meets its contract: so far no set behind the index is empty.
use Rattle.std.proofs.Common.{ℕ, ◌%◌, sym, ◌∙◌, ap, arith}
use Rattle.tape.specs.Listing.{held_at}
use Rattle.merging.proofs.Behind.{sofar-none, sofar-empty, sofar-filled}
use Rattle.merging.proofs.behind_empty.Goals as goal
use Rattle.merging.proofs.behind_empty.Goals.{then-set, else-set}

pub loop-i-init : goal.loop-i-init
loop-i-init c = λ l h. sofar-none l

pub loop-i-preserved : goal.loop-i-preserved
loop-i-preserved c =
    λ l h.
    let here = ap (λ (x : ℕ). x % 8) (held_at h c.loop-i.i (omega (arith, h.size, c.loop-i-test.true))) in
    elim c.if-set.branch [
      | then-set w ↦ rw w.behind-is (sofar-empty (c.loop-i.invariant l h) (sym here ∙ sym c.set_of-set.ensures ∙ w.if-set.true))
      | else-set w ↦ rw w.behind-is (sofar-filled (c.loop-i.invariant l h) (λ e. w.if-set.false (c.set_of-set.ensures ∙ here ∙ e)))
    ]

pub returns : goal.returns
returns c =
    λ l h. let s = c.loop-i.invariant l h in
    record { most = omega (arith, s.most, h.size); filled = λ j k m. s.filled j k (omega (arith, h.size)); last = s.last }
