use borrow.Author.Tests.{lt-ltb, le-ltb}
use Rattle.std.proofs.Common.{◌≡◌, refl, ℕ, ◌+◌, ◌%◌, ◌<◌, Bool, cond, List, get_or, set, length, length-set, sym, ap, ◌∙◌, arith}
use Rattle.normal.specs.Stores.{stores, stores-step, stores-skip, stores-end, stores-map}
use Rattle.answer.specs.Tapes.{plain}
use Rattle.answer.proofs.plain_tokens.Goals as goal
use Rattle.answer.proofs.plain_tokens.Goals.{then-t-lt16777216, else-t-lt16777216}

pub loop-i-init : goal.loop-i-init
loop-i-init c = record { as_long = refl; left = stores-map 0 plain c.args.token.now c.args.count (omega arith) }

pub loop-i-preserved : goal.loop-i-preserved
unfolding plain
loop-i-preserved c =
    let l = c.loop-i in
    let count = c.args.count in
    let t = get_or l.token l.i 0 in
    let h : l.i < count = c.loop-i-test.true in
    let left = λ (x : List ℕ). stores 0 (λ j. j) (λ j y. plain y) x (l.i + 1) count in
    elim c.if-t-lt16777216.branch [
      | then-t-lt16777216 w ↦
          let is : t % 512 ≡ plain t = sym (ap (λ (b : Bool). cond b (t % 512) t) (lt-ltb t 16777216 w.if-t-lt16777216.true)) in
          let stored = w.token-is ∙ ap (set l.token l.i) is in
          record {
            as_long = ap length stored ∙ length-set l.token l.i (plain t) ∙ l.invariant.as_long;
            left = ap left stored ∙ sym (stores-step 0 (λ j. j) (λ j x. plain x) l.token l.i count h) ∙ l.invariant.left;
          }
      | else-t-lt16777216 w ↦
          let stays = ap (λ (b : Bool). cond b (t % 512) t) (le-ltb t 16777216 w.if-t-lt16777216.false) in
          record {
            as_long = ap length w.token-is ∙ l.invariant.as_long;
            left = ap left w.token-is ∙ sym (stores-skip 0 (λ j. j) (λ j x. plain x) l.token l.i count h stays) ∙ l.invariant.left;
          }
    ]

pub returns : goal.returns
returns c = sym (stores-end 0 (λ j. j) (λ j x. plain x) c.loop-i.token c.loop-i.i c.args.count c.loop-i-test.false) ∙ c.loop-i.invariant.left
