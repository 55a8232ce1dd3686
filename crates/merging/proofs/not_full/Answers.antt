-- `not_full` meets its contract: the tokens kept so far, and what is left of the list.
use Rattle.std.proofs.Common.{List, ℕ, sym, ◌∙◌, arith, length-take}
use Rattle.table.specs.Table.{Table}
use Rattle.tape.specs.Row.{Lists}
use Rattle.merging.proofs.Joining.{rest-token, tokens-done, keep-start, keep-end, keep-full, keep-open}
use Rattle.merging.proofs.not_full.Goals as goal
use Rattle.merging.proofs.not_full.Goals.{then-set_of, else-set_of}

pub loop-token-init : goal.loop-token-init
loop-token-init c = record { few = omega (arith, c.empty-kept.ensures.0); keeps = λ t l h. keep-start t l _ c.empty-kept.ensures.1 }

pub loop-token-preserved : goal.loop-token-preserved
loop-token-preserved c =
    let so_far = λ (t : Table) (l : List ℕ) (h : Lists c.args.list l). rw (rest-token h c.loop-token-test.true) at (c.loop-token.invariant.keeps t l h) in
    elim c.if-set_of.branch [
      | then-set_of w ↦ rw w.kept-is (record {
        few = omega (arith, w.push-kept.ensures.0, c.loop-token.invariant.few);
        keeps = λ t l h. keep-open (so_far t l h) (λ e. w.if-set_of.true (c.set_of.ensures ∙ e)) _ w.push-kept.ensures.1;
      })
      | else-set_of w ↦ rw w.kept-is (record {
        few = omega (arith, c.loop-token.invariant.few);
        keeps = λ t l h. keep-full (so_far t l h) (sym c.set_of.ensures ∙ w.if-set_of.false);
      })
    ]

pub returns : goal.returns
returns c = (
  omega (arith, length-take c.args.list.count c.args.list.token, c.loop-token.auto.token-index-end, c.loop-token.invariant.few),
  λ t l h. keep-end (rw (tokens-done h c.loop-token-test.false) at (c.loop-token.invariant.keeps t l h)),
)
