-- `join_all` meets its contract: the list so far, and what is left of the atoms.
use Rattle.std.proofs.Common.{arith, length-take}
use Rattle.merging.proofs.Joining.{rest-token, tokens-done, joining-start, joining-next, joining-end}
use Rattle.merging.proofs.join_all.Goals as goal

pub loop-token-init : goal.loop-token-init
loop-token-init c = record { few = omega (arith, c.empty-list.ensures.0); joins = λ l h. joining-start _ l _ c.empty-list.ensures.1 }

pub loop-token-preserved : goal.loop-token-preserved
loop-token-preserved c = record {
  few = omega (arith, c.join-list.ensures.0, c.loop-token.invariant.few);
  joins = λ l h.
      let j = rw (rest-token h c.loop-token-test.true) at (c.loop-token.invariant.joins l h) in
      joining-next j (c.join-list.ensures.1 j.list j.lists);
}

pub returns : goal.returns
returns c = (
  omega (arith, length-take c.args.given.count c.args.given.token, c.loop-token.auto.token-index-end, c.loop-token.invariant.few),
  λ l h. joining-end (rw (tokens-done h c.loop-token-test.false) at (c.loop-token.invariant.joins l h)),
)
