use native.Mathlib.Omega.{arith}
use Rattle.tape.specs.Entering.{goes-as, tells_none, tells-atom, tells-child, tells_more}
use Rattle.tape.proofs.walks.add.Goals.{then-n-eq0+else-end-eq0+else-first-inner, else-n-eq0, then-n-eq1+else-end-eq0-2, else-n-eq1}
use Rattle.tape.proofs.walks.add.Goals as goal

pub returns-then-end-eq0 : goal.returns-then-end-eq0
returns-then-end-eq0 c t walk kids s h = goes-as (omega arith) (tells_none h c.if-n-eq0.true c.if-end-eq0.true) (c.fallen.ensures t walk s)

pub returns-then-first-inner : goal.returns-then-first-inner
returns-then-first-inner c t walk kids s h =
    let atoms = c.atoms_of-first.ensures.0 in
    let f = tells-child h _ _ atoms c.tokens_of-inner.ensures.0 (omega arith) c.if-n-eq0.true
    c.if-end-eq0.false c.if-first-inner.true in
    goes-as (omega arith) f.1.1.1.1 (c.spliced.ensures t walk f.0 f.1.0 s f.1.1.0 f.1.1.1.0)

pub returns-then-end-eq0-2 : goal.returns-then-end-eq0-2
returns-then-end-eq0-2 c t walk kids s h = goes-as (omega arith) (tells-atom h c.if-n-eq1.true c.if-end-eq0-2.true) (c.joined.ensures t walk s)

pub returns : goal.returns
returns c t walk kids s h =
    let f = tells_more h (omega arith)
    (λ z. elim c.if-n-eq0.branch [
      | then-n-eq0+else-end-eq0+else-first-inner w ↦
          (w.if-end-eq0.false, λ e. w.if-first-inner.false (omega (arith, e, w.atoms_of-first.ensures.0, w.tokens_of-inner.ensures.0)))
      | else-n-eq0 w ↦ absurd (w.if-n-eq0.false z)
    ])
    (λ z y. elim c.if-n-eq1.branch [ then-n-eq1+else-end-eq0-2 w ↦ w.if-end-eq0-2.false y | else-n-eq1 w ↦ w.if-n-eq1.false z ]) in
    goes-as (omega arith) f.1 (c.stayed.ensures t walk h.list h.children s h.lists h.lies f.0)
