use native.Mathlib.Nat.{sub-zero}
use Rattle.std.proofs.Common.{◌≡◌, drop, arith}
use Rattle.script_polynomial.proofs.Comparing.{slot-within, agrees-none, agrees-one-more}
use Rattle.script_polynomial.proofs.tabled.longest.Goals as goal

pub loop-i-init : goal.loop-i-init
loop-i-init c =
    let a = c.args in
    record {
      within = omega arith;
      best = omega (arith, agrees-none a.n a.coefficient.now a.monomial.now a.terms.now (drop a.at a.text.now) a.known);
    }

pub agreed_slot-next-requires : goal.agreed_slot-next-requires
agreed_slot-next-requires c = (c.requires.0, slot-within c.requires.1 _ (omega (arith, c.loop-i.invariant.within)))

pub loop-i-preserved : goal.loop-i-preserved
loop-i-preserved c =
    let l = c.loop-i in
    let a = c.args in
    let next = agrees-one-more a.n a.coefficient.now a.monomial.now a.terms.now (drop a.at a.text.now) a.known l.i (omega arith) l.invariant.within in
    record { within = omega (arith, l.invariant.within); best = omega (arith, c.larger_of-best.ensures, c.agreed_slot-next.ensures, l.invariant.best, next) }

pub returns : goal.returns
returns c =
    let l = c.loop-i in
    let none : l.i ≡ 0 = omega arith in
    rw (none, sub-zero) at l.invariant.best
