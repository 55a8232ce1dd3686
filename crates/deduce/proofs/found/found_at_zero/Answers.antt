use Rattle.std.proofs.Common.{◌≡◌, refl, sym, ◌∙◌, pos, get_or, rules}
use native.Mathlib.Nat.{le_refl}
use Rattle.rules.specs.Signs.{sign_of, only}
use Rattle.interval.specs.Coefficients.{back}
use Rattle.deduce.proofs.Lasts.{ruled_out}
use Rattle.deduce.proofs.LastWalks.{zero-walk-on, zero-gone, zero-done}
use Rattle.deduce.proofs.found.found_at_zero.Goals as goal

pub loop-i-init : goal.loop-i-init
loop-i-init c = record { on = le_refl _; t = refl; rest = λ s k q z. refl }

pub returns-then-rules_out : goal.returns-then-rules_out
returns-then-rules_out c =
    let z = get_or c.args.coefficient.now c.loop-i.i (pos 0) in
    let value : c.sign_of-value.result.0 ≡ only (sign_of z) = c.sign_of-value.ensures ∙ rw (back {z = z} (record { sfits = search rules })) in
    let out = ruled_out {x = c.loop-i.left} _ value (sym c.rules_out.ensures ∙ c.if-rules_out.true) in
    zero-gone (zero-walk-on c.loop-i.invariant c.loop-i-test.true (rw value at out)) c.requires.zero refl

pub returns-then-is_gone : goal.returns-then-is_gone
returns-then-is_gone c =
    let z = get_or c.args.coefficient.now c.loop-i.i (pos 0) in
    let value : c.sign_of-value.result.0 ≡ only (sign_of z) = c.sign_of-value.ensures ∙ rw (back {z = z} (record { sfits = search rules })) in
    zero-gone (zero-walk-on c.loop-i.invariant c.loop-i-test.true (rw value at c.by-left.ensures)) c.requires.zero (sym c.is_gone.ensures ∙ c.if-is_gone.true)

pub loop-i-preserved : goal.loop-i-preserved
loop-i-preserved c =
    let z = get_or c.args.coefficient.now c.loop-i.i (pos 0) in
    let value : c.sign_of-value.result.0 ≡ only (sign_of z) = c.sign_of-value.ensures ∙ rw (back {z = z} (record { sfits = search rules })) in
    zero-walk-on c.loop-i.invariant c.loop-i-test.true (rw value at c.by-left.ensures)

pub returns : goal.returns
returns c = zero-done c.loop-i.invariant c.requires.zero c.loop-i-test.false c.found.ensures
