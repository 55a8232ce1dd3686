-- What is left to store gives what all would.
use Rattle.std.proofs.Common.{◌≡◌, ◌*◌, length}
use Rattle.script_polynomial.proofs.Copying.{stored_from}
use Rattle.script_polynomial.proofs.tabled.store.Given as goal

abbrev pub invariant-loop-i : goal.invariant-loop-i
invariant-loop-i l =
    (length l.coefficient ≡ length l.fn.coefficient) × (length l.monomial ≡ length l.fn.monomial)
    × (stored_from (λ t. t.coefficient) l.value l.powers (16 * l.slot) l.count l.coefficient l.i
    ≡ stored_from (λ t. t.coefficient) l.value l.powers (16 * l.slot) l.count l.fn.coefficient 0)
    × (stored_from (λ t. t.monomial) l.value l.powers (16 * l.slot) l.count l.monomial l.i
    ≡ stored_from (λ t. t.monomial) l.value l.powers (16 * l.slot) l.count l.fn.monomial 0)
