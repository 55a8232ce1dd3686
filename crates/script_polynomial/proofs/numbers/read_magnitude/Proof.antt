-- `read_magnitude` meets its contract.
use native.Mathlib.Omega.{arith}
use borrow.Author.Rules.{rules}
use Rattle.script_polynomial.specs.At.{byte_inside}
use Rattle.script_polynomial.proofs.Digits.{magnitude-low, magnitude-high, magnitude-on}
use Rattle.script_polynomial.proofs.numbers.read_magnitude.Statement.{statement}
use Rattle.script_polynomial.proofs.numbers.read_magnitude.Tie as tie

read-digits-requires : tie.Need-read_digits-requires
read-digits-requires c κs =
    let here = byte_inside c.args.text.now c.args.at (omega (arith, c.byte_at-byte.ensures)) in
    (omega (arith, here), c.requires.1, record { not_zero = omega arith; at-most = omega arith })

returns-3 : tie.Need-returns
returns-3 c =
    magnitude-on _ _ _ c.byte_at-byte.ensures c.if-byte-lt49.false c.if-byte-gt57.false c.read_digits.ensures

pub read_magnitude_spec : {M : Type 1} → statement M
read_magnitude_spec =
    tie.close
    (tie.spec (λ c κs. search rules) (λ c. magnitude-low _ _ _ c.byte_at-byte.ensures c.if-byte-lt49.true)
    (λ c. magnitude-high _ _ _ c.byte_at-byte.ensures c.if-byte-gt57.true) (λ c. search rules) (λ c. search rules) (λ c. search rules)
    read-digits-requires returns-3)
