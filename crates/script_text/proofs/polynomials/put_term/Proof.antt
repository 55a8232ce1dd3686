-- `put_term` meets its contract: a number alone, or a product.
use mathlib.Core.Path.{◌≡◌}
use native.Mathlib.Omega.{arith}
use mir.Syntax.{w32}
use mir.Val.{to_z, of_z}
use mir.ValLaws.{to_z-of_z}
use borrow.Author.Rules.{rules}
use Rattle.lines.specs.Written.{wrote_as}
use Rattle.script_text.specs.Runs.{two_runs, fits-as, fits-first, fits-second, wrote-split}
use Rattle.script_text.proofs.Texts.{term-constant, term-product}
use Rattle.script_text.proofs.polynomials.put_term.Statement.{statement}
use Rattle.script_text.proofs.polynomials.put_term.Tie as tie

-- The coefficient, which passed through its bits.
back : (s : tie.Start) → to_z w32 (of_z w32 s.args.coefficient) ≡ s.args.coefficient
back s = to_z-of_z w32 s.args.coefficient s.ranges.coefficient

pub put_term_spec : {M : Type 1} → statement M
put_term_spec =
    tie.close
    (tie.spec
    (λ c κs. fits-as (term-constant _ _ _ (back c.before.before.before) c.if-monomial-eq0.true) c.requires.1)
    (λ c. search rules)
    (λ c.
    wrote_as c.put_number.ensures (term-constant _ _ _ (back c.before.before.before.before.before.before) c.if-monomial-eq0.true))
    (λ c κs. fits-first (term-product _ _ _ (back c.before.before.before.before.before) c.if-monomial-eq0.false) c.requires.1)
    (λ c κs.
    fits-first two_runs (fits-second (term-product _ _ _ (back c.before.before.before.before.before.before.before.before.before) c.if-monomial-eq0.false) c.requires.1 c.put_bytes-number.ensures))
    (λ c κs. (
      omega (arith, c.requires.0),
      fits-first two_runs (fits-second two_runs
          (fits-second (term-product _ _ _ (back c.before.before.before.before.before.before.before.before.before.before.before.before.before) c.if-monomial-eq0.false) c.requires.1 c.put_bytes-number.ensures) c.put_number-product.ensures),
    ))
    (λ c κs.
    fits-second two_runs (fits-second two_runs
    (fits-second (term-product _ _ _ (back c.before.before.before.before.before.before.before.before.before.before.before.before.before.before.before.before.before) c.if-monomial-eq0.false) c.requires.1 c.put_bytes-number.ensures) c.put_number-product.ensures)
    c.put_factors-end.ensures)
    (λ c. search rules)
    (λ c.
    wrote-split (term-product _ _ _ (back c.before.before.before.before.before.before.before.before.before.before.before.before.before.before.before.before.before.before.before.before) c.if-monomial-eq0.false) c.put_bytes-number.ensures
    (wrote-split two_runs c.put_number-product.ensures (wrote-split two_runs c.put_factors-end.ensures c.put_byte.ensures))))
