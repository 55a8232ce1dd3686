-- `put_polynomial` meets its contract: no term, one, or a sum.
use mir.Syntax.{w32}
use mir.ValLaws.{to_z-of_z}
use borrow.Author.Rules.{rules}
use Rattle.lines.specs.Written.{wrote_as}
use Rattle.script_text.specs.Runs.{two_runs, fits-as, fits-first, fits-second, wrote-split}
use Rattle.script_text.proofs.Texts.{polynomial-none, polynomial-one, polynomial-many}
use Rattle.script_text.proofs.polynomials.put_polynomial.Statement.{statement}
use Rattle.script_text.proofs.polynomials.put_polynomial.Tie as tie

pub put_polynomial_spec : {M : Type 1} → statement M
put_polynomial_spec =
    tie.close
    (tie.spec (λ c. polynomial-none _ _ _ _ _ c.if-count-eq0.true) (λ c. search rules) (λ c. search rules) (λ c. search rules) (λ c. search rules)
    (λ c κs. (
      c.requires.0,
      fits-as (polynomial-one _ _ _ _ _ c.if-count-eq1.true (to_z-of_z w32 _ (record { sfits = c.value-1.given }))) c.requires.2,
    ))
    (λ c. search rules)
    (λ c.
    wrote_as c.put_term.ensures (polynomial-one _ _ _ _ _ c.if-count-eq1.true (to_z-of_z w32 _ (record { sfits = c.value-1.given }))))
    (λ c κs.
    fits-first (polynomial-many _ _ _ _ _ c.if-count-eq0.false c.if-count-eq1.false) c.requires.2)
    (λ c κs. (
      c.requires.0,
      c.requires.1,
      fits-first two_runs (fits-second (polynomial-many _ _ _ _ _ c.if-count-eq0.false c.if-count-eq1.false) c.requires.2 c.put_bytes-terms.ensures),
    ))
    (λ c κs.
    fits-second two_runs (fits-second (polynomial-many _ _ _ _ _ c.if-count-eq0.false c.if-count-eq1.false) c.requires.2 c.put_bytes-terms.ensures)
    c.put_summands-end.ensures)
    (λ c. search rules)
    (λ c.
    wrote-split (polynomial-many _ _ _ _ _ c.if-count-eq0.false c.if-count-eq1.false) c.put_bytes-terms.ensures
    (wrote-split two_runs c.put_summands-end.ensures c.put_byte.ensures)))
