-- `found-in` meets its contract, by what its tests ensure.
use borrow.Author.Rules.{rules}
use mathlib.Core.Path.{◌≡◌, sym, ◌∙◌}
use mathlib.Core.Bool.{◌&&◌, ◌||◌}
use Rattle.rules.specs.Signs.{kind}
use Rattle.rules.specs.Deduce.{is_strict, has_other, found}
use Rattle.deduction_laws.specs.Vanishing.{strict_by, found_by}
use Rattle.interval.specs.Ends.{interval_of, vanishing_of}
use Rattle.interval.proofs.finding.found_in.Statement.{statement}
use Rattle.interval.proofs.finding.found_in.Tie as tie

returns : tie.Need-returns-then-not-has_t
unfolding found_by found
returns c = simp (sym c.has_t.ensures ∙ c.if-not-has_t.true)

-- the strict test
strict-is : (c : tie.After-strictly) → let a = c.args in
    c.strictly.result ≡ ((is_strict (kind a.set) && has_other (interval_of a.r)) || strict_by (interval_of a.r) (vanishing_of a.v))
strict-is c = rw (c.strictly.ensures, c.is_strict.ensures, c.has_other.ensures, c.strict_in.ensures)

returns-2 : tie.Need-returns-then-strictly
unfolding found_by found
returns-2 c =
    let d = c in
    simp (sym d.has_t.ensures ∙ d.if-not-has_t.false, sym (strict-is c.before) ∙ c.if-strictly.true)

returns-3 : tie.Need-returns-else-strictly
unfolding found_by found
returns-3 c =
    let d = c in
    simp (sym d.has_t.ensures ∙ d.if-not-has_t.false, sym (strict-is c.before) ∙ c.if-strictly.false)

pub found_in_spec : {M : Type 1} → statement M
found_in_spec =
    tie.close
    (tie.spec (λ c κs. search rules) returns (λ c κs. search rules) (λ c κs. search rules) (λ c κs. search rules) (λ c κs. search rules) returns-2 returns-3)
