-- `normalize` meets its contract: what its callees did, one after the other, by the sign of the first coefficient.
use borrow.Author.Rules.{rules}
use mathlib.Core.Path.{◌≡◌, sym, ap, ◌∙◌}
use Prim.Native.Nat.{ℕ}
use lib.IntN.{ℤ}
use mathlib.Core.List.{List}
use Rattle.rules.specs.Polynomial.{content, first_is_negative}
use Rattle.ending_laws.specs.Gcd.{content-above-zero}
use Rattle.normal.specs.Normal.{coefficients, divided_run, negated_run, is_turned, turned_run, normal_run}
use Rattle.normal.specs.NormalRuns.{bounded-divided, divided-first, content-small}
use Rattle.normal.proofs.normalize.Statement.{statement}
use Rattle.normal.proofs.normalize.Tie as tie

divide-requires : tie.Need-divide-requires
divide-requires c κs =
    let start = c in
    let a = start.args in
    let p = coefficients a.coefficient.now a.from a.to in (
      start.requires.0.there,
      start.requires.1,
      rw c.content-by.ensures (content-above-zero p),
      rw c.content-by.ensures (content-small a.coefficient.now a.from a.to start.requires.0),
    )

negate-requires : tie.Need-negate-requires
negate-requires c κs =
    let start = c in
    let a = start.args in
    rw c.divide.ensures
    (bounded-divided a.target.now a.from a.to start.requires.1 c.content-by.result
    a.coefficient.now start.requires.0)

module _ (c : tie.After-first_is_negative) where
  abbrev given : tie.Start
  given = c.before.before.before.before.before

  -- The divided run, by the content.
  divided-is : c.divide.new.target
      ≡ divided_run (content (coefficients given.args.coefficient.now given.args.from given.args.to)) given.args.coefficient.now
      given.args.target.now given.args.from given.args.to
  divided-is = c.divide.ensures
      ∙ ap (λ (by : ℕ). divided_run by given.args.coefficient.now given.args.target.now given.args.from given.args.to)
      c.content-by.ensures

  -- The test that the code makes.
  test : c.first_is_negative.result ≡ is_turned given.args.coefficient.now given.args.from given.args.to
  test = c.first_is_negative.ensures
      ∙ ap (λ (l : List ℤ). first_is_negative (coefficients l given.args.from given.args.to)) divided-is
      ∙ divided-first given.args.coefficient.now given.args.target.now given.args.from given.args.to given.requires.1

returns : tie.Need-returns-then-first_is_negative
unfolding normal_run turned_run
returns c =
    let d = c.before.before.before.before in
    let turns = sym c.if-first_is_negative.true ∙ test d in
    (turns, c.negate.ensures ∙ rw (← turns) (ap (λ (l : List ℤ). negated_run l (given d).args.from (given d).args.to) (divided-is d)))

returns-2 : tie.Need-returns
unfolding normal_run turned_run
returns-2 c = let turns = sym c.if-first_is_negative.false ∙ test c.before in (turns, rw (← turns) (divided-is c.before))

pub normalize_spec : {M : Type 1} → statement M
normalize_spec =
    tie.close
    (tie.spec (λ c κs. search rules) divide-requires (λ c κs. search rules) negate-requires (λ c. search rules) returns (λ c. search rules) returns-2)
