-- `evaluate::atom` meets its contract.
use mathlib.Core.Path.{ap, ◌∙◌}
use Prim.Native.Nat.{◌/◌}
use native.Mathlib.Omega.{arith}
use borrow.Author.Rules.{rules}
use Rattle.rules.specs.Polynomial.{Polynomial}
use Rattle.arithmetic.specs.Checked.{value_from}
use Rattle.evaluate.specs.Walk.{atom-says, in-slot, slot-inside}
use Rattle.evaluate.proofs.atom.Statement.{statement}
use Rattle.evaluate.proofs.atom.Tie as tie

cast-count : tie.Need-overflow_cast-count
cast-count c = let s = c.before.before.before in omega (arith, s.requires.0.few (s.args.token / 8))

behind-requires : tie.Need-behind-to-requires
behind-requires c κs = let s = c.before.before.before in (omega (arith, s.requires.2), s.requires.0.few (s.args.token / 8))

value-requires : tie.Need-value-total-requires
value-requires c κs =
    let s = c.before.before.before.before in
    let number = s.args.token / 8 in (
      s.requires.1,
      rw c.behind-to.ensures (slot-inside _ _ _ (s.requires.0.coefficients number)),
      rw c.behind-to.ensures (slot-inside _ _ _ (s.requires.0.monomials number)),
    )

returns : tie.Need-returns
returns c =
    let end = c.before.before in
    let s = end.before.before.before.before in
    record {
      says = atom-says s.args.readings.now _ _ c.before.value-total.result
          (c.before.value-total.ensures
          ∙ ap (λ (p : Polynomial). value_from s.args.readings.now p) (in-slot s.args.coefficient.now s.args.monomial.now _ _ end.behind-to.ensures))
          c.sign_in.ensures;
    }

pub atom_spec : {M : Type 1} → statement M
atom_spec =
    tie.close
    (tie.spec (λ c. search rules) (λ c. search rules) (λ c. search rules) cast-count behind-requires value-requires (λ c κs. search rules) returns)
