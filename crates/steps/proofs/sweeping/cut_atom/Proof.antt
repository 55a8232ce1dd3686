use mathlib.Core.Path.{refl}
use borrow.Author.Rules.{rules}
use native.Mathlib.Omega.{arith}
use Rattle.steps.proofs.Atomwise.{cut-is}
use Rattle.steps.proofs.sweeping.cut_atom.Statement.{statement}
use Rattle.steps.proofs.sweeping.cut_atom.Tie as tie

says-requires : tie.Need-says-said-requires
says-requires c κs =
    let hears = c.before.before.before.before.before.before.requires in
    ((hears.forms, (hears.variables, omega (arith, c.slot_of.ensures))), ((hears.long, (hears.signed, hears.settles)), hears.words))

returns : tie.Need-returns
returns c =
    cut-is _ _ c.before.before.before.before.before.before.before.before.before.before.before.before.before.before.before.args.token _ _ _ _ _ _ _ (rw c.before.before.before.before.before.before.before.before.before.slot_of.ensures at c.before.before.before.before.before.before.before.before.says-said.ensures) (rw c.before.before.before.before.before.before.before.set_of.ensures at c.before.before.before.before.before.before.complement-set.ensures) c.before.before.before.before.before.inside-implied.ensures
    c.before.before.before.before.intersect-cut.ensures refl c.before.before.before.complement.ensures c.before.before.with_set-left.ensures

pub cut_atom_spec : {M : Type 1} → statement M
cut_atom_spec =
    tie.close
    (tie.spec (λ c κs. search rules) says-requires (λ c κs. search rules) (λ c κs. search rules) (λ c κs. search rules) (λ c κs. search rules) (λ c κs. search rules) (λ c κs. search rules) returns)
