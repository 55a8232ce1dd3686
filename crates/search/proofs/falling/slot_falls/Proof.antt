-- `slot_falls` meets its contract: the places of a slot below eighty lie within the slice.
use borrow.Author.Rules.{rules}
use native.Mathlib.Omega.{arith}
use Rattle.search.proofs.Masking.{falls-slot}
use Rattle.search.proofs.falling.slot_falls.Statement.{statement}
use Rattle.search.proofs.falling.slot_falls.Tie as tie

falls-requires : tie.Need-falls-requires
falls-requires c κs =
    let s = c.before.before.before in
    let few = s.requires.0.few s.args.k in
    let (f, g) = c.places-run.ensures in omega (arith, g, few, s.requires.0.monomials, s.requires.1)

returns : tie.Need-returns
returns c e =
    let s = c.before.before.before.before in
    let (f, g) = c.before.places-run.ensures in falls-slot s.args.terms.now s.args.k f g (c.falls.ensures e)

pub slot_falls_spec : {M : Type 1} → statement M
slot_falls_spec = tie.close (tie.spec (λ c κs. search rules) falls-requires returns)
