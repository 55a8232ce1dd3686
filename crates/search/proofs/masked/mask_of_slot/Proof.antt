-- `mask_of_slot` meets its contract: the places of a slot below eighty lie within the slices.
use borrow.Author.Rules.{rules}
use native.Mathlib.Omega.{arith}
use Rattle.search.proofs.Masking.{at_slot}
use Rattle.search.proofs.masked.mask_of_slot.Statement.{statement}
use Rattle.search.proofs.masked.mask_of_slot.Tie as tie

mask-of-requires : tie.Need-mask_of-requires
mask-of-requires c κs =
    let s = c.before.before.before.before in
    let few = s.requires.0.few s.args.k in
    let (f, g) = c.places-run.ensures in
    record {
      ordered = omega (arith, f, g);
      coefficients = omega (arith, g, few, s.requires.1.0);
      monomials = omega (arith, g, few, s.requires.0.monomials);
      signs = omega (arith, g, few, s.requires.0.signs);
    }

returns : tie.Need-returns
returns c =
    let s = c.before.before.before.before.before in
    let (f, g) = c.before.places-run.ensures in
    at_slot s.args.terms.now s.args.k f g c.mask_of.ensures

pub mask_of_slot_spec : {M : Type 1} → statement M
mask_of_slot_spec = tie.close (tie.spec (λ c κs. search rules) mask-of-requires returns)
