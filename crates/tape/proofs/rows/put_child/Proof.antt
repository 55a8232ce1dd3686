use mathlib.Core.Path.{◌∙◌}
use Prim.Native.Nat.{◌+◌, ◌*◌}
use borrow.Author.Rules.{rules}
use native.Mathlib.Omega.{arith}
use lib.ListN.{length-set}
use Rattle.tape.specs.Listing.{child-made}
use Rattle.tape.specs.Storing.{stored, counted}
use Rattle.tape.proofs.rows.put_child.Statement.{statement}
use Rattle.tape.proofs.rows.put_child.Tie as tie

lay-requires : tie.Need-lay-requires
lay-requires c κs =
    let start = c in
    let row = start.args.row in
    let atoms = start.args.atoms in
    let long = length-set row.token row.count (atoms.count * 65536 + start.args.inner.count) ∙ start.well_formed.0.1.1.0.1.0.1 in
    let atoms-long = start.well_formed.1.0.1.1.0.1.0.1 in
    (omega arith, (omega (arith, start.requires, atoms-long), omega (arith, start.requires, long)))

lay-requires-2 : tie.Need-lay-requires-2
lay-requires-2 c κs =
    let start = c in
    let row = start.args.row in
    let inner = start.args.inner in
    let long = c.lay.auto.out ∙ length-set row.token row.count (start.args.atoms.count * 65536 + inner.count) ∙ start.well_formed.0.1.1.0.1.0.1 in
    let inner-long = start.well_formed.1.1.0.1.1.0.1.0.1 in
    (omega arith, (omega (arith, start.requires, inner-long), omega (arith, start.requires, long)))

returns : tie.Need-returns
returns c =
    let start = c in
    let row = start.args.row in
    let long = start.well_formed.0.1.1.0.1.0.1 in (
      omega arith,
      λ earlier l own a b d.
          let headed = stored row.token row.count _ (omega (arith, start.requires, long)) _ a in
          let with-atoms = c.lay.ensures _ _ l headed b (omega (arith, b.size)) in
          let with-inner = c.lay-2.ensures _ _ _ (counted with-atoms (omega arith)) d (omega (arith, d.size)) in
          child-made earlier l own _ _ b.size d.size (counted with-inner (omega arith)),
    )

pub put_child_spec : {M : Type 1} → statement M
put_child_spec =
    tie.close
    (tie.spec (λ c. search rules) (λ c. search rules) (λ c. search rules) (λ c. search rules) (λ c. search rules) (λ c. search rules) (λ c. search rules) (λ c. search rules) lay-requires (λ c. search rules) (λ c. search rules)
    (λ c. search rules) (λ c. search rules) lay-requires-2 (λ c. search rules) (λ c. search rules) (λ c. search rules) returns)
