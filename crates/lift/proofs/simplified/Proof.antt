-- `simplified` meets its contract: the first bytes of the output are the filled part, and the part begins where the output does.
use borrow.Author.Rules.{rules}
use mathlib.Core.Path.{refl, sym, ap, ◌∙◌}
use mathlib.Core.List.{List}
use Prim.Native.Nat.{ℕ}
use lib.Dec.{eqb}
use lib.ListN.{length}
use Rattle.lift.specs.Part.{part_length, part-first, empty-exactly-on-refusal}
use Rattle.lift.proofs.simplified.Statement.{statement}
use Rattle.lift.proofs.simplified.Tie as tie

slice-aggregate-result : tie.Need-slice_bounds-result-end
slice-aggregate-result c =
    let filled = c.length_in-filled in
    let answers = c.simplify.ensures.0 in
    filled.ensures ∙ part_length answers ∙ sym (ap length (part-first answers filled.result filled.ensures))

returns : tie.Need-returns
returns c =
    let filled = c.length_in-filled in
    let a = c.args in
    let first = part-first c.simplify.ensures.0 filled.result filled.ensures in
    (first, refl, ap (λ (l : List ℕ). eqb (length l) 0) first ∙ empty-exactly-on-refusal (length a.output.now) a.input.now)

pub simplified_spec : {M : Type 1} → statement M
simplified_spec = tie.close (tie.spec (λ c κs. search rules) (λ c κs. search rules) slice-aggregate-result returns)
