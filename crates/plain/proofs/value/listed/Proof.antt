-- `listed` meets its contract: the two coefficients, with the sign that makes the denominator positive.
use mir.Syntax.{w32, w64}
use mir.Val.{SFits}
use mir.ValLaws.{to_z-of_z}
use Rattle.plain.proofs.Numbers.{widened, wide, negated_fits, falling-terms, rising-terms}
use Rattle.plain.proofs.value.listed.Statement.{statement}
use Rattle.plain.proofs.value.listed.Tie as tie

a-fits : (c : tie.After-struct_told-1) → SFits w32 c.args.e.a
a-fits c = record { sfits = c.struct_told-1.given.0.1 }

b-fits : (c : tie.After-struct_told-2-1) → SFits w32 c.args.e.b
b-fits c = record { sfits = c.struct_told-2-1.given.1.0.1 }

cast-a : tie.Need-overflow_cast-a
cast-a c = rw (to_z-of_z w32 _ (a-fits c)) (widened (a-fits c))

cast-b : tie.Need-overflow_cast-b
cast-b c = rw (to_z-of_z w32 _ (b-fits c)) (widened (b-fits c))

sub-t6 : tie.Need-overflow_sub-result
sub-t6 c = rw (wide (b-fits c.before)) (negated_fits (b-fits c.before))

sub-t7 : tie.Need-overflow_sub-result-else-b-lt0
sub-t7 c = let f = a-fits c.before.before.before in rw (wide f) (negated_fits f)

returns : tie.Need-returns-then-b-lt0
returns c t e =
    let a = a-fits c.before.before.before in
    let b = b-fits c.before in
    let s = c.args.e in
    let r = falling-terms s.a s.b t (rw (wide b) at c.if-b-lt0.true) e in
    rw (wide a, wide b, to_z-of_z w64 _ (negated_fits b)) (record { c = r.0; d = r.1 })

returns-2 : tie.Need-returns-else-b-lt0
returns-2 c t e =
    let a = a-fits c.before.before.before in
    let b = b-fits c.before in
    let s = c.args.e in
    let r = rising-terms s.a s.b t (rw (wide b) at c.if-b-lt0.false) e in
    rw (wide a, wide b, to_z-of_z w64 _ (negated_fits a)) (record { c = r.0; d = r.1 })

pub listed_spec : {M : Type 1} → statement M
listed_spec = tie.close (tie.spec cast-a cast-b sub-t6 sub-t7 returns returns-2)
