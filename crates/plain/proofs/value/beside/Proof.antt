-- `beside` meets its contract: numerators added, denominators added, or 1 more.
use borrow.Author.Rules.{rules}
use lib.IntN.{◌+ℤ◌}
use mir.Syntax.{w32}
use mir.Val.{SFits}
use Rattle.rules.specs.Plain.{one_more, between}
use Rattle.plain_laws.specs.Bounds.{Small, largest, one-more-small, between-small}
use Rattle.interval.specs.Ends.{There}
use Rattle.interval.specs.Coefficients.{is-zero, not_zero}
use Rattle.plain.specs.Values.{Is}
use Rattle.plain.proofs.Numbers.{fits, back, term_in, listed-c, listed-d, sum-in, more-is, between_is, none_there, is-there, none_beside, one-beside}
use Rattle.plain.proofs.value.beside.Statement.{statement}
use Rattle.plain.proofs.value.beside.Tie as tie

near_fits : (c : tie.After-struct_told-1) → SFits w32 c.args.near.b
near_fits c = record { sfits = c.struct_told-1.given.1.0.1 }

-- the listed fraction f
first : (c : tie.After-listed-x) → Is c.listed-x.result c.requires.0.0.fraction
first c = let there = c.requires.0.0 in c.listed-x.ensures there.fraction there.is

first_small : (c : tie.After-listed-x) → Small largest c.requires.0.0.fraction
first_small c = let there = c.requires.0.0 in c.requires.0.1.small there.fraction there.is

add-t7 : tie.Need-overflow_add-result
add-t7 c =
    let d = c.before.before.before.before in
    let r = d.listed-x.result in
    rw (back r.c (term_in (listed-c (first d) (first_small d))), back r.d (term_in (listed-d (first d) (first_small d))))
    (fits (sum-in r.c r.d (listed-c (first d) (first_small d)) (listed-d (first d) (first_small d))))

returns : tie.Need-returns-then-b-eq0
returns c =
    let d = c.before.before.before.before.before in
    let r = d.listed-x.result in
    let none = none_there d.args.near.a d.args.near.b (is-zero (near_fits c.before.before.before.before) c.if-b-eq0.true) in
    rw (
      back r.c (term_in (listed-c (first d) (first_small d))),
      back r.d (term_in (listed-d (first d) (first_small d))),
      back (r.c +ℤ r.d) (sum-in r.c r.d (listed-c (first d) (first_small d)) (listed-d (first d) (first_small d))),
    ) (
      record { t = one_more d.requires.0.0.fraction; is = more-is (first d).c (first d).d; small = one-more-small (first_small d) },
      λ t e. none_beside t none (more-is (d.listed-x.ensures t e).c (d.listed-x.ensures t e).d),
    )

-- the neighbour above it
other : (c : tie.Else-b-eq0) → There c.args.near
other c = is-there c.args.near (not_zero (near_fits c.before) c.if-b-eq0.false)

second : (c : tie.After-listed-y) → Is c.listed-y.result (other c.before).fraction
second c = c.listed-y.ensures (other c.before).fraction (other c.before).is

second_small : (c : tie.After-listed-y) → Small largest (other c.before).fraction
second_small c = c.requires.1.small (other c.before).fraction (other c.before).is

add-t8 : tie.Need-overflow_add-result-2
add-t8 c =
    let e = c.before.before.before.before in
    let d = e.before.before.before in
    let x = d.listed-x.result in
    let y = e.listed-y.result in
    rw (back x.c (term_in (listed-c (first d) (first_small d))), back y.c (term_in (listed-c (second e) (second_small e))))
    (fits (sum-in x.c y.c (listed-c (first d) (first_small d)) (listed-c (second e) (second_small e))))

add-t9 : tie.Need-overflow_add-result-3
add-t9 c =
    let e = c.before.before.before.before.before.before.before.before in
    let d = e.before.before.before in
    let x = d.listed-x.result in
    let y = e.listed-y.result in
    rw (back x.d (term_in (listed-d (first d) (first_small d))), back y.d (term_in (listed-d (second e) (second_small e))))
    (fits (sum-in x.d y.d (listed-d (first d) (first_small d)) (listed-d (second e) (second_small e))))

returns-2 : tie.Need-returns
returns-2 c =
    let e = c.before.before.before.before.before.before.before.before in
    let d = e.before.before.before in
    let x = d.listed-x.result in
    let y = e.listed-y.result in
    let xc = listed-c (first d) (first_small d) in
    let xd = listed-d (first d) (first_small d) in
    let yc = listed-c (second e) (second_small e) in
    let yd = listed-d (second e) (second_small e) in
    rw (
      back x.c (term_in xc),
      back x.d (term_in xd),
      back y.c (term_in yc),
      back y.d (term_in yd),
      back (x.c +ℤ y.c) (sum-in x.c y.c xc yc),
      back (x.d +ℤ y.d) (sum-in x.d y.d xd yd),
    ) (
      record {
        t = between d.requires.0.0.fraction (other e.before).fraction;
        is = between_is (first d).c (first d).d (second e).c (second e).d;
        small = between-small (first_small d) (second_small e);
      },
      λ t k. one-beside t (other e.before).fraction (other e.before).is (between_is (d.listed-x.ensures t k).c (d.listed-x.ensures t k).d (second e).c (second e).d),
    )

pub beside_spec : {M : Type 1} → statement M
beside_spec = tie.close (tie.spec (λ c κs. search rules) add-t7 returns (λ c κs. other c) add-t8 add-t9 returns-2)
