-- `under` meets its contract: the least less 1.
use borrow.Author.Rules.{rules}
use lib.IntN.{◌-ℤ◌}
use Rattle.rules.specs.Plain.{one_less}
use Rattle.plain_laws.specs.Bounds.{one-less-small}
use Rattle.plain.specs.Met.{under}
use Rattle.plain.proofs.Numbers.{fits, back, term_in, listed-c, listed-d, difference-in, less-is}
use Rattle.plain.proofs.value.under.Statement.{statement}
use Rattle.plain.proofs.value.under.Tie as tie

sub-t3 : tie.Need-overflow_sub-result
sub-t3 c =
    let s = c in
    let there = s.requires.0 in
    let i = c.listed-x.ensures there.fraction there.is in
    let small = s.requires.1.small there.fraction there.is in
    let r = c.listed-x.result in
    rw (back r.c (term_in (listed-c i small)), back r.d (term_in (listed-d i small))) (fits (difference-in r.c r.d (listed-c i small) (listed-d i small)))

returns : tie.Need-returns
unfolding under
returns c =
    let s = c in
    let there = s.requires.0 in
    let x = c.listed-x in
    let i = x.ensures there.fraction there.is in
    let small = s.requires.1.small there.fraction there.is in
    let r = x.result in
    rw (back r.c (term_in (listed-c i small)), back r.d (term_in (listed-d i small)), back (r.c -ℤ r.d) (difference-in r.c r.d (listed-c i small) (listed-d i small))) (
      record { t = one_less there.fraction; is = less-is i.c i.d; small = one-less-small small },
      λ t e. less-is (x.ensures t e).c (x.ensures t e).d,
    )

pub under_spec : {M : Type 1} → statement M
under_spec = tie.close (tie.spec (λ c κs. search rules) sub-t3 returns)
