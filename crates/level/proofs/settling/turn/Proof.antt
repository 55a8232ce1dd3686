-- `turn` meets its contract: steps 2 to 5 of the atoms, which lie in one list that is lent to each, and of the children, which lie in another.
use mathlib.Core.Path.{refl, ◌∙◌}
use mathlib.Core.List.{[]}
use borrow.Author.Rules.{rules}
use native.Mathlib.Omega.{arith}
use Rattle.tape.specs.Tape.{laid}
use Rattle.tape.specs.Listing.{row-long}
use Rattle.steps.specs.Carried.{carry-settles}
use Rattle.level.proofs.Stages.{laid-down, laid-first, turn-broken, turn-contradiction, turn_alone, turn-falls, turn_moved, left_by, turn-over}
use Rattle.level.proofs.settling.turn.Statement.{statement}
use Rattle.level.proofs.settling.turn.Tie as tie

tidy-requires : tie.Need-tidy-kept-requires
tidy-requires c κs = let (forms, ready) = c.requires in (forms, omega (arith, ready.fits, ready.long))

broken : tie.Need-returns-then-kept
broken c l children h k = turn-broken children (c.tidy-kept.ensures l h) c.if-kept.true (c.never.ensures _)

carry-requires : tie.Need-carry-carrying-requires
carry-requires c κs =
    let (forms, ready) = c.requires in
    let f = c.tidy-kept.ensures ready.list ready.lists in
    (forms, (omega (arith, f.few, f.lists.size, ready.long), omega (arith, f.few, f.lists.size)))

contradiction : tie.Need-returns-then-carrying
contradiction c l children h k =
    let f = c.tidy-kept.ensures l h in
    turn-contradiction children f c.if-kept.false (c.carry-carrying.ensures f.list f.lists) c.if-carrying.true (c.never-then-carrying.ensures _)

alone-requires : tie.Need-without_implied-alone-requires
alone-requires c κs =
    let (forms, ready) = c.requires in
    let f = c.tidy-kept.ensures ready.list ready.lists in
    let g = c.carry-carrying.ensures f.list f.lists in
    (forms, (omega (arith, f.few, f.lists.size, c.carry-carrying.auto.list, c.tidy-kept.auto.list, ready.long), (omega (arith, f.few, g.same, g.lists.size), left_by f c.if-kept.false g c.if-carrying.false)))

alone : tie.Need-returns-then-m-eq0
alone c l children h k =
    let f = c.tidy-kept.ensures l h in
    let g = c.carry-carrying.ensures f.list f.lists in
    turn_alone children f c.if-kept.false g c.if-carrying.false (omega (arith, k.size, c.if-m-eq0.true)) (c.without_implied-alone.ensures g.list g.lists)

sweep-requires : tie.Need-sweep-walked-requires
sweep-requires c κs =
    let (forms, ready) = c.requires in
    let f = c.tidy-kept.ensures ready.list ready.lists in
    let g = c.carry-carrying.ensures f.list f.lists in
    (forms, ((g.variables, carry-settles f.list _ g c.if-carrying.false), (ready.wide, (omega (arith, ready.fits), (ready.children, ready.lies)))))

falls : tie.Need-returns-then-walked
falls c l children h k =
    let f = c.tidy-kept.ensures l h in
    turn-falls children f c.if-kept.false (c.carry-carrying.ensures f.list f.lists) c.if-carrying.false (c.sweep-walked.ensures children k) c.if-walked.true (c.never-then-walked.ensures _)

lay-ors-requires : tie.Need-lay-requires
lay-ors-requires c κs =
    let ready = c.requires.1 in
    let w = c.sweep-walked.ensures ready.children ready.lies in
    (omega arith, (row-long w.stands.lies, omega (arith, w.small, ready.fits, ready.lies.size, ready.wide)))

lay-list-requires : tie.Need-lay-requires-then-walked-2
lay-list-requires c κs =
    let ready = c.requires.1 in
    let f = c.tidy-kept.ensures ready.list ready.lists in
    let w = c.sweep-walked.ensures ready.children ready.lies in
    (omega arith, (row-long w.stands.lists, omega (arith, f.small, f.lists.size, ready.lists.size, w.small, ready.fits, ready.lies.size, c.carry-carrying.auto.list, c.tidy-kept.auto.list, ready.long)))

moved : tie.Need-returns-then-walked-2
moved c l children h k =
    let f = c.tidy-kept.ensures l h in
    let g = c.carry-carrying.ensures f.list f.lists in
    let w = c.sweep-walked.ensures children k in
    turn_moved children f c.if-kept.false g c.if-carrying.false w c.if-walked.false
    (laid-first _ (laid w.stands.children) (c.lay.ensures _ [] _ (record { is = refl; size = refl }) w.stands.lies (omega (arith, w.stands.lies.size))) w.stands.lies.size) c.if-walked-2.true
    (laid-down _ _ g.list w.stands.new (c.lay-then-walked-2.ensures _ g.list _ g.lists w.stands.lists (omega (arith, w.stands.lists.size))) w.stands.lists.size)

without-implied-requires : tie.Need-without_implied-remaining-requires
without-implied-requires c κs =
    let (forms, ready) = c.requires in
    let f = c.tidy-kept.ensures ready.list ready.lists in
    let g = c.carry-carrying.ensures f.list f.lists in
    (forms, (omega (arith, f.few, f.lists.size, c.carry-carrying.auto.list, c.tidy-kept.auto.list, ready.long), (omega (arith, f.few, g.same, g.lists.size), left_by f c.if-kept.false g c.if-carrying.false)))

over : tie.Need-returns
over c l children h k =
    let f = c.tidy-kept.ensures l h in
    let g = c.carry-carrying.ensures f.list f.lists in
    let w = c.sweep-walked.ensures children k in
    turn-over children f c.if-kept.false g c.if-carrying.false w c.if-walked.false
    (laid-first _ (laid w.stands.children) (c.lay.ensures _ [] _ (record { is = refl; size = refl }) w.stands.lies (omega (arith, w.stands.lies.size))) w.stands.lies.size) c.if-walked-2.false
    (c.without_implied-remaining.ensures g.list g.lists)

adds : tie.Need-overflow_add-result
adds c =
    let ready = c.requires.1 in
    let f = c.tidy-kept.ensures ready.list ready.lists in
    let w = c.sweep-walked.ensures ready.children ready.lies in
    omega (arith, f.few, f.lists.size, w.small, ready.fits, ready.lies.size)

pub turn_spec : {M : Type 1} → statement M
turn_spec =
    tie.close
    (tie.spec tidy-requires (λ c κs. omega (arith, c.requires.1.wide)) (λ c. search rules) (λ c. search rules) broken carry-requires
    (λ c κs. omega (arith, c.requires.1.wide)) (λ c. search rules) (λ c. search rules) contradiction alone-requires
    (λ c. c.without_implied-alone.auto.list ∙ c.carry-carrying.auto.list ∙ c.tidy-kept.auto.list) alone sweep-requires
    (λ c κs. omega (arith, c.requires.1.wide)) (λ c. search rules) (λ c. search rules) falls
    (λ c. search rules) lay-ors-requires (λ c. search (rules, c.sweep-walked.type_inv)) lay-list-requires adds
    (λ c. c.lay-then-walked-2.auto.out ∙ c.carry-carrying.auto.list ∙ c.tidy-kept.auto.list) (λ c. c.lay.auto.out) moved without-implied-requires
    (λ c. c.without_implied-remaining.auto.list ∙ c.carry-carrying.auto.list ∙ c.tidy-kept.auto.list) (λ c. c.lay.auto.out) over)
