-- `fate_of_all` meets its contract: the merged list, the rounds over what stands behind its last empty atom, and step 5.
use borrow.Author.Rules.{rules}
use mathlib.Core.Path.{refl}
use native.Mathlib.Omega.{arith}
use Rattle.table.specs.Table.{Table}
use Rattle.round.specs.Views.{lent_table}
use Rattle.tape.specs.Listing.{row-long}
use Rattle.fates.proofs.Fating.{all-later, few, asks-contradiction, false-by-rounds, false-by-empty, left_by, each-by}
use Rattle.fates.proofs.fate_of_all.Statement.{statement}
use Rattle.fates.proofs.fate_of_all.Tie as tie

abbrev table : tie.Start → Table
table s = lent_table s.args.coefficient s.args.monomial s.args.terms s.args.variables

part-requires : tie.Need-part-later-requires
part-requires c κs =
    let s = c.before.before.before.before.before.before.before in
    let g = s.requires.1 in
    let joined = c.before.before.before.before.join_all-joined.ensures.1 g.tokens g.lists in
    let merged = c.before.before.before.not_full-merged.ensures.1 (table s) joined.list joined.lists in
    let behind = c.before.before.behind_empty-behind.ensures merged.list merged.lists in
    (omega (arith, behind.most, merged.lists.size), (row-long merged.lists, omega (arith, c.before.before.before.not_full-merged.ensures.0, c.before.before.before.before.join_all-joined.ensures.0, g.lists.size, g.few)))

carry-requires : tie.Need-carry-ran-requires
carry-requires c κs =
    let s = c.before.before.before.before.before.before.before.before.before.before in
    let g = s.requires.1 in
    let joined = c.before.before.before.before.before.before.before.join_all-joined.ensures.1 g.tokens g.lists in
    let merged = c.before.before.before.before.before.before.not_full-merged.ensures.1 (table s) joined.list joined.lists in
    let behind = c.before.before.before.before.before.behind_empty-behind.ensures merged.list merged.lists in
    let later = all-later merged.list _ _ merged.lists.size (c.before.before.part-later.ensures.1 _ merged.list merged.lists (omega (arith, merged.lists.size))) in
    (s.requires.0, (row-long later, omega (arith, later.size, few s.requires.0 joined merged behind)))

leave-out-requires : tie.Need-leave_out-named-requires
leave-out-requires c κs =
    let s = c.before.before.before.before.before.before.before.before.before.before.before.before.before.before in
    let g = s.requires.1 in
    let joined = c.before.before.before.before.before.before.before.before.before.before.before.join_all-joined.ensures.1 g.tokens g.lists in
    let merged = c.before.before.before.before.before.before.before.before.before.before.not_full-merged.ensures.1 (table s) joined.list joined.lists in
    let behind = c.before.before.before.before.before.before.before.before.before.behind_empty-behind.ensures merged.list merged.lists in
    let later = all-later merged.list _ _ merged.lists.size (c.before.before.before.before.before.before.part-later.ensures.1 _ merged.list merged.lists (omega (arith, merged.lists.size))) in
    (s.requires.0, asks-contradiction s.requires.0 joined merged behind (c.before.before.before.carry-ran.ensures _ later) _ refl c.if-ran.true _ later)

returns : tie.Need-returns-then-ran
returns c l h =
    let s = c.before.before.before.before.before.before.before.before.before.before.before.before.before.before.before in
    let joined = c.before.before.before.before.before.before.before.before.before.before.before.before.join_all-joined.ensures.1 l h in
    let merged = c.before.before.before.before.before.before.before.before.before.before.before.not_full-merged.ensures.1 (table s) joined.list joined.lists in
    let behind = c.before.before.before.before.before.before.before.before.before.before.behind_empty-behind.ensures merged.list merged.lists in
    let later = all-later merged.list _ _ merged.lists.size (c.before.before.before.before.before.before.before.part-later.ensures.1 _ merged.list merged.lists (omega (arith, merged.lists.size))) in
    false-by-rounds s.requires.0 joined merged behind (c.before.before.before.before.carry-ran.ensures _ later) _ refl c.before.if-ran.true (c.leave_out-named.ensures _ later) _ refl refl

append-requires : tie.Need-append-named-requires
append-requires c κs =
    let s = c.before.before.before.before.before.before.before.before.before.before.before.before.before.before.before.before in
    let g = s.requires.1 in
    let joined = c.before.before.before.before.before.before.before.before.before.before.before.before.before.join_all-joined.ensures.1 g.tokens g.lists in
    let merged = c.before.before.before.before.before.before.before.before.before.before.before.before.not_full-merged.ensures.1 (table s) joined.list joined.lists in
    let behind = c.before.before.before.before.before.before.before.before.before.before.before.behind_empty-behind.ensures merged.list merged.lists in
    (omega arith, (omega (arith, behind.most, merged.lists.size, c.before.before.before.before.before.before.before.before.before.before.before.before.not_full-merged.ensures.0, c.before.before.before.before.before.before.before.before.before.before.before.before.before.join_all-joined.ensures.0, g.lists.size, g.few), omega (arith, c.empty.ensures.0)))

returns-2 : tie.Need-returns-then-behind-gt0
returns-2 c l h =
    let s = c.before.before.before.before.before.before.before.before.before.before.before.before.before.before.before.before.before in
    let joined = c.before.before.before.before.before.before.before.before.before.before.before.before.before.before.join_all-joined.ensures.1 l h in
    let merged = c.before.before.before.before.before.before.before.before.before.before.before.before.before.not_full-merged.ensures.1 (table s) joined.list joined.lists in
    let behind = c.before.before.before.before.before.before.before.before.before.before.before.before.behind_empty-behind.ensures merged.list merged.lists in
    let later = all-later merged.list _ _ merged.lists.size (c.before.before.before.before.before.before.before.before.before.part-later.ensures.1 _ merged.list merged.lists (omega (arith, merged.lists.size))) in
    false-by-empty s.requires.0 joined merged behind (c.before.before.before.before.before.before.carry-ran.ensures _ later) c.before.before.if-behind-gt0.true c.before.before.before.if-ran.false
    (c.append-named.ensures.1 _ merged.list c.before.empty.ensures.1 merged.lists (omega (arith, behind.most))) _ refl refl

without-implied-requires : tie.Need-without_implied-remaining-requires
without-implied-requires c κs =
    let s = c.before.before.before.before.before.before.before.before.before.before.before.before.before.before.before.before in
    let g = s.requires.1 in
    let joined = c.before.before.before.before.before.before.before.before.before.before.before.before.before.join_all-joined.ensures.1 g.tokens g.lists in
    let merged = c.before.before.before.before.before.before.before.before.before.before.before.before.not_full-merged.ensures.1 (table s) joined.list joined.lists in
    let behind = c.before.before.before.before.before.before.before.before.before.before.before.behind_empty-behind.ensures merged.list merged.lists in
    let later = all-later merged.list _ _ merged.lists.size (c.before.before.before.before.before.before.before.before.part-later.ensures.1 _ merged.list merged.lists (omega (arith, merged.lists.size))) in
    let ran = c.before.before.before.before.before.carry-ran.ensures _ later in
    let left = left_by s.requires.0 joined merged behind ran c.before.before.if-ran.false in
    (s.requires.0, (row-long ran.lists, (omega (arith, later.size, few s.requires.0 joined merged behind), left)))

returns-3 : tie.Need-returns
returns-3 c l h =
    let s = c.before.before.before.before.before.before.before.before.before.before.before.before.before.before.before.before.before.before in
    let joined = c.before.before.before.before.before.before.before.before.before.before.before.before.before.before.before.join_all-joined.ensures.1 l h in
    let merged = c.before.before.before.before.before.before.before.before.before.before.before.before.before.before.not_full-merged.ensures.1 (table s) joined.list joined.lists in
    let behind = c.before.before.before.before.before.before.before.before.before.before.before.before.before.behind_empty-behind.ensures merged.list merged.lists in
    let later = all-later merged.list _ _ merged.lists.size (c.before.before.before.before.before.before.before.before.before.before.part-later.ensures.1 _ merged.list merged.lists (omega (arith, merged.lists.size))) in
    let ran = c.before.before.before.before.before.before.before.carry-ran.ensures _ later in
    each-by s.requires.0 joined merged behind ran c.before.before.before.if-behind-gt0.false c.before.before.before.before.if-ran.false (c.before.without_implied-remaining.ensures ran.list ran.lists) _ refl refl refl refl refl

pub fate_of_all_spec : {M : Type 1} → statement M
fate_of_all_spec =
    tie.close
    (tie.spec (λ c κs. let g = c.before.before.requires.1 in (c.before.before.requires.0, omega (arith, g.lists.size, g.few)))
    (λ c κs. let g = c.before.before.before.requires.1 in omega (arith, c.join_all-joined.ensures.0, g.lists.size, g.few))
    (λ c κs. let g = c.before.before.before.before.requires.1 in omega (arith, c.not_full-merged.ensures.0, c.before.join_all-joined.ensures.0, g.lists.size, g.few))
    (λ c. search rules) part-requires (λ c. search rules) carry-requires leave-out-requires returns (λ c κs. tt) (λ c. search rules) append-requires returns-2
    (λ c. search rules) without-implied-requires returns-3)
