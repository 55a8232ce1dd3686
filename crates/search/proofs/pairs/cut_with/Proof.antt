-- `cut_with` meets its contract: the pairs with the atoms that are left cut the set so far to what all of them cut the set to.
use borrow.Author.Rules.{rules}
use mathlib.Core.Path.{◌≡◌, sym, ◌∙◌, ap}
use mathlib.Core.List.{List}
use Prim.Native.Nat.{ℕ, ◌<◌, ◌≤◌, ◌+◌, ◌-◌}
use native.Mathlib.Omega.{arith}
use lib.ListN.{get_or}
use Rattle.rules.specs.Signs.{SignSet}
use Rattle.rules.specs.Polynomial.{Board}
use Rattle.rules.specs.TwoAtoms.{tries_with}
use Rattle.terms.specs.View.{sets_of}
use Rattle.table.specs.declared.Atoms.{Atoms}
use Rattle.table.specs.Table.{Table, form_at, atom_at, many}
use Rattle.two_atoms.specs.Cuts.{cut_in}
use Rattle.round.specs.Views.{table_of, lent_table, rest}
use Rattle.round.specs.Signing.{atom_slot}
use Rattle.round.specs.SignedSlots.{run-held}
use Rattle.columns.specs.Columns.{Candidates}
use Rattle.search.proofs.Masking.{of-run, atom-mask, falls-run}
use Rattle.search.proofs.Skips.{skips}
use Rattle.search.proofs.Walks.{Stands, held-places, walk-on, walk-stop, walk_end, pair_tries, pair-at, with-step, with-end}
use Rattle.search.proofs.pairs.cut_with.Statement.{statement}
use Rattle.search.proofs.pairs.cut_with.Tie as tie

-- the tries of p and the atom at i with the atoms from j on
abbrev tries_from : Table → Board → ℕ → Atoms → ℕ → ℕ → List SignSet
tries_from t board p a i j = tries_with board (form_at t p) (atom_at t a.number a.set i) (rest t a j)

abbrev invariant-loop : tie.invariant-loop-j
invariant-loop coefficient monomial terms sign masks columns i p mask falls all atoms n run first set1 q1 mask1 left₀ sofar₀ j₀ left sofar j =
    Candidates columns mask mask1 set1 sofar.0 left
    × ((v : ℕ) (board : Board) → let t = table_of coefficient monomial terms v in
    Stands t board atoms sign p → cut_in all sofar.0 (tries_from t board p atoms i j) ≡ cut_in all sofar₀.0 (tries_from t board p atoms i (i + 1)))

abbrev decreases-loop : tie.decreases-loop-j
decreases-loop coefficient monomial terms sign masks columns i p mask falls all atoms n run first set1 q1 mask1 left₀ sofar₀ j₀ left sofar j = n - j

abbrev table : tie.Start invariant-loop decreases-loop → Table
table s = lent_table s.args.coefficient s.args.monomial s.args.terms s.args.board.variables

-- the board of the call
stands : (s : tie.Start invariant-loop decreases-loop) → Stands (table s) (sets_of s.args.board) s.args.atoms s.args.sign.now s.args.p
stands s = record { ready = s.requires.0.0; own = s.requires.1.0.1.0; filled = s.requires.0.1 }

-- the place before the loop
abbrev start : tie.At-loop-j invariant-loop decreases-loop → tie.Start invariant-loop decreases-loop
start l = l.before.before.before.before.before.before.before.before.before.before.before.before.before.before

mask-at-requires : tie.Need-mask_at-mask1-requires invariant-loop decreases-loop
mask-at-requires c κs =
    let s = c in
    (omega (arith, s.requires.1.0.1.1), s.requires.1.1.0.words)

candidates-requires : tie.Need-candidates-left-requires invariant-loop decreases-loop
candidates-requires c κs = c.requires.1.1.1.0.1.words

next-requires : tie.Need-next-j-requires invariant-loop decreases-loop
next-requires c κs = omega (arith, c.many-n.ensures)

loop-holds : tie.Need-loop-j-init invariant-loop decreases-loop
loop-holds c =
    let s = c in
    let (low, (signed, at)) = s.requires.1.0 in
    let (masked, ((own, noted), falling)) = s.requires.1.1 in
    let word = c.candidates-left.ensures in (
      word,
      λ v board h. skips h low s.args.i at own masked noted s.args.all s.args.set.0
          c.mask_at-mask1.ensures word c.next-j.ensures
          c.many-n.ensures,
    )

places-requires-3 : tie.Need-places-q2-requires invariant-loop decreases-loop
places-requires-3 c κs = (omega arith, (start c.before.before.before).requires.0.0.forms.counts)

mask-at-requires-2 : tie.Need-mask_at-mask2-requires invariant-loop decreases-loop
mask-at-requires-2 c κs =
    let l = c.before.before.before.before in
    (omega (arith, l.many-n.ensures), (start l).requires.1.1.0.words)

cut-by-sifted-pair-requires : tie.Need-cut_by_sifted_pair-cut-requires invariant-loop decreases-loop
cut-by-sifted-pair-requires c κs =
    let d = c.before.before.before.before.before in
    let s = start d in
    let ready = s.requires.0.0 in
    let (low, (signed, at)) = s.requires.1.0 in
    let (masked, ((own, noted), falling)) = s.requires.1.1 in
    let slot = atom_slot s.args.atoms.number in
    let i = s.args.i in
    let j = d.loop-j.j in
    let all = d.many-n.ensures in
    let next : j < many s.args.atoms.count = omega (arith, all) in
    let p = d.places-run.ensures in
    let q1 = d.places-q1.ensures in
    let q2 = c.places-q2.ensures in (
      (
        record {
          p = held-places (run-held s.args.p ready.forms ready.places low p.0 p.1 signed);
          q1 = held-places (run-held (slot i) ready.forms ready.places (omega arith) q1.0 q1.1 (ready.atoms i at));
          q2 = held-places (run-held (slot j) ready.forms ready.places (omega arith) q2.0 q2.1 (ready.atoms j next));
        },
        record {
          p = of-run s.args.terms.now s.args.p p.0 p.1 own;
          q1 = atom-mask masked i at d.mask_at-mask1.ensures q1.0 q1.1;
          q2 = atom-mask masked j next c.mask_at-mask2.ensures q2.0 q2.1;
        },
      ),
      λ e. record {
        p = falls-run s.args.terms.now s.args.p p.0 p.1 (falling e).own;
        q1 = falls-run s.args.terms.now (slot i) q1.0 q1.1 ((falling e).atoms.each i at);
        q2 = falls-run s.args.terms.now (slot j) q2.0 q2.1 ((falling e).atoms.each j next);
      },
    )

-- what the pair leaves of the set so far
cut-is : (c : tie.After-cut_by_sifted_pair-cut invariant-loop decreases-loop) (v : ℕ) (board : Board) →
    let l = c.before.before.before.before.before.before in
    let a = (start l).args in
    let t = table_of a.coefficient.now a.monomial.now a.terms.now v in
    let atom = atom_at t a.atoms.number a.atoms.set in
    Stands t board a.atoms a.sign.now a.p
    → c.cut_by_sifted_pair-cut.result.0 ≡ cut_in a.all l.loop-j.sofar.0 (pair_tries board (form_at t a.p) (atom a.i) (atom l.loop-j.j))
cut-is c v board h =
    let l = c.before.before.before.before.before.before in
    let s = start l in
    let a = s.args in
    let t = table_of a.coefficient.now a.monomial.now a.terms.now v in
    let slot = atom_slot a.atoms.number in
    let i = a.i in
    let j = l.loop-j.j in
    let all = l.many-n.ensures in
    let next : j < many a.atoms.count = omega (arith, all, c.loop-j-test.true) in
    let p = l.places-run.ensures in
    let q1 = l.places-q1.ensures in
    let q2 = c.places-q2.ensures in
    let ready = h.ready in
    let own = run-held a.p ready.forms ready.places s.requires.1.0.0 p.0 p.1 h.own in
    let first = run-held (slot i) ready.forms ready.places (omega arith) q1.0 q1.1 (ready.atoms i s.requires.1.0.1.1) in
    let second = run-held (slot j) ready.forms ready.places (omega arith) q2.0 q2.1 (ready.atoms j next) in
    c.cut_by_sifted_pair-cut.ensures.on (record { p = own.signed; q1 = first.signed; q2 = second.signed; filled = h.filled })
    ∙ ap (cut_in a.all l.loop-j.sofar.0)
    (pair-at t board a.p (slot i) (slot j) (get_or a.atoms.set i 0) (get_or a.atoms.set j 0) p.0 p.1 q1.0 q1.1 q2.0 q2.1)

returns : tie.Need-returns-then-stops invariant-loop decreases-loop
returns c =
    let d = c.before.before.before.before.before.before.before.before in
    let s = start d in
    let l = d.loop-j in
    let all = d.many-n.ensures in
    let h : l.j < many s.args.atoms.count = omega (arith, all, c.loop-j-test.true) in
    walk-stop s.args.all l.sofar.0 _ _ (l.invariant.1 _ _ (stands s)) (with-step (table s) s.args.atoms _ _ l.j _ h)
    (cut-is c.before.before _ _ (stands s)) (sym c.stops.ensures ∙ c.if-stops.true)

add-next-2 : tie.Need-overflow_add-j invariant-loop decreases-loop
add-next-2 c =
    let l = c in
    let all = l.many-n.ensures in
    let h : l.loop-j.j < 64 = omega (arith, c.loop-j-test.true, all) in
    search rules

next-requires-2 : tie.Need-next-j-requires-in-loop-j invariant-loop decreases-loop
next-requires-2 c κs =
    let l = c in
    omega (arith, l.many-n.ensures)

loop-less : tie.Need-loop-j-smaller invariant-loop decreases-loop
loop-less c = omega (arith, c.next-j-in-loop-j.ensures.on, c.loop-j-test.true)

loop-again : tie.Need-loop-j-preserved invariant-loop decreases-loop
loop-again c =
    let d = c.before.before.before.before.before.before.before.before.before.before in
    let s = start d in
    let a = s.args in
    let (low, (signed, at)) = s.requires.1.0 in
    let (masked, ((own, noted), falling)) = s.requires.1.1 in
    let l = d.loop-j in
    let all = d.many-n.ensures in
    let on = c.loop-j-test.true in
    let h : l.j < many a.atoms.count = omega (arith, all, on) in
    let word = c.still-left.ensures.candidates l.invariant.0 in (
      word,
      λ v board k. skips k low a.i at own masked noted a.all c.cut_by_sifted_pair-cut.result.0
          d.mask_at-mask1.ensures word c.next-j-in-loop-j.ensures all
          ∙ walk-on a.all l.sofar.0 _ _ (l.invariant.1 v board k)
          (with-step (table_of a.coefficient.now a.monomial.now a.terms.now v) a.atoms board _ l.j _ h)
          (cut-is c.before.before.before.before v board k) (sym c.stops.ensures ∙ c.if-stops.false),
    )

returns-2 : tie.Need-returns invariant-loop decreases-loop
returns-2 c =
    let d = c.before in
    let s = start d in
    let all = d.many-n.ensures in
    let h : many s.args.atoms.count ≤ d.loop-j.j = omega (arith, all) in
    walk_end s.args.all (d.loop-j.invariant.1 _ _ (stands s)) (with-end (table s) s.args.atoms _ _ _ _ h)

pub cut_with_spec : {M : Type 1} → statement M
cut_with_spec =
    tie.close
    (tie.spec invariant-loop decreases-loop (λ c κs. search rules) (λ c κs. search rules) (λ c. search rules) (λ c. search rules) (λ c. search rules)
    (λ c κs. search rules) mask-at-requires candidates-requires (λ c. search rules) next-requires loop-holds (λ c. search rules) (λ c. search rules)
    (λ c. search rules) places-requires-3 mask-at-requires-2 cut-by-sifted-pair-requires (λ c κs. search rules) returns (λ c κs. search rules)
    add-next-2 next-requires-2 loop-less loop-again returns-2)
