-- Who takes each sign out of a set, atom by atom; and that without the atoms of a slot that alone takes none out the cut is the same.
use mathlib.Core.Path.{◌≡◌, refl, sym, ◌∙◌, ap, subst}
use mathlib.Core.Bool.{Bool, true, false, not, false≢true}
use mathlib.Core.Logic.{dite, ⊎_elim}
use mathlib.Core.List.{List, ◌∷◌}
use Prim.Native.Nat.{ℕ, zero, suc, ◌+◌, ◌-◌, ◌/◌, ◌%◌, ◌<◌, ◌≤◌}
use native.Mathlib.Decide.{ℕ_discrete}
use native.Mathlib.Omega.{arith}
use borrow.Author.Count.{below_more}
use borrow.Author.Tests.{eqb-true, eqb-false, eq-eqb, ne_eqb}
use lib.Dec.{eqb}
use Rattle.rules.specs.Signs.{Sign, SignSet, has, only, intersect}
use Rattle.rules.specs.Polynomial.{Polynomial, Atom, Board, variable}
use Rattle.rules.specs.Deduce.{deduce}
use Rattle.rules.specs.Rounds.{cut_by}
use Rattle.sign_laws.specs.Booleans.{both_ways}
use Rattle.sign_laws.specs.Sets.{◌In◌, PartOf, parts-equal, in-intersect, in_left, in_right}
use Rattle.ending_laws.specs.Cuts.{cut_by-part, cut_by-below, cut-floor}
use Rattle.table.specs.declared.Atoms.{Atoms}
use Rattle.table.specs.Table.{Table, form_at, atom_at, atoms_from, many}
use Rattle.round.specs.Signing.{atom_slot}
use Rattle.common_run.specs.declared.marks.BothMarks.{BothMarks}
use Rattle.common_run.specs.declared.takers.Takers.{Takers}
use Rattle.common_run.specs.Marks.{when_true, those_from, other_than}
use Rattle.common_run.specs.Takers.{taker_of, Taker, Taken, NeededMarked}
use Rattle.common_run.specs.Turning.{CutMarking}
use Rattle.common_run.proofs.Cutting.{one-cut, Cutting, cutting-all, cutting-marked}

-- ---- the signs that atoms of a list leave

abbrev any : ℕ → Bool
any k = true

module _ (board : Board) (p : Polynomial) (t : Table) (numbers : List ℕ) (sets : List SignSet) where
  abbrev found : ℕ → SignSet
  found m = deduce board p (atom_at t numbers sets m)

  abbrev left-of : (ℕ → Bool) → ℕ → ℕ → SignSet → SignSet
  left-of test i k s = cut_by board p (those_from test t numbers sets i k) s

  all-those : (i k : ℕ) → those_from any t numbers sets i k ≡ atoms_from t numbers sets i k
  unfolding those_from when_true atoms_from
  all-those i zero = refl
  all-those i (suc k) = ap (λ (l : List Atom). atom_at t numbers sets i ∷ l) (all-those (suc i) k)

  module _ (test : ℕ → Bool) {x : Sign} where
    -- a sign that is left is one of each finding
    in-found : (i k : ℕ) (s : SignSet) → x In left-of test i k s → (m : ℕ) → i ≤ m → m < i + k → test (atom_slot numbers m) ≡ true → x In found m
    unfolding those_from when_true cut_by
    in-found i zero s h m low high passes = absurd (omega arith)
    in-found i (suc k) s h m low high passes =
        either (test (atom_slot numbers i)) refl h
        (λ (r : SignSet) (g : x In left-of test (suc i) k r) (l : suc i ≤ m). in-found (suc i) k r g m l (omega arith) passes)
      where
        either : (b : Bool) → test (atom_slot numbers i) ≡ b
            → x In cut_by board p (when_true b (atom_at t numbers sets i) (those_from test t numbers sets (suc i) k)) s
            → ((r : SignSet) → x In left-of test (suc i) k r → suc i ≤ m → x In found m) → x In found m
        either true e g rest = dite (ℕ_discrete i m)
            (λ (q : i ≡ m). subst (λ (z : ℕ). x In found z) q
            (in_right s (found i) ((cut_by-part board p (those_from test t numbers sets (suc i) k) (intersect s (found i))).each x g)))
            (λ (q : i ≡ m → ⊥). rest (intersect s (found i)) g (omega arith))
        either false e g rest = dite (ℕ_discrete i m)
            (λ (q : i ≡ m). absurd (false≢true (sym e ∙ ap (λ (z : ℕ). test (atom_slot numbers z)) q ∙ passes)))
            (λ (q : i ≡ m → ⊥). rest s g (omega arith))

    -- and a sign of each finding is left
    is-left : (i k : ℕ) (s : SignSet) → x In s → ((m : ℕ) → i ≤ m → m < i + k → test (atom_slot numbers m) ≡ true → x In found m)
        → x In left-of test i k s
    unfolding those_from when_true cut_by
    is-left i zero s h each = h
    is-left i (suc k) s h each =
        either (test (atom_slot numbers i)) refl
        (λ (r : SignSet) (g : x In r). is-left (suc i) k r g (λ m low high passes. each m (omega arith) (omega arith) passes))
      where
        either : (b : Bool) → test (atom_slot numbers i) ≡ b → ((r : SignSet) → x In r → x In left-of test (suc i) k r)
            → x In cut_by board p (when_true b (atom_at t numbers sets i) (those_from test t numbers sets (suc i) k)) s
        either true e rest = rest (intersect s (found i)) (in-intersect h (each i (omega arith) (omega arith) e))
        either false e rest = rest s h

  -- where all atoms leave a set as it is, so do those that pass a test
  pub those-leave : (test : ℕ → Bool) (n : ℕ) {s : SignSet} → s < 8 → cut_by board p (atoms_from t numbers sets 0 n) s ≡ s
      → cut_by board p (those_from test t numbers sets 0 n) s ≡ s
  those-leave test n {s} small e = cut-floor board p (those_from test t numbers sets 0 n) s small (record {
    each = λ x h. is-left test 0 n s h (λ m least most passes. in-found any 0 n s
        (subst (λ (r : SignSet). x In r) (sym (ap (λ (l : List Atom). cut_by board p l s) (all-those 0 n) ∙ e)) h) m least most refl);
  })

-- ---- who takes a sign out

-- an atom before place j takes it out that is not of slot x
pub record TakenApart (board : Board) (p : Polynomial) (t : Table) (numbers : List ℕ) (sets : List SignSet) (j : ℕ) (s : Sign) (x : ℕ) : Type 0 where
  pub place : ℕ
  pub before : place < j
  pub apart : atom_slot numbers place ≡ x → ⊥
  pub takes : s In deduce board p (atom_at t numbers sets place) → ⊥

-- of the first j atoms
pub record Taking (board : Board) (p : Polynomial) (t : Table) (numbers : List ℕ) (sets : List SignSet) (old : SignSet) (j : ℕ) (s : Sign)
    (by : ℕ) : Type 0 where
  pub none : by ≡ 0 → s In old → (m : ℕ) → m < j → s In deduce board p (atom_at t numbers sets m)
  pub other : (by ≡ 0 → ⊥) → (x : ℕ) → x < 64 → (by ≡ suc x → ⊥) → TakenApart board p t numbers sets j s x

-- the sign's bit tells whether it is there
same_sign : (s : Sign) (a b : SignSet) → a / only s % 2 ≡ b / only s % 2 → has s a ≡ has s b
unfolding has
same_sign s a b e = ap (λ (n : ℕ). eqb n 1) e

same_bits : (m n : ℕ) → m < 2 → n < 2 → eqb m 1 ≡ eqb n 1 → m ≡ n
same_bits m n h k e = dite (ℕ_discrete m 1)
    (λ (one : m ≡ 1). one ∙ sym (eqb-true n 1 (sym e ∙ eq-eqb m 1 one)))
    (λ (none : m ≡ 1 → ⊥). let other : n ≡ 1 → ⊥ = eqb-false n 1 (sym e ∙ ne_eqb m 1 none) in omega arith)

same_bit : (s : Sign) (a b : SignSet) → has s a ≡ has s b → a / only s % 2 ≡ b / only s % 2
unfolding has
same_bit s a b e = same_bits (a / only s % 2) (b / only s % 2) (omega arith) (omega arith) e

module _ {board : Board} {p : Polynomial} {t : Table} {numbers : List ℕ} {sets : List SignSet} where
  taken-later : {j : ℕ} {s : Sign} {x : ℕ} → TakenApart board p t numbers sets j s x → TakenApart board p t numbers sets (j + 1) s x
  taken-later a = record { place = a.place; before = omega (arith, a.before); apart = a.apart; takes = a.takes }

module _ {board : Board} {p : Polynomial} {t : Table} {numbers : List ℕ} {sets : List SignSet} {old : SignSet} where
  taking-first : (s : Sign) {by : ℕ} → by ≡ 0 → Taking board p t numbers sets old 0 s by
  taking-first s e = record { none = λ z h m l. absurd (omega arith); other = λ some. absurd (some e) }

  taking-next : {j : ℕ} {s : Sign} {by r cut : ℕ} → Taking board p t numbers sets old j s by
      → cut ≡ intersect old (deduce board p (atom_at t numbers sets j))
      → Taker by (old / only s % 2) (cut / only s % 2) (atom_slot numbers j) r → Taking board p t numbers sets old (j + 1) s r
  taking-next {j} {s} {by} {r} {cut} f e m = dite (ℕ_discrete (old / only s % 2) (cut / only s % 2)) same differs
    where
      found : SignSet
      found = deduce board p (atom_at t numbers sets j)

      same : old / only s % 2 ≡ cut / only s % 2 → Taking board p t numbers sets old (j + 1) s r
      same q = record {
        none = λ z h. below_more (λ (k : ℕ). s In deduce board p (atom_at t numbers sets k)) j
            (λ (k : ℕ) (l : k < j). f.none (sym (m.same q) ∙ z) h k l)
            (in_right old found (record { is = ap (has s) (sym e) ∙ sym (same_sign s old cut q) ∙ h.is }));
        other = λ some x low sole. taken-later (f.other (λ z. some (m.same q ∙ z)) x low (λ z. sole (m.same q ∙ z)));
      }

      -- the atom at hand takes it out
      takes : (old / only s % 2 ≡ cut / only s % 2 → ⊥) → s In found → ⊥
      takes q h = q (same_bit s old cut (both_ways (has s old) (has s cut)
          (λ k. ap (has s) e ∙ (in-intersect {a = old} (record { is = k }) h).is)
          (λ k. (in_left old found (record { is = ap (has s) (sym e) ∙ k })).is)))

      differs : (old / only s % 2 ≡ cut / only s % 2 → ⊥) → Taking board p t numbers sets old (j + 1) s r
      differs q = record {
        none = λ z. absurd (m.some q z);
        other = λ some x low sole. ⊎_elim
            (λ (a : atom_slot numbers j ≡ x → ⊥). record { place = j; before = omega arith; apart = a; takes = takes q })
            (λ (b : (by ≡ 0 → ⊥) × (by ≡ suc x → ⊥)). taken-later (f.other b.0 x low b.1))
            (m.other q x low sole);
      }

-- ---- without the atoms of a slot

is-other : (x j : ℕ) → (j ≡ x → ⊥) → other_than x j ≡ true
unfolding other_than
is-other x j h = ap not (ne_eqb j x h)

pub not-other : (x : ℕ) → other_than x x ≡ false
unfolding other_than
not-other x = ap not (eq-eqb x x refl)

module _ {board : Board} {p : Polynomial} {t : Table} {numbers : List ℕ} {sets : List SignSet} {old : SignSet} (n : ℕ) (takers : Takers)
    (taking : (s : Sign) → Taking board p t numbers sets old n s (taker_of takers s)) (x : ℕ) (low : x < 64)
    (sole : (s : Sign) → taker_of takers s ≡ suc x → ⊥) where
  abbrev apart : SignSet
  apart = left-of board p t numbers sets (other_than x) 0 n old

  abbrev whole : SignSet
  whole = left-of board p t numbers sets any 0 n old

  no_more : PartOf apart whole
  no_more = record {
    each = λ s h. dite (ℕ_discrete (taker_of takers s) 0)
        (λ (z : taker_of takers s ≡ 0).
        let own = (cut_by-part board p (those_from (other_than x) t numbers sets 0 n) old).each s h in
        is-left board p t numbers sets any 0 n old own (λ m least most passes. (taking s).none z own m (omega arith)))
        (λ (z : taker_of takers s ≡ 0 → ⊥).
        let taken = (taking s).other z x low (sole s) in
        absurd (taken.takes (in-found board p t numbers sets (other_than x) 0 n old h taken.place (omega arith) (omega (arith, taken.before))
        (is-other x (atom_slot numbers taken.place) taken.apart))));
  }

  no-fewer : PartOf whole apart
  no-fewer = record {
    each = λ s h. is-left board p t numbers sets (other_than x) 0 n old ((cut_by-part board p (those_from any t numbers sets 0 n) old).each s h)
        (λ m least most passes. in-found board p t numbers sets any 0 n old h m least most refl);
  }

  spared : old < 8 → apart ≡ cut_by board p (atoms_from t numbers sets 0 n) old
  spared h =
      parts-equal (cut_by-below board p (those_from (other_than x) t numbers sets 0 n) old h) (cut_by-below board p (those_from any t numbers sets 0 n) old h)
      no_more no-fewer
      ∙ ap (λ (l : List Atom). cut_by board p l old) (all-those board p t numbers sets 0 n)

-- ---- all signs, atom by atom

pub record Takings (t : Table) (a : Atoms) (board : Board) (p : Polynomial) (old : SignSet) (j : ℕ) (takers : Takers) : Type 0 where
  pub each : (s : Sign) → Taking board p t a.number a.set old j s (taker_of takers s)

pub takings-first : (t : Table) (a : Atoms) (board : Board) (p : Polynomial) (old : SignSet) (takers : Takers) → ((s : Sign) → taker_of takers s ≡ 0)
    → Takings t a board p old 0 takers
takings-first t a board p old takers none = record { each = λ s. taking-first s (none s) }

pub takings-next : {t : Table} {a : Atoms} {board : Board} {p : Polynomial} {old : SignSet} {j : ℕ} {takers r : Takers} {cut : SignSet}
    → Takings t a board p old j takers → cut ≡ cut_by board p (atoms_from t a.number a.set j ((j + 1) - j)) old
    → Taken takers old cut (atom_slot a.number j) r → Takings t a board p old (j + 1) r
takings-next {t} {a} {board} {p} {old} {j} f e m =
    record { each = λ s. taking-next (f.each s) (e ∙ one-cut t a.number a.set board p j old) (m.each s) }

-- variable i's cut with its marks
pub cut-marked : {t : Table} {a : Atoms} {board : Board} {i : ℕ} {old : SignSet} {round : ℕ} (marks : BothMarks) {n j : ℕ} {sofar : SignSet}
    {resting needed : List ℕ} {takers : Takers}
    → form_at t (64 + i) ≡ variable t.variables i → n ≡ many a.count
    → Cutting t a board (form_at t (64 + i)) old round marks.resting.first n j sofar resting
    → Takings t a board (form_at t (64 + i)) old j takers → NeededMarked marks.needed.first takers round needed → n ≤ j → j ≤ n
    → CutMarking t a board i old round marks sofar (record { resting = record { first = resting }; needed = record { first = needed } })
cut-marked {t} {a} {board} {i} {old} marks {n} {j} {takers = takers} v e c f m h most =
    let p = form_at t (64 + i) in
    let last : j ≡ n = omega arith in
    let all = subst (λ (k : ℕ). Takings t a board p old k takers) last f in
    record {
      set = rw (v, e) at (cutting-all c h);
      grows = record { resting = c.grows; needed = m.grows };
      rests = λ later g. rw (v, e) at (cutting-marked c h later g);
      spared = λ small k low unmarked. rw (v, e) at
          (spared n takers all.each k low (λ s q. false≢true (sym unmarked ∙ m.here s k low q)) small ∙ sym (cutting-all c h));
    }
