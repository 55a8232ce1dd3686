-- Sets that are neither empty nor full, and that the rounds leave such sets: what they cut lies inside what was there, and a settled state has no empty set.
use Rattle.std.specs.Prelude.{◌≡◌, Bool, true, false, ◌||◌, ℕ, zero, suc, ◌+◌, ◌<◌, ◌≤◌, eqb, length, get_or, replicate}
use Rattle.std.proofs.Math.Path.{refl}
use Rattle.std.proofs.Common.{sym, ap, subst, ◌∙◌, arith, eq-eqb, get_or-set_same}
use Rattle.std.proofs.lemmas.Bool.{false≢true}
use mathlib.Core.List.{List, [], ◌∷◌, map}
use Rattle.std.proofs.Math.Option.{Option, none, some}
use Rattle.std.proofs.Math.Decide.{ℕ_discrete}
use Rattle.std.proofs.lemmas.List.{length-replicate}
use Rattle.rules.specs.Signs.{Sign, negative, nought, positive, SignSet, empty, full, complement, intersect, open_signs}
use Rattle.rules.specs.Polynomial.{Atom, Board, which}
use Rattle.rules.specs.Deduce.{any_empty}
use Rattle.rules.specs.Rounds.{State, Outcome, contradiction, settled, sets_of, has_empty, placed, placed_all, unless_variable, non_variable, start, run, carried_one, carried}
use Rattle.rules.specs.Level.{Placed, plain, plains, with_set, complemented, carry}
use Rattle.sign_laws.specs.Sets.{◌In◌, PartOf, part-trans, intersect-second, parts-equal}
use Rattle.sign_laws.specs.Lists.{Every, every_none, every}
use Rattle.ending_laws.specs.Cuts.{none-empty}
use Rattle.level_laws.specs.Narrower.{BoardWithin, placed_all-within, AtomsWithin, no_atoms, one-more, Narrower, Narrows, run-narrows}
use Rattle.ending_laws.specs.Rounds.{placed-length}
use Rattle.level_laws.specs.Same.{which-below}
use Rattle.removal_laws.specs.Settled.{Settled, run-settles}

-- A set of three bits that is neither empty nor full.
pub record Proper (s : SignSet) : Type 0 where
  pub some : 0 < s
  pub not_all : s < 7

-- Atoms with such sets.
pub record ProperAt (a : Placed) : Type 0 where
  pub proper : Proper a.set

abbrev pub AllProper : List Placed → Type 0
AllProper l = Every ProperAt l

-- ---- Sets.

pub complement-proper : (s : SignSet) → Proper s → Proper (complement s)
unfolding open_signs
complement-proper zero h = absurd (omega (arith, h.some))
complement-proper (suc zero) h = record { some = omega arith; not_all = omega arith }
complement-proper (suc (suc zero)) h = record { some = omega arith; not_all = omega arith }
complement-proper (suc (suc (suc zero))) h = record { some = omega arith; not_all = omega arith }
complement-proper (suc (suc (suc (suc zero)))) h = record { some = omega arith; not_all = omega arith }
complement-proper (suc (suc (suc (suc (suc zero))))) h = record { some = omega arith; not_all = omega arith }
complement-proper (suc (suc (suc (suc (suc (suc zero)))))) h = record { some = omega arith; not_all = omega arith }
complement-proper (suc (suc (suc (suc (suc (suc (suc s))))))) h = absurd (omega (arith, h.not_all))

in-full : (x : Sign) (s : SignSet) → s ≡ 7 → x In s
unfolding open_signs
in-full negative s e = rw e (record { is = refl })
in-full nought s e = rw e (record { is = refl })
in-full positive s e = rw e (record { is = refl })

-- A part of a proper set that is not empty is proper.
pub part-proper : {s t : SignSet} → Proper s → PartOf t s → t < 8 → (t ≡ 0 → ⊥) → Proper t
part-proper {s} {t} h part small filled = record { some = omega (arith, filled); not_all = by (ℕ_discrete t 7) }
  where
    by : Dec (t ≡ 7) → t < 7
    by (yes e) = absurd (omega (arith, e, h.not_all, parts-equal small (omega (arith, h.not_all)) part (record { each = λ x k. in-full x t e })))
    by (no e) = omega (arith, small, e)

-- ---- What the rounds leave.

-- A set of three bits with a sign.
pub record Filled (s : SignSet) : Type 0 where
  pub bits : s < 8
  pub some : s ≡ 0 → ⊥

none_filled : {l : List SignSet} → Every (λ (s : SignSet). s < 8) l → any_empty l ≡ false → Every Filled l
unfolding any_empty
none_filled every_none e = every_none
none_filled (every {a = s} {l = l} h hs) e = by (eqb s empty) refl e (none_filled hs)
  where
    by : (b : Bool) → eqb s empty ≡ b → b || any_empty l ≡ false → (any_empty l ≡ false → Every Filled l) → Every Filled (s ∷ l)
    by true w e later = absurd (false≢true (sym e))
    by false w e later = every (record { bits = h; some = λ z. false≢true (sym w ∙ eq-eqb s empty z) }) (later e)

-- Atoms with proper sets, as the rounds see them.
abbrev pub ProperSets : List Atom → Type 0
ProperSets l = Every (λ (a : Atom). Proper a.set) l

-- A variable's set on the board that its atom was placed on lies inside the atom's.
placed-set : (n : ℕ) (a : Atom) (i : ℕ) (board : Board) → length board ≡ n → which n a.polynomial ≡ some i
    → PartOf (get_or (placed (which n a.polynomial) a.set board) i full) a.set
unfolding placed
placed-set n a i board long w =
    rw (w, get_or-set_same board i (intersect (get_or board i full) a.set) full (omega (arith, long, which-below n a.polynomial i w)))
    (intersect-second (get_or board i full) a.set)

module _ (n : ℕ) where
  carried-proper : {l : List Atom} (cut : List Atom) (board bare : Board) → ProperSets l → length bare ≡ n → BoardWithin board (placed_all n l bare)
      → AtomsWithin cut (non_variable n l) → ((i : ℕ) → i < n → Filled (get_or board i full)) → Every (λ (a : Atom). Filled a.set) cut
      → ProperSets (carried n board l cut)
  unfolding carried carried_one non_variable unless_variable placed_all
  carried-proper cut board bare every_none long b c filled some-cut = every_none
  carried-proper cut board bare (every {a = a} {l = l} h hs) long b c filled some-cut =
      by-which (which n a.polynomial) refl cut c some-cut
      (λ rest inside k. carried-proper rest board (placed (which n a.polynomial) a.set bare) hs
      (placed-length (which n a.polynomial) a.set bare ∙ long) b inside filled k)
    where
      by-which : (o : Option ℕ) → which n a.polynomial ≡ o → (cut : List Atom) → AtomsWithin cut (unless_variable o a (non_variable n l))
          → Every (λ (a : Atom). Filled a.set) cut
          → ((rest : List Atom) → AtomsWithin rest (non_variable n l) → Every (λ (a : Atom). Filled a.set) rest → ProperSets (carried n board l rest))
          → ProperSets (carried_one o board a cut (λ (rest : List Atom). carried n board l rest))
      by-which (some i) w cut c k more =
          let then-placed : Board = placed (which n a.polynomial) a.set bare in
          let inside-atom : PartOf (get_or board i full) a.set =
          part-trans (b.at i) (part-trans ((placed_all-within n l then-placed).at i) (placed-set n a i bare long w)) in
          let own = filled i (which-below n a.polynomial i w) in
          every (part-proper h inside-atom own.bits own.some) (more cut c k)
      by-which none w cut (one-more p f t) (every k ks) more = every (part-proper h f k.bits k.some) (more _ t ks)

filled-list : (l : List Atom) → Every Filled (sets_of l) → Every (λ (a : Atom). Filled a.set) l
unfolding sets_of
filled-list [] h = every_none
filled-list (a ∷ l) (every h hs) = every h (filled-list l hs)

filled-atoms : {l : List Atom} → Every Filled (sets_of l) → Every (λ (a : Atom). Filled a.set) l
filled-atoms {l} h = filled-list l h

filled_at : {board : Board} (i : ℕ) → i < length board → Every Filled board → Filled (get_or board i full)
filled_at i h every_none = absurd (omega (arith, h))
filled_at zero h (every k ks) = k
filled_at (suc i) h (every k ks) = filled_at i (omega (arith, h)) ks

low-sets : {l : List Atom} → Every (λ (a : Atom). a.set < 8) l → Every (λ (s : SignSet). s < 8) (sets_of l)
unfolding sets_of
low-sets every_none = every_none
low-sets (every h hs) = every h (low-sets hs)

-- The atoms of a list with proper sets carry proper sets after its rounds.
pub run-proper : (n : ℕ) (l : List Atom) {st : State} → run n l ≡ settled st → ProperSets l → ProperSets (carried n st.board l st.atoms)
unfolding start
run-proper n l {st} e h =
    let settles : Settled n st = run-settles n l e in
    let narrower : Narrower st (start n l) = subst (λ (outcome : Outcome). Narrows outcome (start n l)) e (run-narrows n l) in
    let (board, atoms) = none-empty st settles.filled in
    let on-board = none_filled settles.low.board board in
    let cut = filled-atoms (none_filled (low-sets settles.low.atoms) atoms) in
    carried-proper n st.atoms st.board (replicate n full) h (length-replicate n full) narrower.boards narrower.lists
    (λ i inside. filled_at i (omega (arith, inside, settles.many)) on-board) cut

pub carry-proper : {l : List Placed} {cut : List Atom} → AllProper l → ProperSets cut → AllProper (carry l cut)
unfolding carry
carry-proper every_none ks = every_none
carry-proper (every h hs) every_none = every h hs
carry-proper (every h hs) (every k ks) = every (record { proper = k }) (carry-proper hs ks)

pub plain-sets : {l : List Placed} → AllProper l → ProperSets (plains l)
plain-sets every_none = every_none
plain-sets (every h hs) = every h.proper (plain-sets hs)
