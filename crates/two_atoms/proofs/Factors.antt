-- The walk over the factors: what the tries that are left leave of the set at hand is what all leave of the set.
use mathlib.Core.Path.{◌≡◌, refl, sym, ap, ◌∙◌}
use mathlib.Core.Bool.{Bool, true, false, not, ◌&&◌, ◌||◌}
use mathlib.Core.List.{List, [], ◌∷◌, ◌++◌}
use mathlib.Core.Option.{Option}
use borrow.Author.Tests.{eq-eqb}
use Prim.Native.Nat.{ℕ, zero, suc, ◌+◌, ◌-◌, ◌<◌, ◌≤◌}
use native.Mathlib.Numerals.{add-one}
use native.Mathlib.Omega.{arith}
use lib.Dec.{eqb, lit<}
use lib.IntN.{ℤ, pos, neg_ℤ}
use mir.Syntax.{w32}
use mir.Val.{SFits, to_z, of_z}
use Rattle.interval.specs.Coefficients.{back}
use Rattle.rules.specs.Signs.{SignSet, kind, intersect}
use Rattle.rules.specs.Polynomial.{Board}
use Rattle.rules.specs.TwoAtoms.{non_positive, non_negative, factors, with_each, cut_or, first_cut, cut_by_all}
use Rattle.sign_laws.specs.Booleans.{and-false}
use Rattle.sign_laws.specs.Sets.{PartOf, part-refl, part-trans, intersect-first, intersect-below}
use Rattle.two_atoms.specs.Cuts.{or_same, cut_in, stops, goes_on, stopped, no_cut}
use Rattle.two_atoms.specs.declared.pair.Pair.{Pair}
use Rattle.two_atoms.specs.Tries.{factor_at, SignedOn, try_of, CutByV, CutByPair}
use Rattle.two_atoms.specs.Ranges.{CutFrom}
use Rattle.two_atoms.proofs.Tries.{cut-anyhow, no-try}

-- what is left of a list from a place on
unfoldable pub after : ℕ → List ℤ → List ℤ
after zero l = l
after (suc i) [] = []
after (suc i) (x ∷ l) = after i l

next-factor : (i : ℕ) → i < 8 → after i factors ≡ factor_at i ∷ after (suc i) factors
unfolding after factors factor_at
next-factor zero h = refl
next-factor (suc zero) h = refl
next-factor (suc (suc zero)) h = refl
next-factor (suc (suc (suc zero))) h = refl
next-factor (suc (suc (suc (suc zero)))) h = refl
next-factor (suc (suc (suc (suc (suc zero))))) h = refl
next-factor (suc (suc (suc (suc (suc (suc zero)))))) h = refl
next-factor (suc (suc (suc (suc (suc (suc (suc zero))))))) h = refl
next-factor (suc (suc (suc (suc (suc (suc (suc (suc i)))))))) h = absurd (omega arith)

eight : {i : ℕ} → 8 ≤ i → i ≤ 8 → i ≡ 8
eight h k = omega arith

no-factor : (i : ℕ) → i ≡ 8 → after i factors ≡ []
unfolding after factors
no-factor i e = rw e

-- the last stands at each index that is none of the others'
pub last-factor : (i : ℕ) → ((((((Unit {0} × (i ≡ 0 → ⊥)) × (i ≡ 1 → ⊥)) × (i ≡ 2 → ⊥)) × (i ≡ 3 → ⊥)) × (i ≡ 4 → ⊥)) × (i ≡ 5 → ⊥)) × (i ≡ 6 → ⊥)
    → pos 4 ≡ factor_at i
unfolding factors factor_at
last-factor zero h = absurd (h.0.0.0.0.0.0.1 refl)
last-factor (suc zero) h = absurd (h.0.0.0.0.0.1 refl)
last-factor (suc (suc zero)) h = absurd (h.0.0.0.0.1 refl)
last-factor (suc (suc (suc zero))) h = absurd (h.0.0.0.1 refl)
last-factor (suc (suc (suc (suc zero)))) h = absurd (h.0.0.1 refl)
last-factor (suc (suc (suc (suc (suc zero))))) h = absurd (h.0.1 refl)
last-factor (suc (suc (suc (suc (suc (suc zero)))))) h = absurd (h.1 refl)
last-factor (suc (suc (suc (suc (suc (suc (suc zero))))))) h = refl
last-factor (suc (suc (suc (suc (suc (suc (suc (suc i)))))))) h = refl

-- they fit 32 bits
factor-fits : (i : ℕ) → SFits w32 (factor_at i)
unfolding factors factor_at
factor-fits zero = record { sfits = lit< tt }
factor-fits (suc zero) = record { sfits = lit< tt }
factor-fits (suc (suc zero)) = record { sfits = lit< tt }
factor-fits (suc (suc (suc zero))) = record { sfits = lit< tt }
factor-fits (suc (suc (suc (suc zero)))) = record { sfits = lit< tt }
factor-fits (suc (suc (suc (suc (suc zero))))) = record { sfits = lit< tt }
factor-fits (suc (suc (suc (suc (suc (suc zero)))))) = record { sfits = lit< tt }
factor-fits (suc (suc (suc (suc (suc (suc (suc zero))))))) = record { sfits = lit< tt }
factor-fits (suc (suc (suc (suc (suc (suc (suc (suc i)))))))) = record { sfits = lit< tt }

pub factor-back : {z : ℤ} (i : ℕ) → z ≡ factor_at i → to_z w32 (of_z w32 z) ≡ factor_at i
factor-back i e = ap (λ (z : ℤ). to_z w32 (of_z w32 z)) e ∙ back (factor-fits i)

-- the factor at the mirrored index is its negation
pub turned-factor : (i : ℕ) → i < 8 → neg_ℤ (factor_at (7 - i)) ≡ factor_at i
unfolding factors factor_at
turned-factor zero h = refl
turned-factor (suc zero) h = refl
turned-factor (suc (suc zero)) h = refl
turned-factor (suc (suc (suc zero))) h = refl
turned-factor (suc (suc (suc (suc zero)))) h = refl
turned-factor (suc (suc (suc (suc (suc zero))))) h = refl
turned-factor (suc (suc (suc (suc (suc (suc zero)))))) h = refl
turned-factor (suc (suc (suc (suc (suc (suc (suc zero))))))) h = refl
turned-factor (suc (suc (suc (suc (suc (suc (suc (suc i)))))))) h = absurd (omega arith)

-- what the tries with one u leave, from the bits of the factor
pub u-tried : {cs : List ℤ} {ms : List ℕ} {ss : List SignSet} {x : Pair} (all : Bool) {s r : SignSet} (i : ℕ) {u : ℤ} → u ≡ factor_at i
    → CutByV cs ms ss x (to_z w32 (of_z w32 u)) all s r
    → (board : Board) → SignedOn board ms ss x → r ≡ cut_in all s (with_each (try_of board cs ms x (factor_at i)) factors)
u-tried all i e t board a = (rw (factor-back i e) at t).on a

pub by-v : {cs : List ℤ} {ms : List ℕ} {ss : List SignSet} {x : Pair} {u : ℤ} (all : Bool) {s r : SignSet} → SFits w32 u
    → ((board : Board) → SignedOn board ms ss x → r ≡ cut_in all s (with_each (try_of board cs ms x (to_z w32 (of_z w32 u))) factors))
    → CutByV cs ms ss x u all s r
by-v {cs} {ms} {x = x} all {s} f h = record {
  on = λ {board} a. h board a
      ∙ ap (λ (z : ℤ). cut_in all s (with_each (try_of board cs ms x z) factors)) (back f);
}

-- ---- what a list of findings leaves is a part of the set

cut-part : (s : SignSet) (l : List SignSet) → PartOf (cut_by_all s l) s
unfolding cut_by_all
cut-part s [] = part-refl s
cut-part s (f ∷ l) = part-trans (cut-part (intersect s f) l) (intersect-first s f)

cut_low : (s : SignSet) (l : List SignSet) → s < 8 → cut_by_all s l < 8
unfolding cut_by_all
cut_low s [] h = h
cut_low s (f ∷ l) h = cut_low (intersect s f) l (intersect-below s f)

cut-first : (s f : SignSet) (d : Bool) (later : Option SignSet) → CutFrom s (or_same s later) → CutFrom s (or_same s (cut_or d (intersect s f) later))
unfolding cut_or or_same
cut-first s f true later h = h
cut-first s f false later h = record { part = intersect-first s f; low = λ l. intersect-below s f }

first-from : (s : SignSet) (l : List SignSet) → CutFrom s (or_same s (first_cut s l))
unfolding first_cut or_same
first-from s [] = record { part = part-refl s; low = λ l. l }
first-from s (f ∷ l) = cut-first s f (eqb (intersect s f) s) (first_cut s l) (first-from s l)

cut-from : (all : Bool) (s : SignSet) (l : List SignSet) → CutFrom s (cut_in all s l)
unfolding cut_in
cut-from true s l = record { part = cut-part s l; low = cut_low s l }
cut-from false s l = first-from s l

from_on : {a b c : SignSet} → CutFrom a b → CutFrom b c → CutFrom a c
from_on f g = record { part = part-trans g.part f.part; low = λ l. g.low (f.low l) }

-- a set that stays as it is ends no tries
pub never-stops : (all : Bool) (s : SignSet) → stops all s s ≡ false
unfolding stops
never-stops all s = rw (eq-eqb s s refl) (and-false (not all))

-- ---- the walk

-- the tries f of the factors, on the boards with H, have come to place i with s: what those that are left leave of it is what all leave of s₀
pub record FactorsWalked (H : Board → Type 0) (f : Board → ℤ → List SignSet) (all : Bool) (s₀ s : SignSet) (i : ℕ) : Type 0 where
  pub within : i ≤ 8
  pub from : {board : Board} → H board → CutFrom s₀ s
  pub rest : {board : Board} → H board → cut_in all s (with_each (f board) (after i factors)) ≡ cut_in all s₀ (with_each (f board) factors)

module _ {H : Board → Type 0} {f : Board → ℤ → List SignSet} {all : Bool} {s₀ s : SignSet} {i : ℕ} (w : FactorsWalked H f all s₀ s i) where
  part : i < 8 → {board : Board} → H board → cut_in all s (f board (factor_at i) ++ with_each (f board) (after (suc i) factors))
      ≡ cut_in all s₀ (with_each (f board) factors)
  unfolding with_each
  part h {board} a = sym (ap (λ (l : List ℤ). cut_in all s (with_each (f board) l)) (next-factor i h)) ∙ w.rest a

  pub walk-factors : i < 8 → {r : SignSet} → ((board : Board) → H board → r ≡ cut_in all s (f board (factor_at i))) → stops all r s ≡ false
      → FactorsWalked H f all s₀ r (i + 1)
  walk-factors h {r} e g = record {
    within = omega arith;
    from = λ {board} a. from_on (w.from a) (rw (e board a) (cut-from all s (f board (factor_at i))));
    rest = λ {board} a.
        ap (λ (n : ℕ). cut_in all r (with_each (f board) (after n factors))) (add-one i)
        ∙ ap (λ (x : SignSet). cut_in all x (with_each (f board) (after (suc i) factors))) (e board a)
        ∙ sym (goes_on all s (f board (factor_at i)) (with_each (f board) (after (suc i) factors))
        (ap (λ (x : SignSet). stops all x s) (sym (e board a)) ∙ g)) ∙ part h a;
  }

  pub stop-factors : i < 8 → {r : SignSet} → ((board : Board) → H board → r ≡ cut_in all s (f board (factor_at i))) → stops all r s ≡ true
      → (board : Board) → H board → r ≡ cut_in all s₀ (with_each (f board) factors)
  stop-factors h {r} e g board a =
      e board a ∙ sym (stopped all s (f board (factor_at i)) (with_each (f board) (after (suc i) factors))
      (ap (λ (x : SignSet). stops all x s) (sym (e board a)) ∙ g)) ∙ part h a

  pub end-factors : 8 ≤ i → (board : Board) → H board → s ≡ cut_in all s₀ (with_each (f board) factors)
  unfolding with_each
  end-factors h board a = no_cut all s ∙ sym (ap (λ (l : List ℤ). cut_in all s (with_each (f board) l)) (no-factor i (eight h w.within))) ∙ w.rest a

module _ {H : Board → Type 0} (f : Board → ℤ → List SignSet) (all : Bool) where
  pub begun : (s : SignSet) → FactorsWalked H f all s s 0
  unfolding after
  begun s = record { within = omega arith; from = λ a. record { part = part-refl s; low = λ l. l }; rest = λ a. refl }

  -- no try cuts the set
  pub idle : {s : SignSet} → ((i : ℕ) → i < 8 → (board : Board) → H board → s ≡ cut_in all s (f board (factor_at i)))
      → (board : Board) → H board → s ≡ cut_in all s (with_each (f board) factors)
  idle {s} e = end-factors (steps 8 (omega arith)) (omega arith)
    where
      steps : (n : ℕ) → n ≤ 8 → FactorsWalked H f all s s n
      steps zero h = begun s
      steps (suc n) h = rw (sym (add-one n)) (walk-factors (steps n (omega arith)) (omega arith) (e n (omega arith)) (never-stops all s))

-- the sets allow no test: there is no try of the pair
pub no-tries : {cs : List ℤ} {ms : List ℕ} {ss : List SignSet} {x : Pair} (all : Bool) {s : SignSet}
    → let k1 = kind x.set1 in let k2 = kind x.set2 in
    (non_positive k1 || non_negative k1) && (non_positive k2 || non_negative k2) ≡ false → CutByPair cs ms ss x all s s
no-tries {cs} {ms} {ss} {x} all {s} e = record {
  on = λ {board}. idle {H = λ (board : Board). SignedOn board ms ss x} (λ (board : Board) (u : ℤ). with_each (try_of board cs ms x u) factors) all
      (λ i h. idle (λ (board : Board). try_of board cs ms x (factor_at i)) all
      (λ j k board a. no-try x e board cs ms (factor_at i) (factor_at j) ∙ cut-anyhow all s board cs ms x (factor_at i) (factor_at j))) board;
}
