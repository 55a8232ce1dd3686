-- What is left out of a range spares the set: the sets allow no test there, or it fails, or no finding of it cuts the set.
use mathlib.Core.Path.{◌≡◌, refl, sym, ap, ap₂, ◌∙◌}
use mathlib.Core.Bool.{Bool, true, false, cond, ◌&&◌, ◌||◌}
use mathlib.Core.List.{List}
use Prim.Native.Nat.{ℕ, zero, suc, ◌-◌, ◌<◌, ◌≤◌}
use native.Mathlib.Omega.{arith}
use borrow.Author.Tests.{ltb-true, ltb-false, lt-ltb, le-ltb}
use lib.Dec.{ltb}
use lib.IntN.{ℤ}
use lib.Signed.{non_neg}
use mir.Syntax.{w32}
use mir.Val.{to_z, of_z}
use Rattle.rules.specs.Signs.{negative, positive, SignSet, kind, only, mirror, intersect, inside, open_signs}
use Rattle.rules.specs.Polynomial.{Board}
use Rattle.rules.specs.Deduce.{is_strict, found}
use Rattle.rules.specs.TwoAtoms.{non_positive, non_negative, never_positive, never_negative, pair_found, pair_mirrored, tried, try, factors, with_each}
use Rattle.rules.specs.TwoAtoms.{cut_by_all}
use Rattle.sign_laws.specs.Booleans.{and-false, never_both}
use Rattle.sign_laws.specs.Sets.{◌In◌, in-full, only_one, in-inside, in-mirror, in-intersect, PartOf, part-refl, part-trans, parts-equal}
use Rattle.sign_laws.specs.Sets.{intersect-first, intersect-below}
use Rattle.two_atoms.specs.declared.pair.Pair.{Pair}
use Rattle.two_atoms.specs.declared.range.Range.{Range}
use Rattle.two_atoms.specs.Cuts.{cut_in}
use Rattle.two_atoms.specs.Tries.{factor_at, SignedOn, try_of, CutByTry}
use Rattle.two_atoms.specs.Ranges.{barred, Outside, under, over, total_at, Indices, Narrowed, allows, half, Halves, Allowed, uncut_in, found_in}
use Rattle.two_atoms.specs.Ranges.{Spares, CutFrom, CutAt}
use Rattle.two_atoms.proofs.Totals.{nothing-found, nothing-mirrored}
use Rattle.two_atoms.proofs.Tries.{cut-anyhow}
use Rattle.two_atoms.proofs.Factors.{turned-factor, factor-back, idle}
use Rattle.two_atoms.proofs.RangeWalks.{not-outside}

-- ---- which indices the sets allow

-- an index is in a range or outside it
inside-or-out : {X : Type 0} {from to : ℕ} (i : ℕ) → (from ≤ i → i < to → X) → (Outside from to i → X) → X
inside-or-out {X} {from} {to} i f g = by (ltb i from) refl
  where
    by_end : from ≤ i → (b : Bool) → ltb i to ≡ b → X
    by_end h true e = f h (ltb-true i to e)
    by_end h false e = g (over (ltb-false i to e))

    by : (b : Bool) → ltb i from ≡ b → X
    by true e = g (under (ltb-true i from e))
    by false e = by_end (ltb-false i from e) (ltb i to) refl

-- the sign of a factor, by its index
factor-sign : (i : ℕ) → i < 8 → (a b : Bool) → cond (non_neg (factor_at i)) a b ≡ half b a i
unfolding factors factor_at half
factor-sign zero h a b = refl
factor-sign (suc zero) h a b = refl
factor-sign (suc (suc zero)) h a b = refl
factor-sign (suc (suc (suc zero))) h a b = refl
factor-sign (suc (suc (suc (suc zero)))) h a b = refl
factor-sign (suc (suc (suc (suc (suc zero))))) h a b = refl
factor-sign (suc (suc (suc (suc (suc (suc zero)))))) h a b = refl
factor-sign (suc (suc (suc (suc (suc (suc (suc zero))))))) h a b = refl
factor-sign (suc (suc (suc (suc (suc (suc (suc (suc i)))))))) h a b = absurd (omega arith)

-- the halves that are not asked for
no-low : (high : Bool) {i : ℕ} → i < 4 → half false high i ≡ false
unfolding half
no-low high {i} h = rw (lt-ltb i 4 h)

no-high : (low : Bool) {i : ℕ} → 4 ≤ i → half low false i ≡ false
unfolding half
no-high low {i} h = rw (le-ltb i 4 h)

pub both_halves : {low high : Bool} → Halves low high (record { from = 0; to = 8 })
both_halves = record { indices = record { ordered = omega arith; low = omega arith }; never = λ i h o. not-outside (omega arith) h o }

pub low_half : {low : Bool} → Halves low false (record { from = 0; to = 4 })
low_half {low} = record { indices = record { ordered = omega arith; low = omega arith }; never = λ i h o. by o }
  where
    by : {i : ℕ} → Outside 0 4 i → half low false i ≡ false
    by (under l) = absurd (omega arith)
    by (over l) = no-high low l

pub high_half : {high : Bool} → Halves false high (record { from = 4; to = 8 })
high_half {high} = record { indices = record { ordered = omega arith; low = omega arith }; never = λ i h o. by h o }
  where
    by : {i : ℕ} → i < 8 → Outside 4 8 i → half false high i ≡ false
    by h (under l) = no-low high l
    by h (over l) = absurd (omega arith)

pub no-half : Halves false false (record { from = 4; to = 4 })
no-half = record { indices = record { ordered = omega arith; low = omega arith }; never = λ i h o. by o }
  where
    by : {i : ℕ} → Outside 4 4 i → half false false i ≡ false
    by (under l) = no-low false l
    by (over l) = no-high false l

module _ {set1 set2 : SignSet} {u : ℤ} {r : Range} where
  pub allowed-below : {low high : Bool} → low ≡ non_negative (kind set2) → high ≡ non_positive (kind set2) → Halves low high r
      → Allowed set1 set2 u false r
  unfolding allows never_positive
  allowed-below e f h = record {
    indices = h.indices;
    never = λ i l o. ap (never_positive u (kind set1) &&◌) (factor-sign i l _ _ ∙ sym (ap₂ (λ (x y : Bool). half x y i) e f) ∙ h.never i l o)
        ∙ and-false (never_positive u (kind set1));
  }

  pub allowed-above : {low high : Bool} → low ≡ non_positive (kind set2) → high ≡ non_negative (kind set2) → Halves low high r
      → Allowed set1 set2 u true r
  unfolding allows never_negative
  allowed-above e f h = record {
    indices = h.indices;
    never = λ i l o. ap (never_negative u (kind set1) &&◌) (factor-sign i l _ _ ∙ sym (ap₂ (λ (x y : Bool). half x y i) e f) ∙ h.never i l o)
        ∙ and-false (never_negative u (kind set1));
  }

  pub none_below : Indices r → never_positive u (kind set1) ≡ false → Allowed set1 set2 u false r
  unfolding allows
  none_below h e = record { indices = h; never = λ i l o. rw e }

  pub none_above : Indices r → never_negative u (kind set1) ≡ false → Allowed set1 set2 u true r
  unfolding allows
  none_above h e = record { indices = h; never = λ i l o. rw e }

pub no-indices : Indices (record { from = 4; to = 4 })
no-indices = record { ordered = omega arith; low = omega arith }

-- ---- what a test finds

-- > is a part of what it finds, < of what the mirrored one finds
found-positive : (a b : Bool) → positive In found a b
unfolding found open_signs
found-positive true b = record { is = refl }
found-positive false true = record { is = refl }
found-positive false false = record { is = refl }

mirrored-positive : {s : SignSet} → positive In s → negative In mirror s
unfolding open_signs
mirrored-positive h = in-mirror h

uncut-found : (mirrored : Bool) (t : SignSet) (strict : Bool) → PartOf (uncut_in mirrored) (found_in mirrored t strict)
unfolding uncut_in found_in pair_found pair_mirrored only
uncut-found false t strict = record { each = λ x h. rw (only_one {y = positive} h) (found-positive _ _) }
uncut-found true t strict = record { each = λ x h. rw (only_one {y = negative} h) (mirrored-positive (found-positive _ _)) }

-- a set by terms with numbers that the test bars gives the full set
nothing-in : (mirrored : Bool) (t : SignSet) → barred mirrored In t → (strict : Bool) → found_in mirrored t strict ≡ 7
unfolding found_in barred
nothing-in false t h strict = nothing-found t h strict
nothing-in true t h strict = nothing-mirrored t h strict

module _ {cs : List ℤ} {ms : List ℕ} {ss : List SignSet} {x : Pair} {u : ℤ} {mirrored : Bool} {s : SignSet} where
  -- the whole range is left
  pub spares-none : Spares cs ms ss x u mirrored s (record { from = 0; to = 8 })
  spares-none = record {
    low = λ i h o. not-outside (omega arith) h o;
    on = λ a i h o e strict. not-outside (omega arith) h o;
  }

  -- no finding cuts the set
  pub spares-uncut : {r : Range} → s < 8 → inside s (uncut_in mirrored) ≡ true → Spares cs ms ss x u mirrored s r
  spares-uncut l e = record {
    low = λ i h o. l;
    on = λ a i h o f strict. part-trans (record { each = λ z k. in-inside s (uncut_in mirrored) e k }) (uncut-found mirrored _ strict);
  }

  -- the range that the sets allow was narrowed
  pub spares-narrowed : {range r : Range} → s < 8 → Allowed x.set1 x.set2 u mirrored range → Narrowed cs ms ss x u mirrored range r
      → Spares cs ms ss x u mirrored s r
  spares-narrowed {range} {r} l f g = record {
    low = λ i h o. l;
    on = λ {board} a i h o e strict. inside-or-out {from = range.from} {to = range.to} i
        (λ j k. rw (nothing-in mirrored (total_at board cs ms x u i) (g.fails a i j k o) strict) (record { each = λ z y. in-full z }))
        (λ k. never_both e (f.never i h k));
  }

-- ---- a try whose findings cut nothing

part_cut : {s f : SignSet} → s < 8 → PartOf s f → s ≡ intersect s f
part_cut {s} {f} h p = parts-equal h (intersect-below s f) (record { each = λ x k. in-intersect k (p.each x k) }) (intersect-first s f)

spared-tried : {s : SignSet} → s < 8 → (a b : Bool) (t : SignSet) (strict : Bool) → (a ≡ true → PartOf s (pair_found t strict))
    → (b ≡ true → PartOf s (pair_mirrored t strict))
    → s ≡ cut_by_all s (tried a b t strict)
unfolding tried cut_by_all
spared-tried h true true t strict f g = part_cut h (record { each = λ x k. in-intersect ((f refl).each x k) ((g refl).each x k) })
spared-tried h true false t strict f g = part_cut h (f refl)
spared-tried h false true t strict f g = part_cut h (g refl)
spared-tried h false false t strict f g = refl

-- outside both ranges the try leaves the set
pub spared : {cs : List ℤ} {ms : List ℕ} {ss : List SignSet} {x : Pair} {u : ℤ} {start s : SignSet} {below above : Range} (i : ℕ) → i < 8
    → Outside below.from below.to i → Outside above.from above.to i
    → Spares cs ms ss x u false start below → Spares cs ms ss x u true start above → CutFrom start s
    → {board : Board} → SignedOn board ms ss x → s ≡ cut_by_all s (try_of board cs ms x u (factor_at i))
unfolding try allows found_in
spared {cs} {ms} {x = x} {u} {start} {s} i h b a f g k {board} o =
    spared-tried (k.low (f.low i h b)) _ _ _ _
    (λ e. part-trans k.part (rw (turned-factor i h) at (f.on o i h b e strict)))
    (λ e. part-trans k.part (rw (turned-factor i h) at (g.on o i h a e strict)))
  where
    strict : Bool
    strict = is_strict (kind x.set1) || is_strict (kind x.set2)

-- ---- the tries with one u

module _ {cs : List ℤ} {ms : List ℕ} {ss : List SignSet} {x : Pair} {u : ℤ} {below above : Range} (i : ℕ) where
  pub at_tried : {v w : ℤ} {s r : SignSet} → i < 8 → v ≡ factor_at i → w ≡ factor_at (7 - i)
      → CutByTry cs ms ss x u (to_z w32 (of_z w32 v)) (to_z w32 (of_z w32 w)) s r
      → CutAt cs ms ss x u i below above s r
  at_tried h e f t = record { on = λ o b a k. (rw (factor-back i e, factor-back (7 - i) f) at t).on o (turned-factor i h) }

  pub at-spared : {s : SignSet} → i < 8 → Outside below.from below.to i → Outside above.from above.to i
      → CutAt cs ms ss x u i below above s s
  at-spared h b a = record { on = λ o f g k. spared i h b a f g k o }

module _ {cs : List ℤ} {ms : List ℕ} {ss : List SignSet} {x : Pair} {u : ℤ} {below above : Range} {start : SignSet} (all : Bool)
    (f : Spares cs ms ss x u false start below) (g : Spares cs ms ss x u true start above) where
  -- what the try at an index leaves
  pub v-tried : {s r : SignSet} (i : ℕ) → ((board : Board) → SignedOn board ms ss x → CutFrom start s) → CutAt cs ms ss x u i below above s r
      → (board : Board) → SignedOn board ms ss x → r ≡ cut_in all s (try_of board cs ms x u (factor_at i))
  v-tried {s} i k t board o = t.on o f g (k board o) ∙ cut-anyhow all s board cs ms x u (factor_at i)

  -- both ranges are empty: no try cuts the set
  pub all-spared : below.to ≤ below.from → above.to ≤ above.from
      → (board : Board) → SignedOn board ms ss x → start ≡ cut_in all start (with_each (try_of board cs ms x u) factors)
  all-spared b a = idle (λ (board : Board). try_of board cs ms x u) all (λ i h board o.
      spared i h (none_in i b) (none_in i a) f g (record { part = part-refl start; low = λ l. l }) o
      ∙ cut-anyhow all start board cs ms x u (factor_at i))
    where
      none_in : {from to : ℕ} (i : ℕ) → to ≤ from → Outside from to i
      none_in i h = inside-or-out i (λ j k. absurd (omega arith)) (λ o. o)
