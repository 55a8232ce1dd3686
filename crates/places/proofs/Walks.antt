-- The two loops: of the tokens passed, those of atoms have their places, or have told them; what is left of the array is as it was.
use mathlib.Core.Path.{◌≡◌, refl, sym, ap, ap₂, ◌∙◌}
use mathlib.Core.Bool.{Bool, true, false}
use mathlib.Core.List.{List, [], ◌∷◌, ◌++◌, append-nil}
use Prim.Native.Nat.{ℕ, suc, ◌+◌, ◌*◌, ◌/◌, ◌%◌, ◌<◌, ◌≤◌}
use native.Mathlib.Numerals.{add-one}
use native.Mathlib.Omega.{arith}
use lib.ListN.{length, get_or, set, take, drop, length-append, length-set}
use lib.Seq.{take-suc, drop-cons, append_snoc, get_or-append_seam, set-append_seam, length-take-le}
use borrow.Author.Tests.{lt-ltb, le-ltb}
use Rattle.std.proofs.lemmas.List.{take_all, drop_all}
use Rattle.places.specs.Places.{is_atom, with_place, next_place, place_from, place_after, told_if, place_bytes, places_over}

-- ---- one token more

from-snoc : (k : ℕ) (l : List ℕ) (t : ℕ) → place_from k (l ++ (t ∷ [])) ≡ place_from k l ++ (with_place (is_atom t) (place_after k l) t ∷ [])
unfolding place_from place_after
from-snoc k [] t = refl
from-snoc k (x ∷ l) t = ap (λ (m : List ℕ). with_place (is_atom x) k x ∷ m) (from-snoc (next_place (is_atom x) k) l t)

after-snoc : (k : ℕ) (l : List ℕ) (t : ℕ) → place_after k (l ++ (t ∷ [])) ≡ next_place (is_atom t) (place_after k l)
unfolding place_after
after-snoc k [] t = refl
after-snoc k (x ∷ l) t = after-snoc (next_place (is_atom x) k) l t

from-length : (k : ℕ) (l : List ℕ) → length (place_from k l) ≡ length l
unfolding place_from
from-length k [] = refl
from-length k (x ∷ l) = ap suc (from-length (next_place (is_atom x) k) l)

told-append : (b : Bool) (t : ℕ) (l m : List ℕ) → told_if b t (l ++ m) ≡ told_if b t l ++ m
unfolding told_if
told-append true t l m = refl
told-append false t l m = refl

bytes-snoc : (l : List ℕ) (t : ℕ) → place_bytes (l ++ (t ∷ [])) ≡ place_bytes l ++ told_if (is_atom t) t []
unfolding place_bytes
bytes-snoc [] t = refl
bytes-snoc (x ∷ l) t = ap (told_if (is_atom x) x) (bytes-snoc l t) ∙ told-append (is_atom x) x (place_bytes l) (told_if (is_atom t) t [])

-- ---- a store where two parts of an array meet

seam-read : (front rest : List ℕ) (x i : ℕ) → length front ≡ i → get_or (front ++ (x ∷ rest)) i 0 ≡ x
seam-read front rest x i e = rw (← e) (get_or-append_seam front x rest 0)

seam-stored : (front rest : List ℕ) (x v i : ℕ) → length front ≡ i → set (front ++ (x ∷ rest)) i v ≡ (front ++ (v ∷ [])) ++ rest
seam-stored front rest x v i e = rw (← e) (set-append_seam front x rest v ∙ sym (append_snoc front v rest))

-- ---- places given

pub record Giving (before : List ℕ) (token : List ℕ) (i place : ℕ) : Type 0 where
  pub is : token ≡ place_from 0 (take i before) ++ drop i before
  pub places : place ≡ place_after 0 (take i before)
  pub small : place ≤ i
  pub same : length token ≡ length before

pub giving-first : (before : List ℕ) → Giving before before 0 0
unfolding place_from place_after
giving-first before = record { is = refl; places = refl; small = omega arith; same = refl }

module _ {before token : List ℕ} {i place : ℕ} (g : Giving before token i place) (low : i < length before) where
  abbrev x : ℕ
  x = get_or before i 0

  front_long : length (place_from 0 (take i before)) ≡ i
  front_long = from-length 0 (take i before) ∙ length-take-le i before (omega arith)

  split : token ≡ place_from 0 (take i before) ++ (x ∷ drop (i + 1) before)
  split = g.is ∙ ap (λ (l : List ℕ). place_from 0 (take i before) ++ l) (rw (← add-one i) at (drop-cons before i 0 low))

  here : get_or token i 0 ≡ x
  here = ap (λ (l : List ℕ). get_or l i 0) split ∙ seam-read (place_from 0 (take i before)) (drop (i + 1) before) x i front_long

  one-more : take (i + 1) before ≡ take i before ++ (x ∷ [])
  one-more = rw (add-one i) (take-suc before i 0 low)

  next : (b : Bool) → is_atom x ≡ b → (token' : List ℕ) → token' ≡ (place_from 0 (take i before) ++ (with_place b place x ∷ [])) ++ drop (i + 1) before
      → length token' ≡ length token → next_place b place ≤ i + 1 → Giving before token' (i + 1) (next_place b place)
  next b e token' stored long small = record {
    is = stored ∙ ap (λ (l : List ℕ). l ++ drop (i + 1) before)
        (ap₂ (λ (c : Bool) (k : ℕ). place_from 0 (take i before) ++ (with_place c k x ∷ [])) (sym e) g.places
        ∙ sym (from-snoc 0 (take i before) x) ∙ ap (place_from 0) (sym one-more));
    places = ap₂ next_place (sym e) g.places ∙ sym (after-snoc 0 (take i before) x) ∙ ap (place_after 0) (sym one-more);
    small = small;
    same = long ∙ g.same;
  }

  pub giving-atom : get_or token i 0 < 16777216 → Giving before (set token i (place * 512 + get_or token i 0 % 512)) (i + 1) (place + 1)
  unfolding with_place next_place
  giving-atom h =
      let stored : set token i (place * 512 + get_or token i 0 % 512) ≡ (place_from 0 (take i before) ++ ((place * 512 + x % 512) ∷ [])) ++ drop (i + 1) before
      = ap₂ (λ (l : List ℕ) (t : ℕ). set l i (place * 512 + t % 512)) split here
      ∙ seam-stored (place_from 0 (take i before)) (drop (i + 1) before) x (place * 512 + x % 512) i front_long in
      next true (lt-ltb x 16777216 (rw here at h)) (set token i (place * 512 + get_or token i 0 % 512)) stored (length-set token i _) (omega (arith, g.small))

  pub giving-node : 16777216 ≤ get_or token i 0 → Giving before token (i + 1) place
  unfolding with_place next_place
  giving-node h =
      next false (le-ltb x 16777216 (rw here at h)) token (split ∙ sym (append_snoc (place_from 0 (take i before)) x (drop (i + 1) before))) refl (omega (arith, g.small))

-- All places given.
pub given-all : {before token : List ℕ} {i place : ℕ} → Giving before token i place → length before ≤ i → token ≡ place_from 0 before
given-all {before} {token} {i} g h = g.is ∙ rw (take_all i before h, drop_all i before h) (append-nil (place_from 0 before))

-- ---- places told

pub record Telling (tokens before places : List ℕ) (i told : ℕ) : Type 0 where
  pub is : places ≡ places_over (take i tokens) before
  pub many : told ≡ length (place_bytes (take i tokens))
  pub small : told ≤ i
  pub same : length places ≡ length before

pub telling-first : (tokens before : List ℕ) → Telling tokens before before 0 0
unfolding place_bytes
telling-first tokens before = record { is = refl; many = refl; small = omega arith; same = refl }

module _ {tokens before places : List ℕ} {i told : ℕ} (g : Telling tokens before places i told) (low : i < length tokens) where
  abbrev t : ℕ
  t = get_or tokens i 0

  bytes-more : place_bytes (take (i + 1) tokens) ≡ place_bytes (take i tokens) ++ told_if (is_atom t) t []
  bytes-more = rw (add-one i) (ap place_bytes (take-suc tokens i 0 low) ∙ bytes-snoc (take i tokens) t)

  pub telling-atom : told < length before → t < 16777216 → Telling tokens before (set places told (t / 512 % 256)) (i + 1) (told + 1)
  unfolding told_if
  telling-atom room h =
      let bytes = place_bytes (take i tokens) in
      let v = t / 512 % 256 in
      let more : place_bytes (take (i + 1) tokens) ≡ bytes ++ (v ∷ []) = bytes-more ∙ ap (λ (b : Bool). bytes ++ told_if b t []) (lt-ltb t 16777216 h) in
      let long : length (bytes ++ (v ∷ [])) ≡ told + 1 = omega (arith, length-append bytes (v ∷ []), g.many) in
      let at : length bytes ≡ told = sym g.many in
      let split : places ≡ bytes ++ (get_or before told 0 ∷ drop (told + 1) before)
      = g.is ∙ ap (λ (k : ℕ). bytes ++ drop k before) at ∙ ap (λ (l : List ℕ). bytes ++ l) (rw (← add-one told) at (drop-cons before told 0 room)) in
      record {
        is = ap (λ (l : List ℕ). set l told v) split ∙ seam-stored bytes (drop (told + 1) before) (get_or before told 0) v told at
            ∙ ap (λ (k : ℕ). (bytes ++ (v ∷ [])) ++ drop k before) (sym long) ∙ ap (λ (l : List ℕ). l ++ drop (length l) before) (sym more);
        many = sym (ap length more ∙ long);
        small = omega (arith, g.small);
        same = length-set places told v ∙ g.same;
      }

  pub telling-node : 16777216 ≤ t → Telling tokens before places (i + 1) told
  unfolding told_if
  telling-node h =
      let more : place_bytes (take (i + 1) tokens) ≡ place_bytes (take i tokens)
      = bytes-more ∙ ap (λ (b : Bool). place_bytes (take i tokens) ++ told_if b t []) (le-ltb t 16777216 h) ∙ append-nil (place_bytes (take i tokens)) in
      record {
        is = g.is ∙ ap (λ (l : List ℕ). l ++ drop (length l) before) (sym more);
        many = g.many ∙ ap length (sym more);
        small = omega (arith, g.small);
        same = g.same;
      }

-- All places told.
pub told-all : {tokens before places : List ℕ} {i told : ℕ} → Telling tokens before places i told → length tokens ≤ i → places ≡ places_over tokens before
told-all {tokens} {before} {places} {i} g h = g.is ∙ ap (λ (l : List ℕ). places_over l before) (take_all i tokens h)
