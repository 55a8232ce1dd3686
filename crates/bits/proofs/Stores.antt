-- Laws of `sets`, a run of values stored in a list: two runs one after the other, a run in one part of several.
-- They hold for a list of any kind.
use mathlib.Core.Path.{◌≡◌, refl, sym, ap, ◌∙◌}
use mathlib.Core.List.{List, [], ◌∷◌, ◌++◌, append_assoc, append-nil}
use Prim.Native.Nat.{ℕ, suc, ◌+◌, ◌≤◌}
use native.Mathlib.Nat.{add-zero, zero-add}
use native.Mathlib.Omega.{arith}
use lib.ListN.{length, set, take, drop, length-append, length-set, drop_of_length-le}
use lib.Seq.{sets, set-append_left, sets-eq, length-take-le}

module _ {A : Type 0} where
  -- Two runs, the second behind the first, are one run.
  pub sets-append : (l : List A) (i : ℕ) (xs ys : List A) → sets l i (xs ++ ys) ≡ sets (sets l i xs) (i + length xs) ys
  sets-append l i [] ys = rw add-zero
  sets-append l i (x ∷ xs) ys =
      let e : i + suc (length xs) ≡ suc i + length xs = omega arith in
      rw e (sets-append (set l i x) (suc i) xs ys)

  -- A run that ends in the first of two parts leaves the second alone.
  pub sets_first : (p q : List A) (i : ℕ) (xs : List A) → i + length xs ≤ length p → sets (p ++ q) i xs ≡ sets p i xs ++ q
  sets_first p q i [] h = refl
  sets_first p q i (x ∷ xs) h =
      let l : suc i ≤ length p = omega arith in
      let h' : suc i + length xs ≤ length (set p i x) = rw length-set (omega arith) in
      rw (set-append_left p q i x l) (sets_first (set p i x) q (suc i) xs h')

  set-second : (p q : List A) (i : ℕ) (x : A) → set (p ++ q) (length p + i) x ≡ p ++ set q i x
  set-second [] q i x = let e : 0 + i ≡ i = omega arith in rw e
  set-second (y ∷ p) q i x = let e : suc (length p) + i ≡ suc (length p + i) = omega arith in rw e (ap (λ (l : List A). y ∷ l) (set-second p q i x))

  -- A run that begins in the second of two parts leaves the first alone.
  pub sets-second : (p q : List A) (i : ℕ) (xs : List A) → sets (p ++ q) (length p + i) xs ≡ p ++ sets q i xs
  sets-second p q i [] = refl
  sets-second p q i (x ∷ xs) =
      let e : suc (length p + i) ≡ length p + suc i = omega arith in
      rw (set-second p q i x, e) (sets-second p (set q i x) (suc i) xs)

  -- A run as long as the list takes its place.
  pub sets-whole : (l xs : List A) → length xs ≡ length l → sets l 0 xs ≡ xs
  sets-whole l xs h =
      let le : 0 + length xs ≤ length l = omega arith in
      let past : length l ≤ 0 + length xs = omega arith in
      let e : drop (0 + length xs) l ≡ [] = drop_of_length-le l past in
      sets-eq xs l 0 le ∙ rw (e, append-nil xs)

  -- A run of its own length in the middle of three parts takes that part's place.
  pub sets-middle : (p q r xs : List A) (i : ℕ) → length p ≡ i → length xs ≡ length q → sets (p ++ (q ++ r)) i xs ≡ p ++ (xs ++ r)
  sets-middle p q r xs i e h =
      let z : i ≡ length p + 0 = omega arith in
      let le : 0 + length xs ≤ length q = omega arith in
      rw (z, sets-second p (q ++ r) 0 xs, sets_first q r 0 xs le, sets-whole q xs h)

  -- A run stored at the front after the run behind it: the two are one run at the front.
  pub sets-front : (l xs ys : List A) → length xs + length ys ≤ length l → sets (sets l (length xs) ys) 0 xs ≡ sets l 0 (xs ++ ys)
  sets-front l xs ys h =
      let n = length xs in
      let fits : 0 + length (xs ++ ys) ≤ length l = rw length-append (omega arith) in
      let lt : length (take n l) ≡ n = length-take-le n l (omega arith) in
      let low : 0 + length xs ≤ length (take n l) = omega arith in
      rw (
        sets-eq ys l n h,
        append_assoc (take n l) ys (drop (n + length ys) l),
        sets_first (take n l) (ys ++ drop (n + length ys) l) 0 xs low,
        sets-whole (take n l) xs (sym lt),
        sets-eq (xs ++ ys) l 0 fits,
        zero-add,
        length-append xs ys,
      )
      (sym (append_assoc xs ys (drop (n + length ys) l)))
