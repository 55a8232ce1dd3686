-- Every element of a list has a property: what appending, storing and loading make of it.
-- And what is loaded from within a list is a member.
use Rattle.std.specs.Prelude.{List, [], ◌∷◌, ◌++◌, refl, ℕ, zero, suc, ◌<◌, length, get_or, set, replicate}
use mathlib.Core.List.Memᴰ.{head as here}
use mathlib.Core.List.Memᴰ.{tail as later}
use mathlib.Core.List.{Memᴰ as Member}
use Rattle.std.proofs.Common.{arith}

-- Every element has the property.
pub data Every {A : Type 0} (P : A → Type 0) : List A → Type 0 where
  every_none : Every P []
  every : {a : A} {l : List A} → P a → Every P l → Every P (a ∷ l)

module _ {A : Type 0} {P : A → Type 0} where
  -- Of two lists that have it, one behind the other has it.
  pub every_append : {l m : List A} → Every P l → Every P m → Every P (l ++ m)
  every_append every_none k = k
  every_append (every h hs) k = every h (every_append hs k)

  -- One element so many times has it, if that element does.
  pub every-replicate : (n : ℕ) (a : A) → P a → Every P (replicate n a)
  every-replicate zero a h = every_none
  every-replicate (suc n) a h = every h (every-replicate n a h)

  -- What has it may be stored anywhere.
  pub every_set : {l : List A} (i : ℕ) (a : A) → P a → Every P l → Every P (set l i a)
  every_set i a h every_none = every_none
  every_set zero a h (every k ks) = every h ks
  every_set (suc i) a h (every k ks) = every k (every_set i a h ks)

  -- What is loaded has it, if what is read past the end has.
  pub every-get_d : {l : List A} (i : ℕ) (d : A) → P d → Every P l → P (get_or l i d)
  every-get_d i d h every_none = h
  every-get_d zero d h (every k ks) = k
  every-get_d (suc i) d h (every k ks) = every-get_d i d h ks

  -- Every element has a wider property.
  pub every-wider : {Q : A → Type 0} → ((a : A) → P a → Q a) → {l : List A} → Every P l → Every Q l
  every-wider h every_none = every_none
  every-wider h (every {a} k ks) = every (h a k) (every-wider h ks)

-- What is loaded from within a list is a member.
pub loaded-member : {A : Type 0} (l : List A) (i : ℕ) (d : A) → i < length l → Member (get_or l i d) l
loaded-member [] i d h = absurd (omega arith)
loaded-member (a ∷ l) zero d h = here refl
loaded-member (a ∷ l) (suc i) d h = later (loaded-member l i d (omega arith))
