-- Tokens stored in place: the front of a list grows, and from a place on it still has what it had.
use Rattle.std.specs.Prelude.{◌≡◌, refl, List, [], ◌∷◌, ◌++◌, ℕ, ◌+◌, ◌<◌, ◌≤◌, length, drop, get_or, set}
use Rattle.std.proofs.Common.{◌∙◌, subst, arith, get_or-set_other}
use Rattle.tape.specs.Row.{row_of, Lists, Ahead}
use Rattle.tape.specs.Listing.{pushed, rest-next}

-- a token stored after the last at the front
pub stored : (tokens : List ℕ) (n t : ℕ) → n < length tokens → (l : List ℕ) → Lists (row_of tokens n) l → Lists (row_of (set tokens n t) (n + 1)) (l ++ (t ∷ []))
stored tokens n t h = pushed (row_of tokens n) (row_of (set tokens n t) (n + 1)) t h refl refl

-- the same, where what is stored is known by another name
pub stored-as : (tokens : List ℕ) (n t u : ℕ) → t ≡ u → n < length tokens → (l : List ℕ) → Lists (row_of tokens n) l → Lists (row_of (set tokens n t) (n + 1)) (l ++ (u ∷ []))
stored-as tokens n t u e h l w = subst (λ (x : ℕ). Lists (row_of (set tokens n t) (n + 1)) (l ++ (x ∷ []))) e (stored tokens n t h l w)

-- the same tokens by an equal count
pub counted : {tokens l : List ℕ} {n k : ℕ} → Lists (row_of tokens n) l → n ≡ k → Lists (row_of tokens k) l
counted w e = rw e at w

-- ---- what lies ahead

pub ahead-start : (tokens : List ℕ) (i : ℕ) → Ahead tokens tokens i
ahead-start tokens i = record { is = λ j h. refl }

pub ahead-later : {tokens before : List ℕ} {i : ℕ} (k : ℕ) → Ahead tokens before i → i ≤ k → Ahead tokens before k
ahead-later k a h = record { is = λ j e. a.is j (omega arith) }

pub ahead-stored : {tokens before : List ℕ} {i : ℕ} (k t : ℕ) → Ahead tokens before i → k < i → Ahead (set tokens k t) before i
ahead-stored {tokens} k t a h = record { is = λ j e. get_or-set_other tokens k j t 0 (λ z. absurd (omega (arith, z))) ∙ a.is j e }

pub ahead-too : {tokens later before : List ℕ} {i : ℕ} → Ahead later tokens i → Ahead tokens before i → Ahead later before i
ahead-too b a = record { is = λ j e. b.is j e ∙ a.is j e }

-- the rest of a list from a place on, where nothing has changed there yet
pub rest-ahead : {tokens before l : List ℕ} {n i : ℕ} → Lists (row_of before n) l → i < length l → Ahead tokens before i → drop i l ≡ get_or tokens i 0 ∷ drop (i + 1) l
rest-ahead {tokens} {before} {l} {n} {i} w h a = rw (a.is i (omega arith)) (rest-next {row = row_of before n} {i = i} w h)
