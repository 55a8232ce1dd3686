-- Tokens with the places of their atoms, and the places that tokens tell. A token below 2 ^ 24 is an atom's, any other a node's.
use Rattle.std.specs.Prelude.{Bool, true, false, List, [], ◌∷◌, ◌++◌, ℕ, ◌+◌, ◌*◌, ◌/◌, ◌%◌, ltb, length, take, drop}

abbrev pub is_atom : ℕ → Bool
is_atom t = ltb t 16777216

-- An atom's token with the place k; a node's stays. Behind an atom the next place is one more.
unfoldable pub with_place : Bool → ℕ → ℕ → ℕ
with_place true k t = k * 512 + t % 512
with_place false k t = t

unfoldable pub next_place : Bool → ℕ → ℕ
next_place true k = k + 1
next_place false k = k

-- The tokens with the places from k on, and the place behind them.
unfoldable pub place_from : ℕ → List ℕ → List ℕ
place_from k [] = []
place_from k (t ∷ l) = with_place (is_atom t) k t ∷ place_from (next_place (is_atom t) k) l

unfoldable pub place_after : ℕ → List ℕ → ℕ
place_after k [] = k
place_after k (t ∷ l) = place_after (next_place (is_atom t) k) l

-- The first tokens of a tape.
abbrev pub placed_tokens : ℕ → List ℕ → List ℕ
placed_tokens count tape = place_from 0 (take count tape) ++ drop count tape

-- The places that tokens tell, each in a byte.
unfoldable pub told_if : Bool → ℕ → List ℕ → List ℕ
told_if true t l = (t / 512 % 256) ∷ l
told_if false t l = l

unfoldable pub place_bytes : List ℕ → List ℕ
place_bytes [] = []
place_bytes (t ∷ l) = told_if (is_atom t) t (place_bytes l)

-- The first bytes of a slice are the places, the others keep their values.
abbrev pub places_over : List ℕ → List ℕ → List ℕ
places_over tokens slice = place_bytes tokens ++ drop (length (place_bytes tokens)) slice
