-- The signs of the monomials at a run of places, worked out once for a board, and the sign by terms that they give.
-- A slice of signs is `Signed` for a board where each place holds the sign of the monomial at that place.
use Rattle.std.specs.Prelude.{◌≡◌, refl, List, [], ◌∷◌, ℕ, zero, suc, ◌+◌, ◌-◌, ◌<◌, ◌≤◌, ℤ, pos, length, get_or, set}
use Rattle.std.proofs.Common.{◌∙◌, ⊎_elim, eq-or-lt_of_le, arith, length-set, get_or-set_same, get_or-set_other}
use Rattle.std.proofs.lemmas.List.Edits.{sets}
use Rattle.rules.specs.Signs.{SignSet, sign_of, only, sum, product}
use Rattle.rules.specs.Polynomial.{Board, monomial_sign, by_terms_from, by_terms}
use Rattle.terms.specs.View.{terms_from, terms_of}

-- the signs of the k monomials from place i on
unfoldable pub signs_from : Board → List ℕ → ℕ → ℕ → List SignSet
signs_from board ms i zero = []
signs_from board ms i (suc k) = monomial_sign board (get_or ms i 0) ∷ signs_from board ms (suc i) k

-- the signs, with those at the places from..to worked out for a board
abbrev pub signed : Board → List ℕ → List SignSet → ℕ → ℕ → List SignSet
signed board ms ss from to = sets ss from (signs_from board ms from (to - from))

-- 01, "Sign of a polynomial by terms", of the k terms from place i on, from the signs of their monomials
unfoldable pub by_signs_from : SignSet → List ℤ → List SignSet → ℕ → ℕ → SignSet
by_signs_from sofar cs ss i zero = sofar
by_signs_from sofar cs ss i (suc k) = by_signs_from (sum sofar (product (only (sign_of (get_or cs i (pos 0)))) (get_or ss i 0))) cs ss (suc i) k

abbrev pub by_signs : List ℤ → List SignSet → ℕ → ℕ → SignSet
by_signs cs ss from to = by_signs_from 2 cs ss from (to - from)

-- each place in from..to has the sign of its monomial
pub record Signed (board : Board) (ms : List ℕ) (ss : List SignSet) (from to : ℕ) : Type 0 where
  pub at : (i : ℕ) → from ≤ i → i < to → get_or ss i 0 ≡ monomial_sign board (get_or ms i 0)

-- the places from..to are a polynomial with its signs: they are places of all three slices, and the signs there are the board's
pub record Held (board : Board) (cs : List ℤ) (ms : List ℕ) (ss : List SignSet) (from to : ℕ) : Type 0 where
  pub ordered : from ≤ to
  pub coefficients : to ≤ length cs
  pub monomials : to ≤ length ms
  pub signs : to ≤ length ss
  pub signed : Signed board ms ss from to

-- ---- the signs after they are worked out

-- a run of stores keeps the places before it, and those past it
kept-before : (l : List ℕ) (i : ℕ) (vs : List ℕ) (j : ℕ) → j < i → get_or (sets l i vs) j 0 ≡ get_or l j 0
kept-before l i [] j h = refl
kept-before l i (v ∷ vs) j h = kept-before (set l i v) (suc i) vs j (omega arith) ∙ get_or-set_other l i j v 0 (λ e. omega arith)

kept-past : (l : List ℕ) (i : ℕ) (vs : List ℕ) (j : ℕ) → i + length vs ≤ j → get_or (sets l i vs) j 0 ≡ get_or l j 0
kept-past l i [] j h = refl
kept-past l i (v ∷ vs) j h = kept-past (set l i v) (suc i) vs j (omega arith) ∙ get_or-set_other l i j v 0 (λ e. omega arith)

length-signs : (board : Board) (ms : List ℕ) (i k : ℕ) → length (signs_from board ms i k) ≡ k
unfolding signs_from
length-signs board ms i zero = refl
length-signs board ms i (suc k) = rw (length-signs board ms (suc i) k)

signed-place : (board : Board) (ms : List ℕ) (ss : List SignSet) (i k j : ℕ) → i + k ≤ length ss → i ≤ j → j < i + k
    → get_or (sets ss i (signs_from board ms i k)) j 0 ≡ monomial_sign board (get_or ms j 0)
unfolding signs_from
signed-place board ms ss i zero j h l m = absurd (omega arith)
signed-place board ms ss i (suc k) j h l m =
    let v = monomial_sign board (get_or ms i 0) in
    ⊎_elim
    (λ (e : i ≡ j). rw (← e) (kept-before (set ss i v) (suc i) (signs_from board ms (suc i) k) i (omega arith) ∙ get_or-set_same ss i v 0 (omega arith)))
    (λ (n : i < j). signed-place board ms (set ss i v) (suc i) k j (simp length-set (omega arith)) n (omega arith))
    (eq-or-lt_of_le l)

module _ (board : Board) (ms : List ℕ) (ss : List SignSet) (from to : ℕ) where
  -- signs that were worked out are the board's
  pub signed-there : to ≤ length ss → Signed board ms (signed board ms ss from to) from to
  signed-there h = record { at = λ i l m. signed-place board ms ss from (to - from) i (omega arith) l (omega arith) }

  -- and the other places keep theirs
  pub signed-before : (i : ℕ) → i < from → get_or (signed board ms ss from to) i 0 ≡ get_or ss i 0
  signed-before i h = kept-before ss from (signs_from board ms from (to - from)) i h

  pub signed-past : (i : ℕ) → from ≤ to → to ≤ i → get_or (signed board ms ss from to) i 0 ≡ get_or ss i 0
  signed-past i h k = kept-past ss from (signs_from board ms from (to - from)) i (omega (arith, length-signs board ms from (to - from)))

-- what is signed at a run of places is signed at each part of it
pub signed-within : {board : Board} {ms : List ℕ} {ss : List SignSet} {from to : ℕ} (a b : ℕ) → from ≤ a → b ≤ to → Signed board ms ss from to → Signed board ms ss a b
signed-within a b h k s = record { at = λ i l m. s.at i (omega arith) (omega arith) }

-- ---- the sign by terms

by-signs-from : (sofar : SignSet) (board : Board) (cs : List ℤ) (ms : List ℕ) (ss : List SignSet) (i k : ℕ)
    → ((j : ℕ) → i ≤ j → j < i + k → get_or ss j 0 ≡ monomial_sign board (get_or ms j 0))
    → by_signs_from sofar cs ss i k ≡ by_terms_from sofar board (terms_from cs ms i k)
unfolding by_signs_from by_terms_from terms_from
by-signs-from sofar board cs ms ss i zero h = refl
by-signs-from sofar board cs ms ss i (suc k) h = rw (h i (omega arith) (omega arith))
    (by-signs-from (sum sofar (product (only (sign_of (get_or cs i (pos 0)))) (monomial_sign board (get_or ms i 0)))) board cs ms ss (suc i) k
    (λ j l m. h j (omega arith) (omega arith)))

-- with the board's signs it is the book's sign by terms
pub by-signs : {board : Board} {ms : List ℕ} {ss : List SignSet} {from to : ℕ} (cs : List ℤ) → Signed board ms ss from to
    → by_signs cs ss from to ≡ by_terms board (terms_of cs ms from to)
unfolding by_terms
by-signs {board} {ms} {ss} {from} {to} cs s = by-signs-from 2 board cs ms ss from (to - from) (λ j l m. s.at j l (omega arith))
