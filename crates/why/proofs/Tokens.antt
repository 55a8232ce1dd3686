-- The test of the tokens behind the root's, one after the other.
use mathlib.Core.Path.{◌≡◌, refl, sym, ap, ap₂, ◌∙◌}
use mathlib.Core.Bool.{Bool, true, false, not, ◌&&◌}
use mathlib.Core.List.{List}
use Prim.Native.Nat.{ℕ, zero, suc, ◌+◌, ◌<◌, ◌≤◌}
use native.Mathlib.Numerals.{add-one}
use native.Mathlib.Omega.{arith}
use lib.ListN.{length, take, drop, get_or}
use lib.Seq.{length-take-le, get_or-take, drop-cons}
use borrow.Author.Tests.{lt-ltb, le-ltb, eq-eqb, ne_eqb}
use Rattle.tape.specs.Listing.{rest-none}
use Rattle.places.specs.Places.{is_atom}
use Rattle.why.specs.Flat.{all_atoms, behind_root, and_of_atoms}

pub behind-atom : (root : ℕ) → root ≡ 0 → 0 ≡ behind_root root
unfolding behind_root
behind-atom root e = rw e

pub behind-node : (root : ℕ) → (root ≡ 0 → ⊥) → 1 ≡ behind_root root
unfolding behind_root
behind-node zero e = absurd (e refl)
behind-node (suc kind) e = refl

module _ (tape : List ℕ) (count : ℕ) (there : count ≤ length tape) where
  next : (i : ℕ) → i < count → all_atoms (drop i (take count tape)) ≡ is_atom (get_or tape i 0) && all_atoms (drop (i + 1) (take count tape))
  unfolding all_atoms
  next i h =
      ap all_atoms (drop-cons (take count tape) i 0 (omega (arith, length-take-le count tape there)))
      ∙ ap₂ (λ (t k : ℕ). is_atom t && all_atoms (drop k (take count tape))) (get_or-take count tape i 0 h) (sym (add-one i))

  -- An atom's token is passed over, any other ends the walk.
  pub atom-passed : (i : ℕ) → i < count → get_or tape i 0 < 16777216 → all_atoms (drop (i + 1) (take count tape)) ≡ all_atoms (drop i (take count tape))
  atom-passed i h low = sym (next i h ∙ ap (λ (b : Bool). b && all_atoms (drop (i + 1) (take count tape))) (lt-ltb (get_or tape i 0) 16777216 low))

  pub node-found : (i : ℕ) → i < count → 16777216 ≤ get_or tape i 0 → false ≡ all_atoms (drop i (take count tape))
  node-found i h high = sym (next i h ∙ ap (λ (b : Bool). b && all_atoms (drop (i + 1) (take count tape))) (le-ltb (get_or tape i 0) 16777216 high))

  pub none_left : (i : ℕ) → count ≤ i → true ≡ all_atoms (drop i (take count tape))
  unfolding all_atoms
  none_left i h = sym (ap all_atoms (rest-none (take count tape) i (omega (arith, length-take-le count tape there))))

-- An OR is no AND.
pub or-root : (root : ℕ) (l : List ℕ) → root ≡ 2 → false ≡ and_of_atoms root l
unfolding and_of_atoms
or-root root l e = sym (ap (λ (b : Bool). not b && all_atoms (drop (behind_root root) l)) (eq-eqb root 2 e))

pub other-root : (root : ℕ) (l : List ℕ) → (root ≡ 2 → ⊥) → all_atoms (drop (behind_root root) l) ≡ and_of_atoms root l
unfolding and_of_atoms
other-root root l e = sym (ap (λ (b : Bool). not b && all_atoms (drop (behind_root root) l)) (ne_eqb root 2 e))
