-- The walk past a node on the tape: what is left to pass is a row of parts, and each node that is met puts its own parts before them.
use mathlib.Core.Path.{◌≡◌, refl, sym, ◌∙◌, ap}
use mathlib.Core.List.{List, ◌∷◌, ◌++◌, append_assoc, append-nil}
use Prim.Native.Nat.{ℕ, suc, ◌+◌, ◌-◌, ◌<◌, ◌≤◌}
use native.Mathlib.Omega.{arith}
use lib.ListN.{length, drop, get_or}
use Rattle.level.specs.Source.{Forest, nothing, leaf, branch, count, size, flat, Shaped, Below, Holds}
use Rattle.level.proofs.Gathering.{token-at, token-past, count-size}

-- parts before parts
chain : Forest → Forest → Forest
chain nothing g = g
chain (leaf x f) g = leaf x (chain f g)
chain (branch kids f) g = branch kids (chain f g)

chain-flat : (f g : Forest) → flat (chain f g) ≡ flat f ++ flat g
unfolding chain
chain-flat nothing g = refl
chain-flat (leaf x f) g = ap (λ (l : List ℕ). x ∷ l) (chain-flat f g)
chain-flat (branch kids f) g =
    ap (λ (l : List ℕ). (16777216 + count kids) ∷ l) (ap (λ (l : List ℕ). flat kids ++ l) (chain-flat f g) ∙ sym (append_assoc (flat kids) (flat f) (flat g)))

chain-count : (f g : Forest) → count (chain f g) ≡ count f + count g
unfolding chain
chain-count nothing g = omega arith
chain-count (leaf x f) g = omega (arith, chain-count f g)
chain-count (branch kids f) g = omega (arith, chain-count f g)

chain-size : (f g : Forest) → size (chain f g) ≡ size f + size g
unfolding chain
chain-size nothing g = omega arith
chain-size (leaf x f) g = omega (arith, chain-size f g)
chain-size (branch kids f) g = omega (arith, chain-size f g)

shaped-below : (d : ℕ) (f : Forest) → Shaped d f → Below f
unfolding Below Shaped
shaped-below d nothing s = tt
shaped-below d (leaf x f) s = (s.0, shaped-below d f s.1)
shaped-below d (branch kids f) s = (shaped-below (d - 1) kids s.1.0, shaped-below d f s.1.1)

chain-below : (f g : Forest) → Below f → Below g → Below (chain f g)
unfolding Below chain
chain-below nothing g s u = u
chain-below (leaf x f) g s u = (s.0, chain-below f g s.1 u)
chain-below (branch kids f) g s u = (s.0, chain-below f g s.1 u)

-- so many parts are left to pass, up to the place end
pub record Passing (token : List ℕ) (end place due : ℕ) : Type 0 where
  left : Forest
  rest : List ℕ
  ahead : drop place token ≡ flat left ++ rest
  below : Below left
  few : size left ≤ 255
  count_is : due ≡ count left
  next : place + size left ≡ end

pub pass-start : {token : List ℕ} {at d : ℕ} {kids : Forest} {rest : List ℕ} → Holds token at d kids rest → Passing token (at + suc (size kids)) at 1
unfolding Below
pass-start {d} {kids} {rest} h = record {
  left = branch kids nothing;
  rest = rest;
  ahead = h.here ∙ ap (λ (l : List ℕ). (16777216 + count kids) ∷ (l ++ rest)) (sym (append-nil (flat kids)));
  below = (shaped-below d kids h.shape, tt);
  few = omega (arith, h.few);
  count_is = refl;
  next = omega arith;
}

module _ {token : List ℕ} {end place due : ℕ} (g : Passing token end place due) where
  pub pass-small : due ≤ 255
  pass-small = omega (arith, count-size g.left, g.few, g.count_is)

  pub pass-end : due ≤ 0 → place ≡ end
  pass-end z = end-in g.left g.count_is g.next
    where
      end-in : (f : Forest) → due ≡ count f → place + size f ≡ end → place ≡ end
      end-in nothing x y = omega arith
      end-in (leaf a f) x y = absurd (omega arith)
      end-in (branch c f) x y = absurd (omega arith)

  module _ (z : 0 < due) where
    inside-in : (f : Forest) (rest : List ℕ) → drop place token ≡ flat f ++ rest → due ≡ count f → place < length token
    inside-in nothing rest d x = absurd (omega arith)
    inside-in (leaf a f) rest d x = (token-at token place _ _ d).1
    inside-in (branch c f) rest d x = (token-at token place _ _ d).1

    pub pass-inside : place < length token
    pass-inside = inside-in g.left g.rest g.ahead g.count_is

    leaf-in : (f : Forest) (rest : List ℕ) → drop place token ≡ flat f ++ rest → Below f → size f ≤ 255 → due ≡ count f → place + size f ≡ end
        → get_or token place 0 < 16777216 → Passing token end (place + 1) (due - 1)
    unfolding Below
    leaf-in nothing rest d s w x y t = absurd (omega arith)
    leaf-in (leaf a f) rest d s w x y t = record { left = f; rest = rest; ahead = token-past token place _ _ d; below = s.1; few = omega arith; count_is = omega arith; next = omega arith }
    leaf-in (branch c f) rest d s w x y t = absurd (omega (arith, (token-at token place _ _ d).0))

    pub pass-leaf : get_or token place 0 < 16777216 → Passing token end (place + 1) (due - 1)
    pass-leaf t = leaf-in g.left g.rest g.ahead g.below g.few g.count_is g.next t

    node_in : (f : Forest) (rest : List ℕ) → drop place token ≡ flat f ++ rest → Below f → size f ≤ 255 → due ≡ count f → place + size f ≡ end
        → 16777216 ≤ get_or token place 0 → Passing token end (place + 1) (due - 1 + (get_or token place 0 - 16777216))
    unfolding Below
    node_in nothing rest d s w x y t = absurd (omega arith)
    node_in (leaf a f) rest d s w x y t = absurd (omega (arith, (token-at token place _ _ d).0, s.0))
    node_in (branch c f) rest d s w x y t = record {
      left = chain c f;
      rest = rest;
      ahead = token-past token place _ _ d ∙ ap (λ (l : List ℕ). l ++ rest) (sym (chain-flat c f));
      below = chain-below c f s.0 s.1;
      few = omega (arith, chain-size c f);
      count_is = omega (arith, chain-count c f, (token-at token place _ _ d).0);
      next = omega (arith, chain-size c f);
    }

    pub pass-node : 16777216 ≤ get_or token place 0 → Passing token end (place + 1) (due - 1 + (get_or token place 0 - 16777216))
    pass-node t = node_in g.left g.rest g.ahead g.below g.few g.count_is g.next t
