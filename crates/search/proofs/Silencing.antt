-- The full set stored at one place of a list of atoms: what is left to be tried are the others.
use mathlib.Core.Path.{◌≡◌, refl, sym, subst}
use mathlib.Core.List.{List, ◌++◌}
use mathlib.Core.Logic.{◌⊎◌, inl, inr}
use Prim.Native.Nat.{ℕ, zero, suc, ◌+◌, ◌-◌, ◌<◌}
use native.Mathlib.Nat.{zero-add}
use native.Mathlib.Numerals.{add-one}
use native.Mathlib.Decide.{ℕ_discrete}
use native.Mathlib.Omega.{arith}
use lib.ListN.{length, get_or, set}
use lib.Seq.{get_or-set_same, get_or-set_other}
use Rattle.rules.specs.Signs.{SignSet, full}
use Rattle.table.specs.declared.Atoms.{Atoms}
use Rattle.table.specs.Table.{Table, atom_at, atoms_from, many}
use Rattle.search.specs.Silent.{Quieted, kept, silent, quieted-same, SilencedAt}
use Rattle.search.proofs.Firsts.{set-later}

-- the set at j, where the full one is stored at i
full-or-same : (sets : List SignSet) (i j : ℕ) → i < length sets → (get_or (set sets i full) j 0 ≡ full) ⊎ (get_or (set sets i full) j 0 ≡ get_or sets j 0)
full-or-same sets i j low = by (ℕ_discrete j i)
  where
    by : Dec (j ≡ i) → (get_or (set sets i full) j 0 ≡ full) ⊎ (get_or (set sets i full) j 0 ≡ get_or sets j 0)
    by (yes e) = inl (rw e (get_or-set_same sets i full 0 low))
    by (no f) = inr (get_or-set_other sets i j full 0 f)

module _ (t : Table) (numbers : List ℕ) (sets : List SignSet) where
  -- the k atoms from b on, the one d places behind the first silenced
  quieted-from : (b k d : ℕ) → d < k → b + d < length sets
      → Quieted (atoms_from t numbers (set sets (b + d) full) b k) (atoms_from t numbers sets b d ++ atoms_from t numbers sets (b + d + 1) (k - (d + 1)))
  unfolding atoms_from
  quieted-from b zero d h low = absurd (omega arith)
  quieted-from b (suc k) zero h low =
      let here : b + 0 ≡ b = omega arith in
      let left : suc k - (0 + 1) ≡ k = omega arith in
      let later : Quieted (atoms_from t numbers (set sets b full) (suc b) k) (atoms_from t numbers sets (suc b) k) =
      rw (set-later t numbers sets (suc b) k b full (omega arith)) (quieted-same (atoms_from t numbers sets (suc b) k)) in
      subst (λ (p : ℕ). Quieted (atoms_from t numbers (set sets p full) b (suc k))
      (atoms_from t numbers sets b 0 ++ atoms_from t numbers sets (p + 1) (suc k - (0 + 1)))) (sym here)
      (rw (left, add-one b) (silent _ (get_or-set_same sets b full 0 (omega arith)) later))
  quieted-from b (suc k) (suc d) h low =
      let next : b + suc d ≡ suc b + d = omega arith in
      let left : suc k - (suc d + 1) ≡ k - (d + 1) = omega arith in
      let other : b ≡ suc b + d → ⊥ = λ q. omega arith in
      subst (λ (p : ℕ). Quieted (atoms_from t numbers (set sets p full) b (suc k))
      (atoms_from t numbers sets b (suc d) ++ atoms_from t numbers sets (p + 1) (suc k - (suc d + 1)))) (sym next)
      (rw (left, get_or-set_other sets (suc b + d) b full 0 other)
      (kept (atom_at t numbers sets b) (quieted-from (suc b) k d (omega arith) (omega arith))))

-- the atom at i silenced
pub silenced-at : (a : Atoms) (i : ℕ) → i < many a.count → i < length a.set
    → SilencedAt a i (record { count = a.count; number = a.number; set = set a.set i full })
silenced-at a i h low = record {
  silenced = record { count = refl; number = refl; sets = λ j l. full-or-same a.set i j low };
  quieted = λ t.
      let low-from : 0 + i < length a.set = rw (zero-add i) low in
      rw (zero-add i) at (quieted-from t a.number a.set 0 (many a.count) i h low-from);
}
