-- The signs that sets can lose, as the code counts them: by the three bits of each, one set after the other.
use mathlib.Core.Path.{◌≡◌, refl, sym, ◌∙◌, ap, subst}
use mathlib.Core.List.{List}
use Prim.Native.Nat.{ℕ, zero, suc, ◌+◌, ◌-◌, ◌/◌, ◌%◌, ◌<◌, ◌≤◌}
use native.Mathlib.Omega.{arith}
use lib.Dec.{eqb}
use lib.IntN.{ℤ}
use lib.ListN.{get_or}
use Rattle.rules.specs.Signs.{SignSet, only, has, bit}
use Rattle.rules.specs.Count.{run_count}
use Rattle.ending_laws.specs.Sizes.{size, spare, spare-at-most}
use Rattle.ending_laws.specs.Cuts.{spare_all}
use Rattle.terms.specs.View.{numbers_from, numbers-cons, numbers-nil, sets_of}
use Rattle.table.specs.declared.Atoms.{Atoms}
use Rattle.table.specs.Table.{atoms_of}
use Rattle.round.specs.declared.State.{State}
use Rattle.round.specs.Views.{table_of, state_of}
use Rattle.rules.specs.Rounds.{start, enough}
use Rattle.count_laws.specs.Boards.{turned_rounds, fresh-by-turns}
use Rattle.rules.specs.Rounds.{State as Standing}
use Rattle.rounds.specs.Afresh.{AfreshFrom}

-- a bit of a set
bit_is : (x : ℕ) → x < 2 → bit (eqb x 1) ≡ x
unfolding bit
bit_is zero h = refl
bit_is (suc zero) h = refl
bit_is (suc (suc x)) h = absurd (omega arith)

pub size_is : (s : ℕ) → (s / 4 % 2) + (s / 2 % 2) + (s % 2) ≡ size s
unfolding size has only
size_is s =
    let whole : s / 1 ≡ s = omega arith in
    rw (whole, bit_is (s / 4 % 2) (omega arith), bit_is (s / 2 % 2) (omega arith), bit_is (s % 2) (omega arith))

pub spare-is : (s k : ℕ) → k ≡ size s - 1 → (k ≡ spare s) × (k ≤ 2)
unfolding spare
spare-is s k e = (e, omega (arith, spare-at-most s))

-- one set more, and the last
pub spares-more : (xs : List SignSet) (i n : ℕ) → i < n → spare_all (numbers_from xs i (n - i)) ≡ spare (get_or xs i 0) + spare_all (numbers_from xs (i + 1) (n - (i + 1)))
unfolding spare_all
spares-more xs i n h = rw (numbers-cons xs i n h)

pub spares-none : (xs : List SignSet) (i n : ℕ) → n ≤ i → spare_all (numbers_from xs i (n - i)) ≡ 0
unfolding spare_all
spares-none xs i n h = rw (numbers-nil xs i n h)

-- ---- a fresh run: its rounds on the board alone

pub turned-is : (cs : List ℤ) (ms ts : List ℕ) {n m : ℕ} → m ≡ n → (others : Atoms) {state : State}
    → AfreshFrom (table_of cs ms ts n) state (atoms_of (table_of cs ms ts n) others) → (first : State)
    → state_of (table_of cs ms ts n) first ≡ start n (atoms_of (table_of cs ms ts n) others) → {k : ℕ}
    → k ≡ turned_rounds m (atoms_of (table_of cs ms ts m) first.atoms) (enough (state_of (table_of cs ms ts m) first)) (sets_of first.board)
    → k ≡ run_count n (atoms_of (table_of cs ms ts n) others)
turned-is cs ms ts {n} same others from first is_start {k} e =
    let t = table_of cs ms ts n in
    subst (λ (v : ℕ). k ≡ turned_rounds v (atoms_of (table_of cs ms ts v) first.atoms) (enough (state_of (table_of cs ms ts v) first)) (sets_of first.board)) same e
    ∙ ap (λ (su : Standing). turned_rounds n su.atoms (enough su) su.board) is_start
    ∙ sym (fresh-by-turns n from.given from.settles (atoms_of t others) from.some)
