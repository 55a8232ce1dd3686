-- A copy by the library is the stores that `copied` has: the first elements of the one array, and behind them what stays of the other.
use mathlib.Core.Path.{◌≡◌, refl, ◌∙◌}
use mathlib.Core.List.{List, [], ◌∷◌, ◌++◌}
use Prim.Native.Nat.{ℕ, zero, suc, ◌+◌, ◌≤◌}
use native.Mathlib.Nat.{sub-zero}
use native.Mathlib.Omega.{arith}
use Rattle.std.proofs.Common.{length, get_or, take, drop, length-append}
use Rattle.std.proofs.Math.Seq.{drop-cons, set-append_seam, append_snoc}
use Rattle.normal.specs.Stores.{stores_from}
use Rattle.forms.specs.Slots.{copied}

copied-behind : (source before l : List ℕ) (k : ℕ) → length before + k ≤ length source → k ≤ length l
    → stores_from 0 (λ i. i) (λ i x. get_or source i 0) (before ++ l) (length before) k ≡ before ++ (take k (drop (length before) source) ++ drop k l)
unfolding stores_from
copied-behind source before l zero h m = refl
copied-behind source before [] (suc k) h m = absurd (omega arith)
copied-behind source before (x ∷ l) (suc k) h m =
    let y = get_or source (length before) 0 in
    let one-more : suc (length before) ≡ length (before ++ (y ∷ [])) = omega (arith, length-append before (y ∷ [])) in
    let front : drop (length before) source ≡ y ∷ drop (suc (length before)) source = drop-cons source (length before) 0 (omega arith) in
    rw (set-append_seam before x l y, ← append_snoc before y l, front, one-more)
    (copied-behind source (before ++ (y ∷ [])) l k (omega arith) (omega arith)
    ∙ append_snoc before y (take k (drop (length (before ++ (y ∷ []))) source) ++ drop k l))

-- The first elements of an array, in front of what stays of another, are what is asked of a copy.
pub copied-is : (source target : List ℕ) (count : ℕ) → count ≤ length source → count ≤ length target
    → copied source target count ≡ take count source ++ drop count target
copied-is source target count h m = rw (sub-zero count) (copied-behind source [] target count (omega arith) m)
