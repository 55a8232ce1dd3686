-- Request #108: step 5 with the test first counts what step 5 counts: each fresh run is counted, whether or not it is made.
use Rattle.std.specs.Prelude.{◌≡◌, Bool, true, false, not, ◌&&◌, ℕ, max}
use Rattle.std.proofs.Math.Path.{refl, sym, subst}
use Rattle.std.proofs.Common.{ap}
use mathlib.Core.List.{List, [], ◌∷◌, ◌++◌, map-append}
use Rattle.rules.specs.Polynomial.{Atom}
use Rattle.rules.specs.Rounds.{State, settled, run, carried}
use Rattle.rules.specs.Level.{Placed, plain, plains, kept_unless, implied}
use Rattle.rules.specs.Count.{run_count, removal_count}
use Rattle.removal_laws.specs.Starts.{run-carries}
use Rattle.removal_laws.specs.Apart.{Apart, carries-apart}
use Rattle.removal_laws.specs.Staying.{stays_by, Remain, remain-first, remain-next, kept-plain, stays-unimplied}

-- The largest number of rounds that the fresh runs take, where the test comes first; the atoms' places do not matter.
unfoldable pub count_faster : ℕ → State → List Atom → List Atom → ℕ
count_faster n st kept [] = 0
count_faster n st kept (a ∷ later) =
    max (run_count n (kept ++ later)) (count_faster n st (kept_unless (not (stays_by n st a) && implied n (kept ++ later) a) a kept) later)

tested-first : (stays out : Bool) → (stays ≡ true → out ≡ false) → not stays && out ≡ out
tested-first true out h = sym (h refl)
tested-first false out h = refl

module _ (n : ℕ) (l : List Atom) {st : State} (settles : run n l ≡ settled st) where
  counts-from : (kept rest : List Placed) → Remain (carried n st.board l st.atoms) (plains kept) (plains rest)
      → count_faster n st (plains kept) (plains rest) ≡ removal_count n kept rest
  unfolding count_faster removal_count
  counts-from kept [] r = refl
  counts-from kept (a ∷ later) r =
      let out = implied n (plains kept ++ plains later) (plain a) in
      let further = subst (λ (m : List Atom). Remain (carried n st.board l st.atoms) m (plains later)) (sym (kept-plain out a kept)) (remain-next out r) in
      rw (tested-first (stays_by n st (plain a)) out (stays-unimplied n l settles r), map-append plain kept later, sym (kept-plain out a kept))
      (ap (max (run_count n (plains kept ++ plains later))) (counts-from (kept_unless out a kept) later further))

  -- Of the atoms with the carried sets, at whatever places.
  pub counts-the-same : Apart l → (carrying : List Placed) → plains carrying ≡ carried n st.board l st.atoms
      → count_faster n st [] (plains carrying) ≡ removal_count n [] carrying
  counts-the-same h carrying e = counts-from [] carrying (rw e (remain-first (carries-apart (run-carries n l settles) h).1))
