-- One try, from its flags and the set by terms of p + u·q1 + v·q2.
use mathlib.Core.Path.{◌≡◌, sym, ap, ap₂, ◌∙◌}
use mathlib.Core.Bool.{Bool, true, false, cond, ◌&&◌, ◌||◌}
use mathlib.Core.List.{List}
use Prim.Native.Nat.{ℕ}
use lib.IntN.{ℤ}
use lib.Signed.{non_neg}
use Rattle.rules.specs.Signs.{SignSet, Kind, kind}
use Rattle.rules.specs.Polynomial.{Board, by_terms}
use Rattle.rules.specs.Deduce.{is_strict}
use Rattle.rules.specs.TwoAtoms.{plus_times, non_positive, non_negative, never_positive, never_negative, tried, try, cut_by_all}
use Rattle.sign_laws.specs.Booleans.{and_intro, and_first, and_second, or-first, or-second, never_true, never_both, neither}
use Rattle.deduce.specs.Runs.{polynomial_of}
use Rattle.two_atoms.specs.declared.pair.Pair.{Pair}
use Rattle.two_atoms.specs.Totals.{Total}
use Rattle.two_atoms.specs.Cuts.{cut_in, tried-cut}
use Rattle.two_atoms.specs.Tries.{try_of, CutByTry}

same-tried : {a x b y c z : Bool} (t : SignSet) → a ≡ x → b ≡ y → c ≡ z → tried a b t c ≡ tried x y t z
same-tried {x = x} {b = b} {y = y} {c = c} t e f g = ap (λ (a : Bool). tried a b t c) e ∙ ap₂ (λ (b c : Bool). tried x b t c) f g

none_tried : (s : SignSet) {c d : Bool} (t : SignSet) (strict : Bool) → c ≡ false → d ≡ false → s ≡ cut_by_all s (tried c d t strict)
unfolding cut_by_all tried
none_tried s t strict g h = sym (ap₂ (λ (c d : Bool). cut_by_all s (tried c d t strict)) g h)

module _ {cs : List ℤ} {ms : List ℕ} {ss : List SignSet} {x : Pair} {u v w : ℤ} {s : SignSet} {below above : Bool}
    (e : below ≡ never_positive u (kind x.set1) && never_positive v (kind x.set2))
    (f : above ≡ never_negative u (kind x.set1) && never_negative v (kind x.set2)) where
  -- the factors allow a test
  pub cut-tested : {strict : Bool} {t r : SignSet} → strict ≡ is_strict (kind x.set1) || is_strict (kind x.set2)
      → Total cs ms ss x.p x.q1 x.q2 u w t
      → r ≡ cut_by_all s (tried below above t strict) → CutByTry cs ms ss x u v w s r
  unfolding try
  cut-tested {strict} {t} g h k = record {
    on = λ {board} a n. k ∙ ap (cut_by_all s) (h.on a.p a.q1 a.q2 a.filled below above strict
        ∙ ap (λ (z : ℤ). tried below above (by_terms board (plus_times (plus_times (polynomial_of cs ms x.p) u (polynomial_of cs ms x.q1)) z
        (polynomial_of cs ms x.q2))) strict) n
        ∙ same-tried _ e f g);
  }

  -- they allow none
  pub cut-untested : below || above ≡ false → CutByTry cs ms ss x u v w s s
  unfolding try
  cut-untested g = let none = (neither below above).0 g in record { on = λ {board} a n. none_tried s _ _ (sym e ∙ none.0) (sym f ∙ none.1) }

-- what it leaves, by all findings or by the first: it finds one at most
pub cut-anyhow : (all : Bool) (s : SignSet) (board : Board) (cs : List ℤ) (ms : List ℕ) (x : Pair) (u v : ℤ)
    → cut_by_all s (try_of board cs ms x u v) ≡ cut_in all s (try_of board cs ms x u v)
unfolding try
cut-anyhow all s board cs ms x u v = tried-cut all s _ _ _ _

-- a set that allows a test with some factor
never-sided : (u : ℤ) (k : Kind) → never_positive u k ≡ true → non_positive k || non_negative k ≡ true
unfolding never_positive
never-sided u k e = by (non_neg u) e
  where
    by : (b : Bool) → cond b (non_positive k) (non_negative k) ≡ true → non_positive k || non_negative k ≡ true
    by true f = or-first (non_negative k) f
    by false f = or-second (non_positive k) f

never-mirrored : (u : ℤ) (k : Kind) → never_negative u k ≡ true → non_positive k || non_negative k ≡ true
unfolding never_negative
never-mirrored u k e = by (non_neg u) e
  where
    by : (b : Bool) → cond b (non_negative k) (non_positive k) ≡ true → non_positive k || non_negative k ≡ true
    by true f = or-second (non_positive k) f
    by false f = or-first (non_negative k) f

-- if one of the two does not, there is no try
pub no-try : (x : Pair) {s : SignSet} → let k1 = kind x.set1 in let k2 = kind x.set2 in
    (non_positive k1 || non_negative k1) && (non_positive k2 || non_negative k2) ≡ false
    → (board : Board) (cs : List ℤ) (ms : List ℕ) (u v : ℤ) → s ≡ cut_by_all s (try_of board cs ms x u v)
unfolding try
no-try x {s} e board cs ms u v =
    let k1 = kind x.set1 in
    let k2 = kind x.set2 in
    none_tried s _ _
    (never_true (never_positive u k1 && never_positive v k2)
    (λ f. never_both (and_intro (never-sided u k1 (and_first (never_positive u k1) (never_positive v k2) f))
    (never-sided v k2 (and_second (never_positive u k1) (never_positive v k2) f))) e))
    (never_true (never_negative u k1 && never_negative v k2)
    (λ f. never_both (and_intro (never-mirrored u k1 (and_first (never_negative u k1) (never_negative v k2) f))
    (never-mirrored v k2 (and_second (never_negative u k1) (never_negative v k2) f))) e))
