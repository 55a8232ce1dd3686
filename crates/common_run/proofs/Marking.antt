-- Marks grow: a mark that is stored, and marks after marks.
use mathlib.Core.Path.{◌≡◌, refl, sym, ◌∙◌, subst}
use mathlib.Core.Bool.{Bool, true, false, false≢true}
use mathlib.Core.Logic.{dite}
use mathlib.Core.List.{List}
use Prim.Native.Nat.{ℕ, ◌<◌, ◌≤◌}
use native.Mathlib.Decide.{ℕ_discrete, dec_le}
use native.Mathlib.Omega.{arith}
use lib.Dec.{T, leb, ltb, leb→le, le→leb, ltb→lt, lt→ltb}
use lib.ListN.{length, get_or, set}
use lib.Seq.{get_or-set_same, get_or-set_other}
use Rattle.sign_laws.specs.Booleans.{and_first, and_second}
use Rattle.common_run.specs.declared.marks.BothMarks.{BothMarks}
use Rattle.common_run.specs.Marks.{marked_by, Grows, GrowBoth, MarkedAt}

is_true : (b : Bool) → T b → b ≡ true
is_true true h = refl
is_true false h = absurd h

pub marked-is : (mark round : ℕ) → marked_by mark round ≡ true → (0 < mark) × (mark ≤ round)
unfolding marked_by
marked-is mark round e =
    let some = and_first (ltb 0 mark) (leb mark round) e in
    let most = and_second (ltb 0 mark) (leb mark round) e in
    (ltb→lt 0 mark (subst T (sym some) tt), leb→le mark round (subst T (sym most) tt))

pub is-marked : (mark round : ℕ) → 0 < mark → mark ≤ round → marked_by mark round ≡ true
unfolding marked_by
is-marked mark round h k = rw (is_true (ltb 0 mark) (lt→ltb 0 mark h), is_true (leb mark round) (le→leb mark round k))

-- the test
pub none-marked : (round : ℕ) → marked_by 0 round ≡ false
unfolding marked_by
none-marked round = refl

pub some-marked : (mark round : ℕ) → (mark ≡ 0 → ⊥) → marked_by mark round ≡ leb mark round
unfolding marked_by
some-marked mark round h = rw (is_true (ltb 0 mark) (lt→ltb 0 mark (omega arith)))

pub grows-itself : (marks : List ℕ) → Grows marks marks
grows-itself marks = record { keeps = λ k round e. e }

pub grows-on : {marks more later : List ℕ} → Grows marks more → Grows more later → Grows marks later
grows-on f g = record { keeps = λ k round e. g.keeps k round (f.keeps k round e) }

-- what is not marked later was not before
pub not-before : {marks more : List ℕ} → Grows marks more → (k round : ℕ) → marked_by (get_or more k 0) round ≡ false
    → marked_by (get_or marks k 0) round ≡ false
not-before {marks} g k round e = by-test (marked_by (get_or marks k 0) round) refl
  where
    by-test : (b : Bool) → marked_by (get_or marks k 0) round ≡ b → b ≡ false
    by-test true m = absurd (false≢true (sym e ∙ g.keeps k round m))
    by-test false m = refl

pub both-itself : (marks : BothMarks) → GrowBoth marks marks
both-itself marks = record { resting = grows-itself marks.resting.first; needed = grows-itself marks.needed.first }

pub both-on : {marks more later : BothMarks} → GrowBoth marks more → GrowBoth more later → GrowBoth marks later
both-on f g = record { resting = grows-on f.resting g.resting; needed = grows-on f.needed g.needed }

-- a mark stored where none of a round up to this one was
module _ (marks : List ℕ) (before after k round : ℕ) where
  pub not-changed : before ≡ after → MarkedAt marks before after k round marks
  not-changed e = record { grows = grows-itself marks; here = λ h. absurd (h e) }

  pub marked-before : marked_by (get_or marks k 0) round ≡ true → MarkedAt marks before after k round marks
  marked-before e = record { grows = grows-itself marks; here = λ h. e }

  pub marked-now : k < length marks → 0 < round → marked_by (get_or marks k 0) round ≡ false → MarkedAt marks before after k round (set marks k round)
  marked-now low some e = record {
    grows = record { keeps = λ x j m. dite (ℕ_discrete x k) (λ (q : x ≡ k). here x j m q) (λ (q : x ≡ k → ⊥). rw (get_or-set_other marks k x round 0 q) m) };
    here = λ h. rw (get_or-set_same marks k round 0 low) (is-marked round round some (omega arith));
  }
    where
      later : (mark j : ℕ) → marked_by mark round ≡ false → marked_by mark j ≡ true → round ≤ j
      later mark j f m =
          let (some-mark, most) = marked-is mark j m in
          dite (dec_le mark round) (λ (h : mark ≤ round). absurd (false≢true (sym f ∙ is-marked mark round some-mark h))) (λ (h : mark ≤ round → ⊥). omega arith)

      here : (x j : ℕ) → marked_by (get_or marks x 0) j ≡ true → x ≡ k → marked_by (get_or (set marks k round) x 0) j ≡ true
      here x j m q = rw (q, get_or-set_same marks k round 0 low) (is-marked round j some (later (get_or marks k 0) j e (rw q at m)))
