-- The words of all atoms of a list, column by column: bit j of a word is about the atom at place j. What all columns tell of an atom, and which
-- atoms a word still has: those that may pass a test as q2.
use Rattle.std.specs.Prelude.{◌≡◌, refl, Bool, true, false, ◌&&◌, ◌||◌, List, ◌⊎◌, ℕ, ◌+◌, ◌-◌, ◌*◌, ◌/◌, ◌%◌, ◌^◌, ◌≤◌, ◌<◌, length, get_or, set}
use Rattle.std.proofs.Common.{sym, ap, ◌∙◌, subst, inl, inr, zero-add, one-mul, mod-eq_of_lt, lt_of_le_of_lt, arith, length-set, get_or-set_same, get_or-set_other, eqb-true}
use Rattle.std.proofs.Math.Decide.{ℕ_discrete}
use Rattle.std.specs.Int.Bits.{bit_and, bit_or, bit_xor}
use Rattle.std.proofs.lemmas.Nat.{and_le_l}
use Rattle.std.specs.Int.Count.{count_trailing_zeros}
use Rattle.std.proofs.Math.Pow.{pow-lt}
use Rattle.rules.specs.Signs.{SignSet, kind}
use Rattle.rules.specs.TwoAtoms.{non_positive, non_negative}
use Rattle.sign_laws.specs.Booleans.{and_first, and_second, or_cases, never_true, never_both}
use Rattle.deduction_laws.specs.FractionSets.{Side, L, U}
use Rattle.masks.specs.declared.Mask.{Mask}
use Rattle.masks.specs.Masks.{joined, swapped, covered, some_way, some_second, some_both, facing, cuts, MayCut}
use Rattle.masks.specs.Passes.{none-cut}
use Rattle.columns.specs.Bits.{bit, bit-after, bit-of-none, below-lowest, ◌Has◌, has_both, has_first, has-second, has-other}
use Rattle.columns.specs.Bits.{is-or-stays, was-there, none_has, all_have, Needed, needed}

-- ---- what is written

-- Columns 0 to 63 are those of the words of what can be positive, 64 to 127 of what can be negative; 128 has the atoms whose set is never positive,
-- and 129 those whose set is never negative.
pub record Noted (columns : List ℕ) (j : ℕ) (q : Mask) (set : SignSet) : Type 0 where
  pub positive : {k : ℕ} → q.positive Has k → get_or columns k 0 Has j
  pub negative : {k : ℕ} → q.negative Has k → get_or columns (64 + k) 0 Has j
  pub low : non_positive (kind set) ≡ true → get_or columns 128 0 Has j
  pub high : non_negative (kind set) ≡ true → get_or columns 129 0 Has j

-- each bit of the columns before is there after
pub record More (before after : List ℕ) : Type 0 where
  pub same_length : length after ≡ length before
  pub each : (i : ℕ) {j : ℕ} → get_or before i 0 Has j → get_or after i 0 Has j

pub more-none : {columns : List ℕ} → More columns columns
more-none = record { same_length = refl; each = λ i h. h }

pub more-more : {a b c : List ℕ} → More a b → More b c → More a c
more-more f g = record { same_length = g.same_length ∙ f.same_length; each = λ i h. g.each i (f.each i h) }

pub noted_more : {before after : List ℕ} {j : ℕ} {q : Mask} {set : SignSet} → Noted before j q set → More before after → Noted after j q set
noted_more n m = record {
  positive = λ {k} h. m.each k (n.positive h);
  negative = λ {k} h. m.each (64 + k) (n.negative h);
  low = λ e. m.each 128 (n.low e);
  high = λ e. m.each 129 (n.high e);
}

-- bit j is put into a column
pub record Put (before : List ℕ) (k j : ℕ) (after : List ℕ) : Type 0 where
  pub more : More before after
  pub there : get_or after k 0 Has j

pub record PutIf (before : List ℕ) (x : Bool) (k j : ℕ) (after : List ℕ) : Type 0 where
  pub more : More before after
  pub there : x ≡ true → get_or after k 0 Has j

-- bit j is put into the columns of each bit of a word, those from a place on
pub record Spread (before : List ℕ) (word from j : ℕ) (after : List ℕ) : Type 0 where
  pub more : More before after
  pub there : {k : ℕ} → word Has k → get_or after (from + k) 0 Has j

-- the atom at j is written
pub record Took (before : List ℕ) (j : ℕ) (q : Mask) (set : SignSet) (after : List ℕ) : Type 0 where
  pub more : More before after
  pub noted : Noted after j q set

-- ---- writing

pub one_shifted : {j : ℕ} → j < 64 → 1 * 2 ^ j % 18446744073709551616 ≡ 2 ^ j
one_shifted h = rw (one-mul, mod-eq_of_lt (pow-lt h))

pub put-there : (columns : List ℕ) (k j : ℕ) {own : ℕ} → own Has j → k < length columns
    → Put columns k j (set columns k (bit_or (get_or columns k 0) own))
put-there columns k j {own} h l = record {
  more = record { same_length = length-set columns k _; each = λ i m. by i m (ℕ_discrete i k) };
  there = rw (get_or-set_same columns k _ 0 l) (has-second (get_or columns k 0) h);
}
  where
    by : (i : ℕ) {b : ℕ} → get_or columns i 0 Has b → Dec (i ≡ k) → get_or (set columns k (bit_or (get_or columns k 0) own)) i 0 Has b
    by i {b} m (yes e) = subst (λ (x : ℕ). get_or (set columns k (bit_or (get_or columns k 0) own)) x 0 Has b) (sym e)
        (rw (get_or-set_same columns k _ 0 l) (has_first own (subst (λ (x : ℕ). get_or columns x 0 Has b) e m)))
    by i m (no f) = rw (get_or-set_other columns k i _ 0 f) m

pub put-not : (columns : List ℕ) {x : Bool} (k j : ℕ) → x ≡ false → PutIf columns x k j columns
put-not columns k j e = record { more = more-none; there = λ d. never_both d e }

-- a word's bits, but for those of the rest
pub record Spreading (before : List ℕ) (word from j rest : ℕ) (after : List ℕ) : Type 0 where
  pub small : rest < 2 ^ 64
  pub more : More before after
  pub there : {k : ℕ} → word Has k → (rest Has k) ⊎ (get_or after (from + k) 0 Has j)

pub spread_none : (columns : List ℕ) (word from j : ℕ) → word < 2 ^ 64 → Spreading columns word from j word columns
spread_none columns word from j h = record { small = h; more = more-none; there = inl }

pub spread-step : {before : List ℕ} {word from j rest : ℕ} {columns after : List ℕ} (k : ℕ) → Spreading before word from j rest columns → rest Has k
    → Put columns (from + k) j after → Spreading before word from j (rest - 2 ^ k) after
spread-step {word = word} {from} {j} {rest} {columns} {after} k s h p = record {
  small = let l = s.small in omega arith;
  more = more-more s.more p.more;
  there = λ {k = i} m. by i (s.there m);
}
  where
    which : (i : ℕ) → (i ≡ k) ⊎ (rest - 2 ^ k Has i) → (rest - 2 ^ k Has i) ⊎ (get_or after (from + i) 0 Has j)
    which i (inl e) = inr (subst (λ (x : ℕ). get_or after (from + x) 0 Has j) (sym e) p.there)
    which i (inr m) = inl m

    by : (i : ℕ) → (rest Has i) ⊎ (get_or columns (from + i) 0 Has j) → (rest - 2 ^ k Has i) ⊎ (get_or after (from + i) 0 Has j)
    by i (inl m) = which i (is-or-stays k h m)
    by i (inr m) = inr (p.more.each (from + i) m)

pub spread_end : {before : List ℕ} {word from j : ℕ} (rest : ℕ) {after : List ℕ} → Spreading before word from j rest after → rest ≡ 0
    → Spread before word from j after
spread_end {word = word} {from} {j} rest {after} s e = record { more = s.more; there = λ {k} m. by k (s.there m) }
  where
    by : (k : ℕ) → (rest Has k) ⊎ (get_or after (from + k) 0 Has j) → get_or after (from + k) 0 Has j
    by k (inl m) = absurd (none_has (subst (λ (r : ℕ). r Has k) e m))
    by k (inr m) = m

-- an atom, by its two words and its set
pub took : {before : List ℕ} {j : ℕ} {q : Mask} {set : SignSet} {a b c after : List ℕ} {x y : Bool}
    → Spread before q.positive 0 j a → Spread a q.negative 64 j b → x ≡ non_positive (kind set) → PutIf b x 128 j c
    → y ≡ non_negative (kind set) → PutIf c y 129 j after → Took before j q set after
took {j = j} {a = a} f g e l d h = record {
  more = more-more f.more (more-more g.more (more-more l.more h.more));
  noted = record {
    positive = λ {k} m. h.more.each k (l.more.each k (g.more.each k (subst (λ (i : ℕ). get_or a i 0 Has j) (zero-add k) (f.there m))));
    negative = λ {k} m. h.more.each (64 + k) (l.more.each (64 + k) (g.there m));
    low = λ m. h.more.each 128 (l.there (e ∙ m));
    high = λ m. h.there (d ∙ m);
  };
}

-- ---- what is read

-- a word has the atoms that pass a test
pub record Left (columns : List ℕ) (test : Mask → SignSet → Bool) (r : ℕ) : Type 0 where
  pub each : {j : ℕ} {q : Mask} {set : SignSet} → Noted columns j q set → test q set ≡ true → r Has j

-- those that pass the test ≥ as q2: with the words n and p of p + u·q1; with p, q1 and a u above 0, or below 0; if it can cut the set
abbrev pub LeftOf : List ℕ → ℕ → ℕ → ℕ → Type 0
LeftOf columns n p r = Left columns (λ (q : Mask) (set : SignSet). some_second (record { negative = n; positive = p }) q (kind set)) r

abbrev pub LeftAbove : List ℕ → Mask → Mask → SignSet → ℕ → Type 0
LeftAbove columns p q1 set1 r = Left columns (λ (q2 : Mask) (set2 : SignSet). non_positive (kind set1) && some_second (joined p q1) q2 (kind set2)) r

abbrev pub LeftBelow : List ℕ → Mask → Mask → SignSet → ℕ → Type 0
LeftBelow columns p q1 set1 r =
    Left columns (λ (q2 : Mask) (set2 : SignSet). non_negative (kind set1) && some_second (joined p (swapped q1)) q2 (kind set2)) r

-- with a u of one sign, q having the words of u·q1, if it is allowed; and with p and q1, if the test can cut the set
abbrev pub LeftWith : List ℕ → Bool → Mask → Mask → ℕ → Type 0
LeftWith columns allowed p q r = Left columns (λ (q2 : Mask) (set2 : SignSet). allowed && some_second (joined p q) q2 (kind set2)) r

abbrev pub LeftIf : List ℕ → Bool → Mask → Mask → SignSet → ℕ → Type 0
LeftIf columns cuts p q1 set1 r = Left columns (λ (q2 : Mask) (set2 : SignSet). cuts && some_both p q1 (kind set1) q2 (kind set2)) r

abbrev pub LeftCutting : Side → List ℕ → Mask → Mask → SignSet → SignSet → ℕ → Type 0
LeftCutting side columns p q1 set1 set r =
    Left columns (λ (q2 : Mask) (set2 : SignSet). cuts side set && some_both (facing side p) q1 (kind set1) q2 (kind set2)) r

-- where the bit of an atom is 0 the tries of p, q1 and that atom leave the set as it is
pub record Candidates (columns : List ℕ) (p q1 : Mask) (set1 set : SignSet) (r : ℕ) : Type 0 where
  pub leaves : {j : ℕ} {q2 : Mask} {set2 : SignSet} → j < 64 → Noted columns j q2 set2 → bit r j ≡ 0 → MayCut p q1 q2 set1 set2 set false

pub left-either : {columns : List ℕ} {f g : Mask → SignSet → Bool} {a b : ℕ} → Left columns f a → Left columns g b
    → Left columns (λ (q : Mask) (set : SignSet). f q set || g q set) (bit_or a b)
left-either {f = f} {g} {a} {b} h k = record {
  each = λ {j} {q} {set} n e. or_cases (f q set) (g q set) e (λ d. has_first b (h.each n d)) (λ d. has-second a (k.each n d));
}

-- a test that all pass only under a condition
pub left-under : {columns : List ℕ} {f : Mask → SignSet → Bool} {r : ℕ} (x : Bool) → Left columns f r
    → Left columns (λ (q : Mask) (set : SignSet). x && f q set) r
left-under {f = f} x h = record { each = λ {j} {q} {set} n e. h.each n (and_second x (f q set) e) }

-- and none, if it does not hold
pub left-none : {columns : List ℕ} (f : Mask → SignSet → Bool) {x : Bool} → x ≡ false → Left columns (λ (q : Mask) (set : SignSet). x && f q set) 0
left-none f {x} e = record { each = λ {j} {q} {set} n d. never_both (and_first x (f q set) d) e }

-- a u above 0 or below
pub left_both : (columns : List ℕ) (p q1 : Mask) (set1 : SignSet) {a b : ℕ} → LeftAbove columns p q1 set1 a → LeftBelow columns p q1 set1 b
    → Left columns (λ (q2 : Mask) (set2 : SignSet). some_both p q1 (kind set1) q2 (kind set2)) (bit_or a b)
unfolding some_both some_way
left_both columns p q1 set1 h k = left-either h k

-- ---- the bits that are missing

-- the words of p + u·q1 and of v·q2 together pass only if v·q2 has what is missing
pub has-missing : (a b : Mask) {k : ℕ} → covered (joined a b) ≡ true → Needed a.negative a.positive k → b.positive Has k
has-missing a b {k} e h =
    let both = eqb-true (bit_or (bit_or a.negative b.negative) (bit_or a.positive b.positive)) (bit_or a.positive b.positive) e in
    has-other a.positive b.positive
    (subst (λ (w : ℕ). w Has k) both (has_first (bit_or a.positive b.positive) (has_first b.negative h.there))) h.not_there

-- The bits that are still to be asked are missing ones; no atom that passes has gone, with a v above 0 and with one below.
pub record Asked (columns : List ℕ) (a : Mask) (need low high : ℕ) : Type 0 where
  pub small : need < 2 ^ 64
  pub missing : {k : ℕ} → need Has k → Needed a.negative a.positive k
  pub lows : {j : ℕ} {q : Mask} {set : SignSet} → Noted columns j q set → non_positive (kind set) ≡ true → covered (joined a q) ≡ true → low Has j
  pub highs : {j : ℕ} {q : Mask} {set : SignSet} → Noted columns j q set → non_negative (kind set) ≡ true
      → covered (joined a (swapped q)) ≡ true → high Has j

pub asked-none : (columns : List ℕ) (a : Mask) → a.negative < 2 ^ 64
    → Asked columns a (bit_and a.negative (bit_xor a.negative a.positive)) (get_or columns 128 0) (get_or columns 129 0)
asked-none columns a h = record {
  small = lt_of_le_of_lt (and_le_l a.negative (bit_xor a.negative a.positive)) h;
  missing = needed;
  lows = λ n e d. n.low e;
  highs = λ n e d. n.high e;
}

module _ {columns : List ℕ} {a : Mask} {need low high : ℕ} (h : Asked columns a need low high) where
  -- one bit further
  pub ask : {k : ℕ} → need Has k → Asked columns a (need - 2 ^ k) (bit_and low (get_or columns k 0)) (bit_and high (get_or columns (64 + k) 0))
  ask {k} l = record {
    small = let m = h.small in omega arith;
    missing = λ m. h.missing (was-there k l m);
    lows = λ {j} {q} {set} n e d. has_both (h.lows n e d) (n.positive (has-missing a q d (h.missing l)));
    highs = λ {j} {q} {set} n e d. has_both (h.highs n e d) (n.negative (has-missing a (swapped q) d (h.missing l)));
  }

  -- what is left at any time has all atoms that pass
  pub asked-left : Left columns (λ (q : Mask) (set : SignSet). some_second a q (kind set)) (bit_or low high)
  unfolding some_second some_way
  asked-left = record {
    each = λ {j} {q} {set} n e. or_cases (non_positive (kind set) && covered (joined a q)) (non_negative (kind set) && covered (joined a (swapped q))) e
        (λ d. has_first high (h.lows n (and_first (non_positive (kind set)) (covered (joined a q)) d)
        (and_second (non_positive (kind set)) (covered (joined a q)) d)))
        (λ d. has-second low (h.highs n (and_first (non_negative (kind set)) (covered (joined a (swapped q))) d)
        (and_second (non_negative (kind set)) (covered (joined a (swapped q))) d)));
  }

-- ---- the pairs

module _ {columns : List ℕ} {p q1 : Mask} {set1 set : SignSet} where
  -- neither test has a word with the atom
  pub candidates-either : {a b : ℕ} → set < 8 → LeftCutting L columns p q1 set1 set a → LeftCutting U columns p q1 set1 set b
      → Candidates columns p q1 set1 set (bit_or a b)
  candidates-either {a} {b} small h k = record {
    leaves = λ {j} {q2} {set2} j64 n e. none-cut small (by n e);
  }
    where
      lacks : {r j : ℕ} → r Has j → bit r j ≡ 0 → ⊥
      lacks l e = let d = l.is in omega arith

      by : {j : ℕ} {q2 : Mask} {set2 : SignSet} → Noted columns j q2 set2 → bit (bit_or a b) j ≡ 0 → (side : Side)
          → cuts side set && some_both (facing side p) q1 (kind set1) q2 (kind set2) ≡ false
      by n e L = never_true _ (λ d. lacks (has_first b (h.each n d)) e)
      by n e U = never_true _ (λ d. lacks (has-second a (k.each n d)) e)

  -- all of them
  pub candidates-all : Candidates columns p q1 set1 set (2 ^ 64 - 1)
  candidates-all = record { leaves = λ {j} h n e. let d = (all_have 64 j h).is in absurd (omega arith) }

-- r has the candidates for the set after, where the word has those for the set before
pub record Still (word : ℕ) (before after : SignSet) (r : ℕ) : Type 0 where
  pub candidates : {columns : List ℕ} {p q1 : Mask} {set1 : SignSet} → Candidates columns p q1 set1 before word → Candidates columns p q1 set1 after r

pub still-same : (word : ℕ) {before after : SignSet} → before ≡ after → Still word before after word
still-same word e = record { candidates = λ {columns} {p} {q1} {set1} c. subst (λ (set : SignSet). Candidates columns p q1 set1 set word) e c }

pub still-all : (word : ℕ) (before after : SignSet) → Still word before after (2 ^ 64 - 1)
still-all word before after = record { candidates = λ c. candidates-all }

-- ---- the next atom

-- r is j or after it; all places below n between them are without a bit
pub record Next (word j n r : ℕ) : Type 0 where
  pub on : j ≤ r
  pub skips : (k : ℕ) → j ≤ k → k < r → k < n → bit word k ≡ 0

pub next_here : (word j n : ℕ) → Next word j n j
next_here word j n = record { on = omega arith; skips = λ k h l m. absurd (omega arith) }

-- the bits of a word without its first j
rest-bit : (word j k : ℕ) → j ≤ k → bit (word / 2 ^ j) (k - j) ≡ bit word k
rest-bit word j k h = bit-after word j (k - j) ∙ ap (bit word) (omega arith)

pub next-none : (word j n : ℕ) → j ≤ n → word / 2 ^ j ≡ 0 → Next word j n n
next-none word j n h e = record {
  on = h;
  skips = λ k l m o. sym (rest-bit word j k l) ∙ ap (λ (x : ℕ). bit x (k - j)) e ∙ bit-of-none (k - j);
}

pub next-lowest : (word j n : ℕ) → Next word j n (j + count_trailing_zeros 64 (word / 2 ^ j))
next-lowest word j n = record {
  on = omega arith;
  skips = λ k l m o. sym (rest-bit word j k l) ∙ below-lowest 64 (word / 2 ^ j) (k - j) (omega arith);
}
