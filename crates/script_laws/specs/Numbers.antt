-- The numbers of a script: digits with the byte behind them.
use Rattle.std.specs.Prelude.{Bool, ◌&&◌, ◌≡◌, eqb, ltb}
use Rattle.std.proofs.Math.Bool.{true, false}
use mathlib.Core.List.{List, [], ◌∷◌, ◌++◌, append_assoc}
use Rattle.std.proofs.Math.Path.{refl, sym, ap, subst, subst₂}
use Rattle.std.proofs.Common.{ap₂, ◌∙◌, pow-suc, zero-add, suc-add}
use Prim.Native.Nat.{ℕ, zero, suc, ◌+◌, ◌-◌, ◌*◌, ◌/◌, ◌%◌, ◌^◌, ◌<◌, ◌≤◌}
use native.Mathlib.Omega.{arith}
use Rattle.std.proofs.Math.Dec.{leb}
use borrow.Author.Tests.{eqb-true, eq-eqb, ne_eqb, le-leb, leb-true, lt-ltb, ltb-true, le-ltb, ltb-false}
use Rattle.rules.specs.Report.{digit}
use Rattle.sign_laws.specs.Booleans.{and_first, and_second, and_intro}
use Rattle.rules.specs.Reader.{Reader, give, ask}
use Rattle.script_laws.specs.Leading.{Leads, arrived, onward, GoesOn, by_result, by_byte, Open, whole, each_byte}
use Rattle.rules.specs.Combine.{given}
use Rattle.script_laws.specs.CombineLaws.{Reads, Fine, fine-give, given-leads, leads-given, open-given, said-giving, say-gives, fine-say}
use Rattle.rules.specs.Text.{if_so, digits_within, digits}
use Rattle.rules.specs.Reading.{digit_may, end_or, digits_after, magnitude}

-- "1 to 2,147,483,647"
pub record Sized (x : ℕ) : Type 0 where
  pub not_zero : 1 ≤ x
  pub at-most : x ≤ 2147483647

-- ---- Digits.

one-digit : (k x : ℕ) → x < 10 → digits_within k x ≡ digit x ∷ []
unfolding digits_within if_so
one-digit zero x h = refl
one-digit (suc k) x h = rw (lt-ltb x 10 h)

more-digits : (k x : ℕ) → 10 ≤ x → digits_within (suc k) x ≡ digits_within k (x / 10) ++ (digit x ∷ [])
unfolding digits_within if_so
more-digits k x h = rw (le-ltb x 10 h)

tenth-below : (x p : ℕ) → x < p * 10 → x / 10 < p
tenth-below x p h = omega (arith, h)

spare-by-size : (k x : ℕ) (small : Bool) → ltb x 10 ≡ small → digits_within k (x / 10) ≡ digits_within (suc k) (x / 10) → digits_within (suc k) x ≡ digits_within (suc (suc k)) x
spare-by-size k x true e h = one-digit (suc k) x (ltb-true x 10 e) ∙ sym (one-digit (suc (suc k)) x (ltb-true x 10 e))
spare-by-size k x false e h =
    more-digits k x (ltb-false x 10 e) ∙ ap (λ (l : List ℕ). l ++ (digit x ∷ [])) h ∙ sym (more-digits (suc k) x (ltb-false x 10 e))

-- One digit more may be allowed.
spare-digit : (k x : ℕ) → x < 10 ^ suc k → digits_within k x ≡ digits_within (suc k) x
spare-digit zero x h = one-digit 0 x (omega (arith, h)) ∙ sym (one-digit 1 x (omega (arith, h)))
spare-digit (suc k) x h = spare-by-size k x (ltb x 10) refl (spare-digit k (x / 10) (tenth-below x (10 ^ suc k) (rw (pow-suc 10 (suc k)) at h)))

-- A byte that is a digit.
pub record IsDigit (b : ℕ) : Type 0 where
  pub from : 48 ≤ b
  pub to : b ≤ 57

digit-back : (x b : ℕ) → IsDigit b → digit (10 * x + (b - 48)) ≡ b
unfolding digit
digit-back x b d = let from = d.from in let to = d.to in omega arith

tenth-back : (x b : ℕ) → IsDigit b → (10 * x + (b - 48)) / 10 ≡ x
tenth-back x b d = let from = d.from in let to = d.to in omega arith

-- A number with a digit put behind it.
digits_step : (x b : ℕ) → 1 ≤ x → IsDigit b → 10 * x + (b - 48) ≤ 2147483647 → digits (10 * x + (b - 48)) ≡ digits x ++ (b ∷ [])
unfolding digits
digits_step x b some d small =
    let short : x < 10 ^ 9 = omega arith in
    more-digits 8 (10 * x + (b - 48)) (omega arith)
    ∙ ap₂ (λ (l : List ℕ) (c : ℕ). l ++ (c ∷ [])) (ap (digits_within 8) (tenth-back x b d) ∙ spare-digit 8 x short) (digit-back x b d)

-- ---- The reader, for a byte behind the number that is no digit.

may-digit : (x b : ℕ) → digit_may x b ≡ true → IsDigit b × (10 * x + (b - 48) ≤ 2147483647)
unfolding digit_may
may-digit x b e =
    let below = and_second (leb 48 b) (leb b 57 && leb (10 * x + (b - 48)) 2147483647) e in (
      record { from = leb-true 48 b (and_first (leb 48 b) (leb b 57 && leb (10 * x + (b - 48)) 2147483647) e); to = leb-true b 57 (and_first (leb b 57) _ below) },
      leb-true (10 * x + (b - 48)) 2147483647 (and_second (leb b 57) _ below),
    )

digit-may : (x b : ℕ) → IsDigit b → 10 * x + (b - 48) ≤ 2147483647 → digit_may x b ≡ true
unfolding digit_may
digit-may x b d small = and_intro (le-leb 48 b d.from) (and_intro (le-leb b 57 d.to) (le-leb (10 * x + (b - 48)) 2147483647 small))

digit-same : (y : ℕ) → 10 * (y / 10) + (digit y - 48) ≡ y
unfolding digit
digit-same y = omega arith

module _ (last : ℕ) (no_digit : last < 48) where
  -- What has been read and what the reader leads on is the number and the byte behind it.
  Whole : ℕ → List ℕ → ℕ → Type 0
  Whole x t y = Sized y × (digits x ++ t ≡ digits y ++ (last ∷ []))

  whole-step : (x b y : ℕ) (t : List ℕ) → Sized x → digit_may x b ≡ true → (Sized (10 * x + (b - 48)) → Whole (10 * x + (b - 48)) t y) → Whole x (b ∷ t) y
  unfolding Whole
  whole-step x b y t h e further =
      let (d, small) = may-digit x b e in
      let some = h.not_zero in
      let (sized, same) = further (record { not_zero = omega arith; at-most = small }) in
      (sized, sym (append_assoc (digits x) (b ∷ []) t) ∙ ap (λ (l : List ℕ). l ++ t) (sym (digits_step x b some d small)) ∙ same)

  end-or : {x y : ℕ} {r : Reader ℕ} (b : ℕ) (test : Bool) → eqb b last ≡ test → {t : List ℕ} → Leads (end_or test (give x) r) t y → Sized x → (Leads r t y → Whole x (b ∷ t) y) → Whole x (b ∷ t) y
  unfolding end_or Whole
  end-or {x} b true e arrived h further = (h, ap (λ (c : ℕ). digits x ++ (c ∷ [])) (eqb-true b last e))
  end-or b false e way h further = further way

  ended : (x : ℕ) (t : List ℕ) → t ≡ last ∷ [] → Sized x → Whole x t x
  unfolding Whole
  ended x t text h = (h, ap (λ (u : List ℕ). digits x ++ u) text)

  after-back : (k x : ℕ) → Sized x → (t : List ℕ) (y : ℕ) → Leads (digits_after k last x) t y → Whole x t y
  unfolding digits_after
  after-back zero x h t y way = let (text, result) = say-gives (last ∷ []) way in subst (Whole x t) result (ended x t text h)
  after-back (suc k) x h t y (onward {t = u} b way) =
      end-or b (eqb b last) refl way h (λ w. let (may, further) = given-leads (digit_may x b) w in whole-step x b y u h may (λ sized. after-back k (10 * x + (b - 48)) sized u y further))

  -- ---- And back: what is written is read.

  end-leads : (x : ℕ) (r : Reader ℕ) → Leads (end_or (eqb last last) (give x) r) [] x
  unfolding end_or
  end-leads x r = rw (eq-eqb last last refl) arrived

  onward-leads : (b : ℕ) → IsDigit b → (a : Reader ℕ) {r : Reader ℕ} {t : List ℕ} {y : ℕ} → Leads r t y → Leads (end_or (eqb b last) a r) t y
  unfolding end_or
  onward-leads b d a way = rw (ne_eqb b last (λ e. let from = d.from in absurd (omega arith))) way

  end-or-wider : (test : Bool) (a : Reader ℕ) {r s : Reader ℕ} {t : List ℕ} {y : ℕ} → (Leads r t y → Leads s t y) → Leads (end_or test a r) t y → Leads (end_or test a s) t y
  unfolding end_or
  end-or-wider true a h way = way
  end-or-wider false a h way = h way

  given-wider : (test : Bool) {r s : Reader ℕ} {t : List ℕ} {y : ℕ} → (Leads r t y → Leads s t y) → Leads (given test r) t y → Leads (given test s) t y
  unfolding given
  given-wider true h way = h way
  given-wider false h way = way

  spare-fuel : (k x : ℕ) (t : List ℕ) (y : ℕ) → Leads (digits_after k last x) t y → Leads (digits_after (suc k) last x) t y
  unfolding digits_after
  spare-fuel zero x t y way =
      let (text, result) = say-gives (last ∷ []) way in
      subst₂ (Leads (digits_after 1 last x)) (sym text) result (onward last (end-leads x _))
  spare-fuel (suc k) x t y (onward {t = u} b way) =
      onward b (end-or-wider (eqb b last) (give x) (given-wider (digit_may x b) (spare-fuel k (10 * x + (b - 48)) u y)) way)

  spare-fuels : (i k x : ℕ) (t : List ℕ) (y : ℕ) → Leads (digits_after k last x) t y → Leads (digits_after (i + k) last x) t y
  spare-fuels zero k x t y way = rw (zero-add k) way
  spare-fuels (suc i) k x t y way = rw (suc-add i k) (spare-fuel (i + k) x t y (spare-fuels i k x t y way))

  -- A number of at most k and one digits, with k digits allowed behind its first.
  abbrev number_within : ℕ → Reader ℕ
  number_within k = ask (λ b. given (leb 49 b && leb b 57) (digits_after k last (b - 48)))

  is_digit : (x : ℕ) → IsDigit (digit x)
  unfolding digit
  is_digit x = record { from = omega arith; to = omega arith }

  first-digit : (k y : ℕ) (u : List ℕ) (c : ℕ) → 1 ≤ y → y < 10 → Leads (digits_after k last y) u c → Leads (number_within k) (digit y ∷ u) c
  unfolding digit
  first-digit k y u c some small way =
      let same : y ≡ digit y - 48 = omega arith in
      onward (digit y) (leads-given (and_intro (le-leb 49 (48 + y % 10) (omega arith)) (le-leb (48 + y % 10) 57 (omega arith)))
      (subst (λ (x : ℕ). Leads (digits_after k last x) u c) same way))

  later-digit : (k y : ℕ) (u : List ℕ) (c : ℕ) → 10 ≤ y → y ≤ 2147483647 → Leads (digits_after k last y) u c → Leads (digits_after (suc k) last (y / 10)) (digit y ∷ u) c
  unfolding digits_after
  later-digit k y u c big small way =
      let same : 10 * (y / 10) + (digit y - 48) ≡ y = digit-same y in
      onward (digit y) (onward-leads (digit y) (is_digit y) (give (y / 10)) (leads-given (digit-may (y / 10) (digit y) (is_digit y) (rw same small))
      (subst (λ (x : ℕ). Leads (digits_after k last x) u c) (sym same) way)))

  one_written : (k j y : ℕ) (u : List ℕ) (c : ℕ) → y < 10 → Sized y → Leads (digits_after j last y) u c → Leads (number_within (k + j)) (digits_within k y ++ u) c
  one_written k j y u c small h way = rw (one-digit k y small) (first-digit (k + j) y u c h.not_zero small (spare-fuels k j y u c way))

  more-written : (k j y : ℕ) (u : List ℕ) (c : ℕ) → 10 ≤ y → Leads (number_within (k + suc j)) (digits_within k (y / 10) ++ (digit y ∷ u)) c
      → Leads (number_within (suc k + j)) (digits_within (suc k) y ++ u) c
  more-written k j y u c big way =
      let fuel : k + suc j ≡ suc k + j = omega arith in
      subst₂ (λ (i : ℕ) (t : List ℕ). Leads (number_within i) t c) fuel
      (sym (ap (λ (l : List ℕ). l ++ u) (more-digits k y big) ∙ append_assoc (digits_within k (y / 10)) (digit y ∷ []) u)) way

  by_size : (k j y : ℕ) (u : List ℕ) (c : ℕ) (small : Bool) → ltb y 10 ≡ small → Sized y → Leads (digits_after j last y) u c
      → (10 ≤ y → Leads (number_within (k + suc j)) (digits_within k (y / 10) ++ (digit y ∷ u)) c) → Leads (number_within (suc k + j)) (digits_within (suc k) y ++ u) c
  by_size k j y u c true e h way further = one_written (suc k) j y u c (ltb-true y 10 e) h way
  by_size k j y u c false e h way further = more-written k j y u c (ltb-false y 10 e) (further (ltb-false y 10 e))

  tenth-sized : (y : ℕ) → 10 ≤ y → Sized y → Sized (y / 10)
  tenth-sized y big h = let small = h.at-most in record { not_zero = omega arith; at-most = omega arith }

  written-leads : (k j y : ℕ) (u : List ℕ) (c : ℕ) → y < 10 ^ suc k → Sized y → Leads (digits_after j last y) u c → Leads (number_within (k + j)) (digits_within k y ++ u) c
  written-leads zero j y u c short h way = one_written zero j y u c (omega (arith, short)) h way
  written-leads (suc k) j y u c short h way = by_size k j y u c (ltb y 10) refl h way (λ big.
      written-leads k (suc j) (y / 10) (digit y ∷ u) c (tenth-below y (10 ^ suc k) (rw (pow-suc 10 (suc k)) at short)) (tenth-sized y big h)
      (later-digit j y u c big h.at-most way))

  -- ---- Wherever a digit is taken, the byte at the end may follow.

  open-end-or : (test : Bool) {a r : Reader ℕ} → Open a → Open r → Open (end_or test a r)
  unfolding end_or
  open-end-or true h k = h
  open-end-or false h k = k

  end_goes : (x : ℕ) (r : Reader ℕ) → GoesOn (end_or (eqb last last) (give x) r)
  unfolding end_or
  end_goes x r = rw (eq-eqb last last refl) by_result

  after-fine : (k x : ℕ) → Fine (digits_after k last x)
  unfolding digits_after
  after-fine zero x = fine-say (last ∷ []) (fine-give x)
  after-fine (suc k) x =
      let goes : GoesOn (digits_after (suc k) last x) = by_byte last (end_goes x _) in
      record {
        everywhere = each_byte goes (λ b. open-end-or (eqb b last) whole (open-given (digit_may x b) (λ may. (after-fine k (10 * x + (b - 48))).everywhere)));
        at_first = goes;
      }

  first-same : (b : ℕ) → 49 ≤ b → b ≤ 57 → digits (b - 48) ≡ b ∷ []
  unfolding digits digit
  first-same b from to = let same : digit (b - 48) ≡ b = omega arith in one-digit 9 (b - 48) (omega arith) ∙ ap (λ (c : ℕ). c ∷ []) same

  magnitude-back : (t : List ℕ) (y : ℕ) → Leads (magnitude last) t y → Sized y × (t ≡ digits y ++ (last ∷ []))
  unfolding magnitude Whole
  magnitude-back t y (onward {t = u} b way) =
      let (may, further) = given-leads (leb 49 b && leb b 57) way in
      let from : 49 ≤ b = leb-true 49 b (and_first (leb 49 b) (leb b 57) may) in
      let to : b ≤ 57 = leb-true b 57 (and_second (leb 49 b) (leb b 57) may) in
      let (sized, same) = after-back 9 (b - 48) (record { not_zero = omega arith; at-most = omega arith }) u y further in
      (sized, ap (λ (l : List ℕ). l ++ u) (sym (first-same b from to)) ∙ same)

  -- The first digit and the others.
  pub magnitude-reads : Reads (magnitude last) Sized (λ x. digits x ++ (last ∷ []))
  unfolding magnitude digits given digits_after
  magnitude-reads =
      let goes : GoesOn (magnitude last) = by_byte 49 (after-fine 9 1).at_first in
      record {
        fine = record { everywhere = each_byte goes (λ b. open-given (leb 49 b && leb b 57) (λ may. (after-fine 9 (b - 48)).everywhere)); at_first = goes };
        there = λ y h. let small = h.at-most in written-leads 9 0 y (last ∷ []) y (omega arith) h (said-giving (last ∷ []) y);
        back = magnitude-back;
      }
