-- The products of a script: a number, and the variables as often as the exponents say.
use Rattle.std.specs.Prelude.{Bool, ◌||◌, ◌≡◌, leb}
use Rattle.std.proofs.Math.Bool.{true, false, not}
use mathlib.Core.List.{List, [], ◌∷◌, ◌++◌}
use Rattle.std.proofs.Math.Path.{refl, ap, ap₂, subst, subst₂}
use Rattle.std.proofs.Common.{sym, ◌∙◌, pow-suc, mul-div_cancel, le-div_iff_mul-le, mul_assoc, mul_comm, suc-mul, zero-mul}
use Prim.Native.Nat.{ℕ, zero, suc, ◌+◌, ◌-◌, ◌*◌, ◌/◌, ◌%◌, ◌^◌, ◌<◌, ◌≤◌}
use Rattle.std.proofs.Math.Nat.{pow-zero, div-div-eq-div-mul, div-eq_of_lt}
use native.Mathlib.Omega.{arith}
use Rattle.std.proofs.Math.Dec.{eqb, ltb}
use Rattle.std.proofs.Math.ListN.{drop}
use borrow.Author.Tests.{lt-ltb, ltb-true, ltb-false, le-leb, leb-true, ne_eqb}
use Rattle.rules.specs.Polynomial.{exponent}
use Rattle.sign_laws.specs.Booleans.{and_first, and_second, and_intro}
use Rattle.rules.specs.Reader.{Reader, give}
use Rattle.script_laws.specs.Leading.{Leads, arrived, GoesOn, Open}
use Rattle.rules.specs.Combine.{given, say, ◌union◌}
use Rattle.script_laws.specs.CombineLaws.{Reads, Fine, given-leads, leads-given, open-given, goes_given, said, say-leads, fine-give, said-giving, Just, just, say-just, fine-say, goes-say, open-say, Apart, both-given, said-apart, apart-or, differ, leads-left, leads-right, Either, by_left, by_right, or-leads, goes-right, open-or, tellable, differs_from_all, Chosen, this, other, leads-chosen, chosen-leads, no-choice, choices, fine-choices}
use Rattle.rules.specs.Text.{bytes, letter, power, factors}
use Rattle.rules.specs.Reading.{choice, factor_may, any_may, letters, after_factor}

-- ---- The number of the exponents, down to one variable.

positive : (g : ℕ) → 0 < 16 ^ g
positive zero = rw (pow-zero 16) (omega arith)
positive (suc g) = let w = positive g in rw (pow-suc 16 g) (omega arith)

quotient-down : (g m : ℕ) → m / 16 ^ suc g ≡ m / 16 ^ g / 16
quotient-down g m = ap (λ (w : ℕ). m / w) (pow-suc 16 g) ∙ sym (div-div-eq-div-mul m (16 ^ g) 16)

product-down : (g h : ℕ) → 16 * h * 16 ^ g ≡ h * 16 ^ suc g
product-down g h = rw (pow-suc 16 g, mul_comm 16 h, mul_assoc h 16 (16 ^ g), mul_comm 16 (16 ^ g))

-- m has the exponents h, and perhaps more from that variable on.
record Reach (g h m : ℕ) : Type 0 where
  low : h ≤ m / 16 ^ g
  high : m / 16 ^ g / 16 ≡ h / 16

-- The factors that are still to come.
rest : ℕ → ℕ → ℕ → ℕ → List ℕ
rest n g h m = power (n - suc g) (m / 16 ^ g - h) ++ factors (n - g) g m

same-sixteen : (x h : ℕ) → h % 16 < 15 → x / 16 ≡ suc h / 16 → x / 16 ≡ h / 16
same-sixteen x h k e = omega arith

one-reach : (g h m : ℕ) → h % 16 < 15 → Reach g (suc h) m → Reach g h m
one-reach g h m k r = let low = r.low in record { low = omega arith; high = same-sixteen (m / 16 ^ g) h k r.high }

one_fewer : (x h : ℕ) → suc h ≤ x → x - h ≡ suc (x - suc h)
one_fewer x h k = omega arith

one-text : (n g h m : ℕ) → suc h ≤ m / 16 ^ g → 32 ∷ letter (n - suc g) ∷ rest n g (suc h) m ≡ rest n g h m
unfolding rest power
one-text n g h m low = sym (ap (λ (e : ℕ). power (n - suc g) e ++ factors (n - g) g m) (one_fewer (m / 16 ^ g) h low))

sixteenth : (h : ℕ) → 16 * h / 16 ≡ h
sixteenth h = omega arith

down-same : (g h m : ℕ) → Reach g (16 * h) m → m / 16 ^ suc g ≡ h
down-same g h m r = quotient-down g m ∙ r.high ∙ sixteenth h

down-reach : (g h m : ℕ) → Reach g (16 * h) m → Reach (suc g) h m
down-reach g h m r = record { low = rw (down-same g h m r) (omega arith); high = ap (λ (x : ℕ). x / 16) (down-same g h m r) }

last-digit : (x h : ℕ) → 16 * h ≤ x → x / 16 ≡ 16 * h / 16 → x - 16 * h ≡ x % 16
last-digit x h low high = omega arith

none_more : (x h : ℕ) → x ≡ h → x - h ≡ 0
none_more x h e = omega arith

down-text : (n g h m : ℕ) → suc g < n → Reach g (16 * h) m → rest n g (16 * h) m ≡ rest n (suc g) h m
unfolding rest power factors exponent
down-text n g h m inside r =
    let next : n - g ≡ suc (n - suc g) = omega arith in
    ap₂ (λ (e i : ℕ). power (n - suc g) e ++ factors i g m) (last-digit (m / 16 ^ g) h r.low r.high) next
    ∙ sym (ap (λ (e : ℕ). power (n - suc (suc g)) e ++ factors (n - suc g) (suc g) m) (none_more (m / 16 ^ suc g) h (down-same g h m r)))

up-bounds : (x h : ℕ) → x / 16 ≡ h → 16 * h ≤ x
up-bounds x h e = omega arith

up-reach : (g h m : ℕ) → m / 16 ^ suc g ≡ h → Reach g (16 * h) m
up-reach g h m e =
    let same : m / 16 ^ g / 16 ≡ h = sym (quotient-down g m) ∙ e in
    record { low = up-bounds (m / 16 ^ g) h same; high = same ∙ sym (sixteenth h) }

here-same : (g h : ℕ) → h * 16 ^ g / 16 ^ g ≡ h
here-same g h = mul-div_cancel h (positive g)

here-reach : (g h : ℕ) → Reach g h (h * 16 ^ g)
here-reach g h = record { low = rw (here-same g h) (omega arith); high = ap (λ (x : ℕ). x / 16) (here-same g h) }

here-text : (n g h m : ℕ) → g < n → m ≡ h * 16 ^ g → rest n g h m ≡ []
unfolding rest power factors
here-text n zero h m inside e = ap (λ (k : ℕ). power (n - 1) k ++ []) (none_more (m / 16 ^ 0) h (ap (λ (x : ℕ). x / 16 ^ 0) e ∙ here-same 0 h))
here-text n (suc g) h m inside e =
    let below : m ≡ 16 * h * 16 ^ g = e ∙ sym (product-down g h) in
    sym (down-text n g h m inside (subst (Reach g (16 * h)) (sym below) (here-reach g (16 * h)))) ∙ here-text n g (16 * h) m (omega arith) below

-- With one more factor the number is higher.
added_more : (a w m : ℕ) → 0 < w → a + w ≤ m → a < m
added_more a w m some le = omega arith

more-than : (h w m : ℕ) → 0 < w → suc h * w ≤ m → h * w < m
more-than h w m some le = added_more (h * w) w m some (rw (suc-mul h w) at le)

reach-more : (g h m : ℕ) → Reach g (suc h) m → h * 16 ^ g < m
reach-more g h m r = more-than h (16 ^ g) m (positive g) ((le-div_iff_mul-le (positive g)).0 r.low)

-- Arithmetic.
digit-below : (x h : ℕ) → x / 16 ≡ h / 16 → suc h ≤ x → h % 16 < 15
digit-below x h high more = omega arith

digit-same : (x h : ℕ) → x / 16 ≡ h / 16 → suc h ≤ x → x / 16 ≡ suc h / 16
digit-same x h high more = omega arith

≤-both : {a b c : ℕ} → a ≤ b → b ≤ c → a ≤ c
≤-both {a} {b} {c} h k = omega arith

between : (x h : ℕ) → x ≤ h → h ≤ x → x ≡ h
between x h a b = omega arith

all_there : (h m : ℕ) → h * 16 ^ 0 < m → suc h ≤ m / 16 ^ 0
all_there h m more = omega arith

same-tail : {b c : ℕ} {t u : List ℕ} → b ∷ t ≡ c ∷ u → t ≡ u
same-tail e = cc

no_fuel : (m limit a : ℕ) → m ≤ limit → limit ≤ a + 0 → a ≤ m → m ≡ a
no_fuel m limit a small fuel least = omega arith

spent-sum : (limit a w k : ℕ) → 0 < w → limit ≤ a + suc k → limit ≤ a + w + k
spent-sum limit a w k some fuel = omega arith

spent : (limit h w k : ℕ) → 0 < w → limit ≤ h * w + suc k → limit ≤ suc h * w + k
spent limit h w k some fuel = rw (suc-mul h w) (spent-sum limit (h * w) w k some fuel)

sixteens : (a : ℕ) → a * 16 % 16 < 15
sixteens a = omega arith

-- Where m has more, the last exponent so far is below 15.
packed-digit : (g h m : ℕ) → Reach g h m → h * 16 ^ g < m → h * 16 ^ g % 16 < 15
packed-digit zero h m r more = let low = digit-below (m / 16 ^ 0) h r.high (all_there h m more) in omega arith
packed-digit (suc g) h m r more = rw (pow-suc 16 g, ← mul_assoc h (16 ^ g) 16) (sixteens (h * 16 ^ g))

-- ---- The reader.

module _ (n limit : ℕ) where
  -- Behind a factor.
  After : ℕ → ℕ → List ℕ → ℕ → Type 0
  After g h t m = Reach g h m × (m ≤ limit) × (t ≡ rest n g h m ++ bytes ")")

  -- Behind the space that is followed by one more.
  More : ℕ → ℕ → List ℕ → ℕ → Type 0
  More g h t m = Reach g h m × (h * 16 ^ g < m) × (m ≤ limit) × (32 ∷ t ≡ rest n g h m ++ bytes ")")

  more-below : (g h m : ℕ) (t : List ℕ) → suc g < n → More g (16 * h) t m → More (suc g) h t m
  unfolding More
  more-below g h m t inside (r, more, small, text) =
      (down-reach g h m r, subst (λ (x : ℕ). x < m) (product-down g h) more, small, text ∙ ap (λ (l : List ℕ). l ++ bytes ")") (down-text n g h m inside r))

  one-more : (g h m : ℕ) (t : List ℕ) → factor_may n limit g h ≡ true → After g (suc h) t m → More g h (letter (n - suc g) ∷ t) m
  unfolding More After factor_may
  one-more g h m t may (r, small, text) = (
    one-reach g h m (ltb-true (h % 16) 15 (and_first (ltb (h % 16) 15) (leb (suc h * 16 ^ g) limit) may)) r,
    reach-more g h m r,
    small,
    ap (λ (l : List ℕ). 32 ∷ letter (n - suc g) ∷ l) text ∙ ap (λ (l : List ℕ). l ++ bytes ")") (one-text n g h m r.low),
  )

  module _ (onward-to : ℕ → ℕ → Reader ℕ) (back : (g h : ℕ) → g < n → factor_may n limit g h ≡ true → (t : List ℕ) (m : ℕ) → Leads (onward-to g (suc h)) t m → After g (suc h) t m) where
    letter-back : (g h : ℕ) → g < n → {t : List ℕ} {m : ℕ} → Leads (given (factor_may n limit g h) (say (letter (n - suc g) ∷ []) (onward-to g (suc h)))) t m → More g h t m
    letter-back g h inside {t} {m} way =
        let (may, further) = given-leads (factor_may n limit g h) way in
        let behind = say-leads (letter (n - suc g) ∷ []) further in
        subst (λ (l : List ℕ). More g h l m) (sym behind.whole) (one-more g h m behind.rest may (back g h inside may behind.rest m behind.leads))

    letters-back : (g h : ℕ) → g < n → {t : List ℕ} {m : ℕ} → Leads (letters n limit onward-to g h) t m → More g h t m
    unfolding letters
    letters-back zero h inside way = letter-back 0 h inside way
    letters-back (suc g) h inside {t} {m} way = by-either (or-leads (given (factor_may n limit (suc g) h) (say (letter (n - suc (suc g)) ∷ []) (onward-to (suc g) (suc h)))) _ way)
        (λ w. letters-back g (16 * h) (omega arith) w)
      where
        by-either : {t : List ℕ} {m : ℕ} → Either (given (factor_may n limit (suc g) h) (say (letter (n - suc (suc g)) ∷ []) (onward-to (suc g) (suc h)))) (letters n limit onward-to g (16 * h)) t m
            → (Leads (letters n limit onward-to g (16 * h)) t m → More g (16 * h) t m) → More (suc g) h t m
        by-either (by_left w) further = letter-back (suc g) h inside w
        by-either {t} {m} (by_right w) further = more-below g h m t inside (further w)

  here-after : (g h : ℕ) → g < n → h * 16 ^ g ≤ limit → {t : List ℕ} {m : ℕ} → Just (bytes ")") (h * 16 ^ g) t m → After g h t m
  unfolding After
  here-after g h inside small just = (here-reach g h, small, ap (λ (l : List ℕ). l ++ bytes ")") (sym (here-text n g h (h * 16 ^ g) inside refl)))

  given-here : (g h : ℕ) {u : List ℕ} {m : ℕ} → Leads (give (h * 16 ^ g)) u m → Just (bytes ")") (h * 16 ^ g) (bytes ")" ++ u) m
  given-here g h arrived = just

  more-after : (g h m : ℕ) (t : List ℕ) → More g h t m → After g h (bytes " " ++ t) m
  unfolding More After
  more-after g h m t (r, more, small, text) = (r, small, text)

  may-within : (g h : ℕ) → factor_may n limit g h ≡ true → suc h * 16 ^ g ≤ limit
  unfolding factor_may
  may-within g h may = leb-true (suc h * 16 ^ g) limit (and_second (ltb (h % 16) 15) (leb (suc h * 16 ^ g) limit) may)

  after-back : (k g h : ℕ) → g < n → h * 16 ^ g ≤ limit → (t : List ℕ) (m : ℕ) → Leads (after_factor n limit k g h) t m → After g h t m
  unfolding after_factor
  after-back zero g h inside small t m way = here-after g h inside small (say-just (bytes ")") way)
  after-back (suc k) g h inside small t m way =
      by-choice (leads-chosen _ way) (λ u w. letters-back (after_factor n limit k) (λ g₁ h₁ inside₁ may t₁ m₁ w₁. after-back k g₁ (suc h₁) inside₁ (may-within g₁ h₁ may) t₁ m₁ w₁) g h inside w)
    where
      by-choice : {t : List ℕ} {m : ℕ}
          → Chosen (choice true (bytes ")") (give (h * 16 ^ g)) ∷ choice (any_may n limit (h * 16 ^ g)) (bytes " ") (letters n limit (after_factor n limit k) g h) ∷ []) t m
          → ((u : List ℕ) → Leads (letters n limit (after_factor n limit k) g h) u m → More g h u m) → After g h t m
      by-choice {m = m} (other (other x14)) further = elim x14 [ ]
      by-choice (this u e w) further = here-after g h inside small (given-here g h w)
      by-choice {m = m} (other (this u e w)) further = more-after g h m u (further u w)

  -- ---- And back: what is written is read.

  letter-apart : (c g : ℕ) (p q : Bool) (r s : Reader ℕ) → c < letter (n - suc g) → Apart (given p (say (c ∷ []) r)) (given q (say (letter (n - suc g) ∷ []) s))
  unfolding differ
  letter-apart c g p q r s less =
      let unlike : eqb c (letter (n - suc g)) ≡ false = ne_eqb c (letter (n - suc g)) (λ e. absurd (omega arith)) in
      both-given p q (λ a b. said-apart (c ∷ []) (letter (n - suc g) ∷ []) r s (ap (λ (x : Bool). not x || false) unlike))

  letters-apart : (onward-to : ℕ → ℕ → Reader ℕ) (c : ℕ) (p : Bool) (r : Reader ℕ) (g h : ℕ) → g < n → c < letter (n - suc g)
      → Apart (given p (say (c ∷ []) r)) (letters n limit onward-to g h)
  unfolding letters letter
  letters-apart onward-to c p r zero h inside less = letter-apart c 0 p (factor_may n limit 0 h) r (onward-to 0 (suc h)) less
  letters-apart onward-to c p r (suc g) h inside less =
      apart-or (letter-apart c (suc g) p (factor_may n limit (suc g) h) r (onward-to (suc g) (suc h)) less)
      (letters-apart onward-to c p r g (16 * h) (omega arith) (omega arith))

  module _ (onward-to : ℕ → ℕ → Reader ℕ) (m : ℕ) (small : m ≤ limit) (packed : ℕ)
      (there : (g h : ℕ) → g < n → h * 16 ^ g ≡ packed → Reach g (suc h) m → Leads (onward-to g (suc h)) (rest n g (suc h) m ++ bytes ")") m) where
    -- The letter that comes next is the first that m has more of.
    letter-may : (g h : ℕ) → Reach g h m → suc h ≤ m / 16 ^ g → factor_may n limit g h ≡ true
    unfolding factor_may
    letter-may g h r more =
        let le : suc h * 16 ^ g ≤ m = (le-div_iff_mul-le (positive g)).0 more in
        and_intro (lt-ltb (h % 16) 15 (digit-below (m / 16 ^ g) h r.high more)) (le-leb (suc h * 16 ^ g) limit (≤-both le small))

    letter-there : (g h : ℕ) → g < n → h * 16 ^ g ≡ packed → Reach g h m → suc h ≤ m / 16 ^ g → (u : List ℕ) → 32 ∷ u ≡ rest n g h m ++ bytes ")"
        → Leads (given (factor_may n limit g h) (say (letter (n - suc g) ∷ []) (onward-to g (suc h)))) u m
    letter-there g h inside at r more u text =
        let one : 32 ∷ letter (n - suc g) ∷ (rest n g (suc h) m ++ bytes ")") ≡ rest n g h m ++ bytes ")" = ap (λ (l : List ℕ). l ++ bytes ")") (one-text n g h m more) in
        let same : letter (n - suc g) ∷ (rest n g (suc h) m ++ bytes ")") ≡ u = same-tail (one ∙ sym text) in
        subst (λ (l : List ℕ). Leads (given (factor_may n limit g h) (say (letter (n - suc g) ∷ []) (onward-to g (suc h)))) l m) same
        (leads-given (letter-may g h r more) (said (letter (n - suc g) ∷ []) (there g h inside at (record { low = more; high = digit-same (m / 16 ^ g) h r.high more }))))

    letters-there : (g h : ℕ) → g < n → h * 16 ^ g ≡ packed → Reach g h m → h * 16 ^ g < m → (u : List ℕ) → 32 ∷ u ≡ rest n g h m ++ bytes ")" → Leads (letters n limit onward-to g h) u m
    unfolding letters letter
    letters-there zero h inside at r more u text = letter-there 0 h inside at r (all_there h m more) u text
    letters-there (suc g) h inside at r more u text = by-digit (ltb h (m / 16 ^ suc g)) refl (λ q. letters-there g (16 * h) (omega arith) (product-down g h ∙ at) q)
      where
        by-digit : (b : Bool) → ltb h (m / 16 ^ suc g) ≡ b
            → (Reach g (16 * h) m → 16 * h * 16 ^ g < m → (u : List ℕ) → 32 ∷ u ≡ rest n g (16 * h) m ++ bytes ")" → Leads (letters n limit onward-to g (16 * h)) u m)
            → Leads (given (factor_may n limit (suc g) h) (say (letter (n - suc (suc g)) ∷ []) (onward-to (suc g) (suc h))) union letters n limit onward-to g (16 * h)) u m
        by-digit true e further = leads-left (letters-apart onward-to _ _ _ g (16 * h) (omega arith) (omega arith)) (letter-there (suc g) h inside at r (ltb-true h (m / 16 ^ suc g) e) u text)
        by-digit false e further =
            let least = ltb-false h (m / 16 ^ suc g) e in
            let low = r.low in
            let same : m / 16 ^ suc g ≡ h = between (m / 16 ^ suc g) h least low in
            let q = up-reach g h m same in
            leads-right (letters-apart onward-to _ _ _ g (16 * h) (omega arith) (omega arith))
            (further q (subst (λ (x : ℕ). x < m) (sym (product-down g h)) more) u (text ∙ ap (λ (l : List ℕ). l ++ bytes ")") (sym (down-text n g h m inside q))))

  -- Where a factor is still to come, its space is next.
  record SpaceNext (t : List ℕ) : Type 0 where
    others : List ℕ
    same : 32 ∷ others ≡ t

  space-one : (g h m : ℕ) → suc h ≤ m / 16 ^ g → SpaceNext (rest n g h m ++ bytes ")")
  space-one g h m more = record { others = letter (n - suc g) ∷ (rest n g (suc h) m ++ bytes ")"); same = ap (λ (l : List ℕ). l ++ bytes ")") (one-text n g h m more) }

  space-next : (g h m : ℕ) → g < n → Reach g h m → h * 16 ^ g < m → SpaceNext (rest n g h m ++ bytes ")")
  space-next zero h m inside r more = space-one 0 h m (all_there h m more)
  space-next (suc g) h m inside r more = by-digit (ltb h (m / 16 ^ suc g)) refl (λ q. space-next g (16 * h) m (omega arith) q)
    where
      by-digit : (b : Bool) → ltb h (m / 16 ^ suc g) ≡ b → (Reach g (16 * h) m → 16 * h * 16 ^ g < m → SpaceNext (rest n g (16 * h) m ++ bytes ")")) → SpaceNext (rest n (suc g) h m ++ bytes ")")
      by-digit true e further = space-one (suc g) h m (ltb-true h (m / 16 ^ suc g) e)
      by-digit false e further =
          let same : m / 16 ^ suc g ≡ h = between (m / 16 ^ suc g) h (ltb-false h (m / 16 ^ suc g) e) r.low in
          let q = up-reach g h m same in
          let found = further q (subst (λ (x : ℕ). x < m) (sym (product-down g h)) more) in
          record { others = found.others; same = found.same ∙ ap (λ (l : List ℕ). l ++ bytes ")") (down-text n g h m inside q) }

  any-may : (g h m : ℕ) → Reach g h m → h * 16 ^ g < m → m ≤ limit → any_may n limit (h * 16 ^ g) ≡ true
  unfolding any_may
  any-may g h m r more small =
      let less : h * 16 ^ g < limit = ≤-both more small in
      and_intro (lt-ltb (h * 16 ^ g % 16) 15 (packed-digit g h m r more)) (lt-ltb (h * 16 ^ g) limit less)

  reach-least : (g h m : ℕ) → Reach g h m → h * 16 ^ g ≤ m
  reach-least g h m r = (le-div_iff_mul-le (positive g)).0 r.low

  after-there : (k g h m : ℕ) → g < n → Reach g h m → m ≤ limit → limit ≤ h * 16 ^ g + k → Leads (after_factor n limit k g h) (rest n g h m ++ bytes ")") m
  unfolding after_factor tellable differs_from_all differ
  after-there zero g h m inside r small fuel =
      let here : m ≡ h * 16 ^ g = no_fuel m limit (h * 16 ^ g) small fuel (reach-least g h m r) in
      subst₂ (λ (l : List ℕ) (x : ℕ). Leads (say (bytes ")") (give (h * 16 ^ g))) l x) (ap (λ (l : List ℕ). l ++ bytes ")") (sym (here-text n g h m inside here))) (sym here)
      (said-giving (bytes ")") (h * 16 ^ g))
  after-there (suc k) g h m inside r small fuel =
      chosen-leads _ refl (by_size (ltb (h * 16 ^ g) m) refl (λ g₁ h₁ inside₁ at q. after-there k g₁ (suc h₁) m inside₁ q small
      (spent limit h₁ (16 ^ g₁) k (positive g₁) (subst (λ (x : ℕ). limit ≤ x + suc k) (sym at) fuel))))
    where
      by_size : (b : Bool) → ltb (h * 16 ^ g) m ≡ b
          → ((g₁ h₁ : ℕ) → g₁ < n → h₁ * 16 ^ g₁ ≡ h * 16 ^ g → Reach g₁ (suc h₁) m → Leads (after_factor n limit k g₁ (suc h₁)) (rest n g₁ (suc h₁) m ++ bytes ")") m)
          → Chosen (choice true (bytes ")") (give (h * 16 ^ g)) ∷ choice (any_may n limit (h * 16 ^ g)) (bytes " ") (letters n limit (after_factor n limit k) g h) ∷ []) (rest n g h m ++ bytes ")") m
      by_size true e further =
          let more : h * 16 ^ g < m = ltb-true (h * 16 ^ g) m e in
          let next = space-next g h m inside r more in
          subst (λ (l : List ℕ). Chosen (choice true (bytes ")") (give (h * 16 ^ g)) ∷ choice (any_may n limit (h * 16 ^ g)) (bytes " ") (letters n limit (after_factor n limit k) g h) ∷ []) l m)
          next.same (other (this next.others (any-may g h m r more small)
          (letters-there (after_factor n limit k) m small (h * 16 ^ g) further g h inside refl r more next.others next.same)))
      by_size false e further =
          let here : m ≡ h * 16 ^ g = between m (h * 16 ^ g) (ltb-false (h * 16 ^ g) m e) (reach-least g h m r) in
          subst₂ (Chosen (choice true (bytes ")") (give (h * 16 ^ g)) ∷ choice (any_may n limit (h * 16 ^ g)) (bytes " ") (letters n limit (after_factor n limit k) g h) ∷ []))
          (ap (λ (l : List ℕ). l ++ bytes ")") (sym (here-text n g h m inside here))) (sym here) (this [] refl arrived)

  -- ---- Wherever a factor is taken, the product may end; and where a space is, the last variable may come.

  module _ (onward-to : ℕ → ℕ → Reader ℕ) (fine : (g h : ℕ) → Fine (onward-to g (suc h))) where
    letters-open : (g h : ℕ) → Open (letters n limit onward-to g h)
    unfolding letters
    letters-open zero h = open-given (factor_may n limit 0 h) (λ may. open-say (letter (n - 1) ∷ []) (fine 0 h))
    letters-open (suc g) h =
        open-or (open-given (factor_may n limit (suc g) h) (λ may. open-say (letter (n - suc (suc g)) ∷ []) (fine (suc g) h))) (letters-open g (16 * h))

    last-may : (h : ℕ) → any_may n limit (h * 16 ^ 0) ≡ true → factor_may n limit 0 h ≡ true
    unfolding any_may factor_may
    last-may h may =
        let digit : h * 16 ^ 0 % 16 < 15 = ltb-true (h * 16 ^ 0 % 16) 15 (and_first (ltb (h * 16 ^ 0 % 16) 15) (ltb (h * 16 ^ 0) limit) may) in
        let less : h * 16 ^ 0 < limit = ltb-true (h * 16 ^ 0) limit (and_second (ltb (h * 16 ^ 0 % 16) 15) (ltb (h * 16 ^ 0) limit) may) in
        and_intro (lt-ltb (h % 16) 15 (omega arith)) (le-leb (suc h * 16 ^ 0) limit (omega arith))

    letters-go : (g h : ℕ) → any_may n limit (h * 16 ^ g) ≡ true → GoesOn (letters n limit onward-to g h)
    unfolding letters
    letters-go zero h may = goes_given (last-may h may) (goes-say (letter (n - 1) ∷ []) (fine 0 h).at_first)
    letters-go (suc g) h may = goes-right _ (letters-go g (16 * h) (subst (λ (x : ℕ). any_may n limit x ≡ true) (sym (product-down g h)) may))

    letters-fine : (g h : ℕ) → any_may n limit (h * 16 ^ g) ≡ true → Fine (letters n limit onward-to g h)
    letters-fine g h may = record { everywhere = letters-open g h; at_first = letters-go g h may }

  after-fine : (k g h : ℕ) → Fine (after_factor n limit k g h)
  unfolding after_factor
  after-fine zero g h = fine-say (bytes ")") (fine-give (h * 16 ^ g))
  after-fine (suc k) g h = fine-choices refl (choices (λ e. fine-give (h * 16 ^ g)) (choices (λ e. letters-fine (after_factor n limit k) (λ g₁ h₁. after-fine k g₁ (suc h₁)) g h e) no-choice))

-- ---- All factors, from the first variable on.

-- A monomial that is not 1, within the limit.
pub record Between (limit m : ℕ) : Type 0 where
  pub not_constant : 0 < m
  pub at-most : m ≤ limit

-- The text without its first space.
unfoldable pub letters_text : ℕ → ℕ → List ℕ
letters_text n m = drop 1 (factors 0 n m ++ bytes ")")

spare : (a b : ℕ) → a ≤ b + a
spare a b = omega arith

no-quotient : (x : ℕ) → x / 16 ≡ 0 → x - 0 ≡ x % 16
no-quotient x e = omega arith

module _ (before limit : ℕ) (inside : limit < 16 ^ suc before) where
  all-below : (m : ℕ) → m ≤ limit → m / 16 ^ before / 16 ≡ 0
  all-below m small = sym (quotient-down before m) ∙ div-eq_of_lt (≤-both {b = suc limit} (omega arith) inside)

  start-reach : (m : ℕ) → m ≤ limit → Reach before 0 m
  start-reach m small = record { low = omega arith; high = all-below m small }

  start-text : (m : ℕ) → m ≤ limit → rest (suc before) before 0 m ≡ factors 0 (suc before) m
  unfolding rest factors exponent
  start-text m small =
      let zeroth : suc before - suc before ≡ 0 = omega arith in
      let first : suc before - before ≡ 1 = omega arith in
      ap₂ (λ (i j : ℕ). power i (m / 16 ^ before - 0) ++ factors j before m) zeroth first
      ∙ ap (λ (e : ℕ). power 0 e ++ factors 1 before m) (no-quotient (m / 16 ^ before) (all-below m small))

  from_nothing : (m : ℕ) → 0 < m → 0 * 16 ^ before < m
  from_nothing m some = rw (zero-mul (16 ^ before)) some

  space-first : (m : ℕ) → Between limit m → 32 ∷ letters_text (suc before) m ≡ rest (suc before) before 0 m ++ bytes ")"
  unfolding letters_text
  space-first m b =
      let next = space-next (suc before) limit before 0 m (omega arith) (start-reach m b.at-most) (from_nothing m b.not_constant) in
      let same : 32 ∷ next.others ≡ factors 0 (suc before) m ++ bytes ")" = next.same ∙ ap (λ (l : List ℕ). l ++ bytes ")") (start-text m b.at-most) in
      ap (λ (l : List ℕ). 32 ∷ drop 1 l) (sym same) ∙ next.same

  first_back : (t : List ℕ) (m : ℕ) → Leads (letters (suc before) limit (after_factor (suc before) limit limit) before 0) t m → Between limit m × (t ≡ letters_text (suc before) m)
  unfolding More letters_text
  first_back t m way =
      let (r, more, small, text) = letters-back (suc before) limit (after_factor (suc before) limit limit)
      (λ g h within may t₁ m₁ w. after-back (suc before) limit limit g (suc h) within (may-within (suc before) limit g h may) t₁ m₁ w) before 0 (omega arith) way in (
        record { not_constant = rw (zero-mul (16 ^ before)) at more; at-most = small },
        ap (λ (l : List ℕ). drop 1 l) (text ∙ ap (λ (l : List ℕ). l ++ bytes ")") (start-text m small)),
      )

  first-there : (m : ℕ) → Between limit m → Leads (letters (suc before) limit (after_factor (suc before) limit limit) before 0) (letters_text (suc before) m) m
  first-there m b = letters-there (suc before) limit (after_factor (suc before) limit limit) m b.at-most (0 * 16 ^ before)
      (λ g h within at q. after-there (suc before) limit limit g (suc h) m within q b.at-most (spare limit (suc h * 16 ^ g)))
      before 0 (omega arith) refl (start-reach m b.at-most) (from_nothing m b.not_constant) (letters_text (suc before) m) (space-first m b)

  first_any : 1 ≤ limit → any_may (suc before) limit (0 * 16 ^ before) ≡ true
  unfolding any_may
  first_any some = rw (zero-mul (16 ^ before)) (lt-ltb 0 limit some)

  first_reads : 1 ≤ limit → Reads (letters (suc before) limit (after_factor (suc before) limit limit) before 0) (Between limit) (letters_text (suc before))
  first_reads some = record {
    fine = letters-fine (suc before) limit (after_factor (suc before) limit limit) (λ g h. after-fine (suc before) limit limit g (suc h)) before 0 (first_any some);
    there = first-there;
    back = first_back;
  }

  pub letters-read : 1 ≤ limit → Reads (letters (suc before) limit (after_factor (suc before) limit limit) (suc before - 1) 0) (Between limit) (letters_text (suc before))
  letters-read some =
      let same : before ≡ suc before - 1 = omega arith in
      subst (λ (g : ℕ). Reads (letters (suc before) limit (after_factor (suc before) limit limit) g 0) (Between limit) (letters_text (suc before))) same (first_reads some)

  -- The text with its first space.
  pub letters-text : (m : ℕ) → Between limit m → 32 ∷ letters_text (suc before) m ≡ factors 0 (suc before) m ++ bytes ")"
  letters-text m b = space-first m b ∙ ap (λ (l : List ℕ). l ++ bytes ")") (start-text m b.at-most)
