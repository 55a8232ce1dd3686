-- The letters that may come next, in one step: one byte decides between all the variables from the last one on.
use mathlib.Core.Bool.{Bool, true, false}
use mathlib.Core.List.{List, [], ◌∷◌}
use mathlib.Core.Path.{◌≡◌, refl, sym, ap, ◌∙◌}
use Prim.Native.Nat.{ℕ, zero, suc, ◌+◌, ◌-◌, ◌*◌, ◌/◌, ◌%◌, ◌^◌, ◌≤◌, ◌<◌}
use native.Mathlib.Decide.{dec_le}
use native.Mathlib.Nat.{pow-suc, pow-zero, mul-one, mul_assoc, mul_comm, mul-div_cancel, one-le-pow}
use native.Mathlib.Omega.{arith}
use lib.Dec.{eqb}
use lib.ListN.{length, get_or}
use borrow.Author.Tests.{eq-eqb, ne_eqb, eqb-true, lt-ltb, le-leb}
use Rattle.sign_laws.specs.Booleans.{and_intro}
use Rattle.rules.specs.Reader.{Reader, stuck, ask}
use Rattle.rules.specs.Combine.{given, say, ◌union◌}
use Rattle.rules.specs.Text.{letter}
use Rattle.rules.specs.Reading.{factor_may, letters}
use Rattle.script_laws.specs.Steps.{stop}
use Rattle.script_polynomial.specs.At.{read_at, byte-on, byte-stops}
use Rattle.script_polynomial.specs.Ways.{or-stuck}

-- ---- A reader that decides on one byte: what it goes on with behind each.

module _ {A : Type 0} where
  data Asks : Reader A → (ℕ → Reader A) → Type 0 where
    asks : {g f : ℕ → Reader A} → ((b : ℕ) → g b ≡ f b) → Asks (ask g) f
    asks-not : {f : ℕ → Reader A} → ((b : ℕ) → f b ≡ stuck) → Asks stuck f

  data IsAsk : Reader A → Type 0 where
    is_ask : {g : ℕ → Reader A} → IsAsk (ask g)

  union-asks : {r s : Reader A} {f g : ℕ → Reader A} → Asks r f → Asks s g → Asks (r union s) (λ b. f b union g b)
  unfolding ◌union◌
  union-asks {f = f} {g = g} (asks {g = f₁} p) (asks {g = g₁} q) = asks {g = λ b. f₁ b union g₁ b} {f = λ b. f b union g b} (λ b. rw (p b, q b))
  union-asks {f = f} {g = g} (asks {g = f₁} p) (asks-not q) = asks {g = f₁} {f = λ b. f b union g b} (λ b. rw (q b, or-stuck (f b)) (p b))
  union-asks {f = f} {g = g} (asks-not p) (asks {g = g₁} q) = asks {g = g₁} {f = λ b. f b union g b} (λ b. rw (p b) (q b))
  union-asks {f = f} {g = g} (asks-not p) (asks-not q) = asks-not {f = λ b. f b union g b} (λ b. rw (p b, q b))

  given-asks : (x : Bool) (c : ℕ) (r : Reader A) → Asks (given x (say (c ∷ []) r)) (λ b. given x (given (eqb b c) r))
  unfolding given say
  given-asks true c r = asks (λ b. refl)
  given-asks false c r = asks-not (λ b. refl)

  union-is-ask : (x : Bool) (c : ℕ) (r : Reader A) {s : Reader A} → IsAsk s → IsAsk (given x (say (c ∷ []) r) union s)
  unfolding ◌union◌ given say
  union-is-ask true c r is_ask = is_ask
  union-is-ask false c r is_ask = is_ask

  module _ (text : List ℕ) (at : ℕ) where
    asks-on : {r : Reader A} {f : ℕ → Reader A} → IsAsk r → Asks r f → at < length text → read_at text at r ≡ read_at text (at + 1) (f (get_or text at 0))
    asks-on is_ask (asks {g = g} p) h = byte-on text at g h ∙ ap (read_at text (at + 1)) (p (get_or text at 0))

    asks-stop : {r : Reader A} {f : ℕ → Reader A} → IsAsk r → Asks r f → f (get_or text at 0) ≡ stuck → read_at text at r ≡ stop at
    asks-stop is_ask (asks {g = g} p) none = byte-stops text at g (p (get_or text at 0) ∙ none)

-- ---- Powers of 16.

pub some-power : (g : ℕ) → 0 < 16 ^ g
some-power g = one-le-pow g 16 (omega arith)

down : (g h : ℕ) → h * 16 ^ suc g ≡ 16 * h * 16 ^ g
down g h = rw (pow-suc 16 g, mul_comm 16 h, mul_assoc h 16 (16 ^ g), mul_comm 16 (16 ^ g))

pub here : (g h : ℕ) → h * 16 ^ g / 16 ^ g ≡ h
here g h = mul-div_cancel h (some-power g)

-- ---- The letters.

module _ (n limit : ℕ) (onward : ℕ → ℕ → Reader ℕ) where
  -- What stands behind a byte.
  unfoldable letters_at : ℕ → ℕ → ℕ → Reader ℕ
  letters_at zero h b = given (factor_may n limit 0 h) (given (eqb b (letter (n - 1))) (onward 0 (suc h)))
  letters_at (suc g) h b = given (factor_may n limit (suc g) h) (given (eqb b (letter (n - suc (suc g)))) (onward (suc g) (suc h))) union letters_at g
      (16 * h) b

  letters-ask : (g h : ℕ) → Asks (letters n limit onward g h) (letters_at g h)
  unfolding letters letters_at
  letters-ask zero h = given-asks (factor_may n limit 0 h) (letter (n - 1)) (onward 0 (suc h))
  letters-ask (suc g) h = union-asks (given-asks (factor_may n limit (suc g) h) (letter (n - suc (suc g))) (onward (suc g) (suc h)))
      (letters-ask g (16 * h))

  letters-are : (g h : ℕ) → factor_may n limit 0 (h * 16 ^ g) ≡ true → IsAsk (letters n limit onward g h)
  unfolding letters given say
  letters-are zero h e = let e₁ : factor_may n limit 0 h ≡ true = rw (pow-zero 16, mul-one h) at e in rw e₁ is_ask
  letters-are (suc g) h e = union-is-ask (factor_may n limit (suc g) h) (letter (n - suc (suc g))) (onward (suc g) (suc h))
      (letters-are g (16 * h) (rw (down g h) at e))

  stuck-given : (x y : Bool) (r : Reader ℕ) → (y ≡ true → x ≡ false) → given x (given y r) ≡ stuck
  unfolding given
  stuck-given x true r h = rw (h refl)
  stuck-given true false r h = refl
  stuck-given false false r h = refl

  -- No letter.
  none-at : (g h b m : ℕ) → m ≡ h * 16 ^ g → ((j : ℕ) → j ≤ g → b ≡ letter (n - suc j) → factor_may n limit j (m / 16 ^ j) ≡ false)
      → letters_at g h b ≡ stuck
  unfolding letters_at ◌union◌
  none-at zero h b m e none =
      let same : m / 16 ^ 0 ≡ h = ap (λ (x : ℕ). x / 16 ^ 0) e ∙ here 0 h in
      stuck-given (factor_may n limit 0 h) (eqb b (letter (n - 1))) (onward 0 (suc h))
      (λ y. rw same at (none 0 (omega arith) (eqb-true b (letter (n - 1)) y)))
  none-at (suc g) h b m e none =
      let same : m / 16 ^ suc g ≡ h = ap (λ (x : ℕ). x / 16 ^ suc g) e ∙ here (suc g) h in
      let first = stuck-given (factor_may n limit (suc g) h) (eqb b (letter (n - suc (suc g)))) (onward (suc g) (suc h))
      (λ y. rw same at (none (suc g) (omega arith) (eqb-true b (letter (n - suc (suc g))) y))) in
      rw first (none-at g (16 * h) b m (e ∙ down g h) (λ j l. none j (omega arith)))

  -- One letter.
  one_at : (g h b m j : ℕ) → g < n → m ≡ h * 16 ^ g → j ≤ g → b ≡ letter (n - suc j) → factor_may n limit j (m / 16 ^ j) ≡ true
      → letters_at g h b ≡ onward j (suc (m / 16 ^ j))
  unfolding letters_at ◌union◌ given letter
  one_at zero h b m j inside e l is may =
      let j-is : j ≡ 0 = omega arith in
      let same : m / 16 ^ 0 ≡ h = ap (λ (x : ℕ). x / 16 ^ 0) e ∙ here 0 h in
      let may₁ : factor_may n limit 0 h ≡ true = rw (j-is, same) at may in
      let is₁ : b ≡ 97 + (n - 1) = rw j-is at is in
      rw (j-is, same, may₁, eq-eqb b (97 + (n - 1)) is₁)
  one_at (suc g) h b m j inside e l is may = by (dec_le j g) (λ lower. one_at g (16 * h) b m j (omega arith) (e ∙ down g h) lower is may)
    where
      first_here : (x : Bool) → (r : Reader ℕ) → given x (given false r) ≡ stuck
      first_here true r = refl
      first_here false r = refl

      by : Dec (j ≤ g) → (j ≤ g → letters_at g (16 * h) b ≡ onward j (suc (m / 16 ^ j))) → letters_at (suc g) h b ≡ onward j (suc (m / 16 ^ j))
      by (yes lower) further =
          let other : eqb b (97 + (n - suc (suc g))) ≡ false = ne_eqb b (97 + (n - suc (suc g))) (λ same. omega arith) in
          rw (other, first_here (factor_may n limit (suc g) h) (onward (suc g) (suc h))) (further lower)
      by (no higher) further =
          let j-is : j ≡ suc g = omega (arith, higher) in
          let same : m / 16 ^ suc g ≡ h = ap (λ (x : ℕ). x / 16 ^ suc g) e ∙ here (suc g) h in
          let may₁ : factor_may n limit (suc g) h ≡ true = rw (j-is, same) at may in
          let is₁ : b ≡ 97 + (n - suc (suc g)) = rw j-is at is in
          let later = none-at g (16 * h) b m (e ∙ down g h) (λ i i-below same-letter. absurd (omega (arith, is₁, same-letter, i-below, inside))) in
          rw (j-is, same, may₁, eq-eqb b (97 + (n - suc (suc g))) is₁, later) (or-stuck (onward (suc g) (suc h)))

  -- ---- What is read where a letter is to come.

  module _ (text : List ℕ) (at : ℕ) {b : ℕ} (b-is : b ≡ get_or text at 0) (g m : ℕ) (inside : g < n) (multiple : m / 16 ^ g * 16 ^ g ≡ m)
      (digit : m % 16 < 15) (below : m < limit) where
    any : factor_may n limit 0 (m / 16 ^ g * 16 ^ g) ≡ true
    unfolding factor_may
    any = rw (multiple, pow-zero 16, mul-one (suc m)) (and_intro (lt-ltb (m % 16) 15 digit) (le-leb (suc m) limit below))

    pub letter-stops : ((j : ℕ) → j ≤ g → b ≡ letter (n - suc j) → factor_may n limit j (m / 16 ^ j) ≡ false) → read_at text at
        (letters n limit onward g (m / 16 ^ g)) ≡ stop at
    letter-stops none =
        asks-stop text at (letters-are g (m / 16 ^ g) any) (letters-ask g (m / 16 ^ g)) (rw (← b-is) (none-at g (m / 16 ^ g) b m (sym multiple) none))

    pub letter-on : at < length text → (j : ℕ) → j ≤ g → b ≡ letter (n - suc j) → factor_may n limit j (m / 16 ^ j) ≡ true
        → read_at text at (letters n limit onward g (m / 16 ^ g)) ≡ read_at text (at + 1) (onward j (suc (m / 16 ^ j)))
    letter-on h j l is may =
        asks-on text at (letters-are g (m / 16 ^ g) any) (letters-ask g (m / 16 ^ g)) h
        ∙ ap (read_at text (at + 1)) (rw (← b-is) (one_at g (m / 16 ^ g) b m j inside (sym multiple) l is may))
