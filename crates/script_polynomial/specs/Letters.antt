-- What the functions that read the factors of a product say. `m` is the product so far, its exponents as one number; `after` is how many variables
-- follow the one that was read last, so that m is a multiple of 16 to that power.
use Rattle.std.specs.Prelude.{true, false, List, ◌≡◌, ℕ, suc, ◌+◌, ◌-◌, ◌*◌, ◌/◌, ◌%◌, ◌^◌, ◌≤◌, ◌<◌, length, Option, None, Some, Result, Ok, Err}
use Rattle.rules.specs.Reader.{Reader}
use Rattle.rules.specs.Text.{letter}
use Rattle.rules.specs.Reading.{factor_may, letters, after_factor}
use Rattle.script_polynomial.specs.At.{read_at, Stops, Reaches}
use Rattle.script_polynomial.specs.declared.Stop.{Stop}
use Rattle.script_polynomial.specs.declared.products.Factor.{Factor}
use Rattle.script_polynomial.specs.declared.products.Factor.TheVariants.{Last, More}

-- A product so far that another factor may follow.
pub record Packed (limit after m : ℕ) : Type 0 where
  pub multiple : (j : ℕ) → j ≤ after → m / 16 ^ j * 16 ^ j ≡ m
  pub digit : m % 16 < 15
  pub below : m < limit

-- The letter is none that may come, or that of the variable that j others follow.
unfoldable pub LetterOf : ℕ → ℕ → ℕ → ℕ → ℕ → Option ℕ → Type 0
LetterOf n limit after m byte None = (j : ℕ) → j ≤ after → byte ≡ letter (n - suc j) → factor_may n limit j (m / 16 ^ j) ≡ false
LetterOf n limit after m byte (Some j) = (j ≤ after) × (byte ≡ letter (n - suc j)) × (factor_may n limit j (m / 16 ^ j) ≡ true)

pub record LetterFound (n limit after m byte : ℕ) (r : Option ℕ) : Type 0 where
  pub found : LetterOf n limit after m byte r

-- The reader of what stands where a factor is to come; k more may come behind that.
abbrev pub factors_left : ℕ → ℕ → ℕ → ℕ → ℕ → Reader ℕ
factors_left n limit k after m = letters n limit (after_factor n limit k) after (m / 16 ^ after)

-- Another factor is to come, at a later position.
pub record Onward (text : List ℕ) (at n limit after m after' m' behind : ℕ) : Type 0 where
  pub packed : Packed limit after' m'
  pub variable : after' < n
  pub more : m < m'
  pub inside : behind ≤ length text
  pub reading : (k : ℕ) → limit ≤ m + suc k → read_at text at (factors_left n limit k after m)
      ≡ read_at text behind (factors_left n limit (k - 1) after' m')

unfoldable pub FactorOf : List ℕ → ℕ → ℕ → ℕ → ℕ → ℕ → Result Factor Stop → Type 0
FactorOf text at n limit after m (Err stop) = (k : ℕ) → limit ≤ m + suc k → Stops text at (factors_left n limit k after m) stop.at
FactorOf text at n limit after m (Ok (Last m' behind)) = ((k : ℕ) → limit ≤ m + suc k → Reaches text at (factors_left n limit k after m) m' behind)
    × (m' ≤ limit)
FactorOf text at n limit after m (Ok (More after' m' behind)) = Onward text at n limit after m after' m' behind

pub record FactorFound (text : List ℕ) (at n limit after m : ℕ) (factor : Result Factor Stop) : Type 0 where
  pub found : FactorOf text at n limit after m factor
