-- What the functions that read numbers say: where the book's reader stops, or what it reads and how far.
use Rattle.std.specs.Prelude.{List, [], ◌∷◌, ℕ, ℤ, pos, neg_ℤ, Result, Ok, Err}
use Rattle.rules.specs.Reader.{Reader, give}
use Rattle.rules.specs.Combine.{say, ◌then◌}
use Rattle.rules.specs.Text.{bytes}
use Rattle.rules.specs.Reading.{magnitude}
use Rattle.script_polynomial.specs.At.{Stops, Reaches}
use Rattle.script_polynomial.specs.declared.Read.{Read}
use Rattle.script_polynomial.specs.declared.Stop.{Stop}

unfoldable pub NumberOf : List ℕ → ℕ → Reader ℕ → (ℕ → Type 0) → Result (Read ℕ) Stop → Type 0
NumberOf text at r P (Err stop) = Stops text at r stop.at
NumberOf text at r P (Ok number) = Reaches text at r number.value number.behind × P number.value

pub record NumberFound (text : List ℕ) (at : ℕ) (r : Reader ℕ) (P : ℕ → Type 0) (number : Result (Read ℕ) Stop) : Type 0 where
  pub found : NumberOf text at r P number

-- The two ways to write a number of either sign.
abbrev pub plain_number : ℕ → Reader ℤ
plain_number last = magnitude last then λ x. give (pos x)

abbrev pub minus_number : ℕ → Reader ℤ
minus_number last = say (bytes "(- ") (magnitude 41 then λ x. say (last ∷ []) (give (neg_ℤ (pos x))))

unfoldable pub ValueOf : List ℕ → ℕ → Reader ℤ → Result (Read ℤ) Stop → Type 0
ValueOf text at r (Err stop) = Stops text at r stop.at
ValueOf text at r (Ok number) = Reaches text at r number.value number.behind

pub record ValueFound (text : List ℕ) (at : ℕ) (r : Reader ℤ) (value : Result (Read ℤ) Stop) : Type 0 where
  pub found : ValueOf text at r value
