-- 01, "The program": the line that tells the verdict and the counts, or the refusal, and the line that has the new block in hex.
-- Texts are lists of bytes, as they are written.
use Rattle.std.specs.Prelude.{Bool, true, false, List, [], ◌∷◌, ◌++◌, ℕ, ◌+◌, ◌/◌, ◌%◌, ltb}
use Rattle.rules.specs.Answer.{Verdict, formula, always, unsatisfiable, Counts, Answer, refusal, answered}

-- "one of the words FORMULA, ALWAYS, UNSATISFIABLE"; "or REFUSED"
unfoldable pub word : Verdict → List ℕ
word formula = 70 ∷ 79 ∷ 82 ∷ 77 ∷ 85 ∷ 76 ∷ 65 ∷ []
word always = 65 ∷ 76 ∷ 87 ∷ 65 ∷ 89 ∷ 83 ∷ []
word unsatisfiable = 85 ∷ 78 ∷ 83 ∷ 65 ∷ 84 ∷ 73 ∷ 83 ∷ 70 ∷ 73 ∷ 65 ∷ 66 ∷ 76 ∷ 69 ∷ []

unfoldable pub refused_word : List ℕ
refused_word = 82 ∷ 69 ∷ 70 ∷ 85 ∷ 83 ∷ 69 ∷ 68 ∷ []

abbrev pub space : ℕ
space = 32

abbrev pub newline : ℕ
newline = 10

-- A number in decimal digits. No count and no refusal number is above 255.
unfoldable pub digit : ℕ → ℕ
digit d = 48 + d % 10

unfoldable pub of_two : Bool → List ℕ → List ℕ → List ℕ
of_two true a b = a
of_two false a b = b

unfoldable pub decimal : ℕ → List ℕ
decimal n =
    of_two (ltb n 10) (digit n ∷ [])
    (of_two (ltb n 100) (digit (n / 10) ∷ digit n ∷ [])
    (digit (n / 100) ∷ digit (n / 10) ∷ digit n ∷ []))

-- "with atoms in, atoms out, polynomials in, polynomials out"
unfoldable pub counts_text : Counts → List ℕ
counts_text c =
    space ∷ decimal c.atoms-in ++ (space ∷ decimal c.atoms-out ++ (space ∷ decimal c.polynomials-in ++ (space ∷ decimal c.polynomials-out)))

-- "lower-case hex pairs, one space apart"
unfoldable pub hex_below_ten : Bool → ℕ → ℕ
hex_below_ten true d = 48 + d
hex_below_ten false d = 87 + d

unfoldable pub hex_digit : ℕ → ℕ
hex_digit d = hex_below_ten (ltb d 10) d

unfoldable pub hex_pair : ℕ → List ℕ
hex_pair byte = hex_digit (byte / 16) ∷ hex_digit (byte % 16) ∷ []

unfoldable pub hex_rest : List ℕ → List ℕ
hex_rest [] = []
hex_rest (byte ∷ bytes) = space ∷ (hex_pair byte ++ hex_rest bytes)

unfoldable pub hex_text : List ℕ → List ℕ
hex_text [] = []
hex_text (byte ∷ bytes) = hex_pair byte ++ hex_rest bytes

-- "prints one line"; "Except on refusal, a second line has the new block". Each line ends with a newline.
unfoldable pub report : Answer → List ℕ
report (refusal number) = refused_word ++ (space ∷ decimal number ++ (newline ∷ []))
report (answered verdict bytes counts) = word verdict ++ (counts_text counts ++ (newline ∷ (hex_text bytes ++ (newline ∷ []))))

-- To unfold this is to unfold every definition of this file.
unfoldable pub open_report : Unit {0}
unfolding word refused_word digit of_two decimal counts_text hex_below_ten hex_digit hex_pair hex_rest hex_text report
open_report = tt
