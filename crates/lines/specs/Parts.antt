-- The lines by their parts, and how long each part is.
use Rattle.std.specs.Prelude.{◌≡◌, refl, Bool, true, false, List, [], ◌∷◌, ◌++◌, ℕ, ◌+◌, ◌-◌, ◌*◌, ◌/◌, ◌≤◌, ltb, length}
use Rattle.std.proofs.Common.{ap, append_assoc, arith, length-append}
use Rattle.rules.specs.Answer.{Verdict, formula, always, unsatisfiable, Counts, refusal, answered}
use Rattle.rules.specs.Report.{word, refused_word, digit, of_two, decimal, counts_text, hex_pair, hex_rest, hex_text, report, newline}

-- ---- the report line

of-two-long : (b : Bool) (xs ys : List ℕ) (most : ℕ) → length xs ≤ most → length ys ≤ most → length (of_two b xs ys) ≤ most
unfolding of_two
of-two-long true xs ys most h k = h
of-two-long false xs ys most h k = k

pub decimal-long : (n : ℕ) → length (decimal n) ≤ 3
unfolding decimal
decimal-long n =
    of-two-long (ltb n 10) (digit n ∷ []) (of_two (ltb n 100) (digit (n / 10) ∷ digit n ∷ []) (digit (n / 100) ∷ digit (n / 10) ∷ digit n ∷ [])) 3
    (omega arith)
    (of-two-long (ltb n 100) (digit (n / 10) ∷ digit n ∷ []) (digit (n / 100) ∷ digit (n / 10) ∷ digit n ∷ []) 3 (omega arith) (omega arith))

pub word-long : (verdict : Verdict) → length (word verdict) ≤ 13
unfolding word
word-long formula = omega arith
word-long always = omega arith
word-long unsatisfiable = omega arith

pub counts-long : (counts : Counts) → length (counts_text counts) ≤ 16
unfolding counts_text
counts-long counts =
    let first = decimal-long counts.atoms-in in
    let second = decimal-long counts.atoms-out in
    let third = decimal-long counts.polynomials-in in
    let fourth = decimal-long counts.polynomials-out in
    simp length-append (omega arith)

pub refusal-long : (number : ℕ) → length (report (refusal number)) ≤ 12
unfolding report refused_word
refusal-long number = simp length-append (omega (arith, decimal-long number))

-- ---- the hex line

pub rest-long : (block : List ℕ) → length (hex_rest block) ≡ 3 * length block
unfolding hex_rest hex_pair
rest-long [] = refl
rest-long (byte ∷ block) = omega (arith, rest-long block)

-- Two digits for each byte, and a space between each two.
pub hex-long : (block : List ℕ) → length (hex_text block) ≡ 3 * length block - 1
unfolding hex_text hex_pair
hex-long [] = refl
hex-long (byte ∷ block) = omega (arith, rest-long block)

-- ---- both lines

-- The first line of an answer.
unfoldable pub answer_line : Verdict → Counts → List ℕ
answer_line verdict counts = word verdict ++ (counts_text counts ++ (newline ∷ []))

pub line-long : (verdict : Verdict) (counts : Counts) → length (answer_line verdict counts) ≤ 30
unfolding answer_line
line-long verdict counts = simp length-append (omega (arith, word-long verdict, counts-long counts))

-- The second stands behind it.
pub answer-lines : (verdict : Verdict) (block : List ℕ) (counts : Counts)
    → answer_line verdict counts ++ (hex_text block ++ (newline ∷ [])) ≡ report (answered verdict block counts)
unfolding report answer_line
answer-lines verdict block counts = simp append_assoc

pub lines_long : (verdict : Verdict) (block : List ℕ) (counts : Counts)
    → length (report (answered verdict block counts)) ≡ length (answer_line verdict counts) + (3 * length block - 1) + 1
lines_long verdict block counts = omega (arith, simp length-append at (ap length (answer-lines verdict block counts)), hex-long block)
