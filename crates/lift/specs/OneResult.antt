-- 01, "How tight the statements are": "any two results allowed for one input are proved equal". For each public function one record of what a call
-- of it leaves, and the law that its contract allows only one for what was lent.
use Rattle.std.specs.Prelude.{◌≡◌, Result, List, ℕ}
use Rattle.std.proofs.Common.{sym, ◌∙◌}
use Rattle.rules.specs.Block.{read_block}
use Rattle.block.specs.declared.Held.{Held}
use Rattle.block.specs.declared.Refusal.{Refusal as BlockRefusal}
use Rattle.block.specs.Held.{HeldFound, held-found-once}
use Rattle.answer.specs.declared.Answer.{Answer}
use Rattle.answer.specs.declared.Refusal.{Refusal}
use Rattle.answer.specs.Refusals.{one_returned}
use Rattle.answer.specs.declared.WithRounds.{WithRounds}
use Rattle.answer.specs.Entry.{Answers}
use Rattle.lift.specs.Part.{Fills}
use Rattle.lift.specs.Exported.{ExportsAnswer, ExportsLength, ExportsCounts, ExportsPlaces, ExportsRounds}
use Rattle.lift.specs.Lines.{Reports}
use Rattle.lift.specs.Places.{PlacedAnswers}
use Rattle.lift.specs.Rounds.{RoundsAnswers}

-- Two that are one third are each other.
both : {A : Type 0} {a b c : A} → a ≡ c → b ≡ c → a ≡ b
both e f = e ∙ sym f

-- ---- the entries

-- `lift::simplify`: the answer and the output.
pub record LeftBySimplify : Type 0 where
  pub returned : Result Answer Refusal
  pub output : List ℕ

pub one_answer : (bytes before : List ℕ) (left other : LeftBySimplify)
    → Answers bytes before left.output left.returned → Answers bytes before other.output other.returned → left ≡ other
one_answer bytes before left other a b =
    let returned = one_returned left.returned other.returned (both a.returns b.returns) in
    let output = both a.output b.output in
    λ i. record { returned = returned i; output = output i }

-- `lift::placed`: the answer, the output and the slice of places.
pub record LeftByPlaced : Type 0 where
  pub returned : Result Answer Refusal
  pub output : List ℕ
  pub places : List ℕ

pub one_placed : (bytes before slice : List ℕ) (left other : LeftByPlaced)
    → PlacedAnswers bytes before left.output slice left.places left.returned
    → PlacedAnswers bytes before other.output slice other.places other.returned → left ≡ other
one_placed bytes before slice left other a b =
    let returned = one_returned left.returned other.returned (both a.returns b.returns) in
    let output = both a.output b.output in
    let places = both a.places b.places in
    λ i. record { returned = returned i; output = output i; places = places i }

-- `lift::with_rounds`: the answer with the number of rounds, and the output.
pub record LeftByRounds : Type 0 where
  pub returned : WithRounds
  pub output : List ℕ

pub one-number-of-rounds : (bytes before : List ℕ) (left other : LeftByRounds)
    → RoundsAnswers bytes before left.output left.returned → RoundsAnswers bytes before other.output other.returned → left ≡ other
one-number-of-rounds bytes before left other a b =
    let answer = one_returned left.returned.answer other.returned.answer (both a.answers.returns b.answers.returns) in
    let rounds = both a.rounds b.rounds in
    let output = both a.answers.output b.answers.output in
    λ i. record { returned = record { answer = answer i; rounds = rounds i }; output = output i }

-- `lift::simplified`: the part's bytes and the place where it begins. (The output itself is spent: of the bytes past the part nothing is said.)
pub record LeftBySimplified : Type 0 where
  pub part : List ℕ
  pub at : ℕ × ℕ

pub one-part : (bytes before : List ℕ) (start : ℕ × ℕ) (left other : LeftBySimplified)
    → Fills bytes before start left.part left.at → Fills bytes before start other.part other.at → left ≡ other
one-part bytes before start left other a b =
    let part = both a.0 b.0 in
    let at = both a.1 b.1 in
    λ i. record { part = part i; at = at i }

-- `lift::report` and `placardpan_report`: how many bytes were told, the output and the text.
pub record LeftByReport : Type 0 where
  pub returned : ℕ
  pub output : List ℕ
  pub text : List ℕ

pub one-report : (bytes before text : List ℕ) (left other : LeftByReport)
    → Reports bytes before left.output text left.text left.returned
    → Reports bytes before other.output text other.text other.returned → left ≡ other
one-report bytes before text left other a b =
    let returned = both a.lines.returns b.lines.returns in
    let output = both a.output b.output in
    let told = both a.lines.text b.lines.text in
    λ i. record { returned = returned i; output = output i; text = told i }

-- ---- the entries for C

-- `placardpan_simplify`, `placardpan_simplified`: a number and the output.
pub record LeftByExport : Type 0 where
  pub returned : ℕ
  pub output : List ℕ

pub one_number : (bytes before : List ℕ) (left other : LeftByExport)
    → ExportsAnswer bytes before left.output left.returned → ExportsAnswer bytes before other.output other.returned → left ≡ other
one_number bytes before left other a b =
    let returned = both a.0 b.0 in
    let output = both a.1 b.1 in
    λ i. record { returned = returned i; output = output i }

pub one-length : (bytes before : List ℕ) (left other : LeftByExport)
    → ExportsLength bytes before left.output left.returned → ExportsLength bytes before other.output other.returned → left ≡ other
one-length bytes before left other a b =
    let returned = both a.0 b.0 in
    let output = both a.1 b.1 in
    λ i. record { returned = returned i; output = output i }

-- `placardpan_counted`: a number, the output and the four counts.
pub record LeftByCounted : Type 0 where
  pub returned : ℕ
  pub output : List ℕ
  pub atoms-in : ℕ
  pub atoms-out : ℕ
  pub polynomials-in : ℕ
  pub polynomials-out : ℕ

abbrev CountsLeft : List ℕ → List ℕ → LeftByCounted → Type 0
CountsLeft bytes before left =
    ExportsCounts bytes before left.output left.returned left.atoms-in left.atoms-out left.polynomials-in left.polynomials-out

pub one-counted : (bytes before : List ℕ) (left other : LeftByCounted) → CountsLeft bytes before left → CountsLeft bytes before other → left ≡ other
one-counted bytes before left other a b =
    let returned = both a.0 b.0 in
    let output = both a.1 b.1 in
    let atoms-in = both a.2 b.2 in
    let atoms-out = both a.3 b.3 in
    let polynomials-in = both a.4 b.4 in
    let polynomials-out = both a.5 b.5 in
    λ i. record {
      returned = returned i;
      output = output i;
      atoms-in = atoms-in i;
      atoms-out = atoms-out i;
      polynomials-in = polynomials-in i;
      polynomials-out = polynomials-out i;
    }

-- `placardpan_placed`: a number, the output and the slice of places.
pub record LeftByExportedPlaces : Type 0 where
  pub returned : ℕ
  pub output : List ℕ
  pub places : List ℕ

pub one-exported-places : (bytes before slice : List ℕ) (left other : LeftByExportedPlaces)
    → ExportsPlaces bytes before left.output slice left.places left.returned
    → ExportsPlaces bytes before other.output slice other.places other.returned → left ≡ other
one-exported-places bytes before slice left other a b =
    let returned = both a.0 b.0 in
    let output = both a.1 b.1 in
    let places = both a.2 b.2 in
    λ i. record { returned = returned i; output = output i; places = places i }

-- `placardpan_rounds`: a number, the output and the number of rounds.
pub record LeftByExportedRounds : Type 0 where
  pub returned : ℕ
  pub output : List ℕ
  pub rounds : ℕ

pub one-exported-rounds : (bytes before : List ℕ) (left other : LeftByExportedRounds)
    → ExportsRounds bytes before left.output left.returned left.rounds
    → ExportsRounds bytes before other.output other.returned other.rounds → left ≡ other
one-exported-rounds bytes before left other a b =
    let returned = both a.0 b.0 in
    let output = both a.1 b.1 in
    let rounds = both a.2 b.2 in
    λ i. record { returned = returned i; output = output i; rounds = rounds i }

-- ---- the reader

-- `block::read` leaves what it returns: the refusal or the arrays.
pub one-outcome : (bytes : List ℕ) (left other : Result Held BlockRefusal) → HeldFound bytes left → HeldFound bytes other → left ≡ other
one-outcome bytes left other a b = held-found-once bytes a b
