-- #112: case A's answer as a script, there and back; and where texts stop that go wrong.
use Rattle.std.specs.Prelude.{List, [], ◌∷◌, ◌++◌, map, ◌≡◌, refl, ℕ, pos, negsuc, length}
use Prim.Native.String.{String}
use Rattle.rules.specs.Polynomial.{open_polynomial}
use Rattle.rules.specs.Formula.{leaf, open_formula}
use Rattle.rules.specs.Block.{Block}
use Rattle.rules.specs.Answer.{open_answer}
use Rattle.rules.specs.Report.{open_report}
use Rattle.rules.specs.Reader.{held, stopped, read_from}
use Rattle.rules.specs.Combine.{open_combine}
use Rattle.rules.specs.Text.{bytes, script_of, open_text}
use Rattle.rules.specs.Reading.{read_text, open_reading}

abbrev answer_a : Block
answer_a = record {
  variables = 2;
  table = (record { coefficient = pos 2; monomial = 0x10 } ∷ record { coefficient = negsuc 0; monomial = 0 } ∷ []) ∷ [];
  tree = leaf (record { number = 0; set = 4 });
}

abbrev script_a : List ℕ
script_a = bytes "(set-logic QF_NIA)\n(declare-fun a () Int)\n(declare-fun b () Int)\n(assert (< (+ (* 2 a) (- 1)) 0))\n"

pub script-of-A : script_of answer_a ≡ script_a
unfolding open_polynomial open_formula open_answer open_report open_text
script-of-A = refl

pub A-from-script : read_text script_a ≡ held answer_a
unfolding open_polynomial open_formula open_answer open_report read_from open_combine open_text open_reading
A-from-script = refl

-- A text with two variables whose first part begins some script, and that stops there.
pub record Trap : Type 0 where
  pub right : String
  pub wrong : String

abbrev ◌▸◌ : String → String → Trap
◌▸◌ right wrong = record { right = right; wrong = wrong }

infix 80 ◌▸◌
abbrev begin : Trap → List ℕ
begin trap = bytes "(set-logic QF_NIA)\n(declare-fun a () Int)\n(declare-fun b () Int)\n(assert " ++ bytes trap.right

unfoldable pub traps : List Trap
traps =
    "(> (+ (* 1 a b) (* 2 a" ▸ " b)) 0))\n" ∷
    "(> (+ (* 1 b) (" ▸ "* 2 b)) 0))\n" ∷
    "(> (+ " ▸ "1 2) 0))\n" ∷
    "(> (+ (" ▸ "- 1) 2) 0))\n" ∷
    "(> 214748364" ▸ "8 0))\n" ∷
    "(> (* 1 b b b b b b b b b b b b b b b" ▸ " b) 0))\n" ∷
    "(> (+ (* 1 a) 1" ▸ " (* 1 b)) 0))\n" ∷
    "(and (" ▸ "and (> 1 0) (> 1 0)) (> 1 0)))\n" ∷
    "(> (* 1 " ▸ "c) 0))\n" ∷
    "(> " ▸ "01 0))\n" ∷
    "true)\n" ▸ "\n" ∷
    "fals" ▸ "" ∷
    []

pub traps-stop : map (λ (trap : Trap). read_text (begin trap ++ bytes trap.wrong)) traps ≡ map (λ (trap : Trap). stopped (length (begin trap))) traps
unfolding traps open_polynomial open_formula open_answer open_report read_from open_combine open_text open_reading
traps-stop = refl
