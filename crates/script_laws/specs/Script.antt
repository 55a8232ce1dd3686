-- The declarations, and the whole script.
use Rattle.std.specs.Prelude.{Bool, true, false, ◌≡◌, ℕ, zero, suc, ◌+◌, ◌-◌, ◌<◌, ◌≤◌, ltb}
use mathlib.Core.List.{List, [], ◌∷◌, ◌++◌, append_assoc}
use Rattle.std.proofs.Math.Path.{refl, ap}
use Rattle.std.proofs.Common.{sym, subst, ◌∙◌, arith, lt-ltb, ltb-true, ltb-false}
use Rattle.rules.specs.Block.{Block}
use Rattle.script_laws.specs.Leading.{Leads}
use Rattle.rules.specs.Combine.{say, Choice}
use Rattle.script_laws.specs.CombineLaws.{Reads, fine-say, say-leads, said, Behind, tellable, differs_from_all, differ, Chosen, this, other, leads-chosen, chosen-leads, no-choice, choices, fine-choices}
use Rattle.rules.specs.Text.{bytes, declaration, declarations, formula_text, script_of}
use Rattle.rules.specs.Reading.{choice, root, declarations_from, script}
use Rattle.script_laws.specs.Root.{RootBlock, root_end, root-reads}

-- A block with a variable at least, and i to i + k of them.
pub record Declared (i k : ℕ) (block : Block) : Type 0 where
  pub some : 1 ≤ block.variables
  pub from : i ≤ block.variables
  pub to : block.variables ≤ i + k
  pub root : RootBlock block.variables block

-- The text behind i declarations.
text_from : ℕ → Block → List ℕ
text_from i block = declarations i (block.variables - i) ++ (bytes "(assert " ++ root_end block)

root-at : (i : ℕ) → 0 < i → Reads (root i) (RootBlock i) root_end
root-at zero h = absurd (omega arith)
root-at (suc i) h = root-reads i

FromBack : ℕ → ℕ → List ℕ → Block → Type 0
FromBack i k t block = Declared i k block × (t ≡ text_from i block)

none_left : (n i : ℕ) → n ≡ i → n - i ≡ 0
none_left n i e = omega arith

assert-text : (i : ℕ) (block : Block) → block.variables ≡ i → bytes "(assert " ++ root_end block ≡ text_from i block
unfolding text_from declarations
assert-text i block e = sym (ap (λ (k : ℕ). declarations i k ++ (bytes "(assert " ++ root_end block)) (none_left block.variables i e))

declare-text : (i : ℕ) (block : Block) → suc i ≤ block.variables → declaration i ++ text_from (suc i) block ≡ text_from i block
unfolding text_from declarations
declare-text i block h =
    let one : block.variables - i ≡ suc (block.variables - suc i) = omega arith in
    sym (append_assoc (declaration i) (declarations (suc i) (block.variables - suc i)) (bytes "(assert " ++ root_end block))
    ∙ sym (ap (λ (k : ℕ). declarations i k ++ (bytes "(assert " ++ root_end block)) one)

assert-back : (i k : ℕ) → 0 < i → (u : List ℕ) (block : Block) → Leads (root i) u block → FromBack i k (bytes "(assert " ++ u) block
unfolding FromBack
assert-back i k some u block way =
    let (h, text) = (root-at i some).back u block way in
    let same = h.variables in (
      record { some = omega arith; from = omega arith; to = omega arith; root = subst (λ (n : ℕ). RootBlock n block) (sym same) h },
      ap (λ (l : List ℕ). bytes "(assert " ++ l) text ∙ assert-text i block same,
    )

module _ (i k : ℕ) (later : Reads (declarations_from (suc i) k) (Declared (suc i) k) (text_from (suc i))) where
  abbrev declare_or_assert : List (Choice Block)
  declare_or_assert = choice true (declaration i) (declarations_from (suc i) k) ∷ choice (ltb 0 i) (bytes "(assert ") (root i) ∷ []

  declare-back : (u : List ℕ) (block : Block) → Leads (declarations_from (suc i) k) u block → FromBack i (suc k) (declaration i ++ u) block
  unfolding FromBack
  declare-back u block way =
      let (h, text) = later.back u block way in
      let from = h.from in
      let to = h.to in
      (record { some = h.some; from = omega arith; to = omega arith; root = h.root }, ap (λ (l : List ℕ). declaration i ++ l) text ∙ declare-text i block from)

  choice-back : {t : List ℕ} {block : Block} → Chosen declare_or_assert t block → FromBack i (suc k) t block
  choice-back {t = t} {block = block} (other (other x10)) = elim x10 [ ]
  choice-back (this u {a = block} e way) = declare-back u block way
  choice-back (other (this u {a = block} e way)) = assert-back i (suc k) (ltb-true 0 i e) u block way

  by_count : (b : Bool) (block : Block) → ltb i block.variables ≡ b → Declared i (suc k) block → Chosen declare_or_assert (text_from i block) block
  by_count true block e h =
      let less = ltb-true i block.variables e in
      let to = h.to in
      subst (λ (l : List ℕ). Chosen declare_or_assert l block) (declare-text i block less)
      (this (text_from (suc i) block) refl (later.there block (record { some = h.some; from = less; to = omega arith; root = h.root })))
  by_count false block e h =
      let least = ltb-false i block.variables e in
      let from = h.from in
      let some = h.some in
      let same : block.variables ≡ i = omega arith in
      let positive : 0 < i = omega arith in
      subst (λ (l : List ℕ). Chosen declare_or_assert l block) (assert-text i block same)
      (other (this (root_end block) (lt-ltb 0 i positive) ((root-at i positive).there block (subst (λ (n : ℕ). RootBlock n block) same h.root))))

  more-read : Reads (declarations_from i (suc k)) (Declared i (suc k)) (text_from i)
  unfolding declarations_from FromBack tellable differs_from_all differ declaration
  more-read = record {
    fine = fine-choices refl (choices (λ e. later.fine) (choices (λ e. (root-at i (ltb-true 0 i e)).fine) no-choice));
    there = λ block h. chosen-leads declare_or_assert refl (by_count (ltb i block.variables) block refl h);
    back = λ t block way. choice-back (leads-chosen declare_or_assert way);
  }

last-back : (i : ℕ) → 0 < i → {t : List ℕ} {block : Block} → Behind (bytes "(assert ") (root i) t block → FromBack i 0 t block
last-back i some {t} {block} h = subst (λ (l : List ℕ). FromBack i 0 l block) (sym h.whole) (assert-back i 0 some h.rest block h.leads)

last-there : (i : ℕ) → 0 < i → (block : Block) → Declared i 0 block → Leads (declarations_from i 0) (text_from i block) block
unfolding declarations_from
last-there i some block h =
    let from = h.from in
    let to = h.to in
    let same : block.variables ≡ i = omega arith in
    subst (λ (l : List ℕ). Leads (say (bytes "(assert ") (root i)) l block) (assert-text i block same)
    (said (bytes "(assert ") ((root-at i some).there block (subst (λ (n : ℕ). RootBlock n block) same h.root)))

declarations-read : (i k : ℕ) → 0 < i + k → Reads (declarations_from i k) (Declared i k) (text_from i)
unfolding declarations_from FromBack
declarations-read i zero some =
    let positive : 0 < i = omega arith in
    record { fine = fine-say (bytes "(assert ") (root-at i positive).fine; there = last-there i positive; back = λ t block way. last-back i positive (say-leads (bytes "(assert ") way) }
declarations-read i (suc k) some = more-read i k (declarations-read (suc i) k (omega arith))

-- ---- The script.

whole-text : (block : Block) → bytes "(set-logic QF_NIA)\n" ++ text_from 0 block ≡ script_of block
unfolding text_from script_of formula_text root_end
whole-text block =
    let all : block.variables - 0 ≡ block.variables = omega arith in
    ap (λ (k : ℕ). bytes "(set-logic QF_NIA)\n" ++ (declarations 0 k ++ (bytes "(assert " ++ root_end block))) all

script-back : {t : List ℕ} {block : Block} → Behind (bytes "(set-logic QF_NIA)\n") (declarations_from 0 16) t block → Declared 0 16 block × (t ≡ script_of block)
script-back {t} {block} h =
    let (declared, text) = (declarations-read 0 16 (omega arith)).back h.rest block h.leads in
    (declared, h.whole ∙ ap (λ (l : List ℕ). bytes "(set-logic QF_NIA)\n" ++ l) text ∙ whole-text block)

-- The reader of scripts reads just the scripts, each as its block; and where it stops, it stops exactly.
pub script-reads : Reads script (Declared 0 16) script_of
unfolding script
script-reads =
    let all = declarations-read 0 16 (omega arith) in
    record {
      fine = fine-say (bytes "(set-logic QF_NIA)\n") all.fine;
      there = λ block h. subst (λ (l : List ℕ). Leads script l block) (whole-text block) (said (bytes "(set-logic QF_NIA)\n") (all.there block h));
      back = λ t block way. script-back (say-leads (bytes "(set-logic QF_NIA)\n") way);
    }
