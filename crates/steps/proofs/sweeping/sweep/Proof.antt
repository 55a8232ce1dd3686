-- `sweep` meets its contract: a walk over the children with the signs of the board, and with the words of the state's atoms.
use borrow.Author.Rules.{rules}
use Prim.Native.Nat.{ℕ}
use lib.ListN.{length-replicate}
use Rattle.round.specs.SignedSlots.{form-slots, table-signed}
use Rattle.steps.proofs.sweeping.sweep.Statement.{statement}
use Rattle.steps.proofs.sweeping.sweep.Tie as tie

words-of-requires : tie.Need-words_of-falls-requires
words-of-requires c κs =
    let worked-out = c.sign_table in
    let forms = c.requires.0 in
    (form-slots forms worked-out.auto.sign, (forms.coefficients, (length-replicate {A = ℕ} 128 0, length-replicate {A = ℕ} 130 0)))

walk-over-requires : tie.Need-walk_over-requires
walk-over-requires c κs =
    let words = c.before.before.before.before.before in
    let signs = words in
    let pre = signs.requires in
    let worked-out = signs.sign_table in (
      record {
        forms = pre.0;
        variables = pre.1.0.0;
        settles = pre.1.0.1;
        signed = rw worked-out.ensures (table-signed _ _ pre.0 (search rules));
        long = worked-out.auto.sign;
        words = words.words_of-falls.ensures;
      },
      pre.1.1,
    )

pub sweep_spec : {M : Type 1} → statement M
sweep_spec =
    tie.close
    (tie.spec (λ c. search rules) (λ c κs. search rules) (λ c. search rules) (λ c. search rules) (λ c. search rules) words-of-requires
    (λ c. search rules) (λ c. search rules) (λ c. search rules) walk-over-requires (λ c. c.walk_over.ensures))
