-- `with_places` meets its contract: the words so far, with the places to come, are the words of all.
use Rattle.std.proofs.Common.{◌+◌, List, ℕ, map, drop, refl, sym, ap, ◌∙◌, arith, length-set}
use Rattle.tape.specs.Token.{place}
use Rattle.reasons.specs.declared.Reason.{Reason}
use Rattle.reasons.specs.Records.{words_from, words_of}
use Rattle.reasons.proofs.Tokens.{words-next, words-done, stored-place, high-place}
use Rattle.reasons.proofs.with_places.Goals as goal
use Rattle.reasons.proofs.with_places.Goals.{then-at-lt256, else-at-lt256}

abbrev made_of : ℕ → ℕ → List ℕ → Reason
made_of kind set words = record { kind = kind; set = set; place = 0; places = words }

pub loop-token-init : goal.loop-token-init
unfolding words_of
loop-token-init c = record { four = refl; all = λ l h. refl }

pub loop-token-preserved : goal.loop-token-preserved
loop-token-preserved c =
    let loop = c.loop-token in
    elim c.if-at-lt256.branch [
      | then-at-lt256 w ↦ rw w.words-is (record {
        four = length-set loop.words _ _ ∙ loop.invariant.four;
        all = λ l h.
            ap (λ (words : List ℕ). words_from words (map place (drop (loop.token-index + 1) l)))
            (stored-place loop.words _ _ _ c.place_of-at.ensures w.power.ensures)
            ∙ sym (words-next h c.loop-token-test.true loop.words) ∙ loop.invariant.all l h;
      })
      | else-at-lt256 w ↦ rw w.words-is (record {
        four = loop.invariant.four;
        all = λ l h.
            sym (words-next h c.loop-token-test.true loop.words
            ∙ ap (λ (words : List ℕ). words_from words (map place (drop (loop.token-index + 1) l)))
            (high-place loop.words _ loop.invariant.four (omega (arith, c.place_of-at.ensures, w.if-at-lt256.false))))
            ∙ loop.invariant.all l h;
      })
    ]

pub returns : goal.returns
unfolding words_of
returns c =
    λ l h. ap (λ (words : List ℕ). made_of c.args.kind c.args.set words)
    (sym (words-done h c.loop-token-test.false c.loop-token.words) ∙ c.loop-token.invariant.all l h)
