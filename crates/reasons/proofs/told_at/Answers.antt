-- `told_at` meets its contract: step 5 on the way to the atom's place.
use Rattle.std.proofs.Common.{ℕ, sym, ap, ap₂, ◌∙◌, eqb, arith}
use Rattle.tape.specs.Listing.{row-long}
use Rattle.rules.specs.Reasons.{kept_or_narrowed}
use Rattle.reasons.specs.Records.{words_from, words_of, made}
use Rattle.reasons.proofs.Stepping.{way-first, tells-staying, others-here, tells-going, one-stays, one-goes, tells_none}
use Rattle.reasons.proofs.told_at.Goals as goal
use Rattle.reasons.proofs.told_at.Goals.{then-stays-2, else-stays-2}

pub loop-i-init : goal.loop-i-init
loop-i-init c = way-first _ _ _ _ _ c.requires.1

-- it is this one, and stays
pub returns-then-stays : goal.returns-then-stays
returns-then-stays c =
    λ l h.
    let same = sym c.place_of-own.ensures ∙ c.if-own-place_of.true ∙ c.place_of.ensures in
    c.staying.ensures ∙ ap₂ (λ (set own : ℕ). made (kept_or_narrowed (eqb set own) set)) c.set_of.ensures c.set_of-then-stays.ensures
    ∙ ap made (tells-staying _ _ _ _ _ c.loop-i.invariant c.loop-i-test.true c.is_next-stays.ensures c.if-stays.true same h)

-- it is this one, and goes
pub others_of-others-requires : goal.others_of-others-requires
others_of-others-requires c =
    let w = c.loop-i.invariant in
    (omega (arith, w.low, w.rest_lists.size), (row-long w.rest_lists, (omega (arith, w.back), (omega (arith, c.loop-i-test.true), omega (arith, w.few, w.lists.size)))))

pub going-requires : goal.going-requires
going-requires c =
    (c.requires.0, others-here _ _ _ _ _ c.loop-i.invariant c.loop-i-test.true c.is_next-stays.ensures c.others_of-others.ensures c.if-stays.false)

pub returns-then-own-place_of : goal.returns-then-own-place_of
returns-then-own-place_of c =
    λ l h.
    let w = c.loop-i.invariant in
    let same = sym c.place_of-own.ensures ∙ c.if-own-place_of.true ∙ c.place_of.ensures in
    c.going.ensures _ (c.others_of-others.ensures w.left w.carrying w.rest_lists w.lists)
    ∙ ap made (tells-going _ _ _ _ _ w c.loop-i-test.true c.is_next-stays.ensures c.if-stays.false same h)

-- it is another
pub is_next-stays-requires : goal.is_next-stays-requires
is_next-stays-requires c = row-long c.loop-i.invariant.rest_lists

pub loop-i-preserved : goal.loop-i-preserved
loop-i-preserved c =
    elim c.if-stays-2.branch [
      | then-stays-2 w ↦ rw w.kept-is (one-stays _ _ _ _ _ c.loop-i.invariant c.loop-i-test.true c.is_next-stays.ensures w.if-stays-2.true
          (λ e. c.if-own-place_of.false (c.place_of-own.ensures ∙ e ∙ sym c.place_of.ensures)))
      | else-stays-2 w ↦ rw w.kept-is (one-goes _ _ _ _ _ c.loop-i.invariant c.loop-i-test.true c.is_next-stays.ensures w.if-stays-2.false
          (λ e. c.if-own-place_of.false (c.place_of-own.ensures ∙ e ∙ sym c.place_of.ensures)))
    ]

-- it is none of them
pub returns : goal.returns
unfolding made words_of words_from
returns c = λ l h. c.without_places.ensures ∙ ap made (tells_none _ _ _ _ _ c.loop-i.invariant c.loop-i-test.false h)
