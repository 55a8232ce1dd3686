-- `reason_for` meets its contract: false, merged, or by step 5.
use borrow.Author.Rules.{rules}
use mathlib.Core.Path.{sym, ◌∙◌}
use Rattle.reasons.proofs.Explaining.{carried_row, joined-row, sifted, false-told, merged-told, stepped-told}
use Rattle.reasons.proofs.reason_for.Statement.{statement}
use Rattle.reasons.proofs.reason_for.Tie as tie

returns : tie.Need-returns-then-fates
returns c l f low = false-told f c.before.if-fates.true c.with_places.ensures _

returns-2 : tie.Need-returns-then-first-place_of
returns-2 c l f low =
    let s = c.before.before.before.before.before.before.before in
    merged-told s.requires.0 s.args.token c.before.before.before.first_place-first.ensures f c.before.before.before.before.if-fates.false
    (λ e. c.before.if-first-place_of.true (e ∙ sym c.before.before.place_of.ensures)) low c.without_places.ensures

returns-3 : tie.Need-returns
returns-3 c l f low =
    let s = c.before.before.before.before.before.before.before in
    stepped-told s.requires.0 s.args.token c.before.before.before.first_place-first.ensures f c.before.before.before.before.if-fates.false
    (c.before.if-first-place_of.false ∙ c.before.before.place_of.ensures) c.told_at.ensures

pub reason_for_spec : {M : Type 1} → statement M
reason_for_spec =
    tie.close
    (tie.spec (λ c κs. carried_row c.before.before.before.requires.1) returns
    (λ c κs. joined-row c.before.before.before.requires.1 c.if-fates.false) (λ c κs. search rules)
    (λ c. search rules) (λ c κs. search rules) returns-2
    (λ c κs. let s = c.before.before.before.before.before.before in
    (s.requires.0, sifted s.requires.1 c.before.before.before.if-fates.false)) returns-3)
