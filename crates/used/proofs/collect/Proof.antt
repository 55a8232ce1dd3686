-- `used::collect` meets its contract.
use mathlib.Core.Path.{refl}
use native.Mathlib.Omega.{arith}
use borrow.Author.Rules.{rules}
use Rattle.used.proofs.Slots.{tape-fits}
use Rattle.used.proofs.Collected.{order-fits, collected}
use Rattle.used.proofs.collect.Statement.{statement}
use Rattle.used.proofs.collect.Tie as tie

order-slots-requires : tie.Need-order_slots-polynomials-requires
order-slots-requires c κs =
    let start = c.before.before.before.before.before.before.before.before in
    (tape-fits start.requires.1.holds, refl, refl)

copy-forms-requires : tie.Need-copy_forms-requires
copy-forms-requires c κs =
    let ordering = c.before.before.before.before.before.before in
    let start = ordering.before.before.before.before.before.before.before.before.before in
    let forms = start.requires.0 in
    let room = start.requires.2 in
    let ordered = ordering.order_slots-polynomials.ensures in (
      record { coefficients = forms.coefficients; monomials = forms.monomials; counts = forms.counts; few = forms.few },
      order-fits start.requires.1.holds refl ordered,
      record {
        coefficients = omega (arith, ordered.few, room.coefficients);
        monomials = omega (arith, ordered.few, room.monomials);
        counts = omega (arith, ordered.few, room.counts);
      },
    )

renumber-all-requires : tie.Need-renumber_all-requires
renumber-all-requires c κs =
    let ordering = c.before.before.before.before.before.before.before.before.before.before.before.before.before.before in
    let start = ordering.before.before.before.before.before.before.before.before.before in
    let holds = start.requires.1.holds in
    (tape-fits holds, ordering.order_slots-polynomials.ensures.numbers.size, omega (arith, holds.few, start.requires.2.tokens))

returns : tie.Need-returns
returns c tree h =
    let renumbering = c.before.before in
    let copying = renumbering.before.before.before.before.before.before.before.before in
    let ordering = copying.before.before.before.before.before.before.before in
    let start = ordering.before.before.before.before.before.before.before.before.before in
    let a = start.args in
    collected start.requires.0 h ordering.order_slots-polynomials.ensures a.new_coefficient.now a.new_monomial.now a.new_terms.now a.new_token.now
    (copying.copy_forms.ensures a.variables) renumbering.renumber_all.ensures

pub collect_spec : {M : Type 1} → statement M
collect_spec =
    tie.close
    (tie.spec (λ c. search rules) (λ c. search rules) order-slots-requires (λ c. search rules) copy-forms-requires (λ c. search rules) renumber-all-requires
    (λ c. search rules) (λ c. search rules) (λ c. search rules) (λ c. search rules) returns)
