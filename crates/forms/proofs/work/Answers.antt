use Rattle.std.proofs.Common.{ap, ◌∙◌, arith}
use mathlib.Core.Path.{subst⁻¹}
use Rattle.forms.specs.declared.WorkingTable.{WorkingTable}
use Rattle.forms.specs.Slots.{turned_slots, numbered_slots}
use Rattle.forms.specs.Working.{is_plain, Worked}
use Rattle.forms.proofs.Worked.{readable, worked, assembled}
use Rattle.forms.proofs.Lent.{lent-sized, coefficients-are, monomials-are, counts-are, forms-laid}
use Rattle.forms.proofs.work.Goals as goal

pub normalize_all-requires : goal.normalize_all-requires
normalize_all-requires c =
    let a = c.args in
    let sized = lent-sized (is_plain a.normal_terms.now) c.requires.1 in (
      readable a.coefficient.now a.monomial.now a.terms.now a.polynomials a.variables c.requires.0,
      omega (arith, c.requires.0.polynomials, sized.laid.coefficients),
      omega (arith, c.requires.0.polynomials, sized.flags),
    )

pub overflow_mul-polynomials : goal.overflow_mul-polynomials
overflow_mul-polynomials c = omega (arith, c.requires.0.polynomials)

pub copy-requires : goal.copy-requires
copy-requires c =
    let sized = lent-sized (is_plain c.args.normal_terms.now) c.requires.1 in (
      omega (arith, c.requires.0.polynomials, c.requires.0.monomials),
      omega (arith, c.requires.0.polynomials, sized.laid.monomials),
    )

pub copy-requires-2 : goal.copy-requires-2
copy-requires-2 c =
    let sized = lent-sized (is_plain c.args.normal_terms.now) c.requires.1 in (
      omega (arith, c.requires.0.polynomials, c.requires.0.counts),
      omega (arith, c.requires.0.polynomials, sized.laid.counts),
    )

pub number_all-requires : goal.number_all-requires
number_all-requires c =
    let plain = is_plain c.args.normal_terms.now in
    let sized = lent-sized plain c.requires.1 in (
      forms-laid plain c.requires.1 c.requires.0 c.normalize_all.ensures.0 c.copy.ensures c.copy-2.ensures,
      c.requires.0.polynomials,
      omega (arith, c.requires.0.polynomials, sized.numbers),
    )

pub fill-requires : goal.fill-requires
fill-requires c =
    let plain = is_plain c.args.normal_terms.now in
    let sized = lent-sized plain c.requires.1 in
    let laid = forms-laid plain c.requires.1 c.requires.0 c.normalize_all.ensures.0 c.copy.ensures c.copy-2.ensures in (
      omega (arith, laid.coefficients),
      omega (arith, laid.monomials),
      omega (arith, laid.counts),
      omega (arith, c.requires.0.polynomials, c.number_all.auto.number, sized.numbers),
    )

pub put_variables-requires : goal.put_variables-requires
put_variables-requires c =
    let plain = is_plain c.args.normal_terms.now in
    let laid = forms-laid plain c.requires.1 c.requires.0 c.normalize_all.ensures.0 c.copy.ensures c.copy-2.ensures in (
      omega (arith, c.fill.auto.coefficient, laid.coefficients),
      omega (arith, c.fill.auto.monomial, laid.monomials),
      omega (arith, c.fill.auto.terms, laid.counts),
      c.requires.0.variables,
    )

pub returns : goal.returns
returns c =
    let a = c.args in
    let plain = is_plain a.normal_terms.now in
    subst⁻¹ (Worked plain a.coefficient.now a.monomial.now a.terms.now a.polynomials a.variables)
    (assembled plain a.coefficient.now a.monomial.now a.terms.now a.polynomials a.variables
    (coefficients-are plain c.requires.1 c.requires.0 c.normalize_all.ensures.0)
    (c.normalize_all.ensures.1 ∙ ap (λ (w : WorkingTable). turned_slots a.coefficient.now a.terms.now w.turned a.polynomials) c.requires.1)
    (monomials-are plain c.requires.1 c.requires.0 c.copy.ensures) (counts-are plain c.requires.1 c.requires.0 c.copy-2.ensures)
    (c.number_all.ensures
    ∙ ap (λ (w : WorkingTable). numbered_slots c.normalize_all.new.target c.copy.new.target c.copy-2.new.target w.number a.polynomials) c.requires.1)
    c.fill.ensures c.put_variables.ensures)
    (worked plain a.coefficient.now a.monomial.now a.terms.now a.polynomials a.variables c.requires.0)
