use Rattle.std.proofs.Common.{get_or, ap, arith, ◌∙◌, ℕ, ◌*◌}
use Rattle.rules.specs.Polynomial.{same}
use Rattle.terms.specs.View.{terms_from}
use Rattle.forms.proofs.Searches.{other-count}
use Rattle.forms.proofs.slots.same_form.Goals as goal

pub returns-then-count-terms : goal.returns-then-count-terms
returns-then-count-terms c =
    let a = c.args in
    other-count a.coefficient.now a.monomial.now (16 * a.first) (16 * a.second) (get_or a.terms.now a.first 0) (get_or a.terms.now a.second 0) c.if-count-terms.true

pub same_terms-requires : goal.same_terms-requires
same_terms-requires c = omega (arith, c.requires.0.few c.args.first)

pub returns : goal.returns
returns c =
    let a = c.args in
    c.same_terms.ensures
    ∙ ap (λ (n : ℕ). same (terms_from a.coefficient.now a.monomial.now (16 * a.first) (get_or a.terms.now a.first 0))
    (terms_from a.coefficient.now a.monomial.now (16 * a.second) n)) c.if-count-terms.false
