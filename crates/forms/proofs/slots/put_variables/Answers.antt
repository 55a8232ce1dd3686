use Rattle.std.proofs.Common.{ℕ, suc, ◌+◌, ◌-◌, ◌*◌, ◌^◌, ◌<◌, List, ℤ, pos, set, length, length-set, sym, ap, ◌∙◌, arith}
use Rattle.normal.specs.Stores.{stores, stores-step, stores-end}
use Rattle.forms.proofs.Numbers.{variable-shifted}
use Rattle.forms.proofs.slots.put_variables.Goals as goal

pub loop-i-preserved : goal.loop-i-preserved
loop-i-preserved c =
    let l = c.loop-i in
    let w = l.invariant in
    let n = c.args.variables in
    let put = c.put_term.ensures in
    let h : l.i < n = c.loop-i-test.true in
    let power : ℕ → ℕ = λ j. 16 ^ (n - suc j) in
    let stored = put.1 ∙ ap (set l.monomial (16 * (64 + l.i))) (variable-shifted n l.i (omega arith) h) in
    record {
      coefficients-long = ap length put.0 ∙ length-set l.coefficient (16 * (64 + l.i)) (pos 1) ∙ w.coefficients-long;
      monomials-long = ap length stored ∙ length-set l.monomial (16 * (64 + l.i)) (power l.i) ∙ w.monomials-long;
      terms-long = ap length put.2 ∙ length-set l.terms (64 + l.i) 1 ∙ w.terms-long;
      coefficients = ap (λ (x : List ℤ). stores (pos 0) (λ j. 16 * (64 + j)) (λ j y. pos 1) x (l.i + 1) n) put.0
          ∙ sym (stores-step (pos 0) (λ j. 16 * (64 + j)) (λ j y. pos 1) l.coefficient l.i n h) ∙ w.coefficients;
      monomials = ap (λ (x : List ℕ). stores 0 (λ j. 16 * (64 + j)) (λ j y. power j) x (l.i + 1) n) stored
          ∙ sym (stores-step 0 (λ j. 16 * (64 + j)) (λ j y. power j) l.monomial l.i n h) ∙ w.monomials;
      counts = ap (λ (x : List ℕ). stores 0 (λ j. 64 + j) (λ j y. 1) x (l.i + 1) n) put.2
          ∙ sym (stores-step 0 (λ j. 64 + j) (λ j y. 1) l.terms l.i n h) ∙ w.counts;
    }

pub returns : goal.returns
returns c =
    let l = c.loop-i in
    let n = c.args.variables in (
      sym (stores-end (pos 0) (λ j. 16 * (64 + j)) (λ j x. pos 1) l.coefficient l.i n c.loop-i-test.false) ∙ l.invariant.coefficients,
      sym (stores-end 0 (λ j. 16 * (64 + j)) (λ j x. 16 ^ (n - suc j)) l.monomial l.i n c.loop-i-test.false) ∙ l.invariant.monomials,
      sym (stores-end 0 (λ j. 64 + j) (λ j x. 1) l.terms l.i n c.loop-i-test.false) ∙ l.invariant.counts,
    )
