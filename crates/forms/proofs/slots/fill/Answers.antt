use Rattle.std.proofs.Common.{◌≡◌, ℕ, ◌+◌, ◌*◌, ◌<◌, true, false, cond, List, ℤ, pos, length, length-set, sym, ap, ◌∙◌}
use Rattle.normal.specs.Stores.{stores, stores-end, unless-passed, unless-failed}
use Rattle.forms.specs.Slots.{is_own}
use Rattle.forms.proofs.slots.fill.Goals as goal
use Rattle.forms.proofs.slots.fill.Goals.{then-not-is_own, else-not-is_own}

pub loop-i-preserved : goal.loop-i-preserved
loop-i-preserved c =
    let l = c.loop-i in
    let v = l.invariant in
    let own = is_own c.args.number.now c.args.polynomials in
    let h : l.i < 64 = c.loop-i-test.true in
    elim c.if-not-is_own.branch [
      | then-not-is_own w ↦
          let fails : own l.i ≡ false = sym c.is_own.ensures ∙ w.if-not-is_own.true in
          let coefficients = w.coefficient-is ∙ w.put_term.ensures.0 in
          let monomials = w.monomial-is ∙ w.put_term.ensures.1 in
          let counts = w.terms-is ∙ w.put_term.ensures.2 in
          record {
            coefficients-long = ap length coefficients ∙ length-set l.coefficient (16 * l.i) (pos 0) ∙ v.coefficients-long;
            monomials-long = ap length monomials ∙ length-set l.monomial (16 * l.i) (l.i + 1) ∙ v.monomials-long;
            terms-long = ap length counts ∙ length-set l.terms l.i 1 ∙ v.terms-long;
            coefficients = ap (λ (x : List ℤ). stores (pos 0) (λ j. 16 * j) (λ j y. cond (own j) y (pos 0)) x (l.i + 1) 64) coefficients
                ∙ sym (unless-failed (pos 0) (λ j. 16 * j) own (λ j. pos 0) l.coefficient l.i 64 h fails) ∙ v.coefficients;
            monomials = ap (λ (x : List ℕ). stores 0 (λ j. 16 * j) (λ j y. cond (own j) y (j + 1)) x (l.i + 1) 64) monomials
                ∙ sym (unless-failed 0 (λ j. 16 * j) own (λ j. j + 1) l.monomial l.i 64 h fails) ∙ v.monomials;
            counts = ap (λ (x : List ℕ). stores 0 (λ j. j) (λ j y. cond (own j) y 1) x (l.i + 1) 64) counts
                ∙ sym (unless-failed 0 (λ j. j) own (λ j. 1) l.terms l.i 64 h fails) ∙ v.counts;
          }
      | else-not-is_own w ↦
          let passes : own l.i ≡ true = sym c.is_own.ensures ∙ w.if-not-is_own.false in
          record {
            coefficients-long = ap length w.coefficient-is ∙ v.coefficients-long;
            monomials-long = ap length w.monomial-is ∙ v.monomials-long;
            terms-long = ap length w.terms-is ∙ v.terms-long;
            coefficients = ap (λ (x : List ℤ). stores (pos 0) (λ j. 16 * j) (λ j y. cond (own j) y (pos 0)) x (l.i + 1) 64) w.coefficient-is
                ∙ sym (unless-passed (pos 0) (λ j. 16 * j) own (λ j. pos 0) l.coefficient l.i 64 h passes) ∙ v.coefficients;
            monomials = ap (λ (x : List ℕ). stores 0 (λ j. 16 * j) (λ j y. cond (own j) y (j + 1)) x (l.i + 1) 64) w.monomial-is
                ∙ sym (unless-passed 0 (λ j. 16 * j) own (λ j. j + 1) l.monomial l.i 64 h passes) ∙ v.monomials;
            counts = ap (λ (x : List ℕ). stores 0 (λ j. j) (λ j y. cond (own j) y 1) x (l.i + 1) 64) w.terms-is
                ∙ sym (unless-passed 0 (λ j. j) own (λ j. 1) l.terms l.i 64 h passes) ∙ v.counts;
          }
    ]

pub returns : goal.returns
returns c =
    let l = c.loop-i in
    let own = is_own c.args.number.now c.args.polynomials in (
      sym (stores-end (pos 0) (λ j. 16 * j) (λ j x. cond (own j) x (pos 0)) l.coefficient l.i 64 c.loop-i-test.false) ∙ l.invariant.coefficients,
      sym (stores-end 0 (λ j. 16 * j) (λ j x. cond (own j) x (j + 1)) l.monomial l.i 64 c.loop-i-test.false) ∙ l.invariant.monomials,
      sym (stores-end 0 (λ j. j) (λ j x. cond (own j) x 1) l.terms l.i 64 c.loop-i-test.false) ∙ l.invariant.counts,
    )
