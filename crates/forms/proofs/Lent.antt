-- The lent arrays on the way through `work`: blank, save the mark, when it begins; and what the passes that read the block leave in them.
use mathlib.Core.Path.{◌≡◌, sym, ap, ◌∙◌, subst, subst₃}
use mathlib.Core.Bool.{Bool}
use mathlib.Core.List.{List, ◌++◌}
use Prim.Native.Nat.{ℕ, ◌*◌}
use native.Mathlib.Omega.{arith}
use lib.IntN.{ℤ}
use lib.ListN.{take, drop}
use Rattle.forms.specs.declared.WorkingTable.{WorkingTable}
use Rattle.forms.specs.Slots.{Laid, normal_slots, copied}
use Rattle.forms.specs.Working.{TableRead, blank, with_forms}
use Rattle.forms.proofs.Copies.{copied-is}
use Rattle.forms.proofs.Passes.{Sized, normalized-sized}
use Rattle.forms.proofs.Worked.{readable, blank-sized}

module _ {w : WorkingTable} (plain : Bool) (is-blank : w ≡ blank plain) where
  pub lent-sized : Sized w
  lent-sized = subst Sized (sym is-blank) (blank-sized plain)

  module _ {cs : List ℤ} {ms ts : List ℕ} {m n : ℕ} (read : TableRead cs ms ts m n) where
    pub coefficients-are : {cs' : List ℤ} → cs' ≡ normal_slots cs ts w.coefficient 0 m → cs' ≡ (with_forms cs ms ts m (blank plain)).coefficient
    coefficients-are e = e ∙ ap (λ (v : WorkingTable). normal_slots cs ts v.coefficient 0 m) is-blank

    pub monomials-are : {ms' : List ℕ} → ms' ≡ take (16 * m) ms ++ drop (16 * m) w.monomial → ms' ≡ (with_forms cs ms ts m (blank plain)).monomial
    monomials-are e =
        e ∙ sym (copied-is ms w.monomial (16 * m) (omega (arith, read.polynomials, read.monomials)) (omega (arith, read.polynomials, lent-sized.laid.monomials)))
        ∙ ap (λ (v : WorkingTable). copied ms v.monomial (16 * m)) is-blank

    pub counts-are : {ts' : List ℕ} → ts' ≡ take m ts ++ drop m w.terms → ts' ≡ (with_forms cs ms ts m (blank plain)).terms
    counts-are e =
        e ∙ sym (copied-is ts w.terms m (omega (arith, read.polynomials, read.counts)) (omega (arith, read.polynomials, lent-sized.laid.counts)))
        ∙ ap (λ (v : WorkingTable). copied ts v.terms m) is-blank

    pub forms-laid : {cs' : List ℤ} {ms' ts' : List ℕ} → cs' ≡ normal_slots cs ts w.coefficient 0 m → ms' ≡ take (16 * m) ms ++ drop (16 * m) w.monomial
        → ts' ≡ take m ts ++ drop m w.terms → Laid cs' ms' ts'
    forms-laid a b d =
        subst₃ Laid (sym (coefficients-are a)) (sym (monomials-are b)) (sym (counts-are d))
        (normalized-sized cs ms ts m (readable cs ms ts m n read) (blank plain) (blank-sized plain)).laid
