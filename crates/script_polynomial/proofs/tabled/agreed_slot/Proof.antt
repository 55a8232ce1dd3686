-- `agreed_slot` meets its contract.
use mathlib.Core.Path.{◌≡◌, sym, ap, ◌∙◌}
use Prim.Native.Nat.{ℕ, ◌+◌, ◌*◌, ◌<◌}
use native.Mathlib.Omega.{arith}
use mathlib.Core.List.{List, [], ◌∷◌, ◌++◌}
use lib.ListN.{length, drop, length-set, length-replicate}
use lib.Seq.{length-take-le}
use borrow.Author.Rules.{rules}
use Rattle.lines.specs.Written.{wrote-long}
use Rattle.terms.specs.View.{terms_from}
use Rattle.rules.specs.Text.{polynomial_text}
use Rattle.script_polynomial.specs.Agreement.{common}
use Rattle.script_polynomial.proofs.Comparing.{slot-short, front-and}
use Rattle.script_polynomial.proofs.tabled.agreed_slot.Statement.{statement}
use Rattle.script_polynomial.proofs.tabled.agreed_slot.Tie as tie

put-polynomial-requires : tie.Need-put_polynomial-end-requires
put-polynomial-requires c κs =
    let h = c.requires.1 in
    let same = c.wide-count.ensures in
    let short = slot-short h in (
      h.variables,
      record { coefficients = omega (arith, same, h.room.coefficients); monomials = omega (arith, same, h.room.monomials) },
      rw same (record { short = omega (arith, short) }),
    )

-- The text has room, with one byte behind it.
end-small : (c : tie.After-put_polynomial-end) → c.put_polynomial-end.result < 7958
end-small c =
    let same = c.wide-count.ensures in
    omega (arith, c.put_polynomial-end.ensures.behind, rw (← same) at (slot-short c.requires.1))

long : (c : tie.After-put_polynomial-end) → length c.put_polynomial-end.new.text ≡ 7958
long c = wrote-long c.put_polynomial-end.ensures ∙ length-replicate {A = ℕ} 7958 0

returns : tie.Need-returns
returns c =
    let a = c.args in
    let same = c.wide-count.ensures in
    let text = front-and 32 c.put_polynomial-end.ensures (omega (
      arith,
      c.put_polynomial-end.ensures.behind,
      end-small c.before.before.before,
      length-replicate
          {A = ℕ} 7958 0,
    )) in
    c.agreed.ensures ∙ ap (λ (x : List ℕ). a.at + common x (drop a.at a.text.now))
    (text ∙ ap (λ (k : ℕ). polynomial_text a.n (terms_from a.coefficient.now a.monomial.now (16 * a.slot) k) ++ (32 ∷ [])) same)

pub agreed_slot_spec : {M : Type 1} → statement M
agreed_slot_spec =
    tie.close
    (tie.spec (λ c. search rules) (λ c κs. search rules) (λ c. search rules) (λ c. search rules) put-polynomial-requires (λ c. end-small c.before)
    (λ c. omega (arith, end-small c.before)) (λ c. simp length-set (omega (arith, long c.before, end-small c.before)))
    (λ c. sym (length-take-le _ _ (simp length-set (omega (arith, long c.before.before, end-small c.before.before)))))
    (λ c κs. search rules) returns)
