-- The slots that are left hold the first one.
use Rattle.std.proofs.Common.{Bool, List, ℕ, ℤ, ◌≡◌, ◌-◌}
use Rattle.rules.specs.Polynomial.{same}
use Rattle.terms.specs.View.{terms_from}
use Rattle.forms.specs.Slots.{slot_of, first_from}
use Rattle.script_polynomial.proofs.tabled.find.Given as goal

-- Whether slot j has the polynomial that was read.
abbrev pub alike : List ℤ → List ℕ → List ℕ → List ℤ → List ℕ → ℕ → ℕ → Bool
alike cs ms ts vs ps count j = same (terms_from vs ps 0 count) (slot_of cs ms ts j)

abbrev pub invariant-loop-j : goal.invariant-loop-j
invariant-loop-j l =
    first_from (alike l.coefficient l.monomial l.terms l.value l.powers l.count) l.j (l.known - l.j)
    ≡ first_from (alike l.coefficient l.monomial l.terms l.value l.powers l.count) 0 l.known
