-- The first of what is left stays the first of all.
use Rattle.std.proofs.Common.{◌≡◌, ◌-◌}
use Rattle.forms.specs.Slots.{first_from, number_of}
use Rattle.forms.proofs.Searches.{alike}
use Rattle.forms.proofs.slots.find.Given as goal

abbrev pub invariant-loop-j : goal.invariant-loop-j
invariant-loop-j l = first_from (alike l.coefficient l.monomial l.terms l.i) l.j (l.i - l.j) ≡ number_of l.coefficient l.monomial l.terms l.i
