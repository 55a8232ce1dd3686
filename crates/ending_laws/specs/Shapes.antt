-- Other atoms at the same places leave the shape of a tree as it is: as many nodes, children and atoms, and none where there were none.
use Rattle.std.specs.Prelude.{◌≡◌, refl, ℕ, ◌+◌}
use Rattle.std.proofs.Common.{ap, ap₂}
use Rattle.rules.specs.Formula.{Parts, end, atom, and, or, each_atom, is_end, children, nodes, atoms}

pub nodes-each : {A B : Type 0} (f : A → B) (parts : Parts A) → nodes (each_atom f parts) ≡ nodes parts
unfolding nodes each_atom
nodes-each f end = refl
nodes-each f (atom a rest) = ap (λ (k : ℕ). 1 + k) (nodes-each f rest)
nodes-each f (and kids rest) = ap₂ (λ (j k : ℕ). 1 + j + k) (nodes-each f kids) (nodes-each f rest)
nodes-each f (or kids rest) = ap₂ (λ (j k : ℕ). 1 + j + k) (nodes-each f kids) (nodes-each f rest)

pub children-each : {A B : Type 0} (f : A → B) (parts : Parts A) → children (each_atom f parts) ≡ children parts
unfolding children each_atom
children-each f end = refl
children-each f (atom a rest) = ap (λ (k : ℕ). 1 + k) (children-each f rest)
children-each f (and kids rest) = ap (λ (k : ℕ). 1 + k) (children-each f rest)
children-each f (or kids rest) = ap (λ (k : ℕ). 1 + k) (children-each f rest)

pub atoms-each : {A B : Type 0} (f : A → B) (parts : Parts A) → atoms (each_atom f parts) ≡ atoms parts
unfolding atoms each_atom
atoms-each f end = refl
atoms-each f (atom a rest) = ap (λ (k : ℕ). 1 + k) (atoms-each f rest)
atoms-each f (and kids rest) = ap₂ (λ (j k : ℕ). j + k) (atoms-each f kids) (atoms-each f rest)
atoms-each f (or kids rest) = ap₂ (λ (j k : ℕ). j + k) (atoms-each f kids) (atoms-each f rest)

pub is-end-each : {A B : Type 0} (f : A → B) (parts : Parts A) → is_end (each_atom f parts) ≡ is_end parts
unfolding is_end each_atom
is-end-each f end = refl
is-end-each f (atom a rest) = refl
is-end-each f (and kids rest) = refl
is-end-each f (or kids rest) = refl
