-- What is said of the atoms of a block, and of the atoms that the level rules make of them: sets of three bits, and polynomials whose normal forms
-- are, unless constant, or that are themselves, among given forms, or are what is asked of the atom's place.
use Rattle.std.specs.Prelude.{List, ◌≡◌, ℕ, ◌<◌}
use mathlib.Core.List.Memᴰ.{cast as member-same}
use mathlib.Core.List.{Memᴰ as Member}
use Rattle.std.proofs.Math.Option.{none}
use Rattle.std.proofs.Common.{sym, ap, ◌∙◌, lit<}
use Rattle.std.proofs.Math.Path.{subst}
use Rattle.rules.specs.Signs.{SignSet, full, complement, intersect}
use Rattle.rules.specs.Polynomial.{Polynomial, Atom, normal, constant}
use Rattle.rules.specs.Level.{Placed, plain, with_set, complemented, normal_placed}
use Rattle.sign_laws.specs.Sets.{intersect-below, complement-below}
use Rattle.normal_laws.specs.Shape.{normal-small, normal-alike}
use Rattle.rules.specs.Polynomial.{normal_form}

-- A set of three bits.
pub record Small (s : SignSet) : Type 0 where
  pub bits : s < 8

-- An atom as a block gives it: its polynomial's normal form is one of the forms, unless it is a constant.
pub record Given (forms : List Polynomial) (a : Atom) : Type 0 where
  pub small : Small a.set
  pub form : constant (normal_form a.polynomial) ≡ none → Member (normal_form a.polynomial) forms

-- An atom in normal form: its polynomial is one of the forms.
pub record Formed (forms : List Polynomial) (a : Atom) : Type 0 where
  pub small : Small a.set
  pub form : Member a.polynomial forms

-- The same of an atom with a place, where its place says which forms are right.
pub record GivenAt (Form : ℕ → Polynomial → Type 0) (a : Placed) : Type 0 where
  pub small : Small a.set
  pub form : constant (normal_form a.polynomial) ≡ none → Form a.place (normal_form a.polynomial)

pub record FormedAt (Form : ℕ → Polynomial → Type 0) (a : Placed) : Type 0 where
  pub small : Small a.set
  pub form : Form a.place a.polynomial

-- ---- Sets.

-- The full set is one.
pub full-small : Small full
full-small = record { bits = lit< tt }

-- And so is each intersection.
pub intersect-small : (a b : SignSet) → Small (intersect a b)
intersect-small a b = record { bits = intersect-below a b }

complement-small : (a : SignSet) → Small (complement a)
complement-small a = record { bits = complement-below a }

-- ---- Atoms.

module _ {forms : List Polynomial} where
  -- With another set of three bits an atom stays formed.
  pub formed-with : {a : Atom} (s : SignSet) → Small s → Formed forms a → Formed forms (record { polynomial = a.polynomial; set = s })
  formed-with s h k = record { small = h; form = k.form }

  -- The normal form of an atom that a block gives is one of the forms, unless it is a constant.
  pub given-normal : (a : Atom) → constant (normal a).polynomial ≡ none → Given forms a → Member (normal a).polynomial forms
  given-normal a e h = member-same (normal-alike a) (h.form (ap constant (sym (normal-alike a)) ∙ e))

module _ {Form : ℕ → Polynomial → Type 0} where
  -- The same at its place.
  pub formed-at-with : {a : Placed} (s : SignSet) → Small s → FormedAt Form a → FormedAt Form (with_set a s)
  formed-at-with s h k = record { small = h; form = k.form }

  -- The normal form of an atom that a block gives is formed, unless it is a constant.
  pub formed-normal : (a : Placed) → constant (normal_placed a).polynomial ≡ none → GivenAt Form a → FormedAt Form (normal_placed a)
  unfolding normal_placed
  formed-normal a e h = record {
    small = record { bits = normal-small (plain a) h.small.bits };
    form = subst (Form a.place) (sym (normal-alike (plain a))) (h.form (ap constant (sym (normal-alike (plain a))) ∙ e));
  }

  -- The complement of an atom is as a block might give it, if the atom is.
  pub given-complemented : (a : Placed) → GivenAt Form a → GivenAt Form (complemented a)
  unfolding complemented
  given-complemented a h = record { small = complement-small a.set; form = h.form }

  -- And it is formed, if the atom is.
  pub formed-complemented : (a : Placed) → FormedAt Form a → FormedAt Form (complemented a)
  unfolding complemented
  formed-complemented a h = record { small = complement-small a.set; form = h.form }

  -- The forms being normal forms, an atom in normal form is also as a block might give it.
  pub formed-given : ((k : ℕ) (p : Polynomial) → Form k p → normal_form p ≡ p) → (a : Placed) → FormedAt Form a → GivenAt Form a
  formed-given own a h = record { small = h.small; form = λ e. subst (Form a.place) (sym (own a.place a.polynomial h.form)) h.form }
