-- What a node begins with, as code reads it: each beginning by a number, and what may follow it.
use Rattle.std.specs.Prelude.{Bool, true, List, [], ◌∷◌, ◌≡◌, ℕ, ◌+◌, ◌<◌, ◌≤◌, length, Result, Ok, Err}
use Rattle.rules.specs.Polynomial.{Atom}
use Rattle.rules.specs.Formula.{Node}
use Rattle.rules.specs.Reader.{Reader}
use Rattle.rules.specs.Combine.{given, say, ◌union◌, one_of}
use Rattle.rules.specs.Text.{bytes, opening}
use Rattle.rules.specs.Reading.{choice}
use Rattle.script_laws.specs.Steps.{stop}
use Rattle.script_polynomial.specs.At.{read_at}
use Rattle.script_back.specs.declared.opening.Opening.{Opening}
use Rattle.script_polynomial.specs.declared.Stop.{Stop}

-- What follows each beginning.
abbrev pub Further : Type 0
Further = ℕ → Reader (Node Atom)

-- One beginning alone,
abbrev pub one : List ℕ → ℕ → Further → Reader (Node Atom)
one bytes which further = say bytes (further which)

-- or only where it is allowed,
abbrev pub one_given : Bool → List ℕ → ℕ → Further → Reader (Node Atom)
one_given allowed bytes which further = given allowed (say bytes (further which))

-- what goes on behind `(<` or `(>`,
abbrev pub either : ℕ → Further → Reader (Node Atom)
either set further = say (bytes " ") (further set) union say (bytes "= ") (further (set + 2))

-- and all of them: an AND and an OR only where they are allowed.
abbrev pub any : Bool → Bool → Further → Reader (Node Atom)
any ands ors further = one_of (
    choice true (opening 1) (further 1) ∷ choice true (opening 2) (further 2) ∷ choice true (opening 3) (further 3)
    ∷ choice true (opening 4) (further 4) ∷ choice true (opening 5) (further 5) ∷ choice true (opening 6) (further 6)
    ∷ choice ands (bytes "(and") (further 7) ∷ choice ors (bytes "(or") (further 8) ∷ [])

-- Which beginnings may be found: one of them,
pub record Only (which found : ℕ) : Type 0 where
  pub that : found ≡ which

pub record OnlyGiven (allowed : Bool) (which found : ℕ) : Type 0 where
  pub that : found ≡ which
  pub is_allowed : allowed ≡ true

-- one of an atom,
pub record OfAtom (found : ℕ) : Type 0 where
  pub some : 0 < found
  pub most : found ≤ 6

-- any, but an AND and an OR only where they are allowed.
pub record Allowed (ands ors : Bool) (found : ℕ) : Type 0 where
  pub some : 0 < found
  pub most : found ≤ 8
  pub an_and : found ≡ 7 → ands ≡ true
  pub an_or : found ≡ 8 → ors ≡ true

-- A beginning was found: what may follow it is read behind it.
pub record Begins (text : List ℕ) (at : ℕ) (reader : Further → Reader (Node Atom)) (May : ℕ → Type 0) (which next : ℕ) : Type 0 where
  pub reading : (further : Further) → read_at text at (reader further) ≡ read_at text next (further which)
  pub inside : next ≤ length text
  pub may : May which

unfoldable pub OpenedBy : List ℕ → ℕ → (Further → Reader (Node Atom)) → (ℕ → Type 0) → Result Opening Stop → Type 0
OpenedBy text at reader May (Err halt) = (further : Further) → read_at text at (reader further) ≡ stop halt.at
OpenedBy text at reader May (Ok found) = Begins text at reader May found.which found.next

pub record Opened (text : List ℕ) (at : ℕ) (reader : Further → Reader (Node Atom)) (May : ℕ → Type 0) (opening : Result Opening Stop) : Type 0 where
  pub by_opening : OpenedBy text at reader May opening
