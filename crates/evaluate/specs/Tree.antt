-- A block's tree on the tape and its table in the arrays, and what the evaluator says of a node: do all products and sums fit, and does it hold?
use Rattle.std.specs.Prelude.{◌≡◌, Bool, true, false, ◌&&◌, ◌||◌, List, ℕ, zero, suc, ◌+◌, ◌*◌, ◌<◌, ◌≤◌, ℤ, length, get_or}
use Rattle.rules.specs.Signs.{Sign}
use Rattle.rules.specs.Polynomial.{Polynomial, Atom}
use Rattle.rules.specs.Formula.{Parts, Node, each_atom, each_atom_of, alone, children, nodes}
use Rattle.rules.specs.Block.{NumberedAtom}
use Rattle.rules.specs.Meaning.{sign_at, atom_holds, all_hold, some_hold, holds}
use Rattle.rules.specs.Evaluate.{steps, all_fit, parts_fit, fits64}
use Rattle.terms.specs.View.{terms_from}
use Rattle.writer.specs.Written.{PartsHeld}
use Rattle.evaluate.specs.declared.Truth.{Truth}
use Rattle.evaluate.specs.declared.Seen.{Seen}

-- ---- The arrays.

-- An atom with the polynomial that stands in the slot of its number.
abbrev pub stored_at : List ℤ → List ℕ → List ℕ → ℕ → ℕ → Atom
stored_at cs ms ts number set = record { polynomial = terms_from cs ms (16 * number) (get_or ts number 0); set = set }

abbrev pub stored : List ℤ → List ℕ → List ℕ → NumberedAtom → Atom
stored cs ms ts a = stored_at cs ms ts a.number a.set

-- Each of the 64 slots that has terms lies in the arrays, with at most sixteen of them.
pub record TableRoom (cs : List ℤ) (ms ts : List ℕ) : Type 0 where
  pub coefficients : (number : ℕ) → 0 < get_or ts number 0 → 16 * number + get_or ts number 0 ≤ length cs
  pub monomials : (number : ℕ) → 0 < get_or ts number 0 → 16 * number + get_or ts number 0 ≤ length ms
  pub counts : 64 ≤ length ts
  pub few : (number : ℕ) → get_or ts number 0 ≤ 16

-- Where so many places from one on end; none end at the first of all.
unfoldable pub behind_of : ℕ → ℕ → ℕ
behind_of from zero = 0
behind_of from (suc count) = from + suc count

-- ---- What is said.

-- Whether all fits; and if it does, whether it holds.
pub record Says (fits holds told-fits told-holds : Bool) : Type 0 where
  pub fit : told-fits ≡ fits
  pub truth : fits ≡ true → told-holds ≡ holds

pub record AtomIs (readings : List ℤ) (a : Atom) (r : Truth) : Type 0 where
  pub says : Says (all_fit fits64 (steps readings a.polynomial)) (atom_holds (sign_at readings) a) r.fits r.holds

-- The node stands at a place of the tape.
pub record HeldAt (token : List ℕ) (kind at : ℕ) (tree : Node NumberedAtom) : Type 0 where
  pub held : PartsHeld token kind at (alone tree)

pub record SomeNode (token : List ℕ) (kind at : ℕ) : Type 0 where
  pub tree : Node NumberedAtom
  pub held : HeldAt token kind at tree

pub record NodeIs (cs : List ℤ) (ms ts : List ℕ) (readings : List ℤ) (at : ℕ) (tree : Node NumberedAtom) (r : Seen) : Type 0 where
  pub next : r.next ≡ at + nodes (alone tree)
  pub says : Says (parts_fit fits64 readings (alone (each_atom_of (stored cs ms ts) tree))) (holds (sign_at readings) (each_atom_of (stored cs ms ts) tree)) r.fits r.holds

-- ---- The children of an AND (true) or an OR (false), so far and in all.

unfoldable pub joined : Bool → Bool → Bool → Bool
joined true sofar child = sofar && child
joined false sofar child = sofar || child

unfoldable pub truth_of : Bool → (Polynomial → Sign) → Parts Atom → Bool
truth_of true sign parts = all_hold sign parts
truth_of false sign parts = some_hold sign parts

-- So many children are evaluated, the rest is on the tape from the next place on.
pub record Runs (cs : List ℤ) (ms ts : List ℕ) (readings : List ℤ) (token : List ℕ) (kind start : ℕ) (all : Bool) (kids : Parts NumberedAtom)
    (i next : ℕ) (fits sofar : Bool) : Type 0 where
  pub rest : Parts NumberedAtom
  pub held : PartsHeld token kind next rest
  pub counted : i + children rest ≡ children kids
  pub behind : next + nodes rest ≡ start + nodes kids
  pub further : start ≤ next
  pub fit : fits && parts_fit fits64 readings (each_atom (stored cs ms ts) rest) ≡ parts_fit fits64 readings (each_atom (stored cs ms ts) kids)
  pub truth : parts_fit fits64 readings (each_atom (stored cs ms ts) kids) ≡ true
      → joined all sofar (truth_of all (sign_at readings) (each_atom (stored cs ms ts) rest)) ≡ truth_of all (sign_at readings) (each_atom (stored cs ms ts) kids)
