-- What is promised of the records that `why` tells (docs/PROMISES.md), quoted from crate reason_laws: of every input that is explained, the records
-- are
-- true (the named atoms suffice, and each is needed), the kept and narrowed ones are the atoms and places of the answer, and the verdict is the
-- answer's.
use Rattle.std.specs.Prelude.{◌≡◌, refl, Bool, true, false, List, ℕ, leb, length}
use Rattle.std.proofs.Common.{sym, ap, ◌∙◌, subst}
use Rattle.std.proofs.Math.Option.{Option, none, some}
use Rattle.rules.specs.Polynomial.{Atom}
use Rattle.rules.specs.Level.{plains}
use Rattle.rules.specs.Block.{Block, Stream, Reading, refused, read, read_block}
use Rattle.rules.specs.Answer.{formula_of, simplified, new_places, verdict_of}
use Rattle.rules.specs.Reasons.{Reason, places_of, clauses_from, merged_list, fails, reasons, atoms_of_and}
use Rattle.rules.specs.Reasons.{Why, refusal, explained, unless_fewer, why_atoms, why_of, why}
use Rattle.reason_laws.specs.Records.{kept_by_records}
use Rattle.reason_laws.specs.Asked.{Asked, told_verdict, records-true, kept-places, verdict-told}

-- An input that is a block whose root is an AND of these atoms, with these records.
pub record Explains (bytes : List ℕ) (rs : List Reason) : Type 0 where
  pub given : Block
  pub stream : Stream
  pub accepted : read_block bytes ≡ read given stream
  pub atoms : List Atom
  pub only : atoms_of_and (formula_of given) ≡ some atoms
  pub is : rs ≡ reasons given.variables atoms

list_of : Why → List Reason → List Reason
list_of (refusal number) d = d
list_of (explained rs) d = rs

is_explained : Why → Type 0
is_explained (refusal number) = ⊥
is_explained (explained rs) = Unit {0}

-- Nothing else is explained.
pub explains : (room : ℕ) (bytes : List ℕ) {rs : List Reason} → why room bytes ≡ explained rs → Explains bytes rs
unfolding why why_of why_atoms unless_fewer is_explained list_of
explains room bytes {rs} e = by-reading (read_block bytes) refl e
  where
    never : (number : ℕ) → refusal number ≡ explained rs → ⊥
    never number f = subst (λ (w : Why). is_explained w) (sym f) tt

    by-room : (given : Block) (stream : Stream) → read_block bytes ≡ read given stream → (l : List Atom) → atoms_of_and (formula_of given) ≡ some l
        → (b : Bool) → unless_fewer b (explained (reasons given.variables l)) ≡ explained rs → Explains bytes rs
    by-room given stream accepted l only true f =
        record { given = given; stream = stream; accepted = accepted; atoms = l; only = only; is = sym (ap (λ (w : Why). list_of w rs) f) }
    by-room given stream accepted l only false f = absurd (never 20 f)

    by-atoms : (given : Block) (stream : Stream) → read_block bytes ≡ read given stream → (o : Option (List Atom)) → atoms_of_and (formula_of given) ≡ o
        → why_atoms room given.variables o ≡ explained rs → Explains bytes rs
    by-atoms given stream accepted none only f = absurd (never 19 f)
    by-atoms given stream accepted (some l) only f = by-room given stream accepted l only (leb (length l) room) f

    by-reading : (r : Reading Block) → read_block bytes ≡ r → why_of room r ≡ explained rs → Explains bytes rs
    by-reading (refused number) accepted f = absurd (never number f)
    by-reading (read given stream) accepted f = by-atoms given stream accepted (atoms_of_and (formula_of given)) refl f

module _ (room : ℕ) (bytes : List ℕ) {rs : List Reason} (e : why room bytes ≡ explained rs) where
  abbrev here : Explains bytes rs
  here = explains room bytes e

  -- *Suffices*, *needed*, and where names end: `reason_laws/specs/Asked.antt: Truly`.
  pub records-are-true : Asked here.given.variables here.atoms
  records-are-true = records-true bytes here.accepted here.only

  -- The kept and narrowed records are exactly the places of the answer.
  pub kept-are-the-answer's : new_places here.given ≡ places_of (kept_by_records (clauses_from 0 here.atoms) rs)
  kept-are-the-answer's =
      kept-places bytes here.accepted here.only
      ∙ ap (λ (l : List Reason). places_of (kept_by_records (clauses_from 0 here.atoms) l)) (sym here.is)

  -- The verdict that they tell is the answer's.
  pub verdict-is-the-answer's : verdict_of (simplified here.given)
      ≡ told_verdict (fails here.given.variables (plains (merged_list here.atoms))) (kept_by_records (clauses_from 0 here.atoms) rs)
  verdict-is-the-answer's =
      verdict-told bytes here.accepted here.only
      ∙ ap (λ (l : List Reason). told_verdict (fails here.given.variables (plains (merged_list here.atoms))) (kept_by_records (clauses_from 0
      here.atoms) l))
      (sym here.is)
