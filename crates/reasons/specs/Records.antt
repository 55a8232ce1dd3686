-- 02, #106: what the record of each reason is, in the code's struct; what is asked of a row of tokens, and when records tell reasons.
use Rattle.std.specs.Prelude.{◌≡◌, List, [], ◌∷◌, map, ℕ, ◌/◌, ◌%◌, ◌^◌, ◌≤◌, length, take, get_or, set}
use Rattle.std.specs.Int.Bits.{bit_or}
use Rattle.rules.specs.Polynomial.{Atom}
use Rattle.table.specs.Table.{Table}
use Rattle.tape.specs.declared.rows.Row.{Row}
use Rattle.tape.specs.Row.{Lists}
use Rattle.tape.specs.Token.{atoms_in}
use Rattle.rules.specs.Reasons.{Reason as Why, kept_with, narrowed_to, merged_into, removed_by, all_false_by, clauses_from}
use Rattle.reasons.specs.declared.Reason.{Reason}
use Rattle.reasons.specs.declared.Found.{Found}

-- ---- "A set of places is 256 bits": place p is bit p % 64 of word p / 64.

abbrev pub no_places : List ℕ
no_places = 0 ∷ 0 ∷ 0 ∷ 0 ∷ []

unfoldable pub with_place : List ℕ → ℕ → List ℕ
with_place words p = set words (p / 64) (bit_or (get_or words (p / 64) 0) (2 ^ (p % 64)))

unfoldable pub words_from : List ℕ → List ℕ → List ℕ
words_from words [] = words
words_from words (p ∷ l) = words_from (with_place words p) l

unfoldable pub words_of : List ℕ → List ℕ
words_of l = words_from no_places l

-- ---- The record of a reason: kind 1 kept, 2 narrowed, 3 merged, 4 removed, 5 the whole is false; a field that it does not use is 0.

unfoldable pub made : Why → Reason
made (kept_with s) = record { kind = 1; set = s; place = 0; places = no_places }
made (narrowed_to s) = record { kind = 2; set = s; place = 0; places = no_places }
made (merged_into i) = record { kind = 3; set = 0; place = i; places = no_places }
made (removed_by s named) = record { kind = 4; set = s; place = 0; places = words_of named }
made (all_false_by named) = record { kind = 5; set = 0; place = 0; places = words_of named }

-- What a list has behind its end.
abbrev pub blank : Reason
blank = record { kind = 0; set = 0; place = 0; places = [] }

-- ---- What is asked: the row has the atoms as read, in normal form, each at its place.

pub record Clauses (t : Table) (given : Row) : Type 0 where
  pub atoms : List Atom
  pub tokens : List ℕ
  pub lists : Lists given tokens
  pub few : length tokens ≤ 255
  pub is : atoms_in t tokens ≡ clauses_from 0 atoms

-- ---- What is told: a record for each reason, in order, and no refusal.

pub record Tells (found : Found) (rs : List Why) : Type 0 where
  pub refusal : found.refusal ≡ 0
  pub is : take found.count found.records ≡ map made rs
  pub size : found.count ≡ length rs

-- To unfold this is to unfold every definition of this file.
unfoldable pub open_records : Unit {0}
unfolding with_place words_from words_of made
open_records = tt
