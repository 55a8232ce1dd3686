-- `explain` meets its contract: refusal 19, refusal 20, or the records.
use borrow.Author.Rules.{rules}
use mathlib.Core.Path.{sym, ap, ◌∙◌, subst}
use Prim.Native.Nat.{ℕ, ◌-◌, ◌<◌, ◌≤◌}
use native.Mathlib.Omega.{arith}
use Rattle.std.specs.Prelude.{Ok}
use Rattle.why.specs.Entry.{tells-refusal}
use Rattle.why.specs.Way.{tokens-there, refuses-19, refuses-20, atoms-many, told-reasons}
use Rattle.why.proofs.reading.explain.Statement.{statement}
use Rattle.why.proofs.reading.explain.Tie as tie

and-of-atoms-requires : tie.Need-and_of_atoms-requires
and-of-atoms-requires c κs = tokens-there c.requires.taken

returns : tie.Need-returns-then-not-and_of_atoms
returns c bytes taken =
    let s = c in
    tells-refusal c.refuse.result (refuses-19 taken s.args.room (sym c.and_of_atoms.ensures
    ∙ c.if-not-and_of_atoms.true)) c.refuse.ensures

sub-atoms : tie.Need-overflow_sub-atoms
sub-atoms c =
    let s = c in
    omega (
      arith,
      atoms-many s.requires.taken (sym c.and_of_atoms.ensures
          ∙ c.if-not-and_of_atoms.false),
      c.behind_root.ensures,
    )

returns-2 : tie.Need-returns-then-room-atoms
returns-2 c bytes taken =
    let s = c in
    let behind = c.behind_root.ensures in
    let only = sym c.and_of_atoms.ensures ∙ c.if-not-and_of_atoms.false in
    tells-refusal c.refuse-then-room-atoms.result (refuses-20 taken only s.args.room (subst (λ (k : ℕ). s.args.room < s.args.count - k) behind
    c.if-room-atoms.true)) c.refuse-then-room-atoms.ensures

records-of-requires : tie.Need-records_of-found-requires
records-of-requires c κs =
    let s = c in
    record {
      bytes = s.requires.bytes;
      taken = s.requires.taken;
      only = sym c.and_of_atoms.ensures
          ∙ c.if-not-and_of_atoms.false;
    }

returns-3 : tie.Need-returns
returns-3 c bytes taken =
    let here = c in
    let s = here in
    let behind = here.behind_root.ensures in
    let only = sym here.and_of_atoms.ensures ∙ here.if-not-and_of_atoms.false in
    told-reasons taken only s.args.room (subst (λ (k : ℕ). s.args.count - k ≤ s.args.room) behind (omega arith)) _ (ap
    (λ (k : ℕ). Ok (s.args.count - k)) behind) (here.records_of-found.ensures bytes taken)

pub explain_spec : {M : Type 1} → statement M
explain_spec =
    tie.close
    (tie.spec and-of-atoms-requires (λ c κs. search rules) (λ c. search rules) returns (λ c κs. search rules) sub-atoms (λ c κs. search rules)
    (λ c. search rules) returns-2
    records-of-requires (λ c. search rules) returns-3)
