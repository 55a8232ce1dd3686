-- The way of a block that was read to the records of its atoms: what is held, made normal, given places, and cut to the tokens behind the root's.
-- Each step takes what the function of that step ensures, and gives what the next one asks.
use Rattle.std.specs.Prelude.{Ok, ◌≡◌, refl, Bool, true, false, ℕ, ◌+◌, ◌-◌, ◌<◌, ◌≤◌, leb, pos, replicate}
use Rattle.std.proofs.Common.{sym, ◌∙◌, subst, take_all, le-leb}
use Rattle.std.proofs.Math.Path.{ap, ap₂}
use mathlib.Core.List.{List, ◌++◌}
use native.Mathlib.Omega.{arith}
use Rattle.std.proofs.Math.ListN.{length, take, drop, length-drop, length-replicate}
use Rattle.std.proofs.Math.Seq.{sets, sets-eq, take_at}
use Rattle.std.proofs.lemmas.Bool.{lt-leb}
use Rattle.rules.specs.Signs.{bit}
use Rattle.rules.specs.Polynomial.{Atom}
use Rattle.rules.specs.Formula.{Node, alone, in_order, nodes}
use Rattle.rules.specs.Level.{Placed, placed_tree}
use Rattle.rules.specs.Block.{Block, NumberedAtom, edition_number, head_edition}
use Rattle.rules.specs.Limits.{BlockWithin}
use Rattle.rules.specs.Answer.{looked_up, formula_of}
use Rattle.block_laws.specs.Blocks.{accepted-within}
use Rattle.rules.specs.Reasons.{clauses_from, reasons, refusal, explained, unless_fewer, why_atoms, why_of, why}
use Rattle.block.specs.declared.Held.{Held}
use Rattle.block.specs.Held as reader
use Rattle.block.specs.Held.{held_of}
use Rattle.block.specs.Tokens.{length-tokens}
use Rattle.forms.specs.declared.WorkingTable.{WorkingTable}
use Rattle.forms.specs.Working.{TableRead, working_by, is_plain, blank, table_of, Worked}
use Rattle.forms.specs.Tokens.{normal_tokens}
use Rattle.table.specs.Table.{Table}
use Rattle.tape.specs.declared.rows.Row.{Row}
use Rattle.tape.specs.Row.{row_of, Lists}
use Rattle.tape.specs.Token.{atom_of, atoms_in}
use Rattle.places.specs.Places.{placed_tokens}
use Rattle.level.specs.Tree.{tokens, TreeHeld}
use Rattle.answer.specs.Entry.{Accepted}
use Rattle.answer.specs.Normal.{normalised, normal_tree, normal-within, normal-nodes, normal-kind, normal-holds, normal-forms}
use Rattle.answer.specs.Tapes.{token_tree, tokens-in-slots, held-as-tokens}
use Rattle.answer.specs.Way.{asks-table, tape-long, counts-tokens}
use Rattle.why.specs.Flat.{behind_root, and_of_atoms, FlatRoot, flat-root, no-root, only-root}
use Rattle.why.specs.Flat.{root-count, root-laid, root-tokens, flat-each, root-map, root-clauses}
use Rattle.reasons.specs.Records.{Tells as TellsReasons}
use Rattle.reasons.specs.Told.{reasons-long}
use Rattle.why.specs.declared.Told.{Told}
use Rattle.why.specs.Entry.{Tells, tells-explained, Taken}

-- The atoms as read, in order.
abbrev pub atoms_read : Block → List Atom
atoms_read given = in_order (alone (formula_of given))

-- A row of tokens has these atoms, in normal form, each at its place.
pub record Reads (t : Table) (atoms : List Atom) (row : Row) : Type 0 where
  pub list : List ℕ
  pub lists : Lists row list
  pub few : length list ≤ 255
  pub is : atoms_in t list ≡ clauses_from 0 atoms

-- ---- the tokens behind the root's

module _ {plain : Bool} (given : Block) (within : BlockWithin given) (flat : FlatRoot given.tree) (w : WorkingTable)
    (worked : Worked plain (held_of given).coefficient (held_of given).monomial (held_of given).terms (length given.table)
    given.variables w) where
  abbrev tree : Node NumberedAtom
  tree = normal_tree given within w worked

  flat-tree : FlatRoot (normal_tree given within w worked)
  flat-tree = flat-each (normalised w.number w.turned) given.tree flat

  -- the tape with places
  abbrev tape : List ℕ
  tape = placed_tokens (held_of given).tokens (normal_tokens w.number w.turned (held_of given).tokens (held_of given).token)

  laid : TreeHeld tape (held_of given).root (token_tree tree)
  laid = held-as-tokens tree (normal-within given within w worked) (normal-holds given within w worked) (normal-kind given within w worked)

  laid-long : length (tokens (alone (token_tree tree))) ≡ (held_of given).tokens
  unfolding held_of
  laid-long = root-laid tree flat-tree ∙ normal-nodes given within w worked

  abbrev these : List ℕ
  these = in_order (alone (token_tree tree))

  behind : drop (behind_root (held_of given).root) (tokens (alone (token_tree tree))) ≡ these
  behind = rw (← normal-kind given within w worked) (root-tokens tree flat-tree)

  -- The part of the tape behind the root's token has the tokens of the atoms,
  block-part : {row : Row}
      → ((k : ℕ) (m : List ℕ) → Lists (row_of tape k) m → (held_of given).tokens ≤ length m
      → Lists row (take ((held_of given).tokens - behind_root (held_of given).root) (drop (behind_root (held_of given).root) m)))
      → Lists row these
  block-part {row} part =
      let all : Lists (row_of tape (held_of given).tokens) (tokens (alone (token_tree tree)))
      = record {
        is = ap (take (held_of given).tokens) laid.here ∙ take_at (tokens (alone (token_tree tree))) laid.rest (held_of given).tokens laid-long;
        size = sym laid-long;
      } in
      let cut = part (held_of given).tokens (tokens (alone (token_tree tree))) all (omega (arith, laid-long)) in
      let long : length these ≤ (held_of given).tokens - behind_root (held_of given).root
      = omega (arith, ap length (sym behind), length-drop (behind_root (held_of given).root) (tokens (alone (token_tree tree))), laid-long) in
      subst (Lists row) (ap (take ((held_of given).tokens - behind_root (held_of given).root)) behind ∙ take_all _ these long) cut

  -- at most 255,
  block-few : length these ≤ 255
  unfolding held_of
  block-few = omega (
    arith,
    ap length (sym behind),
    length-drop (behind_root (held_of given).root) (tokens (alone
        (token_tree tree))),
    laid-long,
    within.nodes,
  )

  -- which are the atoms as read, in normal form, each at its place.
  block-clauses : atoms_in (table_of given.variables w) these ≡ clauses_from 0 (atoms_read given)
  unfolding formula_of
  block-clauses =
      root-map (atom_of (table_of given.variables w)) tree flat-tree
      ∙ ap (λ (t : Node Placed). in_order (alone t))
      (tokens-in-slots tree (normal-within given within w worked) (table_of given.variables w) (omega
      (arith, normal-nodes given within w worked, within.nodes))
      ∙ ap placed_tree (normal-forms given within w worked))
      ∙ root-clauses (looked_up given.table) given.tree flat

module _ {bytes : List ℕ} {held : Held} (taken : Taken bytes held) where
  -- The way to the answer asks for the same.
  abbrev accepted : Accepted bytes (edition_number (head_edition bytes)) held (length bytes)
  accepted = record {
    in_edition = refl;
    given = taken.given;
    stream = taken.stream;
    accepted = taken.accepted;
    is = taken.is;
    enough = omega
        arith;
  }

  within : BlockWithin taken.given
  within = accepted-within bytes taken.accepted

  pub table-read : TableRead held.coefficient held.monomial held.terms held.polynomials held.variables
  table-read = asks-table accepted

  pub tokens-there : held.tokens ≤ length held.token
  tokens-there = counts-tokens accepted

  pub tokens-few : held.tokens ≤ 255
  tokens-few = omega (arith, tokens-there, tape-long accepted)

  its-root : held.root ≡ reader.kind_of taken.given.tree
  unfolding held_of
  its-root = ap (λ (h : Held). h.root) taken.is

  its-count : held.tokens ≡ nodes (alone taken.given.tree)
  unfolding held_of
  its-count = ap (λ (h : Held). h.tokens) taken.is

  its-tokens : take held.tokens held.token ≡ reader.tokens (alone taken.given.tree)
  unfolding held_of
  its-tokens =
      let l = reader.tokens (alone taken.given.tree) in
      let long : length l ≡ nodes (alone taken.given.tree) = length-tokens (alone taken.given.tree) in
      let stored : sets (replicate 255 0) 0 l ≡ l ++ drop (0 + length l) (replicate 255 0)
      = sets-eq l (replicate 255 0) 0 (omega (arith, within.nodes, length-replicate {A = ℕ} 255 0)) in
      ap₂ (λ (k : ℕ) (t : List ℕ). take k t) its-count (ap (λ (h : Held). h.token) taken.is)
      ∙ ap (take (nodes (alone taken.given.tree))) stored ∙ take_at l (drop (0 + length l) (replicate 255 0)) (nodes (alone
      taken.given.tree)) long

  test-is : and_of_atoms held.root (take held.tokens held.token) ≡ and_of_atoms (reader.kind_of taken.given.tree) (reader.tokens (alone
      taken.given.tree))
  test-is = ap₂ and_of_atoms its-root its-tokens

  -- ---- refusal 19

  pub refuses-19 : (room : ℕ) → and_of_atoms held.root (take held.tokens held.token) ≡ false → why room bytes ≡ refusal 19
  unfolding why why_of why_atoms formula_of
  refuses-19 room e =
      ap (why_of room) taken.accepted
      ∙ ap (why_atoms room taken.given.variables)
      (no-root within.polynomials (looked_up taken.given.table) taken.given.tree within.tree (sym test-is ∙ e))

  module _ (e : and_of_atoms held.root (take held.tokens held.token) ≡ true) where
    flat : FlatRoot taken.given.tree
    flat = flat-root within.polynomials taken.given.tree within.tree (sym test-is ∙ e)

    -- The root of an AND is no atom.
    pub atoms-many : length (atoms_read taken.given) + behind_root held.root ≡ held.tokens
    unfolding formula_of
    atoms-many = rw (its-root, its-count) (root-count (looked_up taken.given.table) taken.given.tree flat)

    by-atoms : (room : ℕ) → why room bytes ≡ unless_fewer (leb (length (atoms_read taken.given)) room) (explained (reasons taken.given.variables
        (atoms_read taken.given)))
    unfolding why why_of why_atoms formula_of
    by-atoms room =
        ap (why_of room) taken.accepted
        ∙ ap (why_atoms room taken.given.variables) (only-root (looked_up taken.given.table) taken.given.tree flat)

    -- ---- refusal 20, and what is explained

    pub refuses-20 : (room : ℕ) → room < held.tokens - behind_root held.root → why room bytes ≡ refusal 20
    unfolding unless_fewer
    refuses-20 room h =
        by-atoms room ∙ ap (λ (b : Bool). unless_fewer b (explained (reasons taken.given.variables (atoms_read taken.given))))
        (lt-leb (length (atoms_read taken.given)) room (omega (arith, atoms-many)))

    pub explains : (room : ℕ) → held.tokens - behind_root held.root ≤ room
        → why room bytes ≡ explained (reasons taken.given.variables (atoms_read taken.given))
    unfolding unless_fewer
    explains room h =
        by-atoms room ∙ ap (λ (b : Bool). unless_fewer b (explained (reasons taken.given.variables (atoms_read taken.given))))
        (le-leb (length (atoms_read taken.given)) room (omega (arith, atoms-many)))

    module _ (w : WorkingTable) where
      abbrev Part : Held → Row → Type 0
      Part h row = (k : ℕ) (m : List ℕ) → Lists (row_of (placed_tokens h.tokens (normal_tokens w.number w.turned h.tokens h.token)) k) m
          → h.tokens ≤ length m
          → Lists row (take (h.tokens - behind_root h.root) (drop (behind_root h.root) m))

      block_reads : {plain : Bool} {row : Row}
          → Worked plain (held_of taken.given).coefficient (held_of taken.given).monomial (held_of taken.given).terms (held_of
          taken.given).polynomials
          (held_of taken.given).variables w → Part (held_of taken.given) row → Reads (table_of (held_of taken.given).variables w) (atoms_read
          taken.given) row
      unfolding held_of
      block_reads worked part = record {
        list = these taken.given within flat w worked;
        lists = block-part taken.given within flat w worked part;
        few = block-few taken.given within flat w worked;
        is = block-clauses taken.given within flat w worked;
      }

      -- The part of the tape behind the root's token is the row of the atoms as read.
      pub reads : {plain : Bool} {row : Row} → Worked plain held.coefficient held.monomial held.terms held.polynomials held.variables w
          → Part held row → Reads (table_of held.variables w) (atoms_read taken.given) row
      reads {plain} {row} =
          subst (λ (h : Held). Worked plain h.coefficient h.monomial h.terms h.polynomials h.variables w → Part h row
          → Reads (table_of h.variables w) (atoms_read taken.given) row) (sym taken.is) block_reads

-- A block whose root is an AND of atoms.
pub record AndSome (held : Held) : Type 0 where
  pub bytes : List ℕ
  pub taken : Taken bytes held
  pub only : and_of_atoms held.root (take held.tokens held.token) ≡ true

-- The arrays of the working table are blank, with the mark of the fast engine.
pub blank-table : working_by (replicate 1280 (pos 0)) (replicate 1280 0) (replicate 81 0) (replicate 64 0) (replicate 64 false) ≡ blank (is_plain
    (replicate 81 0))
unfolding blank bit
blank-table = refl

-- What is told of an AND of atoms.
pub told-reasons : {bytes : List ℕ} {held : Held} (taken : Taken bytes held) → and_of_atoms held.root (take held.tokens held.token) ≡ true
    → (room : ℕ)
    → held.tokens - behind_root held.root ≤ room → (told : Told) → told.outcome ≡ Ok (held.tokens - behind_root held.root)
    → TellsReasons told.found (reasons held.variables (atoms_read taken.given)) → Tells room (why room bytes) told
unfolding held_of
told-reasons {held} taken e room h told is tells =
    let n : held.variables ≡ taken.given.variables = ap (λ (h : Held). h.variables) taken.is in
    let long : length (reasons held.variables (atoms_read taken.given)) ≡ length (atoms_read taken.given) = reasons-long held.variables
    (atoms_read taken.given) in
    let many : held.tokens - behind_root held.root ≡ length (reasons held.variables (atoms_read taken.given)) = omega
    (arith, long, atoms-many taken e) in
    tells-explained told
    (explains taken e room h ∙ ap (λ (k : ℕ). explained (reasons k (atoms_read taken.given))) (sym n)) tells (is ∙ ap Ok many)
    (omega (arith, many)) (omega (arith, many, tokens-few taken))
