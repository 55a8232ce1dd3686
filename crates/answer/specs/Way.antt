-- The way of an accepted block through the crates below: what is held, made normal, simplified, collected and written, step by step.
-- Each step takes what the function of that step ensures, and gives what the next one asks.
use Rattle.std.specs.Prelude.{◌≡◌, Ok, Bool, ℤ, take, replicate}
use Rattle.std.proofs.Math.Path.{refl, sym, ap, ap₂, subst}
use Rattle.std.proofs.Common.{◌∙◌, zero-add, take_at}
use mathlib.Core.List.{List, [], ◌∷◌, ◌++◌, map}
use Prim.Native.Nat.{ℕ, suc, ◌%◌, ◌<◌, ◌≤◌, max}
use native.Mathlib.Omega.{arith}
use Rattle.std.proofs.Math.ListN.{length, get_or, drop, length-replicate}
use Rattle.std.proofs.lemmas.List.{length-map}
use Rattle.std.proofs.Math.Seq.{sets, length-sets}
use Rattle.std.proofs.lemmas.List.Edits.{sets-eq}
use Rattle.rules.specs.Polynomial.{Atom}
use Rattle.rules.specs.Formula.{Node, each_atom_of, alone, atoms, nodes}
use Rattle.rules.specs.Level.{Placed, plain as without_place, placed_tree, places, simplify}
use Rattle.rules.specs.Count.{most_rounds}
use Rattle.rules.specs.Block.{NumberedAtom, Block, Reading, Edition, edition_number, edition_of, head_edition, write_block, block_length}
use Rattle.rules.specs.Limits.{PartsWithin, BlockWithin}
use Rattle.rules.specs.Answer as book
use Rattle.rules.specs.Answer.{looked_up, formula_of, used, without_constants, forms_used, numbered, block_of, simplified, new_block, new_places, read_places, rounds_of}
use Rattle.rules.specs.Demands.{atoms_of}
use Rattle.block_laws.specs.Head.{edition-back}
use Rattle.block_laws.specs.Blocks.{accepted-within}
use Rattle.block_laws.specs.Sizes.{length-block}
use Rattle.length_laws.specs.Blocks.{in-order-many}
use Rattle.length_laws.specs.Places.{places-name}
use Rattle.block.specs.declared.Held.{Held}
use Rattle.block.specs.Held as reader
use Rattle.block.specs.Held.{held_by, BlockRoom, held_over, held_of}
use Rattle.writer.specs.Written.{Writable}
use Rattle.forms.specs.declared.WorkingTable.{WorkingTable}
use Rattle.forms.specs.Working.{TableRead, table_of, Worked}
use Rattle.forms.specs.Tokens.{normal_tokens}
use Rattle.tape.specs.Token.{atom_of}
use Rattle.tape.specs.Listing.{row-long}
use Rattle.places.specs.Places.{placed_tokens, place_bytes, places_over}
use Rattle.level.specs.declared.writing.Tree.{Tree}
use Rattle.level.specs.Tree.{TreeHeld, Simplified}
use Rattle.used.specs.Tape.{in_slot, Holds, HoldsSome}
use Rattle.answer.specs.declared.Verdict.{Verdict}
use Rattle.array_laws.specs.Arrays.{held-table-read}
use Rattle.answer.specs.Normal.{normalised, normal_tree, normal-holds, normal-kind, normal-within}
use Rattle.answer.specs.Tapes.{token_tree, atoms-few, plain, plain_tokens, tokens-in-slots, held-as-tokens, result, result-is, result-places, result-holds}
use Rattle.answer.specs.Tapes.{result-kind}
use Rattle.answer.specs.Travel.{slots-simplified, slots-used, slots-counted, new-writable, new-room}
use Rattle.answer.specs.Answered.{verdict_from, verdict_of, counts_of, answer_of, answer-accepted, answer-written, new-verdict, atoms-same}
use Rattle.array_laws.specs.Writing.{writable}
use Rattle.answer.specs.Entry.{Accepted, Answers, TellsPlaces, CountsRounds}

-- ---- the tape that is simplified

-- A tape over the slots of the working table that stands for the given block.
pub record Prepared (given : Block) (held : Held) (w : WorkingTable) (token : List ℕ) : Type 0 where
  pub tree : Node NumberedAtom
  pub holds : Holds token held.tokens tree
  pub kind : reader.kind_of tree ≡ held.root
  pub within : PartsWithin 6 64 0 (alone tree)
  pub simplifies : simplify held.variables (placed_tree (each_atom_of (in_slot (table_of held.variables w)) tree)) ≡ simplified given
  pub counted : atoms (alone tree) ≡ atoms (alone given.tree)
  pub uses : without_constants (used [] (alone (each_atom_of (in_slot (table_of held.variables w)) tree))) ≡ forms_used (formula_of given)
  pub rounds : most_rounds held.variables (placed_tree (each_atom_of (in_slot (table_of held.variables w)) tree))
      ≡ most_rounds given.variables (placed_tree (formula_of given))

module _ {bytes : List ℕ} {edition : ℕ} {held : Held} {room : ℕ} (accepted : Accepted bytes edition held room) where
  within : BlockWithin accepted.given
  within = accepted-within bytes accepted.accepted

  -- What the working table asks for.
  pub asks-table : TableRead held.coefficient held.monomial held.terms held.polynomials held.variables
  asks-table = subst (λ (h : Held). TableRead h.coefficient h.monomial h.terms h.polynomials h.variables) (sym accepted.is)
      (held-table-read accepted.given within)

  -- The arrays are as long as the reader's,
  pub tape-long : length held.token ≡ 255
  unfolding held_of
  tape-long = ap (λ (h : Held). length h.token) accepted.is ∙ length-sets (replicate 255 0) 0 (reader.tokens (alone accepted.given.tree)) ∙ length-replicate {A = ℕ} 255 0

  -- and there is room for another block in them.
  pub asks-room : (token : List ℕ) → length token ≡ length held.token → BlockRoom held.coefficient held.monomial held.terms token
  asks-room token same = record {
    coefficients = omega (arith, asks-table.coefficients);
    monomials = omega (arith, asks-table.monomials);
    counts = omega (arith, asks-table.counts);
    tokens = omega (arith, tape-long, same);
  }

  -- The tape has as many tokens as are counted.
  pub counts-tokens : held.tokens ≤ length held.token
  unfolding held_of
  counts-tokens = subst (λ (h : Held). h.tokens ≤ length h.token) (sym accepted.is)
      (rw (length-sets, length-replicate) within.nodes)

  prepared-block : {plain : Bool} (w : WorkingTable) → Worked plain (held_of accepted.given).coefficient (held_of accepted.given).monomial (held_of accepted.given).terms
      (held_of accepted.given).polynomials (held_of accepted.given).variables w
      → Prepared accepted.given (held_of accepted.given) w
      (normal_tokens w.number w.turned (held_of accepted.given).tokens (held_of accepted.given).token)
  unfolding held_of
  prepared-block w worked = record {
    tree = normal_tree accepted.given within w worked;
    holds = normal-holds accepted.given within w worked;
    kind = normal-kind accepted.given within w worked;
    within = normal-within accepted.given within w worked;
    simplifies = slots-simplified accepted.given within w worked;
    counted = atoms-same (normalised w.number w.turned) accepted.given.tree;
    uses = slots-used accepted.given within w worked;
    rounds = slots-counted accepted.given within w worked;
  }

  -- The tape brought to normal form is prepared.
  pub prepares : {plain : Bool} (w : WorkingTable) → Worked plain held.coefficient held.monomial held.terms held.polynomials held.variables w
      → (token : List ℕ) → token ≡ normal_tokens w.number w.turned held.tokens held.token → Prepared accepted.given held w token
  prepares {plain} w worked token is =
      subst (Prepared accepted.given held w) (sym is)
      (subst (λ (h : Held). Worked plain h.coefficient h.monomial h.terms h.polynomials h.variables w
      → Prepared accepted.given h w (normal_tokens w.number w.turned h.tokens h.token)) (sym accepted.is) (prepared-block w) worked)

-- ---- the tape that comes out

module _ {given : Block} {held : Held} {w : WorkingTable} {token : List ℕ} (prepared : Prepared given held w token) where
  -- What the level rules ask for.
  pub asks-tree : TreeHeld (placed_tokens held.tokens token) held.root (token_tree prepared.tree)
  asks-tree = held-as-tokens prepared.tree prepared.within prepared.holds prepared.kind

  -- What the count of atoms asks for.
  pub asks-atoms : HoldsSome token held.tokens
  asks-atoms = record { tree = prepared.tree; holds = prepared.holds }

  module _ (r : Tree) (simpler : Simplified (table_of held.variables w) (token_tree prepared.tree) r) where
    -- The row has as many tokens as are counted.
    pub counts-row : r.tokens.count ≤ length r.tokens.token
    counts-row = row-long simpler.lists

    -- The simplified tree.
    abbrev pub simpler_tree : Node NumberedAtom
    simpler_tree = result (table_of held.variables w) (token_tree prepared.tree) r simpler

    -- What is simplified is the block's formula, each atom at its place.
    simplifies-placed : simplify held.variables (each_atom_of (atom_of (table_of held.variables w)) (token_tree prepared.tree)) ≡ simplified given
    simplifies-placed =
        ap (simplify held.variables)
        (tokens-in-slots prepared.tree prepared.within (table_of held.variables w) (omega (arith, prepared.holds.counted, prepared.holds.few)))
        ∙ prepared.simplifies

    -- It stands for the simplified formula,
    pub simpler-is : each_atom_of (in_slot (table_of held.variables w)) simpler_tree ≡ each_atom_of without_place (simplified given)
    simpler-is = result-is (table_of held.variables w) (token_tree prepared.tree) r simpler ∙ ap (each_atom_of without_place) simplifies-placed

    -- and tells the places of its atoms.
    pub simpler-places : place_bytes (take r.tokens.count r.tokens.token) ≡ map (λ (k : ℕ). k % 256) (new_places given)
    unfolding new_places
    simpler-places =
        result-places (table_of held.variables w) (token_tree prepared.tree) r simpler
        ∙ ap (λ (n : Node Placed). map (λ (k : ℕ). k % 256) (places (alone n))) simplifies-placed

    -- The plain tape holds it.
    pub simpler-holds : (tape : List ℕ) → tape ≡ plain_tokens r.tokens.count r.tokens.token → Holds tape r.tokens.count simpler_tree
    simpler-holds tape is =
        let front : List ℕ = map plain (take r.tokens.count r.tokens.token) in
        let long : length front ≡ r.tokens.count
        = length-map (take r.tokens.count r.tokens.token) plain ∙ ap length simpler.lists.is ∙ sym simpler.lists.size in
        result-holds (table_of held.variables w) (token_tree prepared.tree) r simpler
        (ap (take r.tokens.count) is ∙ take_at front (drop r.tokens.count r.tokens.token) r.tokens.count long)

    -- There are at most 255 tokens.
    pub counts-few : r.tokens.count ≤ 255
    counts-few = (simpler-holds (plain_tokens r.tokens.count r.tokens.token) refl).few

    -- Its root is of the kind that is told.
    pub simpler-kind : reader.kind_of simpler_tree ≡ r.root
    simpler-kind = result-kind (table_of held.variables w) (token_tree prepared.tree) r simpler

-- The number of rounds is the block's.
pub counts-rounds : {bytes : List ℕ} {edition : ℕ} {held : Held} {room : ℕ} (accepted : Accepted bytes edition held room) {w : WorkingTable} {token : List ℕ}
    (prepared : Prepared accepted.given held w token) {largest rounds : ℕ}
    → rounds ≡ max largest (most_rounds held.variables (each_atom_of (atom_of (table_of held.variables w)) (token_tree prepared.tree)))
    → CountsRounds bytes largest rounds
unfolding rounds_of
counts-rounds {held} accepted {w} prepared {largest} counted = record {
  is =
      counted
      ∙ ap (λ (tree : Node Placed). max largest (most_rounds held.variables tree))
      (tokens-in-slots prepared.tree prepared.within (table_of held.variables w) (omega (arith, prepared.holds.counted, prepared.holds.few)))
      ∙ ap (max largest) prepared.rounds ∙ sym (ap (λ (reading : Reading Block). max largest (rounds_of reading)) accepted.accepted);
}

-- ---- the new block

module _ {bytes : List ℕ} {edition : ℕ} (before : List ℕ) {held : Held} (accepted : Accepted bytes edition held (length before)) {w : WorkingTable} {token : List ℕ}
    (prepared : Prepared accepted.given held w token) (r : Tree)
    (simpler : Simplified (table_of held.variables w) (token_tree prepared.tree) r) (tape : List ℕ) where
  same-variables : held.variables ≡ accepted.given.variables
  unfolding held_of
  same-variables = ap (λ (h : Held). h.variables) accepted.is

  -- The new block, stored over the arrays that held the given one, the tape as it is then.
  abbrev pub new_held : Held
  new_held = held_over held.coefficient held.monomial held.terms tape (new_block accepted.given)

  -- This is what is collected,
  pub collects : {m : ℕ} {cs : List ℤ} {ms ts new : List ℕ}
      → held_by held.variables m (reader.kind_of (simpler_tree prepared r simpler)) r.tokens.count cs ms ts new
      ≡ held_over held.coefficient held.monomial held.terms tape
      (block_of held.variables (each_atom_of (in_slot (table_of held.variables w)) (simpler_tree prepared r simpler)))
      → held_by held.variables m r.root r.tokens.count cs ms ts new ≡ new_held
  unfolding new_block
  collects {m} {cs} {ms} {ts} {new} is =
      ap (λ (kind : ℕ). held_by held.variables m kind r.tokens.count cs ms ts new) (sym (simpler-kind prepared r simpler)) ∙ is
      ∙ ap₂ (λ (n : ℕ) (tree : Node Atom). held_over held.coefficient held.monomial held.terms tape (block_of n tree)) same-variables (simpler-is prepared r simpler)

  -- The number is that of the edition that was read.
  own-edition : edition_of edition ≡ head_edition bytes
  own-edition = ap edition_of accepted.in_edition ∙ edition-back (head_edition bytes)

  -- which can be written, in the edition that was read.
  pub writes : (new : Held) → new ≡ new_held → length tape ≡ length held.token → Writable edition new (length before) (new_block accepted.given)
  writes new is same =
      let table = asks-table accepted in
      let known : edition ≡ edition_number (edition_of edition) = accepted.in_edition ∙ ap edition_number (sym own-edition) in
      let room : block_length (edition_of edition) (new_block accepted.given) ≤ length before
      = rw own-edition (omega (arith, new-room bytes accepted.accepted, accepted.enough)) in
      subst (λ (h : Held). Writable edition h (length before) (new_block accepted.given)) (sym is)
      (writable (new_block accepted.given) (new-writable bytes accepted.accepted) held.coefficient held.monomial held.terms tape
      table.coefficients table.monomials table.counts (same ∙ tape-long accepted) edition (length before) known room)

  new-atoms : atoms (alone (simpler_tree prepared r simpler)) ≡ atoms (alone (new_block accepted.given).tree)
  unfolding new_block block_of
  new-atoms =
      sym (atoms-same (in_slot (table_of held.variables w)) (simpler_tree prepared r simpler))
      ∙ ap (λ (tree : Node Atom). atoms (alone tree)) (simpler-is prepared r simpler)
      ∙ sym (atoms-same (numbered (used [] (alone short))) short)
    where
      short : Node Atom
      short = each_atom_of without_place (simplified accepted.given)

  -- ---- the places

  -- A place is that of an atom of the block, so it fits a byte.
  place-small : (i : ℕ) → i < length (new_places accepted.given) → get_or (new_places accepted.given) i 0 < 256
  unfolding atoms_of formula_of
  place-small i h =
      let given = accepted.given in
      let within = accepted-within bytes accepted.accepted in
      omega (
        arith,
        (places-name given within).of_input i h,
        in-order-many (alone (formula_of given)),
        atoms-same (looked_up given.table) given.tree,
        atoms-few (alone given.tree),
        within.nodes,
      )

  pub places-told : (slice after : List ℕ) → after ≡ places_over (take r.tokens.count r.tokens.token) slice → TellsPlaces bytes slice after
  unfolding read_places
  places-told slice after is =
      let bytes-are : place_bytes (take r.tokens.count r.tokens.token) ≡ new_places accepted.given
      = simpler-places prepared r simpler ∙ small_bytes (new_places accepted.given) place-small in
      record { is = is ∙ rw (bytes-are, accepted.accepted) }
    where
      small_bytes : (l : List ℕ) → ((i : ℕ) → i < length l → get_or l i 0 < 256) → map (λ (k : ℕ). k % 256) l ≡ l
      small_bytes [] h = refl
      small_bytes (k ∷ l) h =
          let first : k < 256 = h 0 (omega arith) in
          let same : k % 256 ≡ k = omega arith in
          ap₂ (λ (j : ℕ) (m : List ℕ). j ∷ m) same (small_bytes l (λ i low. h (suc i) (omega arith)))

  -- So what is returned and written is the book's answer.
  pub answers : (new : Held) → new ≡ new_held → (after : List ℕ) (atoms-in atoms-out polynomials-in size : ℕ) (verdict : Verdict)
      → size ≡ block_length (edition_of edition) (new_block accepted.given)
      → after ≡ sets before 0 (write_block (edition_of edition) (new_block accepted.given))
      → atoms-in ≡ atoms (alone prepared.tree) → atoms-out ≡ atoms (alone (simpler_tree prepared r simpler))
      → polynomials-in ≡ length (without_constants (used [] (alone (each_atom_of (in_slot (table_of held.variables w)) prepared.tree)))) → verdict ≡ verdict_from new.root new.tokens
      → Answers bytes before after (Ok (record {
        verdict = verdict;
        length = size;
        counts = record { atoms_in = atoms-in; atoms_out = atoms-out; polynomials_in = polynomials-in; polynomials_out = new.polynomials };
      }))
  unfolding answer_of counts_of book.counts_of held_of
  answers new New-is after atoms-in atoms-out polynomials-in size verdict size_is after_is in_is out-is uses-is verdict-is =
      let given = accepted.given in
      let told : verdict ≡ verdict_of (book.verdict_of (simplified given))
      = verdict-is ∙ ap (λ (h : Held). verdict_from h.root h.tokens) New-is ∙ sym (new-verdict given) in
      let own : Edition = head_edition bytes in
      let wrote : List ℕ = write_block own (new_block given) in
      let long : size ≡ length wrote = rw own-edition at size_is ∙ sym (length-block own (new_block given)) in
      let before-in : atoms-in ≡ atoms (alone given.tree) = in_is ∙ prepared.counted in
      let before-out : atoms-out ≡ atoms (alone (new_block given).tree) = out-is ∙ new-atoms in
      let forms-in : polynomials-in ≡ length (forms_used (formula_of given)) = uses-is ∙ ap length prepared.uses in
      let table-out : new.polynomials ≡ length (new_block given).table = ap (λ (h : Held). h.polynomials) New-is in
      let fits : length wrote ≤ length before = omega (arith, new-room bytes accepted.accepted, accepted.enough, length-block own (new_block given)) in
      let stored : sets before 0 wrote ≡ wrote ++ drop (length wrote) before
      = rw (zero-add (length wrote)) at (sets-eq wrote before 0 (omega arith)) in
      record {
        returns = rw (answer-accepted (length before) bytes accepted.enough accepted.accepted, told, long, before-in, before-out, forms-in, table-out);
        output = rw own-edition at after_is ∙ stored ∙ ap (λ (k : ℕ). wrote ++ drop k before) (length-block own (new_block given))
            ∙ sym (answer-written (length before) bytes accepted.enough accepted.accepted before);
      }
