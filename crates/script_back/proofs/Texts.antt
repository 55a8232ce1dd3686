-- The root by its first byte, the end, and the whole text: the arrays then hold the block that the book reads.
use mathlib.Core.List.{List, [], ◌∷◌, map}
use mathlib.Core.Path.{◌≡◌, refl, sym, ap, ◌∙◌}
use Prim.Native.Nat.{ℕ, ◌+◌, ◌<◌, ◌≤◌}
use native.Mathlib.Nat.{zero-add}
use native.Mathlib.Omega.{arith}
use borrow.Author.Tests.{ne_eqb}
use lib.IntN.{ℤ}
use lib.ListN.{length, drop, get_or, set, drop_of_length-le}
use lib.Seq.{sets, drop-cons}
use Rattle.rules.specs.Polynomial.{Polynomial, Atom}
use Rattle.rules.specs.Formula.{end, Node, leaf, all_of, any_of, before, alone, each_atom, each_atom_of, children, nodes}
use Rattle.rules.specs.Block.{Block}
use Rattle.rules.specs.Limits.{no_polynomials}
use Rattle.rules.specs.Answer.{used, numbered, block_of}
use Rattle.block.specs.Held.{slots, tokens, kind_of, held_by, held_over}
use Rattle.rules.specs.Reader.{give, Outcome}
use Rattle.rules.specs.Combine.{say, open_combine}
use Rattle.rules.specs.Text.{bytes, opening}
use Rattle.rules.specs.Reading.{atom_with, node_by, node, root, declarations_from, script, read_text}
use Rattle.script_laws.specs.Steps.{Part, got, stop, read_part, and_then, whole_text, part_then, part-whole}
use Rattle.script_polynomial.specs.At.{read_at}
use Rattle.script_polynomial.specs.Tabled.{Tabled, SomeTabled}
use Rattle.script_back.specs.Runs.{just, SaidBy, Said}
use Rattle.script_back.specs.Tree.{Finds, NodeFound}
use Rattle.script_back.specs.Whole.{root_tree, Blank, NoneFound, RootFound, end_at, EndBy, EndFound, ScriptBy, Scripts}
use Rattle.script_back.specs.Whole.{AllDeclared, DeclaredBy, DeclaredFound, AssertionFound, RestFound, ScriptFound}
use Rattle.script_back.specs.declared.declarations.Declared.{Declared}
use Rattle.script_back.specs.declared.tree.Place.{Place}
use Rattle.script_back.specs.declared.tree.Branch.{Branch}
use Rattle.script_back.specs.declared.whole_script.Script.{Script}
use Rattle.script_back.proofs.Positions.{say-then, byte_at, first_byte}
use Rattle.script_back.proofs.Tokens.{each-nodes}
use Rattle.script_back.proofs.Walk.{found-mapped, found-same}
use Rattle.std.specs.Prelude.{Result, Ok, Err}
use Rattle.script_polynomial.specs.declared.Stop.{Stop}

-- ---- an AND or an OR of none

module _ {text : List ℕ} {at : ℕ} {run : List ℕ} {kind : ℕ} {token : List ℕ} {step : Result ℕ Stop} (h : Said text at run step) where
  pub none-stops : {halt : Stop} {token' : List ℕ} → step ≡ Err halt → NoneFound text at run kind token token' (Err halt)
  unfolding SaidBy Finds
  none-stops e = record { finds = (rw e at h).by_step }

  pub none_reads : {next : ℕ} → step ≡ Ok next → NoneFound text at run kind token (set token 0 16777216) (Ok (record { behind = record { at = next; room = 254; known = 0; tokens = 1 }; kind = kind }))
  unfolding SaidBy Finds
  none_reads e =
      let stand = (rw e at h).by_step in
      record {
        finds = record {
          part = 0;
          reading = stand.reading;
          inside = stand.inside;
          stored = record { known = refl; counted = refl; room = refl; tape = refl; kind_is = refl };
        };
      }

-- ---- the root by its first byte

root_true : (n p : ℕ) (u : List ℕ) → read_part p (root_tree n) (116 ∷ u) ≡ read_part p (say (bytes "true") (give (all_of end))) (116 ∷ u)
unfolding read_part node node_by atom_with open_combine opening
root_true n p u = refl

root_false : (n p : ℕ) (u : List ℕ) → read_part p (root_tree n) (102 ∷ u) ≡ read_part p (say (bytes "false") (give (any_of end))) (102 ∷ u)
unfolding read_part node node_by atom_with open_combine opening
root_false n p u = refl

root_node : (n p : ℕ) (t : List ℕ) → (get_or t 0 0 ≡ 116 → ⊥) → (get_or t 0 0 ≡ 102 → ⊥) → read_part p (root_tree n) t ≡ read_part p (node n 6 0 [] 254) t
unfolding read_part node node_by atom_with open_combine opening
root_node n p [] h k = refl
root_node n p (b ∷ t) h k = rw (ne_eqb b 116 h, ne_eqb b 102 k, read_part)

blank-tabled : {n : ℕ} {cs : List ℤ} {ms ts token : List ℕ} → Blank n cs ms ts token → Tabled n cs ms ts [] cs ms ts
unfolding slots
blank-tabled blank = record {
  some_variables = blank.some;
  variables = blank.most;
  polynomials = omega arith;
  within = no_polynomials;
  coefficients = blank.lent.coefficients;
  monomials = blank.lent.monomials;
  counts = blank.lent.counts;
  coefficient = refl;
  monomial = refl;
  terms = refl;
}

pub blank-some : {n : ℕ} {cs : List ℤ} {ms ts token : List ℕ} → Blank n cs ms ts token → SomeTabled n 0 cs ms ts
blank-some {n} {cs} {ms} {ts} blank = record {
  coefficients_before = cs;
  monomials_before = ms;
  counts_before = ts;
  table = [];
  tabled = blank-tabled blank;
  counted = refl;
}

module _ {text : List ℕ} {at n : ℕ} {cs : List ℤ} {ms ts token : List ℕ} (blank : Blank n cs ms ts token) where
  pub root-is-true : {token' : List ℕ} {branch : Result Branch Stop} → get_or text at 0 ≡ 116 → NoneFound text at (bytes "true") 1 token token' branch → RootFound text at n cs cs ms ms ts ts token token' branch
  unfolding used alone before tokens each_atom_of each_atom nodes children kind_of read_part
  root-is-true e h =
      let there = first_byte text at 116 e (omega arith) in
      found-mapped (λ (x : ℕ). all_of end)
      (ap (read_part at (root_tree n)) there ∙ root_true n at (drop (at + 1) text) ∙ ap (read_part at (say (bytes "true") (give (all_of end)))) (sym there)
      ∙ say-then at (bytes "true") (give (all_of end)) (drop at text))
      (λ x after kind stored. record {
        tabled = blank-tabled blank;
        known = sym stored.known;
        tape = stored.tape;
        counted = stored.counted;
        room_left = omega (arith, stored.counted, stored.room);
        kind_is = stored.kind_is;
      })
      h

  pub root-is-false : {token' : List ℕ} {branch : Result Branch Stop} → get_or text at 0 ≡ 102 → NoneFound text at (bytes "false") 2 token token' branch → RootFound text at n cs cs ms ms ts ts token token' branch
  unfolding used alone before tokens each_atom_of each_atom nodes children kind_of read_part
  root-is-false e h =
      let there = first_byte text at 102 e (omega arith) in
      found-mapped (λ (x : ℕ). any_of end)
      (ap (read_part at (root_tree n)) there ∙ root_false n at (drop (at + 1) text) ∙ ap (read_part at (say (bytes "false") (give (any_of end)))) (sym there)
      ∙ say-then at (bytes "false") (give (any_of end)) (drop at text))
      (λ x after kind stored. record {
        tabled = blank-tabled blank;
        known = sym stored.known;
        tape = stored.tape;
        counted = stored.counted;
        room_left = omega (arith, stored.counted, stored.room);
        kind_is = stored.kind_is;
      })
      h

  pub root-is-node : {cs' : List ℤ} {ms' ts' token' : List ℕ} {branch : Result Branch Stop} → (get_or text at 0 ≡ 116 → ⊥) → (get_or text at 0 ≡ 102 → ⊥)
      → NodeFound text n 6 0 (record { at = at; room = 254; known = 0; tokens = 0 }) cs cs' ms ms' ts ts' token token' branch → RootFound text at n cs cs' ms ms' ts ts' token token' branch
  root-is-node h k found =
      found-same (root_node n at (drop at text) (λ e. h (sym (byte_at text at) ∙ e)) (λ e. k (sym (byte_at text at) ∙ e))) (λ node after kind stored. stored)
      (found.found cs ms ts [] (blank-tabled blank) refl)

-- ---- the end

end-as : (text : List ℕ) (at : ℕ) (block : Block) (x : Part ℕ) → read_at text at (just (bytes ")\n")) ≡ x → end_at text at block ≡ whole_text (and_then x (λ u q rest. got block q rest))
unfolding read_part
end-as text at block x e = ap whole_text (say-then at (bytes ")\n") (give block) (drop at text) ∙ ap (λ (x : Part ℕ). and_then x (λ u q rest. got block q rest)) e)

got-said : {text : List ℕ} {at : ℕ} {run : List ℕ} {step : Result ℕ Stop} → Said text at run step → {next : ℕ} → step ≡ Ok next → read_at text at (just run) ≡ got 0 next (drop next text)
unfolding SaidBy
got-said h e = (rw e at h).by_step.reading

module _ {text : List ℕ} (place : Place) {step : Result ℕ Stop} (h : Said text place.at (bytes ")\n") step) where
  pub end-stops : {n kind : ℕ} {halt : Stop} → step ≡ Err halt → EndFound text place kind n (Err halt)
  unfolding SaidBy EndBy and_then whole_text
  end-stops {halt = halt} e = record { ends = λ block. end-as text place.at block (stop halt.at) (rw e at h).by_step }

  pub end-goes-on : {n kind next : ℕ} → step ≡ Ok next → next < length text → EndFound text place kind n (Err (record { at = next }))
  unfolding EndBy and_then whole_text
  end-goes-on {next = next} e more = record { ends = λ block. end-as text place.at block (got 0 next (drop next text)) (got-said h e) ∙ rw (drop-cons text next 0 more) }

  pub end_reads : {n kind next : ℕ} → step ≡ Ok next → length text ≤ next → EndFound text place kind n (Ok (record { variables = n; polynomials = place.known; root = kind; tokens = place.tokens }))
  unfolding EndBy and_then whole_text
  end_reads {next = next} e past = record {
    ends = record {
      reading = λ block. end-as text place.at block (got 0 next (drop next text)) (got-said h e) ∙ rw (drop_of_length-le text past);
      variables_are = refl;
      polynomials_are = refl;
      kind_is = refl;
      tokens_are = refl;
    };
  }

-- ---- the assertion

-- Arrays that a block is stored over, each by itself.
held_same : (block : Block) (cs : List ℤ) (ms ts token : List ℕ) {n m kind count : ℕ} {cs' : List ℤ} {ms' ts' token' : List ℕ} → n ≡ block.variables → m ≡ length block.table
    → kind ≡ kind_of block.tree → count ≡ nodes (alone block.tree) → cs' ≡ slots (λ t. t.coefficient) 0 block.table cs
    → ms' ≡ slots (λ t. t.monomial) 0 block.table ms → ts' ≡ sets ts 0 (map length block.table) → token' ≡ sets token 0 (tokens (alone block.tree))
    → held_by n m kind count cs' ms' ts' token' ≡ held_over cs ms ts token block
held_same block cs ms ts token e₁ e₂ e₃ e₄ e₅ e₆ e₇ e₈ = rw (e₁, e₂, e₃, e₄, e₅, e₆, e₇, e₈)

nodes-numbered : (table : List Polynomial) (tree : Node Atom) → nodes (alone (each_atom_of (numbered table) tree)) ≡ nodes (alone tree)
unfolding alone before each_atom_of nodes
nodes-numbered table (leaf a) = refl
nodes-numbered table (all_of kids) = ap (λ (i : ℕ). 1 + i + 0) (each-nodes (numbered table) kids)
nodes-numbered table (any_of kids) = ap (λ (i : ℕ). 1 + i + 0) (each-nodes (numbered table) kids)

-- What stands behind the tree.
abbrev behind_tree : ℕ → Node Atom → ℕ → List ℕ → Part Block
behind_tree n tree q u = read_part q (say (bytes ")\n") (give (block_of n tree))) u

root-then : (text : List ℕ) (at n : ℕ) (x : Part (Node Atom)) → read_at text at (root_tree n) ≡ x → read_at text at (root n) ≡ and_then x (behind_tree n)
unfolding root
root-then text at n x e = part_then at (root_tree n) (λ tree. say (bytes ")\n") (give (block_of n tree))) (drop at text) ∙ ap (λ (x : Part (Node Atom)). and_then x (behind_tree n)) e

module _ {text : List ℕ} {at n : ℕ} {cs cs' : List ℤ} {ms ms' ts ts' token token' : List ℕ} {branch : Result Branch Stop} (h : RootFound text at n cs cs' ms ms' ts ts' token token' branch) where
  pub assertion-stops : {halt : Stop} → branch ≡ Err halt → AssertionFound text at n cs cs' ms ms' ts ts' token token' (Err halt)
  unfolding Finds ScriptBy and_then whole_text
  assertion-stops {halt} e = record { found = ap whole_text (root-then text at n (stop halt.at) (rw e at h).finds) }

  module _ {one : Branch} (e : branch ≡ Ok one) where
    abbrev place : Place
    place = one.behind

    abbrev kind : ℕ
    kind = one.kind

    pub root-inside : place.at ≤ length text
    unfolding Finds
    root-inside = (rw e at h).finds.inside

    pub assertion-ends : {script : Result Script Stop} → EndFound text place kind n script → AssertionFound text at n cs cs' ms ms' ts ts' token token' script
    unfolding Finds ScriptBy and_then EndBy block_of
    assertion-ends {script = Err halt} end-found =
        let reached = (rw e at h).finds in
        record {
          found = ap whole_text (root-then text at n (got reached.part place.at (drop place.at text)) reached.reading) ∙ end-found.ends (block_of n reached.part);
        }
    assertion-ends {script = Ok numbers} end-found =
        let reached = (rw e at h).finds in
        let tree = reached.part in
        let stored = reached.stored in
        let ends = end-found.ends in
        record {
          found = record {
            block = block_of n tree;
            reading = ap whole_text (root-then text at n (got tree place.at (drop place.at text)) reached.reading) ∙ ends.reading (block_of n tree);
            stored = held_same (block_of n tree) cs ms ts token ends.variables_are (ends.polynomials_are ∙ sym stored.known) (ends.kind_is ∙ stored.kind_is)
                (ends.tokens_are ∙ stored.counted ∙ zero-add (nodes (alone tree)) ∙ sym (nodes-numbered (used [] (alone tree)) tree))
                stored.tabled.coefficient stored.tabled.monomial stored.tabled.terms stored.tape;
          };
        }

-- ---- the rest, and the whole text

module _ {outcome outcome' : Outcome Block} where
  pub scripts-as : {cs cs' : List ℤ} {ms ms' ts ts' token token' : List ℕ} {found : Result Script Stop} → outcome' ≡ outcome → Scripts outcome cs cs' ms ms' ts ts' token token' found
      → Scripts outcome' cs cs' ms ms' ts ts' token token' found
  unfolding ScriptBy
  scripts-as {found = Err halt} e h = record { found = e ∙ h.found }
  scripts-as {found = Ok numbers} e h =
      let b = h.found in
      record { found = record { block = b.block; reading = e ∙ b.reading; stored = b.stored } }

module _ {text : List ℕ} {at : ℕ} {declared : Result Declared Stop} (h : DeclaredFound text at 0 declared) where
  pub rest-stops : {halt : Stop} {cs cs' : List ℤ} {ms ms' ts ts' token token' : List ℕ} → declared ≡ Err halt → RestFound text at cs cs' ms ms' ts ts' token token' (Err halt)
  unfolding DeclaredBy ScriptBy whole_text
  rest-stops e = record { found = ap whole_text (rw e at h).by_declared }

  pub declared-all : {all : Declared} → declared ≡ Ok all → AllDeclared text at 0 all.variables all.next
  unfolding DeclaredBy
  declared-all e = (rw e at h).by_declared

  pub rest-reads : {all : Declared} {cs cs' : List ℤ} {ms ms' ts ts' token token' : List ℕ} {found : Result Script Stop} → declared ≡ Ok all
      → AssertionFound text all.next all.variables cs cs' ms ms' ts ts' token token' found → RestFound text at cs cs' ms ms' ts ts' token token' found
  rest-reads e assertion = scripts-as (ap whole_text (declared-all e).reading) assertion

abbrev logic : List ℕ
logic = bytes "(set-logic QF_NIA)\n"

module _ {text : List ℕ} {step : Result ℕ Stop} (h : Said text 0 logic step) where
  by_logic : (x : Part ℕ) → read_at text 0 (just logic) ≡ x → read_text text ≡ whole_text (and_then x (λ u q rest. read_part q (declarations_from 0 16) rest))
  unfolding read_text script
  by_logic x e =
      part-whole 0 script text
      ∙ ap whole_text (say-then 0 logic (declarations_from 0 16) text ∙ ap (λ (x : Part ℕ). and_then x (λ u q rest. read_part q (declarations_from 0 16) rest)) e)

  pub script-stops : {halt : Stop} {cs cs' : List ℤ} {ms ms' ts ts' token token' : List ℕ} → step ≡ Err halt → ScriptFound text cs cs' ms ms' ts ts' token token' (Err halt)
  unfolding SaidBy ScriptBy and_then whole_text
  script-stops {halt} e = record { found = by_logic (stop halt.at) (rw e at h).by_step }

  pub script-reads : {next : ℕ} {cs cs' : List ℤ} {ms ms' ts ts' token token' : List ℕ} {found : Result Script Stop} → step ≡ Ok next
      → RestFound text next cs cs' ms ms' ts ts' token token' found → ScriptFound text cs cs' ms ms' ts ts' token token' found
  unfolding and_then
  script-reads {next} e rest = scripts-as (by_logic (got 0 next (drop next text)) (got-said h e)) rest
