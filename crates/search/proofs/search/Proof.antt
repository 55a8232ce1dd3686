-- `search` meets its contract: the signs are worked out for the board at hand; the atoms are searched where nothing is found of the variables.
use borrow.Author.Rules.{rules}
use mathlib.Core.Path.{refl, ap}
use mathlib.Core.Bool.{true≢false}
use Prim.Native.Nat.{ℕ}
use lib.ListN.{length-replicate}
use Rattle.terms.specs.View.{sets_of}
use Rattle.table.specs.declared.Atoms.{Atoms}
use Rattle.table.specs.Table.{Table, atoms_of}
use Rattle.round.specs.declared.State.{State}
use Rattle.round.specs.Views.{lent_table, state_of}
use Rattle.round.specs.SignedSlots.{list-ready}
use Rattle.search.specs.Search.{nowhere-floor}
use Rattle.search.proofs.States.{found-of-board, found-of-atoms}
use Rattle.search.proofs.search.Statement.{statement}
use Rattle.search.proofs.search.Tie as tie

abbrev table : tie.Start → Table
table s = lent_table s.args.coefficient s.args.monomial s.args.terms s.args.state.board.variables

search-board-requires : tie.Need-search_board-of_board-requires
search-board-requires c κs =
    let s = c.before.before.before.before.before.before.before.before.before in
    let st = s.args.state in
    let nowhere = c.no_floor.ensures in (
      (
        rw c.before.before.before.sign_list.ensures (list-ready st.board st.atoms _ s.requires.0 refl (length-replicate {A = ℕ} 1280 0)),
        s.requires.1,
      ),
      (nowhere-floor (atoms_of (table s) st.atoms) s.requires.0.variables nowhere s.requires.1, nowhere.variables),
    )

search-atoms-requires : tie.Need-search_atoms-of_atoms-requires
search-atoms-requires c κs =
    let s = c.before.before.before.before.before.before.before.before.before.before.before.before in
    let st = s.args.state in
    let ready = list-ready st.board st.atoms _ s.requires.0 refl (length-replicate {A = ℕ} 1280 0) in
    (rw c.before.before.before.before.before.before.sign_list.ensures ready, s.requires.1)

returns : tie.Need-returns-then-of_board
returns c =
    let s = c.before.before.before.before.before.before.before.before.before.before.before.before in
    let st = s.args.state in
    let board = c.before.before.search_board-of_board in
    record {
      found =
          found-of-board st.board.variables (state_of (table s) st) board.result.found (sets_of board.result.board) board.ensures.found
          c.before.if-of_board.true;
      variables = board.ensures.variables;
      count = refl;
      number = refl;
      itself = λ e. absurd (true≢false e);
    }

abbrev with-atoms : State → Atoms → State
with-atoms st a = record { board = st.board; atoms = a }

returns-2 : tie.Need-returns
returns-2 c =
    let s = c.before.before.before.before.before.before.before.before.before.before.before.before.before.before in
    let st = s.args.state in
    let board = c.before.before.before.before.search_board-of_board in
    let atoms = c.before.search_atoms-of_atoms in
    record {
      found =
          found-of-atoms st.board.variables (state_of (table s) st) board.result.found (sets_of board.result.board) board.ensures.found
          c.before.before.before.if-of_board.false atoms.result.found (atoms_of (table s) atoms.result.atoms) atoms.ensures.found;
      variables = refl;
      count = atoms.ensures.count;
      number = atoms.ensures.number;
      itself = λ e. ap (λ (a : Atoms). with-atoms st a) (atoms.ensures.itself e);
    }

pub search_spec : {M : Type 1} → statement M
search_spec =
    tie.close
    (tie.spec (λ c. search rules) (λ c κs. search rules) (λ c. search rules) (λ c κs. search rules) search-board-requires returns (λ c. search rules)
    search-atoms-requires returns-2)
