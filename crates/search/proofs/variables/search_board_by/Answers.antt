use borrow.Author.Count.{below_more}
use Rattle.std.proofs.Common.{◌≡◌, ℕ, ◌<◌, length, get_or, refl, sym, ap, ◌∙◌, true≢false, arith, rules}
use Rattle.std.proofs.Math.Option.{none, some}
use Rattle.rules.specs.Polynomial.{variable}
use Rattle.rules.specs.TwoAtoms.{tries}
use Rattle.terms.specs.View.{few, sets_of, length-numbers}
use Rattle.table.specs.Table.{atoms_of}
use Rattle.round.specs.Views.{lent_table}
use Rattle.round.specs.Boards.{set_at, changed-at}
use Rattle.search.specs.Search.{when_found}
use Rattle.search.proofs.Firsts.{found_first, found_none, first-of-board}
use Rattle.search.proofs.Nothing.{first_of_variable, board-nothing}
use Rattle.search.proofs.variables.search_board_by.Goals as goal

pub returns-then-cut-set : goal.returns-then-cut-set
unfolding when_found
returns-then-cut-set c =
    let a = c.args in
    let b = a.board in
    let l = c.loop-i in
    let t = lent_table a.coefficient a.monomial a.terms b.variables in
    let atoms = atoms_of t a.atoms in
    let next : l.i < b.variables = c.loop-i-test.true in
    let few_variables = c.requires.ready.0.forms.variables in
    let low : l.i < few b.variables = omega (arith, next, few_variables) in
    let places : length b.sets ≡ 16 = search rules in
    let within : l.i < length b.sets = omega (arith, next, places, few_variables) in
    let inside : l.i < length (sets_of b) = rw (length-numbers b.sets 0 (few b.variables)) low in
    let here : first_of_variable t b a.atoms l.i ≡ some c.cut_variable-cut.result.0 =
    rw (set_at b.sets l.i (few b.variables) low)
    (found_first (get_or b.sets l.i 0) (tries (sets_of b) (variable b.variables l.i) atoms) c.cut_variable-cut.ensures c.if-cut-set.true) in
    record {
      found =
          ap some (changed-at b.sets l.i (few b.variables) low c.cut_variable-cut.result.0 within)
          ∙ sym (first-of-board b.variables atoms (sets_of b) b.variables (sets_of b) l.i next inside l.invariant here);
      variables = refl;
      itself = λ e. absurd (true≢false e);
    }

pub loop-i-preserved : goal.loop-i-preserved
loop-i-preserved c =
    let a = c.args in
    let b = a.board in
    let l = c.loop-i in
    let t = lent_table a.coefficient a.monomial a.terms b.variables in
    let low : l.i < few b.variables = omega (arith, c.loop-i-test.true, c.requires.ready.0.forms.variables) in
    let here : first_of_variable t b a.atoms l.i ≡ none =
    rw (set_at b.sets l.i (few b.variables) low)
    (found_none (get_or b.sets l.i 0) (tries (sets_of b) (variable b.variables l.i) (atoms_of t a.atoms)) c.cut_variable-cut.ensures
    c.if-cut-set.false) in
    below_more (λ (j : ℕ). first_of_variable t b a.atoms j ≡ none) l.i l.invariant here

pub returns : goal.returns
returns c =
    let a = c.args in
    board-nothing (lent_table a.coefficient a.monomial a.terms a.board.variables) a.board a.atoms
    (λ j low. c.loop-i.invariant j (omega (arith, low, c.loop-i-test.false)))
