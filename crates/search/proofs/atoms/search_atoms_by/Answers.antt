use borrow.Author.Count.{below_more}
use Rattle.std.proofs.Common.{◌≡◌, ℕ, ◌<◌, length, get_or, false, refl, sym, ap, ◌∙◌, true≢false, arith, rules}
use Rattle.std.proofs.Math.Option.{none, some}
use Rattle.rules.specs.TwoAtoms.{tries}
use Rattle.terms.specs.View.{sets_of}
use Rattle.table.specs.Table.{form_at, many}
use Rattle.two_atoms.specs.Cuts.{cut_in}
use Rattle.round.specs.Views.{lent_table}
use Rattle.round.specs.Signing.{atom_slot}
use Rattle.search.specs.Search.{when_found}
use Rattle.search.specs.Silent.{tries-quieted, silenced-ready, silenced-words, others_at}
use Rattle.search.proofs.Firsts.{found_first, found_none, first_at, first-of-atoms}
use Rattle.search.proofs.Nothing.{atoms-nothing}
use Rattle.search.proofs.atoms.search_atoms_by.Goals.{After-cut_by_pairs-cut}
use Rattle.search.proofs.atoms.search_atoms_by.Goals as goal

pub cut_by_pairs-cut-requires : goal.cut_by_pairs-cut-requires
cut_by_pairs-cut-requires c =
    let i = c.loop-i.i in
    let next : i < many c.args.atoms.count = omega (arith, c.many-i-end.ensures, c.loop-i-test.true) in
    let silence = c.silenced-rest.ensures.silenced in
    let (ready, filled) = c.requires.ready in
    record {
      ready = (silenced-ready silence ready, filled);
      signed = (omega arith, ready.atoms i next);
      words = silenced-words silence c.requires.words;
    }

-- what the pairs of the others leave of the atom's set
cut-is : (c : After-cut_by_pairs-cut) →
    let a = c.args in
    let t = lent_table a.coefficient a.monomial a.terms a.board.variables in
    let i = c.loop-i.i in
    c.cut_by_pairs-cut.result.0 ≡
    cut_in false (get_or a.atoms.set i 0) (tries (sets_of a.board) (form_at t (atom_slot a.atoms.number i)) (others_at t a.atoms i))
cut-is c =
    let a = c.args in
    let t = lent_table a.coefficient a.monomial a.terms a.board.variables in
    c.cut_by_pairs-cut.ensures
    ∙ ap (cut_in false (get_or a.atoms.set c.loop-i.i 0)) (tries-quieted (c.silenced-rest.ensures.quieted t) (sets_of a.board) _)

pub returns-then-cut-set : goal.returns-then-cut-set
unfolding when_found
returns-then-cut-set c =
    let b = c.args.board in
    let a = c.args.atoms in
    let t = lent_table c.args.coefficient c.args.monomial c.args.terms b.variables in
    let l = c.loop-i in
    let next : l.i < many a.count = omega (arith, c.many-i-end.ensures, c.loop-i-test.true) in
    let places : length a.set ≡ 64 = search rules in
    let within : l.i < length a.set = omega (arith, next, places) in
    let here : first_at t a.number a.set (sets_of b) (many a.count) l.i ≡ some c.cut_by_pairs-cut.result.0 =
    found_first (get_or a.set l.i 0) _ (cut-is (goal.at.returns-then-cut-set c).After-cut_by_pairs-cut) c.if-cut-set.true in
    record {
      found = sym (first-of-atoms t a.number a.set (sets_of b) (many a.count) l.i next within l.invariant here);
      count = refl;
      number = refl;
      itself = λ e. absurd (true≢false e);
    }

pub loop-i-preserved : goal.loop-i-preserved
loop-i-preserved c =
    let b = c.args.board in
    let a = c.args.atoms in
    let t = lent_table c.args.coefficient c.args.monomial c.args.terms b.variables in
    let l = c.loop-i in
    let here : first_at t a.number a.set (sets_of b) (many a.count) l.i ≡ none =
    found_none (get_or a.set l.i 0) _ (cut-is (goal.at.loop-i-preserved c).After-cut_by_pairs-cut) c.if-cut-set.false in
    below_more (λ (j : ℕ). first_at t a.number a.set (sets_of b) (many a.count) j ≡ none) l.i l.invariant here

pub returns : goal.returns
returns c =
    let a = c.args in
    atoms-nothing (lent_table a.coefficient a.monomial a.terms a.board.variables) a.board a.atoms
    (λ j low. c.loop-i.invariant j (omega (arith, low, c.many-i-end.ensures, c.loop-i-test.false)))
