-- `read_node` and `read_kids` meet their contracts; they end, since the tokens that the tape has room for get fewer.
use Rattle.std.proofs.Common.{refl, arith}
use Rattle.std.proofs.lemmas.Result.{err_from_is_err_and}
use Rattle.script_back.proofs.Walk.{tested, node-stopped, next-inside, beginning-allowed, join-allowed, node-atom, node-join, kids-stopped, kids-ended, turn-goes}
use Rattle.script_back.proofs.Walk.{child-stopped, kids-more, child-tabled, child-ready}
use Rattle.script_back.proofs.tree.+read_kids_read_node.Goals as goal

pub read_kids-returns-in_err-turn : goal.read_kids-returns-in_err-turn
read_kids-returns-in_err-turn t c =
    let p = err_from_is_err_and c.from_residual.result c.from_residual.ensures.1 in rw (p.1, p.2) (kids-stopped c.args.place c.in_err-turn.ensures)

pub read_kids-read_node-requires : goal.read_kids-read_node-requires
read_kids-read_node-requires t c =
    let goes = turn-goes c.in_ok-turn.ensures c.in-More.is in (
      omega (arith, c.decreases),
      (c.requires.0, record { inside = goes.inside; tape = c.requires.1.tape; fits = omega (arith, goes.less, c.requires.1.fits) }),
    )

pub read_kids-returns-in_err-branch-in-More : goal.read_kids-returns-in_err-branch-in-More
read_kids-returns-in_err-branch-in-More t c =
    let goes = turn-goes c.in_ok-turn.ensures c.in-More.is in
    let p = err_from_is_err_and c.from_residual-in_err-branch-in-More.result c.from_residual-in_err-branch-in-More.ensures.1 in rw (p.1, p.2) (child-stopped c.args.place goes c.in_err-branch-in-More.ensures refl)

pub read_kids-read_kids-requires : goal.read_kids-read_kids-requires
read_kids-read_kids-requires t c =
    let goes = turn-goes c.in_ok-turn.ensures c.in-More.is in
    let between = child-ready c.args.place goes c.in_ok-branch-in-More.ensures refl c.requires.0 c.requires.1 c.requires.2 in (
      omega (arith, c.decreases, between.further, between.ready.fits),
      (child-tabled c.in_ok-branch-in-More.ensures refl c.requires.0, between.ready, between.kids),
    )

pub read_kids-returns-in-End : goal.read_kids-returns-in-End
read_kids-returns-in-End t c =
    kids-ended c.args.place c.in_ok-turn.ensures c.in-End.is

pub read_kids-returns-in_ok-branch-in-More : goal.read_kids-returns-in_ok-branch-in-More
read_kids-returns-in_ok-branch-in-More t c =
    let goes = turn-goes c.in_ok-turn.ensures c.in-More.is in
    kids-more c.args.place goes c.in_ok-branch-in-More.ensures refl c.read_kids.ensures

pub read_node-returns-in_err-opening : goal.read_node-returns-in_err-opening
read_node-returns-in_err-opening t c =
    let tests = tested c.args.nesting c.args.parent c.args.place.room c.may_join-ands.ensures c.may_join-ors.ensures in
    let p = err_from_is_err_and c.from_residual.result c.from_residual.ensures.1 in rw (p.1, p.2) (node-stopped c.args.variables c.args.place c.in_err-opening.ensures tests refl)

pub read_node-read_atom-requires : goal.read_node-read_atom-requires
read_node-read_atom-requires t c =
    let tests = tested c.args.nesting c.args.parent c.args.place.room c.may_join-ands.ensures c.may_join-ors.ensures in
    let may = beginning-allowed c.args.variables c.args.place c.in_ok-opening.ensures tests refl in (
      c.requires.0,
      record { inside = next-inside c.args.variables c.args.place c.in_ok-opening.ensures tests refl; tape = c.requires.1.tape; fits = c.requires.1.fits },
      may.some,
      omega (arith, c.if-which-lt7.true),
    )

pub read_node-returns-then-which-lt7 : goal.read_node-returns-then-which-lt7
read_node-returns-then-which-lt7 t c =
    let tests = tested c.args.nesting c.args.parent c.args.place.room c.may_join-ands.ensures c.may_join-ors.ensures in
    node-atom c.args.variables c.args.place c.in_ok-opening.ensures tests refl c.if-which-lt7.true c.read_atom.ensures

pub read_node-overflow_sub-first : goal.read_node-overflow_sub-first
read_node-overflow_sub-first t c =
    let tests = tested c.args.nesting c.args.parent c.args.place.room c.may_join-ands.ensures c.may_join-ors.ensures in
    (join-allowed c.args.variables c.args.place c.in_ok-opening.ensures tests refl c.if-which-lt7.false).two

pub read_node-overflow_sub-nesting : goal.read_node-overflow_sub-nesting
read_node-overflow_sub-nesting t c =
    let tests = tested c.args.nesting c.args.parent c.args.place.room c.may_join-ands.ensures c.may_join-ors.ensures in
    omega (arith, (join-allowed c.args.variables c.args.place c.in_ok-opening.ensures tests refl c.if-which-lt7.false).deep)

pub read_node-overflow_cast-which : goal.read_node-overflow_cast-which
read_node-overflow_cast-which t c =
    let tests = tested c.args.nesting c.args.parent c.args.place.room c.may_join-ands.ensures c.may_join-ors.ensures in
    omega (arith, (beginning-allowed c.args.variables c.args.place c.in_ok-opening.ensures tests refl).most)

pub read_node-read_kids-requires : goal.read_node-read_kids-requires
read_node-read_kids-requires t c =
    let tests = tested c.args.nesting c.args.parent c.args.place.room c.may_join-ands.ensures c.may_join-ors.ensures in
    let may = join-allowed c.args.variables c.args.place c.in_ok-opening.ensures tests refl c.if-which-lt7.false in (
      omega (arith, c.decreases, c.requires.1.fits),
      (
        c.requires.0,
        record {
          inside = next-inside c.args.variables c.args.place c.in_ok-opening.ensures tests refl;
          tape = c.requires.1.tape;
          fits = omega (arith, may.two, c.requires.1.fits);
        },
        record { own_behind = omega arith; children_behind = omega arith },
      ),
    )

pub read_node-returns : goal.read_node-returns
read_node-returns t c =
    let tests = tested c.args.nesting c.args.parent c.args.place.room c.may_join-ands.ensures c.may_join-ors.ensures in
    node-join c.args.variables c.args.place c.in_ok-opening.ensures tests refl c.if-which-lt7.false c.read_kids.ensures
