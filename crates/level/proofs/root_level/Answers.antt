-- A root atom is an AND of one; another root is taken by its rule.
use Rattle.std.proofs.Common.{arith, []}
use Rattle.rules.specs.Level.{still}
use Rattle.round.specs.Views.{table_of}
use Rattle.level.proofs.Rooted.{root-there, finish-small, root-atom, held-and, held-or, root-done}
use Rattle.level.proofs.root_level.Goals as goal

pub bounds-token-0 : goal.bounds-token-0
bounds-token-0 c = root-there c.requires.1.0 c.requires.1.1

pub finish-requires : goal.finish-requires
finish-requires c =
    let a = c.args in (
      c.requires.0,
      record {
        table = table_of a.coefficient.now a.monomial.now a.terms.now a.variables;
        list = _;
        walk = still [];
        lists = c.push-atoms.ensures.1 [] c.empty.ensures.1;
        stands = c.begin-walked.ensures.1.1 _;
        fits = omega (arith, c.push-atoms.ensures.0, c.empty.ensures.0, c.begin-walked.ensures.1.0);
      },
    )

pub returns-then-root-eq0 : goal.returns-then-root-eq0
returns-then-root-eq0 c tree h =
    root-atom tree h c.if-root-eq0.true
    (finish-small (omega (arith, c.push-atoms.ensures.0, c.empty.ensures.0, c.begin-walked.ensures.1.0))
    (c.finish.ensures _ (still []) (c.push-atoms.ensures.1 [] c.empty.ensures.1) (c.begin-walked.ensures.1.1 _)))

pub and_rule-found-requires : goal.and_rule-found-requires
and_rule-found-requires c = let n = held-and c.requires.1.0 c.requires.1.1 c.if-root-eq1.true in (c.requires.0, (n.kids, (n.rest, n.holds)))

pub or_rule-found-requires : goal.or_rule-found-requires
or_rule-found-requires c = let n = held-or c.requires.1.0 c.requires.1.1 c.if-root-eq0.false c.if-root-eq1.false in (c.requires.0, (n.kids, (n.rest, n.holds)))

pub returns-then-root-eq1 : goal.returns-then-root-eq1
returns-then-root-eq1 c tree h = let n = held-and tree h c.if-root-eq1.true in root-done n _ (c.and_rule-found.ensures n.kids n.rest n.holds)

pub returns : goal.returns
returns c tree h = let n = held-or tree h c.if-root-eq0.false c.if-root-eq1.false in root-done n _ (c.or_rule-found.ensures n.kids n.rest n.holds)
