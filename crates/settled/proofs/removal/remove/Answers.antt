-- `remove` meets its contract: what is left of the list goes on from the atoms that remain so far, and so does what is known of a common run.
use Rattle.std.proofs.Common.{◌≡◌, ◌<◌, ◌∙◌, ap, sym, Bool, false, not, ◌&&◌, List, arith}
use Rattle.std.proofs.lemmas.Bool.{false≢true}
use Rattle.std.proofs.lemmas.List.{length-replicate}
use Rattle.rules.specs.Polynomial.{Atom}
use Rattle.rules.specs.Level.{implied as implied_by}
use Rattle.removal_laws.specs.Staying.{stays_by}
use Rattle.table.specs.Table.{atom_at, atoms_of, many}
use Rattle.round.specs.Views.{lent_table, state_of}
use Rattle.settled.proofs.Removing.{removing-first, removing-next, removing-last, afresh-others, afresh-remaining, known_next, some_first, some_more}
use Rattle.settled.proofs.Removing.{counting-first, counting-next, counting-last}
use Rattle.settled.proofs.removal.remove.Goals as goal
use Rattle.settled.proofs.removal.remove.Goals.{then-by_common, else-by_common}

pub loop-i-init : goal.loop-i-init
loop-i-init c = record {
  removing = removing-first _ _ _ _ _ _ (length-replicate {A = Bool} 64 false);
  some = some_first _ _ _ _;
  counting = counting-first _ _ _ _ _ _ _;
  known = λ e. absurd (c.unknown.ensures e);
  alone = λ b. c.unknown.ensures;
}

pub goes-told-requires-clause-ready : goal.goes-told-requires-clause-ready
goes-told-requires-clause-ready c = let (ready, from) = c.requires.ready_carried in (ready, (from.variables, omega arith))

pub goes-told-requires-clause-signed_afresh : goal.goes-told-requires-clause-signed_afresh
goes-told-requires-clause-signed_afresh c =
    let t = lent_table c.args.coefficient c.args.monomial c.args.terms c.args.variables in
    let (ready, from) = c.requires.ready_carried in
    let l = c.loop-i in (
      c.requires.list_ready.atoms l.i (omega (arith, c.many-end.ensures, c.loop-i-test.true)),
      afresh-others c.args.list (atoms_of t l.kept.atoms) from (omega (arith, c.many-end.ensures, c.loop-i-test.true)) l.invariant.some (c.joined-others.ensures t),
    )

pub counted-counting-requires : goal.counted-counting-requires
counted-counting-requires c =
    let t = lent_table c.args.coefficient c.args.monomial c.args.terms c.args.variables in
    let l = c.loop-i in (
      c.requires.ready_carried.0.forms,
      (
        record {
          low = omega (arith, c.many-end.ensures, c.loop-i-test.true);
          room = omega (arith, c.many-end.ensures, c.loop-i-test.true, l.invariant.removing.count);
          afresh = afresh-remaining c.args.list c.requires.ready_carried.1 l.invariant.some;
          are = c.joined-others.ensures t;
        },
        l.invariant.known,
      ),
    )

pub fresh_rounds-requires : goal.fresh_rounds-requires
fresh_rounds-requires c =
    let t = lent_table c.args.coefficient c.args.monomial c.args.terms c.args.variables in
    let l = c.loop-i in (
      c.requires.ready_carried.0.forms,
      afresh-others c.args.list (atoms_of t l.kept.atoms) c.requires.ready_carried.1 (omega (arith, c.many-end.ensures, c.loop-i-test.true)) l.invariant.some (c.joined-others.ensures t),
    )

pub loop-i-preserved : goal.loop-i-preserved
loop-i-preserved c =
    let t = lent_table c.args.coefficient c.args.monomial c.args.terms c.args.variables in
    let a = c.args.list in
    let l = c.loop-i in
    let atom : Atom = atom_at t a.number a.set l.i in
    let stays : Bool = stays_by c.args.variables (state_of t c.args.state) atom in
    let others = c.joined-others.ensures t in
    let out = c.goes-told.ensures ∙ ap (λ (others : List Atom). not stays && implied_by c.args.variables others atom) others in
    let low : l.i < many a.count = omega (arith, c.loop-i-test.true, c.many-end.ensures) in
    let removing = removing-next l.invariant.removing low out c.kept_unless-kept.ensures in
    let some = some_more t low l.invariant.some c.kept_unless-kept.ensures in
    elim c.if-by_common.branch [
      | then-by_common w ↦ rw w.counting-is (record {
        removing = removing;
        some = some;
        counting = counting-next l.invariant.counting low out (rw others at w.counted-counting.ensures.counts) c.kept_unless-kept.ensures;
        known = known_next t a l.kept c.kept_unless-kept.ensures w.counted-counting.ensures.known;
        alone = λ b. absurd (false≢true (sym b ∙ w.if-by_common.true));
      })
      | else-by_common w ↦ rw w.counting-is (record {
        removing = removing;
        some = some;
        counting = counting-next l.invariant.counting low out (rw others at w.fresh_rounds.ensures) c.kept_unless-kept.ensures;
        known = λ e. absurd (l.invariant.alone w.if-by_common.false e);
        alone = l.invariant.alone;
      })
    ]

pub returns : goal.returns
returns c =
    let all : c.loop-i.i ≡ many c.args.list.count = omega (arith, c.many-end.ensures, c.loop-i-test.false) in
    (removing-last c.loop-i.invariant.removing all, counting-last c.loop-i.invariant.counting all)
