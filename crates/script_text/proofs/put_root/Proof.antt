-- `put_root` meets its contract: an atom, an AND or OR of none, or one with children.
use native.Mathlib.Omega.{arith}
use borrow.Author.Rules.{rules}
use Rattle.lines.specs.Written.{wrote_as}
use Rattle.script_text.specs.Runs.{fits-as}
use Rattle.script_text.proofs.Roots.{root-there, atom-asks, root-atom, root_none, kind_fits, fits-join, inside-join, fits-end, root-join}
use Rattle.script_text.proofs.put_root.Statement.{statement}
use Rattle.script_text.proofs.put_root.Tie as tie

pub put_root_spec : {M : Type 1} → statement M
put_root_spec =
    tie.close
    (tie.spec (λ c. root-there c.requires.stands)
    (λ c κs. atom-asks c.requires.stands c.requires.fits c.if-first-lt-JOIN.true)
    (λ c. search rules)
    (λ c block stands. wrote_as c.put_atom.ensures (root-atom stands c.if-first-lt-JOIN.true))
    (λ c κs. fits-as (root_none c.requires.stands c.if-first-lt-JOIN.false c.if-children-eq0.true) c.requires.fits)
    (λ c. search rules)
    (λ c block stands. wrote_as c.put_none.ensures (root_none stands c.if-first-lt-JOIN.false c.if-children-eq0.true))
    (λ c κs. fits-join c.requires.stands c.if-first-lt-JOIN.false c.if-children-eq0.false c.requires.fits)
    (λ c. omega (arith, c.shared_slice_known-4-1.given 0))
    (λ c.
    kind_fits c.requires.stands c.if-first-lt-JOIN.false c.if-children-eq0.false)
    (λ c κs.
    inside-join c.requires.stands c.if-first-lt-JOIN.false c.if-children-eq0.false c.requires.fits c.put_join-kids.ensures)
    (λ c κs.
    fits-end c.requires.stands c.if-first-lt-JOIN.false c.if-children-eq0.false c.requires.fits c.put_join-kids.ensures c.put_parts-end.ensures)
    (λ c. search rules)
    (λ c block stands.
    root-join stands c.if-first-lt-JOIN.false c.if-children-eq0.false c.put_join-kids.ensures c.put_parts-end.ensures c.put_byte.ensures))
