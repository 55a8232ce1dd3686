use mathlib.Core.Path.{◌≡◌, ◌∙◌}
use mathlib.Core.Bool.{not}
use Prim.Native.Nat.{◌+◌}
use borrow.Author.Rules.{rules}
use native.Mathlib.Omega.{arith}
use lib.ListN.{length}
use Rattle.tape.specs.Storing.{counted}
use Rattle.level.proofs.Rooted.{shown-between, shown-tree}
use Rattle.level.proofs.writing.tree_of.Statement.{statement}
use Rattle.level.proofs.writing.tree_of.Tie as tie

mark-requires : tie.Need-mark-marked-requires
mark-requires c κs =
    let start = c in
    let pre = start.requires in
    let s = pre.1.1.1 in
    let long : length start.args.level.ors.token ≡ 256 = search rules in
    (omega (arith, pre.0), (omega (arith, pre.0, long), (omega (arith, pre.0), (_, (s.children, shown-between s)))))

tell-atoms-requires : tie.Need-tell_atoms-requires
tell-atoms-requires c κs =
    let start = c in
    let opened = c.opened-place in
    let long : length start.args.level.atoms.token ≡ 256 = search rules in
    (omega arith, (omega (arith, start.requires.0, long), omega (arith, start.requires.0, opened.ensures.1, opened.auto.out)))

tell-children-requires : tie.Need-tell_children-count-requires
tell-children-requires c κs =
    let start = c in
    let pre = start.requires in
    let s = pre.1.1.1 in
    let opened = c.opened-place in
    let mark = c.mark-marked in
    let tell-atoms = c.tell_atoms in
    let long : length start.args.level.ors.token ≡ 256 = search rules in (
      tell-atoms.auto.out ∙ opened.auto.out,
      (
        long,
        (
          mark.auto.marks,
          record {
            children = s.children;
            kind = not start.args.conjunction;
            before = _;
            lies = s.lies;
            heads = (mark.ensures.1 _ s.children (shown-between s)).heads;
            lists = counted (tell-atoms.ensures _ _ _ opened.ensures.0 s.lists (omega (arith, s.lists.size))) (omega arith);
            fits = omega (arith, pre.0, opened.ensures.1);
          },
        ),
      ),
    )

returns : tie.Need-returns
returns c t kids s =
    let start = c in
    let mark = c.mark-marked in
    let m = mark.ensures.1 _ s.children (shown-between s) in
    let with-atoms = c.tell_atoms.ensures _ _ _ c.opened-place.ensures.0 s.lists (omega (arith, s.lists.size)) in
    shown-tree s _ (start.args.level.atoms.count + mark.result) (omega (arith, s.lists.size, m.count)) start.requires.0 _
    (c.tell_children-count.ensures s.children _ _ s.lies m.heads (counted with-atoms (omega arith))) c.root_of.ensures

pub tree_of_spec : {M : Type 1} → statement M
tree_of_spec =
    tie.close
    (tie.spec (λ c. search rules) (λ c. search rules) mark-requires (λ c. search rules) (λ c. search rules) (λ c. search rules) (λ c κs. search rules) (λ c. search rules) (λ c. search rules) tell-atoms-requires
    (λ c. search rules) (λ c. search rules) (λ c. search rules) (λ c. search rules) tell-children-requires (λ c κs. search rules) returns)
