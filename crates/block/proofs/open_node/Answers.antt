-- Each test of the code is the book's, on the same field.
use Rattle.block.proofs.ReadingTree.{none_allowed, kind-short, kind-three, atom-short, number-high, atom-opens, join-short, same_kind, too-deep, join-opens}
use Rattle.block.proofs.open_node.Goals as goal

pub returns-then-place-eq0 : goal.returns-then-place-eq0
returns-then-place-eq0 c = none_allowed _ _ _ _ _ c.if-place-eq0.true

pub returns-then-rest-lt2 : goal.returns-then-rest-lt2
returns-then-rest-lt2 c = kind-short _ _ _ _ _ c.left-rest.ensures c.if-place-eq0.false c.if-rest-lt2.true

pub returns-then-kind-eq3 : goal.returns-then-kind-eq3
returns-then-kind-eq3 c =
    kind-three _ _ _ _ _ c.left-rest.ensures c.if-place-eq0.false c.if-rest-lt2.false c.get-kind.ensures c.if-kind-eq3.true

pub returns-then-rest-lt11 : goal.returns-then-rest-lt11
returns-then-rest-lt11 c =
    atom-short _ _ _ _ _ c.left-rest.ensures c.if-place-eq0.false c.if-rest-lt2.false c.get-kind.ensures c.if-kind-eq0.true
    c.if-rest-lt11.true

pub returns-then-m-number : goal.returns-then-m-number
returns-then-m-number c =
    number-high _ _ _ _ _ c.left-rest.ensures c.if-place-eq0.false c.if-rest-lt2.false c.get-kind.ensures c.if-kind-eq0.true
    c.if-rest-lt11.false c.get-both.ensures c.if-m-number.true

pub returns-then-kind-eq0 : goal.returns-then-kind-eq0
returns-then-kind-eq0 c =
    atom-opens _ _ _ _ _ c.left-rest.ensures c.if-place-eq0.false c.if-rest-lt2.false c.get-kind.ensures c.if-kind-eq0.true
    c.if-rest-lt11.false c.get-both.ensures c.if-m-number.false c.requires.short

pub returns-then-rest-lt10 : goal.returns-then-rest-lt10
returns-then-rest-lt10 c =
    join-short _ _ _ _ _ c.left-rest.ensures c.if-place-eq0.false c.if-rest-lt2.false c.get-kind.ensures c.if-kind-eq3.false
    c.if-kind-eq0.false c.if-rest-lt10.true

pub returns-then-kind-parent : goal.returns-then-kind-parent
returns-then-kind-parent c =
    same_kind _ _ _ _ _ c.left-rest.ensures c.if-place-eq0.false c.if-rest-lt2.false c.get-kind.ensures c.if-kind-eq3.false
    c.if-kind-eq0.false c.if-rest-lt10.false c.if-kind-parent.true

pub returns-then-nesting-eq0 : goal.returns-then-nesting-eq0
returns-then-nesting-eq0 c =
    too-deep _ _ _ _ _ c.left-rest.ensures c.if-place-eq0.false c.if-rest-lt2.false c.get-kind.ensures c.if-kind-eq3.false
    c.if-kind-eq0.false c.if-rest-lt10.false c.if-kind-parent.false c.if-nesting-eq0.true

pub returns : goal.returns
returns c =
    join-opens _ _ _ _ _ c.left-rest.ensures c.if-place-eq0.false c.if-rest-lt2.false c.get-kind.ensures c.if-kind-eq3.false
    c.if-kind-eq0.false c.if-rest-lt10.false c.if-kind-parent.false c.if-nesting-eq0.false c.get-children.ensures c.requires.short
