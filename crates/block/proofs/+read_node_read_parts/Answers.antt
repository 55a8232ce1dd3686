use Rattle.std.proofs.Common.{arith, length-set}
use Rattle.std.proofs.lemmas.Result.{err_from_is_err_and}
use Rattle.block.proofs.ReadingTree.{atom-is, join_is, node-refused, atom-step, join_step, parts-begin, parts-end, parts-stop, parts-go-on}
use Rattle.block.proofs.+read_node_read_parts.Goals as goal

pub read_node-returns-in_err-opening : goal.read_node-returns-in_err-opening
read_node-returns-in_err-opening t c =
    let p = err_from_is_err_and c.from_residual.result c.from_residual.ensures.1 in
    rw (p.1, p.2) (node-refused c.open_node.ensures c.in_err-opening.was)

pub read_node-overflow_mul-token : goal.read_node-overflow_mul-token
read_node-overflow_mul-token t c = let o = atom-is c.in_ok-opening.ensures c.in-Atom.is in omega arith

pub read_node-overflow_add-token : goal.read_node-overflow_add-token
read_node-overflow_add-token t c = let o = atom-is c.in_ok-opening.ensures c.in-Atom.is in omega arith

pub read_node-overflow_cast-token : goal.read_node-overflow_cast-token
read_node-overflow_cast-token t c = let o = atom-is c.in_ok-opening.ensures c.in-Atom.is in omega arith

pub read_node-bounds-token-count : goal.read_node-bounds-token-count
read_node-bounds-token-count t c = let o = atom-is c.in_ok-opening.ensures c.in-Atom.is in omega arith

pub read_node-overflow_sub-result : goal.read_node-overflow_sub-result
read_node-overflow_sub-result t c = let o = atom-is c.in_ok-opening.ensures c.in-Atom.is in omega arith

pub read_node-overflow_add-token-in-Join : goal.read_node-overflow_add-token-in-Join
read_node-overflow_add-token-in-Join t c = let o = join_is c.in_ok-opening.ensures c.in-Join.is in omega arith

pub read_node-overflow_cast-token-in-Join : goal.read_node-overflow_cast-token-in-Join
read_node-overflow_cast-token-in-Join t c = let o = join_is c.in_ok-opening.ensures c.in-Join.is in omega arith

pub read_node-bounds-token-count-in-Join : goal.read_node-bounds-token-count-in-Join
read_node-bounds-token-count-in-Join t c = let o = join_is c.in_ok-opening.ensures c.in-Join.is in omega arith

pub read_node-overflow_sub-first : goal.read_node-overflow_sub-first
read_node-overflow_sub-first t c = let o = join_is c.in_ok-opening.ensures c.in-Join.is in omega arith

pub read_node-overflow_sub-nesting : goal.read_node-overflow_sub-nesting
read_node-overflow_sub-nesting t c = let o = join_is c.in_ok-opening.ensures c.in-Join.is in omega arith

pub read_node-read_parts-requires : goal.read_node-read_parts-requires
read_node-read_parts-requires t c =
    let o = join_is c.in_ok-opening.ensures c.in-Join.is in (
      omega (arith, c.decreases),
      (o.inside, omega arith, simp length-set c.requires.2, o.children_small),
    )

pub read_node-returns-in-Atom : goal.read_node-returns-in-Atom
read_node-returns-in-Atom t c = atom-step (atom-is c.in_ok-opening.ensures c.in-Atom.is)

pub read_node-returns-in-Join : goal.read_node-returns-in-Join
read_node-returns-in-Join t c = join_step (join_is c.in_ok-opening.ensures c.in-Join.is) c.requires.1 c.read_parts.ensures

pub read_parts-loop-init : goal.read_parts-loop-init
read_parts-loop-init t c = parts-begin _ c.requires.0 c.requires.1

pub read_parts-read_node-requires : goal.read_parts-read_node-requires
read_parts-read_node-requires t c =
    let l = c.loop.invariant in
    (omega (arith, c.decreases), (l.inside, l.allows, omega (arith, c.loop.auto.token, c.requires.2)))

pub read_parts-returns-in_err-next : goal.read_parts-returns-in_err-next
read_parts-returns-in_err-next t c =
    let p = err_from_is_err_and c.from_residual.result c.from_residual.ensures.1 in
    rw (p.1, p.2) (parts-stop _ c.loop.invariant c.loop-test.true c.read_node.ensures c.in_err-next.was)

pub read_parts-loop-preserved : goal.read_parts-loop-preserved
read_parts-loop-preserved t c = parts-go-on _ c.loop.invariant c.loop-test.true c.read_node.ensures c.in_ok-next.was

pub read_parts-returns : goal.read_parts-returns
read_parts-returns t c = parts-end _ c.loop.invariant c.loop-test.false
