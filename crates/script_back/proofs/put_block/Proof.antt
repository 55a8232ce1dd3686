-- `put_block` meets its contract: the block that was written apart goes to the output if there is room for it.
use mathlib.Core.Path.{sym, ◌∙◌}
use Prim.Native.Nat.{◌≤◌}
use native.Mathlib.Omega.{arith}
use lib.ListN.{length}
use lib.Seq.{length-take-le}
use borrow.Author.Rules.{rules}
use Rattle.rules.specs.Block.{edition1, edition_of, write_block}
use Rattle.block_laws.specs.Sizes.{length-block}
use Rattle.convert.specs.Converted.{front-again}
use Rattle.script_back.specs.Back.{converts-block}
use Rattle.script_back.proofs.put_block.Statement.{statement}
use Rattle.script_back.proofs.put_block.Tie as tie

-- What was written apart has room there.
fits : (c : tie.After-write-size) → c.write-size.result ≤ length c.write-size.new.out
fits c =
    let some = c.requires.1 in
    omega (arith, (c.write-size.ensures some.block some.writable).0, some.writable.room, c.write-size.auto.out)

lends : tie.Need-slice_bounds-to_edition1-end
lends c = sym (length-take-le c.write-size.result _ (fits c.before.before))

returns : tie.Need-returns
unfolding edition_of
returns c block w =
    let size_is = (c.write-size.ensures block w).0 ∙ sym (length-block edition1 block) in
    converts-block block w.within
    (front-again _ (write_block edition1 block) (c.write-size.ensures block w).1 size_is (omega (arith, w.room, length-block edition1 block)))
    c.to_edition1.ensures

pub put_block_spec : {M : Type 1} → statement M
put_block_spec = tie.close (tie.spec (λ c. search rules) (λ c κs. search rules) (λ c. fits c.before) lends (λ c κs. search rules) (λ c. search rules) returns)
