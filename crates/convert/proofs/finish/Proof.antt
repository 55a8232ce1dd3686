-- `finish` meets its contract: the block that was written apart goes to the output if there is room for it.
use mathlib.Core.Path.{◌≡◌, sym, ◌∙◌}
use Prim.Native.Nat.{ℕ, ◌≤◌}
use native.Mathlib.Omega.{arith}
use lib.ListN.{length}
use lib.Seq.{length-take-le}
use borrow.Author.Rules.{rules}
use Rattle.rules.specs.Block.{Block, edition_of, write_block}
use Rattle.block_laws.specs.Sizes.{length-block}
use Rattle.block.specs.Held.{held_by}
use Rattle.writer.specs.Written.{Writable}
use Rattle.lines.specs.Written.{wrote_as, front-whole}
use Rattle.convert.specs.Converted.{finishes-not, finishes, front-again}
use Rattle.convert.proofs.finish.Statement.{statement}
use Rattle.convert.proofs.finish.Tie as tie

-- What was written apart has room there.
fits : (c : tie.After-write-size) → c.write-size.result ≤ length c.write-size.new.out
fits c =
    let some = c.requires.1 in
    omega (arith, (c.write-size.ensures some.block some.writable).0, some.writable.room, c.write-size.auto.out)

module _ (c : tie.After-write-size) (block : Block) (w : let a = c.args in Writable a.edition (held_by a.variables a.polynomials a.root
    a.tokens a.coefficient.now a.monomial.now a.terms.now a.token.now) 21516 block) where
  size_is : c.write-size.result ≡ length (write_block (edition_of c.args.edition) block)
  size_is = (c.write-size.ensures block w).0 ∙ sym (length-block (edition_of c.args.edition) block)

  short : length (write_block (edition_of c.args.edition) block) ≤ 21516
  short = omega (arith, w.room, length-block (edition_of c.args.edition) block)

lends : tie.Need-slice_bounds-put_bytes-end
lends c = sym (length-take-le c.write-size.result _ (fits c.before.before.before.before))

room : tie.Need-put_bytes-requires
room c κs =
    omega (arith, length-take-le c.write-size.result c.write-size.new.out (fits c.before.before.before.before), c.if-output-size.false)

returns : tie.Need-returns-then-output-size
returns c block w =
    let writing = c.before.before in
    let a = c.args in
    finishes-not (write_block (edition_of a.edition) block) a.output.now (omega (arith, c.if-output-size.true, size_is writing block w))

returns-2 : tie.Need-returns
returns-2 c block w =
    let writing = c.before.before.before.before.before.before.before in
    let a = c.args in
    let bytes = write_block (edition_of a.edition) block in
    let enough : length bytes ≤ length a.output.now
    = omega (arith, c.if-output-size.false, size_is writing block w) in
    let wrote = wrote_as c.put_bytes.ensures
    (front-again _ bytes (writing.write-size.ensures block w).1 (size_is writing block w) (short writing block w)) in
    finishes enough (size_is writing block w) (front-whole enough wrote)

pub finish_spec : {M : Type 1} → statement M
finish_spec =
    tie.close
    (tie.spec (λ c. search rules) (λ c κs. search rules) returns (λ c. fits c.before.before.before) lends room (λ c. search rules) returns-2)
