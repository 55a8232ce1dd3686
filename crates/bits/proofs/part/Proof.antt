-- `bits::part` meets its contract: a shift and a remainder give the bits in the middle of a byte.
use lib.Pow.{pow_pos}
use borrow.Author.Rules.{rules}
use Rattle.bits.proofs.Bytes.{part-of-byte}
use Rattle.bits.proofs.part.Statement.{statement}
use Rattle.bits.proofs.part.Tie as tie

returns : tie.Need-returns
returns c =
    let s = c.before.before in
    rw (c.power.ensures, c.before.wide.ensures.0) (part-of-byte s.args.room s.args.count s.requires.0 s.requires.1 s.args.byte)

pub part_spec : {M : Type 1} → statement M
part_spec =
    tie.close
    (tie.spec (λ c κs. search rules) (λ c. search rules) (λ c. search rules) (λ c κs. search rules) (λ c. rw c.power.ensures (pow_pos _)) returns)
