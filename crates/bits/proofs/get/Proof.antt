-- `bits::get` meets its contract: a field of at most 56 bits lies in eight bytes, a longer one is one of 32 bits and the rest.
use native.Mathlib.Omega.{arith}
use borrow.Author.Rules.{rules}
use Rattle.bits.proofs.Words.{no_bits, at_byte, in_two, two-fit}
use Rattle.bits.proofs.get.Statement.{statement}
use Rattle.bits.proofs.get.Tie as tie

short : tie.Need-returns-then-k-le56
short c =
    let s = c.before.before.before.before.before in
    at_byte s.args.src.now s.args.at s.args.k c.within_eight.ensures

add-result : tie.Need-overflow_add-result
add-result c =
    let first = c.before in
    let s = first.before.before.before.before.before in
    omega (arith, two-fit s.args.src.now s.args.at s.args.k s.requires.1 (omega arith) s.requires.0 first.within_eight-2.ensures c.within_eight-3.ensures)

long : tie.Need-returns
long c =
    let first = c.before in
    let s = first.before.before.before.before.before in
    in_two s.args.src.now s.args.at s.args.k s.requires.1 (omega arith) s.requires.0 first.within_eight-2.ensures c.within_eight-3.ensures

pub get_spec : {M : Type 1} → statement M
get_spec =
    tie.close
    (tie.spec (λ c κs. search rules) (λ c. search rules) (λ c. no_bits _ c.if-k-eq0.true) (λ c κs. search rules) short (λ c κs. search rules) (λ c. search rules)
    (λ c. search rules) (λ c. search rules) (λ c. search rules) (λ c κs. search rules) add-result long)
