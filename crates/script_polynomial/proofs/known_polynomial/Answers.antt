-- `known_polynomial` meets its contract: the polynomial is read apart, looked for in the table, and stored if it is new.
use Rattle.std.proofs.Common.{[], pos, arith}
use Rattle.std.proofs.lemmas.List.{length-replicate}
use Rattle.script_polynomial.proofs.Pieces.{some_read, piece-stopped, read, piece-old, piece-full, piece-new}
use Rattle.script_polynomial.proofs.known_polynomial.Goals as goal

pub find-number-requires : goal.find-number-requires
find-number-requires c =
    let room = (read _ _ _ 0 [] [] [] c.read_polynomial-found.ensures c.in-Ok.is).room in
    let kept = c.read_polynomial-found.auto in (
      some_read c.requires.0,
      record {
        coefficients = omega (arith, room.coefficients, kept.coefficient);
        monomials = omega (arith, room.monomials, kept.monomial);
      },
    )

pub returns-then-number-known : goal.returns-then-number-known
returns-then-number-known c =
    piece-old _ _ _ _ _ _ _ c.read_polynomial-found.ensures c.in-Ok.is c.find-number.ensures c.if-number-known.true

pub longest-reach-requires : goal.longest-reach-requires
longest-reach-requires c = (c.requires.1, some_read c.requires.0)

pub returns-then-known-ge64 : goal.returns-then-known-ge64
returns-then-known-ge64 c =
    piece-full _ _ _ _ _ _ _ c.read_polynomial-found.ensures c.in-Ok.is c.find-number.ensures c.if-number-known.false
    (omega (arith, c.if-known-ge64.true)) c.longest-reach.ensures

pub store-requires : goal.store-requires
store-requires c =
    let table = some_read c.requires.0 in
    let room = (read _ _ _ 0 [] [] [] c.read_polynomial-found.ensures c.in-Ok.is).room in
    let kept = c.read_polynomial-found.auto in (
      record { coefficients = omega (arith, table.coefficients, c.if-known-ge64.false); monomials = omega (arith, table.monomials, c.if-known-ge64.false) },
      omega (arith, table.counts, c.if-known-ge64.false),
      omega (arith, room.coefficients, length-replicate 16 (pos 0)),
      record { coefficients = omega (arith, room.coefficients, kept.coefficient); monomials = omega (arith, room.monomials, kept.monomial) },
    )

pub returns-in-Err : goal.returns-in-Err
returns-in-Err c = piece-stopped _ _ _ _ _ _ _ c.read_polynomial-found.ensures c.in-Err.is c.stops_at-reach.ensures

pub returns-else-known-ge64 : goal.returns-else-known-ge64
returns-else-known-ge64 c =
    let put = c.store.ensures in
    piece-new _ _ _ _ _ _ _ c.read_polynomial-found.ensures c.in-Ok.is c.find-number.ensures c.if-number-known.false c.if-known-ge64.false
    put.0 put.1 put.2
