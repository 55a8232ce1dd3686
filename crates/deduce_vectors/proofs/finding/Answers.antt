-- The deduction is lent two runs within its arrays, with the signs that were worked out for the board.
use Rattle.std.specs.Prelude.{◌≡◌, List, ℕ, ◌≤◌, ℤ, length}
use Rattle.std.proofs.Common.{rules, arith}
use Rattle.rules.specs.Signs.{SignSet}
use Rattle.rules.specs.Polynomial.{Board}
use Rattle.terms.specs.Signed.{Held, signed, signed-there, signed-within}
use Rattle.deduce_vectors.proofs.finding.Goals as goal

-- a run within the first 32 places, whose signs were worked out
run-held : (board : Board) (cs : List ℤ) (ms : List ℕ) (before ss : List SignSet) (from to : ℕ) → ss ≡ signed board ms before 0 32 → 32 ≤ length before
    → length cs ≡ 1024 → length ms ≡ 1024 → length ss ≡ 1024 → from ≤ to → to ≤ 32 → Held board cs ms ss from to
run-held board cs ms before ss from to e h c m s o w = record {
  ordered = o;
  coefficients = omega arith;
  monomials = omega arith;
  signs = omega arith;
  signed = rw e (signed-within from to (omega arith) w (signed-there board ms before 0 32 h));
}

pub deduce-requires-clause-held_at : goal.deduce-requires-clause-held_at
deduce-requires-clause-held_at c =
    let cs : length c.args.held.coefficient ≡ 1024 = search rules in
    let ms : length c.args.held.monomial ≡ 1024 = search rules in
    let ss : length c.sign_terms.new.sign ≡ 1024 = search rules in
    run-held _ _ _ _ _ _ _ c.sign_terms.ensures (search rules) cs ms ss (omega arith) (omega (arith, c.few.ensures))

pub deduce-requires-clause-held_at_2 : goal.deduce-requires-clause-held_at_2
deduce-requires-clause-held_at_2 c =
    let cs : length c.args.held.coefficient ≡ 1024 = search rules in
    let ms : length c.args.held.monomial ≡ 1024 = search rules in
    let ss : length c.sign_terms.new.sign ≡ 1024 = search rules in
    run-held _ _ _ _ _ _ _ c.sign_terms.ensures (search rules) cs ms ss (omega arith) (omega (arith, c.few-2.ensures))
