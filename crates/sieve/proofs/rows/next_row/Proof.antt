-- `next_row` meets its contract: the greatest of the three heads, and what each form has at it.
use borrow.Author.Rules.{rules}
use mir.Syntax.{w32}
use mir.ValLaws.{to_z-of_z}
use Rattle.sieve.proofs.Merge.{top-above1, top-above2, top-above3, top_below}
use Rattle.sieve.proofs.rows.next_row.Statement.{statement}
use Rattle.sieve.proofs.rows.next_row.Tie as tie

returns : tie.Need-returns
returns c =
    let t = c.before.before.before.before in
    let g = t.before.before.before in
    let s = g.before.before.before.before.before.before.before in
    let h = g.before.before.before.before.head.ensures in
    let h1 = g.before.before.before.head-2.ensures in
    let f = g.before.before.larger.ensures in
    let h2 = g.before.head-3.ensures in
    let k = g.larger-top.ensures in
    record {
      top = g.larger-top.result;
      below = top_below h h1 h2 f k s.requires.1;
      above1 = top-above1 h h1 h2 f k;
      above2 = top-above2 h h1 h2 f k;
      above3 = top-above3 h h1 h2 f k;
      s1 = t.before.before.taken-first.result.s;
      s2 = t.before.taken-second.result.s;
      s3 = t.taken-third.result.s;
      p = rw (to_z-of_z w32 _ (record { sfits = c.before.before.struct_told-1.given.0.1 })) t.before.before.taken-first.ensures;
      q1 = rw (to_z-of_z w32 _ (record { sfits = c.before.struct_told-2-1.given.0.1 })) t.before.taken-second.ensures;
      q2 = rw (to_z-of_z w32 _ (record { sfits = c.struct_told-3-1.given.0.1 })) t.taken-third.ensures;
      sign = c.before.before.before.shared-s.ensures;
    }

taken-requires-3 : tie.Need-taken-third-requires
taken-requires-3 c κs =
    let s = c.before.before.before.before.before.before.before.before.before in
    let x = s.requires.0 in record { coefficients = x.q2.coefficients; monomials = x.q2.monomials; signs = x.q2.signs }

pub next_row_spec : {M : Type 1} → statement M
next_row_spec =
    tie.close
    (tie.spec (λ c κs. search rules) (λ c κs. search rules) (λ c κs. search rules) (λ c κs. search rules) (λ c κs. search rules)
    (λ c κs. search rules)
    (λ c κs. search rules) taken-requires-3 (λ c κs. search rules) returns)
