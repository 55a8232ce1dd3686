use Rattle.std.proofs.Common.{◌≡◌, ℕ, ◌+◌, ◌∙◌, List, pos, sym, ap, arith, length, get_or, length-set, set}
use Rattle.pool.specs.Coefficients.{coefficient_word}
use Rattle.pool.specs.Words.{put_term}
use Rattle.pool.proofs.Numbers.{read_back}
use Rattle.pool.proofs.Walks.{put_from, put_step, zero-step, put-end}
use Rattle.pool.proofs.slots.put_terms.Goals as goal

put-long : (words : List ℕ) (k v m : ℕ) → length (put_term words k v m) ≡ length words
put-long words k v m = length-set (set words k v) (k + 16) m ∙ length-set words k v

pub loop-i-preserved : goal.loop-i-preserved
loop-i-preserved c =
    let l = c.loop-i in
    let a = c.args in
    let m = get_or a.monomial.now (a.from + l.i) 0 in
    let z = get_or a.coefficient.now (a.from + l.i) (pos 0) in
    let is : c.put_term.new.pool ≡ put_term l.pool (a.k + l.i) (coefficient_word z) m =
    c.put_term.ensures
    ∙ ap (λ (v : ℕ). put_term l.pool (a.k + l.i) v m)
    (c.coefficient_word.ensures ∙ ap coefficient_word (read_back z (record { sfits = c.c-1.given }))) in
    record {
      as_long = ap length is ∙ put-long l.pool (a.k + l.i) (coefficient_word z) m ∙ l.invariant.as_long;
      left = ap (λ (w : List ℕ). put_from w a.k a.coefficient.now a.monomial.now a.from a.count (l.i + 1)) is
          ∙ put_step l.pool a.k a.coefficient.now a.monomial.now a.from a.count l.i c.loop-i-test.true (omega (arith, c.loop-i-test.true, c.requires.1.few))
          ∙ l.invariant.left;
    }

pub loop-i-2-preserved : goal.loop-i-2-preserved
loop-i-2-preserved c =
    let l = c.loop-i-2 in
    let a = c.args in
    let is = c.put_term-in-loop-i-2.ensures in
    record {
      as_long = ap length is ∙ put-long l.pool (a.k + l.i) 0 0 ∙ l.invariant.as_long;
      left = ap (λ (w : List ℕ). put_from w a.k a.coefficient.now a.monomial.now a.from a.count (l.i + 1)) is
          ∙ zero-step l.pool a.k a.coefficient.now a.monomial.now a.from a.count l.i l.auto.i c.loop-i-2-test.true ∙ l.invariant.left;
    }

pub returns : goal.returns
returns c =
    let l = c.loop-i-2 in
    let a = c.args in
    sym (put-end l.pool a.k a.coefficient.now a.monomial.now a.from a.count l.i c.loop-i-2-test.false) ∙ l.invariant.left
