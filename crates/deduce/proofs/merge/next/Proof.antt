-- `next` meets its contract: the monomial is in both runs, in one of them, or one run is at its end.
use borrow.Author.Rules.{rules}
use native.Mathlib.Omega.{arith}
use lib.IntN.{pos}
use lib.ListN.{get_or}
use Rattle.interval.specs.Coefficients.{back}
use Rattle.deduce.proofs.Rows.{of-both, of-p, of-q, of-p-alone, of-q-alone}
use Rattle.deduce.proofs.merge.next.Statement.{statement}
use Rattle.deduce.proofs.merge.next.Tie as tie

returns : tie.Need-returns-then-mine-its
returns c =
    let s = c.before.before.before.before.before.before.before.before in
    let cs = s.args.coefficient.now in
    let a = back {z = get_or cs s.args.i (pos 0)} (record { sfits = c.before.before.before.before.before.before.a-1.given }) in
    let b = back {z = get_or cs s.args.j (pos 0)} (record { sfits = c.before.b-1.given }) in
    record {
      row = λ t u. rw (a, b)
          (of-both cs t u (omega arith) (omega arith) c.if-mine-its.true);
      first = omega arith;
      second = omega arith;
      less_left = omega arith;
      magnitudes = λ m f g. rw (a, b) (f.each s.args.i (omega arith) (omega arith), g.each s.args.j (omega arith) (omega arith));
    }

returns-2 : tie.Need-returns-then-its-mine
returns-2 c =
    let s = c.before.before.before.before.before.before.before.before.before in
    let cs = s.args.coefficient.now in
    let a = back {z = get_or cs s.args.i (pos 0)} (record { sfits = c.before.before.before.before.before.before.before.a-1.given }) in
    record {
      row = λ t u. rw a
          (of-p cs t u (omega arith) (omega arith) c.before.if-mine-its.false c.if-its-mine.true);
      first = omega arith;
      second = omega arith;
      less_left = omega arith;
      magnitudes = λ m f g. rw a (f.each s.args.i (omega arith) (omega arith), omega arith);
    }

returns-3 : tie.Need-returns-then-j-n
returns-3 c =
    let s = c.before.before.before.before.before.before.before.before.before.before in
    let cs = s.args.coefficient.now in
    let b = back {z = get_or cs s.args.j (pos 0)} (record { sfits = c.before.before.before.b-1.given }) in
    record {
      row = λ t u. rw b
          (of-q cs t u (omega arith) (omega arith) c.before.before.if-mine-its.false c.before.if-its-mine.false);
      first = omega arith;
      second = omega arith;
      less_left = omega arith;
      magnitudes = λ m f g. rw b (omega arith, g.each s.args.j (omega arith) (omega arith));
    }

returns-4 : tie.Need-returns-then-i-m
returns-4 c =
    let s = c.before.before.before.before in
    let cs = s.args.coefficient.now in
    let a = back {z = get_or cs s.args.i (pos 0)} (record { sfits = c.before.before.a-1.given }) in
    record {
      row = λ t u. rw a
          (of-p-alone cs t u (omega arith) (omega arith));
      first = omega arith;
      second = omega arith;
      less_left = omega arith;
      magnitudes = λ m f g. rw a (f.each s.args.i (omega arith) (omega arith), omega arith);
    }

returns-5 : tie.Need-returns
returns-5 c =
    let s = c.before.before.before in
    let cs = s.args.coefficient.now in
    let b = back {z = get_or cs s.args.j (pos 0)} (record { sfits = c.before.b-2-1.given }) in
    record {
      row = λ t u. rw b
          (of-q-alone cs t u (omega arith) (omega arith));
      first = omega arith;
      second = omega arith;
      less_left = omega arith;
      magnitudes = λ m f g. rw b (omega arith, g.each s.args.j (omega arith) (omega arith));
    }

pub next_spec : {M : Type 1} → statement M
next_spec =
    tie.close
    (tie.spec (λ c. search rules) (λ c. search rules) (λ c. search rules) (λ c. search rules) (λ c. search rules) (λ c. search rules) (λ c. search rules)
    (λ c. search rules) (λ c. search rules) (λ c. search rules) (λ c. search rules) returns (λ c. search rules) returns-2
    (λ c. search rules) (λ c. search rules) returns-3 (λ c. search rules) returns-4
    (λ c. search rules) (λ c. search rules) (λ c. search rules) (λ c. search rules) returns-5)
