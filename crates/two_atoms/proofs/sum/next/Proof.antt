-- `next` meets its contract: the monomial is in both runs, in one of them, or one run is at its end.
use borrow.Author.Rules.{rules}
use native.Mathlib.Nat.{le_refl}
use native.Mathlib.Omega.{arith}
use lib.IntN.{pos}
use lib.ListN.{get_or}
use Rattle.two_atoms.proofs.Sums.{no_number, plus-back, sum_both, sum_first, sum-second, sum-first-alone, sum-second-alone}
use Rattle.two_atoms.proofs.sum.next.Statement.{statement}
use Rattle.two_atoms.proofs.sum.next.Tie as tie

returns : tie.Need-returns-then-mine-its
returns c =
    let s = c.before.before.before.before.before.before.before.before.before.before.before in
    let cs = s.args.coefficient.now in
    let is = plus-back {a = get_or cs s.args.i (pos 0)} {b = get_or cs s.args.j (pos 0)}
    (record { sfits = c.before.before.before.before.before.before.before.a-1.given }) s.ranges.u
    (record { sfits = c.before.before.b-1.given }) c.plus-c.ensures in
    record {
      sign = λ t u. t.at s.args.i (le_refl _) (omega arith);
      sum = rw is (sum_both cs s.args.monomial.now s.args.u (omega arith) (omega arith) c.before.if-mine-its.true);
      first = omega arith;
      second = omega arith;
      less_left = omega arith;
    }

returns-2 : tie.Need-returns-then-its-mine
returns-2 c =
    let s = c.before.before.before.before.before.before.before.before.before.before.before.before in
    let cs = s.args.coefficient.now in
    let is = plus-back {a = get_or cs s.args.i (pos 0)} {b = pos 0}
    (record { sfits = c.before.before.before.before.before.before.before.before.a-1.given }) s.ranges.u no_number c.plus-c-then-its-mine.ensures in
    record {
      sign = λ t u. t.at s.args.i (le_refl _) (omega arith);
      sum = rw is (sum_first cs s.args.monomial.now s.args.u (omega arith) (omega arith) c.before.before.if-mine-its.false
          c.before.if-its-mine.true);
      first = omega arith;
      second = omega arith;
      less_left = omega arith;
    }

returns-3 : tie.Need-returns-then-j-n
returns-3 c =
    let s = c.before.before.before.before.before.before.before.before.before.before.before.before.before in
    let cs = s.args.coefficient.now in
    let is = plus-back {a = pos 0} {b = get_or cs s.args.j (pos 0)}
    no_number s.ranges.u (record { sfits = c.before.before.before.before.b-1.given }) c.plus-c-then-j-n.ensures in
    record {
      sign = λ t u. u.at s.args.j (le_refl _) (omega arith);
      sum = rw is (sum-second cs s.args.monomial.now s.args.u (omega arith) (omega arith) c.before.before.before.if-mine-its.false
          c.before.before.if-its-mine.false);
      first = omega arith;
      second = omega arith;
      less_left = omega arith;
    }

returns-4 : tie.Need-returns-then-i-m
returns-4 c =
    let s = c.before.before.before.before.before.before.before.before in
    let cs = s.args.coefficient.now in
    let is = plus-back {a = get_or cs s.args.i (pos 0)} {b = pos 0}
    (record { sfits = c.before.before.before.before.a-1.given }) s.ranges.u no_number c.plus-c-then-i-m.ensures in
    record {
      sign = λ t u. t.at s.args.i (le_refl _) (omega arith);
      sum = rw is (sum-first-alone cs s.args.monomial.now s.args.u (omega arith) (omega arith));
      first = omega arith;
      second = omega arith;
      less_left = omega arith;
    }

returns-5 : tie.Need-returns
returns-5 c =
    let s = c.before.before.before.before.before.before.before in
    let cs = s.args.coefficient.now in
    let is = plus-back {a = pos 0} {b = get_or cs s.args.j (pos 0)}
    no_number s.ranges.u (record { sfits = c.before.before.before.b-2-1.given }) c.plus-c-2.ensures in
    record {
      sign = λ t u. u.at s.args.j (le_refl _) (omega arith);
      sum = rw is (sum-second-alone cs s.args.monomial.now s.args.u (omega arith) (omega arith));
      first = omega arith;
      second = omega arith;
      less_left = omega arith;
    }

pub next_spec : {M : Type 1} → statement M
next_spec =
    tie.close
    (tie.spec (λ c. search rules) (λ c. search rules) (λ c. search rules) (λ c. search rules) (λ c. search rules) (λ c. search rules)
    (λ c. search rules) (λ c. search rules) (λ c. search rules) (λ c κs. search rules) (λ c. search rules) (λ c. search rules) returns
    (λ c κs. search rules) (λ c. search rules) returns-2 (λ c. search rules) (λ c κs. search rules) (λ c. search rules) returns-3
    (λ c κs. search rules) (λ c. search rules) returns-4 (λ c. search rules) (λ c. search rules) (λ c. search rules) (λ c. search rules)
    (λ c. search rules) (λ c κs. search rules) (λ c. search rules) returns-5)
