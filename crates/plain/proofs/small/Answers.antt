use mir.Syntax.{w32}
use Rattle.std.proofs.Common.{pos, get_or, SFits, arith, rules}
use mathlib.Core.Bool.{true≢false, false≢true}
use Rattle.interval.specs.Coefficients.{back}
use Rattle.plain.proofs.Numbers.{is-small, not-small, more-small}
use Rattle.plain.proofs.small.Goals as goal

pub loop-i-init : goal.loop-i-init
loop-i-init c = record { each = λ k h l. absurd (omega arith) }

pub returns-then-c-ltminus2147483647 : goal.returns-then-c-ltminus2147483647
returns-then-c-ltminus2147483647 c =
    let z = get_or c.args.coefficient.now c.loop-i.i (pos 0) in
    let fits : SFits w32 z = record { sfits = search rules } in
    record {
      yes = λ e. absurd (false≢true e);
      no = λ e h. not-small z (rw (back fits) at c.if-c-ltminus2147483647.true) (h.each c.loop-i.i (omega arith) (omega arith));
    }

pub loop-i-preserved : goal.loop-i-preserved
loop-i-preserved c =
    let z = get_or c.args.coefficient.now c.loop-i.i (pos 0) in
    let fits : SFits w32 z = record { sfits = search rules } in
    more-small c.loop-i.invariant (is-small fits (rw (back fits) at c.if-c-ltminus2147483647.false))

pub returns : goal.returns
returns c = record { yes = λ e. record { each = λ k h m. c.loop-i.invariant.each k h (omega arith) }; no = λ e. absurd (true≢false e) }
