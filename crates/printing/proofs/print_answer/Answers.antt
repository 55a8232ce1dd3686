-- The lines that were told are the report, and all of them are printed.
use Rattle.std.proofs.Common.{sym, arith}
use Rattle.lift.specs.Lines.{reports-all}
use Rattle.printing.proofs.Within.{within}
use Rattle.printing.proofs.print_answer.Goals as goal

pub returns : goal.returns
returns g c room =
    let told = c.report_by-size.ensures in
    rw (sym (reports-all told room)) (c.print_first.ensures (omega (arith, within told room, c.report_by-size.auto.text)))
