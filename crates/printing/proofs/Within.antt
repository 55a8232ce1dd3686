-- Lines for which there is room are all told, so what was told lies within the text.
use Rattle.std.proofs.Common.{◌≡◌, ℕ, List, ◌≤◌, length, arith, le-leb}
use Rattle.rules.specs.Answer as book
use Rattle.rules.specs.Report.{report}
use Rattle.telling.specs.Told.{told_length}
use Rattle.lift.specs.Lines.{Reports, lines_fit}

pub within : {bytes before after text text-after : List ℕ} {n : ℕ} → Reports bytes before after text text-after n → 64578 ≤ length text → n ≤ length text
unfolding told_length
within {bytes} {before} {after} {text} {text-after} {n} r room =
    let lines = report (book.answer (length before) bytes) in
    let fits : length lines ≤ length text = omega (arith, lines_fit (length before) bytes) in
    let all : n ≡ length lines = rw (le-leb (length lines) (length text) fits) at r.lines.returns in
    omega arith
