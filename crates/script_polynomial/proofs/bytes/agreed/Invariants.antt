-- What agrees in all is the i bytes that were compared and what is left.
use Rattle.std.proofs.Common.{◌≡◌, ◌+◌, ◌≤◌, length, drop}
use Rattle.script_polynomial.specs.Agreement.{common}
use Rattle.script_polynomial.proofs.Runs.{left}
use Rattle.script_polynomial.proofs.bytes.agreed.Given as goal

abbrev pub invariant-loop-i : goal.invariant-loop-i
invariant-loop-i l = (l.at + l.i ≤ length l.text) × (common l.bytes (drop l.at l.text) ≡ l.i + left l.text l.bytes l.at l.i)
