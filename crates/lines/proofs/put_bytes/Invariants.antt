-- After i turns the first i bytes are stored.
use Rattle.std.proofs.Common.{◌≡◌, ◌+◌, length, take}
use Rattle.lines.specs.Written.{Wrote}
use Rattle.lines.proofs.put_bytes.Given as goal

abbrev pub invariant-loop-i : goal.invariant-loop-i
invariant-loop-i l = (length l.text ≡ length l.fn.text) × Wrote l.fn.text l.text l.at (take l.i l.bytes) (l.at + l.i)
