-- After so many bytes their pairs are stored, each behind a space.
use Rattle.std.proofs.Common.{◌≡◌, ◌+◌, ◌*◌, length, take}
use Rattle.rules.specs.Report.{hex_rest}
use Rattle.lines.specs.Written.{Wrote}
use Rattle.lines.proofs.put_rest.Given as goal

abbrev pub invariant-loop-byte : goal.invariant-loop-byte
invariant-loop-byte l = record {
  behind : l.next ≡ l.at + 3 * l.byte-index;
  as_long : length l.text ≡ length l.fn.text;
  stored : Wrote l.fn.text l.text l.at (hex_rest (take l.byte-index l.block)) l.next;
}
