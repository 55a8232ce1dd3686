-- After so many bytes they are stored.
use Rattle.std.proofs.Common.{◌≡◌, ◌+◌, length, take}
use Rattle.lines.specs.Written.{Wrote}
use Rattle.script_text.proofs.runs.put_bytes.Given as goal

abbrev pub invariant-loop-byte : goal.invariant-loop-byte
invariant-loop-byte l = record {
  as_long : length l.text ≡ length l.fn.text;
  behind : l.next ≡ l.at + l.byte-index;
  stored : Wrote l.fn.text l.text l.at (take l.byte-index l.bytes) l.next;
}
