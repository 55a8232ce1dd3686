-- The atoms passed are told, each after the last.
use Rattle.std.proofs.Common.{◌≡◌, List, ℕ, ◌+◌, ◌-◌, ◌≤◌, ◌++◌, length, map, take, drop}
use Rattle.tape.specs.Row.{row_of, Lists}
use Rattle.level.specs.Written.{told}
use Rattle.level.proofs.writing.tell_atoms.Given as goal

abbrev pub invariant-loop-token : goal.invariant-loop-token
invariant-loop-token l = record {
  placed : l.place ≡ l.n + l.token-index;
  told : (k : ℕ) (before m : List ℕ) → Lists (row_of l.fn.out l.n) before → Lists (row_of l.row k) m → l.to ≤ length m
      → Lists (row_of l.out l.place) (before ++ map (told l.conjunction) (take l.token-index (take (l.to - l.from) (drop l.from m))));
}
