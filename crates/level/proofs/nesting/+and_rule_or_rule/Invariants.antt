-- What the rows hold and what is left of the node's parts, for both kinds of nodes. What falls are the nestings that are left.
use Rattle.std.proofs.Common.{◌≡◌, ◌-◌, true, false, length, get_or}
use Rattle.tape.specs.Row.{row_of}
use Rattle.round.specs.Views.{table_of}
use Rattle.level.proofs.Gathering.{Runs}
use Rattle.level.proofs.nesting.+and_rule_or_rule.Given as goal

abbrev pub invariant-and_rule-loop-i : goal.invariant-and_rule-loop-i
invariant-and_rule-loop-i l = record {
  parts : l.parts ≡ get_or l.token l.at 0 - 16777216;
  room : length l.list ≡ 256;
  runs : Runs (table_of l.coefficient l.monomial l.terms l.variables) l.token true l.at l.nesting l.largest (row_of l.list l.count) l.walked l.rounds l.place l._i;
}

abbrev pub invariant-or_rule-loop-i : goal.invariant-or_rule-loop-i
invariant-or_rule-loop-i l = record {
  parts : l.parts ≡ get_or l.token l.at 0 - 16777216;
  room : length l.list ≡ 256;
  runs : Runs (table_of l.coefficient l.monomial l.terms l.variables) l.token false l.at l.nesting l.largest (row_of l.list l.count) l.walked l.rounds l.place l._i;
}

abbrev pub decreases-and_rule : goal.decreases-and_rule
decreases-and_rule l = l.nesting

abbrev pub decreases-or_rule : goal.decreases-or_rule
decreases-or_rule l = l.nesting
