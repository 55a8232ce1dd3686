use mir.Syntax.{w32}
use mir.ValLaws.{to_z-of_z}
use Rattle.std.proofs.Common.{rules, pos, get_or}
use borrow.Author.Tests.{le-ltb}
use Rattle.normal.proofs.Runs.{first_some, first-none}
use Rattle.normal.proofs.first_is_negative.Goals as goal

pub returns-then-from-to : goal.returns-then-from-to
returns-then-from-to c = rw (to_z-of_z w32 (get_or c.args.coefficient.now c.args.from (pos 0)) (record { sfits = search rules })) (first_some c.args.coefficient.now c.args.from c.args.to c.if-from-to.true)

pub returns-else-from-to : goal.returns-else-from-to
returns-else-from-to c = rw (le-ltb _ _ c.if-from-to.false) (first-none c.args.coefficient.now c.args.from c.args.to c.if-from-to.false)
