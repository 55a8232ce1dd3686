-- `turn_marking` meets its contract: the floor's set needs no turn; the variable's set is stored and the signs worked out anew, or both are as they were.
use borrow.Author.Rules.{rules}
use mathlib.Core.Path.{◌≡◌, refl}
use Prim.Native.Nat.{◌<◌}
use native.Mathlib.Omega.{arith}
use lib.ListN.{length}
use Rattle.terms.specs.View.{few}
use Rattle.table.specs.Table.{Table}
use Rattle.round.specs.Views.{lent_table}
use Rattle.round.specs.SignedSlots.{list-ready}
use Rattle.common_run.proofs.Turnings.{turn-floored, turn-idle, turn-cuts}
use Rattle.common_run.proofs.turning.turn_marking.Statement.{statement}
use Rattle.common_run.proofs.turning.turn_marking.Tie as tie

abbrev table : tie.Start → Table
table s = lent_table s.args.coefficient s.args.monomial s.args.terms s.args.board.variables

-- the board has sixteen sets
sixteen : (s : tie.Start) → length s.args.board.sets ≡ 16
sixteen s = search rules

-- the variable's place
place : (s : tie.Start) → s.args.i < few s.args.board.variables
place s = omega (arith, s.requires.0.forms.variables, s.requires.1.0)

returns : tie.Need-returns-then-old-low
returns c =
    let s = c.before.before.before.before.before.before in
    turn-floored s.args.board s.requires.1.1.1 refl s.args.i s.requires.1.0 (place s) _ _ c.if-old-low.true s.requires.0

returns-2 : tie.Need-returns-then-cut-old
returns-2 c =
    let s = c.before.before.before.before.before.before.before.before.before.before in
    turn-idle (table s) s.args.atoms s.args.board refl s.args.i (place s) c.cut_marking-cut.ensures c.if-cut-old.true s.requires.0

returns-3 : tie.Need-returns
returns-3 c =
    let s = c.before.before.before.before.before.before.before.before.before.before.before.before.before.before in
    let ready = s.requires.0 in
    let long : length s.args.board.sets ≡ 16 = sixteen s in
    turn-cuts (table s) s.args.atoms s.args.board refl s.args.i (place s) c.cut_marking-cut.ensures (omega (arith, long, ready.forms.variables, s.requires.1.0))
    (rw c.sign_list.ensures (list-ready _ s.args.atoms _ ready.forms refl ready.places))

pub turn_marking_spec : {M : Type 1} → statement M
turn_marking_spec =
    tie.close
    (tie.spec (λ c. search rules) (λ c. search rules) returns (λ c κs. search rules) (λ c. search rules) returns-2 (λ c. search rules) (λ c κs. search rules)
    (λ c. search rules) returns-3)
