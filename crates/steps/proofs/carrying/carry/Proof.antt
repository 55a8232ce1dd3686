-- `carry` meets its contract: the rounds are run over the tokens' atoms and counted, and where they settle each token gets the set that its atom carries.
use mathlib.Core.Path.{◌∙◌}
use borrow.Author.Rules.{rules}
use native.Mathlib.Omega.{arith}
use Rattle.steps.proofs.Cutting.{contradicts, carries-on}
use Rattle.steps.proofs.carrying.carry.Statement.{statement}
use Rattle.steps.proofs.carrying.carry.Tie as tie

contradiction : tie.Need-returns-then-ran
contradiction c l h =
    let s = c in
    let atoms = c.atoms_in-atoms.ensures in
    contradicts l (atoms.0 ∙ h.size) (omega (arith, h.size, s.requires.1.1)) (atoms.1 _ l h) s.args.largest c.run_largest-ran.ensures c.if-ran.true _ h

carries : tie.Need-returns
carries c l h =
    let s = c in
    let atoms = c.atoms_in-atoms.ensures in
    carries-on l (atoms.0 ∙ h.size) (omega (arith, h.size, s.requires.1.1)) (atoms.1 _ l h) s.args.largest
    c.run_largest-ran.ensures c.if-ran.false
    c.carried-cut.ensures _ (c.with_sets.ensures l h)

pub carry_spec : {M : Type 1} → statement M
carry_spec =
    tie.close
    (tie.spec (λ c κs. search rules) (λ c κs. search rules) (λ c. search rules) contradiction (λ c κs. search rules) (λ c κs. search rules) (λ c. search rules) carries)
