-- `behind_root` meets its contract.
use Rattle.why.proofs.Tokens.{behind-atom, behind-node}
use Rattle.why.proofs.reading.behind_root.Statement.{statement}
use Rattle.why.proofs.reading.behind_root.Tie as tie

pub behind_root_spec : {M : Type 1} → statement M
behind_root_spec = tie.close (tie.spec (λ c. behind-atom c.before.args.root c.if-root-eq0.true)
    (λ c. behind-node c.before.args.root c.if-root-eq0.false))
