use Rattle.std.proofs.Common.{◌∙◌, arith}
use Rattle.why.proofs.Tokens.{atom-passed, node-found, none_left}
use Rattle.why.proofs.reading.all_atoms.Goals as goal

pub returns-then-t-ge16777216 : goal.returns-then-t-ge16777216
returns-then-t-ge16777216 c =
    node-found c.args.token.now c.args.count c.requires c.loop-i.i (omega arith) (omega arith) ∙ c.loop-i.invariant

pub loop-i-preserved : goal.loop-i-preserved
loop-i-preserved c = atom-passed c.args.token.now c.args.count c.requires c.loop-i.i (omega arith) (omega arith) ∙ c.loop-i.invariant

pub returns : goal.returns
returns c = none_left c.args.token.now c.args.count c.requires c.loop-i.i (omega arith) ∙ c.loop-i.invariant
