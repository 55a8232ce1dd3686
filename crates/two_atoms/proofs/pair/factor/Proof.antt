-- `factor` meets its contract, index by index.
use Rattle.rules.specs.TwoAtoms.{factors}
use Rattle.two_atoms.specs.Tries.{factor_at}
use Rattle.two_atoms.proofs.Factors.{last-factor}
use Rattle.two_atoms.proofs.pair.factor.Statement.{statement}
use Rattle.two_atoms.proofs.pair.factor.Tie as tie

returns : tie.Need-returns-in-0
unfolding factors factor_at
returns c = rw c.in-0.is

returns-2 : tie.Need-returns-in-1
unfolding factors factor_at
returns-2 c = rw c.in-1.is

returns-3 : tie.Need-returns-in-2
unfolding factors factor_at
returns-3 c = rw c.in-2.is

returns-4 : tie.Need-returns-in-3
unfolding factors factor_at
returns-4 c = rw c.in-3.is

returns-5 : tie.Need-returns-in-4
unfolding factors factor_at
returns-5 c = rw c.in-4.is

returns-6 : tie.Need-returns-in-5
unfolding factors factor_at
returns-6 c = rw c.in-5.is

returns-7 : tie.Need-returns-in-6
unfolding factors factor_at
returns-7 c = rw c.in-6.is

returns-8 : tie.Need-returns-in_default
returns-8 c = last-factor c.args.i c.in_default.in_default-own.rest

pub factor_spec : {M : Type 1} → statement M
factor_spec = tie.close (tie.spec returns returns-2 returns-3 returns-4 returns-5 returns-6 returns-7 returns-8)
