use Rattle.std.proofs.Common.{ℕ, sym, subst, arith}
use Rattle.columns.specs.Bits.{◌Has◌, has-own}
use Rattle.columns.specs.Columns.{one_shifted, put-there}
use Rattle.columns.proofs.put.Goals as goal

pub returns : goal.returns
returns c =
    let a = c.args in
    put-there a.columns.now a.k a.j (subst (λ (w : ℕ). w Has a.j) (sym (one_shifted c.requires.0)) (has-own a.j)) (omega arith)
