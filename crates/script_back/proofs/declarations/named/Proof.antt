-- `named` meets its contract: the name's byte decides.
use mathlib.Core.Path.{sym, ◌∙◌}
use Prim.Native.Nat.{◌+◌}
use native.Mathlib.Omega.{arith}
use borrow.Author.Rules.{rules}
use Rattle.rules.specs.Text.{letter}
use Rattle.script_back.proofs.Positions.{stands-inside}
use Rattle.script_back.proofs.Forks.{byte-stops, byte-said}
use Rattle.script_back.proofs.declarations.named.Statement.{statement}
use Rattle.script_back.proofs.declarations.named.Tie as tie

said-requires : tie.Need-said-requires
said-requires c κs =
    let a = c.args in
    omega (arith, stands-inside a.text.now a.at (97 + a.i) (sym c.byte_at.ensures ∙ c.if-byte_at-i.true) (omega arith))

returns : tie.Need-returns-then-byte_at-i
unfolding letter
returns c =
    let a = c.args in
    byte-said a.text.now a.at (97 + a.i) _ (omega arith) (sym c.byte_at.ensures ∙ c.if-byte_at-i.true) c.said.ensures

returns-2 : tie.Need-returns
unfolding letter
returns-2 c = let a = c.args in byte-stops a.text.now a.at (97 + a.i) _ (λ e. c.if-byte_at-i.false (c.byte_at.ensures ∙ e))

pub named_spec : {M : Type 1} → statement M
named_spec = tie.close (tie.spec (λ c κs. search rules) (λ c. search rules) (λ c. search rules) said-requires returns returns-2)
