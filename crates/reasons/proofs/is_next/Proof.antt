-- `is_next` meets its contract: the next token of the row, or none.
use borrow.Author.Rules.{rules}
use mathlib.Core.Path.{◌≡◌, sym, ap₂, ◌∙◌}
use Prim.Native.Nat.{◌<◌}
use native.Mathlib.Omega.{arith}
use lib.Dec.{eqb}
use lib.ListN.{length}
use Rattle.reasons.proofs.Tokens.{next-is, none-next}
use Rattle.reasons.proofs.is_next.Statement.{statement}
use Rattle.reasons.proofs.is_next.Tie as tie

within : tie.Need-bounds-left-kept
within c = let long : length c.before.before.args.left.token ≡ 256 = search rules in omega (arith, long, c.before.before.requires)

returns : tie.Need-returns-then-kept-left
returns c l h =
    let kept = c.before.before.before.before.args.kept in
    let low : kept < length l = omega (arith, h.size, c.before.before.before.if-kept-left.true) in
    ap₂ eqb c.before.before.place_of.ensures c.place_of-then-kept-left.ensures ∙ sym (next-is h low _)

returns-2 : tie.Need-returns
returns-2 c l h = sym (none-next l c.before.args.kept _ (omega (arith, h.size, c.if-kept-left.false)))

pub is_next_spec : {M : Type 1} → statement M
is_next_spec =
    tie.close
    (tie.spec (λ c κs. search rules) (λ c. omega (arith, within c)) within (λ c κs. search rules) returns returns-2)
