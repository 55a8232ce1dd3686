-- `is_constant` meets its contract.
use borrow.Author.Rules.{rules}
use native.Mathlib.Omega.{arith}
use Rattle.pool.specs.Listing.{constant_in}
use Rattle.pool.proofs.Listings.{many-terms, no_terms, one-term}
use Rattle.pool.proofs.listed.is_constant.Statement.{statement}
use Rattle.pool.proofs.listed.is_constant.Tie as tie

returns : tie.Need-returns-then-count-gt1
unfolding constant_in
returns c = many-terms _ _ c.if-count-gt1.true

returns-2 : tie.Need-returns-then-count-eq0
unfolding constant_in
returns-2 c = no_terms _ _ c.if-count-eq0.true

returns-3 : tie.Need-returns
unfolding constant_in
returns-3 c = one-term _ _ (omega (arith, c.if-count-gt1.false)) c.if-count-eq0.false

pub is_constant_spec : {M : Type 1} → statement M
is_constant_spec =
    tie.close
    (tie.spec (λ c. search rules) returns returns-2 (λ c. search rules) (λ c. search rules) (λ c. search rules) returns-3)
