-- `is_free` meets its contract: a row without a mark.
use borrow.Author.Rules.{rules}
use mathlib.Core.Path.{ap, ◌∙◌}
use Prim.Native.Nat.{ℕ, ◌%◌}
use lib.Dec.{eqb}
use lib.ListN.{get_or}
use Rattle.rules.specs.Pool.{is_free, slot_of}
use Rattle.pool.specs.Marks.{no-mark}
use Rattle.pool.specs.Words.{slot_place, slot_at}
use Rattle.pool.proofs.slots.is_free.Statement.{statement}
use Rattle.pool.proofs.slots.is_free.Tie as tie

returns : tie.Need-returns
unfolding is_free slot_at slot_of
returns c =
    let a = c.args in
    ap (λ (w : ℕ). eqb (w % 4294967296) 0) c.word.ensures ∙ no-mark (get_or a.pool.now (slot_place a.slot) 0)

pub is_free_spec : {M : Type 1} → statement M
is_free_spec = tie.close (tie.spec (λ c. search rules) (λ c. search rules) (λ c κs. search rules) returns)
