-- `unlist` meets its contract: without a mark left the word of the row is 0.
use borrow.Author.Rules.{rules}
use mathlib.Core.Path.{sym, ap, ◌∙◌}
use mathlib.Core.Bool.{Bool, false}
use mathlib.Core.List.{List}
use lib.ListN.{get_or, set}
use borrow.Author.Tests.{eq-eqb, ne_eqb}
use Rattle.rules.specs.Pool.{either}
use Rattle.pool.specs.Marks.{marks, row_word, count_word}
use Rattle.pool.specs.Words.{zeros, unlisted}
use Rattle.pool.proofs.slots.unlist.Statement.{statement}
use Rattle.pool.proofs.slots.unlist.Tie as tie

returns : tie.Need-returns-then-row-eq0
unfolding unlisted either
returns c =
    let a = c.args in
    let row : List Bool = set (marks 32 (get_or a.pool.now a.at 0)) a.number false in
    c.clear.ensures
    ∙ sym (ap (λ (b : Bool). either b (zeros a.pool.now a.at 34) (set a.pool.now a.at (row_word row)))
    (count_word row ∙ eq-eqb (row_word row) 0 (sym c.with_mark-row.ensures ∙ c.if-row-eq0.true)))

returns-2 : tie.Need-returns
unfolding unlisted either
returns-2 c =
    let a = c.args in
    let row : List Bool = set (marks 32 (get_or a.pool.now a.at 0)) a.number false in
    ap (set a.pool.now a.at) c.with_mark-row.ensures
    ∙ sym (ap (λ (b : Bool). either b (zeros a.pool.now a.at 34) (set a.pool.now a.at (row_word row)))
    (count_word row ∙ ne_eqb (row_word row) 0 (λ e. c.if-row-eq0.false (c.with_mark-row.ensures ∙ e))))

pub unlist_spec : {M : Type 1} → statement M
unlist_spec =
    tie.close
    (tie.spec (λ c. search rules) (λ c. search rules) (λ c κs. search rules) (λ c κs. search rules) (λ c. search rules) returns (λ c. search rules)
    (λ c. search rules) (λ c. search rules) returns-2)
