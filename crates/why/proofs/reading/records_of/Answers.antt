-- What each step ensures is what the next one asks.
use Rattle.std.proofs.Common.{◌≡◌, sym, ap, ◌∙◌, subst, Bool, true, ℕ, List, ◌-◌, ◌≤◌, length, take, drop, arith, rules}
use Rattle.block.specs.declared.Held.{Held}
use Rattle.forms.specs.declared.WorkingTable.{WorkingTable}
use Rattle.forms.specs.Working.{working_by, table_of, Worked}
use Rattle.forms.specs.Tokens.{normal_tokens}
use Rattle.tape.specs.declared.rows.Row.{Row}
use Rattle.tape.specs.Row.{row_of, Lists}
use Rattle.places.specs.Places.{placed_tokens}
use Rattle.why.specs.Flat.{behind_root, and_of_atoms}
use Rattle.why.specs.Entry.{Taken}
use Rattle.why.specs.Way.{atoms_read, Reads, table-read, tokens-there, tokens-few, atoms-many, reads, blank-table}
use Rattle.why.proofs.reading.records_of.Goals as goal

-- The row that is cut from the tape is that of the atoms as read.
row : {bytes : List ℕ} {held : Held} (taken : Taken bytes held) → and_of_atoms held.root (take held.tokens held.token) ≡ true
    → (w : WorkingTable) {plain : Bool} → Worked plain held.coefficient held.monomial held.terms held.polynomials held.variables w
    → (r : Row) (from : ℕ) → from ≡ behind_root held.root → (normal laid : List ℕ)
    → normal ≡ normal_tokens w.number w.turned held.tokens held.token → laid ≡ placed_tokens held.tokens normal
    → ((k : ℕ) (m : List ℕ) → Lists (row_of laid k) m → held.tokens ≤ length m → Lists r (take (held.tokens - from) (drop from m)))
    → Reads (table_of held.variables w) (atoms_read taken.given) r
row {held = held} taken only w worked r from behind normal laid brought placed part =
    let tape = placed ∙ ap (placed_tokens held.tokens) brought in
    reads taken only w worked (λ k m lists enough.
    subst (λ (f : ℕ). Lists r (take (held.tokens - f) (drop f m))) behind (part k m (subst (λ (l : List ℕ). Lists (row_of l k) m) (sym tape) lists) enough))

pub work-requires : goal.work-requires
work-requires c = (table-read c.requires.taken, blank-table)

pub normal_tokens-requires : goal.normal_tokens-requires
normal_tokens-requires c = (tokens-there c.requires.taken, search rules, search rules)

pub give-requires : goal.give-requires
give-requires c = (omega (arith, tokens-there c.requires.taken, c.normal_tokens.auto.token), tokens-few c.requires.taken)

pub part-given-requires : goal.part-given-requires
part-given-requires c =
    let taken = c.requires.taken in (
      omega (arith, atoms-many taken c.requires.only, c.behind_root.ensures),
      (omega (arith, tokens-there taken, c.normal_tokens.auto.token, c.give.auto.token), omega (arith, tokens-few taken)),
    )

pub tell_all-requires : goal.tell_all-requires
tell_all-requires c =
    let taken = c.requires.taken in
    let n = c.work.new in
    let w = working_by n.normal_coefficient n.normal_monomial n.normal_terms n.number n.turned in
    let r = row taken c.requires.only w c.work.ensures c.part-given.result c.behind_root.result c.behind_root.ensures
    c.normal_tokens.new.token c.give.new.token c.normal_tokens.ensures c.give.ensures c.part-given.ensures.1 in
    (c.work.ensures.forms, record { atoms = atoms_read taken.given; tokens = r.list; lists = r.lists; few = r.few; is = r.is })

pub returns : goal.returns
returns c bytes taken =
    let n = c.work.new in
    let w = working_by n.normal_coefficient n.normal_monomial n.normal_terms n.number n.turned in
    let r = row taken c.requires.only w c.work.ensures c.part-given.result c.behind_root.result c.behind_root.ensures
    c.normal_tokens.new.token c.give.new.token c.normal_tokens.ensures c.give.ensures c.part-given.ensures.1 in
    c.tell_all.ensures (atoms_read taken.given) r.list r.lists r.is
