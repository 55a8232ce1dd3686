-- `answer_to` meets its contract: what each step ensures is what the next one asks, and at the end the book's answer.
use borrow.Author.Rules.{rules}
use mathlib.Core.Path.{◌≡◌, refl, sym, ◌∙◌, subst}
use mathlib.Core.Bool.{Bool, true, false}
use mathlib.Core.List.{List}
use Prim.Native.Nat.{ℕ}
use native.Mathlib.Omega.{arith}
use lib.IntN.{pos}
use lib.ListN.{length, set, replicate}
use Rattle.rules.specs.Signs.{bit}
use Rattle.rules.specs.Formula.{Node}
use Rattle.rules.specs.Block.{NumberedAtom}
use Rattle.rules.specs.Answer.{new_block}
use Rattle.block.specs.declared.Held.{Held}
use Rattle.block.specs.Held.{held_by, BlockRoom}
use Rattle.writer.specs.Written.{Writable}
use Rattle.forms.specs.declared.WorkingTable.{WorkingTable}
use Rattle.forms.specs.Working.{working_by, table_of, is_plain, blank}
use Rattle.level.specs.Tree.{TreeHeld, Simplified}
use Rattle.used.specs.Tape.{Holds}
use Rattle.answer.specs.Tapes.{token_tree}
use Rattle.answer.specs.Entry.{Accepted}
use Rattle.answer.specs.Way.{Prepared, asks-table, asks-room, counts-tokens, prepares, asks-tree, asks-atoms, counts-row, counts-few}
use Rattle.answer.specs.Way.{simpler_tree, simpler-holds, new_held, collects, writes, answers, places-told, counts-rounds}
use Rattle.answer.proofs.answer_to.Statement.{statement}
use Rattle.answer.proofs.answer_to.Tie as tie

-- What is held where the function begins, and that it was read from these bytes.
abbrev held : tie.Start → Held
held s = let a = s.args in held_by a.variables a.polynomials a.root a.count a.coefficient.now a.monomial.now a.terms.now a.token.now

abbrev ReadFrom : List ℕ → tie.Start → Type 0
ReadFrom bytes s = Accepted bytes s.args.edition (held s) (length s.args.output.now)

-- ---- the calls, each seen from the next

abbrev start : tie.After-work → tie.Start
start c = c.before.before.before.before.before.before.before.before.before.before.before.before

abbrev working : tie.After-normal_tokens → tie.After-work
working c = c.before.before.before.before.before.before.before.before.before

abbrev normal-of : tie.After-give → tie.After-normal_tokens
normal-of c = c.before.before.before.before.before.before.before.before

abbrev giving : tie.After-simplified-short → tie.After-give
giving c = c.before.before.before.before.before.before

abbrev normalising : tie.After-simplified-short → tie.After-normal_tokens
normalising c = normal-of (giving c)

abbrev telling-of : tie.After-plain_tokens → tie.After-tell
telling-of c = c.before.before.before.before

abbrev simplifying : tie.After-plain_tokens → tie.After-simplified-short
simplifying c = (telling-of c).before.before.before.before.before

abbrev plaining : tie.After-collect-new_polynomials → tie.After-plain_tokens
plaining c = c.before.before.before.before.before.before.before.before.before.before.before.before

-- ---- what is known behind them

abbrev table : tie.After-work → WorkingTable
table c =
    let last = c.work.new in
    working_by last.normal_coefficient last.normal_monomial last.normal_terms last.number last.turned

module _ (c : tie.After-normal_tokens) {bytes : List ℕ} (accepted : ReadFrom bytes (start (working c))) where
  -- The tape is in normal form,
  prepared : Prepared accepted.given (held (start (working c))) (table (working c)) c.normal_tokens.new.token
  prepared = prepares accepted (table (working c)) (working c).work.ensures c.normal_tokens.new.token c.normal_tokens.ensures

module _ (c : tie.After-give) {bytes : List ℕ} (accepted : ReadFrom bytes (start (working (normal-of c)))) where
  -- with places,
  placed : TreeHeld c.give.new.token (start (working (normal-of c))).args.root (token_tree (prepared (normal-of c) accepted).tree)
  placed =
      let s = start (working (normal-of c)) in
      subst (λ (l : List ℕ). TreeHeld l s.args.root (token_tree (prepared (normal-of c) accepted).tree)) (sym c.give.ensures)
      (asks-tree (prepared (normal-of c) accepted))

  -- as long as what was read,
  long : length c.give.new.token ≡ length (start (working (normal-of c))).args.token.now
  long = c.give.auto.token ∙ (normal-of c).normal_tokens.auto.token

module _ (c : tie.After-simplified-short) {bytes : List ℕ} (accepted : ReadFrom bytes (start (working (normalising c)))) where
  -- simplified,
  simpler : Simplified (table_of (start (working (normalising c))).args.variables (table (working (normalising c))))
      (token_tree (prepared (normalising c) accepted).tree) c.simplified-short.result.tree
  simpler = (c.simplified-short.ensures (token_tree (prepared (normalising c) accepted).tree) (placed (giving c) accepted)).simplified

  abbrev tree : Node NumberedAtom
  tree = simpler_tree (prepared (normalising c) accepted) c.simplified-short.result.tree simpler

module _ (c : tie.After-plain_tokens) {bytes : List ℕ} (accepted : ReadFrom bytes (start (working (normalising (simplifying c))))) where
  -- plain,
  holds : Holds c.plain_tokens.new.token (simplifying c).simplified-short.result.tree.tokens.count (tree (simplifying c) accepted)
  holds =
      simpler-holds (prepared (normalising (simplifying c)) accepted) (simplifying c).simplified-short.result.tree (simpler (simplifying c) accepted) c.plain_tokens.new.token
      c.plain_tokens.ensures

module _ (c : tie.After-collect-new_polynomials) where
  abbrev simplified-at : tie.After-simplified-short
  simplified-at = simplifying (plaining c)

  abbrev given-at : tie.After-give
  given-at = giving simplified-at

  abbrev normal-at : tie.After-normal_tokens
  normal-at = normalising simplified-at

  abbrev first : tie.Start
  first = start (working normal-at)

  abbrev new : Held
  new =
      let last = c.collect-new_polynomials.new in
      let simplified = simplified-at.simplified-short.result.tree in
      held_by first.args.variables c.collect-new_polynomials.result simplified.root simplified.tokens.count last.new_coefficient last.new_monomial last.new_terms last.new_token

  module _ {bytes : List ℕ} (accepted : ReadFrom bytes first) where
    -- and collected to the new block,
    new_is : new ≡ new_held first.args.output.now accepted (prepared normal-at accepted) simplified-at.simplified-short.result.tree (simpler simplified-at accepted)
        given-at.give.new.token
    new_is =
        collects first.args.output.now accepted (prepared normal-at accepted) simplified-at.simplified-short.result.tree (simpler simplified-at accepted)
        given-at.give.new.token (c.collect-new_polynomials.ensures (tree simplified-at accepted) (holds (plaining c) accepted))

    -- which can be written.
    new-writable : Writable first.args.edition new (length first.args.output.now) (new_block accepted.given)
    new-writable =
        writes first.args.output.now accepted (prepared normal-at accepted) simplified-at.simplified-short.result.tree (simpler simplified-at accepted)
        given-at.give.new.token new new_is (long given-at accepted)

    new-room : BlockRoom new.coefficient new.monomial new.terms new.token
    new-room =
        let room = asks-room accepted given-at.give.new.token (long given-at accepted) in
        let kept = c.collect-new_polynomials.auto in
        record {
          coefficients = omega (arith, room.coefficients, kept.new_coefficient);
          monomials = omega (arith, room.monomials, kept.new_monomial);
          counts = omega (arith, room.counts, kept.new_terms);
          tokens = omega (arith, room.tokens, kept.new_token);
        }

-- ---- the working table and the tape in normal form

-- the arrays are blank, save the engine's mark
marked : (plain : Bool) (m : ℕ) → m ≡ bit plain
    → working_by (replicate 1280 (pos 0)) (replicate 1280 0) (set (replicate 81 0) 80 m) (replicate 64 0) (replicate 64 false) ≡ blank (is_plain (set (replicate 81 0) 80 m))
unfolding blank bit
marked true m e = rw e
marked false m e = rw e

work-requires : tie.Need-work-requires
work-requires c κs =
    let s = c in
    let marking = c in
    (asks-table s.requires.0.accepted, marked s.args.plain marking.mark.result marking.mark.ensures)

normal-tokens-requires : tie.Need-normal_tokens-requires
normal-tokens-requires c κs = let here = c.before.before.before.before.before.before.before.before in (counts-tokens (start here).requires.0.accepted, search rules, search rules)

atoms-requires : tie.Need-atoms-atoms_in-requires
atoms-requires c κs = let here = c.before.before in asks-atoms (prepared here (start (working here)).requires.0.accepted)

forms-used-requires : tie.Need-forms_used-polynomials_in-requires
forms-used-requires c κs =
    let here = c.before.before.before.before.before in
    let forms = (working here).work.ensures.forms in
    (omega (arith, forms.monomials), omega (arith, forms.counts), asks-atoms (prepared here (start (working here)).requires.0.accepted))

give-requires : tie.Need-give-requires
give-requires c κs =
    let here = c.before.before.before.before.before.before.before in
    let accepted = (start (working here)).requires.0.accepted in
    (omega (arith, counts-tokens accepted, here.normal_tokens.auto.token), (prepared here accepted).holds.few)

-- ---- the simplified tape

simplified-requires : tie.Need-simplified-short-requires
simplified-requires c κs =
    let here = c.before.before.before.before.before in
    let accepted = (start (working (normal-of here))).requires.0.accepted in
    ((working (normal-of here)).work.ensures.forms, (token_tree (prepared (normal-of here) accepted).tree, placed here accepted))

tell-requires : tie.Need-tell-requires
tell-requires c κs =
    let here = c.before.before.before.before in
    let accepted = (start (working (normalising here))).requires.0.accepted in
    let ready = prepared (normalising here) accepted in (
      counts-row ready here.simplified-short.result.tree (simpler here accepted),
      omega (arith, counts-few ready here.simplified-short.result.tree (simpler here accepted), (start (working (normalising here))).requires.1),
    )

plain-tokens-requires : tie.Need-plain_tokens-requires
plain-tokens-requires c κs =
    let here = c.before.before.before.before.before.before.before.before in
    let accepted = (start (working (normalising here))).requires.0.accepted in
    counts-row (prepared (normalising here) accepted) here.simplified-short.result.tree (simpler here accepted)

atoms-requires-2 : tie.Need-atoms-atoms_out-requires
atoms-requires-2 c κs =
    let here = c.before.before in
    let accepted = (start (working (normalising (simplifying here)))).requires.0.accepted in
    record { tree = tree (simplifying here) accepted; holds = holds here accepted }

-- ---- the new block

lends-coefficients : tie.Need-slice_bounds-collect-end
lends-coefficients c = sym (working (normalising (simplifying c.before.before.before.before))).work.ensures.forms.coefficients

lends-monomials : tie.Need-slice_bounds-collect-end-2
lends-monomials c = sym (working (normalising (simplifying c.before.before.before.before.before))).work.ensures.forms.monomials

lends-counts : tie.Need-slice_bounds-collect-end-3
lends-counts c = sym (working (normalising (simplifying c.before.before.before.before.before.before))).work.ensures.forms.counts

collect-requires : tie.Need-collect-new_polynomials-requires
collect-requires c κs =
    let here = c.before.before.before.before.before.before.before.before.before.before.before in
    let normal = normalising (simplifying here) in
    let accepted = (start (working normal)).requires.0.accepted in (
      (working normal).work.ensures.forms,
      record { tree = tree (simplifying here) accepted; holds = holds here accepted },
      asks-room accepted (giving (simplifying here)).give.new.token (long (giving (simplifying here)) accepted),
    )

write-requires : tie.Need-write-length-requires
write-requires c κs =
    let here = c.before.before.before.before.before.before.before.before.before in
    let accepted = (first here).requires.0.accepted in
    (new-room here accepted, record { block = new_block accepted.given; writable = new-writable here accepted })

same-coefficients : tie.Need-shape_of-coefficient
same-coefficients c = c.collect-new_polynomials.auto.new_coefficient

same-monomials : tie.Need-shape_of-monomial
same-monomials c = c.collect-new_polynomials.auto.new_monomial

same-counts : tie.Need-shape_of-terms
same-counts c = c.collect-new_polynomials.auto.new_terms

same-tokens : tie.Need-shape_of-token
same-tokens c =
    let here = c.before.before.before.before.before.before.before.before.before.before.before.before in
    here.collect-new_polynomials.auto.new_token ∙ (given-at here).give.auto.token ∙ (normal-at here).normal_tokens.auto.token

same-places : tie.Need-shape_of-places
same-places c = (telling-of (plaining c.before.before.before.before.before.before.before.before.before.before.before.before)).tell.auto.places

returns : tie.Need-returns
returns c bytes accepted =
    let writing = c.write-length in
    let telling = c.verdict_of-verdict in
    let here = c.before.before.before.before.before.before.before.before.before.before.before.before in
    let counting = here.atoms-atoms_out in
    let simplified = simplified-at here in
    let counted = (giving simplified).atoms-atoms_in in
    let uses = (giving simplified).forms_used-polynomials_in in
    let told = (telling-of (plaining here)).tell in
    let ready = prepared (normal-at here) accepted in
    let worked = working (normal-at here) in
    let written = writing.ensures _ (new-writable here accepted) in
    let tape = (given-at here).give.new.token in (
      answers (first here).args.output.now accepted ready simplified.simplified-short.result.tree (simpler simplified accepted) tape (new here) (new_is here accepted)
          writing.new.out counted.result counting.result uses.result writing.result telling.result written.0 written.1
          (counted.ensures ready.tree ready.holds) (counting.ensures (tree simplified accepted) (holds (plaining here) accepted))
          (uses.ensures (first here).args.variables (table worked).coefficient ready.tree worked.work.ensures.forms ready.holds) telling.ensures,
      (
        places-told (first here).args.output.now accepted ready simplified.simplified-short.result.tree (simpler simplified accepted) tape
            (first here).args.places.now told.new.places told.ensures,
        counts-rounds accepted ready (simplified.simplified-short.ensures (token_tree ready.tree) (placed (giving simplified) accepted)).counts,
      ),
    )

pub answer_to_spec : {M : Type 1} → statement M
answer_to_spec =
    tie.close
    (tie.spec (λ c κs. search rules) (λ c. omega arith) (λ c. search rules) (λ c. search rules) (λ c. search rules) (λ c. search rules) (λ c. search rules) work-requires
    (λ c. search rules) (λ c. search rules) normal-tokens-requires atoms-requires (λ c. search rules) (λ c. search rules) forms-used-requires give-requires
    (λ c. search rules) (λ c. search rules) (λ c. search rules) simplified-requires (λ c. search rules) tell-requires
    (λ c. search rules) plain-tokens-requires (λ c. search rules) atoms-requires-2
    lends-coefficients lends-monomials lends-counts (λ c. search rules) collect-requires (λ c κs. search rules) write-requires
    same-coefficients same-monomials same-counts same-tokens (λ c. search rules) same-places returns)
