use native.Mathlib.Nat.{sub-zero}
use Rattle.std.proofs.Common.{◌<◌, ◌≤◌, sym, ◌∙◌, arith}
use Rattle.table.specs.Table.{many}
use Rattle.round.specs.Views.{lent_table}
use Rattle.round.specs.SignedSlots.{form-slots}
use Rattle.search.proofs.Walks.{walk-on, walk-stop, walk_end, tries-step, tries-end}
use Rattle.search.proofs.pairs.cut_by_pairs.Goals as goal

pub mask_of_slot-mask-requires : goal.mask_of_slot-mask-requires
mask_of_slot-mask-requires c =
    let forms = c.requires.ready.0.forms in
    (form-slots forms c.requires.ready.0.places, (forms.coefficients, c.requires.signed.0))

pub falls_with-all_fall-requires : goal.falls_with-all_fall-requires
falls_with-all_fall-requires c =
    let forms = c.requires.ready.0.forms in
    (record { monomials = forms.monomials; counts = forms.counts; few = forms.few }, c.requires.signed.0)

pub loop-i-init : goal.loop-i-init
loop-i-init c = rw sub-zero

pub cut_with-cut-requires : goal.cut_with-cut-requires
cut_with-cut-requires c =
    let words = c.requires.words in
    record {
      ready = c.requires.ready;
      signed = (c.requires.signed.0, (c.requires.signed.1, omega (arith, c.many-i-end.ensures, c.loop-i-test.true)));
      masked_atoms = words.masked;
      slot_mask = (c.mask_of_slot-mask.ensures, words.noted);
      falling_atoms = λ e. let (list, falls) = c.falls_with-all_fall.ensures e in record { own = falls; atoms = words.falling list };
    }

pub returns-then-stops : goal.returns-then-stops
returns-then-stops c =
    let a = c.args in
    let l = c.loop-i in
    let h : l.i < many a.atoms.count = omega (arith, c.many-i-end.ensures, c.loop-i-test.true) in
    walk-stop a.all l.sofar.0 _ _ l.invariant (tries-step (lent_table a.coefficient a.monomial a.terms a.board.variables) a.atoms _ _ l.i h)
    c.cut_with-cut.ensures (sym c.stops.ensures ∙ c.if-stops.true)

pub loop-i-preserved : goal.loop-i-preserved
loop-i-preserved c =
    let a = c.args in
    let l = c.loop-i in
    let h : l.i < many a.atoms.count = omega (arith, c.many-i-end.ensures, c.loop-i-test.true) in
    walk-on a.all l.sofar.0 _ _ l.invariant (tries-step (lent_table a.coefficient a.monomial a.terms a.board.variables) a.atoms _ _ l.i h)
    c.cut_with-cut.ensures (sym c.stops.ensures ∙ c.if-stops.false)

pub returns : goal.returns
returns c =
    let a = c.args in
    let h : many a.atoms.count ≤ c.loop-i.i = omega (arith, c.many-i-end.ensures, c.loop-i-test.false) in
    walk_end a.all c.loop-i.invariant (tries-end (lent_table a.coefficient a.monomial a.terms a.board.variables) a.atoms _ _ _ h)
