use borrow.Author.Count.{below_more}
use Rattle.std.proofs.Common.{ℕ, get_or, subst, ◌∙◌, arith}
use Rattle.masks.specs.declared.Mask.{Mask}
use Rattle.columns.specs.Columns.{Noted, noted_more, Took}
use Rattle.search.specs.Masked.{mask_at}
use Rattle.search.proofs.noted.note_list.Goals as goal

pub loop-i-preserved : goal.loop-i-preserved
loop-i-preserved c =
    let l = c.loop-i in
    let after = c.note.new.columns in
    let set = get_or c.args.atoms.set in
    let took = subst (λ (q : Mask). Took l.columns l.i q (set l.i 0) after) c.mask_at-mask.ensures c.note.ensures in
    record {
      words = took.more.same_length ∙ l.invariant.words;
      atoms = below_more (λ (j : ℕ). Noted after j (mask_at c.args.masks.now j) (set j 0)) l.i
          (λ j h. noted_more (l.invariant.atoms j h) took.more) took.noted;
    }

pub returns : goal.returns
returns c =
    let l = c.loop-i in
    record { words = l.invariant.words; atoms = λ j h. l.invariant.atoms j (omega (arith, h, c.many-i-end.ensures, c.loop-i-test.false)) }
