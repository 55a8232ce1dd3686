use Rattle.std.proofs.Common.{◌<◌, ◌∙◌, arith}
use Rattle.table.specs.Table.{many}
use Rattle.search.proofs.Masking.{more-masked}
use Rattle.search.proofs.masked.mask_list.Goals as goal

pub loop-i-preserved : goal.loop-i-preserved
loop-i-preserved c =
    let l = c.loop-i in
    let low : l.i < many c.args.atoms.count = omega (arith, c.many-i-end.ensures, c.loop-i-test.true) in
    record {
      words = c.put.auto.masks ∙ l.invariant.words;
      atoms = more-masked c.args.terms.now c.args.atoms.number l.masks l.i (omega (arith, low)) l.invariant.words c.mask_of_slot-mask.ensures
          c.put.ensures l.invariant.atoms;
    }

pub returns : goal.returns
returns c =
    let l = c.loop-i in
    record { words = l.invariant.words; atoms = λ j h. l.invariant.atoms j (omega (arith, h, c.many-i-end.ensures, c.loop-i-test.false)) }
