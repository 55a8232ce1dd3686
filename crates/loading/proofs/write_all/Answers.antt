use Rattle.std.proofs.Common.{◌∙◌, length, sym, ap, arith}
use Rattle.loading_laws.specs.Loading.{image_after}
use Rattle.loading_laws.proofs.Writes.{before-first}
use Rattle.loading.specs.Writing.{image-all, image-next, first-within}
use Rattle.loading.proofs.write_all.Goals as goal

pub loop-k-init : goal.loop-k-init
loop-k-init c =
    let area = c.args.area.now in
    let first = c.first_write-k in
    record {
      image = sym (before-first c.args.block.now area) ∙ ap (image_after c.args.block.now area) (sym first.ensures);
      within = first-within area first.result (length c.args.block.now) first.ensures c.requires;
    }

pub loop-k-preserved : goal.loop-k-preserved
loop-k-preserved c = record {
  image = c.step.ensures ∙ image-next c.args.block.now c.args.area.now c.loop-k.area c.loop-k.k c.loop-k.invariant.image;
  within = omega (arith, c.loop-k-test.true);
}

pub returns : goal.returns
returns c =
    c.step-2.ensures ∙ image-next c.args.block.now c.args.area.now c.loop-k.area (length c.args.block.now)
    (image-all c.args.block.now c.args.area.now c.loop-k.area c.loop-k.k c.loop-k.invariant.image
    (omega (arith, c.loop-k.invariant.within, c.loop-k-test.false)))
