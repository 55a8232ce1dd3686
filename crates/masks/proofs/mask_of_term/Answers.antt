use mir.Syntax.{w32}
use mir.ValLaws.{to_z-of_z}
use Rattle.masks.proofs.Walks.{bit-positive, bit-negative, sign_below, sign_above, sign-neither, weighed-below, weighed-above, weighed-none}
use Rattle.masks.proofs.mask_of_term.Goals as goal

pub returns-then-c-lt0 : goal.returns-then-c-lt0
returns-then-c-lt0 c = weighed-below (bit-positive c.args.m c.args.s c.bit_if-above.ensures) (bit-negative c.args.m c.args.s c.bit_if-below.ensures)
    (sign_below _ (rw (to_z-of_z w32 _ c.ranges.c) at c.if-c-lt0.true))

pub returns-then-c-gt0 : goal.returns-then-c-gt0
returns-then-c-gt0 c = weighed-above (bit-positive c.args.m c.args.s c.bit_if-above.ensures) (bit-negative c.args.m c.args.s c.bit_if-below.ensures)
    (sign_above _ (rw (to_z-of_z w32 _ c.ranges.c) at c.if-c-gt0.true))

pub returns : goal.returns
returns c =
    let b = to_z-of_z w32 _ c.ranges.c in
    weighed-none (sign-neither _ (rw b at c.if-c-lt0.false) (rw b at c.if-c-gt0.false))
