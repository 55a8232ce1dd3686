use mir.Syntax.{w32}
use mir.ValLaws.{to_z-of_z}
use Rattle.std.proofs.Common.{◌<◌, ◌∙◌, length-set, arith}
use Rattle.sieve.proofs.Merge.{merge-begun, merge_on, merged-row, more_rows}
use Rattle.sieve.proofs.rows.fill.Goals as goal

pub loop-count-init : goal.loop-count-init
loop-count-init c =
    let lengths = c.requires.lengths in
    record {
      firsts = lengths.0;
      seconds = lengths.1.0;
      thirds = lengths.1.1.0;
      signs = lengths.1.1.1;
      merged = merge-begun c.requires.places_of.0;
      each = λ q l. absurd (omega arith);
    }

pub loop-count-preserved : goal.loop-count-preserved
loop-count-preserved c =
    let l = c.loop-count in
    let h = l.invariant in
    let r = c.next_row-row in
    let f = c.requires.places_of.1 in
    let more : l.count < 48 = c.loop-count-test.true in
    record {
      firsts = length-set l.a l.count _ ∙ h.firsts;
      seconds = length-set l.b l.count _ ∙ h.seconds;
      thirds = length-set l.c l.count _ ∙ h.thirds;
      signs = length-set l.s l.count _ ∙ h.signs;
      merged = merge_on f h.merged r.ensures;
      each = more_rows l.a l.b l.c l.s l.count (omega (arith, more, h.firsts)) (omega (arith, more, h.seconds)) (omega (arith, more, h.thirds))
          (omega (arith, more, h.signs))
          (rw (
            to_z-of_z w32 _ (record { sfits = c.struct_told-1.given.0.1 }),
            to_z-of_z w32 _ (record { sfits = c.struct_told-in-loop-count-1.given.1.0.1 }),
            to_z-of_z w32 _ (record { sfits = c.struct_told-in-loop-count-2-1.given.1.1.0.1 }),
          ) (merged-row f h.merged r.ensures)) h.each;
    }

pub returns-then-i-j : goal.returns-then-i-j
returns-then-i-j c =
    let l = c.loop-count in
    let h = l.invariant in
    record {
      firsts = omega (arith, h.firsts);
      seconds = omega (arith, h.seconds);
      thirds = omega (arith, h.thirds);
      signs = omega (arith, h.signs);
      each = h.each;
    }

pub returns : goal.returns
returns c =
    let l = c.loop-count in
    let h = l.invariant in
    record {
      firsts = omega (arith, h.firsts);
      seconds = omega (arith, h.seconds);
      thirds = omega (arith, h.thirds);
      signs = omega (arith, h.signs);
      each = λ i m. h.each i (omega (arith, m));
    }
