-- `put_parts` meets its contract; it ends, since the tokens that are left get fewer.
use mathlib.Core.Path.{◌∙◌}
use Prim.Native.Nat.{ℕ, ◌-◌, ◌<◌}
use native.Mathlib.Omega.{arith}
use lib.ListN.{length}
use borrow.Fn.Kinds.{In}
use borrow.Fn.PlainCycle.{Measures, is, falls, and}
use Rattle.script_text.proofs.Parts.{first-there, any-space, atom-asks, after-atom, kind_fits, fits-join, inside-join, further, fits-end, after-join}
use Rattle.script_text.proofs.Parts.{parts_none, parts-atom, parts_join}
use Rattle.script_text.proofs.put_parts.Reads as parts
use Rattle.script_text.proofs.put_parts.Kinds as parts-kinds
use Rattle.script_text.proofs.+put_parts.Lts-put_parts as parts-lts
use Rattle.script_text.proofs.runs.put_byte.Reads as byte-Reads
use Rattle.script_text.proofs.put_atom.Reads as atom-reads
use Rattle.script_text.proofs.put_join.Reads as join-reads
use Rattle.script_text.proofs.+put_parts.{statement}
use Rattle.script_text.proofs.+put_parts.Tie.{close}

abbrev μ-parts : Measures 5 parts-kinds.ps ℕ
μ-parts κs a = length a.1.1.1.1.0.now - a.1.1.1.1.1.1.1.0

abbrev parts_at : ℕ → In 5 parts-kinds.ps
parts_at t = and 5 parts-kinds.ps (is 5 parts-kinds.ps μ-parts t) parts.Pre

abbrev parts_below : ℕ → In 5 parts-kinds.ps
parts_below t = and 5 parts-kinds.ps (falls 5 parts-kinds.ps ◌<◌ μ-parts t) parts.Pre

pub +put_parts_spec : {M : Type 1} → statement M
+put_parts_spec =
    close μ-parts λ t.
    parts-lts.spec (byte-Reads.Asked, byte-Reads.Learnt, atom-reads.Asked, atom-reads.Learnt, parts_below t, parts.Post, join-reads.Asked, join-reads.Learnt)
    (parts_at t) parts.Post
    (λ c. parts_none _ _ _ _ _ _ _ _ c.if-count-eq0.true)
    (λ c. omega (arith, first-there c.requires.1 c.if-count-eq0.false))
    (λ c. first-there c.requires.1 c.if-count-eq0.false)
    (λ c κs. any-space c.requires.1 c.if-count-eq0.false)
    (λ c κs.
    atom-asks c.requires.1 c.if-count-eq0.false c.if-first-lt-JOIN.true c.put_byte-start.ensures)
    (λ c.
    omega (arith, first-there c.requires.1 c.if-count-eq0.false))
    (λ c. omega (arith, c.if-count-eq0.false))
    (λ c κs. (
      omega (arith, first-there c.requires.1 c.if-count-eq0.false),
      after-atom c.requires.1 c.if-count-eq0.false c.if-first-lt-JOIN.true c.put_byte-start.ensures c.put_atom-next.ensures,
    ))
    (λ c.
    c.put_parts.auto.text ∙ c.put_atom-next.auto.text ∙ c.put_byte-start.auto.text)
    (λ c.
    parts-atom _ _ _ _ _ _ _ _ c.if-count-eq0.false c.put_byte-start.ensures c.if-first-lt-JOIN.true c.put_atom-next.ensures
    c.put_parts.ensures)
    (λ c κs.
    fits-join c.requires.1 c.if-count-eq0.false c.if-first-lt-JOIN.false c.put_byte-start.ensures)
    (λ c.
    omega (arith, first-there c.requires.1 c.if-count-eq0.false))
    (λ c.
    omega (arith, c.shared_slice_known-4-1.given c.args.k))
    (λ c.
    kind_fits c.requires.1 c.if-count-eq0.false c.if-first-lt-JOIN.false)
    (λ c κs. (
      omega (arith, first-there c.requires.1 c.if-count-eq0.false),
      inside-join c.requires.1 c.if-count-eq0.false c.if-first-lt-JOIN.false c.put_byte-start.ensures c.put_join-kids.ensures,
    ))
    (λ c κs.
    fits-end c.requires.1 c.if-count-eq0.false c.if-first-lt-JOIN.false c.put_byte-start.ensures c.put_join-kids.ensures c.put_parts-inner.ensures)
    (λ c.
    omega (arith, c.if-count-eq0.false))
    (λ c κs. (
      omega (
        arith,
        first-there c.requires.1 c.if-count-eq0.false,
        further c.requires.1 c.if-count-eq0.false c.if-first-lt-JOIN.false c.put_byte-start.ensures c.put_join-kids.ensures c.put_parts-inner.ensures,
      ),
      after-join c.requires.1 c.if-count-eq0.false c.if-first-lt-JOIN.false c.put_byte-start.ensures c.put_join-kids.ensures c.put_parts-inner.ensures
          c.put_byte-next.ensures,
    ))
    (λ c.
    c.put_parts-2.auto.text ∙ c.put_byte-next.auto.text ∙ c.put_parts-inner.auto.text ∙ c.put_join-kids.auto.text ∙ c.put_byte-start.auto.text)
    (λ c.
    parts_join _ _ _ _ _ _ _ _ c.if-count-eq0.false c.put_byte-start.ensures c.if-first-lt-JOIN.false c.put_join-kids.ensures c.put_parts-inner.ensures
    c.put_byte-next.ensures c.put_parts-2.ensures)
