-- `put_declarations` meets its contract; it ends, since the count falls.
use mathlib.Core.Path.{refl, ◌∙◌}
use Prim.Native.Nat.{ℕ, ◌<◌}
use native.Mathlib.Omega.{arith}
use borrow.Fn.Kinds.{In}
use borrow.Fn.PlainCycle.{Measures, is, falls, and}
use Rattle.script_text.specs.Runs.{two_runs, fits-first, fits-second, wrote-split}
use Rattle.script_text.proofs.Texts.{declarations-none, declarations-more}
use Rattle.script_text.proofs.put_declarations.Reads as declarations
use Rattle.script_text.proofs.put_declarations.Kinds as declarations-kinds
use Rattle.script_text.proofs.+put_declarations.Lts-put_declarations as declarations-lts
use Rattle.script_text.proofs.runs.put_bytes.Reads as bytes-reads
use Rattle.script_text.proofs.runs.put_byte.Reads as byte-Reads
use Rattle.script_text.proofs.+put_declarations.{statement}
use Rattle.script_text.proofs.+put_declarations.Tie.{close}

abbrev μ-declarations : Measures 1 declarations-kinds.ps ℕ
μ-declarations κs a = a.1.1.1.0

abbrev declarations-at : ℕ → In 1 declarations-kinds.ps
declarations-at t = and 1 declarations-kinds.ps (is 1 declarations-kinds.ps μ-declarations t) declarations.Pre

abbrev declarations-below : ℕ → In 1 declarations-kinds.ps
declarations-below t = and 1 declarations-kinds.ps (falls 1 declarations-kinds.ps ◌<◌ μ-declarations t) declarations.Pre

pub +put_declarations_spec : {M : Type 1} → statement M
+put_declarations_spec =
    close μ-declarations λ t.
    declarations-lts.spec (bytes-reads.Asked, bytes-reads.Learnt, byte-Reads.Asked, byte-Reads.Learnt, declarations-below t, declarations.Post)
    (declarations-at t) declarations.Post
    (λ c. declarations-none _ _ c.if-count-eq0.true)
    (λ c κs. fits-first (declarations-more _ _ c.if-count-eq0.false) c.requires.1.1)
    (λ c. record { fits = omega (arith, c.requires.1.0) })
    (λ c κs.
    fits-first two_runs (fits-second (declarations-more _ _ c.if-count-eq0.false) c.requires.1.1 c.put_bytes-letter.ensures))
    (λ c κs.
    fits-first two_runs (fits-second two_runs
    (fits-second (declarations-more _ _ c.if-count-eq0.false) c.requires.1.1 c.put_bytes-letter.ensures) c.put_byte-rest.ensures))
    (λ c.
    record { fits = omega (arith, c.requires.1.0) })
    (λ c.
    omega (arith, c.if-count-eq0.false))
    (λ c κs. (
      omega (arith, c.if-count-eq0.false),
      (
        omega (arith, c.requires.1.0, c.if-count-eq0.false),
        fits-second two_runs (fits-second two_runs
            (fits-second (declarations-more _ _ c.if-count-eq0.false) c.requires.1.1 c.put_bytes-letter.ensures) c.put_byte-rest.ensures)
            c.put_bytes-next.ensures,
      ),
    ))
    (λ c.
    c.put_declarations.auto.text ∙ c.put_bytes-next.auto.text ∙ c.put_byte-rest.auto.text ∙ c.put_bytes-letter.auto.text)
    (λ c.
    wrote-split (declarations-more _ _ c.if-count-eq0.false) c.put_bytes-letter.ensures
    (wrote-split two_runs c.put_byte-rest.ensures (wrote-split two_runs c.put_bytes-next.ensures c.put_declarations.ensures)))
