-- `put_digits` meets its contract; it ends, since the most digits get fewer.
use mathlib.Core.Path.{◌∙◌}
use Prim.Native.Nat.{ℕ, ◌<◌}
use native.Mathlib.Omega.{arith}
use borrow.Fn.Kinds.{In}
use borrow.Fn.PlainCycle.{Measures, is, falls, and}
use Rattle.lines.specs.Written.{wrote_as}
use Rattle.script_text.specs.Runs.{fits-as, fits-first, fits-second, wrote-split}
use Rattle.script_text.proofs.Texts.{digits-first, digits_low, digits-high}
use Rattle.script_text.proofs.runs.put_digits.Reads as digits
use Rattle.script_text.proofs.runs.put_digits.Kinds as digits-kinds
use Rattle.script_text.proofs.runs.+put_digits.Lts-put_digits as digits-lts
use Rattle.script_text.proofs.runs.put_digit.Reads as digit-reads
use Rattle.script_text.proofs.runs.+put_digits.{statement}
use Rattle.script_text.proofs.runs.+put_digits.Tie.{close}

abbrev μ-digits : Measures 1 digits-kinds.ps ℕ
μ-digits κs a = a.1.1.0

abbrev digits-at : ℕ → In 1 digits-kinds.ps
digits-at t = and 1 digits-kinds.ps (is 1 digits-kinds.ps μ-digits t) digits.Pre

abbrev digits-below : ℕ → In 1 digits-kinds.ps
digits-below t = and 1 digits-kinds.ps (falls 1 digits-kinds.ps ◌<◌ μ-digits t) digits.Pre

pub +put_digits_spec : {M : Type 1} → statement M
+put_digits_spec = close μ-digits λ t. digits-lts.spec (digit-reads.Asked, digit-reads.Learnt, digits-below t, digits.Post) (digits-at t) digits.Post
    (λ c κs. fits-as (digits-first _ _ c.if-most-eq0.true) c.requires.1)
    (λ c. c.put_digit.auto.text)
    (λ c. wrote_as c.put_digit.ensures (digits-first _ _ c.if-most-eq0.true))
    (λ c κs. fits-as (digits_low _ _ c.if-most-eq0.false c.if-x-lt10.true) c.requires.1)
    (λ c. c.put_digit-then-x-lt10.auto.text)
    (λ c.
    wrote_as c.put_digit-then-x-lt10.ensures (digits_low _ _ c.if-most-eq0.false c.if-x-lt10.true))
    (λ c. omega (arith, c.if-most-eq0.false))
    (λ c κs. (
      omega (arith, c.if-most-eq0.false),
      fits-first (digits-high _ _ c.if-most-eq0.false c.if-x-lt10.false) c.requires.1,
    ))
    (λ c κs.
    fits-second (digits-high _ _ c.if-most-eq0.false c.if-x-lt10.false) c.requires.1 c.put_digits-last.ensures)
    (λ c. c.put_digit-2.auto.text ∙ c.put_digits-last.auto.text)
    (λ c.
    wrote-split (digits-high _ _ c.if-most-eq0.false c.if-x-lt10.false) c.put_digits-last.ensures c.put_digit-2.ensures)
