-- `read_digits` meets its contract; it ends, since fewer digits may come.
use mathlib.Core.Path.{sym, ◌∙◌}
use Prim.Native.Nat.{ℕ, ◌+◌, ◌-◌, ◌*◌, ◌<◌, ◌≤◌}
use native.Mathlib.Omega.{arith}
use lib.ListN.{length}
use borrow.Fn.Kinds.{In}
use borrow.Fn.PlainCycle.{Measures, is, falls, and}
use Rattle.script_polynomial.specs.At.{byte_inside}
use Rattle.script_polynomial.proofs.Digits.{may-digit, digits-end, digits-spent, digits-stop, digits-on}
use Rattle.script_polynomial.proofs.numbers.read_digits.Reads as read-digits
use Rattle.script_polynomial.proofs.numbers.read_digits.Kinds as read-digits-kinds
use Rattle.script_polynomial.proofs.numbers.+read_digits.Lts-read_digits as read-digits-lts
use Rattle.script_polynomial.proofs.bytes.byte_at.Reads as byte-at-reads
use Rattle.script_polynomial.proofs.numbers.digit_may.Reads as digit-may-reads
use Rattle.script_polynomial.proofs.numbers.+read_digits.{statement}
use Rattle.script_polynomial.proofs.numbers.+read_digits.Tie.{close}

abbrev μ-read-digits : Measures 1 read-digits-kinds.ps ℕ
μ-read-digits κs a = a.1.1.0

abbrev read-digits-at : ℕ → In 1 read-digits-kinds.ps
read-digits-at t =
    and 1 read-digits-kinds.ps (is 1 read-digits-kinds.ps μ-read-digits t) read-digits.Pre

abbrev read-digits-below : ℕ → In 1 read-digits-kinds.ps
read-digits-below t =
    and 1 read-digits-kinds.ps (falls 1 read-digits-kinds.ps ◌<◌ μ-read-digits t) read-digits.Pre

module _ (t : ℕ) (c : read-digits-lts.Else-not-digit_may
    (byte-at-reads.Asked, byte-at-reads.Learnt, digit-may-reads.Asked, digit-may-reads.Learnt, read-digits-below t, read-digits.Post)
    (read-digits-at t) read-digits.Post) where
  abbrev byte : ℕ
  byte = c.byte_at-byte.result

  digit : (48 ≤ byte) × (byte ≤ 57) × (10 * c.args.x + (byte - 48) ≤ 2147483647)
  digit = may-digit _ byte (sym c.digit_may.ensures ∙ c.if-not-digit_may.false)

  here : let s = c in s.args.at < length s.args.text.now
  here = let s = c in
      byte_inside s.args.text.now s.args.at (omega (arith, c.byte_at-byte.ensures, digit.0))

pub +read_digits_spec : {M : Type 1} → statement M
+read_digits_spec = close μ-read-digits λ t. read-digits-lts.spec
    (byte-at-reads.Asked, byte-at-reads.Learnt, digit-may-reads.Asked, digit-may-reads.Learnt, read-digits-below t, read-digits.Post)
    (read-digits-at t) read-digits.Post
    (λ c κs. tt)
    (λ c. omega (arith, byte_inside c.args.text.now c.args.at (omega (arith, c.byte_at-byte.ensures, c.if-byte-last.true, c.requires.1.1))))
    (λ c. digits-end _ _ _ _ _ c.byte_at-byte.ensures c.requires.1.1 c.if-byte-last.true c.requires.1.2)
    (λ c. digits-spent _ _ _ _ c.byte_at-byte.ensures c.if-byte-last.false _ c.if-most-eq0.true)
    (λ c κs. c.requires.1.2.at-most)
    (λ c.
    digits-stop _ _ _ _ c.byte_at-byte.ensures c.if-byte-last.false _ c.if-most-eq0.false c.digit_may.ensures
    c.if-not-digit_may.true)
    (λ c. omega (arith, here t c))
    (λ c. omega (arith, c.if-most-eq0.false))
    (λ c. omega (arith, c.requires.1.2.at-most))
    (λ c. omega (arith, (digit t c).0))
    (λ c. omega (arith, (digit t c).1))
    (λ c. omega (arith, (digit t c).2))
    (λ c κs. (
      omega (arith, c.if-most-eq0.false, c.requires.0),
      (
        omega (arith, here t c),
        c.requires.1.1,
        record { not_zero = omega (arith, c.requires.1.2.not_zero); at-most = (digit t c).2 },
      ),
    ))
    (λ c.
    digits-on _ _ _ _ c.byte_at-byte.ensures c.if-byte-last.false _ c.if-most-eq0.false
    c.digit_may.ensures
    c.if-not-digit_may.false c.read_digits.ensures)
