-- Runs of bytes, one behind the other: a run fits if the place behind it is a number that the code can hold. Whether the text reaches so far is not
-- asked: `Wrote` says that what lies past its end is not stored.
use Rattle.std.specs.Prelude.{List, ◌++◌, ◌≡◌, refl, ℕ, ◌+◌, ◌<◌, length}
use Rattle.std.proofs.Common.{sym, ap, ◌∙◌, arith, length-append}
use Rattle.lines.specs.Written.{Wrote, wrote_as, wrote-both}

pub record Fits (at : ℕ) (bytes : List ℕ) : Type 0 where
  pub short : at + length bytes < 4294967296

-- Bytes in two runs, the second behind the first.
pub record Split (whole xs ys : List ℕ) : Type 0 where
  pub whole_is : xs ++ ys ≡ whole

pub two_runs : {xs ys : List ℕ} → Split (xs ++ ys) xs ys
two_runs = record { whole_is = refl }

-- Bytes that are known by another name.
pub fits-as : {at : ℕ} {xs ys : List ℕ} → xs ≡ ys → Fits at ys → Fits at xs
fits-as {at} {xs} {ys} e f = record { short = omega (arith, f.short, ap length e) }

module _ {whole xs ys : List ℕ} (split : Split whole xs ys) where
  lengths : length whole ≡ length xs + length ys
  lengths = ap length (sym split.whole_is) ∙ length-append xs ys

  -- Where both fit, the first does,
  pub fits-first : {at : ℕ} → Fits at whole → Fits at xs
  fits-first f = record { short = omega (arith, f.short, lengths) }

  -- and the second behind it.
  pub fits-second : {before after : List ℕ} {at next : ℕ} → Fits at whole → Wrote before after at xs next → Fits next ys
  fits-second f w = record { short = omega (arith, f.short, lengths, w.behind) }

  -- One written and then the other.
  pub wrote-split : {before between after : List ℕ} {at middle next : ℕ} → Wrote before between at xs middle → Wrote between after middle ys next
      → Wrote before after at whole next
  wrote-split a b = wrote_as (wrote-both a b) split.whole_is
