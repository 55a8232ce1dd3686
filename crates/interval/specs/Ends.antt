-- The ends and intervals of the code, as the book has them.
-- The code keeps a fraction -a/b as the two coefficients, b of either sign; the book keeps it over a denominator above 0.
use Rattle.std.specs.Prelude.{◌≡◌, Bool, true, false, zero, suc, ℤ, pos, negsuc, neg_ℤ}
use Rattle.rules.specs.Deduce.{Fraction, End, free, at, Interval, end_at_most}
use Rattle.deduction_laws.specs.Vanishing.{Vanishing}
use Rattle.interval.specs.declared.interval.End.{End as Kept}
use Rattle.interval.specs.declared.interval.Interval.{Interval as KeptInterval}
use Rattle.interval.specs.declared.vanishing.Vanishing.{Vanishing as KeptVanishing}

-- the fraction -a/b
abbrev pub end_at : ℤ → ℤ → End
end_at a (pos zero) = free
end_at a (pos (suc b)) = at (record { numerator = neg_ℤ a; less = b })
end_at a (negsuc b) = at (record { numerator = a; less = b })

abbrev pub end_of : Kept → End
end_of e = end_at e.a e.b

-- an end that is there
pub record There (e : Kept) : Type 0 where
  pub fraction : Fraction
  pub is : end_of e ≡ at fraction

-- one that is 0
pub record Zero (e : Kept) : Type 0 where
  pub there : There e
  pub nought : there.fraction.numerator ≡ pos 0

abbrev pub interval_of : KeptInterval → Interval
interval_of r = record { low = end_of r.low; high = end_of r.high; void = r.void }

abbrev pub vanishing_of : KeptVanishing → Vanishing
vanishing_of v = record { a = v.a; b = v.b; never = v.never }

-- the higher of two ends, and the lower; of equal ones the second
abbrev pub one_of : Bool → End → End → End
one_of true x y = x
one_of false x y = y

unfoldable pub higher_end : End → End → End
higher_end e t = one_of (end_at_most e t) t e

unfoldable pub lower_end : End → End → End
lower_end e t = one_of (end_at_most t e) t e
