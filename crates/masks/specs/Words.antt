-- Words as sets of bits: the bits of one word are among those of another, which is all that masks are asked for.
-- A word may stand for anything here; that one monomial has one bit is no part of the laws.
use Rattle.std.specs.Prelude.{◌≡◌, refl, ℕ, zero, suc, ◌+◌, ◌*◌, ◌/◌, ◌%◌, ◌≤◌, ◌<◌, max}
use Rattle.std.proofs.Common.{sym, ap, ap₂, ◌∙◌, arith}
use Rattle.std.proofs.Math.Nat.{max-zero, zero-max, suc-max-suc, max-le}
use Rattle.std.proofs.Math.Arith.{bin_ind, digits_div, digits_mod}
use Rattle.std.specs.Int.Bits.{bit_or, or_step, or_self}
use Rattle.std.proofs.lemmas.Nat.{or_comm}

-- a bit of one of three words, either way bracketed
max-three : (a b c : ℕ) → max (max a b) c ≡ max a (max b c)
max-three zero b c = ap (λ (x : ℕ). max x c) (zero-max b) ∙ sym (zero-max (max b c))
max-three (suc a) zero c = ap (λ (x : ℕ). max x c) (max-zero (suc a)) ∙ ap (max (suc a)) (sym (zero-max c))
max-three (suc a) (suc b) zero = max-zero (max (suc a) (suc b)) ∙ ap (max (suc a)) (sym (max-zero (suc b)))
max-three (suc a) (suc b) (suc c) =
    ap (λ (x : ℕ). max x (suc c)) (suc-max-suc a b) ∙ suc-max-suc (max a b) c ∙ ap suc (max-three a b c)
    ∙ sym (suc-max-suc a (max b c)) ∙ ap (max (suc a)) (sym (suc-max-suc b c))

-- the last bit of two words together, and the others
last-below : (a b : ℕ) → max (a % 2) (b % 2) < 2
last-below a b = let h : max (a % 2) (b % 2) ≤ 1 = max-le (omega arith) (omega arith) in omega arith

or-half : (a b : ℕ) → bit_or a b / 2 ≡ bit_or (a / 2) (b / 2)
or-half a b = ap (λ (x : ℕ). x / 2) (or_step a b) ∙ digits_div (bit_or (a / 2) (b / 2)) (last-below a b)

or-last : (a b : ℕ) → bit_or a b % 2 ≡ max (a % 2) (b % 2)
or-last a b = ap (λ (x : ℕ). x % 2) (or_step a b) ∙ digits_mod (bit_or (a / 2) (b / 2)) (last-below a b)

-- the bits of three words, either way bracketed
pub or-three : (a b c : ℕ) → bit_or (bit_or a b) c ≡ bit_or a (bit_or b c)
or-three a = bin_ind (λ (n : ℕ). (b c : ℕ) → bit_or (bit_or n b) c ≡ bit_or n (bit_or b c)) (λ b c. refl)
    (λ n more b c. or_step (bit_or n b) c
    ∙ ap₂ (λ (x y : ℕ). bit_or x (c / 2) * 2 + max y (c % 2)) (or-half n b) (or-last n b)
    ∙ ap₂ (λ (x y : ℕ). x * 2 + y) (more (b / 2) (c / 2)) (max-three (n % 2) (b % 2) (c % 2))
    ∙ ap₂ (λ (x y : ℕ). bit_or (n / 2) x * 2 + max (n % 2) y) (sym (or-half b c)) (sym (or-last b c))
    ∙ sym (or_step n (bit_or b c))) a

-- the bits of the one word are among those of the other
infix 4 ◌Among◌
pub record ◌Among◌ (a b : ℕ) : Type 0 where
  pub is : bit_or a b ≡ b

pub none_among : (a : ℕ) → 0 Among a
none_among a = record { is = refl }

pub among-itself : (a : ℕ) → a Among a
among-itself a = record { is = or_self a }

pub among_first : {a b : ℕ} (c : ℕ) → a Among b → a Among bit_or b c
among_first {a} {b} c h = record { is = sym (or-three a b c) ∙ ap (λ (x : ℕ). bit_or x c) h.is }

pub among_second : {a c : ℕ} (b : ℕ) → a Among c → a Among bit_or b c
among_second {a} {c} b h = record {
  is = ap (bit_or a) (or_comm b c) ∙ (among_first b h).is ∙ or_comm c b;
}

-- the bits of two words are among those of a third, if those of each are
pub both-among : {a b c : ℕ} → a Among c → b Among c → bit_or a b Among c
both-among {a} {b} {c} h k = record { is = or-three a b c ∙ ap (bit_or a) k.is ∙ h.is }
