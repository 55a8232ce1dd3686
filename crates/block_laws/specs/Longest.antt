-- The longest block of each edition is reached: 64 polynomials of 16 terms over 16 variables, every exponent above 0, and an AND of 254 atoms.
use Rattle.std.specs.Prelude.{[], ◌∷◌, ◌≡◌, refl, ℕ, zero, suc, ◌+◌, ◌*◌, ◌≤◌, ◌<◌, pos, length, replicate}
use Rattle.std.proofs.Common.{arith, lit<, lit≤, length-append}
use Rattle.std.proofs.lemmas.List.{length-replicate}
use Rattle.rules.specs.Signs.{open_signs}
use Rattle.rules.specs.Polynomial.{Term, Polynomial, open_polynomial}
use Rattle.rules.specs.Formula.{Parts, end, atom, all_of, nodes, atoms, open_formula}
use Rattle.rules.specs.Bits.{bytes_for, open_bits}
use Rattle.rules.specs.Pairs.{open_pairs}
use Rattle.rules.specs.Block.{NumberedAtom, Block, Edition, edition1, edition2, write_table, block_length, open_block}
use Rattle.rules.specs.Limits.{TermWithin, no_terms, terms, PolynomialWithin, TableWithin, no_polynomials, polynomials, PartsWithin}
use Rattle.rules.specs.Limits.{BlockWithin}
use Rattle.block_laws.specs.Sizes.{polynomial_bits, most_bits, length-body, longest}

abbrev one : ℕ → Term
one m = record { coefficient = pos 1; monomial = m }

-- Sixteen terms whose exponents are all above 0.
unfoldable pub full_polynomial : Polynomial
full_polynomial =
    one 0x222222222222222f ∷ one 0x222222222222222e ∷ one 0x222222222222222d ∷ one 0x222222222222222c ∷
    one 0x222222222222222b ∷ one 0x222222222222222a ∷ one 0x2222222222222229 ∷ one 0x2222222222222228 ∷
    one 0x2222222222222227 ∷ one 0x2222222222222226 ∷ one 0x2222222222222225 ∷ one 0x2222222222222224 ∷
    one 0x2222222222222223 ∷ one 0x2222222222222222 ∷ one 0x2222222222222221 ∷ one 0x1111111111111111 ∷ []

unfoldable pub many_atoms : ℕ → Parts NumberedAtom
many_atoms zero = end
many_atoms (suc k) = atom (record { number = 0; set = 1 }) (many_atoms k)

unfoldable pub full_block : Block
full_block = record { variables = 16; table = replicate 64 full_polynomial; tree = all_of (many_atoms 254) }

-- ---- It is within the limits.

one-within : (above m : ℕ) → m < above → TermWithin above (one m)
one-within above m falls = record { not_zero = lit< tt; magnitude = lit< tt; falls = falls }

polynomial-within : PolynomialWithin 16 full_polynomial
unfolding full_polynomial
polynomial-within = record {
  not_none = lit< tt;
  at-most = lit≤ tt;
  each =
      (terms (one-within _ 0x222222222222222f (lit< tt))
      (terms (one-within _ 0x222222222222222e (lit< tt))
      (terms (one-within _ 0x222222222222222d (lit< tt))
      (terms (one-within _ 0x222222222222222c (lit< tt))
      (terms (one-within _ 0x222222222222222b (lit< tt))
      (terms (one-within _ 0x222222222222222a (lit< tt))
      (terms (one-within _ 0x2222222222222229 (lit< tt))
      (terms (one-within _ 0x2222222222222228 (lit< tt))
      (terms (one-within _ 0x2222222222222227 (lit< tt))
      (terms (one-within _ 0x2222222222222226 (lit< tt))
      (terms (one-within _ 0x2222222222222225 (lit< tt))
      (terms (one-within _ 0x2222222222222224 (lit< tt))
      (terms (one-within _ 0x2222222222222223 (lit< tt))
      (terms (one-within _ 0x2222222222222222 (lit< tt))
      (terms (one-within _ 0x2222222222222221 (lit< tt))
      (terms (one-within _ 0x1111111111111111 (lit< tt)) no_terms))))))))))))))));
}

copies-within : (k : ℕ) → TableWithin 16 (replicate k full_polynomial)
copies-within zero = no_polynomials
copies-within (suc k) = polynomials polynomial-within (copies-within k)

atoms-within : (d m parent k : ℕ) → 0 < m → PartsWithin d m parent (many_atoms k)
unfolding PartsWithin many_atoms
atoms-within d m parent zero some = tt
atoms-within d m parent (suc k) some = (some, lit< tt, atoms-within d m parent k some)

many-nodes : (k : ℕ) → nodes (many_atoms k) ≡ k
unfolding nodes many_atoms
many-nodes zero = refl
many-nodes (suc k) = omega (arith, many-nodes k)

many-atoms : (k : ℕ) → atoms (many_atoms k) ≡ k
unfolding atoms many_atoms
many-atoms zero = refl
many-atoms (suc k) = omega (arith, many-atoms k)

pub full-within : BlockWithin full_block
unfolding full_block open_formula PartsWithin
full-within = record {
  some_variables = lit< tt;
  variables = lit≤ tt;
  polynomials = rw length-replicate (lit≤ tt);
  nodes = omega (arith, many-nodes 254);
  table = copies-within 64;
  tree = (λ e. omega arith, lit< tt, atoms-within 5 (length (replicate 64 full_polynomial)) 1 254 (rw length-replicate (lit< tt)), tt);
}

-- ---- Its length.

full-bits : (edition : Edition) → polynomial_bits edition 16 full_polynomial ≡ 5 + 16 * most_bits edition
unfolding open_bits open_pairs open_block open_polynomial open_signs full_polynomial most_bits
full-bits edition1 = refl
full-bits edition2 = refl

copies-bits : (edition : Edition) (k : ℕ) → length (write_table edition 16 (replicate k full_polynomial)) ≡ k * (5 + 16 * most_bits edition)
unfolding write_table
copies-bits edition zero = omega arith
copies-bits edition (suc k) = rw (length-append, full-bits edition, copies-bits edition k) (omega arith)

-- The longest blocks: 12,684 bytes in edition 1, 21,516 in edition 2.
pub longest-reached : (edition : Edition) → block_length edition full_block ≡ longest edition
unfolding block_length bytes_for full_block open_formula longest most_bits
longest-reached edition1 = rw (length-body edition1 full_block) (omega (arith, copies-bits edition1 64, many-nodes 254, many-atoms 254))
longest-reached edition2 = rw (length-body edition2 full_block) (omega (arith, copies-bits edition2 64, many-nodes 254, many-atoms 254))
