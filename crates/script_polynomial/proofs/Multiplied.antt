-- Products: a number and then its factors; stored as a term.
use Rattle.std.specs.Prelude.{Result, Ok, Err}
use mathlib.Core.List.{List, [], ◌∷◌}
use mathlib.Core.Path.{◌≡◌, refl, ap}
use Prim.Native.Nat.{ℕ, ◌+◌, ◌-◌, ◌≤◌, ◌<◌}
use lib.IntN.{ℤ}
use lib.ListN.{drop, set}
use Rattle.rules.specs.Polynomial.{Term}
use Rattle.rules.specs.Reader.{Reader}
use Rattle.rules.specs.Reading.{number_or, letters, after_factor, product}
use Rattle.script_laws.specs.Steps.{read_part}
use Rattle.script_polynomial.specs.At.{read_at, then-stops, then-on, stops_as, reaches-as}
use Rattle.script_polynomial.specs.Agreement.{common, run-stops, run_on}
use Rattle.script_polynomial.specs.Found.{NumberFound, ValueFound}
use Rattle.script_polynomial.specs.Terms.{factors_of, ProductOf, ProductFound, product_term, TermOf, TermFound}
use Rattle.script_polynomial.specs.declared.Read.{Read}
use Rattle.script_polynomial.specs.declared.Stop.{Stop}
use Rattle.script_polynomial.specs.declared.products.Product.{Product}
use Rattle.script_polynomial.proofs.Signed.{number-stopped, number_read, value-stopped, value_read}

-- ---- The factors behind a number.

module _ (text : List ℕ) (at n limit : ℕ) (c : ℤ) where
  pub with-stopped : {stop : Stop} → NumberFound text at (letters n limit (after_factor n limit limit) (n - 1) 0) (λ m. m ≤ limit) (Err stop)
      → ProductFound text at (factors_of n limit c) limit (Err stop)
  unfolding ProductOf
  with-stopped h = record { is_found = then-stops _ (number-stopped h) }

  pub with_read : {number : Read ℕ} → NumberFound text at (letters n limit (after_factor n limit limit) (n - 1) 0) (λ m. m ≤ limit) (Ok number)
      → {c' : ℤ} → c' ≡ c
      → ProductFound text at (factors_of n limit c) limit (Ok (record { coefficient = c'; monomial = number.value; behind = number.behind }))
  unfolding ProductOf read_part
  with_read h same =
      let found = number_read h in
      rw same (record { is_found = (record { reading = then-on _ found.0; inside = found.0.inside }, found.1) })

-- ---- The number.

product-as : {text : List ℕ} {at at' : ℕ} {r r' : Reader Term} {limit : ℕ} (found : Result Product Stop) → read_at text at r ≡ read_at text at' r'
    → ProductFound text at' r' limit found → ProductFound text at r limit found
unfolding ProductOf
product-as (Err stopped) same h = record { is_found = stops_as same h.is_found }
product-as (Ok one) same h = record { is_found = (reaches-as same h.is_found.0, h.is_found.1) }

module _ (text : List ℕ) (at n limit : ℕ) where
  pub product-stopped : {stop : Stop} → ValueFound text at (number_or 32 (λ c. c) []) (Err stop)
      → ProductFound text at (product n limit) limit (Err stop)
  unfolding ProductOf product
  product-stopped h = record { is_found = then-stops _ (value-stopped h) }

  pub product-read : {number : Read ℤ} → ValueFound text at (number_or 32 (λ c. c) []) (Ok number) → {c' : ℤ} {found : Result Product Stop}
      → c' ≡ number.value → ProductFound text number.behind (factors_of n limit c') limit found
      → ProductFound text at (product n limit) limit found
  unfolding product
  product-read h {found = found} same rest = product-as found (then-on (factors_of n limit) (value_read h)) (rw same at rest)

-- ---- A term.

module _ (text : List ℕ) (at n limit : ℕ) {start : ℕ} (told : start ≡ at + common (40 ∷ 42 ∷ 32 ∷ []) (drop at text)) where
  pub term-unsaid : start - at < 3 → {place : ℕ} {cs : List ℤ} {ms : List ℕ} → TermFound text at (product_term n limit) place cs cs ms ms
      (Err (record { at = start }))
  unfolding TermOf
  term-unsaid short = record { is_found = run-stops (product n limit) text at (40 ∷ 42 ∷ 32 ∷ []) told short }

  module _ (long : 3 ≤ start - at) where
    said : read_at text at (product_term n limit) ≡ read_at text start (product n limit)
    said = run_on (product n limit) text at (40 ∷ 42 ∷ 32 ∷ []) told long

    pub term-stopped : {stop : Stop} → ProductFound text start (product n limit) limit (Err stop) → {place : ℕ} {cs : List ℤ} {ms : List ℕ}
        → TermFound text at (product_term n limit) place cs cs ms ms (Err stop)
    unfolding TermOf ProductOf
    term-stopped h = record { is_found = stops_as said h.is_found }

    pub term-read : {found : Product} → ProductFound text start (product n limit) limit (Ok found) → {c' : ℤ} → c' ≡ found.coefficient
        → {place : ℕ} {cs : List ℤ} {ms : List ℕ}
        → TermFound text at (product_term n limit) place cs (set cs place c') ms (set ms place found.monomial)
        (Ok (record { value = found.monomial; behind = found.behind }))
    unfolding TermOf ProductOf
    term-read {found} h same {place} {cs} = record {
      is_found = record {
        term = record { coefficient = found.coefficient; monomial = found.monomial };
        reaches = reaches-as said h.is_found.0;
        powers = refl;
        coefficient = ap (set cs place) same;
        monomial = refl;
      };
    }
