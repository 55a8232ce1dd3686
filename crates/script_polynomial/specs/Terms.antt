-- What the functions that read products, terms and polynomials say; terms are stored from a place of two arrays on.
use Rattle.std.specs.Prelude.{Bool, ◌&&◌, List, [], ◌∷◌, map, ◌≡◌, ℕ, suc, ◌+◌, ◌-◌, ◌≤◌, ◌<◌, eqb, ℤ, length, get_or, set, Result, Ok, Err}
use Rattle.std.proofs.lemmas.List.Edits.{sets}
use Rattle.rules.specs.Polynomial.{Term, Polynomial}
use Rattle.rules.specs.Reader.{Reader, give}
use Rattle.rules.specs.Combine.{say, ◌then◌}
use Rattle.rules.specs.Text.{bytes}
use Rattle.rules.specs.Reading.{number_or, letters, after_factor, product, constant_of, next_term, other_terms, beyond}
use Rattle.script_polynomial.specs.At.{read_at, Stops, Reaches}
use Rattle.script_polynomial.specs.declared.Read.{Read}
use Rattle.script_polynomial.specs.declared.Stop.{Stop}
use Rattle.script_polynomial.specs.declared.products.Product.{Product}
use Rattle.script_polynomial.specs.declared.sums.Step.{Step}
use Rattle.script_polynomial.specs.declared.sums.Step.TheVariants.{Last, More}

-- ---- Products.

-- The factors behind a number that was read.
abbrev pub factors_of : ℕ → ℕ → ℤ → Reader Term
factors_of n limit c = letters n limit (after_factor n limit limit) (n - 1) 0 then λ m. give (record { coefficient = c; monomial = m })

unfoldable pub ProductOf : List ℕ → ℕ → Reader Term → ℕ → Result Product Stop → Type 0
ProductOf text at r limit (Err stop) = Stops text at r stop.at
ProductOf text at r limit (Ok product) =
    Reaches text at r (record { coefficient = product.coefficient; monomial = product.monomial }) product.behind × (product.monomial ≤ limit)

pub record ProductFound (text : List ℕ) (at : ℕ) (r : Reader Term) (limit : ℕ) (found : Result Product Stop) : Type 0 where
  pub is_found : ProductOf text at r limit found

-- ---- Readers by their beginnings: a product with its parenthesis; a number as a term; a product alone; a sum, by its first term and the others.

abbrev pub product_term : ℕ → ℕ → Reader Term
product_term n limit = say (bytes "(* ") (product n limit)

abbrev pub constant_term : ℕ → Reader Polynomial
constant_term last = number_or last (λ c. c) [] then λ c. give (constant_of c)

abbrev pub alone_term : ℕ → Reader Polynomial
alone_term n = product_term n (beyond n - 1) then λ t. say (bytes " ") (give (t ∷ []))

abbrev pub others_of : ℕ → Term → Reader Polynomial
others_of n t = say (bytes " ") (next_term n t.monomial (other_terms n 14) then λ ts. say (bytes " ") (give (t ∷ ts)))

abbrev pub sum_of_terms : ℕ → Reader Polynomial
sum_of_terms n = say (bytes "(+ ") (product_term n (beyond n - 1) then λ t. others_of n t)

-- A parenthesis stands there, and this byte behind it.
abbrev pub opens_with : List ℕ → ℕ → ℕ → Bool
opens_with text at byte = eqb (get_or text at 0) 40 && eqb (get_or text (at + 1) 0) byte

-- ---- Stored terms.

-- The arrays have so many places from a place on.
pub record Room (cs : List ℤ) (ms : List ℕ) (place count : ℕ) : Type 0 where
  pub coefficients : place + count ≤ length cs
  pub monomials : place + count ≤ length ms

-- A term was read and stored at a place,
pub record TermRead (text : List ℕ) (at : ℕ) (r : Reader Term) (place : ℕ) (cs cs' : List ℤ) (ms ms' : List ℕ) (value behind : ℕ) : Type 0 where
  pub term : Term
  pub reaches : Reaches text at r term behind
  pub powers : term.monomial ≡ value
  pub coefficient : cs' ≡ set cs place term.coefficient
  pub monomial : ms' ≡ set ms place term.monomial

unfoldable pub TermOf : List ℕ → ℕ → Reader Term → ℕ → List ℤ → List ℤ → List ℕ → List ℕ → Result (Read ℕ) Stop → Type 0
TermOf text at r place cs cs' ms ms' (Err stop) = Stops text at r stop.at
TermOf text at r place cs cs' ms ms' (Ok term) = TermRead text at r place cs cs' ms ms' term.value term.behind

pub record TermFound (text : List ℕ) (at : ℕ) (r : Reader Term) (place : ℕ) (cs cs' : List ℤ) (ms ms' : List ℕ) (found : Result (Read ℕ) Stop) : Type 0 where
  pub is_found : TermOf text at r place cs cs' ms ms' found

-- or several from a place on.
pub record SumRead (text : List ℕ) (at : ℕ) (r : Reader Polynomial) (place : ℕ) (cs cs' : List ℤ) (ms ms' : List ℕ) (count behind : ℕ) : Type 0 where
  pub terms : Polynomial
  pub reaches : Reaches text at r terms behind
  pub counted : length terms ≡ count
  pub room : Room cs ms place count
  pub coefficient : cs' ≡ sets cs place (map (λ t. t.coefficient) terms)
  pub monomial : ms' ≡ sets ms place (map (λ t. t.monomial) terms)

unfoldable pub SumOf : List ℕ → ℕ → Reader Polynomial → ℕ → List ℤ → List ℤ → List ℕ → List ℕ → Result (Read ℕ) Stop → Type 0
SumOf text at r place cs cs' ms ms' (Err stop) = Stops text at r stop.at
SumOf text at r place cs cs' ms ms' (Ok sum) = SumRead text at r place cs cs' ms ms' sum.value sum.behind

pub record SumFound (text : List ℕ) (at : ℕ) (r : Reader Polynomial) (place : ℕ) (cs cs' : List ℤ) (ms ms' : List ℕ) (found : Result (Read ℕ) Stop) : Type 0 where
  pub is_found : SumOf text at r place cs cs' ms ms' found

-- A number was read as a term and stored.
unfoldable pub ConstantOf : List ℕ → ℕ → ℕ → ℕ → List ℤ → List ℤ → List ℕ → List ℕ → Result ℕ Stop → Type 0
ConstantOf text at last place cs cs' ms ms' (Err stop) = Stops text at (constant_term last) stop.at
ConstantOf text at last place cs cs' ms ms' (Ok behind) = SumRead text at (constant_term last) place cs cs' ms ms' 1 behind

pub record ConstantFound (text : List ℕ) (at last place : ℕ) (cs cs' : List ℤ) (ms ms' : List ℕ) (found : Result ℕ Stop) : Type 0 where
  pub is_found : ConstantOf text at last place cs cs' ms ms' found

-- ---- The terms of a sum behind its first one.

-- Behind a term: the end, or the next term below its monomial.
pub record NextTerm (text : List ℕ) (at n most above below behind : ℕ) : Type 0 where
  pub same : below ≡ above
  pub some : 0 < most
  pub inside : behind ≤ length text
  pub reading : read_at text at (other_terms n most above) ≡ read_at text behind (next_term n above (other_terms n (most - 1)))

unfoldable pub AfterOf : List ℕ → ℕ → ℕ → ℕ → ℕ → Result Step Stop → Type 0
AfterOf text at n most above (Err stop) = Stops text at (other_terms n most above) stop.at
AfterOf text at n most above (Ok (Last behind)) = Reaches text at (other_terms n most above) [] behind
AfterOf text at n most above (Ok (More below behind)) = NextTerm text at n most above below behind

pub record AfterFound (text : List ℕ) (at n most above : ℕ) (found : Result Step Stop) : Type 0 where
  pub is_found : AfterOf text at n most above found

-- A term was read and stored, and another is to come.
pub record Further (text : List ℕ) (at n most above place : ℕ) (cs cs' : List ℤ) (ms ms' : List ℕ) (below behind : ℕ) : Type 0 where
  pub term : Term
  pub powers : term.monomial ≡ below
  pub some : 0 < most
  pub inside : behind ≤ length text
  pub reading : read_at text at (next_term n above (other_terms n most))
      ≡ read_at text behind (next_term n below (other_terms n (most - 1)) then λ ts. give (term ∷ ts))
  pub coefficient : cs' ≡ set cs place term.coefficient
  pub monomial : ms' ≡ set ms place term.monomial

unfoldable pub StepOf : List ℕ → ℕ → ℕ → ℕ → ℕ → ℕ → List ℤ → List ℤ → List ℕ → List ℕ → Result Step Stop → Type 0
StepOf text at n most above place cs cs' ms ms' (Err stop) = Stops text at (next_term n above (other_terms n most)) stop.at
StepOf text at n most above place cs cs' ms ms' (Ok (Last behind)) = SumRead text at (next_term n above (other_terms n most)) place cs cs' ms ms' 1 behind
StepOf text at n most above place cs cs' ms ms' (Ok (More below behind)) = Further text at n most above place cs cs' ms ms' below behind

pub record StepFound (text : List ℕ) (at n most above place : ℕ) (cs cs' : List ℤ) (ms ms' : List ℕ) (found : Result Step Stop) : Type 0 where
  pub is_found : StepOf text at n most above place cs cs' ms ms' found

-- ---- The space behind a polynomial, and the terms behind the first of a sum.

unfoldable pub SpaceOf : List ℕ → ℕ → ℕ → Result (Read ℕ) Stop → Type 0
SpaceOf text at count (Err stop) = (stop.at ≡ at) × (get_or text at 0 ≡ 32 → ⊥)
SpaceOf text at count (Ok sum) = (sum.value ≡ count) × (sum.behind ≡ at + 1) × (get_or text at 0 ≡ 32)

pub record SpaceFound (text : List ℕ) (at count : ℕ) (found : Result (Read ℕ) Stop) : Type 0 where
  pub is_found : SpaceOf text at count found

pub record OthersRead (text : List ℕ) (at n above : ℕ) (cs cs' : List ℤ) (ms ms' : List ℕ) (count behind : ℕ) : Type 0 where
  pub terms : Polynomial
  pub reaches : (t : Term) → t.monomial ≡ above → Reaches text at (others_of n t) (t ∷ terms) behind
  pub counted : suc (length terms) ≡ count
  pub room : Room cs ms 0 count
  pub coefficient : cs' ≡ sets cs 1 (map (λ t. t.coefficient) terms)
  pub monomial : ms' ≡ sets ms 1 (map (λ t. t.monomial) terms)

unfoldable pub OthersIn : List ℕ → ℕ → ℕ → ℕ → List ℤ → List ℤ → List ℕ → List ℕ → Result (Read ℕ) Stop → Type 0
OthersIn text at n above cs cs' ms ms' (Err stop) = (t : Term) → t.monomial ≡ above → Stops text at (others_of n t) stop.at
OthersIn text at n above cs cs' ms ms' (Ok sum) = OthersRead text at n above cs cs' ms ms' sum.value sum.behind

pub record OthersFound (text : List ℕ) (at n above : ℕ) (cs cs' : List ℤ) (ms ms' : List ℕ) (found : Result (Read ℕ) Stop) : Type 0 where
  pub is_found : OthersIn text at n above cs cs' ms ms' found
