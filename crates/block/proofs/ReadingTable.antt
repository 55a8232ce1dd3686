-- The steps that read a polynomial and the table: each does what the book does, by the fields that the code reads and the tests that it makes.
use mathlib.Core.Path.{◌≡◌, refl, sym, ap, ◌∙◌}
use mathlib.Core.List.{List, [], ◌∷◌}
use mathlib.Core.Bool.{◌&&◌}
use Prim.Native.Nat.{ℕ, zero, suc, ◌+◌, ◌-◌, ◌*◌, ◌^◌, ◌≤◌, ◌<◌}
use native.Mathlib.Numerals.{add-one}
use native.Mathlib.Omega.{arith}
use lib.IntN.{ℤ}
use lib.Dec.{leb, ltb}
use lib.ListN.{length, set}
use lib.Seq.{drop-drop}
use borrow.Author.Tests.{lt-ltb, le-leb, lt-leb}
use Rattle.std.specs.Prelude.{Result, Ok, Err}
use Rattle.block.specs.declared.Refusal.{Refusal}
use Rattle.block.specs.declared.Refusal.TheVariants.{EndsInsideField, TermCount}
use Rattle.rules.specs.Bits.{unpack}
use Rattle.rules.specs.Polynomial.{Polynomial}
use Rattle.rules.specs.Block.{Edition, Stream, Reading, read, require, afterwards, read_terms, read_polynomial, read_table}
use Rattle.block.specs.Held.{slots}
use Rattle.block.specs.Steps.{stream_at, Inside, Left, Reads, TermsStored, PolynomialStored, TableStored}
use Rattle.block.specs.declared.Place.{Place}
use Rattle.block.proofs.Steps.{field_at, further, refuses, reads, inside-after, same-reading, refuses-first, follows, stored-as, turned-into, both_read}
use Rattle.block.proofs.ReadingTerms.{length-terms}

-- ---- a polynomial

by_count : (edition : Edition) (n : ℕ) (bytes : List ℕ) (place : Place) {rest : ℕ} → Left bytes place rest → 5 ≤ rest → {count : ℕ} → count ≡ field_at bytes place.at 5
    → read_polynomial edition n (stream_at bytes place) ≡ require (ltb 0 count && leb count 16) 7 (read_terms edition count n (2 ^ (4 * n)) (stream_at bytes (further place 5)))
unfolding read_polynomial require
by_count edition n bytes place {rest} l long c = rw (← l.counted, le-leb 5 rest long, ← c, drop-drop 5 place.at (unpack bytes))

module _ (edition : Edition) (n : ℕ) {bytes : List ℕ} {place : Place} {rest : ℕ} (l : Left bytes place rest) where
  pub polynomial-short : rest < 5 → {i : ℕ} {cs : List ℤ} {ms counts : List ℕ}
      → Reads bytes (read_polynomial edition n (stream_at bytes place)) (PolynomialStored place i cs cs ms ms counts counts) (Err EndsInsideField)
  unfolding read_polynomial require
  polynomial-short h = refuses (rw (← l.counted, lt-leb 5 rest h))

  module _ (long : 5 ≤ rest) {count : ℕ} (c : count ≡ field_at bytes place.at 5) where
    pub no_terms : count ≡ 0 → {i : ℕ} {cs : List ℤ} {ms counts : List ℕ}
        → Reads bytes (read_polynomial edition n (stream_at bytes place)) (PolynomialStored place i cs cs ms ms counts counts) (Err TermCount)
    unfolding require
    no_terms z = refuses (by_count edition n bytes place l long c ∙ rw z)

    pub too-many-terms : 16 < count → {i : ℕ} {cs : List ℤ} {ms counts : List ℕ}
        → Reads bytes (read_polynomial edition n (stream_at bytes place)) (PolynomialStored place i cs cs ms ms counts counts) (Err TermCount)
    unfolding require
    too-many-terms h = let some : 0 < count = omega arith in refuses (by_count edition n bytes place l long c ∙ rw (lt-ltb 0 count some, lt-leb count 16 h))

    pub polynomial-read : (count ≡ 0 → ⊥) → count ≤ 16 → {i : ℕ} {cs cs₁ : List ℤ} {ms ms₁ counts : List ℕ} {step : Result Place Refusal}
        → Reads bytes (read_terms edition count n (2 ^ (4 * n)) (stream_at bytes (further place 5))) (TermsStored (further place 5) (16 * i) cs cs₁ ms ms₁) step
        → Reads bytes (read_polynomial edition n (stream_at bytes place)) (PolynomialStored place i cs cs₁ ms ms₁ counts (set counts i count)) step
    unfolding require
    polynomial-read some few {i} {cs} {cs₁} {ms} {ms₁} {counts} terms =
        let o : 0 < count = omega arith in
        same-reading (by_count edition n bytes place l long c ∙ rw (lt-ltb 0 count o, le-leb count 16 few))
        (stored-as terms (λ p after r s. record {
          stored = record { allows = s.allows; coefficient = s.coefficient; monomial = s.monomial };
          counted = ap (set counts i) (sym (length-terms edition count n (2 ^ (4 * n)) (stream_at bytes (further place 5)) p (stream_at bytes after) r));
        }))

-- ---- the table

abbrev rest_of_table : Edition → ℕ → ℕ → Polynomial → Stream → Reading (List Polynomial)
rest_of_table edition m n p s = afterwards (read_table edition m n s) (λ ps s₁. read (p ∷ ps) s₁)

table-next : (edition : Edition) (i m n : ℕ) (s : Stream) → i ≤ m → (i ≡ m → ⊥)
    → read_table edition (m - i) n s ≡ afterwards (read_polynomial edition n s) (rest_of_table edition (m - (i + 1)) n)
unfolding read_table
table-next edition i m n s l h = let e : m - i ≡ suc (m - (i + 1)) = omega arith in rw e

module _ (edition : Edition) (i m n : ℕ) {bytes : List ℕ} {place : Place} {cs : List ℤ} {ms counts : List ℕ} where
  table_done : Inside bytes place → i ≡ m → Reads bytes (read_table edition (m - i) n (stream_at bytes place)) (TableStored place i cs cs ms ms counts counts) (Ok place)
  unfolding read_table slots
  table_done inside e =
      let none : m - i ≡ 0 = omega arith in
      reads [] (rw none) inside (record { allows = refl; coefficient = refl; monomial = refl; counted = refl })

  module _ {cs₁ : List ℤ} {ms₁ counts₁ : List ℕ} {step : Result Place Refusal} (l : i ≤ m) (more : i ≡ m → ⊥)
      (first : Reads bytes (read_polynomial edition n (stream_at bytes place)) (PolynomialStored place i cs cs₁ ms ms₁ counts counts₁) step) where
    table-refused : {refusal : Refusal} → step ≡ Err refusal → {cs₂ : List ℤ} {ms₂ counts₂ : List ℕ}
        → Reads bytes (read_table edition (m - i) n (stream_at bytes place)) (TableStored place i cs cs₂ ms ms₂ counts counts₂) (Err refusal)
    table-refused e = same-reading (table-next edition i m n (stream_at bytes place) l more) (refuses-first (rest_of_table edition (m - (i + 1)) n) first e)

    table-read : {after : Place} {cs₂ : List ℤ} {ms₂ counts₂ : List ℕ} {next : Result Place Refusal} → step ≡ Ok after
        → Reads bytes (read_table edition (m - (i + 1)) n (stream_at bytes after)) (TableStored after (i + 1) cs₁ cs₂ ms₁ ms₂ counts₁ counts₂) next
        → Reads bytes (read_table edition (m - i) n (stream_at bytes place)) (TableStored place i cs cs₂ ms ms₂ counts counts₂) next
    unfolding slots
    table-read {after} e rest =
        same-reading (table-next edition i m n (stream_at bytes place) l more) (follows (rest_of_table edition (m - (i + 1)) n) first e
        (λ p s. turned-into (λ ps. p ∷ ps) rest (λ ps end g r. record {
          allows = r.allows ∙ s.stored.allows;
          coefficient = r.coefficient ∙ rw (add-one i, s.stored.coefficient);
          monomial = r.monomial ∙ rw (add-one i, s.stored.monomial);
          counted = r.counted ∙ rw (add-one i, s.counted);
        })))

-- What is left of the table after i polynomials: as the rest is read, so is the whole.
pub record TableLeft (edition : Edition) (bytes : List ℕ) (n m : ℕ) (start : Place) (cs₀ : List ℤ) (ms₀ counts₀ : List ℕ) (i : ℕ) (place : Place) (cs : List ℤ) (ms counts : List ℕ)
    : Type 0 where
  pub inside : Inside bytes place
  pub whole : {cs₂ : List ℤ} {ms₂ counts₂ : List ℕ} {step : Result Place Refusal}
      → Reads bytes (read_table edition (m - i) n (stream_at bytes place)) (TableStored place i cs cs₂ ms ms₂ counts counts₂) step
      → Reads bytes (read_table edition m n (stream_at bytes start)) (TableStored start 0 cs₀ cs₂ ms₀ ms₂ counts₀ counts₂) step

module _ (edition : Edition) {bytes : List ℕ} (n m : ℕ) {start : Place} {cs₀ : List ℤ} {ms₀ counts₀ : List ℕ} where
  pub table-begin : Inside bytes start → TableLeft edition bytes n m start cs₀ ms₀ counts₀ 0 start cs₀ ms₀ counts₀
  table-begin inside =
      let all : m - 0 ≡ m = omega arith in
      record { inside = inside; whole = λ {cs₂} {ms₂} {counts₂} {step} rest. rw all at rest }

  module _ {i : ℕ} {place : Place} {cs : List ℤ} {ms counts : List ℕ} (l : TableLeft edition bytes n m start cs₀ ms₀ counts₀ i place cs ms counts) where
    pub table-end : m ≤ i → i ≤ m → Reads bytes (read_table edition m n (stream_at bytes start)) (TableStored start 0 cs₀ cs ms₀ ms counts₀ counts) (Ok place)
    table-end over most = l.whole (table_done edition i m n l.inside (omega arith))

    module _ {cs₁ : List ℤ} {ms₁ counts₁ : List ℕ} {step : Result Place Refusal} (more : i < m)
        (one : Reads bytes (read_polynomial edition n (stream_at bytes place)) (PolynomialStored place i cs cs₁ ms ms₁ counts counts₁) step) where
      pub table-stop : {refusal : Refusal} → step ≡ Err refusal → {cs₂ : List ℤ} {ms₂ counts₂ : List ℕ}
          → Reads bytes (read_table edition m n (stream_at bytes start)) (TableStored start 0 cs₀ cs₂ ms₀ ms₂ counts₀ counts₂) (Err refusal)
      table-stop e = l.whole (table-refused edition i m n (omega arith) (λ same. omega arith) one e)

      pub table-go-on : {after : Place} → step ≡ Ok after → TableLeft edition bytes n m start cs₀ ms₀ counts₀ (i + 1) after cs₁ ms₁ counts₁
      table-go-on {after} e =
          record {
            inside = inside-after one e;
            whole = λ {cs₂} {ms₂} {counts₂} {step} rest. l.whole (table-read edition i m n (omega arith) (λ same. omega arith) one e rest);
          }

-- As many polynomials are read as were asked for.
pub length-table : (edition : Edition) (m n : ℕ) (s : Stream) (ps : List Polynomial) (s₁ : Stream) → read_table edition m n s ≡ read ps s₁ → length ps ≡ m
unfolding read_table
length-table edition zero n s ps s₁ h = let e : [] ≡ ps = cc h in rw (← e)
length-table edition (suc m) n s ps s₁ h =
    let one = both_read (read_polynomial edition n s) (rest_of_table edition m n) ps s₁ h in
    let others = both_read (read_table edition m n one.1) (λ qs s₂. read (one.0 ∷ qs) s₂) ps s₁ one.3 in
    let e : one.0 ∷ others.0 ≡ ps = cc others.3 in
    ap length (sym e) ∙ ap suc (length-table edition m n one.1 others.0 others.1 others.2)
