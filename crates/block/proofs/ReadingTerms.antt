-- The steps that read a term and the terms of a polynomial: each does what the book does, by the fields that the code reads and the tests that it makes.
use mathlib.Core.Path.{◌≡◌, refl, sym, ap, ◌∙◌}
use mathlib.Core.Bool.{Bool, true, false, ◌||◌}
use mathlib.Core.List.{List, [], ◌∷◌}
use Prim.Native.Nat.{ℕ, zero, suc, ◌+◌, ◌-◌, ◌*◌, ◌/◌, ◌%◌, ◌^◌, ◌≤◌, ◌<◌}
use native.Mathlib.Numerals.{add-one}
use native.Mathlib.Omega.{arith}
use lib.Dec.{ltb}
use lib.IntN.{ℤ}
use lib.ListN.{length, drop, get_or, set}
use lib.Seq.{drop-drop, get_or-set_same}
use borrow.Author.Tests.{lt-ltb, le-leb, lt-leb}
use Rattle.std.specs.Prelude.{Result, Ok, Err}
use Rattle.block.specs.declared.Refusal.{Refusal}
use Rattle.block.specs.declared.Refusal.TheVariants.{EndsInsideField, MagnitudeZero, ExponentsNotFalling}
use Rattle.rules.specs.Bits.{unpack}
use Rattle.rules.specs.Polynomial.{Term, Polynomial}
use Rattle.rules.specs.Block.{Edition, edition1, Stream, Reading, read, require, afterwards, signed, first_bits, read_exponents, read_term, read_terms}
use Rattle.bits.proofs.Fields.{value-take-lt}
use Rattle.pairs.proofs.Reading.{first_part, last-part}
use Rattle.block.specs.Steps.{stream_at, Inside, Left, Reads, ceiling, FieldsAt, TermStored, TermsStored}
use Rattle.block.specs.declared.Fields.{Fields}
use Rattle.block.specs.declared.Place.{Place}
use Rattle.block.proofs.Steps.{field_at, further, refuses, reads, inside-after, same-reading, refuses-first, follows, turned-into, both_read}

-- ---- a term

module _ (bytes : List ℕ) (place : Place) (n above : ℕ) {rest : ℕ} (l : Left bytes place rest) (long : 32 + 4 * n ≤ rest) where
  by-fields : let magnitude = field_at bytes (place.at + 1) 31 in let exponents = field_at bytes (place.at + 32) (4 * n) in
      read_term edition1 n above (stream_at bytes place) ≡
      require (ltb 0 magnitude) 8
      (require (ltb exponents above) 9
      (read (record { coefficient = signed (field_at bytes place.at 1) magnitude; monomial = exponents }) (stream_at bytes (further place (32 + 4 * n)))))
  unfolding read_term first_bits read_exponents afterwards require
  by-fields =
      let u = unpack bytes in
      let e : place.at + 1 + 31 ≡ place.at + 32 = omega arith in
      let f : place.at + 32 + 4 * n ≡ place.at + (32 + 4 * n) = omega arith in
      rw (← l.counted, le-leb (32 + 4 * n) rest long, drop-drop 1 place.at u, drop-drop 31 (place.at + 1) u, e, drop-drop (4 * n) (place.at + 32) u, f)

-- The first 32 bits, read at once, are the minus bit and the magnitude.
module _ {bytes : List ℕ} {place : Place} {n rest : ℕ} {fields : Fields} (l : Left bytes place rest) (long : 32 + 4 * n ≤ rest)
    (f : FieldsAt bytes place.at n fields) where
  within : place.at + 32 ≤ 8 * length bytes
  within = omega (arith, l.up_to_end)

  pub minus-is : fields.word / 2147483648 ≡ field_at bytes place.at 1
  minus-is = first_part bytes place.at 1 31 within f.word

  pub magnitude-is : fields.word % 2147483648 ≡ field_at bytes (place.at + 1) 31
  magnitude-is = last-part bytes place.at 1 31 within f.word

-- The code's test that the exponents fall: those of a first term always do.
pub falls-is : (exponents n above : ℕ) (first : Bool) → exponents < 2 ^ (4 * n) → (first || ltb exponents above) ≡ ltb exponents (ceiling first n above)
unfolding ceiling
falls-is exponents n above true h = sym (lt-ltb exponents (2 ^ (4 * n)) h)
falls-is exponents n above false h = refl

module _ (bytes : List ℕ) (place : Place) (n above : ℕ) (first : Bool) {exponents : ℕ} (x : exponents ≡ field_at bytes (place.at + 32) (4 * n))
    {fall : Bool} (f : fall ≡ (first || ltb exponents above)) where
  same_test : ltb exponents (ceiling first n above) ≡ fall
  same_test =
      let small : exponents < 2 ^ (4 * n) = rw x (value-take-lt (4 * n) (drop (place.at + 32) (unpack bytes))) in
      sym (falls-is exponents n above first small) ∙ sym f

module _ (n above : ℕ) (first : Bool) {bytes : List ℕ} {place : Place} {rest : ℕ} (l : Left bytes place rest) where
  pub term-short : rest < 32 + 4 * n → {k : ℕ} {cs : List ℤ} {ms : List ℕ}
      → Reads bytes (read_term edition1 n (ceiling first n above) (stream_at bytes place)) (TermStored place k cs cs ms ms) (Err EndsInsideField)
  unfolding read_term first_bits require
  term-short h = refuses (rw (← l.counted, lt-leb (32 + 4 * n) rest h))

  module _ (long : 32 + 4 * n ≤ rest) {magnitude : ℕ} (m : magnitude ≡ field_at bytes (place.at + 1) 31) where
    pub term-nought : magnitude ≡ 0 → {k : ℕ} {cs : List ℤ} {ms : List ℕ}
        → Reads bytes (read_term edition1 n (ceiling first n above) (stream_at bytes place)) (TermStored place k cs cs ms ms) (Err MagnitudeZero)
    unfolding require
    term-nought z = refuses (by-fields bytes place n (ceiling first n above) l long ∙ rw (← m, z))

    module _ (some : magnitude ≡ 0 → ⊥) {exponents : ℕ} (x : exponents ≡ field_at bytes (place.at + 32) (4 * n)) where
      pub term-rising : false ≡ (first || ltb exponents above) → {k : ℕ} {cs : List ℤ} {ms : List ℕ}
          → Reads bytes (read_term edition1 n (ceiling first n above) (stream_at bytes place)) (TermStored place k cs cs ms ms) (Err ExponentsNotFalling)
      unfolding require
      term-rising h =
          let o : 0 < magnitude = omega arith in
          refuses (by-fields bytes place n (ceiling first n above) l long ∙ rw (
            ← m,
            lt-ltb 0 magnitude o,
            ← x,
            same_test bytes place n above first x h,
          ))

      pub term-read : true ≡ (first || ltb exponents above) → {minus : ℕ} → minus ≡ field_at bytes place.at 1 → {coefficient : ℤ} → coefficient ≡ signed minus magnitude
          → length bytes < 2 ^ 16
          → {k : ℕ} {cs : List ℤ} {ms : List ℕ} → Reads bytes (read_term edition1 n (ceiling first n above) (stream_at bytes place))
          (TermStored place k cs (set cs k coefficient) ms (set ms k exponents)) (Ok (further place (32 + 4 * n)))
      unfolding require
      term-read h {minus} s {coefficient} c short {k} {cs} =
          let o : 0 < magnitude = omega arith in
          reads (record { coefficient = signed minus magnitude; monomial = exponents })
          (by-fields bytes place n (ceiling first n above) l long
          ∙ rw (← m, lt-ltb 0 magnitude o, ← x, same_test bytes place n above first x h, ← s))
          (record { at_most = omega (arith, l.up_to_end); short = short }) (record { allows = refl; coefficient = ap (set cs k) c; monomial = refl })

-- ---- the terms of a polynomial

-- What the terms behind a first one are read by.
abbrev rest_of_terms : Edition → ℕ → ℕ → Term → Stream → Reading Polynomial
rest_of_terms edition count n t s = afterwards (read_terms edition count n t.monomial s) (λ ts s₁. read (t ∷ ts) s₁)

terms-next : (edition : Edition) (count n above : ℕ) (s : Stream) → (count ≡ 0 → ⊥) → read_terms edition count n above s
    ≡ afterwards (read_term edition n above s) (rest_of_terms edition (count - 1) n)
unfolding read_terms
terms-next edition zero n above s h = absurd (h refl)
terms-next edition (suc count) n above s h = let e : suc count - 1 ≡ count = omega arith in rw e

module _ (edition : Edition) (count n above : ℕ) {bytes : List ℕ} {place : Place} {k : ℕ} {cs : List ℤ} {ms : List ℕ} where
  terms-done : Inside bytes place → count ≡ 0 → Reads bytes (read_terms edition count n above (stream_at bytes place)) (TermsStored place k cs cs ms ms) (Ok place)
  unfolding read_terms
  terms-done inside z = reads [] (rw z) inside (record { allows = refl; coefficient = refl; monomial = refl })

  module _ {cs₁ : List ℤ} {ms₁ : List ℕ} {step : Result Place Refusal} (some : count ≡ 0 → ⊥)
      (first : Reads bytes (read_term edition n above (stream_at bytes place)) (TermStored place k cs cs₁ ms ms₁) step) where
    terms-refused : {refusal : Refusal} → step ≡ Err refusal → {cs₂ : List ℤ} {ms₂ : List ℕ}
        → Reads bytes (read_terms edition count n above (stream_at bytes place)) (TermsStored place k cs cs₂ ms ms₂) (Err refusal)
    terms-refused e = same-reading (terms-next edition count n above (stream_at bytes place) some) (refuses-first (rest_of_terms edition (count - 1) n) first e)

    terms-read : {after : Place} {exponents : ℕ} {cs₂ : List ℤ} {ms₂ : List ℕ} {next : Result Place Refusal} → step ≡ Ok after → k < length ms → exponents ≡ get_or ms₁ k 0
        → Reads bytes (read_terms edition (count - 1) n (ceiling false n exponents) (stream_at bytes after)) (TermsStored after (k + 1) cs₁ cs₂ ms₁ ms₂) next
        → Reads bytes (read_terms edition count n above (stream_at bytes place)) (TermsStored place k cs cs₂ ms ms₂) next
    unfolding ceiling
    terms-read {after} {exponents} {cs₂} {ms₂} {next} e h x rest =
        same-reading (terms-next edition count n above (stream_at bytes place) some) (follows (rest_of_terms edition (count - 1) n) first e others)
      where
        others : (t : Term) → TermStored place k cs cs₁ ms ms₁ t after
            → Reads bytes (rest_of_terms edition (count - 1) n t (stream_at bytes after)) (TermsStored place k cs cs₂ ms ms₂) next
        others t s =
            let top : exponents ≡ t.monomial = x ∙ ap (λ (l : List ℕ). get_or l k 0) s.monomial ∙ get_or-set_same ms k t.monomial 0 h in
            let more : Reads bytes (read_terms edition (count - 1) n t.monomial (stream_at bytes after)) (TermsStored after (k + 1) cs₁ cs₂ ms₁ ms₂)
            next = rw top at rest in
            turned-into (λ ts. t ∷ ts) more (λ ts end g l. record {
              allows = l.allows ∙ s.allows;
              coefficient = l.coefficient ∙ rw (add-one k, s.coefficient);
              monomial = l.monomial ∙ rw (add-one k, s.monomial);
            })

-- What is left of the terms after i of them: as the rest is read, so is the whole.
pub record TermsLeft (edition : Edition) (bytes : List ℕ) (n k count : ℕ) (start : Place) (cs₀ : List ℤ) (ms₀ : List ℕ) (i : ℕ) (place : Place) (first : Bool) (above : ℕ)
    (cs : List ℤ) (ms : List ℕ) : Type 0 where
  pub inside : Inside bytes place
  pub whole : {cs₂ : List ℤ} {ms₂ : List ℕ} {step : Result Place Refusal}
      → Reads bytes (read_terms edition (count - i) n (ceiling first n above) (stream_at bytes place)) (TermsStored place (k + i) cs cs₂ ms ms₂) step
      → Reads bytes (read_terms edition count n (2 ^ (4 * n)) (stream_at bytes start)) (TermsStored start k cs₀ cs₂ ms₀ ms₂) step

module _ (edition : Edition) {bytes : List ℕ} (n k count : ℕ) {start : Place} {cs₀ : List ℤ} {ms₀ : List ℕ} where
  pub terms-begin : Inside bytes start → TermsLeft edition bytes n k count start cs₀ ms₀ 0 start true 0 cs₀ ms₀
  unfolding ceiling
  terms-begin inside =
      let none : k + 0 ≡ k = omega arith in
      let all : count - 0 ≡ count = omega arith in
      record { inside = inside; whole = λ {cs₂} {ms₂} {step} rest. rw (all, none) at rest }

  module _ {i : ℕ} {place : Place} {first : Bool} {above : ℕ} {cs : List ℤ} {ms : List ℕ} (l : TermsLeft edition bytes n k count start cs₀ ms₀ i place first above cs ms)
    where
      pub terms-end : count ≤ i → Reads bytes (read_terms edition count n (2 ^ (4 * n)) (stream_at bytes start)) (TermsStored start k cs₀ cs ms₀ ms) (Ok place)
      terms-end h = l.whole (terms-done edition (count - i) n (ceiling first n above) l.inside (omega arith))

      module _ {cs₁ : List ℤ} {ms₁ : List ℕ} {step : Result Place Refusal} (more : i < count)
          (one : Reads bytes (read_term edition n (ceiling first n above) (stream_at bytes place)) (TermStored place (k + i) cs cs₁ ms ms₁) step) where
        pub terms-stop : {refusal : Refusal} → step ≡ Err refusal → {cs₂ : List ℤ} {ms₂ : List ℕ}
            → Reads bytes (read_terms edition count n (2 ^ (4 * n)) (stream_at bytes start)) (TermsStored start k cs₀ cs₂ ms₀ ms₂) (Err refusal)
        terms-stop e = l.whole (terms-refused edition (count - i) n (ceiling first n above) (omega arith) one e)

        pub terms-go-on : {after : Place} {exponents : ℕ} → step ≡ Ok after → k + i < length ms
            → exponents ≡ get_or ms₁ (k + i) 0 → TermsLeft edition bytes n k count start cs₀ ms₀ (i + 1) after false exponents cs₁ ms₁
        terms-go-on {after} {exponents} e h x =
            let fewer : count - (i + 1) ≡ count - i - 1 = omega arith in
            let next : k + (i + 1) ≡ k + i + 1 = omega arith in
            record {
              inside = inside-after one e;
              whole = λ {cs₂} {ms₂} {step} rest. l.whole (terms-read edition (count - i) n (ceiling first n above) (omega arith) one e h x (rw (fewer, next) at rest));
            }

-- As many terms are read as were asked for.
pub length-terms : (edition : Edition) (count n above : ℕ) (s : Stream) (ts : Polynomial) (s₁ : Stream) → read_terms edition count n above s ≡ read ts s₁
    → length ts ≡ count
unfolding read_terms
length-terms edition zero n above s ts s₁ h = let e : [] ≡ ts = cc h in rw (← e)
length-terms edition (suc count) n above s ts s₁ h =
    let one = both_read (read_term edition n above s) (rest_of_terms edition count n) ts s₁ h in
    let others = both_read (read_terms edition count n one.0.monomial one.1) (λ us s₂. read (one.0 ∷ us) s₂) ts s₁ one.3 in
    let e : one.0 ∷ others.0 ≡ ts = cc others.3 in
    ap length (sym e) ∙ ap suc (length-terms edition count n one.0.monomial one.1 others.0 others.1 others.2)
