-- The steps that read a term of edition 2: its pairs and then the term, each by the fields that the code reads and the tests that it makes.
use mathlib.Core.Path.{◌≡◌, refl, sym, ap, ◌∙◌}
use mathlib.Core.Bool.{Bool, true, false, ◌||◌}
use mathlib.Core.List.{List}
use Prim.Native.Nat.{ℕ, ◌+◌, ◌*◌, ◌^◌, ◌≤◌, ◌<◌}
use native.Mathlib.Omega.{arith}
use lib.Dec.{leb, ltb}
use lib.IntN.{ℤ}
use lib.ListN.{length, drop, set}
use lib.Seq.{drop-drop}
use borrow.Author.Tests.{lt-ltb, le-leb, lt-leb}
use Rattle.std.specs.Prelude.{Result, Ok, Err}
use Rattle.block.specs.Refusals.{number_of, refusal_by}
use Rattle.block.specs.declared.Refusal.{Refusal}
use Rattle.block.specs.declared.Refusal.TheVariants.{EndsInsideField, MagnitudeZero, ExponentsNotFalling, PairCountAboveN}
use Rattle.rules.specs.Bits.{unpack}
use Rattle.rules.specs.Block.{edition2, Stream, Reading, refused, read, require, afterwards, signed, first_bits, read_exponents, read_term}
use Rattle.block_laws.specs.Pairs.{tested-within, monomial-fits}
use Rattle.pairs.specs.Pairs.{pairs_at, PairsInside, told_of, pairs_told}
use Rattle.pairs.specs.declared.PairsFault.{PairsFault}
use Rattle.block.specs.Steps.{stream_at, Inside, Left, Reads, ceiling, PairsRead, ExponentsOf, ExponentsFound, TermStored}
use Rattle.block.specs.declared.Exponents.{Exponents}
use Rattle.block.specs.declared.Place.{Place}
use Rattle.block.proofs.Steps.{field_at, further, length-left, refuses, reads}
use Rattle.block.proofs.ReadingTerms.{falls-is}

-- ---- the pairs

-- What the book reads where the pairs are told of, and a bound of the exponents.
unfoldable by_told : Stream → Result ℕ PairsFault → Reading ℕ
by_told s (Err fault) = refused (number_of (refusal_by fault))
by_told s (Ok exponents) = read exponents s

unfoldable Below : ℕ → Result ℕ PairsFault → Type 0
Below bound (Err fault) = Unit {0}
Below bound (Ok exponents) = exponents < bound

in-order : (s : Stream) (rises above : Bool) (exponents : ℕ)
    → require rises 22 (require above 23 (read exponents s)) ≡ by_told s (told_of rises above exponents)
unfolding by_told told_of require
in-order s false above exponents = refl
in-order s true false exponents = refl
in-order s true true exponents = refl

below-told : (bound : ℕ) (rises above : Bool) (exponents : ℕ) → (rises ≡ true → above ≡ true → exponents < bound)
    → Below bound (told_of rises above exponents)
unfolding Below told_of
below-told bound false above exponents h = tt
below-told bound true false exponents h = tt
below-told bound true true exponents h = h refl refl

module _ (n : ℕ) (bytes : List ℕ) (place : Place) {count : ℕ} (c : count ≡ field_at bytes place.at 5) where
  by_pairs : read_exponents edition2 n (stream_at bytes place) ≡
      require (leb count n) 21
      (require (leb (8 * count) (length (drop (place.at + 5) (unpack bytes)))) 6
      (by_told (stream_at bytes (further place (5 + 8 * count))) (pairs_told n (pairs_at bytes (place.at + 5) count))))
  unfolding read_exponents
  by_pairs =
      let u = unpack bytes in
      let behind : place.at + 5 + 8 * count ≡ place.at + (5 + 8 * count) = omega arith in
      rw (← in-order (stream_at bytes (further place (5 + 8 * count))), ← c, drop-drop 5 place.at u, drop-drop (8 * count) (place.at + 5) u, behind)

  refuses-pairs : {refusal : Refusal} → read_exponents edition2 n (stream_at bytes place) ≡ refused (number_of refusal) → ExponentsFound bytes place n (Err refusal)
  unfolding ExponentsOf
  refuses-pairs e = record { found = e }

  pub many-pairs : n < count → ExponentsFound bytes place n (Err PairCountAboveN)
  unfolding require
  many-pairs many = refuses-pairs (by_pairs ∙ rw (lt-leb count n many))

  module _ (few : count ≤ n) {rest : ℕ} (l : Left bytes place rest) where
    pub pairs-short : rest < 5 + 8 * count → place.at + 5 ≤ 8 * length bytes → ExponentsFound bytes place n (Err EndsInsideField)
    unfolding require
    pairs-short short five =
        let fewer : length (drop (place.at + 5) (unpack bytes)) < 8 * count = rw length-left (omega (arith, l.up_to_end)) in
        refuses-pairs (by_pairs ∙ rw (le-leb count n few, lt-leb (8 * count) _ fewer))

    module _ (long : 5 + 8 * count ≤ rest) where
      pub pairs-inside : Inside bytes place → PairsInside bytes (place.at + 5) count
      pairs-inside inside = record { at_most = omega (arith, l.up_to_end); short = inside.short }

      enough : leb (8 * count) (length (drop (place.at + 5) (unpack bytes))) ≡ true
      enough = le-leb (8 * count) _ (rw length-left (omega (arith, l.up_to_end)))

      module _ {told : Result ℕ PairsFault} (t : told ≡ pairs_told n (pairs_at bytes (place.at + 5) count)) where
        by-what-is-told : read_exponents edition2 n (stream_at bytes place) ≡ by_told (stream_at bytes (further place (5 + 8 * count))) told
        unfolding require
        by-what-is-told = by_pairs ∙ rw (le-leb count n few, enough, ← t)

        below : Below (2 ^ (4 * n)) told
        below =
            rw t (below-told (2 ^ (4 * n)) _ _ _ (λ rises above. monomial-fits (tested-within n 0 count (drop (place.at + 5) (unpack bytes)) rises above)))

        pub pairs-wrong : {fault : PairsFault} → told ≡ Err fault → ExponentsFound bytes place n (Err (refusal_by fault))
        unfolding by_told
        pairs-wrong e = refuses-pairs (by-what-is-told ∙ rw e)

        pub pairs-read : {exponents : ℕ} → told ≡ Ok exponents → Inside bytes place
            → ExponentsFound bytes place n (Ok (record { exponents = exponents; behind = place.at + (5 + 8 * count) }))
        unfolding ExponentsOf by_told Below
        pairs-read e inside = record {
          found = record {
            reading = by-what-is-told ∙ rw e;
            inside = record { at_most = omega (arith, l.up_to_end); short = inside.short };
            small = rw e at below;
          };
        }

-- What was found, by its kind.
module _ {bytes : List ℕ} {place : Place} {n : ℕ} {found : Result Exponents Refusal} (f : ExponentsFound bytes place n found) where
  exponents-refused : {refusal : Refusal} → found ≡ Err refusal → read_exponents edition2 n (stream_at bytes place) ≡ refused (number_of refusal)
  unfolding ExponentsOf
  exponents-refused e = (rw e at f).found

  exponents-read : {pairs : Exponents} → found ≡ Ok pairs → PairsRead bytes place n pairs.exponents pairs.behind
  unfolding ExponentsOf
  exponents-read e = (rw e at f).found

-- ---- the term

module _ (n above : ℕ) (first : Bool) {bytes : List ℕ} {place : Place} {rest : ℕ} (l : Left bytes place rest) where
  pub paired-short : rest < 37 → {k : ℕ} {cs : List ℤ} {ms : List ℕ}
      → Reads bytes (read_term edition2 n (ceiling first n above) (stream_at bytes place)) (TermStored place k cs cs ms ms) (Err EndsInsideField)
  unfolding read_term first_bits require
  paired-short h = refuses (rw (← l.counted, lt-leb 37 rest h))

  module _ (long : 37 ≤ rest) {magnitude : ℕ} (m : magnitude ≡ field_at bytes (place.at + 1) 31) where
    by-fields : read_term edition2 n (ceiling first n above) (stream_at bytes place) ≡
        require (ltb 0 magnitude) 8
        (afterwards (read_exponents edition2 n (stream_at bytes (further place 32))) (λ exponents s.
        require (ltb exponents (ceiling first n above)) 9
        (read (record { coefficient = signed (field_at bytes place.at 1) magnitude; monomial = exponents }) s)))
    unfolding read_term first_bits require
    by-fields =
        let u = unpack bytes in
        let behind : place.at + 1 + 31 ≡ place.at + 32 = omega arith in
        rw (← l.counted, le-leb 37 rest long, drop-drop 1 place.at u, ← m, drop-drop 31 (place.at + 1) u, behind)

    pub paired-nought : magnitude ≡ 0 → {k : ℕ} {cs : List ℤ} {ms : List ℕ}
        → Reads bytes (read_term edition2 n (ceiling first n above) (stream_at bytes place)) (TermStored place k cs cs ms ms) (Err MagnitudeZero)
    unfolding require
    paired-nought z = refuses (by-fields ∙ rw z)

    module _ (some : magnitude ≡ 0 → ⊥) {found : Result Exponents Refusal} (f : ExponentsFound bytes (further place 32) n found) where
      not-nought : ltb 0 magnitude ≡ true
      not-nought = lt-ltb 0 magnitude (omega arith)

      pub paired-refused : {refusal : Refusal} → found ≡ Err refusal → {k : ℕ} {cs : List ℤ} {ms : List ℕ}
          → Reads bytes (read_term edition2 n (ceiling first n above) (stream_at bytes place)) (TermStored place k cs cs ms ms) (Err refusal)
      unfolding require afterwards
      paired-refused e = refuses (by-fields ∙ rw (not-nought, exponents-refused f e))

      module _ {pairs : Exponents} (e : found ≡ Ok pairs) where
        same_test : {fall : Bool} → fall ≡ (first || ltb pairs.exponents above) → ltb pairs.exponents (ceiling first n above) ≡ fall
        same_test falls-as = sym (falls-is pairs.exponents n above first (exponents-read f e).small) ∙ sym falls-as

        pub paired-rising : false ≡ (first || ltb pairs.exponents above) → {k : ℕ} {cs : List ℤ} {ms : List ℕ}
            → Reads bytes (read_term edition2 n (ceiling first n above) (stream_at bytes place)) (TermStored place k cs cs ms ms) (Err ExponentsNotFalling)
        unfolding require afterwards
        paired-rising h = refuses (by-fields ∙ rw (not-nought, (exponents-read f e).reading, same_test h))

        pub paired-read : true ≡ (first || ltb pairs.exponents above) → {minus : ℕ} → minus ≡ field_at bytes place.at 1 → {coefficient : ℤ} → coefficient ≡ signed minus magnitude
            → {k : ℕ} {cs : List ℤ} {ms : List ℕ} → Reads bytes (read_term edition2 n (ceiling first n above) (stream_at bytes place))
            (TermStored place k cs (set cs k coefficient) ms (set ms k pairs.exponents)) (Ok (record { at = pairs.behind; allowed = place.allowed }))
        unfolding require afterwards
        paired-read h {minus} s {coefficient} c {k} {cs} =
            reads (record { coefficient = signed minus magnitude; monomial = pairs.exponents })
            (by-fields ∙ rw (not-nought, (exponents-read f e).reading, same_test h, ← s))
            (exponents-read f e).inside (record { allows = refl; coefficient = ap (set cs k) c; monomial = refl })
