-- What starts, as the entries tell it: the refusal's number, or the length of the block's bytes.
-- The part of an area that is read is its first bytes, as many as `lent_length` gives.
use Rattle.std.specs.Prelude.{Bool, true, false, Result, Ok, Err, ◌&&◌, List, [], ◌≡◌, refl, ℕ, ◌+◌, ◌*◌, ◌%◌, ◌≤◌, ◌<◌, eqb, leb, ℤ, length, take, get_or}
use Rattle.std.proofs.Common.{sym, ap, ◌∙◌, subst, mod-eq_of_lt, arith, le-leb, leb-true, ne_eqb}
use Rattle.std.proofs.Math.Seq.{take-length}
use Rattle.std.proofs.lemmas.Bool.{lt-leb}
use Rattle.rules.specs.Block.{Block, Stream, Reading, refused, read, head_field, read_block}
use Rattle.block.specs.declared.Contents.{Contents}
use Rattle.block.specs.declared.Refusal.{Refusal as BlockRefusal}
use Rattle.block.specs.Refusals.{number_of}
use Rattle.block.specs.Steps.{ContentsOf, ContentsFound}
use Rattle.loading_laws.specs.Loading.{front_if, lent, Start, refusal, starts, start_from, start_of, started_part}
use Rattle.loading_laws.specs.Lengths.{length-said}
use Rattle.loading_laws.proofs.Starts.{started}

unfoldable pub found : Start → Result ℕ ℕ
found (refusal number) = Err number
found (starts bytes) = Ok (length bytes)

-- A refusal has no length.
abbrev pub length_in : Result ℕ ℕ → ℕ
length_in (Err number) = 0
length_in (Ok size) = size

abbrev pub number_in : Result ℕ ℕ → ℕ
number_in (Err number) = number
number_in (Ok size) = 0

unfoldable pub is_refusal : Start → Bool
is_refusal (refusal number) = true
is_refusal (starts bytes) = false

-- What is read into lent arrays is found: a refusal, or the length of the bytes.
module _ {bytes : List ℕ} {cs cs' : List ℤ} {ms ms' ts ts' token token' : List ℕ} {contents : Result Contents BlockRefusal}
    (reading : ContentsFound bytes cs cs' ms ms' ts ts' token token' contents) where
  pub found-refused : {refusal : BlockRefusal} → contents ≡ Err refusal → Err (number_of refusal) ≡ found (start_from bytes (read_block bytes))
  unfolding ContentsOf found start_from
  found-refused e = let is : read_block bytes ≡ refused _ = (rw e at reading).found in rw is

  pub found-accepted : {given : Contents} → contents ≡ Ok given
      → Ok (length bytes) ≡ found (start_from bytes (read_block bytes))
  unfolding ContentsOf found start_from
  found-accepted e = let stored = (rw e at reading).found in rw stored.reading

-- ---- So many bytes of the area are read.
pub record LentLength (area : List ℕ) (size : ℕ) : Type 0 where
  pub within : size ≤ length area
  pub read : lent area ≡ take size area

tested : (area : List ℕ) (fits : Bool) → (leb 5 (head_field area 24 16) && leb (head_field area 24 16) (length area)) ≡ fits
    → lent area ≡ front_if fits (take (head_field area 24 16) area) area
unfolding lent
tested area fits test = rw test

-- "as many as the head says",
lent-front : (area : List ℕ) → 5 ≤ head_field area 24 16 → head_field area 24 16 ≤ length area → LentLength area (head_field area 24 16)
unfolding front_if
lent-front area five within =
    let test : (leb 5 (head_field area 24 16) && leb (head_field area 24 16) (length area)) ≡ true =
    rw (le-leb 5 (head_field area 24 16) five, le-leb (head_field area 24 16) (length area) within) in
    record { within = within; read = tested area true test }

-- "all, if it says fewer than five or more than there are"
not-both : (area : List ℕ) (b : Bool) → leb 5 (head_field area 24 16) ≡ b → (5 ≤ head_field area 24 16 → length area < head_field area 24 16)
    → (b && leb (head_field area 24 16) (length area)) ≡ false
not-both area true five outside = lt-leb (head_field area 24 16) (length area) (outside (leb-true _ _ five))
not-both area false five outside = refl

pub lent-all : (area : List ℕ) → (5 ≤ head_field area 24 16 → length area < head_field area 24 16) → LentLength area (length area)
unfolding front_if
lent-all area outside =
    let all : lent area ≡ area = tested area false (not-both area (leb 5 (head_field area 24 16)) refl outside) in
    record { within = omega arith; read = all ∙ sym (take-length area) }

-- What the head says, from bytes 3 and 4.
pub said-is : (area : List ℕ) (high low : ℕ) → 5 ≤ length area → high ≡ get_or area 3 0 → low ≡ get_or area 4 0 → high < 256 → low < 256
    → head_field area 24 16 ≡ high * 256 + low
said-is area high low five high_is low-is high_small low_small =
    length-said area five ∙ rw (← high_is, ← low-is, mod-eq_of_lt high_small, mod-eq_of_lt low_small)

pub lent-said : (area : List ℕ) (said : ℕ) → head_field area 24 16 ≡ said → 5 ≤ said → said ≤ length area → LentLength area said
lent-said area said is five within = subst (LentLength area) is (lent-front area (rw is five) (rw is within))

-- ---- The check at the start.
pub start-found : (area : List ℕ) (size : ℕ) → LentLength area size → start_from (take size area) (read_block (take size area)) ≡ start_of area
unfolding start_of
start-found area size Lent-is = rw Lent-is.read

-- The filled part is the area's first bytes, as many as are found.
pub part-within : (area : List ℕ) → length_in (found (start_of area)) ≤ length area
unfolding found
part-within area = within (start_of area) refl
  where
    within : (start : Start) → start_of area ≡ start → length_in (found start) ≤ length area
    within (refusal number) is = omega arith
    within (starts bytes) is = (started area bytes is).long

pub part-first : (area : List ℕ) → take (length_in (found (start_of area))) area ≡ started_part (start_of area)
unfolding found started_part
part-first area = first (start_of area) refl
  where
    first : (start : Start) → start_of area ≡ start → take (length_in (found start)) area ≡ started_part start
    first (refusal number) is = refl
    first (starts bytes) is = sym (started area bytes is).front

pub empty-exactly-on-refusal : (area : List ℕ) → eqb (length (started_part (start_of area))) 0 ≡ is_refusal (start_of area)
unfolding is_refusal started_part
empty-exactly-on-refusal area = exactly (start_of area) refl
  where
    exactly : (start : Start) → start_of area ≡ start → eqb (length (started_part start)) 0 ≡ is_refusal start
    exactly (refusal number) is = refl
    exactly (starts bytes) is = ne_eqb (length bytes) 0 (λ none. let five = (started area bytes is).five in absurd (omega arith))
