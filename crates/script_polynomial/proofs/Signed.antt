-- Numbers of either sign, and what else may stand at their place: a digit, or a parenthesis and a minus, decides.
use Rattle.std.specs.Prelude.{Result, Ok, Err}
use mathlib.Core.List.{List, [], ◌∷◌}
use mathlib.Core.Path.{◌≡◌, sym, ◌∙◌}
use Prim.Native.Nat.{ℕ, zero, suc, ◌+◌, ◌-◌, ◌≤◌, ◌<◌}
use native.Mathlib.Decide.{dec_lt}
use native.Mathlib.Omega.{arith}
use lib.Dec.{eqb}
use lib.IntN.{ℤ, pos, neg_ℤ, ◌-ℤ◌, +ℤ_idl}
use lib.ListN.{length, drop, get_or, drop_of_length-le}
use lib.Seq.{drop-cons}
use mir.Syntax.{w32}
use mir.Val.{SFits, to_z, of_z}
use mir.ValLaws.{to_z-of_z}
use borrow.Author.Tests.{eq-eqb, ne_eqb}
use Rattle.rules.specs.Reader.{Reader, give}
use Rattle.rules.specs.Combine.{given, say, ◌then◌, ◌union◌, one_of}
use Rattle.script_laws.specs.Numbers.{Sized}
use Rattle.rules.specs.Reading.{magnitude, number_or}
use Rattle.script_laws.specs.Steps.{read_part}
use Rattle.script_polynomial.specs.At.{read_at, Stops, Reaches, byte_inside, byte-on, byte-stops, then-stops, then-on, stops_as, reaches-as}
use Rattle.script_polynomial.specs.Agreement.{common, run-stops, run_on}
use Rattle.script_polynomial.specs.Ways.{dead, dead-behind, lives, lives-behind, union-first, union-second}
use Rattle.script_polynomial.specs.Found.{NumberOf, NumberFound, plain_number, minus_number, ValueOf, ValueFound}
use Rattle.script_polynomial.specs.declared.Read.{Read}
use Rattle.script_polynomial.specs.declared.Stop.{Stop}

-- ---- Signed numbers of 32 bits pass through their bits.

module _ {x : ℕ} (h : Sized x) where
  pub plain_value : to_z w32 x ≡ pos x
  plain_value = let small = h.at-most in to_z-of_z w32 (pos x) (record { sfits = omega arith })

  minus-small : (m : ℕ) → m ≤ 2147483647 → SFits w32 (neg_ℤ (pos m))
  minus-small zero l = record { sfits = omega arith }
  minus-small (suc m) l = record { sfits = omega arith }

  minus_is : pos 0 -ℤ to_z w32 x ≡ neg_ℤ (pos x)
  minus_is = rw plain_value (+ℤ_idl (neg_ℤ (pos x)))

  pub minus-fits : SFits w32 (pos 0 -ℤ to_z w32 x)
  minus-fits = rw minus_is (minus-small x h.at-most)

  pub minus-value : to_z w32 (of_z w32 (pos 0 -ℤ to_z w32 x)) ≡ neg_ℤ (pos x)
  minus-value = rw minus_is (to_z-of_z w32 (neg_ℤ (pos x)) (minus-small x h.at-most))

-- ---- What was found.

module _ {text : List ℕ} {at : ℕ} {r : Reader ℕ} {P : ℕ → Type 0} where
  pub number-stopped : {stop : Stop} → NumberFound text at r P (Err stop) → Stops text at r stop.at
  unfolding NumberOf
  number-stopped h = h.found

  pub number_read : {number : Read ℕ} → NumberFound text at r P (Ok number) → Reaches text at r number.value number.behind × P number.value
  unfolding NumberOf
  number_read h = h.found

module _ {text : List ℕ} {at : ℕ} {r : Reader ℤ} where
  pub value-stops : {position : ℕ} → Stops text at r position → ValueFound text at r (Err (record { at = position }))
  unfolding ValueOf
  value-stops h = record { found = h }

  pub value-reaches : {value : ℤ} {behind : ℕ} → Reaches text at r value behind → ValueFound text at r (Ok (record { value = value; behind = behind }))
  unfolding ValueOf
  value-reaches h = record { found = h }

  pub value-stopped : {stop : Stop} → ValueFound text at r (Err stop) → Stops text at r stop.at
  unfolding ValueOf
  value-stopped h = h.found

  pub value_read : {number : Read ℤ} → ValueFound text at r (Ok number) → Reaches text at r number.value number.behind
  unfolding ValueOf
  value_read h = h.found

pub value_as : {text : List ℕ} {at at' : ℕ} {r r' : Reader ℤ} (value : Result (Read ℤ) Stop) → read_at text at r ≡ read_at text at' r' → ValueFound text at' r' value
    → ValueFound text at r value
unfolding ValueOf
value_as (Err stopped) same h = record { found = stops_as same h.found }
value_as (Ok number) same h = record { found = reaches-as same h.found }

-- ---- Plain numbers.

module _ (last : ℕ) {text : List ℕ} {at : ℕ} where
  pub plain-stopped : {stop : Stop} → NumberFound text at (magnitude last) Sized (Err stop) → ValueFound text at (plain_number last) (Err stop)
  plain-stopped h = value-stops (then-stops (λ x. give (pos x)) (number-stopped h))

  pub plain-read : {number : Read ℕ} {value : ℤ} → NumberFound text at (magnitude last) Sized (Ok number) → value ≡ pos number.value
      → ValueFound text at (plain_number last) (Ok (record { value = value; behind = number.behind }))
  unfolding read_part
  plain-read h same =
      let found = number_read h in
      rw same (value-reaches (record { reading = then-on (λ x. give (pos x)) found.0; inside = found.0.inside }))

-- ---- Numbers with the minus.

-- What stands behind "(- ".
abbrev pub negative : ℕ → Reader ℤ
negative last = magnitude 41 then λ x. say (last ∷ []) (give (neg_ℤ (pos x)))

module _ (text : List ℕ) (at : ℕ) {digits : ℕ} (last : ℕ) (told : digits ≡ at + common (40 ∷ 45 ∷ 32 ∷ []) (drop at text)) where
  pub minus-unsaid : digits - at < 3 → ValueFound text at (minus_number last) (Err (record { at = digits }))
  minus-unsaid short = value-stops (run-stops (negative last) text at (40 ∷ 45 ∷ 32 ∷ []) told short)

  said : 3 ≤ digits - at → read_at text at (minus_number last) ≡ read_at text digits (negative last)
  said long = run_on (negative last) text at (40 ∷ 45 ∷ 32 ∷ []) told long

  module _ (long : 3 ≤ digits - at) where
    pub minus-stopped : {stop : Stop} → NumberFound text digits (magnitude 41) Sized (Err stop) → ValueFound text at (minus_number last) (Err stop)
    minus-stopped h = value-stops (stops_as (said long) (then-stops _ (number-stopped h)))

    module _ {number : Read ℕ} (h : NumberFound text digits (magnitude 41) Sized (Ok number)) where
      abbrev x : ℕ
      x = number.value

      abbrev behind : ℕ
      behind = number.behind

      on : read_at text at (minus_number last) ≡ read_at text behind (say (last ∷ []) (give (neg_ℤ (pos x))))
      on = said long ∙ then-on (λ y. say (last ∷ []) (give (neg_ℤ (pos y)))) (number_read h).0

      pub minus-open : {b : ℕ} → b ≡ get_or text behind 0 → (b ≡ last → ⊥) → ValueFound text at (minus_number last) (Err (record { at = behind }))
      unfolding say given
      minus-open b-is other = value-stops (record {
        reading = on ∙ byte-stops text behind (λ b. given (eqb b last) (give (neg_ℤ (pos x))))
            (rw (ne_eqb (get_or text behind 0) last (λ same. other (b-is ∙ same))));
      })

      pub minus-read : {b : ℕ} → b ≡ get_or text behind 0 → b ≡ last → 0 < last → {value : ℤ} → value ≡ neg_ℤ (pos x)
          → ValueFound text at (minus_number last) (Ok (record { value = value; behind = behind + 1 }))
      unfolding say given read_part
      minus-read b-is same some value-is =
          let here : behind < length text = byte_inside text behind (omega (arith, b-is, same, some)) in
          rw value-is (value-reaches (record {
            reading = on ∙ byte-on text behind (λ b. given (eqb b last) (give (neg_ℤ (pos x)))) here ∙ rw
                (eq-eqb (get_or text behind 0) last (sym b-is ∙ same));
            inside = omega (arith, here);
          }))

-- ---- Either.

module _ (text : List ℕ) (at last : ℕ) {b : ℕ} (b-is : b ≡ get_or text at 0) where
  by-minus : (p : ℕ) (t : List ℕ) → read_part p (number_or last (λ c. c) []) (40 ∷ t) ≡ read_part p (minus_number last) (40 ∷ t)
  unfolding number_or one_of given magnitude ◌then◌ say ◌union◌
  by-minus p t = union-second p {r = plain_number last} {s = minus_number last} (dead-behind dead) (lives-behind lives)

  pub number-minus : b ≡ 40 → read_at text at (number_or last (λ c. c) []) ≡ read_at text at (minus_number last)
  number-minus e =
      let here : at < length text = byte_inside text at (omega (arith, b-is, e)) in
      rw (drop-cons text at 0 here, ← b-is, e) (by-minus at (drop (suc at) text))

  by-plain : (p c : ℕ) (t : List ℕ) → (c ≡ 40 → ⊥) → read_part p (number_or last (λ c. c) []) (c ∷ t) ≡ read_part p (plain_number last) (c ∷ t)
  unfolding number_or one_of given magnitude ◌then◌ say ◌union◌
  by-plain p c t other = union-first p {r = plain_number last} {s = minus_number last} (lives-behind lives) (dead-behind (rw (ne_eqb c 40 other) dead))

  pub number-plain : (b ≡ 40 → ⊥) → read_at text at (number_or last (λ c. c) []) ≡ read_at text at (plain_number last)
  unfolding number_or one_of given magnitude ◌then◌ say ◌union◌ read_part
  number-plain other = by (dec_lt at (length text))
    where
      by : Dec (at < length text) → read_at text at (number_or last (λ c. c) []) ≡ read_at text at (plain_number last)
      by (yes h) = rw (drop-cons text at 0 h) (by-plain at (get_or text at 0) (drop (suc at) text) (λ e. other (b-is ∙ e)))
      by (no h) = rw (drop_of_length-le text {i = at} (omega (arith, h)))
