-- The polynomial of an atom: old, new, or none that goes on.
use Rattle.std.specs.Prelude.{Result, Ok, Err}
use mathlib.Core.Bool.{false}
use mathlib.Core.List.{List, map}
use mathlib.Core.Path.{◌≡◌, sym, ap, subst, ◌∙◌}
use Prim.Native.Nat.{ℕ, ◌+◌, ◌*◌, ◌≤◌, ◌<◌}
use native.Mathlib.Decide.{dec_lt}
use native.Mathlib.Omega.{arith}
use lib.IntN.{ℤ}
use lib.ListN.{length, drop, set}
use lib.Seq.{sets}
use Rattle.rules.specs.Polynomial.{Polynomial, same}
use Rattle.rules.specs.Answer.{knows, number_in}
use Rattle.terms.specs.View.{terms_from}
use Rattle.forms.specs.Slots.{slot_of, first_from}
use Rattle.forms.specs.Working.{TableRead}
use Rattle.rules.specs.Reading.{polynomial, known_polynomial}
use Rattle.script_polynomial.specs.At.{Stops}
use Rattle.script_polynomial.specs.Terms.{SumRead, SumOf, SumFound}
use Rattle.script_polynomial.specs.Slots.{agreement, spaced_text, texts_from}
use Rattle.script_polynomial.specs.Tabled.{Tabled, SomeTabled, PieceOf, PieceFound, smaller, StopsAmong}
use Rattle.script_polynomial.specs.declared.Read.{Read}
use Rattle.script_polynomial.specs.declared.Stop.{Stop}
use Rattle.script_polynomial.proofs.Among.{read-within, known_read, room-stops, full-stops, full-new}
use Rattle.script_polynomial.proofs.Listing.{old-number, new-number, number-new, with_number, tabled-read, tabled-table, tabled-texts}
use Rattle.script_polynomial.proofs.Listing.{tabled-first, tabled-same, tabled-more, with-one, with_none, read_back}

-- What the table's functions ask for.
pub some_read : {n known : ℕ} {cs : List ℤ} {ms ts : List ℕ} → SomeTabled n known cs ms ts → TableRead cs ms ts known n
some_read {n} {known} {cs} {ms} {ts} s = subst (λ (k : ℕ). TableRead cs ms ts k n) s.counted (tabled-read s.tabled)

-- ---- Where it stops.

module _ (text : List ℕ) (at n known : ℕ) (cs : List ℤ) (ms ts : List ℕ) {reach : ℕ}
    (longest : reach ≡ at + agreement (texts_from n cs ms ts 0 known) (drop at text)) where
  -- How far the text agrees with that of any polynomial of the table.
  reach-is : {cs₀ : List ℤ} {ms₀ ts₀ : List ℕ} {table : List Polynomial} → Tabled n cs₀ ms₀ ts₀ table cs ms ts → length table ≡ known
      → reach ≡ at + agreement (map (spaced_text n) table) (drop at text)
  reach-is {table = table} t counted =
      longest ∙ ap (λ (k : ℕ). at + agreement (texts_from n cs ms ts 0 k) (drop at text)) (sym counted)
      ∙ ap (λ (l : List (List ℕ)). at + agreement l (drop at text)) (tabled-texts t)

  pub stops-full : 64 ≤ known → {position r : ℕ} → r ≡ smaller position reach → StopsAmong text at n known cs ms ts position r
  stops-full full {position} e = record {
    with_room = λ room. absurd (omega (arith, room, full));
    full = λ still cs₀ ms₀ ts₀ table t counted. e ∙ ap (smaller position) (reach-is t counted);
  }

module _ (text : List ℕ) (at n known : ℕ) (cs : List ℤ) (ms ts : List ℕ) {vs vs' : List ℤ} {ps ps' : List ℕ} {sum : Result (Read ℕ) Stop}
    (h : SumFound text at (polynomial n) 0 vs vs' ps ps' sum) where
  pub piece-stopped : {stop : Stop} {r : ℕ} → sum ≡ Err stop → StopsAmong text at n known cs ms ts stop.at r
      → PieceFound text at n known cs cs ms ms ts ts (Err (record { at = r }))
  unfolding SumOf PieceOf
  piece-stopped {stop} {r} e among = record {
    found = λ cs₀ ms₀ ts₀ table t counted. (
      by table counted (dec_lt known 64)
          (λ full. among.full full cs₀ ms₀ ts₀ table t counted),
      t,
    );
  }
    where
      stops : Stops text at (polynomial n) stop.at
      stops = (rw e at h).is_found

      by : (table : List Polynomial) → length table ≡ known → Dec (known < 64) →
          (64 ≤ known → r ≡ smaller stop.at (at + agreement (map (spaced_text n) table) (drop at text)))
          → Stops text at (known_polynomial n table) r
      by table counted (yes room) full =
          subst (Stops text at (known_polynomial n table)) (sym (among.with_room room))
          (room-stops n text at table (omega (arith, counted, room)) stops)
      by table counted (no more) full =
          subst (Stops text at (known_polynomial n table)) (sym (full (omega (arith, more))))
          (full-stops n text at table (omega (arith, counted, more)) stops)

  -- ---- What was read.

  module _ {one : Read ℕ} (e : sum ≡ Ok one) where
    abbrev count : ℕ
    count = one.value

    abbrev behind : ℕ
    behind = one.behind

    pub read : SumRead text at (polynomial n) 0 vs vs' ps ps' count behind
    unfolding SumOf
    read = (rw e at h).is_found

    abbrev p : Polynomial
    p = read.terms

    -- The places hold the polynomial.
    pub places : terms_from vs' ps' 0 count ≡ p
    places =
        let r = read in
        let many = r.counted in
        ap (terms_from vs' ps' 0) (sym many)
        ∙ read_back r.terms vs ps (omega (arith, many, r.room.coefficients)) (omega (arith, many, r.room.monomials)) r.coefficient
        r.monomial

    module _ {number : ℕ} (found : number ≡ first_from (λ j. same (terms_from vs' ps' 0 count) (slot_of cs ms ts j)) 0 known) where
      number_is : {cs₀ : List ℤ} {ms₀ ts₀ : List ℕ} {table : List Polynomial} → Tabled n cs₀ ms₀ ts₀ table cs ms ts → length table ≡ known
          → number ≡ number_in table p
      number_is t counted =
          found ∙ ap (λ (q : Polynomial). first_from (λ j. same q (slot_of cs ms ts j)) 0 known) places
          ∙ ap (λ (k : ℕ). first_from (λ j. same p (slot_of cs ms ts j)) 0 k) (sym counted) ∙ tabled-first t p

      pub piece-old : number < known → PieceFound text at n known cs cs ms ms ts ts (Ok (record { number = number; known = known; behind = behind }))
      unfolding PieceOf
      piece-old low = record {
        found = λ cs₀ ms₀ ts₀ table t counted.
            let number_in = number_is t counted in
            let old = old-number p table (omega (arith, number_in, low, counted)) in
            let same_size = with_none t p old in
            record {
              polynomial = p;
              reaches = known_read n t.some_variables t.variables text at read.reaches table (tabled-table t)
                  (omega (arith, same_size, t.polynomials));
              numbered = number_in ∙ sym (with_number p table);
              small = low;
              counted = same_size ∙ counted;
              tabled = tabled-same t p old;
            };
      }

      module _ (high : known ≤ number) where
        new : {cs₀ : List ℤ} {ms₀ ts₀ : List ℕ} {table : List Polynomial} → Tabled n cs₀ ms₀ ts₀ table cs ms ts → length table ≡ known
            → knows table p ≡ false
        new {table = table} t counted = number-new p table (omega (arith, number_is t counted, high, counted))

        pub piece-full : 64 ≤ known → {reach : ℕ} → reach ≡ at + agreement (texts_from n cs ms ts 0 known) (drop at text)
            → PieceFound text at n known cs cs ms ms ts ts (Err (record { at = reach }))
        unfolding PieceOf
        piece-full full longest = record {
          found = λ cs₀ ms₀ ts₀ table t counted. (
            subst (Stops text at (known_polynomial n table)) (sym (reach-is text at n known cs ms ts longest t counted))
                (full-new n text at table t.some_variables t.variables (tabled-table t) (omega (arith, counted, full)) read.reaches
                (new t counted)),
            t,
          );
        }

        pub piece-new : known < 64 → {cs' : List ℤ} {ms' ts' : List ℕ}
            → cs' ≡ sets cs (16 * known) (map (λ u. u.coefficient) (terms_from vs' ps' 0 count)) → ms' ≡ sets ms (16 * known)
            (map (λ u. u.monomial) (terms_from vs' ps' 0 count))
            → ts' ≡ set ts known count → PieceFound text at n known cs cs' ms ms' ts ts' (Ok (record { number = known; known = known + 1; behind = behind }))
        unfolding PieceOf
        piece-new room c m k = record {
          found = λ cs₀ ms₀ ts₀ table t counted.
              let fresh = new t counted in
              let more = with-one t p fresh in
              record {
                polynomial = p;
                reaches = known_read n t.some_variables t.variables text at read.reaches table (tabled-table t)
                    (omega (arith, more, counted, room));
                numbered = sym counted ∙ sym (new-number p table fresh) ∙ sym (with_number p table);
                small = omega arith;
                counted = more ∙ ap (λ (j : ℕ). j + 1) counted;
                tabled = tabled-more t p fresh (read-within n t.some_variables t.variables text at read.reaches)
                    (omega (arith, counted, room))
                    (c ∙ ap (λ (q : Polynomial). sets cs (16 * known) (map (λ u. u.coefficient) q)) places
                    ∙ ap (λ (j : ℕ). sets cs (16 * j) (map (λ u. u.coefficient) p)) (sym counted))
                    (m ∙ ap (λ (q : Polynomial). sets ms (16 * known) (map (λ u. u.monomial) q)) places
                    ∙ ap (λ (j : ℕ). sets ms (16 * j) (map (λ u. u.monomial) p)) (sym counted))
                    (k ∙ ap (λ (j : ℕ). set ts j count) (sym counted) ∙ ap (set ts (length table)) (sym read.counted));
              };
        }
