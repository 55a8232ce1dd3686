-- A polynomial among those that are known: with room, any is read as if none were known; with 64 known, only as far as the text of one of them goes.
use mathlib.Core.Bool.{Bool, true, false}
use mathlib.Core.List.{List, [], ◌∷◌, ◌++◌, map}
use mathlib.Core.Path.{◌≡◌, refl, sym, ap, subst, ◌∙◌}
use Prim.Native.Nat.{ℕ, zero, suc, ◌+◌, ◌-◌, ◌≤◌, ◌<◌}
use native.Mathlib.Nat.{add-zero}
use native.Mathlib.Omega.{arith}
use lib.Dec.{eqb, leb}
use lib.ListN.{length, drop, length-append}
use borrow.Author.Tests.{lt-ltb, le-ltb, le-leb, lt-leb}
use Rattle.rules.specs.Polynomial.{Polynomial}
use Rattle.rules.specs.Limits.{PolynomialWithin}
use Rattle.rules.specs.Answer.{knows, added_unless}
use Rattle.rules.specs.Reader.{Reader, give, stuck, ask}
use Rattle.rules.specs.Combine.{given, drop_if, after, is_some, only}
use Rattle.script_laws.specs.Leading.{Leads, arrived, onward}
use Rattle.script_laws.specs.CombineLaws.{Reads}
use Rattle.rules.specs.Reading.{polynomial, of_known, known_polynomial}
use Rattle.script_laws.specs.Polynomials.{polynomial-reads}
use Rattle.script_laws.specs.Products.{product-reads}
use Rattle.script_laws.specs.Known.{Table, with, known-reads}
use Rattle.script_laws.specs.Steps.{Part, got, stop, read_part}
use Rattle.script_polynomial.specs.At.{read_at, Stops, Reaches}
use Rattle.script_polynomial.specs.Agreement.{one_more, common}
use Rattle.script_polynomial.specs.Slots.{larger, agreement, spaced_text}
use Rattle.script_polynomial.specs.Tabled.{smaller}
use Rattle.script_polynomial.proofs.Polynomials.{half-some, two-halves}

-- ---- A text that leads to what is read.

module _ {A : Type 0} where
  pub record Led (r : Reader A) (p : ℕ) (t : List ℕ) (a : A) (q : ℕ) (u : List ℕ) : Type 0 where
    pub text : List ℕ
    pub leads : Leads r text a
    pub whole : t ≡ text ++ u
    pub behind : q ≡ p + length text

  pub part-leads : (p : ℕ) (r : Reader A) (t : List ℕ) {a : A} {q : ℕ} {u : List ℕ} → read_part p r t ≡ got a q u → Led r p t a q u
  unfolding read_part
  part-leads p (give c) t {a} {q} {u} e =
      let same : c ≡ a = cc e in
      let there : p ≡ q = cc e in
      let rest : t ≡ u = cc e in
      record { text = []; leads = subst (λ (x : A). Leads (give c) [] x) same arrived; whole = rest; behind = sym there ∙ sym (add-zero p) }
  part-leads p stuck t e = let never : ◌≡◌ {A = ℕ} 0 1 = cc e in absurd (omega (arith, never))
  part-leads p (ask f) [] e = let never : ◌≡◌ {A = ℕ} 0 1 = cc e in absurd (omega (arith, never))
  part-leads p (ask f) (b ∷ t) e =
      let h = part-leads (suc p) (f b) t e in
      record { text = b ∷ h.text; leads = onward b h.leads; whole = ap (λ (l : List ℕ). b ∷ l) h.whole; behind = omega (arith, h.behind) }

  pub leads-part : (p : ℕ) {r : Reader A} {s : List ℕ} {a : A} → Leads r s a → (u : List ℕ) → read_part p r (s ++ u) ≡ got a (p + length s) u
  unfolding read_part
  leads-part p {a = a} arrived u = rw (add-zero p)
  leads-part p {a = a} (onward {t = s} b way) u =
      let there : suc p + length s ≡ p + suc (length s) = omega arith in
      leads-part (suc p) way u ∙ ap (λ (q : ℕ). got a q u) there

-- ---- Only some texts.

-- How far a text agrees is how far its first byte and the rest do.
agreement-after : (b : ℕ) (t : List ℕ) (texts : List (List ℕ)) → agreement texts (b ∷ t) ≡ one_more (is_some (after b texts))
    (agreement (after b texts) t)
unfolding agreement common one_more after is_some drop_if
agreement-after b t [] = refl
agreement-after b t ([] ∷ texts) = omega (arith, agreement-after b t texts)
agreement-after b t ((c ∷ s) ∷ texts) = by (eqb b c) (after b texts) (agreement-after b t texts)
  where
    by : (x : Bool) (later : List (List ℕ)) → agreement texts (b ∷ t) ≡ one_more (is_some later) (agreement later t)
        → larger (one_more x (common s t)) (agreement texts (b ∷ t)) ≡ one_more (is_some (drop_if x s later)) (agreement (drop_if x s later) t)
    by true [] e = omega (arith, e)
    by true (l ∷ later) e = omega (arith, e)
    by false later e = omega (arith, e)

module _ {A : Type 0} where
  -- A position is not before where the reading began.
  unfoldable From : ℕ → Part A → Type 0
  From p (got a q u) = p ≤ q
  From p (stop q) = p ≤ suc q

  from-sooner : (p : ℕ) (part : Part A) → From (suc p) part → From p part
  unfolding From
  from-sooner p (got a q u) h = omega (arith, h)
  from-sooner p (stop q) h = omega (arith, h)

  part-from : (p : ℕ) (r : Reader A) (t : List ℕ) → From p (read_part p r t)
  unfolding From read_part
  part-from p (give a) t = omega arith
  part-from p stuck t = omega arith
  part-from p (ask f) [] = omega arith
  part-from p (ask f) (b ∷ t) = from-sooner p (read_part (suc p) (f b) t) (part-from (suc p) (f b) t)

  -- A reading cut at a position.
  unfoldable within : Bool → Part A → ℕ → Part A
  within true part limit = part
  within false part limit = stop limit

  unfoldable cut_at : ℕ → Part A → Part A
  cut_at limit (got a q u) = within (leb q limit) (got a q u) limit
  cut_at limit (stop q) = stop (smaller q limit)

  cut-before : (p : ℕ) (part : Part A) → From (suc p) part → cut_at p part ≡ stop p
  unfolding cut_at within From
  cut-before p (got a q u) h = rw (lt-leb q p (omega (arith, h)))
  cut-before p (stop q) h = ap stop (omega (arith, h))

  only-cut : (p : ℕ) (texts : List (List ℕ)) (r : Reader A) (t : List ℕ) → read_part p (only texts r) t ≡ cut_at (p + agreement texts t)
      (read_part p r t)
  unfolding read_part only cut_at within given one_more
  only-cut p texts (give a) t = rw (le-leb p (p + agreement texts t) (omega arith))
  only-cut p texts stuck t = ap stop (omega arith)
  only-cut p texts (ask f) [] = ap stop (omega arith)
  only-cut p texts (ask f) (b ∷ t) = by (is_some (after b texts)) (agreement-after b t texts) (only-cut (suc p) (after b texts) (f b) t)
    where
      by : (x : Bool) → agreement texts (b ∷ t) ≡ one_more x (agreement (after b texts) t)
          → read_part (suc p) (only (after b texts) (f b)) t ≡ cut_at (suc p + agreement (after b texts) t) (read_part (suc p) (f b) t)
          → read_part (suc p) (given x (only (after b texts) (f b))) t ≡ cut_at (p + agreement texts (b ∷ t)) (read_part (suc p) (f b) t)
      by true e further =
          let there : suc p + agreement (after b texts) t ≡ p + agreement texts (b ∷ t) = omega (arith, e) in
          further ∙ ap (λ (l : ℕ). cut_at l (read_part (suc p) (f b) t)) there
      by false e further =
          let back : suc p - 1 ≡ p = omega arith in
          let there : p + agreement texts (b ∷ t) ≡ p = omega (arith, e) in
          ap stop back ∙ sym (ap (λ (l : ℕ). cut_at l (read_part (suc p) (f b) t)) there ∙ cut-before p (read_part (suc p) (f b) t)
          (part-from (suc p) (f b) t))

-- ---- Polynomials.

-- What the book says of the texts of polynomials.
pub polynomials-read : (n : ℕ) → 0 < n → n ≤ 16 → Reads (polynomial n) (PolynomialWithin n) (spaced_text n)
polynomials-read zero some few = absurd (omega (arith, some))
polynomials-read (suc before) some few =
    polynomial-reads (suc before) (λ limit one inside. product-reads before limit inside one)
    (omega (arith, two-halves (suc before) some few, half-some (suc before) some few))

module _ (n : ℕ) (some : 0 < n) (few : n ≤ 16) (text : List ℕ) (at : ℕ) {p : Polynomial} {behind : ℕ}
    (h : Reaches text at (polynomial n) p behind) where
  led : Led (polynomial n) at (drop at text) p behind (drop behind text)
  led = part-leads at (polynomial n) (drop at text) h.reading

  -- What was read is within the limits.
  pub read-within : PolynomialWithin n p
  read-within = ((polynomials-read n some few).back led.text p led.leads).0

  module _ (table : List Polynomial) (listed : Table n table) where
    -- It is read behind a table that has room for it or knows it,
    pub known_read : length (with table p) ≤ 64 → Reaches text at (known_polynomial n table) p behind
    known_read room =
        let reads = polynomials-read n some few in
        let back = reads.back led.text p led.leads in
        let there = (known-reads n reads table listed).there p (record { within = back.0; few = room }) in
        let way : Leads (known_polynomial n table) led.text p = subst (λ (s : List ℕ). Leads (known_polynomial n table) s p) (sym back.1) there in
        record {
          reading = ap (read_part at (known_polynomial n table)) led.whole ∙ leads-part at way (drop behind text)
              ∙ ap (λ (q : ℕ). got p q (drop behind text)) (sym led.behind);
          inside = h.inside;
        }

-- ---- With 64 known.

module _ (n : ℕ) (text : List ℕ) (at : ℕ) (table : List Polynomial) where
  -- The position up to which the text agrees with any of them.
  abbrev pub reach : ℕ
  reach = at + agreement (map (spaced_text n) table) (drop at text)

  pub room-stops : length table < 64 → {position : ℕ} → Stops text at (polynomial n) position → Stops text at (known_polynomial n table) position
  unfolding known_polynomial of_known
  room-stops room h = rw (lt-ltb (length table) 64 room) h

  full_is : 64 ≤ length table → read_at text at (known_polynomial n table) ≡ cut_at reach (read_at text at (polynomial n))
  unfolding known_polynomial of_known
  full_is full = rw (le-ltb (length table) 64 full) (only-cut at (map (spaced_text n) table) (polynomial n) (drop at text))

  pub full-stops : 64 ≤ length table → {position : ℕ} → Stops text at (polynomial n) position → Stops text at (known_polynomial n table)
      (smaller position reach)
  unfolding cut_at
  full-stops full h = record { reading = full_is full ∙ ap (cut_at reach) h.reading }

  module _ (some : 0 < n) (few : n ≤ 16) (listed : Table n table) where
    -- A new one stops where the text leaves those of all that are known.
    pub full-new : 64 ≤ length table → {p : Polynomial} {behind : ℕ} → Reaches text at (polynomial n) p behind → knows table p ≡ false
        → Stops text at (known_polynomial n table) reach
    unfolding cut_at within added_unless
    full-new full {p} {behind} h new = record { reading = by (leb behind reach) refl }
      where
        cut : read_at text at (known_polynomial n table) ≡ within (leb behind reach) (got p behind (drop behind text)) reach
        cut = full_is full ∙ ap (cut_at reach) h.reading

        by : (x : Bool) → leb behind reach ≡ x → read_at text at (known_polynomial n table) ≡ stop reach
        by false e = cut ∙ rw e
        by true e =
            let whole : read_at text at (known_polynomial n table) ≡ got p behind (drop behind text) = cut ∙ rw e in
            let l = part-leads at (known_polynomial n table) (drop at text) whole in
            let may = ((known-reads n (polynomials-read n some few) table listed).back l.text p l.leads).0.few in
            let more : length (with table p) ≡ length table + 1 = rw new (length-append table (p ∷ [])) in
            absurd (omega (arith, may, more, full))
