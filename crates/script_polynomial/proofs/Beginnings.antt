-- Which of its ways a term or a polynomial goes: the first two bytes decide.
use mathlib.Core.Bool.{Bool, true, false, ◌&&◌}
use mathlib.Core.List.{List, [], ◌∷◌}
use mathlib.Core.Path.{◌≡◌, refl, sym, ap, ◌∙◌, fun_ext}
use Prim.Native.Nat.{ℕ, ◌+◌, ◌-◌}
use native.Mathlib.Nat.{add-zero}
use native.Mathlib.Omega.{arith}
use lib.Dec.{eqb, leb, ltb}
use lib.IntN.{ℤ, pos, neg_ℤ}
use lib.ListN.{drop, get_or}
use lib.Seq.{get_or-drop}
use borrow.Author.Tests.{eq-eqb, ne_eqb, eqb-true, eqb-false}
use Rattle.sign_laws.specs.Booleans.{and_first, and_second, and_intro, never_both}
use Rattle.rules.specs.Polynomial.{Term, Polynomial}
use Rattle.rules.specs.Reader.{Reader, give, stuck}
use Rattle.rules.specs.Combine.{given, say, ◌then◌, ◌union◌, one_of}
use Rattle.rules.specs.Text.{bytes}
use Rattle.rules.specs.Reading.{digits_after, magnitude, number_or, constant_of, product, next_term, polynomial, beyond}
use Rattle.script_polynomial.specs.At.{read_at}
use Rattle.script_polynomial.specs.Joined.{say-then, then-as, then-then}
use Rattle.script_polynomial.specs.Ways.{Dead, dead, dead-behind, dead_end, Lives, lives, lives-behind, lives-end, or-stuck, union-first}
use Rattle.script_polynomial.specs.Ways.{union-second, union-dead, first-lives, second-lives}
use Rattle.script_polynomial.specs.Found.{plain_number, minus_number}
use Rattle.script_polynomial.specs.Terms.{product_term, constant_term, alone_term, others_of, sum_of_terms, opens_with}
use Rattle.script_polynomial.proofs.Signed.{number-minus, number-plain}

-- ---- Texts by their first two bytes.

-- The first byte of a text, or 0; and the second.
abbrev first : List ℕ → ℕ
first t = get_or t 0 0

abbrev second : List ℕ → ℕ
second t = get_or t 1 0

module _ {A : Type 0} where
  given-dead : (x : Bool) (k : ℕ) {r : Reader A} {t : List ℕ} → Dead k r t → Dead k (given x r) t
  unfolding given
  given-dead true k d = d
  given-dead false k d = dead

  -- A run that begins with a parenthesis is dead behind another byte,
  other-dead : (s : List ℕ) (r : Reader A) (t : List ℕ) → (first t ≡ 40 → ⊥) → Dead 1 (say (40 ∷ s) r) t
  unfolding say given
  other-dead s r [] other = dead_end
  other-dead s r (b ∷ t) other = dead-behind {k = 0} {f = λ b. given (eqb b 40) (say s r)} {b = b} {t = t} (rw (ne_eqb b 40 other) dead)

  -- and if its second byte is not the text's, behind two.
  second-dead : (c : ℕ) (s : List ℕ) (r : Reader A) (t : List ℕ) → (second t ≡ c → ⊥) → Dead 2 (say (40 ∷ c ∷ s) r) t
  unfolding say given
  second-dead c s r [] other = dead_end
  second-dead c s r (b ∷ t) other = dead-behind {f = λ b. given (eqb b 40) (say (c ∷ s) r)} (given-dead (eqb b 40) 1 (behind t other))
    where
      behind : (u : List ℕ) → (second (b ∷ u) ≡ c → ⊥) → Dead 1 (say (c ∷ s) r) u
      behind [] other = dead_end
      behind (d ∷ u) other = dead-behind {k = 0} {f = λ d. given (eqb d c) (say s r)} {b = d} {t = u} (rw (ne_eqb d c other) dead)

  -- It lives behind a parenthesis.
  run-lives : (c : ℕ) (s : List ℕ) (r : Reader A) (t : List ℕ) → first t ≡ 40 → Lives 2 (say (40 ∷ c ∷ s) r) t
  unfolding say given
  run-lives c s r [] e = lives-end
  run-lives c s r (b ∷ t) e = lives-behind {k = 1} {f = λ b. given (eqb b 40) (say (c ∷ s) r)} {b = b} {t = t} (rw (eq-eqb b 40 e) (behind t))
    where
      behind : (u : List ℕ) → Lives 1 (say (c ∷ s) r) u
      behind [] = lives-end
      behind (d ∷ u) = lives-behind lives

-- ---- Numbers: with what they are turned into.

module _ {A : Type 0} (last : ℕ) (as_is : ℤ → A) where
  abbrev plain_as : Reader A
  plain_as = magnitude last then λ x. give (as_is (pos x))

  abbrev minus_as : Reader A
  minus_as = say (bytes "(- ") (magnitude 41 then λ x. say (last ∷ []) (give (as_is (neg_ℤ (pos x)))))

  plain-as : (plain_number last then λ c. give (as_is c)) ≡ plain_as
  unfolding ◌then◌
  plain-as = then-then (magnitude last) (λ x. give (pos x)) (λ c. give (as_is c))

  minus-as : (minus_number last then λ c. give (as_is c)) ≡ minus_as
  unfolding ◌then◌
  minus-as =
      say-then (bytes "(- ") (magnitude 41 then λ x. say (last ∷ []) (give (neg_ℤ (pos x)))) (λ c. give (as_is c))
      ∙ ap (say (bytes "(- ")) (then-then (magnitude 41) (λ x. say (last ∷ []) (give (neg_ℤ (pos x)))) (λ c. give (as_is c))
      ∙ ap (λ (f : ℕ → Reader A). magnitude 41 then f) (fun_ext (λ x. say-then (last ∷ []) (give (neg_ℤ (pos x))) (λ c. give (as_is c)))))

  -- A number, and then what it is turned into.
  abbrev number_as : Reader A
  number_as = number_or last (λ c. c) [] then λ c. give (as_is c)

  plain-lives : (t : List ℕ) → Lives 1 plain_as t
  unfolding magnitude ◌then◌
  plain-lives [] = lives-end
  plain-lives (b ∷ t) = lives-behind lives

  plain-dead : (t : List ℕ) → first t ≡ 40 → Dead 2 plain_as t
  unfolding magnitude ◌then◌ given
  plain-dead [] e = dead_end
  plain-dead (b ∷ t) e = dead-behind {k = 1} {f = λ c. given (leb 49 c && leb c 57) (digits_after 9 last (c - 48)) then λ x. give (as_is (pos x))}
      {b = b} {t = t} (rw e dead)

  module _ (text : List ℕ) (at : ℕ) (others : Reader A) where
    abbrev either : Reader A
    either = plain_as union (minus_as union others)

    first-is : first (drop at text) ≡ get_or text at 0
    first-is = get_or-drop at text 0 0 ∙ ap (λ (p : ℕ). get_or text p 0) (add-zero at)

    second_is : second (drop at text) ≡ get_or text (at + 1) 0
    second_is = get_or-drop at text 1 0

    way-plain : (get_or text at 0 ≡ 40 → ⊥) → Dead 1 others (drop at text) → read_at text at either ≡ read_at text at number_as
    way-plain no-open gone =
        union-first at {r = plain_as} {s = minus_as union others} (plain-lives (drop at text))
        (union-dead (other-dead (45 ∷ 32 ∷ []) (magnitude 41 then λ x. say (last ∷ []) (give (as_is (neg_ℤ (pos x))))) (drop at text)
        (λ e. no-open (sym first-is ∙ e))) gone)
        ∙ sym (then-as text at at (number_or last (λ c. c) []) (plain_number last) (λ c. give (as_is c)) (number-plain text at last refl no-open)
        ∙ ap (read_at text at) plain-as)

    module _ (open-there : get_or text at 0 ≡ 40) where
      opened : first (drop at text) ≡ 40
      opened = first-is ∙ open-there

      abbrev negative : Reader A
      negative = magnitude 41 then λ x. say (last ∷ []) (give (as_is (neg_ℤ (pos x))))

      way-minus : Dead 2 others (drop at text) → read_at text at either ≡ read_at text at number_as
      way-minus gone =
          let there = run-lives 45 (32 ∷ []) negative (drop at text) opened in
          union-second at {r = plain_as} {s = minus_as union others} (plain-dead (drop at text) opened) (first-lives there gone)
          ∙ union-first at {r = minus_as} {s = others} there gone
          ∙ sym (then-as text at at (number_or last (λ c. c) []) (minus_number last) (λ c. give (as_is c)) (number-minus text at last refl open-there)
          ∙ ap (read_at text at) minus-as)

      -- Another byte than the minus, where another way lives.
      way-other : (get_or text (at + 1) 0 ≡ 45 → ⊥) → Lives 2 others (drop at text) → read_at text at either ≡ read_at text at others
      way-other no_minus there =
          let gone = second-dead 45 (32 ∷ []) negative (drop at text) (λ e. no_minus (sym second_is ∙ e)) in
          union-second at {r = plain_as} {s = minus_as union others} (plain-dead (drop at text) opened) (second-lives gone there)
          ∙ union-second at {r = minus_as} {s = others} gone there

-- ---- The two bytes, as the code tests them.

module _ (text : List ℕ) (at c : ℕ) where
  opens-true : opens_with text at c ≡ true → (get_or text at 0 ≡ 40) × (get_or text (at + 1) 0 ≡ c)
  opens-true e = (
    eqb-true (get_or text at 0) 40 (and_first (eqb (get_or text at 0) 40) (eqb (get_or text (at + 1) 0) c) e),
    eqb-true (get_or text (at + 1) 0) c (and_second (eqb (get_or text at 0) 40) (eqb (get_or text (at + 1) 0) c) e),
  )

  opens-false : opens_with text at c ≡ false → get_or text at 0 ≡ 40 → get_or text (at + 1) 0 ≡ c → ⊥
  opens-false e a b = never_both (and_intro (eq-eqb (get_or text at 0) 40 a) (eq-eqb (get_or text (at + 1) 0) c b)) e

-- ---- The next term of a sum.

module _ (text : List ℕ) (at n above : ℕ) (others : ℕ → Reader Polynomial) where
  -- What follows a product.
  abbrev pub after_product : Term → Reader Polynomial
  after_product t = others t.monomial then λ ts. give (t ∷ ts)

  abbrev in_product : Reader Polynomial
  in_product = product n (above - 1) then after_product

  abbrev product_way : Bool → Reader Polynomial
  product_way x = given x (say (bytes "(* ") in_product) union stuck

  pub next-constant : (ltb 1 above && opens_with text at 42) ≡ false → read_at text at (next_term n above others) ≡ read_at text at (constant_term 41)
  unfolding next_term number_or one_of given ◌union◌
  next-constant none = by (eqb (get_or text at 0) 40) refl (ltb 1 above) none
    where
      by : (b : Bool) → eqb (get_or text at 0) 40 ≡ b → (x : Bool) → (x && opens_with text at 42) ≡ false
          → read_at text at (either 41 constant_of text at (product_way x)) ≡ read_at text at (constant_term 41)
      by false e x h =
          let no-open = eqb-false (get_or text at 0) 40 e in
          way-plain 41 constant_of text at (product_way x) no-open
          (union-dead (given-dead x 1 (other-dead (42 ∷ 32 ∷ []) in_product (drop at text)
          (λ same. no-open (sym (first-is 41 constant_of text at stuck) ∙ same)))) dead)
      by true e false h = way-minus 41 constant_of text at (product_way false) (eqb-true (get_or text at 0) 40 e) dead
      by true e true h =
          let open-there = eqb-true (get_or text at 0) 40 e in
          way-minus 41 constant_of text at (product_way true) open-there
          (union-dead (second-dead 42 (32 ∷ []) in_product (drop at text)
          (λ same. opens-false text at 42 h open-there (sym (second_is 41 constant_of text at stuck) ∙ same))) dead)

  pub next-product : (ltb 1 above && opens_with text at 42) ≡ true → read_at text at (next_term n above others) ≡ read_at text at
      (product_term n (above - 1) then after_product)
  unfolding next_term number_or one_of given
  next-product all =
      let may = and_first (ltb 1 above) (opens_with text at 42) all in
      let (open-there, star) = opens-true text at 42 (and_second (ltb 1 above) (opens_with text at 42) all) in
      let opened-there = first-is 41 constant_of text at stuck ∙ open-there in
      rw may (way-other 41 constant_of text at (product_way true) open-there (λ e. absurd (omega (arith, star, e)))
      (first-lives (run-lives 42 (32 ∷ []) in_product (drop at text) opened-there) dead)
      ∙ ap (read_at text at) (or-stuck (say (bytes "(* ") in_product) ∙ sym (say-then (bytes "(* ") (product n (above - 1)) after_product)))

-- ---- A polynomial.

module _ (text : List ℕ) (at n : ℕ) where
  abbrev alone : Reader Polynomial
  alone = product n (beyond n - 1) then λ t. say (bytes " ") (give (t ∷ []))

  abbrev in_sum : Reader Polynomial
  in_sum = product n (beyond n - 1) then others_of n

  abbrev ways_on : Reader Polynomial
  ways_on = say (bytes "(* ") alone union (say (bytes "(+ (* ") in_sum union stuck)

  star-dead : (get_or text (at + 1) 0 ≡ 42 → ⊥) → Dead 2 (say (bytes "(* ") alone) (drop at text)
  star-dead other = second-dead 42 (32 ∷ []) alone (drop at text) (λ e. other (sym (second_is 32 constant_of text at stuck) ∙ e))

  plus-dead : (get_or text (at + 1) 0 ≡ 43 → ⊥) → Dead 2 (say (bytes "(+ (* ") in_sum union stuck) (drop at text)
  plus-dead other = union-dead (second-dead 43 (32 ∷ 40 ∷ 42 ∷ 32 ∷ []) in_sum (drop at text)
      (λ e. other (sym (second_is 32 constant_of text at stuck) ∙ e))) dead

  pub polynomial-constant : opens_with text at 43 ≡ false → opens_with text at 42 ≡ false → read_at text at (polynomial n) ≡ read_at text at
      (constant_term 32)
  unfolding polynomial number_or one_of given
  polynomial-constant no_plus no-star = by (eqb (get_or text at 0) 40) refl
    where
      by : (b : Bool) → eqb (get_or text at 0) 40 ≡ b → read_at text at (either 32 constant_of text at ways_on) ≡ read_at text at (constant_term 32)
      by false e =
          let no-open = eqb-false (get_or text at 0) 40 e in
          let no-first : first (drop at text) ≡ 40 → ⊥ = λ same. no-open (sym (first-is 32 constant_of text at stuck) ∙ same) in
          way-plain 32 constant_of text at ways_on no-open
          (union-dead (other-dead (42 ∷ 32 ∷ []) alone (drop at text) no-first)
          (union-dead (other-dead (43 ∷ 32 ∷ 40 ∷ 42 ∷ 32 ∷ []) in_sum (drop at text) no-first) dead))
      by true e =
          let open-there = eqb-true (get_or text at 0) 40 e in
          way-minus 32 constant_of text at ways_on open-there
          (union-dead (star-dead (opens-false text at 42 no-star open-there)) (plus-dead (opens-false text at 43 no_plus open-there)))

  pub polynomial-alone : opens_with text at 42 ≡ true → read_at text at (polynomial n) ≡ read_at text at (alone_term n)
  unfolding polynomial number_or one_of given
  polynomial-alone yes-star =
      let (open-there, star) = opens-true text at 42 yes-star in
      let there = run-lives 42 (32 ∷ []) alone (drop at text) (first-is 32 constant_of text at stuck ∙ open-there) in
      let gone = plus-dead (λ e. absurd (omega (arith, star, e))) in
      way-other 32 constant_of text at ways_on open-there (λ e. absurd (omega (arith, star, e))) (first-lives there gone)
      ∙ union-first at {r = say (bytes "(* ") alone} {s = say (bytes "(+ (* ") in_sum union stuck} there gone
      ∙ ap (read_at text at) (sym (say-then (bytes "(* ") (product n (beyond n - 1)) (λ t. say (bytes " ") (give (t ∷ [])))))

  pub polynomial-sum : opens_with text at 43 ≡ true → read_at text at (polynomial n) ≡ read_at text at (sum_of_terms n)
  unfolding polynomial number_or one_of given say
  polynomial-sum yes-plus =
      let (open-there, plus) = opens-true text at 43 yes-plus in
      let there = first-lives (run-lives 43 (32 ∷ 40 ∷ 42 ∷ 32 ∷ []) in_sum (drop at text) (first-is 32 constant_of text at stuck ∙ open-there)) dead in
      let gone = star-dead (λ e. absurd (omega (arith, plus, e))) in
      way-other 32 constant_of text at ways_on open-there (λ e. absurd (omega (arith, plus, e))) (second-lives gone there)
      ∙ union-second at {r = say (bytes "(* ") alone} {s = say (bytes "(+ (* ") in_sum union stuck} gone there
      ∙ ap (read_at text at) (or-stuck (say (bytes "(+ (* ") in_sum) ∙ ap
      (say (bytes "(+ ")) (sym (say-then (bytes "(* ") (product n (beyond n - 1)) (others_of n))))
