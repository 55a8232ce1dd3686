-- A polynomial's value worked out step by step in 64 signed bits: some number, or none once a product or a running sum does not fit.
-- The laws say that this is what the book's list of steps says: there is a number exactly if all steps fit, and it is the polynomial's value.
use Rattle.std.specs.Prelude.{◌≡◌, refl, Bool, true, false, ◌&&◌, List, [], ◌∷◌, ℕ, zero, suc, ◌+◌, ◌-◌, ◌*◌, ◌/◌, ◌%◌, ◌^◌, ◌<◌, ◌≤◌, ℤ, pos, ◌+ℤ◌, ◌*ℤ◌, length, get_or, drop}
use Rattle.std.proofs.Common.{sym, ap, ap₂, ◌∙◌, add-one, arith, length-drop, drop_of_length-le, drop-cons}
use Rattle.std.proofs.Math.Option.{Option, none, some, some-injective, none-ne-some}
use Rattle.std.proofs.Math.IntN.{one, pow, +ℤ_idl, +ℤ_idr, *ℤ-one}
use Rattle.whole.specs.Differences.{*ℤ-assoc}
use Rattle.whole.specs.Solver.{#, ◌:+◌, ◌:*◌, solve}
use Rattle.rules.specs.Polynomial.{Polynomial, exponent}
use Rattle.rules.specs.Meaning.{monomial_at, value_by}
use Rattle.terms.specs.Exponents.{exponent-shifted}
use Rattle.terms.specs.View.{terms_of, terms-cons, terms-nil}
use Rattle.rules.specs.Evaluate.{power_steps, term_steps, sum_steps, steps, all_fit, fits64}

-- ---- Numbers that fit.

unfoldable pub kept_if : Bool → ℤ → Option ℤ
kept_if true z = some z
kept_if false z = none

abbrev pub fitting : ℤ → Option ℤ
fitting z = kept_if (fits64 z) z

unfoldable pub times : Option ℤ → ℤ → Option ℤ
times none x = none
times (some z) x = fitting (z *ℤ x)

unfoldable pub plus : Option ℤ → Option ℤ → Option ℤ
plus none other = none
plus (some s) none = none
plus (some s) (some z) = fitting (s +ℤ z)

-- So often times a reading; times each reading as often as its exponent says; the sum of the terms.
unfoldable pub raised : ℤ → ℕ → Option ℤ → Option ℤ
raised x zero v = v
raised x (suc e) v = raised x e (times v x)

unfoldable pub term_from : List ℤ → ℕ → Option ℤ → Option ℤ
term_from [] m v = v
term_from (x ∷ readings) m v = term_from readings m (raised x (exponent m (length readings)) v)

unfoldable pub sum_from : List ℤ → Polynomial → Option ℤ → Option ℤ
sum_from readings [] total = total
sum_from readings (t ∷ ts) total = sum_from readings ts (plus total (term_from readings t.monomial (some t.coefficient)))

-- The polynomial's value.
abbrev pub value_from : List ℤ → Polynomial → Option ℤ
value_from readings p = sum_from readings p (some (pos 0))

unfoldable pub is_some : Option ℤ → Bool
is_some none = false
is_some (some z) = true

-- ---- One factor, one reading, one term more.

pub raised-next : (x : ℤ) (e : ℕ) (v : Option ℤ) → 0 < e → raised x e v ≡ raised x (e - 1) (times v x)
unfolding raised
raised-next x zero v h = absurd (omega arith)
raised-next x (suc e) v h = ap (λ (k : ℕ). raised x k (times v x)) (less e)
  where
    less : (e : ℕ) → e ≡ suc e - 1
    less e = omega arith

pub raised-end : (x : ℤ) (e : ℕ) (v : Option ℤ) → e ≤ 0 → raised x e v ≡ v
unfolding raised
raised-end x zero v h = refl
raised-end x (suc e) v h = absurd (omega arith)

pub term-next : (readings : List ℤ) (i m : ℕ) (v : Option ℤ) → i < length readings
    → term_from (drop i readings) m v ≡ term_from (drop (i + 1) readings) m (raised (get_or readings i (pos 0)) (exponent m (length readings - (i + 1))) v)
unfolding term_from
term-next readings i m v h = ap (λ (l : List ℤ). term_from l m v) (drop-cons readings i (pos 0) h)
    ∙ ap₂ (λ (k : ℕ) (l : List ℤ). term_from l m (raised (get_or readings i (pos 0)) (exponent m k) v)) (length-drop (suc i) readings ∙ behind (length readings) i)
    (ap (λ (k : ℕ). drop k readings) (sym (add-one i)))
  where
    behind : (n i : ℕ) → n - suc i ≡ n - (i + 1)
    behind n i = omega arith

-- The same as the code takes it: the exponent by a shift, the reading as some number.
pub term-again : (readings : List ℤ) (i m : ℕ) (v : Option ℤ) {w : Option ℤ} (x : ℤ) → i < length readings → x ≡ get_or readings i (pos 0)
    → w ≡ raised x (m / 2 ^ (4 * (length readings - (i + 1))) % 16) v → term_from (drop (i + 1) readings) m w ≡ term_from (drop i readings) m v
term-again readings i m v x h reading e = ap (term_from (drop (i + 1) readings) m)
    (e ∙ ap₂ (λ (y : ℤ) (k : ℕ). raised y k v) reading (exponent-shifted m (length readings - (i + 1)))) ∙ sym (term-next readings i m v h)

pub term-end : (readings : List ℤ) (i m : ℕ) (v : Option ℤ) → length readings ≤ i → term_from (drop i readings) m v ≡ v
unfolding term_from
term-end readings i m v h = ap (λ (l : List ℤ). term_from l m v) (drop_of_length-le readings h)

pub sum-next : (readings : List ℤ) (cs : List ℤ) (ms : List ℕ) (i to : ℕ) (total : Option ℤ) → i < to
    → sum_from readings (terms_of cs ms i to) total
    ≡ sum_from readings (terms_of cs ms (i + 1) to) (plus total (term_from readings (get_or ms i 0) (some (get_or cs i (pos 0)))))
unfolding sum_from
sum-next readings cs ms i to total h = ap (λ (p : Polynomial). sum_from readings p total) (terms-cons cs ms i to h)

pub sum-again : (readings cs : List ℤ) (ms : List ℕ) (i to : ℕ) (v : Option ℤ) {t w : Option ℤ} → i < to → t ≡ term_from readings (get_or ms i 0) (some (get_or cs i (pos 0)))
    → w ≡ plus v t → sum_from readings (terms_of cs ms (i + 1) to) w ≡ sum_from readings (terms_of cs ms i to) v
sum-again readings cs ms i to v h e f = ap (sum_from readings (terms_of cs ms (i + 1) to)) (f ∙ ap (plus v) e) ∙ sym (sum-next readings cs ms i to v h)

pub sum-end : (readings : List ℤ) (cs : List ℤ) (ms : List ℕ) (i to : ℕ) (total : Option ℤ) → to ≤ i → sum_from readings (terms_of cs ms i to) total ≡ total
unfolding sum_from
sum-end readings cs ms i to total h = ap (λ (p : Polynomial). sum_from readings p total) (terms-nil cs ms i to h)

-- ---- There is a number exactly if all steps fit.

-- Whether what follows a number fits; nothing follows none.
unfoldable fits_after : Option ℤ → (ℤ → List ℤ) → Bool
fits_after none after = false
fits_after (some z) after = all_fit fits64 (after z)

next_fits : (z : ℤ) (after : ℤ → List ℤ) → fits64 z && all_fit fits64 (after z) ≡ fits_after (fitting z) after
unfolding fits_after kept_if
next_fits z after = by (fits64 z)
  where
    by : (b : Bool) → b && all_fit fits64 (after z) ≡ fits_after (kept_if b z) after
    by true = refl
    by false = refl

power-fits : (x : ℤ) (e : ℕ) (v : Option ℤ) (after : ℤ → List ℤ) → fits_after v (λ z. power_steps x e z after) ≡ fits_after (raised x e v) after
unfolding fits_after power_steps raised times all_fit
power-fits x zero none after = refl
power-fits x zero (some z) after = refl
power-fits x (suc e) none after = power-fits x e none after
power-fits x (suc e) (some z) after = next_fits (z *ℤ x) (λ y. power_steps x e y after) ∙ power-fits x e (fitting (z *ℤ x)) after

term_fits : (readings : List ℤ) (m : ℕ) (v : Option ℤ) (after : ℤ → List ℤ) → fits_after v (λ z. term_steps readings m z after) ≡ fits_after (term_from readings m v) after
unfolding fits_after term_steps term_from
term_fits [] m none after = refl
term_fits [] m (some z) after = refl
term_fits (x ∷ readings) m v after = power-fits x (exponent m (length readings)) v (λ (y : ℤ). term_steps readings m y after)
    ∙ term_fits readings m (raised x (exponent m (length readings)) v) after

none_stays : (readings : List ℤ) (p : Polynomial) → is_some (sum_from readings p none) ≡ false
unfolding is_some sum_from plus
none_stays readings [] = refl
none_stays readings (t ∷ ts) = none_stays readings ts

sum_fits : (readings : List ℤ) (p : Polynomial) (total : Option ℤ) → fits_after total (λ s. sum_steps readings p s) ≡ is_some (sum_from readings p total)
unfolding fits_after sum_steps sum_from is_some plus all_fit
sum_fits readings [] none = refl
sum_fits readings [] (some s) = refl
sum_fits readings (t ∷ ts) none = sym (none_stays readings ts)
sum_fits readings (t ∷ ts) (some s) = term_fits readings t.monomial (some t.coefficient) (λ (z : ℤ). (s +ℤ z) ∷ sum_steps readings ts (s +ℤ z))
    ∙ by (λ v. sum_fits readings ts v) (term_from readings t.monomial (some t.coefficient))
  where
    by : ((v : Option ℤ) → fits_after v (λ y. sum_steps readings ts y) ≡ is_some (sum_from readings ts v)) → (v : Option ℤ)
        → fits_after v (λ (z : ℤ). (s +ℤ z) ∷ sum_steps readings ts (s +ℤ z)) ≡ is_some (sum_from readings ts (plus (some s) v))
    by later none = sym (none_stays readings ts)
    by later (some z) = next_fits (s +ℤ z) (λ y. sum_steps readings ts y) ∙ later (fitting (s +ℤ z))

-- All products and sums of a polynomial fit exactly if there is a number at the end.
pub all-fit : (readings : List ℤ) (p : Polynomial) → is_some (value_from readings p) ≡ all_fit fits64 (steps readings p)
unfolding steps fits_after
all-fit readings p = sym (sum_fits readings p (some (pos 0)))

-- ---- It is the polynomial's value.

-- If there is a number, it is this one.
record Is (v : Option ℤ) (z : ℤ) : Type 0 where
  pub is : (y : ℤ) → v ≡ some y → y ≡ z

some_is : (z : ℤ) → Is (some z) z
some_is z = record { is = λ y e. sym (some-injective z y e) }

is-equal : {v : Option ℤ} {z w : ℤ} → z ≡ w → Is v z → Is v w
is-equal e i = record { is = λ y h. i.is y h ∙ e }

kept-is : (b : Bool) (z : ℤ) → Is (kept_if b z) z
unfolding kept_if
kept-is true z = some_is z
kept-is false z = record { is = λ y e. absurd (none-ne-some y e) }

times-is : (v : Option ℤ) {z : ℤ} (x : ℤ) → Is v z → Is (times v x) (z *ℤ x)
unfolding times
times-is none x i = record { is = λ y e. absurd (none-ne-some y e) }
times-is (some w) x i = is-equal (ap (λ (u : ℤ). u *ℤ x) (i.is w refl)) (kept-is (fits64 (w *ℤ x)) (w *ℤ x))

plus-is : (v w : Option ℤ) {s z : ℤ} → Is v s → Is w z → Is (plus v w) (s +ℤ z)
unfolding plus
plus-is none w i j = record { is = λ y e. absurd (none-ne-some y e) }
plus-is (some s) none i j = record { is = λ y e. absurd (none-ne-some y e) }
plus-is (some s) (some z) i j = is-equal (ap₂ (λ (u w : ℤ). u +ℤ w) (i.is s refl) (j.is z refl)) (kept-is (fits64 (s +ℤ z)) (s +ℤ z))

power-is : (x : ℤ) (e : ℕ) (v : Option ℤ) {z : ℤ} → Is v z → Is (raised x e v) (z *ℤ pow x e)
unfolding raised pow one
power-is x zero v {z} i = is-equal (sym (*ℤ-one z)) i
power-is x (suc e) v {z} i =
    is-equal (solve (z ∷ x ∷ pow x e ∷ []) (# 0 :* # 1 :* # 2) (# 0 :* (# 2 :* # 1)) tt) (power-is x e (times v x) (times-is v x i))

term_is : (readings : List ℤ) (m : ℕ) (v : Option ℤ) {z : ℤ} → Is v z → Is (term_from readings m v) (z *ℤ monomial_at readings m)
unfolding term_from monomial_at one
term_is [] m v {z} i = is-equal (sym (*ℤ-one z)) i
term_is (x ∷ readings) m v {z} i = let e = exponent m (length readings) in
    is-equal (*ℤ-assoc z (pow x e) (monomial_at readings m)) (term_is readings m (raised x e v) (power-is x e v i))

sum_is : (readings : List ℤ) (p : Polynomial) (total : Option ℤ) {s : ℤ} → Is total s → Is (sum_from readings p total) (s +ℤ value_by (monomial_at readings) p)
unfolding sum_from value_by
sum_is readings [] total {s} i = is-equal (sym (+ℤ_idr s)) i
sum_is readings (t ∷ ts) total {s} i = let v = term_from readings t.monomial (some t.coefficient) in
    is-equal (solve (s ∷ t.coefficient ∷ monomial_at readings t.monomial ∷ value_by (monomial_at readings) ts ∷ [])
    (# 0 :+ # 1 :* # 2 :+ # 3) (# 0 :+ (# 1 :* # 2 :+ # 3)) tt)
    (sum_is readings ts (plus total v) (plus-is total v i (term_is readings t.monomial (some t.coefficient) (some_is t.coefficient))))

pub value-is : (readings : List ℤ) (p : Polynomial) (y : ℤ) → value_from readings p ≡ some y → y ≡ value_by (monomial_at readings) p
value-is readings p y h = (sum_is readings p (some (pos 0)) (some_is (pos 0))).is y h ∙ +ℤ_idl (value_by (monomial_at readings) p)
