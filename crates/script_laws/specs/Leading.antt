-- Which texts lead a reader to which results, and that a text stops exactly where no text of the reader goes on: of a reader it has only to be shown
-- that wherever it takes a byte, some text goes on.
use mathlib.Core.List.{List, [], ◌∷◌, ◌++◌}
use Rattle.std.specs.Prelude.{◌≡◌, ℕ, suc, ◌+◌, ◌-◌, ◌<◌, ◌≤◌, length, take}
use Rattle.std.proofs.Math.Path.{refl, subst}
use Rattle.std.proofs.Common.{sym, ◌∙◌, arith}
use Rattle.rules.specs.Reader.{Reader, give, stuck, ask, Outcome, held, stopped, read_from}

-- A text leads to a result.
pub data Leads {A : Type 0} : Reader A → List ℕ → A → Type 0 where
  arrived : {a : A} → Leads (give a) [] a
  onward : {f : ℕ → Reader A} {t : List ℕ} {a : A} (b : ℕ) → Leads (f b) t a → Leads (ask f) (b ∷ t) a

-- Some text goes on.
pub data GoesOn {A : Type 0} : Reader A → Type 0 where
  by_result : {a : A} → GoesOn (give a)
  by_byte : {f : ℕ → Reader A} (b : ℕ) → GoesOn (f b) → GoesOn (ask f)

-- Wherever a byte is taken, some text goes on.
pub data Open {A : Type 0} : Reader A → Type 0 where
  whole : {a : A} → Open (give a)
  closed : Open stuck
  each_byte : {f : ℕ → Reader A} → GoesOn (ask f) → ((b : ℕ) → Open (f b)) → Open (ask f)

-- A text of this reader that begins so.
pub record Begun {A : Type 0} (r : Reader A) (t : List ℕ) : Type 0 where
  pub rest : List ℕ
  pub result : A
  pub leads : Leads r (t ++ rest) result

-- The text stops exactly there: behind k bytes, which begin some text of this reader, and with the next byte they begin none.
pub record StopsAt {A : Type 0} (r : Reader A) (p : ℕ) (t : List ℕ) (q : ℕ) : Type 0 where
  pub count : ℕ
  pub there : q ≡ p + count
  pub within : count ≤ length t
  pub begins : Begun r (take count t)
  pub no_further : count < length t → Begun r (take (suc count) t) → ⊥

-- ---- The laws.

one-less : (p : ℕ) → suc p - 1 ≡ p
one-less p = omega arith

module _ {A : Type 0} where
  IsHeld : Outcome A → Type 0
  IsHeld (held a) = Unit {0}
  IsHeld (stopped p) = ⊥

  stopped≢held : {p : ℕ} {a : A} → stopped p ≡ held a → ⊥
  unfolding IsHeld
  stopped≢held same = subst IsHeld (sym same) tt

  same-held : {a b : A} → held a ≡ held b → a ≡ b
  same-held e = cc

  same_stop : {p q : ℕ} → ◌≡◌ {A = Outcome A} (stopped p) (stopped q) → p ≡ q
  same_stop e = cc

  -- A text that leads to a result is read as holding it.
  pub leads-held : (p : ℕ) (r : Reader A) {t : List ℕ} {a : A} → Leads r t a → read_from p r t ≡ held a
  unfolding read_from
  leads-held p r arrived = refl
  leads-held p r (onward {f = f} b way) = leads-held (suc p) (f b) way

  -- One text leads to one result.
  pub leads_one : (r : Reader A) {t : List ℕ} {a b : A} → Leads r t a → Leads r t b → a ≡ b
  leads_one r way second = same-held (sym (leads-held 0 r way) ∙ leads-held 0 r second)

  -- And one that is read as holding it leads to it.
  pub held-leads : (p : ℕ) (r : Reader A) (t : List ℕ) {a : A} → read_from p r t ≡ held a → Leads r t a
  unfolding read_from
  held-leads p (give a) [] e = subst (Leads (give a) []) (same-held e) arrived
  held-leads p (give a) (b ∷ t) e = absurd (stopped≢held e)
  held-leads p stuck t e = absurd (stopped≢held e)
  held-leads p (ask f) [] e = absurd (stopped≢held e)
  held-leads p (ask f) (b ∷ t) e = onward b (held-leads (suc p) (f b) t e)

  -- Where some text goes on, there is one.
  pub going : {r : Reader A} → GoesOn r → Begun r []
  going (by_result {a}) = record { rest = []; result = a; leads = arrived }
  going (by_byte b g) = let more = going g in record { rest = b ∷ more.rest; result = more.result; leads = onward b more.leads }

  IsStuck : Reader A → Type 0
  IsStuck (give a) = ⊥
  IsStuck stuck = Unit {0}
  IsStuck (ask f) = ⊥

  goes-not-stuck : {r : Reader A} → GoesOn r → IsStuck r → ⊥
  unfolding IsStuck
  goes-not-stuck by_result e = e
  goes-not-stuck (by_byte b g) e = e

  stuck-goes : GoesOn {A = A} stuck → ⊥
  unfolding IsStuck
  stuck-goes g = goes-not-stuck g tt

  begun-onward : (f : ℕ → Reader A) (b : ℕ) (t : List ℕ) → Begun (f b) t → Begun (ask f) (b ∷ t)
  begun-onward f b t begun = record { rest = begun.rest; result = begun.result; leads = onward b begun.leads }

  begun-back : (f : ℕ → Reader A) (b : ℕ) (t : List ℕ) → Begun (ask f) (b ∷ t) → Begun (f b) t
  begun-back f b t begun = back begun.rest begun.leads
    where
      back : (u : List ℕ) {a : A} → Leads (ask f) (b ∷ (t ++ u)) a → Begun (f b) t
      back u (onward b way) = record { rest = u; result = _; leads = way }

  -- No text leads on behind a whole one, or where it is stuck.
  MayLead : Reader A → List ℕ → Type 0
  MayLead (give a) [] = Unit {0}
  MayLead (give a) (b ∷ t) = ⊥
  MayLead stuck t = ⊥
  MayLead (ask f) t = Unit {0}

  leads-may : {r : Reader A} {t : List ℕ} {c : A} → Leads r t c → MayLead r t
  unfolding MayLead
  leads-may arrived = tt
  leads-may (onward b way) = tt

  give-ends : {a : A} {b : ℕ} {t : List ℕ} {c : A} → Leads (give a) (b ∷ t) c → ⊥
  unfolding MayLead
  give-ends way = leads-may way

  pub stuck-none : {t : List ℕ} {c : A} → Leads stuck t c → ⊥
  unfolding MayLead
  stuck-none way = leads-may way

  stuck-begun : (t : List ℕ) → Begun {A = A} stuck t → ⊥
  stuck-begun t begun = stuck-none begun.leads

  -- Where a byte is refused, the text stops before it.
  refused-here : (p : ℕ) (f : ℕ → Reader A) (b : ℕ) (t : List ℕ) {q : ℕ} → GoesOn (ask f) → f b ≡ stuck → ◌≡◌ {A = Outcome A} (stopped p) (stopped q) → StopsAt (ask f) p (b ∷ t) q
  refused-here p f b t g none e = record {
    count = 0;
    there = rw (← (same_stop e)) (omega arith);
    within = omega arith;
    begins = going g;
    no_further = λ h begun. stuck-begun [] (subst (λ (r : Reader A). Begun r []) none (begun-back f b [] begun));
  }

  one_further : (p : ℕ) (f : ℕ → Reader A) (b : ℕ) (t : List ℕ) {q : ℕ} → StopsAt (f b) (suc p) t q → StopsAt (ask f) p (b ∷ t) q
  one_further p f b t s = record {
    count = suc s.count;
    there = omega (arith, s.there);
    within = omega (arith, s.within);
    begins = begun-onward f b (take s.count t) s.begins;
    no_further = λ h begun. s.no_further (omega (arith, h)) (begun-back f b (take (suc s.count) t) begun);
  }

  -- A reader that is open is stuck, or some text goes on.
  pub data Going (r : Reader A) : Type 0 where
    goes : GoesOn r → Going r
    none : r ≡ stuck → Going r

  pub is-going : {r : Reader A} → Open r → Going r
  is-going whole = goes by_result
  is-going closed = none refl
  is-going (each_byte g o) = goes g

  byte-decides : (p : ℕ) (f : ℕ → Reader A) (b : ℕ) (t : List ℕ) {q : ℕ} → GoesOn (ask f) → Going (f b) → read_from (suc p) (f b) t ≡ stopped q
      → (GoesOn (f b) → StopsAt (f b) (suc p) t q) → StopsAt (ask f) p (b ∷ t) q
  unfolding read_from
  byte-decides p f b t g (goes more) e further = one_further p f b t (further more)
  byte-decides p f b t {q} g (none same) e further =
      let e₁ : read_from (suc p) stuck t ≡ stopped q = subst (λ (r : Reader A). read_from (suc p) r t ≡ stopped q) same e in
      refused-here p f b t g same (rw (one-less p) at e₁)

  -- Where a text stops, it stops exactly.
  pub stops-exactly : (p : ℕ) {r : Reader A} (t : List ℕ) {q : ℕ} → Open r → GoesOn r → read_from p r t ≡ stopped q → StopsAt r p t q
  unfolding read_from
  stops-exactly p [] whole g e = absurd (stopped≢held (sym e))
  stops-exactly p (b ∷ t) (whole {a}) g e = record {
    count = 0;
    there = rw (← (same_stop e)) (omega arith);
    within = omega arith;
    begins = record { rest = []; result = a; leads = arrived };
    no_further = λ h begun. give-ends begun.leads;
  }
  stops-exactly p t closed g e = absurd (stuck-goes g)
  stops-exactly p [] (each_byte g₁ o) g e = record {
    count = 0;
    there = rw (← (same_stop e)) (omega arith);
    within = omega arith;
    begins = going g;
    no_further = λ h begun. absurd (omega (arith, h));
  }
  stops-exactly p (b ∷ t) (each_byte {f} g₁ o) g e = byte-decides p f b t g (is-going (o b)) e (λ more. stops-exactly (suc p) t (o b) more e)
