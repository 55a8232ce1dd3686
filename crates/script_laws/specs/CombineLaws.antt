-- Which texts the readers lead on that are put together, and that they stay fine: some text goes on at first, and wherever a byte is taken.
use Rattle.std.specs.Prelude.{Bool, not, ◌&&◌, ◌||◌, ◌⊎◌, ◌≡◌, ℕ, eqb}
use Rattle.std.proofs.Math.Bool.{true, false}
use Rattle.std.proofs.lemmas.Bool.{false≢true}
use mathlib.Core.List.{List, [], ◌∷◌, ◌++◌}
use mathlib.Core.List.Memᴰ.{head as here}
use mathlib.Core.List.Memᴰ.{not-nil as not-in-none}
use mathlib.Core.List.Memᴰ.{tail as later}
use mathlib.Core.List.{Memᴰ as Member}
use Rattle.std.proofs.Common.{inl, inr, ⊎_elim, sym, subst₂, ◌∙◌, eqb-true, eq-eqb}
use Rattle.std.proofs.Math.Path.{refl, ap, ap₂, subst}
use Rattle.sign_laws.specs.Booleans.{and_first, and_second}
use Rattle.rules.specs.Reader.{Reader, give, stuck, ask}
use Rattle.script_laws.specs.Leading.{Leads, arrived, onward, GoesOn, by_result, by_byte, Open, whole, closed, each_byte, stuck-none}
use Rattle.rules.specs.Combine.{given, say, ◌then◌, ◌union◌, Choice, one_of, drop_if, after, is_some, only}

pub record Fine {A : Type 0} (r : Reader A) : Type 0 where
  pub everywhere : Open r
  pub at_first : GoesOn r

module _ {A : Type 0} where
  pub fine-give : (a : A) → Fine (give a)
  fine-give a = record { everywhere = whole; at_first = by_result }

  pub give-leads : {c : A} {t : List ℕ} {a : A} → Leads (give c) t a → (t ≡ []) × (c ≡ a)
  give-leads arrived = (refl, refl)

  -- ---- Only where it is allowed.

  pub given-leads : (test : Bool) {r : Reader A} {t : List ℕ} {a : A} → Leads (given test r) t a → (test ≡ true) × Leads r t a
  unfolding given
  given-leads true way = (refl, way)
  given-leads false way = absurd (stuck-none way)

  pub leads-given : {test : Bool} {r : Reader A} {t : List ℕ} {a : A} → test ≡ true → Leads r t a → Leads (given test r) t a
  unfolding given
  leads-given {r = r} {t} {a} e way = rw e way

  pub open-given : (test : Bool) {r : Reader A} → (test ≡ true → Open r) → Open (given test r)
  unfolding given
  open-given true h = h refl
  open-given false h = closed

  pub goes_given : {test : Bool} {r : Reader A} → test ≡ true → GoesOn r → GoesOn (given test r)
  unfolding given
  goes_given e h = rw e h

  -- ---- These bytes, and then the rest.

  pub record Behind (s : List ℕ) (r : Reader A) (t : List ℕ) (a : A) : Type 0 where
    pub rest : List ℕ
    pub whole : t ≡ s ++ rest
    pub leads : Leads r rest a

  pub said : (s : List ℕ) {r : Reader A} {u : List ℕ} {a : A} → Leads r u a → Leads (say s r) (s ++ u) a
  unfolding say
  said [] way = way
  said (c ∷ s) way = onward c (leads-given (eq-eqb c c refl) (said s way))

  pub say-leads : (s : List ℕ) {r : Reader A} {t : List ℕ} {a : A} → Leads (say s r) t a → Behind s r t a
  unfolding say
  say-leads [] {t = t} way = record { rest = t; whole = refl; leads = way }
  say-leads (c ∷ s) (onward b way) =
      let (same, further) = given-leads (eqb b c) way in
      let later = say-leads s further in
      record { rest = later.rest; whole = ap₂ ◌∷◌ (eqb-true b c same) later.whole; leads = later.leads }

  -- Just these bytes, and a result.
  pub said-giving : (s : List ℕ) (a : A) → Leads (say s (give a)) s a
  unfolding say
  said-giving [] a = arrived
  said-giving (c ∷ s) a = onward c (leads-given (eq-eqb c c refl) (said-giving s a))

  pub say-gives : (s : List ℕ) {c : A} {t : List ℕ} {a : A} → Leads (say s (give c)) t a → (t ≡ s) × (c ≡ a)
  unfolding say
  say-gives [] way = give-leads way
  say-gives (d ∷ s) (onward b way) =
      let (same, further) = given-leads (eqb b d) way in
      let (text, result) = say-gives s further in
      (ap₂ ◌∷◌ (eqb-true b d same) text, result)

  -- The same as one thing: the text and the result are these.
  pub data Just (s : List ℕ) (c : A) : List ℕ → A → Type 0 where
    just : Just s c s c

  pub say-just : (s : List ℕ) {c : A} {t : List ℕ} {a : A} → Leads (say s (give c)) t a → Just s c t a
  say-just s {c} way = let (text, result) = say-gives s way in subst₂ (Just s c) (sym text) result just

  pub goes-say : (s : List ℕ) {r : Reader A} → GoesOn r → GoesOn (say s r)
  unfolding say
  goes-say [] h = h
  goes-say (c ∷ s) h = by_byte c (goes_given (eq-eqb c c refl) (goes-say s h))

  pub open-say : (s : List ℕ) {r : Reader A} → Fine r → Open (say s r)
  unfolding say
  open-say [] h = h.everywhere
  open-say (c ∷ s) h = each_byte (goes-say (c ∷ s) h.at_first) (λ b. open-given (eqb b c) (λ same. open-say s h))

  pub fine-say : (s : List ℕ) {r : Reader A} → Fine r → Fine (say s r)
  fine-say s h = record { everywhere = open-say s h; at_first = goes-say s h.at_first }

-- ---- One reader, and then one that may depend on what it gave.

module _ {A B : Type 0} where
  pub record Both (r : Reader A) (more : A → Reader B) (t : List ℕ) (c : B) : Type 0 where
    pub result : A
    pub first : List ℕ
    pub second : List ℕ
    pub parts : t ≡ first ++ second
    pub leads-first : Leads r first result
    pub leads-second : Leads (more result) second c

  pub leads-then : {r : Reader A} (more : A → Reader B) {t u : List ℕ} {a : A} {c : B} → Leads r t a → Leads (more a) u c → Leads (r then more) (t ++ u) c
  unfolding ◌then◌
  leads-then more arrived second = second
  leads-then more (onward b way) second = onward b (leads-then more way second)

  pub then-leads : (r : Reader A) (more : A → Reader B) {t : List ℕ} {c : B} → Leads (r then more) t c → Both r more t c
  unfolding ◌then◌
  then-leads (give a) more {t} way = record { result = a; first = []; second = t; parts = refl; leads-first = arrived; leads-second = way }
  then-leads stuck more way = absurd (stuck-none way)
  then-leads (ask f) more (onward b way) =
      let later = then-leads (f b) more way in
      record {
        result = later.result;
        first = b ∷ later.first;
        second = later.second;
        parts = ap (λ (l : List ℕ). b ∷ l) later.parts;
        leads-first = onward b later.leads-first;
        leads-second = later.leads-second;
      }

  goes_then : {r : Reader A} (more : A → Reader B) → GoesOn r → ((t : List ℕ) (a : A) → Leads r t a → Fine (more a)) → GoesOn (r then more)
  unfolding ◌then◌
  goes_then more (by_result {a}) h = (h [] a arrived).at_first
  goes_then more (by_byte b g) h = by_byte b (goes_then more g (λ t a way. h (b ∷ t) a (onward b way)))

  open-then : {r : Reader A} (more : A → Reader B) → Open r → ((t : List ℕ) (a : A) → Leads r t a → Fine (more a)) → Open (r then more)
  unfolding ◌then◌
  open-then more (whole {a}) h = (h [] a arrived).everywhere
  open-then more closed h = closed
  open-then more (each_byte {f} g o) h =
      each_byte (goes_then more g h) (λ b. open-then more (o b) (λ t a way. h (b ∷ t) a (onward b way)))

  -- "a stop in the first is exact if every result of it leaves the second something"
  pub fine-then : {r : Reader A} (more : A → Reader B) → Fine r → ((t : List ℕ) (a : A) → Leads r t a → Fine (more a)) → Fine (r then more)
  fine-then more fine h = record { everywhere = open-then more fine.everywhere h; at_first = goes_then more fine.at_first h }

-- What a reader reads: just the texts of the things that have the property, each as that thing; and where it stops, it stops exactly.
pub record Reads {A : Type 0} (r : Reader A) (P : A → Type 0) (text : A → List ℕ) : Type 0 where
  pub fine : Fine r
  pub there : (a : A) → P a → Leads r (text a) a
  pub back : (t : List ℕ) (a : A) → Leads r t a → P a × (t ≡ text a)

module _ {A B : Type 0} where
  -- A text behind that of a thing which the first reader read.
  pub data Passed (P : A → Type 0) (text : A → List ℕ) (more : A → Reader B) : List ℕ → B → Type 0 where
    passed : (a : A) → P a → (u : List ℕ) {c : B} → Leads (more a) u c → Passed P text more (text a ++ u) c

  pub read-then : {r : Reader A} {P : A → Type 0} {text : A → List ℕ} → Reads r P text → (more : A → Reader B) {t : List ℕ} {c : B} → Leads (r then more) t c
      → Passed P text more t c
  read-then {r} {P} {text} reads more {t} {c} way =
      let both = then-leads r more way in
      let (fits, same) = reads.back both.first both.result both.leads-first in
      subst (λ (l : List ℕ). Passed P text more l c) (sym (both.parts ∙ ap (λ (l : List ℕ). l ++ both.second) same))
      (passed both.result fits both.second both.leads-second)

  pub then_read : {r : Reader A} {P : A → Type 0} {text : A → List ℕ} → Reads r P text → (more : A → Reader B) (a : A) → P a → {u : List ℕ} {c : B} → Leads (more a) u c
      → Leads (r then more) (text a ++ u) c
  then_read reads more a fits way = leads-then more (reads.there a fits) way

  pub fine-read : {r : Reader A} {P : A → Type 0} {text : A → List ℕ} → Reads r P text → (more : A → Reader B) → ((a : A) → P a → Fine (more a)) → Fine (r then more)
  fine-read reads more h = fine-then more reads.fine (λ t a way. h a (reads.back t a way).0)

-- ---- The texts of both.

module _ {A : Type 0} where
  -- No whole text of the one begins a text of the other.
  pub data Apart : Reader A → Reader A → Type 0 where
    left-stuck : {r : Reader A} → Apart stuck r
    right-stuck : {r : Reader A} → Apart r stuck
    bytes_apart : {f g : ℕ → Reader A} → ((b : ℕ) → Apart (f b) (g b)) → Apart (ask f) (ask g)

  or-stuck : (r : Reader A) → r union stuck ≡ r
  unfolding ◌union◌
  or-stuck (give a) = refl
  or-stuck stuck = refl
  or-stuck (ask f) = refl

  pub leads-left : {r s : Reader A} → Apart r s → {t : List ℕ} {a : A} → Leads r t a → Leads (r union s) t a
  unfolding ◌union◌
  leads-left left-stuck way = absurd (stuck-none way)
  leads-left (right-stuck {r}) way = rw (or-stuck r) way
  leads-left (bytes_apart h) (onward b way) = onward b (leads-left (h b) way)

  pub leads-right : {r s : Reader A} → Apart r s → {t : List ℕ} {a : A} → Leads s t a → Leads (r union s) t a
  unfolding ◌union◌
  leads-right left-stuck way = way
  leads-right right-stuck way = absurd (stuck-none way)
  leads-right (bytes_apart h) (onward b way) = onward b (leads-right (h b) way)

  pub data Either (r s : Reader A) (t : List ℕ) (a : A) : Type 0 where
    by_left : Leads r t a → Either r s t a
    by_right : Leads s t a → Either r s t a

  either-onward : {f g : ℕ → Reader A} (b : ℕ) {t : List ℕ} {a : A} → Either (f b) (g b) t a → Either (ask f) (ask g) (b ∷ t) a
  either-onward b (by_left way) = by_left (onward b way)
  either-onward b (by_right way) = by_right (onward b way)

  pub or-leads : (r s : Reader A) {t : List ℕ} {a : A} → Leads (r union s) t a → Either r s t a
  unfolding ◌union◌
  or-leads (give c) s way = by_left way
  or-leads stuck s way = by_right way
  or-leads (ask f) (give c) way = by_right way
  or-leads (ask f) stuck way = by_left way
  or-leads (ask f) (ask g) (onward b way) = either-onward b (or-leads (f b) (g b) way)

  pub goes_left : {r : Reader A} (s : Reader A) → GoesOn r → GoesOn (r union s)
  unfolding ◌union◌
  goes_left s by_result = by_result
  goes_left (give a) (by_byte b g) = by_result
  goes_left stuck (by_byte b g) = by_byte b g
  goes_left (ask f) (by_byte b g) = by_byte b (goes_left (f b) g)

  pub goes-right : (r : Reader A) {s : Reader A} → GoesOn s → GoesOn (r union s)
  unfolding ◌union◌
  goes-right (give a) g = by_result
  goes-right stuck g = g
  goes-right (ask f) by_result = by_result
  goes-right (ask f) (by_byte b g) = by_byte b (goes-right (f b) g)

  pub open-or : {r s : Reader A} → Open r → Open s → Open (r union s)
  unfolding ◌union◌
  open-or whole k = whole
  open-or closed k = k
  open-or (each_byte g o) whole = whole
  open-or (each_byte g o) closed = each_byte g o
  open-or (each_byte g o) (each_byte {f} g₁ k) = each_byte (goes_left (ask f) g) (λ b. open-or (o b) (k b))

  -- ---- One of several beginnings.

  pub both-given : (p q : Bool) {r s : Reader A} → (p ≡ true → q ≡ true → Apart r s) → Apart (given p r) (given q s)
  unfolding given
  both-given false q h = left-stuck
  both-given true false h = right-stuck
  both-given true true h = h refl refl

  pub apart-or : {r s u : Reader A} → Apart r s → Apart r u → Apart r (s union u)
  unfolding ◌union◌
  apart-or left-stuck k = left-stuck
  apart-or right-stuck k = k
  apart-or (bytes_apart h) right-stuck = bytes_apart h
  apart-or (bytes_apart h) (bytes_apart k) = bytes_apart (λ b. apart-or (h b) (k b))

  pub or_apart : {r s u : Reader A} → Apart r u → Apart s u → Apart (r union s) u
  unfolding ◌union◌
  or_apart left-stuck k = k
  or_apart right-stuck k = right-stuck
  or_apart (bytes_apart h) left-stuck = bytes_apart h
  or_apart (bytes_apart h) (bytes_apart k) = bytes_apart (λ b. or_apart (h b) (k b))

-- Do two texts differ at some place that both have?
unfoldable pub differ : List ℕ → List ℕ → Bool
differ [] u = false
differ (b ∷ t) [] = false
differ (b ∷ t) (c ∷ u) = not (eqb b c) || differ t u

same-then-differ : (x b c : ℕ) (further : Bool) → not (eqb b c) || further ≡ true → eqb x b ≡ true → eqb x c ≡ true → further ≡ true
same-then-differ x b c further d p q = rw (eq-eqb b c (sym (eqb-true x b p) ∙ eqb-true x c q)) at d

module _ {A : Type 0} where
  pub said-apart : (s u : List ℕ) (r q : Reader A) → differ s u ≡ true → Apart (say s r) (say u q)
  unfolding differ say
  said-apart [] u r q d = absurd (false≢true d)
  said-apart (b ∷ s) [] r q d = absurd (false≢true d)
  said-apart (b ∷ s) (c ∷ u) r q d = bytes_apart (λ x. both-given (eqb x b) (eqb x c) (λ h k. said-apart s u r q (same-then-differ x b c (differ s u) d h k)))

  unfoldable pub differs_from_all : List ℕ → List (Choice A) → Bool
  differs_from_all s [] = true
  differs_from_all s (c ∷ cs) = differ s c.beginning && differs_from_all s cs

  -- The beginnings of these choices are told apart.
  unfoldable pub tellable : List (Choice A) → Bool
  tellable [] = true
  tellable (c ∷ cs) = differs_from_all c.beginning cs && tellable cs

  pub choices-apart : (p : Bool) (s : List ℕ) (r : Reader A) (cs : List (Choice A)) → differs_from_all s cs ≡ true → Apart (given p (say s r)) (one_of cs)
  unfolding differs_from_all one_of
  choices-apart p s r [] d = right-stuck
  choices-apart p s r (c ∷ cs) d =
      apart-or (both-given p c.allowed (λ e k. said-apart s c.beginning r c.further (and_first (differ s c.beginning) (differs_from_all s cs) d)))
      (choices-apart p s r cs (and_second (differ s c.beginning) (differs_from_all s cs) d))

  -- Which of the choices a text takes.
  pub data Chosen : List (Choice A) → List ℕ → A → Type 0 where
    this : {c : Choice A} {cs : List (Choice A)} (u : List ℕ) {a : A} → c.allowed ≡ true → Leads c.further u a → Chosen (c ∷ cs) (c.beginning ++ u) a
    other : {c : Choice A} {cs : List (Choice A)} {t : List ℕ} {a : A} → Chosen cs t a → Chosen (c ∷ cs) t a

  pub leads-chosen : (cs : List (Choice A)) {t : List ℕ} {a : A} → Leads (one_of cs) t a → Chosen cs t a
  unfolding one_of
  leads-chosen [] way = absurd (stuck-none way)
  leads-chosen (c ∷ cs) way = by-either c cs (or-leads (given c.allowed (say c.beginning c.further)) (one_of cs) way) (λ w. leads-chosen cs w)
    where
      by-either : (c : Choice A) (cs : List (Choice A)) {t : List ℕ} {a : A} → Either (given c.allowed (say c.beginning c.further)) (one_of cs) t a
          → (Leads (one_of cs) t a → Chosen cs t a) → Chosen (c ∷ cs) t a
      by-either c cs {t} {a} (by_left w) h =
          let (e, k) = given-leads c.allowed w in
          let found = say-leads c.beginning k in
          subst (λ (l : List ℕ). Chosen (c ∷ cs) l a) (sym found.whole) (this found.rest e found.leads)
      by-either c cs (by_right w) h = other (h w)

  pub chosen-leads : (cs : List (Choice A)) {t : List ℕ} {a : A} → tellable cs ≡ true → Chosen cs t a → Leads (one_of cs) t a
  unfolding one_of tellable
  chosen-leads [] {t = t} {a = a} told x'' = elim x'' [ ]
  chosen-leads (c ∷ cs) told (this u e way) =
      leads-left (choices-apart c.allowed c.beginning c.further cs (and_first (differs_from_all c.beginning cs) (tellable cs) told))
      (leads-given e (said c.beginning way))
  chosen-leads (c ∷ cs) told (other h) =
      leads-right (choices-apart c.allowed c.beginning c.further cs (and_first (differs_from_all c.beginning cs) (tellable cs) told))
      (chosen-leads cs (and_second (differs_from_all c.beginning cs) (tellable cs) told) h)

  -- What follows each allowed choice is fine.
  pub data AllFine : List (Choice A) → Type 0 where
    no-choice : AllFine []
    choices : {c : Choice A} {cs : List (Choice A)} → (c.allowed ≡ true → Fine c.further) → AllFine cs → AllFine (c ∷ cs)

  pub open-choices : {cs : List (Choice A)} → AllFine cs → Open (one_of cs)
  unfolding one_of
  open-choices no-choice = closed
  open-choices (choices {c} h hs) = open-or (open-given c.allowed (λ e. open-say c.beginning (h e))) (open-choices hs)

  -- With the first of them allowed, they are fine.
  pub fine-choices : {c : Choice A} {cs : List (Choice A)} → c.allowed ≡ true → AllFine (c ∷ cs) → Fine (one_of (c ∷ cs))
  unfolding one_of
  fine-choices {c} {cs} e (choices h hs) = record {
    everywhere = open-choices (choices h hs);
    at_first = goes_left (one_of cs) (goes_given e (goes-say c.beginning (h e).at_first));
  }

  -- ---- Only these texts, each of which leads to a result.

  pub data Led (r : Reader A) : List (List ℕ) → Type 0 where
    led-none : Led r []
    led : {t : List ℕ} {texts : List (List ℕ)} {a : A} → Leads r t a → Led r texts → Led r (t ∷ texts)

  led-dropped : (test : Bool) {r : Reader A} {t : List ℕ} {a : A} {texts : List (List ℕ)} → (test ≡ true → Leads r t a) → Led r texts → Led r (drop_if test t texts)
  unfolding drop_if
  led-dropped true h hs = led (h refl) hs
  led-dropped false h hs = hs

  led-after : {f : ℕ → Reader A} (b : ℕ) {texts : List (List ℕ)} → Led (ask f) texts → Led (f b) (after b texts)
  unfolding after
  led-after b led-none = led-none
  led-after {f} b (led (onward {t = t} {a = a} c way) hs) =
      led-dropped (eqb b c) (λ e. subst (λ (x : ℕ). Leads (f x) t a) (sym (eqb-true b c e)) way) (led-after b hs)

  led-result : {a : A} {texts : List (List ℕ)} → is_some texts ≡ true → Led (give a) texts → Member [] texts
  unfolding is_some
  led-result some led-none = absurd (false≢true some)
  led-result some (led arrived hs) = here refl

-- A text that begins with this byte is among those, without it.
in-dropped : (test : Bool) (t : List ℕ) (texts : List (List ℕ)) → test ≡ true → Member t (drop_if test t texts)
unfolding drop_if
in-dropped true t texts e = here refl
in-dropped false t texts e = absurd (false≢true e)

dropped_keeps : (test : Bool) {t : List ℕ} (u : List ℕ) {texts : List (List ℕ)} → Member t texts → Member t (drop_if test u texts)
unfolding drop_if
dropped_keeps true u m = later m
dropped_keeps false u m = m

after-keeps : (b : ℕ) {t : List ℕ} (u : List ℕ) (texts : List (List ℕ)) → Member t (after b texts) → Member t (after b (u ∷ texts))
unfolding after
after-keeps b [] texts m = m
after-keeps b (c ∷ u) texts m = dropped_keeps (eqb b c) u m

member-after : (b : ℕ) (t : List ℕ) {texts : List (List ℕ)} → Member (b ∷ t) texts → Member t (after b texts)
unfolding after
member-after b t (here {xs = xs} e) = subst (λ (u : List ℕ). Member t (after b (u ∷ xs))) e (in-dropped (eqb b b) t (after b xs) (eq-eqb b b refl))
member-after b t (later {x} {xs} m) = after-keeps b x xs (member-after b t m)

dropped-member : (test : Bool) {t u : List ℕ} {texts : List (List ℕ)} → Member t (drop_if test u texts) → ((test ≡ true) × (t ≡ u)) ⊎ Member t texts
unfolding drop_if
dropped-member true (here e) = inl (refl, e)
dropped-member true (later m) = inr m
dropped-member false m = inr m

after-member : (b : ℕ) (t : List ℕ) (texts : List (List ℕ)) → Member t (after b texts) → Member (b ∷ t) texts
unfolding after
after-member b t [] m = absurd (not-in-none m)
after-member b t ([] ∷ texts) m = later (after-member b t texts m)
after-member b t ((c ∷ u) ∷ texts) m = ⊎_elim (λ k. here (ap₂ ◌∷◌ (eqb-true b c k.0) k.1)) (λ k. later (after-member b t texts k)) (dropped-member (eqb b c) m)

member-some : {t : List ℕ} {texts : List (List ℕ)} → Member t texts → is_some texts ≡ true
unfolding is_some
member-some (here e) = refl
member-some (later m) = refl

module _ {A : Type 0} where
  pub leads-only : {r : Reader A} (texts : List (List ℕ)) {t : List ℕ} {a : A} → Leads r t a → Member t texts → Leads (only texts r) t a
  unfolding only
  leads-only texts arrived m = arrived
  leads-only texts (onward {t = t} b way) m = onward b (leads-given (member-some (member-after b t m)) (leads-only (after b texts) way (member-after b t m)))

  leads_goes : {r : Reader A} {t : List ℕ} {a : A} → Leads r t a → GoesOn r
  leads_goes arrived = by_result
  leads_goes (onward b way) = by_byte b (leads_goes way)

  goes-led : {r : Reader A} {texts : List (List ℕ)} → is_some texts ≡ true → Led r texts → GoesOn (only texts r)
  unfolding is_some
  goes-led some led-none = absurd (false≢true some)
  goes-led some (led {t} {texts} way hs) = leads_goes (leads-only (t ∷ texts) way (here refl))

  pub only-leads : (r : Reader A) (texts : List (List ℕ)) {t : List ℕ} {a : A} → is_some texts ≡ true → Led r texts → Leads (only texts r) t a → Leads r t a × Member t texts
  unfolding only
  only-leads (give c) texts some h arrived = (arrived, led-result some h)
  only-leads stuck texts some h way = absurd (stuck-none way)
  only-leads (ask f) texts some h (onward {t = t} b way) =
      let (more, further) = given-leads (is_some (after b texts)) way in
      let (leads, member) = only-leads (f b) (after b texts) more (led-after b h) further in
      (onward b leads, after-member b t texts member)

  open-only : (r : Reader A) (texts : List (List ℕ)) → is_some texts ≡ true → Led r texts → Open (only texts r)
  unfolding only
  open-only (give c) texts some h = whole
  open-only stuck texts some h = closed
  open-only (ask f) texts some h = each_byte (goes-led some h) (λ b. open-given (is_some (after b texts)) (λ more. open-only (f b) (after b texts) more (led-after b h)))

  pub fine-only : (r : Reader A) (texts : List (List ℕ)) → is_some texts ≡ true → Led r texts → Fine (only texts r)
  fine-only r texts some h = record { everywhere = open-only r texts some h; at_first = goes-led some h }
