-- Leave-out: what is left suffices, and each of it is needed, if fewer are never more than enough.
use Rattle.std.specs.Prelude.{◌≡◌, Bool, ◌+◌, ◌≤◌, length}
use Rattle.std.proofs.Math.Path.{refl, ap, subst}
use Rattle.std.proofs.Common.{sym, ◌∙◌}
use Rattle.std.proofs.Math.Bool.{true, false}
use mathlib.Core.List.{List, [], ◌∷◌, ◌++◌, map, append_assoc, append-nil, map-append}
use native.Mathlib.Omega.{arith}
use Rattle.std.proofs.Math.ListN.{length-append}
use Rattle.rules.specs.Level.{kept_unless}
use Rattle.sign_laws.specs.Booleans.{never_true, never_both}
use Rattle.rules.specs.Reasons.{leave_out_from, leave_out}

-- A list, and the list with any one of it left out.
pub data Without {A : Type 0} : List A → List A → Type 0 where
  this_one : {c : A} {l : List A} → Without (c ∷ l) l
  a_later_one : {c : A} {l m : List A} → Without l m → Without (c ∷ l) (c ∷ m)

-- Fewer are less: what is enough is enough with one more. This may ask something of the lists, which fewer then have too.
pub record FewerAreLess {A : Type 0} (enough : List A → Bool) (Proper : List A → Type 0) : Type 0 where
  pub proper : {l m : List A} → Without l m → Proper l → Proper m
  pub more_are_more : {l m : List A} → Without l m → Proper l → enough m ≡ true → enough l ≡ true

module _ {A : Type 0} where
  abbrev Something : List A → Type 0
  Something [] = ⊥
  Something (c ∷ l) = Unit {0}

  something-left : {l m : List A} → Without l m → Something l
  something-left this_one = tt
  something-left (a_later_one w) = tt

  pub without-before : {l m : List A} (rest : List A) → Without l m → Without (l ++ rest) (m ++ rest)
  without-before rest this_one = this_one
  without-before rest (a_later_one w) = a_later_one (without-before rest w)

  pub without-after : (l : List A) (c : A) (later : List A) → Without (l ++ (c ∷ later)) (l ++ later)
  without-after [] c later = this_one
  without-after (b ∷ l) c later = a_later_one (without-after l c later)

  -- Out of a list with one more at its end: that one, or one before it.
  without-last : (P : List A → Type 0) (l : List A) (c : A) → P l → ((k : List A) → Without l k → P (k ++ (c ∷ [])))
      → {m : List A} → Without (l ++ (c ∷ [])) m → P m
  without-last P [] c last before (a_later_one {m = m} w) = elim w [ ]
  without-last P [] c last before this_one = last
  without-last P (b ∷ l) c last before this_one = before l this_one
  without-last P (b ∷ l) c last before (a_later_one w) =
      without-last (λ m. P (b ∷ m)) l c last (λ k v. before (b ∷ k) (a_later_one v)) w

  gone-or-kept : (gone : Bool) (c : A) (kept later : List A) (P : List A → Type 0) → (gone ≡ true → P (kept ++ later)) → P (kept ++ (c ∷ later))
      → P (kept_unless gone c kept ++ later)
  unfolding kept_unless
  gone-or-kept true c kept later P h k = h refl
  gone-or-kept false c kept later P h k = subst P (sym (append_assoc kept (c ∷ []) later)) k

  module _ (enough : List A → Bool) where
    -- ---- What is left is enough, if all are.

    suffices-from : (kept rest : List A) → enough (kept ++ rest) ≡ true → enough (leave_out_from enough kept rest) ≡ true
    unfolding leave_out_from
    suffices-from kept [] e = rw (append-nil kept) at e
    suffices-from kept (c ∷ later) e =
        suffices-from (kept_unless (enough (kept ++ later)) c kept) later (gone-or-kept (enough (kept ++ later)) c kept later (λ l. enough l ≡ true) (λ k. k) e)

    pub leave_out-suffices : (l : List A) → enough l ≡ true → enough (leave_out enough l) ≡ true
    unfolding leave_out
    leave_out-suffices l e = suffices-from [] l e

    -- ---- Of what is left each is needed, if fewer are less.

    module _ {Proper : List A → Type 0} (less : FewerAreLess enough Proper) where
      -- With any one of those kept so far left out, these and all later ones are not enough.
      record Needed (kept rest : List A) : Type 0 where
        each : (m : List A) → Without kept m → enough (m ++ rest) ≡ false

      needed-next : (gone : Bool) (kept : List A) (c : A) (later : List A) → enough (kept ++ later) ≡ gone → Proper (kept ++ (c ∷ later))
          → Needed kept (c ∷ later) → Needed (kept_unless gone c kept) later
      unfolding kept_unless
      needed-next true kept c later e h k = record {
        each = λ m w. never_true (enough (m ++ later))
            (λ t. never_both (less.more_are_more (without-after m c later) (less.proper (without-before (c ∷ later) w) h) t) (k.each m w));
      }
      needed-next false kept c later e h k = record {
        each = λ m w. without-last (λ j. enough (j ++ later) ≡ false) kept c e
            (λ j v. rw (append_assoc j (c ∷ []) later) (k.each j v)) w;
      }

      needed-from : (kept rest : List A) → Proper (kept ++ rest) → Needed kept rest → Needed (leave_out_from enough kept rest) []
      unfolding leave_out_from
      needed-from kept [] h k = k
      needed-from kept (c ∷ later) h k =
          let gone = enough (kept ++ later) in
          needed-from (kept_unless gone c kept) later (gone-or-kept gone c kept later Proper (λ e. less.proper (without-after kept c later) h) h)
          (needed-next gone kept c later refl h k)

      pub leave_out-needed : (l : List A) → Proper l → {m : List A} → Without (leave_out enough l) m → enough m ≡ false
      unfolding leave_out
      leave_out-needed l h {m} w = rw (append-nil m) at ((needed-from [] l h (record { each = λ m v. absurd (something-left v) })).each m w)

      -- ---- Fewer tests: a beginning without which the rest is enough goes whole. (So one may gallop and halve for the longest one.)

      enough-with : (kept front back : List A) → Proper (kept ++ (front ++ back)) → enough (kept ++ back) ≡ true
          → enough (kept ++ (front ++ back)) ≡ true
      enough-with kept [] back h e = e
      enough-with kept (c ∷ front) back h e =
          let w = without-after kept c (front ++ back) in less.more_are_more w h (enough-with kept front back (less.proper w h) e)

      pub beginning-goes : (kept front back : List A) → Proper (kept ++ (front ++ back)) → enough (kept ++ back) ≡ true
          → leave_out_from enough kept (front ++ back) ≡ leave_out_from enough kept back
      unfolding leave_out_from kept_unless
      beginning-goes kept [] back h e = refl
      beginning-goes kept (c ∷ front) back h e =
          let proper = less.proper (without-after kept c (front ++ back)) h in
          ap (λ (gone : Bool). leave_out_from enough (kept_unless gone c kept) (front ++ back)) (enough-with kept front back proper e)
          ∙ beginning-goes kept front back proper e

      -- Once those kept are enough, all later ones go.
      pub all-later-go : (kept rest : List A) → Proper (kept ++ rest) → enough kept ≡ true → leave_out_from enough kept rest ≡ kept
      unfolding leave_out_from
      all-later-go kept rest h e =
          ap (leave_out_from enough kept) (sym (append-nil rest))
          ∙ beginning-goes kept rest [] (subst (λ (l : List A). Proper (kept ++ l)) (sym (append-nil rest)) h) (ap enough (append-nil kept) ∙ e)

      -- Where the rest is enough from this one on, but not without it, the beginning goes and this one stays.
      pub next-stays : (kept front : List A) (c : A) (back : List A) → Proper (kept ++ (front ++ (c ∷ back))) → enough (kept ++ (c ∷ back)) ≡ true
          → enough (kept ++ back) ≡ false → leave_out_from enough kept (front ++ (c ∷ back)) ≡ leave_out_from enough (kept ++ (c ∷ [])) back
      unfolding leave_out_from kept_unless
      next-stays kept front c back h e f =
          beginning-goes kept front (c ∷ back) h e ∙ ap (λ (gone : Bool). leave_out_from enough (kept_unless gone c kept) back) f

      -- A list without a beginning of what is left is proper.
      pub proper-later : (kept front back : List A) → Proper (kept ++ (front ++ back)) → Proper (kept ++ back)
      proper-later kept [] back h = h
      proper-later kept (c ∷ front) back h = proper-later kept front back (less.proper (without-after kept c (front ++ back)) h)

-- What is left of a list is no longer than it, and may be asked of what stands for its elements.
module _ {A : Type 0} where
  kept-short : (gone : Bool) (c : A) (kept : List A) → length (kept_unless gone c kept) ≤ length kept + 1
  unfolding kept_unless
  kept-short true c kept = omega arith
  kept-short false c kept = omega (arith, length-append kept (c ∷ []))

  from-short : (enough : List A → Bool) (kept rest : List A) → length (leave_out_from enough kept rest) ≤ length kept + length rest
  unfolding leave_out_from
  from-short enough kept [] = omega arith
  from-short enough kept (c ∷ later) =
      omega (arith, from-short enough (kept_unless (enough (kept ++ later)) c kept) later, kept-short (enough (kept ++ later)) c kept)

  pub leave_out-short : (enough : List A → Bool) (l : List A) → length (leave_out enough l) ≤ length l
  unfolding leave_out
  leave_out-short enough l = omega (arith, from-short enough [] l)

module _ {A B : Type 0} (f : A → B) (enough : List B → Bool) where
  kept_map : (gone : Bool) (c : A) (kept : List A) → map f (kept_unless gone c kept) ≡ kept_unless gone (f c) (map f kept)
  unfolding kept_unless
  kept_map true c kept = refl
  kept_map false c kept = map-append f kept (c ∷ [])

  from-map : (kept rest : List A) → map f (leave_out_from (λ (l : List A). enough (map f l)) kept rest) ≡ leave_out_from enough (map f kept) (map f rest)
  unfolding leave_out_from
  from-map kept [] = refl
  from-map kept (c ∷ later) =
      let gone = enough (map f (kept ++ later)) in
      from-map (kept_unless gone c kept) later
      ∙ ap (λ (k : List B). leave_out_from enough k (map f later)) (kept_map gone c kept)
      ∙ ap (λ (l : List B). leave_out_from enough (kept_unless (enough l) (f c) (map f kept)) (map f later)) (map-append f kept later)

  pub leave_out-map : (l : List A) → map f (leave_out (λ (m : List A). enough (map f m)) l) ≡ leave_out enough (map f l)
  unfolding leave_out
  leave_out-map l = from-map [] l
