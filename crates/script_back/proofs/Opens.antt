-- The book's beginnings of a node by their first two bytes.
use mathlib.Core.Bool.{Bool, true, false}
use mathlib.Core.List.{List, [], ◌∷◌}
use mathlib.Core.Path.{◌≡◌, refl, sym, ap, subst, ◌∙◌}
use Prim.Native.Nat.{ℕ, suc, ◌+◌, ◌-◌, ◌<◌, ◌≤◌}
use native.Mathlib.Omega.{arith}
use borrow.Author.Tests.{ne_eqb}
use lib.Dec.{eqb}
use lib.ListN.{drop, get_or}
use Rattle.rules.specs.Polynomial.{Atom}
use Rattle.rules.specs.Formula.{Node}
use Rattle.rules.specs.Reader.{Reader, give, stuck, ask}
use Rattle.rules.specs.Combine.{say, given, ◌union◌, open_combine}
use Rattle.rules.specs.Text.{bytes, opening}
use Rattle.script_laws.specs.Steps.{Part, stop, read_part, and_then}
use Rattle.script_polynomial.specs.At.{read_at}
use Rattle.script_back.specs.Runs.{SaidBy, Said}
use Rattle.script_back.specs.Opening.{Further, one, one_given, either, any, Only, OnlyGiven, OfAtom, Allowed, OpenedBy, Opened}
use Rattle.script_back.specs.declared.opening.Opening.{Opening}
use Rattle.script_back.proofs.Positions.{say-then, two_bytes, first_byte, byte_at}
use Rattle.std.specs.Prelude.{Result, Ok, Err}
use Rattle.script_polynomial.specs.declared.Stop.{Stop}

one-back : (p : ℕ) → suc p - 1 ≡ p
one-back p = omega arith

-- ---- the first byte

none_first : (ands ors : Bool) (further : Further) (p : ℕ) (t : List ℕ) → (get_or t 0 0 ≡ 40 → ⊥) → read_part p (any ands ors further) t ≡ stop p
unfolding read_part open_combine opening
none_first true true further p [] h = refl
none_first true false further p [] h = refl
none_first false true further p [] h = refl
none_first false false further p [] h = refl
none_first true true further p (b ∷ t) h = rw (ne_eqb b 40 h, read_part) (ap stop (one-back p))
none_first true false further p (b ∷ t) h = rw (ne_eqb b 40 h, read_part) (ap stop (one-back p))
none_first false true further p (b ∷ t) h = rw (ne_eqb b 40 h, read_part) (ap stop (one-back p))
none_first false false further p (b ∷ t) h = rw (ne_eqb b 40 h, read_part) (ap stop (one-back p))

-- ---- the second byte

module _ (ands ors : Bool) (further : Further) (p : ℕ) (u : List ℕ) where
  abbrev reading : ℕ → Part (Node Atom)
  reading c = read_part p (any ands ors further) (40 ∷ c ∷ u)

-- `(<` and `(>` go on by either,
below : (ands ors : Bool) (further : Further) (p : ℕ) (u : List ℕ) → reading ands ors further p u 60 ≡ read_part (suc (suc p)) (either 4 further) u
unfolding read_part open_combine opening
below true true further p u = refl
below true false further p u = refl
below false true further p u = refl
below false false further p u = refl

above : (ands ors : Bool) (further : Further) (p : ℕ) (u : List ℕ) → reading ands ors further p u 62 ≡ read_part (suc (suc p)) (either 1 further) u
unfolding read_part open_combine opening
above true true further p u = refl
above true false further p u = refl
above false true further p u = refl
above false false further p u = refl

-- the others alone,
equal : (ands ors : Bool) (further : Further) (p : ℕ) (u : List ℕ) → reading ands ors further p u 61 ≡ read_part (suc (suc p)) (say (bytes " ") (further 2)) u
unfolding read_part open_combine opening
equal true true further p u = refl
equal true false further p u = refl
equal false true further p u = refl
equal false false further p u = refl

unequal : (ands ors : Bool) (further : Further) (p : ℕ) (u : List ℕ) → reading ands ors further p u 110 ≡ read_part (suc (suc p)) (say (bytes "ot (= ") (further 5)) u
unfolding read_part open_combine opening
unequal true true further p u = refl
unequal true false further p u = refl
unequal false true further p u = refl
unequal false false further p u = refl

-- and an AND and an OR where they are allowed.
conjunction : (ands ors : Bool) (further : Further) (p : ℕ) (u : List ℕ) → reading ands ors further p u 97 ≡ read_part (suc (suc p)) (one_given ands (bytes "nd") 7 further) u
unfolding read_part open_combine opening
conjunction true true further p u = refl
conjunction true false further p u = refl
conjunction false true further p u = refl
conjunction false false further p u = refl

disjunction : (ands ors : Bool) (further : Further) (p : ℕ) (u : List ℕ) → reading ands ors further p u 111 ≡ read_part (suc (suc p)) (one_given ors (bytes "r") 8 further) u
unfolding read_part open_combine opening
disjunction true true further p u = refl
disjunction true false further p u = refl
disjunction false true further p u = refl
disjunction false false further p u = refl

-- No other byte goes on.
pub record NoSecond (c : ℕ) : Type 0 where
  pub no_below : c ≡ 60 → ⊥
  pub no_above : c ≡ 62 → ⊥
  pub no_equal : c ≡ 61 → ⊥
  pub no_unequal : c ≡ 110 → ⊥
  pub no_and : c ≡ 97 → ⊥
  pub no_or : c ≡ 111 → ⊥

none-second : (ands ors : Bool) (further : Further) (p : ℕ) (t : List ℕ) → NoSecond (get_or t 0 0) → read_part p (any ands ors further) (40 ∷ t) ≡ stop (suc p)
unfolding read_part open_combine opening
none-second true true further p [] other = refl
none-second true false further p [] other = refl
none-second false true further p [] other = refl
none-second false false further p [] other = refl
none-second true true further p (c ∷ t) other =
    rw (ne_eqb c 60 other.no_below, ne_eqb c 62 other.no_above, ne_eqb c 61 other.no_equal, ne_eqb c 110 other.no_unequal, ne_eqb c 97 other.no_and, ne_eqb c 111 other.no_or, read_part) (ap stop (one-back (suc p)))
none-second true false further p (c ∷ t) other =
    rw (ne_eqb c 60 other.no_below, ne_eqb c 62 other.no_above, ne_eqb c 61 other.no_equal, ne_eqb c 110 other.no_unequal, ne_eqb c 97 other.no_and, read_part) (ap stop (one-back (suc p)))
none-second false true further p (c ∷ t) other =
    rw (ne_eqb c 60 other.no_below, ne_eqb c 62 other.no_above, ne_eqb c 61 other.no_equal, ne_eqb c 110 other.no_unequal, ne_eqb c 111 other.no_or, read_part) (ap stop (one-back (suc p)))
none-second false false further p (c ∷ t) other =
    rw (ne_eqb c 60 other.no_below, ne_eqb c 62 other.no_above, ne_eqb c 61 other.no_equal, ne_eqb c 110 other.no_unequal, read_part) (ap stop (one-back (suc p)))

-- ---- what the functions find

-- What is found behind the first bytes is found of the whole.
pub opened-by : {text : List ℕ} {at next : ℕ} {whole rest : Further → Reader (Node Atom)} {May May' : ℕ → Type 0} {o : Result Opening Stop}
    → ((further : Further) → read_at text at (whole further) ≡ read_at text next (rest further)) → ((which : ℕ) → May which → May' which)
    → Opened text next rest May o → Opened text at whole May' o
unfolding OpenedBy
opened-by {o = Err halt} e m h = record { by_opening = λ further. e further ∙ h.by_opening further }
opened-by {o = Ok found} e m h =
    let b = h.by_opening in
    record { by_opening = record { reading = λ further. e further ∙ b.reading further; inside = b.inside; may = m found.which b.may } }

module _ {text : List ℕ} {at : ℕ} {run : List ℕ} {step : Result ℕ Stop} (h : Said text at run step) (which : ℕ) where
  pub beginning-stops : {halt : Stop} → step ≡ Err halt → Opened text at (one run which) (Only which) (Err halt)
  unfolding OpenedBy SaidBy and_then
  beginning-stops e = record {
    by_opening = λ further. say-then at run (further which) (drop at text) ∙ ap (λ (x : Part ℕ). and_then x (λ u q rest. read_part q (further which) rest)) (rw e at h).by_step;
  }

  pub beginning-found : {next : ℕ} → step ≡ Ok next → Opened text at (one run which) (Only which) (Ok (record { which = which; next = next }))
  unfolding OpenedBy SaidBy and_then
  beginning-found e =
      let stand = (rw e at h).by_step in
      record {
        by_opening = record {
          reading = λ further. say-then at run (further which) (drop at text) ∙ ap (λ (x : Part ℕ). and_then x (λ u q rest. read_part q (further which) rest)) stand.reading;
          inside = stand.inside;
          may = record { that = refl };
        };
      }

-- An AND or an OR that is not allowed.
pub joining-stops : (text : List ℕ) (at : ℕ) {allowed : Bool} (run : List ℕ) (which : ℕ) → allowed ≡ false → Opened text at (one_given allowed run which) (OnlyGiven allowed which) (Err (record { at = at - 1 }))
unfolding OpenedBy given read_part
joining-stops text at run which e = record { by_opening = λ further. rw e }

pub joining-goes-on : {text : List ℕ} {at : ℕ} {allowed : Bool} (run : List ℕ) {which : ℕ} {o : Result Opening Stop} → allowed ≡ true → Opened text at (one run which) (Only which) o
    → Opened text at (one_given allowed run which) (OnlyGiven allowed which) o
unfolding given
joining-goes-on run e h = opened-by (λ further. rw e) (λ found is. record { that = is.that; is_allowed = e }) h

union-none : (r : Reader (Node Atom)) → r union stuck ≡ r
unfolding ◌union◌
union-none (give a) = refl
union-none stuck = refl
union-none (ask f) = refl

-- Behind `(<` and `(>` a `=` decides.
with-zero : (set : ℕ) (further : Further) (p : ℕ) (t : List ℕ) → read_part p (either set further) (61 ∷ t) ≡ read_part p (say (bytes "= ") (further (set + 2))) (61 ∷ t)
unfolding read_part open_combine
with-zero set further p t = refl

strict : (set : ℕ) (further : Further) (p : ℕ) (t : List ℕ) → (get_or t 0 0 ≡ 61 → ⊥) → read_part p (either set further) t ≡ read_part p (say (bytes " ") (further set)) t
unfolding read_part open_combine
strict set further p [] h = refl
strict set further p (b ∷ t) h = rw (ne_eqb b 61 h, read_part) (ap (λ (r : Reader (Node Atom)). read_part (suc p) r t) (union-none (given (eqb b 32) (further set))))

module _ {text : List ℕ} {at set : ℕ} (some : 0 < set) (few : set ≤ 4) {o : Result Opening Stop} where
  pub compared-zero : get_or text at 0 ≡ 61 → Opened text at (one (bytes "= ") (set + 2)) (Only (set + 2)) o → Opened text at (either set) OfAtom o
  compared-zero e h =
      let there = first_byte text at 61 e (omega arith) in
      opened-by (λ further. rw there (with-zero set further at (drop (at + 1) text))) (λ found is. record { some = omega (arith, is.that); most = omega (arith, is.that) }) h

  pub compared-strict : (get_or text at 0 ≡ 61 → ⊥) → Opened text at (one (bytes " ") set) (Only set) o → Opened text at (either set) OfAtom o
  compared-strict unlike h =
      opened-by (λ further. strict set further at (drop at text) (λ e. unlike (sym (byte_at text at) ∙ e))) (λ found is. record { some = omega (arith, is.that); most = omega (arith, is.that) }) h

-- All beginnings by their first two bytes.
module _ (text : List ℕ) (at : ℕ) (ands ors : Bool) where
  pub node-stops : (get_or text at 0 ≡ 40 → ⊥) → Opened text at (any ands ors) (Allowed ands ors) (Err (record { at = at }))
  unfolding OpenedBy
  node-stops unlike = record { by_opening = λ further. none_first ands ors further at (drop at text) (λ e. unlike (sym (byte_at text at) ∙ e)) }

  module _ (first : get_or text at 0 ≡ 40) where
    after_two : {A : Type 0} (c : ℕ) (r s : Reader A) → get_or text (at + 1) 0 ≡ c → 0 < c → ((u : List ℕ) → read_part at r (40 ∷ c ∷ u) ≡ read_part (suc (suc at)) s u)
        → read_at text at r ≡ read_at text (at + 2) s
    after_two c r s second some law =
        let next : suc (suc at) ≡ at + 2 = omega arith in
        rw (two_bytes text at 40 c first (omega arith) second some) (law (drop (at + 2) text) ∙ ap (λ (p : ℕ). read_part p s (drop (at + 2) text)) next)

    of-atom : (found : ℕ) → 0 < found → found ≤ 6 → Allowed ands ors found
    of-atom found some few = record { some = some; most = omega arith; an_and = λ e. absurd (omega arith); an_or = λ e. absurd (omega arith) }

    module _ {o : Result Opening Stop} where
      pub node-below : get_or text (at + 1) 0 ≡ 60 → Opened text (at + 2) (either 4) OfAtom o → Opened text at (any ands ors) (Allowed ands ors) o
      node-below e = opened-by (λ further. after_two 60 (any ands ors further) (either 4 further) e (omega arith) (below ands ors further at)) (λ found is. of-atom found is.some is.most)

      pub node-above : get_or text (at + 1) 0 ≡ 62 → Opened text (at + 2) (either 1) OfAtom o → Opened text at (any ands ors) (Allowed ands ors) o
      node-above e = opened-by (λ further. after_two 62 (any ands ors further) (either 1 further) e (omega arith) (above ands ors further at)) (λ found is. of-atom found is.some is.most)

      pub node-equal : get_or text (at + 1) 0 ≡ 61 → Opened text (at + 2) (one (bytes " ") 2) (Only 2) o → Opened text at (any ands ors) (Allowed ands ors) o
      node-equal e = opened-by (λ further. after_two 61 (any ands ors further) (one (bytes " ") 2 further) e (omega arith) (equal ands ors further at)) (λ found is. of-atom found (omega (arith, is.that)) (omega (arith, is.that)))

      pub node-unequal : get_or text (at + 1) 0 ≡ 110 → Opened text (at + 2) (one (bytes "ot (= ") 5) (Only 5) o → Opened text at (any ands ors) (Allowed ands ors) o
      node-unequal e = opened-by (λ further. after_two 110 (any ands ors further) (one (bytes "ot (= ") 5 further) e (omega arith) (unequal ands ors further at)) (λ found is. of-atom found (omega (arith, is.that)) (omega (arith, is.that)))

      pub node-and : get_or text (at + 1) 0 ≡ 97 → Opened text (at + 2) (one_given ands (bytes "nd") 7) (OnlyGiven ands 7) o → Opened text at (any ands ors) (Allowed ands ors) o
      node-and e = opened-by (λ further. after_two 97 (any ands ors further) (one_given ands (bytes "nd") 7 further) e (omega arith) (conjunction ands ors further at))
          (λ found is. record { some = omega (arith, is.that); most = omega (arith, is.that); an_and = λ e. is.is_allowed; an_or = λ e. absurd (omega (arith, is.that)) })

      pub node-or : get_or text (at + 1) 0 ≡ 111 → Opened text (at + 2) (one_given ors (bytes "r") 8) (OnlyGiven ors 8) o → Opened text at (any ands ors) (Allowed ands ors) o
      node-or e = opened-by (λ further. after_two 111 (any ands ors further) (one_given ors (bytes "r") 8 further) e (omega arith) (disjunction ands ors further at))
          (λ found is. record { some = omega (arith, is.that); most = omega (arith, is.that); an_and = λ e. absurd (omega (arith, is.that)); an_or = λ e. is.is_allowed })

    pub node-other : NoSecond (get_or text (at + 1) 0) → Opened text at (any ands ors) (Allowed ands ors) (Err (record { at = at + 1 }))
    unfolding OpenedBy
    node-other other = record {
      by_opening = λ further.
          let next : suc at ≡ at + 1 = omega arith in
          rw (first_byte text at 40 first (omega arith))
          (none-second ands ors further at (drop (at + 1) text) (subst NoSecond (sym (byte_at text (at + 1))) other) ∙ ap stop next);
    }
