-- The declarations by their second byte: `d` for another one, `a` for the assertion.
use mathlib.Core.Bool.{Bool, true, false, ◌||◌, ◌&&◌, false≢true}
use mathlib.Core.List.{List, [], ◌∷◌, ◌++◌}
use mathlib.Core.Path.{◌≡◌, refl, sym, ap, ◌∙◌}
use Prim.Native.Nat.{ℕ, suc, ◌+◌, ◌-◌, ◌<◌, ◌≤◌}
use native.Mathlib.Omega.{arith}
use borrow.Author.Tests.{lt-ltb, eq-eqb, ne_eqb, eqb-true, eqb-false, ltb-true}
use lib.Dec.{eqb, ltb}
use lib.ListN.{length, drop, get_or, length-append}
use lib.Seq.{get_or-drop}
use Rattle.rules.specs.Reader.{Reader, give, stuck, ask}
use Rattle.rules.specs.Combine.{given, say, ◌union◌, one_of, open_combine}
use Rattle.rules.specs.Text.{bytes, letter, declaration}
use Rattle.rules.specs.Reading.{choice, root, declarations_from}
use Rattle.script_laws.specs.Steps.{Part, got, stop, read_part, and_then}
use Rattle.script_polynomial.specs.At.{read_at}
use Rattle.script_back.specs.Runs.{just, SaidBy, Said}
use Rattle.script_back.specs.Whole.{all_declared, DeclaredBy, DeclaredFound}
use Rattle.script_back.specs.declared.declarations.Declared.{Declared}
use Rattle.script_back.proofs.Positions.{say-then, first_byte, byte_at, stands-inside}
use Rattle.std.specs.Prelude.{Result, Ok, Err}
use Rattle.script_polynomial.specs.declared.Stop.{Stop}

one-back : (p : ℕ) → suc p - 1 ≡ p
one-back p = omega arith

-- ---- two runs

say-append : {A : Type 0} (p : ℕ) (xs ys : List ℕ) (r : Reader A) (t : List ℕ) → read_part p (say (xs ++ ys) r) t ≡ read_part p (say xs (say ys r)) t
unfolding read_part open_combine
say-append p [] ys r t = refl
say-append p (c ∷ xs) ys r [] = refl
say-append p (c ∷ xs) ys r (b ∷ t) = by-test (eqb b c) (say-append (suc p) xs ys r t)
  where
    by-test : (x : Bool) → read_part (suc p) (say (xs ++ ys) r) t ≡ read_part (suc p) (say xs (say ys r)) t
        → read_part (suc p) (given x (say (xs ++ ys) r)) t ≡ read_part (suc p) (given x (say xs (say ys r))) t
    by-test true later = later
    by-test false later = refl

module _ {text : List ℕ} {at : ℕ} {xs : List ℕ} (ys : List ℕ) {step : Result ℕ Stop} (h : Said text at xs step) where
  both_runs : read_at text at (just (xs ++ ys)) ≡ and_then (read_at text at (just xs)) (λ x q u. read_part q (just ys) u)
  both_runs = say-append at xs ys (give 0) (drop at text) ∙ say-then at xs (just ys) (drop at text)

  pub said-stops : {halt : Stop} → step ≡ Err halt → Said text at (xs ++ ys) (Err halt)
  unfolding SaidBy and_then
  said-stops e = record { by_step = both_runs ∙ ap (λ (x : Part ℕ). and_then x (λ x q u. read_part q (just ys) u)) (rw e at h).by_step }

  pub said-both : {next : ℕ} {last : Result ℕ Stop} → step ≡ Ok next → Said text next ys last → Said text at (xs ++ ys) last
  unfolding SaidBy and_then
  said-both {last = Err halt} e g = record { by_step = both_runs ∙ ap (λ (x : Part ℕ). and_then x (λ x q u. read_part q (just ys) u)) (rw e at h).by_step.reading ∙ g.by_step }
  said-both {last = Ok behind} e g =
      let first = (rw e at h).by_step in
      let second = g.by_step in
      record {
        by_step = record {
          reading = both_runs ∙ ap (λ (x : Part ℕ). and_then x (λ x q u. read_part q (just ys) u)) first.reading ∙ second.reading;
          behind = omega (arith, first.behind, second.behind, length-append xs ys);
          inside = second.inside;
        };
      }

-- ---- one byte and a run

module _ (text : List ℕ) (at c : ℕ) (ys : List ℕ) where
  pub byte-stops : (get_or text at 0 ≡ c → ⊥) → Said text at (c ∷ ys) (Err (record { at = at }))
  unfolding SaidBy read_part open_combine
  byte-stops unlike = record { by_step = by-list (drop at text) (λ e. unlike (sym (byte_at text at) ∙ e)) }
    where
      by-list : (t : List ℕ) → (get_or t 0 0 ≡ c → ⊥) → read_part at (just (c ∷ ys)) t ≡ stop at
      by-list [] h = refl
      by-list (b ∷ t) h = rw (ne_eqb b c h, read_part) (ap stop (one-back at))

  pub byte-said : {last : Result ℕ Stop} → 0 < c → get_or text at 0 ≡ c → Said text (at + 1) ys last → Said text at (c ∷ ys) last
  unfolding SaidBy read_part open_combine
  byte-said some e g = said-both ys {step = Ok (at + 1)} one_byte refl g
    where
      one_byte : Said text at (c ∷ []) (Ok (at + 1))
      one_byte = record {
        by_step = record {
          reading = ap (read_part at (just (c ∷ []))) (first_byte text at c e some) ∙ rw (eq-eqb c c refl, read_part) (ap (λ (q : ℕ). got 0 q (drop (at + 1) text)) (omega arith));
          behind = refl;
          inside = omega (arith, stands-inside text at c e some);
        };
      }

-- ---- the fork

module _ {A : Type 0} (xs ys : List ℕ) (x y : Reader A) where
  abbrev fork : Bool → Reader A
  fork b = one_of (choice true (40 ∷ 100 ∷ xs) x ∷ choice b (40 ∷ 97 ∷ ys) y ∷ [])

  union-none : (r : Reader A) → r union stuck ≡ r
  unfolding ◌union◌
  union-none (give a) = refl
  union-none stuck = refl
  union-none (ask f) = refl

  fork-first : (b : Bool) (p : ℕ) (t : List ℕ) → (b ≡ true → get_or t 1 0 ≡ 97 → ⊥) → read_part p (fork b) t ≡ read_part p (say (40 ∷ 100 ∷ xs) x) t
  unfolding read_part open_combine
  fork-first false p [] h = refl
  fork-first false p (c ∷ t) h = refl
  fork-first true p [] h = refl
  fork-first true p (c ∷ []) h = by-test (eqb c 40)
    where
      by-test : (z : Bool) → read_part (suc p) (given z (say (100 ∷ xs) x) union given z (say (97 ∷ ys) y)) [] ≡ read_part (suc p) (given z (say (100 ∷ xs) x)) []
      by-test true = refl
      by-test false = refl
  fork-first true p (c ∷ d ∷ u) h = by-test (eqb c 40)
    where
      by-test : (z : Bool) → read_part (suc p) (given z (say (100 ∷ xs) x) union given z (say (97 ∷ ys) y)) (d ∷ u) ≡ read_part (suc p) (given z (say (100 ∷ xs) x)) (d ∷ u)
      by-test true = rw (ne_eqb d 97 (h refl), read_part) (ap (λ (r : Reader A). read_part (suc (suc p)) r u) (union-none (given (eqb d 100) (say xs x))))
      by-test false = refl

  fork-second : (p : ℕ) (t : List ℕ) → get_or t 1 0 ≡ 97 → read_part p (fork true) t ≡ read_part p (say (40 ∷ 97 ∷ ys) y) t
  unfolding read_part open_combine
  fork-second p [] h = absurd (omega arith)
  fork-second p (c ∷ []) h = absurd (omega arith)
  fork-second p (c ∷ d ∷ u) h = by-test (eqb c 40)
    where
      by-test : (z : Bool) → read_part (suc p) (given z (say (100 ∷ xs) x) union given z (say (97 ∷ ys) y)) (d ∷ u) ≡ read_part (suc p) (given z (say (97 ∷ ys) y)) (d ∷ u)
      by-test true = rw (h, read_part)
      by-test false = refl

-- ---- declarations

abbrev rest_of : ℕ → List ℕ
rest_of i = bytes "eclare-fun " ++ (letter i ∷ bytes " () Int)\n")

second_at : (text : List ℕ) (at : ℕ) → get_or (drop at text) 1 0 ≡ get_or text (at + 1) 0
second_at text at = get_or-drop at text 1 0

no_further : (b c : Bool) → (b || c) ≡ false → (b ≡ false) × (c ≡ false)
no_further true c e = absurd (false≢true (sym e))
no_further false c e = (refl, e)

not-both : (b : Bool) (x : ℕ) → (b && eqb x 97) ≡ false → b ≡ true → x ≡ 97 → ⊥
not-both true x e h = eqb-false x 97 e
not-both false x e h = absurd (false≢true h)

-- Another declaration comes.
pub record OneMore (text : List ℕ) (at i : ℕ) : Type 0 where
  pub below : i < 16
  pub reading : read_at text at (declarations_from i (16 - i)) ≡ read_at text at (say (declaration i) (declarations_from (i + 1) (16 - (i + 1))))

pub one-more : (text : List ℕ) (at i : ℕ) → i ≤ 16 → all_declared text at i ≡ false → OneMore text at i
unfolding declarations_from declaration
one-more text at i most e =
    let (last, second) = no_further (eqb i 16) _ e in
    let other = eqb-false i 16 last in
    let few : i < 16 = omega arith in
    let fuel : 16 - i ≡ suc (16 - (i + 1)) = omega arith in
    let next : suc i ≡ i + 1 = omega arith in
    record {
      below = few;
      reading = rw (fuel, next) (fork-first (rest_of i) (bytes "ssert ") (declarations_from (i + 1) (16 - (i + 1))) (root i) (ltb 0 i) at (drop at text)
          (λ some there. not-both (ltb 0 i) (get_or text (at + 1) 0) second some (sym (second_at text at) ∙ there)));
    }

-- None comes.
pub record NoMore (text : List ℕ) (at i : ℕ) : Type 0 where
  pub some : 0 < i
  pub reading : read_at text at (declarations_from i (16 - i)) ≡ read_at text at (say (bytes "(assert ") (root i))

and_both : (b : Bool) (x : ℕ) → (b && eqb x 97) ≡ true → (b ≡ true) × (x ≡ 97)
and_both true x e = (refl, eqb-true x 97 e)
and_both false x e = absurd (false≢true e)

at-sixteen : (text : List ℕ) (at i : ℕ) → i ≡ 16 → NoMore text at i
unfolding declarations_from
at-sixteen text at i last = record { some = omega arith; reading = rw last }

before-sixteen : (text : List ℕ) (at i : ℕ) → i < 16 → (ltb 0 i && eqb (get_or text (at + 1) 0) 97) ≡ true → NoMore text at i
unfolding declarations_from declaration
before-sixteen text at i few e =
    let (some, second) = and_both (ltb 0 i) (get_or text (at + 1) 0) e in
    let fuel : 16 - i ≡ suc (16 - suc i) = omega arith in
    record {
      some = ltb-true 0 i some;
      reading = rw (fuel, some) (fork-second (rest_of i) (bytes "ssert ") (declarations_from (suc i) (16 - suc i)) (root i) at (drop at text) (second_at text at ∙ second));
    }

pub no_more : (text : List ℕ) (at i : ℕ) → i ≤ 16 → all_declared text at i ≡ true → NoMore text at i
no_more text at i most e = by-test (eqb i 16) refl e
  where
    by-test : (b : Bool) → eqb i 16 ≡ b → (b || (ltb 0 i && eqb (get_or text (at + 1) 0) 97)) ≡ true → NoMore text at i
    by-test true w e = at-sixteen text at i (eqb-true i 16 w)
    by-test false w e = let other = eqb-false i 16 w in before-sixteen text at i (omega arith) e

-- ---- what the code finds

pub said-inside : {text : List ℕ} {at : ℕ} {run : List ℕ} {step : Result ℕ Stop} → Said text at run step → {next : ℕ} → step ≡ Ok next → next ≤ length text
unfolding SaidBy
said-inside h e = (rw e at h).by_step.inside

-- The tests of the code.
module _ (text : List ℕ) (at i : ℕ) where
  pub all-sixteen : i ≡ 16 → true ≡ all_declared text at i
  all-sixteen e = rw e

  pub none_yet : i ≡ 0 → false ≡ all_declared text at i
  none_yet e = rw e

  pub by-second : (i ≡ 16 → ⊥) → (i ≡ 0 → ⊥) → {second : ℕ} → second ≡ get_or text (at + 1) 0 → eqb second 97 ≡ all_declared text at i
  by-second last none e = let some : 0 < i = omega arith in rw (ne_eqb i 16 last, lt-ltb 0 i some, e)

module _ {text : List ℕ} {at i : ℕ} {step : Result ℕ Stop} where
  module _ (h : Said text at (bytes "(assert ") step) (last : NoMore text at i) where
    pub assert-stops : {halt : Stop} → step ≡ Err halt → DeclaredFound text at i (Err halt)
    unfolding DeclaredBy SaidBy and_then
    assert-stops e = record {
      by_declared = last.reading ∙ say-then at (bytes "(assert ") (root i) (drop at text) ∙ ap (λ (x : Part ℕ). and_then x (λ x q u. read_part q (root i) u)) (rw e at h).by_step;
    }

    pub assert-reads : {next : ℕ} → i ≤ 16 → step ≡ Ok next → DeclaredFound text at i (Ok (record { variables = i; next = next }))
    unfolding DeclaredBy SaidBy and_then
    assert-reads most e =
        let stand = (rw e at h).by_step in
        record {
          by_declared = record {
            reading = last.reading ∙ say-then at (bytes "(assert ") (root i) (drop at text) ∙ ap (λ (x : Part ℕ). and_then x (λ x q u. read_part q (root i) u)) stand.reading;
            inside = stand.inside;
            some = last.some;
            most = most;
          };
        }

  module _ (h : Said text at (declaration i) step) (more : OneMore text at i) where
    pub declaration-stops : {halt : Stop} → step ≡ Err halt → DeclaredFound text at i (Err halt)
    unfolding DeclaredBy SaidBy and_then
    declaration-stops e = record {
      by_declared = more.reading ∙ say-then at (declaration i) (declarations_from (i + 1) (16 - (i + 1))) (drop at text) ∙ ap (λ (x : Part ℕ). and_then x (λ x q u. read_part q (declarations_from (i + 1) (16 - (i + 1))) u)) (rw e at h).by_step;
    }

    pub declaration-reads : {next : ℕ} {declared : Result Declared Stop} → step ≡ Ok next → DeclaredFound text next (i + 1) declared → DeclaredFound text at i declared
    unfolding DeclaredBy SaidBy and_then
    declaration-reads {declared = Err halt} e rest = record {
      by_declared = more.reading ∙ say-then at (declaration i) (declarations_from (i + 1) (16 - (i + 1))) (drop at text) ∙ ap (λ (x : Part ℕ). and_then x (λ x q u. read_part q (declarations_from (i + 1) (16 - (i + 1))) u)) (rw e at h).by_step.reading ∙ rest.by_declared;
    }
    declaration-reads {declared = Ok later} e rest =
        let all = rest.by_declared in
        record {
          by_declared = record {
            reading = more.reading ∙ say-then at (declaration i) (declarations_from (i + 1) (16 - (i + 1))) (drop at text) ∙ ap (λ (x : Part ℕ). and_then x (λ x q u. read_part q (declarations_from (i + 1) (16 - (i + 1))) u)) (rw e at h).by_step.reading ∙ all.reading;
            inside = all.inside;
            some = all.some;
            most = all.most;
          };
        }
