-- Reading at a position: the next bytes, and what stands behind bytes that must stand there.
use mathlib.Core.Bool.{Bool, true, false}
use mathlib.Core.List.{List, [], ◌∷◌}
use mathlib.Core.Path.{◌≡◌, refl, ap, ap₂, subst, ◌∙◌}
use Prim.Native.Nat.{ℕ, suc, ◌+◌, ◌<◌, ◌≤◌}
use native.Mathlib.Nat.{add-zero}
use native.Mathlib.Omega.{arith}
use borrow.Author.Tests.{ltb-true, ltb-false}
use lib.Dec.{eqb, ltb}
use lib.ListN.{length, drop, get_or, drop_of_length-le, get_or-eq_default}
use lib.Seq.{drop-cons, get_or-drop}
use Rattle.rules.specs.Reader.{Reader, give}
use Rattle.rules.specs.Combine.{given, say}
use Rattle.script_laws.specs.Steps.{stop, read_part, and_then, part-said, part-unsaid}
use Rattle.script_polynomial.specs.At.{read_at}
use Rattle.script_back.specs.Runs.{just, SaidBy, Said}
use Rattle.std.specs.Prelude.{Result, Ok, Err}
use Rattle.script_polynomial.specs.declared.Stop.{Stop}

module _ {A : Type 0} where
  -- Behind bytes that must stand there comes the rest.
  pub say-then : (p : ℕ) (s : List ℕ) (r : Reader A) (t : List ℕ)
      → read_part p (say s r) t ≡ and_then (read_part p (just s) t) (λ u q rest. read_part q r rest)
  unfolding read_part and_then say given
  say-then p [] r t = refl
  say-then p (c ∷ s) r [] = refl
  say-then p (c ∷ s) r (b ∷ t) = by-test (eqb b c) (say-then (suc p) s r t)
    where
      by-test : (x : Bool) → read_part (suc p) (say s r) t ≡ and_then (read_part (suc p) (just s) t) (λ u q rest. read_part q r rest)
          → read_part (suc p) (given x (say s r)) t ≡ and_then (read_part (suc p) (given x (just s)) t) (λ u q rest. read_part q r rest)
      by-test true later = later
      by-test false later = refl

-- A byte other than 0 stands in the text.
pub stands-inside : (text : List ℕ) (at c : ℕ) → get_or text at 0 ≡ c → 0 < c → at < length text
stands-inside text at c e h = by-test (ltb at (length text)) refl
  where
    by-test : (b : Bool) → ltb at (length text) ≡ b → at < length text
    by-test true w = ltb-true at (length text) w
    by-test false w =
        let past = ltb-false at (length text) w in
        let zero-there : get_or text at 0 ≡ 0 = get_or-eq_default text 0 past in
        absurd (omega arith)

-- The bytes from a position on begin with it.
pub first_byte : (text : List ℕ) (at c : ℕ) → get_or text at 0 ≡ c → 0 < c → drop at text ≡ c ∷ drop (at + 1) text
first_byte text at c e h =
    let next : suc at ≡ at + 1 = omega arith in
    drop-cons text at 0 (stands-inside text at c e h) ∙ ap₂ (λ (b i : ℕ). b ∷ drop i text) e next

pub two_bytes : (text : List ℕ) (at b c : ℕ) → get_or text at 0 ≡ b → 0 < b → get_or text (at + 1) 0 ≡ c → 0 < c → drop at text ≡ b ∷ c ∷ drop (at + 2) text
two_bytes text at b c e h f k =
    let next : at + 1 + 1 ≡ at + 2 = omega arith in
    first_byte text at b e h ∙ ap (λ (l : List ℕ). b ∷ l) (first_byte text (at + 1) c f k ∙ ap (λ (i : ℕ). c ∷ drop i text) next)

pub byte_at : (text : List ℕ) (at : ℕ) → get_or (drop at text) 0 0 ≡ get_or text at 0
byte_at text at = get_or-drop at text 0 0 ∙ ap (λ (i : ℕ). get_or text i 0) (add-zero at)

-- ---- the bytes of a run, one by one

-- So many bytes of the run stood there: the others decide.
pub record Sofar (text : List ℕ) (at : ℕ) (bytes : List ℕ) (i : ℕ) : Type 0 where
  pub reading : read_at text at (just bytes) ≡ read_at text (at + i) (just (drop i bytes))
  pub few : i ≤ length bytes
  pub inside : at + i ≤ length text

pub sofar-none : (text : List ℕ) (at : ℕ) (bytes : List ℕ) → at ≤ length text → Sofar text at bytes 0
sofar-none text at bytes h = record { reading = rw (add-zero at); few = omega arith; inside = omega arith }

module _ {text : List ℕ} {at : ℕ} {bytes : List ℕ} {i : ℕ} (s : Sofar text at bytes i) where
  -- The text ends,
  pub run_ends : i < length bytes → length text ≤ at + i → Said text at bytes (Err (record { at = at + i }))
  unfolding SaidBy read_part say
  run_ends more h = record {
    by_step = s.reading ∙ rw (drop-cons bytes i 0 more, drop_of_length-le text h);
  }

  -- another byte stands there,
  pub run-differs : i < length bytes → at + i < length text → (get_or text (at + i) 0 ≡ get_or bytes i 0 → ⊥) → Said text at bytes (Err (record { at = at + i }))
  unfolding SaidBy read_part say given
  run-differs more h unlike = record {
    by_step = s.reading ∙ rw (drop-cons bytes i 0 more, drop-cons text (at + i) 0 h, part-unsaid {A = ℕ} (at + i) (get_or text (at + i) 0) (get_or bytes i 0) (drop (suc i) bytes) (give 0) (drop (suc (at + i)) text) unlike) (ap stop (omega arith));
  }

  -- the byte stands there,
  pub run-goes-on : i < length bytes → at + i < length text → get_or text (at + i) 0 ≡ get_or bytes i 0 → Sofar text at bytes (i + 1)
  run-goes-on more h same =
      let next : at + (i + 1) ≡ suc (at + i) = omega arith in
      let later : i + 1 ≡ suc i = omega arith in
      record {
        reading = s.reading ∙ rw (drop-cons bytes i 0 more, drop-cons text (at + i) 0 h, same, next, later) (part-said {A = ℕ} (at + i) (get_or bytes i 0) (drop (suc i) bytes) (give 0) (drop (suc (at + i)) text));
        few = omega arith;
        inside = omega arith;
      }

  -- or all stand there.
  pub run-stands : length bytes ≤ i → Said text at bytes (Ok (at + i))
  unfolding SaidBy read_part say
  run-stands h = record {
    by_step = record { reading = s.reading ∙ rw (drop_of_length-le bytes h); behind = omega (arith, s.few); inside = s.inside };
  }

-- Bytes that are known by another name.
pub said-as : {text : List ℕ} {at : ℕ} {xs ys : List ℕ} {step : Result ℕ Stop} → xs ≡ ys → Said text at xs step → Said text at ys step
said-as {text} {at} {step = step} e h = subst (λ (run : List ℕ). Said text at run step) e h
