-- Children one behind the other, as the book reads them: the byte behind so many children decides.
use mathlib.Core.Bool.{Bool, true, false}
use mathlib.Core.List.{List, [], ◌∷◌}
use mathlib.Core.Path.{◌≡◌, refl, sym, ap, ◌∙◌}
use Prim.Native.Nat.{ℕ, zero, suc, ◌+◌, ◌-◌, ◌<◌, ◌≤◌}
use native.Mathlib.Omega.{arith}
use borrow.Author.Tests.{lt-ltb, ltb-true, ne_eqb}
use lib.Dec.{ltb}
use lib.ListN.{drop, get_or}
use Rattle.rules.specs.Polynomial.{Polynomial, Atom}
use Rattle.rules.specs.Formula.{Parts, end, Node, before, alone}
use Rattle.rules.specs.Answer.{used}
use Rattle.rules.specs.Reader.{Reader, give}
use Rattle.rules.specs.Combine.{say, ◌then◌, one_of, open_combine}
use Rattle.rules.specs.Text.{bytes}
use Rattle.rules.specs.Reading.{choice, room_behind, later_kids, kids_by}
use Rattle.script_laws.specs.Steps.{Part, got, stop, read_part, and_then, part_then}
use Rattle.script_back.specs.Tree.{One, kids_after, put_before, one_more, Ends, GoesOn, TurnOf, TurnFound}
use Rattle.script_back.specs.declared.tree.Turn.TheVariants.{End, More}
use Rattle.script_back.proofs.Positions.{say-then, stands-inside, first_byte, byte_at}
use Rattle.std.specs.Prelude.{Ok, Err}

one-back : (p : ℕ) → suc p - 1 ≡ p
one-back p = omega arith

-- ---- parts in a row

pub and_same : {A B : Type 0} (x : Part A) {f g : A → ℕ → List ℕ → Part B} → ((a : A) (q : ℕ) (u : List ℕ) → f a q u ≡ g a q u) → and_then x f ≡ and_then x g
unfolding and_then
and_same (got a q u) e = e a q u
and_same (stop q) e = refl

pub and_assoc : {A B C : Type 0} (x : Part A) (f : A → ℕ → List ℕ → Part B) (g : B → ℕ → List ℕ → Part C)
    → and_then (and_then x f) g ≡ and_then x (λ a q u. and_then (f a q u) g)
unfolding and_then
and_assoc (got a q u) f g = refl
and_assoc (stop q) f g = refl

-- ---- a child before the others

then-put : (p : ℕ) (r : Reader (Parts Atom)) (kid : Node Atom) (t : List ℕ) → read_part p (r then λ rest. give (before kid rest)) t ≡ put_before kid (read_part p r t)
unfolding read_part put_before
then-put p r kid t = part_then p r (λ (rest : Parts Atom). give (before kid rest)) t

module _ (kid : Node Atom) where
  then-put-both : {A : Type 0} (p : ℕ) (r : Reader A) (whole rest : A → Reader (Parts Atom)) (t : List ℕ)
      → ((a : A) (q : ℕ) (u : List ℕ) → read_part q (whole a) u ≡ put_before kid (read_part q (rest a) u))
      → read_part p (r then whole) t ≡ put_before kid (read_part p (r then rest) t)
  unfolding put_before
  then-put-both p r whole rest t h =
      part_then p r whole t
      ∙ and_same (read_part p r t) h
      ∙ sym (and_assoc (read_part p r t) (λ a q u. read_part q (rest a) u) (λ others q u. got (before kid others) q u))
      ∙ ap (put_before kid) (sym (part_then p r rest t))

  say-put-both : (p : ℕ) (s : List ℕ) (whole rest : Reader (Parts Atom)) (t : List ℕ)
      → ((q : ℕ) (u : List ℕ) → read_part q whole u ≡ put_before kid (read_part q rest u))
      → read_part p (say s whole) t ≡ put_before kid (read_part p (say s rest) t)
  unfolding put_before
  say-put-both p s whole rest t h =
      say-then p s whole t
      ∙ and_same (read_part p (say s (give 0)) t) (λ (a : ℕ) q u. h q u)
      ∙ sym (and_assoc (read_part p (say s (give 0)) t) (λ (a : ℕ) q u. read_part q rest u) (λ others q u. got (before kid others) q u))
      ∙ ap (put_before kid) (sym (say-then p s rest t))

-- ---- a space

module _ (one : One) (known : List Polynomial) (room p : ℕ) (u : List ℕ) where
  first-kid : read_part p (kids_after one 0 known room) (32 ∷ u) ≡ one_more (suc p) u one 0 known room
  unfolding read_part kids_after kids_by open_combine put_before and_then
  first-kid =
      part_then (suc p) (one known room) _ u
      ∙ and_same (read_part (suc p) (one known room) u) (λ first q v.
      say-put-both first q (bytes " ") _ _ v (λ q₁ v₁. then-put-both first q₁ (one (used known (alone first)) (room_behind room first)) _ _ v₁ (λ second q₂ v₂.
      then-put-both first q₂ (later_kids one 253 (used (used known (alone first)) (alone second)) (room_behind (room_behind room first) second)) _ _ v₂ (λ others q₃ v₃. refl))))

  second-kid : read_part p (kids_after one 1 known room) (32 ∷ u) ≡ one_more (suc p) u one 1 known room
  unfolding read_part kids_after open_combine
  second-kid =
      part_then (suc p) (one known room) _ u
      ∙ and_same (read_part (suc p) (one known room) u) (λ kid q v. then-put q (later_kids one 253 (used known (alone kid)) (room_behind room kid)) kid v)

  later-space : (k : ℕ) → 0 < room → read_part p (later_kids one (suc k) known room) (32 ∷ u)
      ≡ read_part (suc p) (one known (room - 1) then λ kid. later_kids one k (used known (alone kid)) (room_behind (room - 1) kid) then λ kids. give (before kid kids)) u
  unfolding read_part later_kids open_combine
  later-space k h = rw (lt-ltb 0 room h, read_part)

  later-kid : (j : ℕ) → 0 < room → j < 253 → read_part p (kids_after one (suc (suc j)) known room) (32 ∷ u) ≡ one_more (suc p) u one (suc (suc j)) known (room - 1)
  unfolding kids_after
  later-kid j h few =
      let fuel : 253 - j ≡ suc (253 - suc j) = omega arith in
      rw fuel (later-space (253 - suc j) h)
      ∙ part_then (suc p) (one known (room - 1)) _ u
      ∙ and_same (read_part (suc p) (one known (room - 1)) u) (λ kid q v. then-put q _ kid v)

-- ---- the end, or none

module _ (one : One) (known : List Polynomial) (room p : ℕ) where
  later-end : (k : ℕ) (u : List ℕ) → read_part p (later_kids one k known room) (41 ∷ u) ≡ got end (suc p) u
  unfolding read_part later_kids open_combine
  later-end zero u = refl
  later-end (suc k) u = by-test (ltb 0 room) _
    where
      by-test : (b : Bool) (x : Reader (Parts Atom)) → read_part p (one_of (choice true (bytes ")") (give end) ∷ choice b (bytes " ") x ∷ [])) (41 ∷ u) ≡ got end (suc p) u
      by-test true x = refl
      by-test false x = refl

  later-stop : (k : ℕ) (t : List ℕ) → (get_or t 0 0 ≡ 41 → ⊥) → (0 < room → get_or t 0 0 ≡ 32 → ⊥) → read_part p (later_kids one k known room) t ≡ stop p
  unfolding read_part later_kids open_combine
  later-stop zero [] h more = refl
  later-stop zero (b ∷ t) h more = rw (ne_eqb b 41 h, read_part) (ap stop (one-back p))
  later-stop (suc k) t h more = by-test (ltb 0 room) refl _ t h more
    where
      by-test : (b : Bool) → ltb 0 room ≡ b → (x : Reader (Parts Atom)) (t : List ℕ) → (get_or t 0 0 ≡ 41 → ⊥) → (0 < room → get_or t 0 0 ≡ 32 → ⊥)
          → read_part p (one_of (choice true (bytes ")") (give end) ∷ choice b (bytes " ") x ∷ [])) t ≡ stop p
      by-test true w x [] h more = refl
      by-test false w x [] h more = refl
      by-test true w x (b ∷ t) h more = rw (ne_eqb b 41 h, ne_eqb b 32 (more (ltb-true 0 room w)), read_part) (ap stop (one-back p))
      by-test false w x (b ∷ t) h more = rw (ne_eqb b 41 h, read_part) (ap stop (one-back p))

  few-stop : (j : ℕ) (t : List ℕ) → j < 2 → (get_or t 0 0 ≡ 32 → ⊥) → read_part p (kids_after one j known room) t ≡ stop p
  unfolding read_part kids_after kids_by open_combine
  few-stop zero [] few h = refl
  few-stop (suc zero) [] few h = refl
  few-stop zero (b ∷ t) few h = rw (ne_eqb b 32 h, read_part) (ap stop (one-back p))
  few-stop (suc zero) (b ∷ t) few h = rw (ne_eqb b 32 h, read_part) (ap stop (one-back p))
  few-stop (suc (suc j)) t few h = absurd (omega arith)

-- ---- what the code finds

module _ (text : List ℕ) (at room : ℕ) where
  stop-there : (j : ℕ) → ((one : One) (known : List Polynomial) → read_part at (kids_after one j known room) (drop at text) ≡ stop at) → TurnFound text at room j (Err (record { at = at }))
  unfolding TurnOf
  stop-there j h = record { turns = h }

  pub turn-few : (j : ℕ) → j < 2 → (get_or text at 0 ≡ 32 → ⊥) → TurnFound text at room j (Err (record { at = at }))
  turn-few j few unlike = stop-there j (λ one known. few-stop one known room at j (drop at text) few (λ e. unlike (sym (byte_at text at) ∙ e)))

  pub turn-stops : (j : ℕ) → 2 ≤ j → (get_or text at 0 ≡ 41 → ⊥) → (0 < room → get_or text at 0 ≡ 32 → ⊥) → TurnFound text at room j (Err (record { at = at }))
  unfolding kids_after
  turn-stops zero few unlike other = absurd (omega arith)
  turn-stops (suc zero) few unlike other = absurd (omega arith)
  turn-stops (suc (suc j)) few unlike other = stop-there (suc (suc j)) (λ one known. stopped one known)
    where
      stopped : (one : One) (known : List Polynomial) → read_part at (kids_after one (suc (suc j)) known room) (drop at text) ≡ stop at
      stopped one known = later-stop one known room at (253 - j) (drop at text) (λ e. unlike (sym (byte_at text at) ∙ e)) (λ h e. other h (sym (byte_at text at) ∙ e))

  next-is : suc at ≡ at + 1
  next-is = omega arith

  pub turn-ends : (j : ℕ) → 2 ≤ j → get_or text at 0 ≡ 41 → TurnFound text at room j (Ok End)
  unfolding kids_after TurnOf
  turn-ends zero few e = absurd (omega arith)
  turn-ends (suc zero) few e = absurd (omega arith)
  turn-ends (suc (suc j)) few e = ends (record { reading = λ one known. ended one known; inside = omega (arith, stands-inside text at 41 e (omega arith)); enough = omega arith })
    where
      ended : (one : One) (known : List Polynomial) → read_part at (kids_after one (suc (suc j)) known room) (drop at text) ≡ got end (at + 1) (drop (at + 1) text)
      ended one known =
          ap (read_part at (later_kids one (253 - j) known room)) (first_byte text at 41 e (omega arith))
          ∙ later-end one known room at (253 - j) (drop (at + 1) text)
          ∙ ap (λ (q : ℕ). got end q (drop (at + 1) text)) next-is

      ends : Ends text at room (suc (suc j)) → TurnFound text at room (suc (suc j)) (Ok End)
      ends h = record { turns = h }

  goes : {j left : ℕ} → GoesOn text at room j left → TurnFound text at room j (Ok (More left))
  unfolding TurnOf
  goes h = record { turns = h }

  module _ (e : get_or text at 0 ≡ 32) where
    goes_on : (j left : ℕ) → left + 1 + (2 - (j + 1)) ≡ room + (2 - j)
        → ((one : One) (known : List Polynomial) (u : List ℕ) → read_part at (kids_after one j known room) (32 ∷ u) ≡ one_more (suc at) u one j known left)
        → TurnFound text at room j (Ok (More left))
    goes_on j left less law = goes (record {
      reading = λ one known.
          ap (read_part at (kids_after one j known room)) (first_byte text at 32 e (omega arith))
          ∙ law one known (drop (at + 1) text)
          ∙ ap (λ (q : ℕ). one_more q (drop (at + 1) text) one j known left) next-is;
      inside = omega (arith, stands-inside text at 32 e (omega arith));
      less = less;
    })

    pub turn_one : (j : ℕ) → j < 2 → TurnFound text at room j (Ok (More room))
    turn_one zero few = goes_on zero room (omega arith) (λ one known u. first-kid one known room at u)
    turn_one (suc zero) few = goes_on (suc zero) room (omega arith) (λ one known u. second-kid one known room at u)
    turn_one (suc (suc j)) few = absurd (omega arith)

    pub turn_more : (j : ℕ) → 2 ≤ j → 0 < room → room + j ≤ 254 → TurnFound text at room j (Ok (More (room - 1)))
    turn_more zero few some most = absurd (omega arith)
    turn_more (suc zero) few some most = absurd (omega arith)
    turn_more (suc (suc j)) few some most = goes_on (suc (suc j)) (room - 1) (omega arith) (λ one known u. later-kid one known room at u j some (omega arith))
