-- A child at a place of a row: where its atoms, its own children and the next child lie.
use Rattle.std.specs.Prelude.{◌≡◌, List, ◌++◌, ℕ, ◌+◌, ◌-◌, ◌≤◌, length, take, drop}
use Rattle.std.proofs.Common.{sym, ◌∙◌, ap, arith, length-append, length-drop, drop-drop, drop_at, take_at}
use Rattle.tape.specs.Tape.{Children, laid, ChildAt}

module _ {all : List ℕ} {place a e : ℕ} {l : List ℕ} {own : Children} {rest : List ℕ} (h : ChildAt all place a e l own rest) where
  past_head : drop (place + 1) all ≡ l ++ (laid own ++ rest)
  past_head = sym (drop-drop 1 place all) ∙ ap (drop 1) h.here

  pub past-atoms : drop (place + 1 + a) all ≡ laid own ++ rest
  past-atoms = sym (drop-drop a (place + 1) all) ∙ ap (drop a) past_head ∙ drop_at l (laid own ++ rest) a (sym h.count)

  pub its-atoms : take (place + 1 + a - (place + 1)) (drop (place + 1) all) ≡ l
  its-atoms = let z : place + 1 + a - (place + 1) ≡ a = omega arith in rw z (ap (take a) past_head ∙ take_at l (laid own ++ rest) a (sym h.count))

  pub its_own : take (place + 1 + a + e - (place + 1 + a)) (drop (place + 1 + a) all) ≡ laid own
  its_own = let z : place + 1 + a + e - (place + 1 + a) ≡ e = omega arith in rw z (ap (take e) past-atoms ∙ take_at (laid own) rest e (sym h.size))

  pub past-child : drop (place + 1 + a + e) all ≡ rest
  past-child = sym (drop-drop e (place + 1 + a) all) ∙ ap (drop e) past-atoms ∙ drop_at (laid own) rest e (sym h.size)

  pub child-ends : place + 1 + a + e ≤ length all
  child-ends = omega (arith, length-drop place all, ap length h.here, h.count, h.size, length-append l (laid own ++ rest), length-append (laid own) rest)
