-- What rows hold: one token more, the rest from a place on, a part of another row, and a child with its atoms and its own children.
use Rattle.std.specs.Prelude.{◌≡◌, refl, List, [], ◌∷◌, ◌++◌, ℕ, zero, suc, ◌+◌, ◌-◌, ◌*◌, ◌<◌, ◌≤◌, length, take, drop, get_or, set}
use Rattle.std.proofs.Common.{sym, ◌∙◌, ap, append_assoc, append-nil, add-one, arith, length-drop, length-append, get_or-drop, get_or-take, take-suc, take-suc-set, drop-cons}
use Rattle.std.proofs.lemmas.List.{take-append-drop, take-append-le, length-take-le}
use Rattle.std.proofs.lemmas.Slice.{between_is, take-put_mid}
use borrow.Rule.Slice.PartMut.{put_mid}
use Rattle.std.proofs.Math.Seq.{take-length, drop-nil}
use Rattle.tape.specs.declared.rows.Row.{Row}
use Rattle.tape.specs.Row.{Lists}
use Rattle.tape.specs.Tape.{Children, none, child, laid, also}

-- a row with a token stored after its last holds that token too
pub pushed : (row longer : Row) (t : ℕ) → row.count < length row.token → longer.token ≡ set row.token row.count t → longer.count ≡ row.count + 1
    → (l : List ℕ) → Lists row l → Lists longer (l ++ (t ∷ []))
pushed row longer t h stored more l w = record {
  is = rw (stored, more, add-one) (take-suc-set row.token row.count t h ∙ ap (λ (x : List ℕ). x ++ (t ∷ [])) w.is);
  size = omega (arith, length-append l (t ∷ []), w.size);
}

-- a row has room for the tokens that it counts
take_long : (n : ℕ) (l : List ℕ) → length (take n l) ≡ n → n ≤ length l
take_long zero l e = omega arith
take_long (suc n) [] e = absurd (omega arith)
take_long (suc n) (x ∷ l) e = omega (arith, take_long n l (omega arith))

pub row-long : {row : Row} {l : List ℕ} → Lists row l → row.count ≤ length row.token
row-long {row} w = take_long row.count row.token (ap length w.is ∙ sym w.size)

-- what a row has at a place is what its list has there
pub held_at : {row : Row} {l : List ℕ} → Lists row l → (i : ℕ) → i < length l → get_or row.token i 0 ≡ get_or l i 0
held_at {row} w i h = sym (get_or-take row.count row.token i 0 (omega (arith, w.size))) ∙ ap (λ (x : List ℕ). get_or x i 0) w.is

-- the rest of a list from a place on: the row's token there and the rest after it, or nothing
pub rest-next : {row : Row} {l : List ℕ} {i : ℕ} → Lists row l → i < length l → drop i l ≡ get_or row.token i 0 ∷ drop (i + 1) l
rest-next {row} {l} {i} h k = rw (add-one, held_at h i k) (drop-cons l i 0 k)

pub rest-none : (l : List ℕ) (i : ℕ) → length l ≤ i → drop i l ≡ []
rest-none [] i h = drop-nil i
rest-none (x ∷ l) zero h = absurd (omega arith)
rest-none (x ∷ l) (suc i) h = rest-none l i (omega arith)

-- all of a list, as a part from its begin to its end
pub whole : (l : List ℕ) (n : ℕ) → n ≡ length l → take (n - 0) (drop 0 l) ≡ l
whole l n e = let z : n - 0 ≡ length l = omega arith in rw (z, take-length l)

-- ---- a part of another row

pub part-more : (l m : List ℕ) (from i : ℕ) → from ≤ i → i < length m
    → (l ++ take (i - from) (drop from m)) ++ (get_or m i 0 ∷ []) ≡ l ++ take (i + 1 - from) (drop from m)
part-more l m from i h k =
    let e : i + 1 - from ≡ suc (i - from) = omega arith in
    let f : from + (i - from) ≡ i = omega arith in
    let j : i - from < length (drop from m) = omega (arith, length-drop from m) in
    append_assoc l (take (i - from) (drop from m)) (get_or m i 0 ∷ [])
    ∙ ap (λ (x : List ℕ). l ++ x) (rw (e, take-suc (drop from m) (i - from) 0 j, get_or-drop from m (i - from) 0, f))

-- the part begins with no token, and grows by the token at the next place
pub part-start : {row : Row} {l : List ℕ} (m : List ℕ) (from : ℕ) → Lists row l → Lists row (l ++ take (from - from) (drop from m))
part-start {l} m from w = let e : from - from ≡ 0 = omega arith in rw (e, append-nil l) w

pub part-turn : {row other : Row} (l : List ℕ) {m : List ℕ} (from i : ℕ) → Lists other m → from ≤ i → i < length m
    → Lists row ((l ++ take (i - from) (drop from m)) ++ (get_or other.token i 0 ∷ [])) → Lists row (l ++ take (i + 1 - from) (drop from m))
part-turn l {m} from i q h k w = rw (held_at q i k, part-more l m from i h k) at w

-- a row that holds a list has the parts of the list
pub part_held : {other : Row} {m : List ℕ} (from to : ℕ) → Lists other m → to ≤ length m → take (to - from) (drop from other.token) ≡ take (to - from) (drop from m)
part_held {other} {m} from to q h =
    let front : take to other.token ≡ take to m =
    ap (take to) (sym (take-append-drop other.count other.token))
    ∙ take-append-le to (take other.count other.token) (drop other.count other.token) (omega (arith, ap length q.is)) ∙ ap (take to) q.is in
    between_is other.token from to ∙ ap (drop from) front ∙ sym (between_is m from to)

-- the part of another row, written after what a row holds
pub part-laid : {row other longer : Row} {l m : List ℕ} (from to k : ℕ) → from ≤ to → row.count ≤ length row.token → Lists row l → Lists other m → to ≤ length m
    → longer.token ≡ put_mid row.count k row.token (take (to - from) (drop from other.token)) → longer.count ≡ row.count + (to - from)
    → Lists longer (l ++ take (to - from) (drop from m))
part-laid {row} {other} {longer} {l} {m} from to k h room w q there stored more =
    let part = take (to - from) (drop from m) in
    let size : length part ≡ to - from = length-take-le (to - from) (drop from m) (omega (arith, length-drop from m)) in
    record {
      is = rw (stored, more, part_held from to q there, take-put_mid row.count k row.token part (row.count + (to - from)) (omega (arith, size)) room) (ap (λ (x : List ℕ). x ++ part) w.is);
      size = omega (arith, length-append l part, w.size, size);
    }

-- ---- a child in a row of children

pub laid-also : (earlier more : Children) → laid (also earlier more) ≡ laid earlier ++ laid more
laid-also none more = refl
laid-also (child l own later) more =
    ap (λ (z : List ℕ). (length l * 65536 + length (laid own)) ∷ z)
    (ap (λ (z : List ℕ). l ++ (laid own ++ z)) (laid-also later more) ∙ ap (λ (z : List ℕ). l ++ z) (sym (append_assoc (laid own) (laid later) (laid more)))
    ∙ sym (append_assoc l (laid own ++ laid later) (laid more)))

pub laid-child : (l : List ℕ) (own : Children) → length (laid (child l own none)) ≡ length l + length (laid own) + 1
laid-child l own = omega (arith, length-append l (laid own ++ []), length-append (laid own) [])

-- a head, the atoms and the own children after some children are one child more
pub child-made : {row : Row} (earlier : Children) (l : List ℕ) (own : Children) (a e : ℕ) → a ≡ length l → e ≡ length (laid own)
    → Lists row (((laid earlier ++ ((a * 65536 + e) ∷ [])) ++ take (a - 0) (drop 0 l)) ++ take (e - 0) (drop 0 (laid own)))
    → Lists row (laid (also earlier (child l own none)))
child-made {row} earlier l own a e p q w =
    let w₁ : Lists row (((laid earlier ++ ((a * 65536 + e) ∷ [])) ++ l) ++ laid own) = rw (whole l a p, whole (laid own) e q) at w in
    let w₂ : Lists row (((laid earlier ++ ((length l * 65536 + length (laid own)) ∷ [])) ++ l) ++ laid own) = rw (p, q) at w₁ in
    rw (laid-also earlier (child l own none), append-nil (laid own)) (simp append_assoc at w₂)
