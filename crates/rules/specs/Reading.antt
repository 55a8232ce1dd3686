-- #112: "A small reader for this exact text gives back the formula". Each byte is taken only if some script goes on behind it; the conditions on which
-- are the tests that stand here.
use Rattle.std.specs.Prelude.{Bool, true, false, not, ◌&&◌, List, [], ◌∷◌, ◌++◌, map, ℕ, zero, suc, ◌+◌, ◌-◌, ◌*◌, ◌%◌, ◌^◌, eqb, leb, ltb, ℤ, pos, neg_ℤ, length}
use Rattle.rules.specs.Signs.{SignSet}
use Rattle.rules.specs.Polynomial.{Term, Polynomial, Atom}
use Rattle.rules.specs.Formula.{Parts, end, and, or, Node, leaf, all_of, any_of, before, alone, nodes}
use Rattle.rules.specs.Block.{Block}
use Rattle.rules.specs.Answer.{used, block_of}
use Rattle.rules.specs.Reader.{Reader, give, stuck, ask, Outcome, read_from}
use Rattle.rules.specs.Combine.{given, say, ◌then◌, ◌union◌, Choice, one_of, only}
use Rattle.rules.specs.Text.{bytes, letter, polynomial_text, opening, closing, declaration}

abbrev pub choice : {A : Type 0} → Bool → List ℕ → Reader A → Choice A
choice allowed beginning further = record { allowed = allowed; beginning = beginning; further = further }

-- ---- Numbers, up to 2147483647, with the byte that ends them.

-- Is this byte a digit that may stand behind x?
unfoldable pub digit_may : ℕ → ℕ → Bool
digit_may x b = leb 48 b && (leb b 57 && leb (10 * x + (b - 48)) 2147483647)

-- The rest of a number that begins with x: the byte at its end, or one more digit, of which there are at most so many.
unfoldable pub end_or : {A : Type 0} → Bool → Reader A → Reader A → Reader A
end_or true at_end onward = at_end
end_or false at_end onward = onward

unfoldable pub digits_after : ℕ → ℕ → ℕ → Reader ℕ
digits_after zero last x = say (last ∷ []) (give x)
digits_after (suc k) last x = ask (λ b. end_or (eqb b last) (give x) (given (digit_may x b) (digits_after k last (10 * x + (b - 48)))))

-- "no leading zero"
unfoldable pub magnitude : ℕ → Reader ℕ
magnitude last = ask (λ b. given (leb 49 b && leb b 57) (digits_after 9 last (b - 48)))

-- A number of either sign, or one of these others, which begin with another byte.
unfoldable pub number_or : {A : Type 0} → ℕ → (ℤ → A) → List (Choice A) → Reader A
number_or last as_is others =
    (magnitude last then λ x. give (as_is (pos x)))
    union one_of (choice true (bytes "(- ") (magnitude 41 then λ x. say (last ∷ []) (give (as_is (neg_ℤ (pos x))))) ∷ others)

-- ---- Products of n variables, whose exponents as one number are at most `limit`.
-- h stands for the exponents so far as one number, down to the variable that is followed by g others.
module _ (n limit : ℕ) where
  -- May that variable come next? Its exponent is below 15, and the least product that begins so is within the limit.
  unfoldable pub factor_may : ℕ → ℕ → Bool
  factor_may g h = ltb (h % 16) 15 && leb (suc h * 16 ^ g) limit

  -- May any variable come next? If any may, the last one may.
  unfoldable pub any_may : ℕ → Bool
  any_may m = ltb (m % 16) 15 && ltb m limit

  -- The letter of that variable or of a later one, and then what follows it.
  unfoldable pub letters : (ℕ → ℕ → Reader ℕ) → ℕ → ℕ → Reader ℕ
  letters onward zero h = given (factor_may 0 h) (say (letter (n - 1) ∷ []) (onward 0 (suc h)))
  letters onward (suc g) h = given (factor_may (suc g) h) (say (letter (n - suc (suc g)) ∷ []) (onward (suc g) (suc h))) union letters onward g (16 * h)

  -- "after a factor `)` always, a space iff" another may come. At most so many.
  unfoldable pub after_factor : ℕ → ℕ → ℕ → Reader ℕ
  after_factor zero g h = say (bytes ")") (give (h * 16 ^ g))
  after_factor (suc k) g h = one_of (choice true (bytes ")") (give (h * 16 ^ g)) ∷ choice (any_may (h * 16 ^ g)) (bytes " ") (letters (after_factor k) g h) ∷ [])

  -- Behind "(* ". Each factor adds 1 at least, so that no product has more than `limit`.
  unfoldable pub product : Reader Term
  product = number_or 32 (λ c. c) [] then λ c. letters (after_factor limit) (n - 1) 0 then λ m. give (record { coefficient = c; monomial = m })

-- ---- Polynomials, with the space behind them.

abbrev pub constant_of : ℤ → Polynomial
constant_of c = record { coefficient = c; monomial = 0 } ∷ []

-- The next term of a sum, below a monomial, and then the others, with the ) behind them.
unfoldable pub next_term : ℕ → ℕ → (ℕ → Reader Polynomial) → Reader Polynomial
next_term n above others = number_or 41 constant_of (
    choice (ltb 1 above) (bytes "(* ") (product n (above - 1) then λ t. others t.monomial then λ ts. give (t ∷ ts))
    ∷ [])

-- At most so many terms more, below a monomial.
unfoldable pub other_terms : ℕ → ℕ → ℕ → Reader Polynomial
other_terms n zero above = say (bytes ")") (give [])
other_terms n (suc k) above = one_of (choice true (bytes ")") (give []) ∷ choice true (bytes " ") (next_term n above (other_terms n k)) ∷ [])

-- Above the packed exponents of n variables.
abbrev pub beyond : ℕ → ℕ
beyond n = 2 ^ (4 * n)

-- "term count 1 to 16". "a sum's first term is always a product"
unfoldable pub polynomial : ℕ → Reader Polynomial
polynomial n = number_or 32 constant_of (
    choice true (bytes "(* ") (product n (beyond n - 1) then λ t. say (bytes " ") (give (t ∷ [])))
    ∷ choice true (bytes "(+ (* ") (product n (beyond n - 1) then λ t. say (bytes " ")
    (next_term n t.monomial (other_terms n 14) then λ ts. say (bytes " ") (give (t ∷ ts))))
    ∷ [])

-- "With 64 known only a known text goes on."
unfoldable pub of_known : Bool → ℕ → List Polynomial → Reader Polynomial
of_known true n known = polynomial n
of_known false n known = only (map (λ p. polynomial_text n p ++ bytes " ") known) (polynomial n)

unfoldable pub known_polynomial : ℕ → List Polynomial → Reader Polynomial
known_polynomial n known = of_known (ltb (length known) 64) n known

-- ---- The tree. `known` is the table so far, `room` how many nodes more than those that are owed may come.

unfoldable pub atom_with : ℕ → List Polynomial → SignSet → Choice (Node Atom)
atom_with n known s = choice true (opening s) (known_polynomial n known then λ p. say (closing s) (give (leaf (record { polynomial = p; set = s }))))

-- How children are read, by their parent's kind: 1 for AND, 2 for OR.
abbrev pub Inside : Type 0
Inside = ℕ → List Polynomial → ℕ → Reader (Parts Atom)

-- "`a` or `o` iff the parent is of another kind, the nesting is below 6", and the two children that it owes have room
abbrev pub beginnings : ℕ → Bool → Inside → ℕ → List Polynomial → ℕ → List (Choice (Node Atom))
beginnings n deep inside parent known room =
    atom_with n known 1 ∷ atom_with n known 2 ∷ atom_with n known 3 ∷ atom_with n known 4 ∷ atom_with n known 5 ∷ atom_with n known 6
    ∷ choice (deep && (not (eqb parent 1) && leb 2 room)) (bytes "(and") (inside 1 known (room - 2) then λ kids. give (all_of kids))
    ∷ choice (deep && (not (eqb parent 2) && leb 2 room)) (bytes "(or") (inside 2 known (room - 2) then λ kids. give (any_of kids))
    ∷ []

unfoldable pub node_by : ℕ → Bool → Inside → ℕ → List Polynomial → ℕ → Reader (Node Atom)
node_by n deep inside parent known room = one_of (beginnings n deep inside parent known room)

-- The room behind a node, which had one to itself.
unfoldable pub room_behind : ℕ → Node Atom → ℕ
room_behind room node = room + 1 - nodes (alone node)

-- The children behind the second: a space if there is room. At most so many.
unfoldable pub later_kids : (List Polynomial → ℕ → Reader (Node Atom)) → ℕ → List Polynomial → ℕ → Reader (Parts Atom)
later_kids one zero known room = say (bytes ")") (give end)
later_kids one (suc k) known room = one_of (
    choice true (bytes ")") (give end)
    ∷ choice (ltb 0 room) (bytes " ") (one known (room - 1) then λ kid.
    later_kids one k (used known (alone kid)) (room_behind (room - 1) kid) then λ kids. give (before kid kids))
    ∷ [])

unfoldable pub kids_by : (List Polynomial → ℕ → Reader (Node Atom)) → List Polynomial → ℕ → Reader (Parts Atom)
kids_by one known room = say (bytes " ") (one known room then λ first.
    say (bytes " ") (one (used known (alone first)) (room_behind room first) then λ second.
    later_kids one 253 (used (used known (alone first)) (alone second)) (room_behind (room_behind room first) second) then λ others.
    give (before first (before second others))))

-- A node below which d nestings are still allowed, itself counted.
unfoldable pub node : ℕ → ℕ → ℕ → List Polynomial → ℕ → Reader (Node Atom)
node n zero parent known room = node_by n false (λ kind known₁ room₁. stuck) parent known room
node n (suc d) parent known room = node_by n true (λ kind known₁ room₁. kids_by (node n d kind) known₁ room₁) parent known room

-- ---- The script.

-- "nesting is below 6"; "tree nodes 1 to 255"
unfoldable pub root : ℕ → Reader Block
root n =
    one_of (choice true (bytes "true") (give (all_of end)) ∷ choice true (bytes "false") (give (any_of end)) ∷ [])
    union node n 6 0 [] 254
    then λ tree. say (bytes ")\n") (give (block_of n tree))

-- "after i declarations: `d` iff i < 16, `a` iff i ≥ 1"; so many declarations may still come.
unfoldable pub declarations_from : ℕ → ℕ → Reader Block
declarations_from i zero = say (bytes "(assert ") (root i)
declarations_from i (suc k) = one_of (
    choice true (declaration i) (declarations_from (suc i) k)
    ∷ choice (ltb 0 i) (bytes "(assert ") (root i)
    ∷ [])

unfoldable pub script : Reader Block
script = say (bytes "(set-logic QF_NIA)\n") (declarations_from 0 16)

unfoldable pub read_text : List ℕ → Outcome Block
read_text text = read_from 0 script text

-- To unfold this is to unfold every definition of this file.
unfoldable pub open_reading : Unit {0}
unfolding digit_may end_or digits_after magnitude number_or factor_may any_may letters after_factor product next_term other_terms polynomial of_known known_polynomial atom_with node_by room_behind later_kids kids_by node root declarations_from script read_text
open_reading = tt
