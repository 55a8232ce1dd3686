-- 01, "Rounds over a list of atoms joined by AND", with the search over pairs of 02, #111, and what a list says of a polynomial after its rounds.
-- Crate ending_laws says that the number of rounds that a run may take is always enough: `rounds-end`, `at_most`.
use Rattle.std.specs.Prelude.{Bool, true, false, ◌&&◌, ◌||◌, List, [], ◌∷◌, map, ◌++◌, ℕ, zero, suc, ◌+◌, ◌*◌, eqb, length, get_or, set, replicate}
use Rattle.std.proofs.Math.Option.{Option, none, some}
use Rattle.rules.specs.Signs.{SignSet, empty, full, intersect}
use Rattle.rules.specs.Polynomial.{Polynomial, Atom, Board, by_terms, same, variable, which}
use Rattle.rules.specs.Deduce.{deduce, any_empty}
use Rattle.rules.specs.TwoAtoms.{tries, first_cut, cut_by_all}

-- A set "cut by all deductions" of p from the atoms.
unfoldable pub cut_by : Board → Polynomial → List Atom → SignSet → SignSet
cut_by board p [] s = s
cut_by board p (q ∷ qs) s = cut_by board p qs (intersect s (deduce board p q))

-- "variable i's set is cut by all deductions of x_i from the non-variable atoms, taken with the variable sets at hand when i's turn begins"
unfoldable pub turn : ℕ → List Atom → Board → ℕ → Board
turn n atoms board i = set board i (cut_by board (variable n i) atoms (get_or board i full))

-- "for i from 1 to n" (here from 0): the turns of k variables from i on
unfoldable pub turns : ℕ → List Atom → Board → ℕ → ℕ → Board
turns n atoms board i zero = board
turns n atoms board i (suc k) = turns n atoms (turn n atoms board i) (suc i) k

-- "Then each non-variable atom's set is cut by its sign by terms and by the deductions from the other non-variable atoms"
unfoldable pub cut_atom : Board → List Atom → Atom → Atom
cut_atom board others a = record { polynomial = a.polynomial; set = cut_by board a.polynomial others (intersect a.set (by_terms board a.polynomial)) }

-- "with their sets from before the round": the atoms before this one, and those from it on, are as the round found them
unfoldable pub cut_atoms : Board → List Atom → List Atom → List Atom
cut_atoms board before [] = []
cut_atoms board before (a ∷ later) = cut_atom board (before ++ later) a ∷ cut_atoms board (before ++ (a ∷ [])) later

-- What the rounds work on: the board, and the non-variable atoms.
pub record State : Type 0 where
  pub board : Board
  pub atoms : List Atom

unfoldable pub round : ℕ → State → State
round n st = let board = turns n st.atoms st.board 0 n in
    record { board = board; atoms = cut_atoms board [] st.atoms }

unfoldable pub sets_of : List Atom → List SignSet
sets_of l = map (λ (a : Atom). a.set) l

unfoldable pub same_sets : List SignSet → List SignSet → Bool
same_sets [] [] = true
same_sets [] (t ∷ ts) = false
same_sets (s ∷ ss) [] = false
same_sets (s ∷ ss) (t ∷ ts) = eqb s t && same_sets ss ts

-- "A set that becomes empty ends the rounds at once: contradiction." Sets only shrink, so the end of the round is soon enough to look.
unfoldable pub has_empty : State → Bool
has_empty st = any_empty st.board || any_empty (sets_of st.atoms)

-- "A round that changes nothing ends them too."
unfoldable pub unchanged : State → State → Bool
unchanged st su = same_sets st.board su.board && same_sets (sets_of st.atoms) (sets_of su.atoms)

pub data Outcome : Type 0 where
  contradiction : Outcome
  settled : State → Outcome

-- ---- 02, #111: "After a round that changes nothing, take as p each variable, then each non-variable atom, and try each pair of non-variable atoms
-- other than p". The first finding that changes a set: of k variables from i on, whose sets are these of the board;
unfoldable pub sets_or : Option SignSet → SignSet → List SignSet → Option (List SignSet) → Option (List SignSet)
sets_or (some cut) s later rest = some (cut ∷ later)
sets_or none s later none = none
sets_or none s later (some rest) = some (s ∷ rest)

unfoldable pub search_board : ℕ → List Atom → Board → ℕ → ℕ → List SignSet → Option (List SignSet)
search_board n atoms board i zero sets = none
search_board n atoms board i (suc k) [] = none
search_board n atoms board i (suc k) (s ∷ later) =
    let rest = search_board n atoms board (suc i) k later in sets_or (first_cut s (tries board (variable n i) atoms)) s later rest

-- of an atom, the atoms before it being these.
unfoldable pub atoms_or : Option SignSet → Atom → List Atom → Option (List Atom) → Option (List Atom)
atoms_or (some cut) a later rest = some (record { polynomial = a.polynomial; set = cut } ∷ later)
atoms_or none a later none = none
atoms_or none a later (some rest) = some (a ∷ rest)

unfoldable pub search_atoms : Board → List Atom → List Atom → Option (List Atom)
search_atoms board before [] = none
search_atoms board before (a ∷ later) =
    let rest = search_atoms board (before ++ (a ∷ [])) later in atoms_or (first_cut a.set (tries board a.polynomial (before ++ later))) a later rest

unfoldable pub state_or : State → Option Board → Option (List Atom) → Option State
state_or st (some board) atoms = some (record { board = board; atoms = st.atoms })
state_or st none (some atoms) = some (record { board = st.board; atoms = atoms })
state_or st none none = none

unfoldable pub search : ℕ → State → Option State
search n st = state_or st (search_board n st.atoms st.board 0 n st.board) (search_atoms st.board [] st.atoms)

-- "The first pair finding that changes a set starts another round at once, unless that set is now empty: that ends the run as a contradiction, and no
-- further round is begun."
unfoldable pub unless_emptied : Bool → State → (State → Outcome) → Outcome
unless_emptied true st more = contradiction
unless_emptied false st more = more st

unfoldable pub after_search : Option State → State → (State → Outcome) → Outcome
after_search none su more = settled su
after_search (some sv) su more = unless_emptied (has_empty sv) sv more

-- After a round that left su: a contradiction; what comes of the search, if the round changed nothing; or what the further rounds give.
unfoldable pub after_round : Bool → Bool → ℕ → State → (State → Outcome) → Outcome
after_round true still n su more = contradiction
after_round false true n su more = after_search (search n su) su more
after_round false false n su more = more su

-- At most k rounds.
unfoldable pub rounds : ℕ → ℕ → State → Outcome
rounds n zero st = settled st
rounds n (suc k) st = let su = round n st in after_round (has_empty su) (unchanged st su) n su (λ (sv : State). rounds n k sv)

-- The number of rounds begun, a round that finds a contradiction or no change being counted; a search is no round.
unfoldable pub begun_unless_emptied : Bool → State → (State → ℕ) → ℕ
begun_unless_emptied true st more = 0
begun_unless_emptied false st more = more st

unfoldable pub begun_after_search : Option State → (State → ℕ) → ℕ
begun_after_search none more = 0
begun_after_search (some sv) more = begun_unless_emptied (has_empty sv) sv more

unfoldable pub further_begun : Bool → Bool → ℕ → State → (State → ℕ) → ℕ
further_begun true still n su more = 0
further_begun false true n su more = begun_after_search (search n su) more
further_begun false false n su more = more su

unfoldable pub begun : ℕ → ℕ → State → ℕ
begun n zero st = 0
begun n (suc k) st = let su = round n st in suc (further_begun (has_empty su) (unchanged st su) n su (λ (sv : State). begun n k sv))

-- The start: the non-variable atoms; "variable i starts with its variable atom's set, else full".
unfoldable pub unless_variable : Option ℕ → Atom → List Atom → List Atom
unless_variable none a rest = a ∷ rest
unless_variable (some i) a rest = rest

unfoldable pub non_variable : ℕ → List Atom → List Atom
non_variable n [] = []
non_variable n (a ∷ l) = unless_variable (which n a.polynomial) a (non_variable n l)

unfoldable pub placed : Option ℕ → SignSet → Board → Board
placed none s board = board
placed (some i) s board = set board i (intersect (get_or board i full) s)

unfoldable pub placed_all : ℕ → List Atom → Board → Board
placed_all n [] board = board
placed_all n (a ∷ l) board = placed_all n l (placed (which n a.polynomial) a.set board)

unfoldable pub start : ℕ → List Atom → State
start n l = record { board = placed_all n l (replicate n full); atoms = non_variable n l }

-- 2(n + k) + 1 rounds, for n variables and k non-variable atoms: law `at_most`.
unfoldable pub enough : State → ℕ
enough st = 2 * (length st.board + length st.atoms) + 1

unfoldable pub run : ℕ → List Atom → Outcome
run n l = let st = start n l in rounds n (enough st) st

-- "its set if listed (or the variable's set), else full"
unfoldable pub or_next : Bool → SignSet → SignSet → SignSet
or_next true s next = s
or_next false s next = next

unfoldable pub listed : Polynomial → List Atom → SignSet
listed p [] = full
listed p (a ∷ l) = or_next (same p a.polynomial) a.set (listed p l)

unfoldable pub held : Option ℕ → State → Polynomial → SignSet
held none st p = listed p st.atoms
held (some i) st p = get_or st.board i full

-- The atoms of a list whose polynomial is not p.
unfoldable pub unless_same : Bool → Atom → List Atom → List Atom
unless_same true a rest = rest
unless_same false a rest = a ∷ rest

unfoldable pub other_than : Polynomial → List Atom → List Atom
other_than p [] = []
other_than p (a ∷ l) = unless_same (same p a.polynomial) a (other_than p l)

-- "What a list *says of* p after its rounds: its set if listed (or the variable's set), else full, cut by its sign by terms and all deductions
-- from non-variable atoms." (p itself among them, if it is listed.) "What a list says of p includes these": the findings of all pairs (02, #111).
unfoldable pub says_in : ℕ → State → Polynomial → SignSet
says_in n st p =
    let cut = cut_by st.board p st.atoms (intersect (held (which n p) st p) (by_terms st.board p)) in
    cut_by_all cut (tries st.board p (other_than p st.atoms))

-- "A contradiction says the empty set."
unfoldable pub says : ℕ → Outcome → Polynomial → SignSet
says n contradiction p = empty
says n (settled st) p = says_in n st p

-- "Atoms now carry the cut sets (a variable without an atom gets none)": a variable atom the board's, the others theirs, in order.
unfoldable pub carried_one : Option ℕ → Board → Atom → List Atom → (List Atom → List Atom) → List Atom
carried_one (some i) board a cut more = record { polynomial = a.polynomial; set = get_or board i full } ∷ more cut
carried_one none board a [] more = a ∷ more []
carried_one none board a (c ∷ cut) more = c ∷ more cut

unfoldable pub carried : ℕ → Board → List Atom → List Atom → List Atom
carried n board [] cut = []
carried n board (a ∷ l) cut = carried_one (which n a.polynomial) board a cut (λ (rest : List Atom). carried n board l rest)

-- To unfold this is to unfold every definition of this file.
unfoldable pub open_rounds : Unit {0}
unfolding cut_by turn turns cut_atom cut_atoms round sets_of same_sets has_empty unchanged sets_or search_board atoms_or search_atoms state_or search unless_emptied after_search after_round rounds begun_unless_emptied begun_after_search further_begun begun unless_variable non_variable placed placed_all start enough run or_next listed held unless_same other_than says_in says carried_one carried
open_rounds = tt
