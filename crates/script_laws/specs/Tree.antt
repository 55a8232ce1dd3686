-- The nodes of a script, from what is known of its polynomials.
use Rattle.std.specs.Prelude.{Bool, not, ◌&&◌, ◌≡◌, eqb, leb, ltb}
use Rattle.std.proofs.Math.Bool.{true, false}
use Rattle.std.proofs.lemmas.Bool.{false≢true, eqb-false, not-true}
use mathlib.Core.List.{List, [], ◌∷◌, ◌++◌, append_assoc, append-nil}
use Rattle.std.proofs.Math.Path.{refl, ap, subst}
use Rattle.std.proofs.Common.{sym, ◌∙◌, lt-ltb, ltb-true, le-leb, leb-true, ne_eqb}
use Prim.Native.Nat.{ℕ, zero, suc, ◌+◌, ◌-◌, ◌<◌, ◌≤◌}
use native.Mathlib.Omega.{arith}
use Rattle.std.proofs.Math.ListN.{length}
use Rattle.rules.specs.Signs.{SignSet}
use Rattle.rules.specs.Polynomial.{Polynomial, Atom}
use Rattle.rules.specs.Formula.{Parts, end, atom, and, or, Node, leaf, all_of, any_of, before, alone, children, nodes}
use Rattle.rules.specs.Answer.{used}
use Rattle.sign_laws.specs.Booleans.{and_first, and_second, and_intro}
use Rattle.rules.specs.Reader.{Reader, give, stuck}
use Rattle.script_laws.specs.Leading.{Leads, arrived}
use Rattle.rules.specs.Combine.{say, ◌then◌, Choice}
use Rattle.script_laws.specs.CombineLaws.{Reads, Passed, passed, read-then, then_read, fine-read, Fine, fine-give, said-giving, Just, just, say-just, fine-say, say-leads, said, Behind, tellable, differs_from_all, differ, Chosen, this, other, leads-chosen, chosen-leads, no-choice, choices, fine-choices}
use Rattle.rules.specs.Text.{bytes, polynomial_text, opening, closing, parts_text, node_text}
use Rattle.rules.specs.Reading.{choice, known_polynomial, atom_with, Inside, node_by, room_behind, later_kids, kids_by, node}
use Rattle.script_laws.specs.Known.{Table, MayCome}
use Rattle.script_laws.specs.Shaped.{Shaped, NodeFits, PartsFit, before-shaped, shaped-first, shaped-rest, before-used, before-nodes, some-node, before-children, children-at-most, before_text, used-longer, used-table}

-- ---- A first part, if there is one.

data First : Parts Atom → Type 0 where
  first : (node : Node Atom) (rest : Parts Atom) → First (before node rest)

first_of : (parts : Parts Atom) → 1 ≤ children parts → First parts
unfolding before children
first_of end h = absurd (omega (arith, h))
first_of (atom a rest) h = first (leaf a) rest
first_of (and kids rest) h = first (all_of kids) rest
first_of (or kids rest) h = first (any_of kids) rest

-- With the ) behind them.
unfoldable pub kids_text : ℕ → Parts Atom → List ℕ
kids_text n parts = parts_text n parts ++ bytes ")"

before-kids : (n : ℕ) (node : Node Atom) (rest : Parts Atom) → bytes " " ++ (node_text n node ++ kids_text n rest) ≡ kids_text n (before node rest)
unfolding kids_text
before-kids n node rest =
    sym (append_assoc (bytes " " ++ node_text n node) (parts_text n rest) (bytes ")")) ∙ ap (λ (l : List ℕ). l ++ bytes ")") (sym (before_text n node rest))

-- Two children at least, in so much room and two.
pub record KidsFit (n d parent : ℕ) (known : List Polynomial) (room : ℕ) (kids : Parts Atom) : Type 0 where
  pub shaped : Shaped n d parent kids
  pub listed : length (used known kids) ≤ 64
  pub fits : nodes kids ≤ room + 2
  pub two : 2 ≤ children kids

-- The room behind the first child and the second.
room-for-second : (room : ℕ) (x : Node Atom) (b : ℕ) → nodes (alone x) + b ≤ room + 2 → b ≤ suc (room_behind room x)
unfolding room_behind
room-for-second room x b h = omega arith

room-for-others : (room : ℕ) (x y : Node Atom) (c : ℕ) → nodes (alone x) + nodes (alone y) + c ≤ room + 2 → c ≤ room_behind (room_behind room x) y
unfolding room_behind
room-for-others room x y c h = let a = some-node x in let b = some-node y in omega arith

-- ---- The children of a node, if each is read.
module _ (n d parent : ℕ) (one : List Polynomial → ℕ → Reader (Node Atom))
    (one-reads : (known : List Polynomial) → Table n known → (room : ℕ) → room ≤ 254 → Reads (one known room) (NodeFits n d parent known room) (node_text n)) where
  behind-table : {known : List Polynomial} {room : ℕ} (x : Node Atom) → Table n known → NodeFits n d parent known room x → Table n (used known (alone x))
  behind-table x table h = used-table n d parent (alone x) h.shaped h.listed table

  -- A child, and then the others.
  before-fits : (known : List Polynomial) (room k : ℕ) (x : Node Atom) (rest : Parts Atom) → 0 < room → NodeFits n d parent known (room - 1) x
      → PartsFit n d parent (used known (alone x)) (room_behind (room - 1) x) k rest → PartsFit n d parent known room (suc k) (before x rest)
  unfolding room_behind
  before-fits known room k x rest some h hs =
      let here = h.fits in
      let others = hs.fits in
      let few = hs.few in
      let counted = before-nodes x rest in
      let kids = before-children x rest in
      record {
        shaped = before-shaped n d parent x rest h.shaped hs.shaped;
        listed = rw (before-used known x rest) hs.listed;
        fits = omega arith;
        few = omega arith;
      }

  fits-first : (known : List Polynomial) (room k : ℕ) (x : Node Atom) (rest : Parts Atom) → PartsFit n d parent known room k (before x rest) → NodeFits n d parent known (room - 1) x
  fits-first known room k x rest h =
      let all = h.fits in
      let counted = before-nodes x rest in
      let some = some-node x in
      let longer = used-longer (used known (alone x)) rest in
      let listed : length (used (used known (alone x)) rest) ≤ 64 = rw (before-used known x rest) at h.listed in
      record { shaped = shaped-first n d parent x rest h.shaped; listed = omega arith; fits = omega arith }

  fits-rest : (known : List Polynomial) (room k : ℕ) (x : Node Atom) (rest : Parts Atom) → PartsFit n d parent known room (suc k) (before x rest)
      → PartsFit n d parent (used known (alone x)) (room_behind (room - 1) x) k rest
  unfolding room_behind
  fits-rest known room k x rest h =
      let all = h.fits in
      let few = h.few in
      let counted = before-nodes x rest in
      let kids = before-children x rest in
      let some = some-node x in
      record { shaped = shaped-rest n d parent x rest h.shaped; listed = rw (before-used known x rest) at h.listed; fits = omega arith; few = omega arith }

  LaterBack : ℕ → List Polynomial → ℕ → List ℕ → Parts Atom → Type 0
  LaterBack k known room t kids = PartsFit n d parent known room k kids × (t ≡ kids_text n kids)

  end_fits : (k : ℕ) (known : List Polynomial) (room : ℕ) → Table n known → PartsFit n d parent known room k end
  unfolding Shaped used nodes children
  end_fits k known room table = record { shaped = tt; listed = table.few; fits = omega arith; few = omega arith }

  end_back : (k : ℕ) (known : List Polynomial) (room : ℕ) → Table n known → {u : List ℕ} {kids : Parts Atom} → Leads (give end) u kids → LaterBack k known room (bytes ")" ++ u) kids
  unfolding LaterBack kids_text parts_text
  end_back k known room table arrived = (end_fits k known room table, refl)

  behind-room : (room : ℕ) (x : Node Atom) → room ≤ 254 → room_behind room x ≤ 254
  unfolding room_behind
  behind-room room x small = let some = some-node x in omega arith

  module _ (k : ℕ) (known : List Polynomial) (room : ℕ) (table : Table n known) (small : room ≤ 254)
      (later : (x : Node Atom) → NodeFits n d parent known (room - 1) x
      → Reads (later_kids one k (used known (alone x)) (room_behind (room - 1) x)) (PartsFit n d parent (used known (alone x)) (room_behind (room - 1) x) k) (kids_text n)) where
    abbrev end_or_kid : List (Choice (Parts Atom))
    end_or_kid =
        choice true (bytes ")") (give end)
        ∷ choice (ltb 0 room) (bytes " ") (one known (room - 1) then λ kid.
        later_kids one k (used known (alone kid)) (room_behind (room - 1) kid) then λ kids. give (before kid kids))
        ∷ []

    reads-one : Reads (one known (room - 1)) (NodeFits n d parent known (room - 1)) (node_text n)
    reads-one = one-reads known table (room - 1) (omega arith)

    more-text : (x : Node Atom) (rest : Parts Atom) → bytes " " ++ (node_text n x ++ (kids_text n rest ++ [])) ≡ kids_text n (before x rest)
    more-text x rest = ap (λ (l : List ℕ). bytes " " ++ (node_text n x ++ l)) (append-nil (kids_text n rest)) ∙ before-kids n x rest

    rest_back : 0 < room → (x : Node Atom) → NodeFits n d parent known (room - 1) x → {u : List ℕ} {kids : Parts Atom}
        → Passed (PartsFit n d parent (used known (alone x)) (room_behind (room - 1) x) k) (kids_text n) (λ rest. give (before x rest)) u kids
        → LaterBack (suc k) known room (bytes " " ++ (node_text n x ++ u)) kids
    unfolding LaterBack
    rest_back some x h (passed rest hs u arrived) = (before-fits known room k x rest some h hs, more-text x rest)

    kid-back : 0 < room → {u : List ℕ} {kids : Parts Atom}
        → Passed (NodeFits n d parent known (room - 1)) (node_text n)
        (λ kid. later_kids one k (used known (alone kid)) (room_behind (room - 1) kid) then λ rest. give (before kid rest)) u kids
        → LaterBack (suc k) known room (bytes " " ++ u) kids
    kid-back some (passed x h u way) = rest_back some x h (read-then (later x h) _ way)

    chosen-back : {t : List ℕ} {kids : Parts Atom} → Chosen end_or_kid t kids → LaterBack (suc k) known room t kids
    chosen-back {t = t} {kids = kids} (other (other x10)) = elim x10 [ ]
    chosen-back (this u e way) = end_back (suc k) known room table way
    chosen-back (other (this u e way)) = kid-back (ltb-true 0 room e) (read-then reads-one _ way)

    first-there : {kids : Parts Atom} → First kids → PartsFit n d parent known room (suc k) kids → Chosen end_or_kid (kids_text n kids) kids
    first-there (first x rest) h =
        let here = fits-first known room (suc k) x rest h in
        let all = h.fits in
        let counted = before-nodes x rest in
        let some = some-node x in
        subst (λ (l : List ℕ). Chosen end_or_kid l (before x rest)) (more-text x rest)
        (other (this _ (lt-ltb 0 room (omega arith)) (then_read reads-one _ x here (then_read (later x here) _ rest (fits-rest known room k x rest h) arrived))))

    chosen-there : (kids : Parts Atom) → PartsFit n d parent known room (suc k) kids → Chosen end_or_kid (kids_text n kids) kids
    unfolding kids_text parts_text children
    chosen-there end h = this [] refl arrived
    chosen-there (atom a rest) h = first-there (first_of (atom a rest) (omega arith)) h
    chosen-there (and kids rest) h = first-there (first_of (and kids rest) (omega arith)) h
    chosen-there (or kids rest) h = first-there (first_of (or kids rest) (omega arith)) h

    more-reads : Reads (later_kids one (suc k) known room) (PartsFit n d parent known room (suc k)) (kids_text n)
    unfolding later_kids LaterBack tellable differs_from_all differ
    more-reads = record {
      fine = fine-choices refl (choices (λ e. fine-give end) (choices (λ e. fine-read reads-one _ (λ x h. fine-read (later x h) _ (λ rest hs. fine-give (before x rest)))) no-choice));
      there = λ kids h. chosen-leads end_or_kid refl (chosen-there kids h);
      back = λ t kids way. chosen-back (leads-chosen end_or_kid way);
    }

  none_there : (known : List Polynomial) (room : ℕ) (kids : Parts Atom) → PartsFit n d parent known room 0 kids → Leads (later_kids one 0 known room) (kids_text n kids) kids
  unfolding later_kids kids_text parts_text children
  none_there known room end h = said-giving (bytes ")") end
  none_there known room (atom a rest) h = let few = h.few in absurd (omega arith)
  none_there known room (and kids rest) h = let few = h.few in absurd (omega arith)
  none_there known room (or kids rest) h = let few = h.few in absurd (omega arith)

  just-back : (known : List Polynomial) (room : ℕ) → Table n known → {t : List ℕ} {kids : Parts Atom} → Just (bytes ")") end t kids → LaterBack 0 known room t kids
  just-back known room table just = end_back 0 known room table arrived

  later-reads : (k : ℕ) (known : List Polynomial) (room : ℕ) → Table n known → room ≤ 254 → Reads (later_kids one k known room) (PartsFit n d parent known room k) (kids_text n)
  unfolding later_kids LaterBack
  later-reads zero known room table small = record {
    fine = fine-say (bytes ")") (fine-give end);
    there = none_there known room;
    back = λ t kids way. just-back known room table (say-just (bytes ")") way);
  }
  later-reads (suc k) known room table small = more-reads k known room table small (λ x h.
      later-reads k (used known (alone x)) (room_behind (room - 1) x) (behind-table x table h) (behind-room (room - 1) x (omega arith)))

  -- ---- All children: two, and then others.
  module _ (known : List Polynomial) (room : ℕ) (table : Table n known) (small : room ≤ 252) where
    abbrev known_after : Node Atom → List Polynomial
    known_after x = used known (alone x)

    abbrev third_on : Node Atom → Node Atom → Reader (Parts Atom)
    third_on x y = later_kids one 253 (used (known_after x) (alone y)) (room_behind (room_behind room x) y) then λ rest. give (before x (before y rest))

    abbrev second_on : Node Atom → Reader (Parts Atom)
    second_on x = say (bytes " ") (one (known_after x) (room_behind room x) then λ y. third_on x y)

    FirstFits : Node Atom → Type 0
    FirstFits x = NodeFits n d parent known room x

    SecondFits : Node Atom → Node Atom → Type 0
    SecondFits x y = NodeFits n d parent (known_after x) (room_behind room x) y

    OthersFit : Node Atom → Node Atom → Parts Atom → Type 0
    OthersFit x y rest = PartsFit n d parent (used (known_after x) (alone y)) (room_behind (room_behind room x) y) 253 rest

    first_reads : Reads (one known room) FirstFits (node_text n)
    unfolding FirstFits
    first_reads = one-reads known table room (omega arith)

    first-table : (x : Node Atom) → FirstFits x → Table n (known_after x)
    unfolding FirstFits
    first-table x h = behind-table x table h

    second_reads : (x : Node Atom) → FirstFits x → Reads (one (known_after x) (room_behind room x)) (SecondFits x) (node_text n)
    unfolding SecondFits
    second_reads x h = one-reads (known_after x) (first-table x h) (room_behind room x) (behind-room room x (omega arith))

    second-table : (x y : Node Atom) → FirstFits x → SecondFits x y → Table n (used (known_after x) (alone y))
    unfolding SecondFits
    second-table x y h k = behind-table y (first-table x h) k

    others-read : (x y : Node Atom) → FirstFits x → SecondFits x y
        → Reads (later_kids one 253 (used (known_after x) (alone y)) (room_behind (room_behind room x) y)) (OthersFit x y) (kids_text n)
    unfolding OthersFit
    others-read x y h k = later-reads 253 (used (known_after x) (alone y)) (room_behind (room_behind room x) y) (second-table x y h k)
        (behind-room (room_behind room x) y (behind-room room x (omega arith)))

    all-used : (x y : Node Atom) (rest : Parts Atom) → used known (before x (before y rest)) ≡ used (used (known_after x) (alone y)) rest
    all-used x y rest = before-used known x (before y rest) ∙ before-used (known_after x) y rest

    kids-fit : (x y : Node Atom) (rest : Parts Atom) → FirstFits x → SecondFits x y → OthersFit x y rest → KidsFit n d parent known room (before x (before y rest))
    unfolding FirstFits SecondFits OthersFit room_behind
    kids-fit x y rest h k l =
        let a = h.fits in
        let b = k.fits in
        let c = l.fits in
        let counted = before-nodes x (before y rest) in
        let counted₁ = before-nodes y rest in
        let kids = before-children x (before y rest) in
        let kids₁ = before-children y rest in
        record {
          shaped = before-shaped n d parent x (before y rest) h.shaped (before-shaped n d parent y rest k.shaped l.shaped);
          listed = rw (all-used x y rest) l.listed;
          fits = omega arith;
          two = omega arith;
        }

    all-text : (x y : Node Atom) (rest : Parts Atom) → bytes " " ++ (node_text n x ++ (bytes " " ++ (node_text n y ++ (kids_text n rest ++ [])))) ≡ kids_text n (before x (before y rest))
    all-text x y rest =
        ap (λ (l : List ℕ). bytes " " ++ (node_text n x ++ l)) (ap (λ (l : List ℕ). bytes " " ++ (node_text n y ++ l)) (append-nil (kids_text n rest)) ∙ before-kids n y rest)
        ∙ before-kids n x (before y rest)

    KidsBack : List ℕ → Parts Atom → Type 0
    KidsBack t kids = KidsFit n d parent known room kids × (t ≡ kids_text n kids)

    third_back : (x y : Node Atom) → FirstFits x → SecondFits x y → {u : List ℕ} {kids : Parts Atom} → Passed (OthersFit x y) (kids_text n) (λ rest. give (before x (before y rest))) u kids
        → KidsBack (bytes " " ++ (node_text n x ++ (bytes " " ++ (node_text n y ++ u)))) kids
    unfolding KidsBack
    third_back x y h k (passed rest l u arrived) = (kids-fit x y rest h k l, all-text x y rest)

    second_back : (x : Node Atom) → FirstFits x → {u : List ℕ} {kids : Parts Atom} → Passed (SecondFits x) (node_text n) (λ y. third_on x y) u kids
        → KidsBack (bytes " " ++ (node_text n x ++ (bytes " " ++ u))) kids
    second_back x h (passed y k u way) = third_back x y h k (read-then (others-read x y h k) _ way)

    first_back : {u : List ℕ} {kids : Parts Atom} → Passed FirstFits (node_text n) (λ x. second_on x) u kids → KidsBack (bytes " " ++ u) kids
    first_back {kids = kids} (passed x h u way) =
        let behind = say-leads (bytes " ") way in
        subst (λ (l : List ℕ). KidsBack (bytes " " ++ (node_text n x ++ l)) kids) (sym behind.whole) (second_back x h (read-then (second_reads x h) _ behind.leads))

    kids-back : {t : List ℕ} {kids : Parts Atom} → Behind (bytes " ") (one known room then λ x. second_on x) t kids → KidsBack t kids
    kids-back {kids = kids} behind = subst (λ (l : List ℕ). KidsBack l kids) (sym behind.whole) (first_back (read-then first_reads _ behind.leads))

    -- And back.
    two-there : (x y : Node Atom) (rest : Parts Atom) → KidsFit n d parent known room (before x (before y rest))
        → Leads (kids_by one known room) (kids_text n (before x (before y rest))) (before x (before y rest))
    unfolding kids_by FirstFits SecondFits OthersFit
    two-there x y rest h =
        let a = some-node x in
        let b = some-node y in
        let all = h.fits in
        let counted = before-nodes x (before y rest) in
        let counted₁ = before-nodes y rest in
        let listed : length (used (used (known_after x) (alone y)) rest) ≤ 64 = rw (all-used x y rest) at h.listed in
        let longer = used-longer (used (known_after x) (alone y)) rest in
        let longer₁ = used-longer (known_after x) (alone y) in
        let shaped = shaped-rest n d parent x (before y rest) h.shaped in
        let few = children-at-most rest in
        let fits-x : FirstFits x = record { shaped = shaped-first n d parent x (before y rest) h.shaped; listed = omega arith; fits = omega arith } in
        let fits-y : SecondFits x y = record { shaped = shaped-first n d parent y rest shaped; listed = omega arith; fits = room-for-second room x (nodes (alone y)) (omega arith) } in
        let fits-rest : OthersFit x y rest = record {
          shaped = shaped-rest n d parent y rest shaped;
          listed = listed;
          fits = room-for-others room x y (nodes rest) (omega arith);
          few = omega arith;
        } in
        subst (λ (l : List ℕ). Leads (kids_by one known room) l (before x (before y rest))) (all-text x y rest)
        (said (bytes " ") (then_read first_reads _ x fits-x
        (said (bytes " ") (then_read (second_reads x fits-x) _ y fits-y (then_read (others-read x y fits-x fits-y) _ rest fits-rest arrived)))))

    second-there : (x : Node Atom) {others : Parts Atom} → First others → KidsFit n d parent known room (before x others)
        → Leads (kids_by one known room) (kids_text n (before x others)) (before x others)
    second-there x (first y rest) h = two-there x y rest h

    kids-there : {kids : Parts Atom} → First kids → KidsFit n d parent known room kids → Leads (kids_by one known room) (kids_text n kids) kids
    kids-there (first x others) h =
        let two = h.two in
        let kids = before-children x others in
        second-there x (first_of others (omega arith)) h

    pub kids-reads : Reads (kids_by one known room) (KidsFit n d parent known room) (kids_text n)
    unfolding kids_by KidsBack
    kids-reads = record {
      fine = fine-say (bytes " ") (fine-read first_reads _ (λ x h. fine-say (bytes " ") (fine-read (second_reads x h) _ (λ y k.
          fine-read (others-read x y h k) _ (λ rest l. fine-give (before x (before y rest)))))));
      there = λ kids h. let two = h.two in kids-there (first_of kids (omega arith)) h;
      back = λ t kids way. kids-back (say-leads (bytes " ") way);
    }

-- ---- A node, if its polynomial is read and, where it may have some, its children.
module _ (n : ℕ) (Reads-Known : (known : List Polynomial) → Table n known → Reads (known_polynomial n known) (MayCome n known) (λ p. polynomial_text n p ++ bytes " ")) where
  module _ (d parent : ℕ) (deep : Bool) (is-deep : deep ≡ ltb 0 d) (inside : Inside) (known : List Polynomial) (table : Table n known) (room : ℕ) (small : room ≤ 254)
      (inside-reads : (kind : ℕ) → deep ≡ true → 2 ≤ room → Reads (inside kind known (room - 2)) (KidsFit n (d - 1) kind known (room - 2)) (kids_text n)) where
    abbrev join_may : ℕ → Bool
    join_may kind = deep && (not (eqb parent kind) && leb 2 room)

    abbrev node_choices : List (Choice (Node Atom))
    node_choices =
        atom_with n known 1 ∷ atom_with n known 2 ∷ atom_with n known 3 ∷ atom_with n known 4 ∷ atom_with n known 5 ∷ atom_with n known 6
        ∷ choice (join_may 1) (bytes "(and") (inside 1 known (room - 2) then λ kids. give (all_of kids))
        ∷ choice (join_may 2) (bytes "(or") (inside 2 known (room - 2) then λ kids. give (any_of kids))
        ∷ []

    NodeBack : List ℕ → Node Atom → Type 0
    NodeBack t x = NodeFits n d parent known room x × (t ≡ node_text n x)

    -- An atom.
    abbrev atom_of : SignSet → Polynomial → Atom
    atom_of s p = record { polynomial = p; set = s }

    atom-text : (s : SignSet) (p : Polynomial) → opening s ++ ((polynomial_text n p ++ bytes " ") ++ closing s) ≡ node_text n (leaf (atom_of s p))
    unfolding node_text
    atom-text s p = ap (λ (l : List ℕ). opening s ++ l) (append_assoc (polynomial_text n p) (bytes " ") (closing s))

    atom-fits : (s : SignSet) → 0 < s → s < 7 → (p : Polynomial) → MayCome n known p → NodeFits n d parent known room (leaf (atom_of s p))
    unfolding Shaped alone before used nodes
    atom-fits s low high p h = record { shaped = (record { within = h.within; not_empty = low; not_full = high }, tt); listed = h.few; fits = omega arith }

    closed-back : (s : SignSet) → 0 < s → s < 7 → (p : Polynomial) → MayCome n known p → {u : List ℕ} {x : Node Atom} → Just (closing s) (leaf (atom_of s p)) u x
        → NodeBack (opening s ++ ((polynomial_text n p ++ bytes " ") ++ u)) x
    unfolding NodeBack
    closed-back s low high p h just = (atom-fits s low high p h, atom-text s p)

    atom-back : (s : SignSet) → 0 < s → s < 7 → {u : List ℕ} {x : Node Atom}
        → Passed (MayCome n known) (λ p. polynomial_text n p ++ bytes " ") (λ p. say (closing s) (give (leaf (atom_of s p)))) u x → NodeBack (opening s ++ u) x
    atom-back s low high (passed p h u way) = closed-back s low high p h (say-just (closing s) way)

    atom-read : (s : SignSet) → 0 < s → s < 7 → {u : List ℕ} {x : Node Atom} → Leads (atom_with n known s).further u x → NodeBack (opening s ++ u) x
    unfolding atom_with
    atom-read s low high way = atom-back s low high (read-then (Reads-Known known table) _ way)

    atom-leads : (s : SignSet) (p : Polynomial) → MayCome n known p → Leads (atom_with n known s).further ((polynomial_text n p ++ bytes " ") ++ closing s) (leaf (atom_of s p))
    unfolding atom_with
    atom-leads s p h = then_read (Reads-Known known table) _ p h (said-giving (closing s) (leaf (atom_of s p)))

    atom-fine : (s : SignSet) → Fine (atom_with n known s).further
    unfolding atom_with
    atom-fine s = fine-read (Reads-Known known table) _ (λ p h. fine-say (closing s) (fine-give (leaf (atom_of s p))))

    -- An AND or an OR.
    may-deep : (kind : ℕ) → join_may kind ≡ true → deep ≡ true
    may-deep kind e = and_first deep (not (eqb parent kind) && leb 2 room) e

    may-kind : (kind : ℕ) → join_may kind ≡ true → parent ≡ kind → ⊥
    may-kind kind e = eqb-false parent kind (not-true (eqb parent kind) (and_first (not (eqb parent kind)) (leb 2 room) (and_second deep (not (eqb parent kind) && leb 2 room) e)))

    may-room : (kind : ℕ) → join_may kind ≡ true → 2 ≤ room
    may-room kind e = leb-true 2 room (and_second (not (eqb parent kind)) (leb 2 room) (and_second deep (not (eqb parent kind) && leb 2 room) e))

    join-reads : (kind : ℕ) → join_may kind ≡ true → Reads (inside kind known (room - 2)) (KidsFit n (d - 1) kind known (room - 2)) (kids_text n)
    join-reads kind e = inside-reads kind (may-deep kind e) (may-room kind e)

    deep-some : join_may 1 ≡ true → 0 < d
    deep-some e = ltb-true 0 d (sym is-deep ∙ may-deep 1 e)

    deep-some₂ : join_may 2 ≡ true → 0 < d
    deep-some₂ e = ltb-true 0 d (sym is-deep ∙ may-deep 2 e)

    and-back : join_may 1 ≡ true → {u : List ℕ} {x : Node Atom} → Passed (KidsFit n (d - 1) 1 known (room - 2)) (kids_text n) (λ kids. give (all_of kids)) u x
        → NodeBack (bytes "(and" ++ u) x
    unfolding NodeBack node_text Shaped alone before used nodes kids_text
    and-back e (passed kids h u arrived) =
        let fits = h.fits in
        let some = may-room 1 e in (
          record { shaped = (may-kind 1 e, deep-some e, h.two, h.shaped, tt); listed = h.listed; fits = omega arith },
          ap (λ (l : List ℕ). bytes "(and" ++ l) (append-nil (kids_text n kids)),
        )

    or-back : join_may 2 ≡ true → {u : List ℕ} {x : Node Atom} → Passed (KidsFit n (d - 1) 2 known (room - 2)) (kids_text n) (λ kids. give (any_of kids)) u x
        → NodeBack (bytes "(or" ++ u) x
    unfolding NodeBack node_text Shaped alone before used nodes kids_text
    or-back e (passed kids h u arrived) =
        let fits = h.fits in
        let some = may-room 2 e in (
          record { shaped = (may-kind 2 e, deep-some₂ e, h.two, h.shaped, tt); listed = h.listed; fits = omega arith },
          ap (λ (l : List ℕ). bytes "(or" ++ l) (append-nil (kids_text n kids)),
        )

    choice-back : {t : List ℕ} {x : Node Atom} → Chosen node_choices t x → NodeBack t x
    unfolding atom_with opening
    choice-back {t = t} (other (other (other (other (other (other (other (other x41)))))))) = elim x41 [ ]
    choice-back (this u e way) = atom-read 1 (omega arith) (omega arith) way
    choice-back (other (this u e way)) = atom-read 2 (omega arith) (omega arith) way
    choice-back (other (other (this u e way))) = atom-read 3 (omega arith) (omega arith) way
    choice-back (other (other (other (this u e way)))) = atom-read 4 (omega arith) (omega arith) way
    choice-back (other (other (other (other (this u e way))))) = atom-read 5 (omega arith) (omega arith) way
    choice-back (other (other (other (other (other (this u e way)))))) = atom-read 6 (omega arith) (omega arith) way
    choice-back (other (other (other (other (other (other (this u e way))))))) = and-back e (read-then (join-reads 1 e) _ way)
    choice-back (other (other (other (other (other (other (other (this u e way)))))))) = or-back e (read-then (join-reads 2 e) _ way)

    -- And back.
    atom-chosen : (s : SignSet) → 0 < s → s < 7 → {u : List ℕ} {x : Node Atom} → Leads (atom_with n known s).further u x → Chosen node_choices (opening s ++ u) x
    unfolding atom_with opening
    atom-chosen zero low high way = absurd (omega arith)
    atom-chosen (suc zero) low high way = this _ refl way
    atom-chosen (suc (suc zero)) low high way = other (this _ refl way)
    atom-chosen (suc (suc (suc zero))) low high way = other (other (this _ refl way))
    atom-chosen (suc (suc (suc (suc zero)))) low high way = other (other (other (this _ refl way)))
    atom-chosen (suc (suc (suc (suc (suc zero))))) low high way = other (other (other (other (this _ refl way))))
    atom-chosen (suc (suc (suc (suc (suc (suc zero)))))) low high way = other (other (other (other (other (this _ refl way)))))
    atom-chosen (suc (suc (suc (suc (suc (suc (suc s))))))) low high way = absurd (omega arith)

    join-may : (kind : ℕ) → (parent ≡ kind → ⊥) → 0 < d → 2 ≤ room → join_may kind ≡ true
    join-may kind apart some big = and_intro (is-deep ∙ lt-ltb 0 d some) (and_intro (ap not (ne_eqb parent kind apart)) (le-leb 2 room big))

    node-chosen : (x : Node Atom) → NodeFits n d parent known room x → Chosen node_choices (node_text n x) x
    unfolding Shaped alone before used nodes node_text kids_text
    node-chosen (leaf a) h =
        let plainly = h.shaped.0 in
        subst (λ (l : List ℕ). Chosen node_choices l (leaf a)) (atom-text a.set a.polynomial)
        (atom-chosen a.set plainly.not_empty plainly.not_full (atom-leads a.set a.polynomial (record { within = plainly.within; few = h.listed })))
    node-chosen (all_of kids) h =
        let two : 2 ≤ children kids = h.shaped.2 in
        let many = children-at-most kids in
        let fits = h.fits in
        let may = join-may 1 h.shaped.0 h.shaped.1 (omega arith) in
        subst (λ (l : List ℕ). Chosen node_choices (bytes "(and" ++ l) (all_of kids)) (append-nil (kids_text n kids))
        (other (other (other (other (other (other (this _ may (then_read (join-reads 1 may) _ kids
        (record { shaped = h.shaped.3; listed = h.listed; fits = omega arith; two = two }) arrived))))))))
    node-chosen (any_of kids) h =
        let two : 2 ≤ children kids = h.shaped.2 in
        let many = children-at-most kids in
        let fits = h.fits in
        let may = join-may 2 h.shaped.0 h.shaped.1 (omega arith) in
        subst (λ (l : List ℕ). Chosen node_choices (bytes "(or" ++ l) (any_of kids)) (append-nil (kids_text n kids))
        (other (other (other (other (other (other (other (this _ may (then_read (join-reads 2 may) _ kids
        (record { shaped = h.shaped.3; listed = h.listed; fits = omega arith; two = two }) arrived)))))))))

    nodes-told : tellable node_choices ≡ true
    unfolding tellable differs_from_all differ atom_with opening
    nodes-told = refl

    by-reads : Reads (node_by n deep inside parent known room) (NodeFits n d parent known room) (node_text n)
    unfolding node_by NodeBack atom_with
    by-reads = record {
      fine = fine-choices refl (choices (λ e. atom-fine 1) (choices (λ e. atom-fine 2) (choices (λ e. atom-fine 3) (choices (λ e. atom-fine 4)
          (choices (λ e. atom-fine 5) (choices (λ e. atom-fine 6)
          (choices (λ e. fine-read (join-reads 1 e) _ (λ kids h. fine-give (all_of kids)))
          (choices (λ e. fine-read (join-reads 2 e) _ (λ kids h. fine-give (any_of kids))) no-choice))))))));
      there = λ x h. chosen-leads node_choices nodes-told (node-chosen x h);
      back = λ t x way. choice-back (leads-chosen node_choices way);
    }

  no_less : (d kind : ℕ) (known : List Polynomial) (room : ℕ) (r : Reader (Parts Atom)) → Reads r (KidsFit n d kind known room) (kids_text n) → Reads r (KidsFit n (suc d - 1) kind known room) (kids_text n)
  no_less d kind known room r h = let same : d ≡ suc d - 1 = omega arith in subst (λ (i : ℕ). Reads r (KidsFit n i kind known room) (kids_text n)) same h

  -- A node of any nesting.
  pub node-reads : (d parent : ℕ) (known : List Polynomial) → Table n known → (room : ℕ) → room ≤ 254 → Reads (node n d parent known room) (NodeFits n d parent known room) (node_text n)
  unfolding node
  node-reads zero parent known table room small =
      by-reads 0 parent false refl (λ kind known₁ room₁. stuck) known table room small (λ kind deep big. absurd (false≢true deep))
  node-reads (suc d) parent known table room small =
      by-reads (suc d) parent true (sym (lt-ltb 0 (suc d) (omega arith))) (λ kind known₁ room₁. kids_by (node n d kind) known₁ room₁) known table room small
      (λ kind deep big. no_less d kind known (room - 2) _ (kids-reads n d kind (node n d kind) (λ known₁ table₁ room₁ small₁. node-reads d kind known₁ table₁ room₁ small₁)
      known (room - 2) table (omega arith)))
