-- The reader of the tree, step by step: a node by what it begins with, children one behind the other, and what is stored then.
use mathlib.Core.Bool.{Bool, true, false, not, ◌&&◌, false≢true}
use mathlib.Core.List.{List, append-nil}
use mathlib.Core.Path.{◌≡◌, refl, sym, ap, ap₂, ◌∙◌}
use Prim.Native.Nat.{ℕ, zero, suc, ◌+◌, ◌-◌, ◌*◌, ◌<◌, ◌≤◌}
use native.Mathlib.Nat.{add-zero, zero-add}
use native.Mathlib.Omega.{arith}
use borrow.Author.Tests.{lt-ltb, le-ltb, ltb-true, leb-true, eqb-true, eqb-false, eq-eqb, ne_eqb}
use lib.Dec.{eqb, ltb, leb}
use lib.IntN.{ℤ}
use lib.ListN.{length, drop, set}
use lib.Seq.{sets, length-sets}
use Rattle.rules.specs.Polynomial.{Polynomial, Atom}
use Rattle.rules.specs.Formula.{Parts, end, Node, leaf, all_of, any_of, before, alone, each_atom, each_atom_of, children, nodes}
use Rattle.rules.specs.Answer.{used, numbered}
use Rattle.bits.proofs.Stores.{sets-append}
use Rattle.block.specs.Held.{tokens, kind_of}
use Rattle.rules.specs.Reader.{Reader, give, stuck}
use Rattle.rules.specs.Combine.{say, ◌then◌, open_combine}
use Rattle.rules.specs.Text.{closing, opening}
use Rattle.rules.specs.Reading.{known_polynomial, atom_with, node_by, room_behind, kids_by, node}
use Rattle.script_laws.specs.Steps.{Part, got, stop, read_part, and_then, part_then}
use Rattle.script_polynomial.specs.At.{read_at, Stops}
use Rattle.script_polynomial.specs.Tabled.{Tabled, SomeTabled, Listed, PieceOf, PieceFound}
use Rattle.script_polynomial.specs.declared.Piece.{Piece}
use Rattle.script_back.specs.Runs.{SaidBy, Said}
use Rattle.script_back.specs.Opening.{Further, any, Allowed, OpenedBy, Opened}
use Rattle.script_back.specs.Tree.{Ready, Kids, Reached, Finds, Found, node_tokens, parts_tokens, NodeStored, atom_from, may_join, AtomFound, NodeFound}
use Rattle.script_back.specs.Tree.{Closes, One, kids_after, put_before, GoesOn, TurnOf, TurnFound, KidsStored, KidsFound}
use Rattle.script_back.specs.declared.opening.Opening.{Opening}
use Rattle.script_back.specs.declared.tree.Place.{Place}
use Rattle.script_back.specs.declared.tree.Branch.{Branch}
use Rattle.script_back.specs.declared.tree.Turn.{Turn}
use Rattle.script_back.specs.declared.tree.Turn.TheVariants.{End, More}
use Rattle.script_back.proofs.Positions.{say-then}
use Rattle.script_back.proofs.Tokens.{each-children, used-before, nodes-before, children-before, some_nodes, tokens-before, length-node, set_before}
use Rattle.std.specs.Prelude.{Result, Ok, Err}
use Rattle.script_polynomial.specs.declared.Stop.{Stop}

-- ---- whether an AND or an OR may begin

pub no-nesting : (nesting parent room kind : ℕ) → nesting ≡ 0 → false ≡ may_join nesting parent room kind
no-nesting nesting parent room kind e = rw e

pub same_kind : (nesting parent room kind : ℕ) → parent ≡ kind → false ≡ may_join nesting parent room kind
same_kind nesting parent room kind e = rw (eq-eqb parent kind e) (by-test (ltb 0 nesting))
  where
    by-test : (b : Bool) → false ≡ (b && false)
    by-test true = refl
    by-test false = refl

pub may-join : (nesting parent room kind : ℕ) → (nesting ≡ 0 → ⊥) → (parent ≡ kind → ⊥) → leb 2 room ≡ may_join nesting parent room kind
may-join nesting parent room kind some other = let h : 0 < nesting = omega arith in rw (lt-ltb 0 nesting h, ne_eqb parent kind other)

-- Where one may begin, there is a nesting left and room for two.
pub record Joins (nesting room : ℕ) : Type 0 where
  pub deep : 0 < nesting
  pub two : 2 ≤ room

pub joins : (nesting parent room kind : ℕ) → may_join nesting parent room kind ≡ true → Joins nesting room
joins nesting parent room kind e =
    let (a, b) = both (ltb 0 nesting) _ e in
    let (c, d) = both (not (eqb parent kind)) (leb 2 room) b in
    record { deep = ltb-true 0 nesting a; two = leb-true 2 room d }
  where
    both : (a b : Bool) → (a && b) ≡ true → (a ≡ true) × (b ≡ true)
    both true b e = (refl, e)
    both false b e = absurd (false≢true e)

-- ---- what reading finds

module _ {A B : Type 0} where
  pub found-mapped : {text : List ℕ} {at at' : ℕ} {r : Reader A} {r' : Reader B} {Stored : A → Place → ℕ → Type 0} {Stored' : B → Place → ℕ → Type 0} {b : Result Branch Stop}
      (f : A → B) → read_at text at' r' ≡ and_then (read_at text at r) (λ a q u. got (f a) q u)
      → ((a : A) (place : Place) (kind : ℕ) → Stored a place kind → Stored' (f a) place kind) → Found text at r Stored b → Found text at' r' Stored' b
  unfolding Finds and_then
  found-mapped {b = Err halt} f e s h = record { finds = e ∙ ap (λ (x : Part A). and_then x (λ a q u. got (f a) q u)) h.finds }
  found-mapped {b = Ok one} f e s h =
      let x = h.finds in
      record {
        finds = record {
          part = f x.part;
          reading = e ∙ ap (λ (x : Part A). and_then x (λ a q u. got (f a) q u)) x.reading;
          inside = x.inside;
          stored = s x.part one.behind one.kind x.stored;
        };
      }

module _ {A : Type 0} where
  pub found-same : {text : List ℕ} {at at' : ℕ} {r r' : Reader A} {Stored Stored' : A → Place → ℕ → Type 0} {b : Result Branch Stop}
      → read_at text at' r' ≡ read_at text at r → ((a : A) (place : Place) (kind : ℕ) → Stored a place kind → Stored' a place kind)
      → Found text at r Stored b → Found text at' r' Stored' b
  unfolding Finds
  found-same {b = Err halt} e s h = record { finds = e ∙ h.finds }
  found-same {b = Ok one} e s h =
      let x = h.finds in
      record { finds = record { part = x.part; reading = e ∙ x.reading; inside = x.inside; stored = s x.part one.behind one.kind x.stored } }

  found-stop : {text : List ℕ} {at : ℕ} {r : Reader A} {Stored : A → Place → ℕ → Type 0} {halt : Stop} → read_at text at r ≡ stop halt.at → Found text at r Stored (Err halt)
  unfolding Finds
  found-stop e = record { finds = e }

-- ---- atoms

module _ {text : List ℕ} {place : Place} {s number : ℕ} {token : List ℕ} {step : Result ℕ Stop} (h : Said text place.at (closing s) step) where
  pub close-stops : {halt : Stop} {token' : List ℕ} → step ≡ Err halt → Closes text place s number token token' (Err halt)
  unfolding SaidBy
  close-stops e = found-stop (rw e at h).by_step

  pub close-reads : {next : ℕ} → step ≡ Ok next
      → Closes text place s number token (set token place.tokens (number * 8 + s)) (Ok (record { behind = record { at = next; room = place.room; known = place.known; tokens = place.tokens + 1 }; kind = 0 }))
  unfolding SaidBy Finds
  close-reads e =
      let stand = (rw e at h).by_step in
      record {
        finds = record {
          part = 0;
          reading = stand.reading;
          inside = stand.inside;
          stored = record { same_known = refl; same_room = refl; counted = refl; tape = refl; kind_is = refl };
        };
      }

-- What must stand behind a polynomial.
abbrev close_with : ℕ → Polynomial → ℕ → List ℕ → Part (Node Atom)
close_with s p q u = read_part q (say (closing s) (give (leaf (record { polynomial = p; set = s })))) u

atom-then : (text : List ℕ) (at n : ℕ) (table : List Polynomial) (s : ℕ) (x : Part Polynomial) → read_at text at (known_polynomial n table) ≡ x
    → read_at text at (atom_from n table s) ≡ and_then x (close_with s)
atom-then text at n table s x e = part_then at (known_polynomial n table) _ (drop at text) ∙ ap (λ (x : Part Polynomial). and_then x (close_with s)) e

-- The polynomial was read, and the atom is closed behind it.
listed-closes : {text : List ℕ} {n s : ℕ} (place : Place) {cs₀ : List ℤ} {ms₀ ts₀ : List ℕ} {table : List Polynomial} {cs' : List ℤ} {ms' ts' token token' : List ℕ}
    {number known behind : ℕ} {branch : Result Branch Stop} → Listed text place.at n cs₀ ms₀ ts₀ table cs' ms' ts' number known behind
    → Closes text (record { at = behind; room = place.room; known = known; tokens = place.tokens }) s number token token' branch
    → Found text place.at (atom_from n table s) (NodeStored n cs₀ ms₀ ts₀ table place.tokens place.room cs' ms' ts' token token') branch
unfolding and_then read_part used alone before tokens each_atom_of numbered nodes kind_of
listed-closes {text} {n} {s} place {table = table} {token = token} {behind = behind} listed closes =
    let p = listed.polynomial in
    found-mapped (λ (x : ℕ). leaf (record { polynomial = p; set = s }))
    (atom-then text place.at n table s (got p behind (drop behind text)) listed.reaches.reading
    ∙ say-then behind (closing s) (give (leaf (record { polynomial = p; set = s }))) (drop behind text))
    (λ x after kind stored. record {
      tabled = listed.tabled;
      known = listed.counted ∙ sym stored.same_known;
      tape = stored.tape ∙ ap (λ (i : ℕ). set token place.tokens (i * 8 + s)) listed.numbered;
      counted = omega (arith, stored.counted);
      room_left = omega (arith, stored.counted, stored.same_room);
      kind_is = stored.kind_is;
    })
    closes

module _ {text : List ℕ} {n : ℕ} (place : Place) {cs cs' : List ℤ} {ms ms' ts ts' : List ℕ} {piece : Result Piece Stop}
    (h : PieceFound text place.at n place.known cs cs' ms ms' ts ts' piece) where
  piece-stops : {halt : Stop} → piece ≡ Err halt → {cs₀ : List ℤ} {ms₀ ts₀ : List ℕ} {table : List Polynomial} → Tabled n cs₀ ms₀ ts₀ table cs ms ts → length table ≡ place.known
      → Stops text place.at (known_polynomial n table) halt.at
  unfolding PieceOf
  piece-stops e tabled counted = ((rw e at h).found _ _ _ _ tabled counted).0

  piece-listed : {one : Piece} → piece ≡ Ok one → {cs₀ : List ℤ} {ms₀ ts₀ : List ℕ} {table : List Polynomial} → Tabled n cs₀ ms₀ ts₀ table cs ms ts
      → length table ≡ place.known → Listed text place.at n cs₀ ms₀ ts₀ table cs' ms' ts' one.number one.known one.behind
  unfolding PieceOf
  piece-listed e tabled counted = (rw e at h).found _ _ _ _ tabled counted

  pub atom-stops : {s : ℕ} {halt : Stop} {token token' : List ℕ} → piece ≡ Err halt → AtomFound text n place s cs cs' ms ms' ts ts' token token' (Err halt)
  unfolding and_then
  atom-stops {s} {halt} e = record {
    found = λ cs₀ ms₀ ts₀ table tabled counted. found-stop (atom-then text place.at n table s (stop halt.at) (piece-stops e tabled counted).reading);
  }

  pub atom-reads : {one : Piece} {s : ℕ} {token token' : List ℕ} {branch : Result Branch Stop} → piece ≡ Ok one
      → Closes text (record { at = one.behind; room = place.room; known = one.known; tokens = place.tokens }) s one.number token token' branch
      → AtomFound text n place s cs cs' ms ms' ts ts' token token' branch
  atom-reads e closes = record { found = λ cs₀ ms₀ ts₀ table tabled counted. listed-closes place (piece-listed e tabled counted) closes }

  -- The polynomial that was read is one of at most 64.
  pub atom-number : {one : Piece} → piece ≡ Ok one → SomeTabled n place.known cs ms ts → (one.number < 64) × (one.behind ≤ length text)
  atom-number e some =
      let listed = piece-listed e some.tabled some.counted in
      (omega (arith, listed.small, listed.counted, listed.tabled.polynomials), listed.reaches.inside)

-- ---- a node by what it begins with

unfoldable inner : ℕ → ℕ → ℕ → List Polynomial → ℕ → Reader (Parts Atom)
inner n zero kind known room = stuck
inner n (suc d) kind known room = kids_by (node n d kind) known room

unfoldable pub joined_as : ℕ → Parts Atom → Node Atom
joined_as zero kids = any_of kids
joined_as (suc zero) kids = all_of kids
joined_as (suc (suc k)) kids = any_of kids

unfoldable pick : Bool → Reader (Node Atom) → Reader (Node Atom) → Reader (Node Atom)
pick true atom join = atom
pick false atom join = join

unfoldable behind_it : ℕ → ℕ → List Polynomial → ℕ → Further
behind_it n d known room which = pick (ltb which 7) (atom_from n known which) (inner n d (which - 6) known (room - 2) then λ kids. give (joined_as (which - 6) kids))

node-any : (n d parent : ℕ) (known : List Polynomial) (room : ℕ) → node n d parent known room ≡ any (may_join d parent room 1) (may_join d parent room 2) (behind_it n d known room)
unfolding node node_by atom_with open_combine behind_it pick inner joined_as opening
node-any n zero parent known room = refl
node-any n (suc d) parent known room = let h : 0 < suc d = omega arith in rw (lt-ltb 0 (suc d) h)

at-any : (text : List ℕ) (at n d parent : ℕ) (known : List Polynomial) (room : ℕ) {ands ors : Bool} → ands ≡ may_join d parent room 1 → ors ≡ may_join d parent room 2
    → read_at text at (node n d parent known room) ≡ read_at text at (any ands ors (behind_it n d known room))
at-any text at n d parent known room e f =
    ap (read_at text at) (node-any n d parent known room ∙ ap₂ (λ (a b : Bool). any a b (behind_it n d known room)) (sym e) (sym f))

-- Behind an atom's beginning, and behind that of an AND or an OR.
behind-atom : (text : List ℕ) (next n d : ℕ) (known : List Polynomial) (room which : ℕ) → which < 7
    → read_at text next (behind_it n d known room which) ≡ read_at text next (atom_from n known which)
unfolding behind_it pick
behind-atom text next n d known room which h = rw (lt-ltb which 7 h)

behind-join : (text : List ℕ) (next n d : ℕ) (known : List Polynomial) (room which : ℕ) → 7 ≤ which → 0 < d
    → read_at text next (behind_it n d known room which)
    ≡ and_then (read_at text next (kids_after (node n (d - 1) (which - 6)) 0 known (room - 2))) (λ kids q u. got (joined_as (which - 6) kids) q u)
unfolding behind_it pick kids_after inner read_part
behind-join text next n zero known room which h deep = absurd (omega arith)
behind-join text next n (suc d) known room which h deep =
    let less : suc d - 1 ≡ d = omega arith in
    rw (le-ltb which 7 h, less) (part_then next (kids_by (node n d (which - 6)) known (room - 2)) (λ kids. give (joined_as (which - 6) kids)) (drop next text))

-- An AND or an OR of its children, its own token before theirs.
join-stored : {n : ℕ} {cs₀ : List ℤ} {ms₀ ts₀ : List ℕ} {table : List Polynomial} (kind count room : ℕ) {cs' : List ℤ} {ms' ts' token token' : List ℕ} (kids : Parts Atom) {after : Place} {kind' : ℕ}
    → 1 ≤ kind → kind ≤ 2 → 2 ≤ room → KidsStored n cs₀ ms₀ ts₀ table count 0 (count + 1) (room - 2) kind cs' ms' ts' token token' kids after kind'
    → NodeStored n cs₀ ms₀ ts₀ table count room cs' ms' ts' token token' (joined_as kind kids) after kind'
unfolding joined_as used alone before tokens each_atom_of nodes kind_of
join-stored zero count room kids low high two h = absurd (omega arith)
join-stored {table = table} (suc zero) count room {token = token} kids low high two h = record {
  tabled = h.tabled;
  known = h.known;
  tape =
      let next : count + 1 ≡ suc count = omega arith in
      h.tape
      ∙ set_before token (count + 1) (parts_tokens (used table kids) kids) count (16777216 + (0 + children kids)) (omega arith)
      ∙ rw (next, zero-add (children kids), ← (each-children (numbered (used table kids)) kids), append-nil (parts_tokens (used table kids) kids));
  counted = omega (arith, h.counted);
  room_left = omega (arith, h.room_left);
  kind_is = h.kind_is;
}
join-stored {table = table} (suc (suc zero)) count room {token = token} kids low high two h = record {
  tabled = h.tabled;
  known = h.known;
  tape =
      let next : count + 1 ≡ suc count = omega arith in
      h.tape
      ∙ set_before token (count + 1) (parts_tokens (used table kids) kids) count (16777216 + (0 + children kids)) (omega arith)
      ∙ rw (next, zero-add (children kids), ← (each-children (numbered (used table kids)) kids), append-nil (parts_tokens (used table kids) kids));
  counted = omega (arith, h.counted);
  room_left = omega (arith, h.room_left);
  kind_is = h.kind_is;
}
join-stored (suc (suc (suc kind))) count room kids low high two h = absurd (omega arith)

-- The two tests that the code makes.
pub record Tests (nesting parent room : ℕ) (ands ors : Bool) : Type 0 where
  pub is_ands : ands ≡ may_join nesting parent room 1
  pub is_ors : ors ≡ may_join nesting parent room 2

pub tested : (nesting parent room : ℕ) {ands ors : Bool} → ands ≡ may_join nesting parent room 1 → ors ≡ may_join nesting parent room 2 → Tests nesting parent room ands ors
tested nesting parent room e f = record { is_ands = e; is_ors = f }

module _ {text : List ℕ} (n : ℕ) {nesting parent : ℕ} (place : Place) {ands ors : Bool} {opening : Result Opening Stop} (h : Opened text place.at (any ands ors) (Allowed ands ors) opening)
    (tests : Tests nesting parent place.room ands ors) where
  pub node-stopped : {halt : Stop} {cs cs' : List ℤ} {ms ms' ts ts' token token' : List ℕ} → opening ≡ Err halt
      → NodeFound text n nesting parent place cs cs' ms ms' ts ts' token token' (Err halt)
  unfolding OpenedBy
  node-stopped e = record {
    found = λ cs₀ ms₀ ts₀ table tabled counted. found-stop (at-any text place.at n nesting parent table place.room tests.is_ands tests.is_ors ∙ (rw e at h).by_opening (behind_it n nesting table place.room));
  }

  module _ {one : Opening} (e : opening ≡ Ok one) where
    abbrev which : ℕ
    which = one.which

    abbrev next : ℕ
    next = one.next

    begins : (known : List Polynomial) → read_at text place.at (node n nesting parent known place.room) ≡ read_at text next (behind_it n nesting known place.room which)
    unfolding OpenedBy
    begins known = at-any text place.at n nesting parent known place.room tests.is_ands tests.is_ors ∙ (rw e at h).by_opening.reading (behind_it n nesting known place.room)

    pub next-inside : next ≤ length text
    unfolding OpenedBy
    next-inside = (rw e at h).by_opening.inside

    pub beginning-allowed : Allowed ands ors which
    unfolding OpenedBy
    beginning-allowed = (rw e at h).by_opening.may

    -- Where the beginning is none of an atom, an AND or an OR may begin.
    pub join-allowed : 7 ≤ which → Joins nesting place.room
    join-allowed some = by-test (eqb which 7) refl
      where
        by-test : (b : Bool) → eqb which 7 ≡ b → Joins nesting place.room
        by-test true w = joins nesting parent place.room 1 (sym tests.is_ands ∙ beginning-allowed.an_and (eqb-true which 7 w))
        by-test false w = joins nesting parent place.room 2 (sym tests.is_ors ∙ beginning-allowed.an_or (let other = eqb-false which 7 w in omega (arith, beginning-allowed.most)))

    pub node-atom : {cs cs' : List ℤ} {ms ms' ts ts' token token' : List ℕ} {branch : Result Branch Stop} → which < 7
        → AtomFound text n (record { at = next; room = place.room; known = place.known; tokens = place.tokens }) which cs cs' ms ms' ts ts' token token' branch
        → NodeFound text n nesting parent place cs cs' ms ms' ts ts' token token' branch
    node-atom few atom = record {
      found = λ cs₀ ms₀ ts₀ table tabled counted.
          found-same (begins table ∙ behind-atom text next n nesting table place.room which few) (λ node after kind stored. stored) (atom.found cs₀ ms₀ ts₀ table tabled counted);
    }

    pub node-join : {cs cs' : List ℤ} {ms ms' ts ts' token token' : List ℕ} {branch : Result Branch Stop} → 7 ≤ which
        → KidsFound text n (nesting - 1) (which - 6) place.tokens 0 (record { at = next; room = place.room - 2; known = place.known; tokens = place.tokens + 1 }) cs cs' ms ms' ts ts' token token' branch
        → NodeFound text n nesting parent place cs cs' ms ms' ts ts' token token' branch
    node-join some kids = record {
      found = λ cs₀ ms₀ ts₀ table tabled counted.
          let may = join-allowed some in
          found-mapped (joined_as (which - 6)) (begins table ∙ behind-join text next n nesting table place.room which some may.deep)
          (λ parts after kind stored. join-stored (which - 6) place.tokens place.room parts (omega arith) (omega (arith, beginning-allowed.most)) may.two stored)
          (kids.found cs₀ ms₀ ts₀ table tabled counted);
    }

-- ---- children

module _ {text : List ℕ} {n nesting kind own j : ℕ} (place : Place) where
  pub kids-stopped : {halt : Stop} {cs cs' : List ℤ} {ms ms' ts ts' token token' : List ℕ} → TurnFound text place.at place.room j (Err halt)
      → KidsFound text n nesting kind own j place cs cs' ms ms' ts ts' token token' (Err halt)
  unfolding TurnOf
  kids-stopped h = record { found = λ cs₀ ms₀ ts₀ table tabled counted. found-stop (h.turns (node n nesting kind) table) }

  -- Their parent ends: its token has their number.
  pub kids-ended : {cs : List ℤ} {ms ts token : List ℕ} {turn : Turn} → TurnFound text place.at place.room j (Ok turn) → turn ≡ End
      → KidsFound text n nesting kind own j place cs cs ms ms ts ts token (set token own (16777216 + j))
      (Ok (record { behind = record { at = place.at + 1; room = place.room; known = place.known; tokens = place.tokens }; kind = kind }))
  unfolding TurnOf Finds used tokens each_atom nodes children
  kids-ended {token = token} h e =
      let ends = (rw e at h).turns in
      record {
        found = λ cs₀ ms₀ ts₀ table tabled counted. record {
          finds = record {
            part = end;
            reading = ends.reading (node n nesting kind) table;
            inside = ends.inside;
            stored = record {
              tabled = tabled;
              known = counted;
              tape = ap (λ (i : ℕ). set token own (16777216 + i)) (sym (add-zero j));
              counted = sym (add-zero place.tokens);
              room_left = omega (arith, ends.enough);
              kind_is = refl;
            };
          };
        };
      }

-- Another child comes.
pub turn-goes : {text : List ℕ} {at room j : ℕ} {turn : Turn} → TurnFound text at room j (Ok turn) → {left : ℕ} → turn ≡ More left → GoesOn text at room j left
unfolding TurnOf
turn-goes h e = (rw e at h).turns

abbrev pub child_at : Place → ℕ → Place
child_at place left = record { at = place.at + 1; room = left; known = place.known; tokens = place.tokens }

-- Its node was read.
pub child-reached : {text : List ℕ} {n nesting kind : ℕ} {place after : Place} {k : ℕ} {cs cs₁ : List ℤ} {ms ms₁ ts ts₁ token token₁ : List ℕ} {branch : Result Branch Stop}
    → NodeFound text n nesting kind place cs cs₁ ms ms₁ ts ts₁ token token₁ branch → branch ≡ Ok (record { behind = after; kind = k })
    → {cs₀ : List ℤ} {ms₀ ts₀ : List ℕ} {table : List Polynomial} → Tabled n cs₀ ms₀ ts₀ table cs ms ts → length table ≡ place.known
    → Reached text place.at (node n nesting kind table place.room) (NodeStored n cs₀ ms₀ ts₀ table place.tokens place.room cs₁ ms₁ ts₁ token token₁) after k
unfolding Finds
child-reached h e tabled counted = ((rw e at h).found _ _ _ _ tabled counted).finds

child-stops : {text : List ℕ} {n nesting kind : ℕ} {place : Place} {halt : Stop} {cs cs₁ : List ℤ} {ms ms₁ ts ts₁ token token₁ : List ℕ} {branch : Result Branch Stop}
    → NodeFound text n nesting kind place cs cs₁ ms ms₁ ts ts₁ token token₁ branch → branch ≡ Err halt
    → {cs₀ : List ℤ} {ms₀ ts₀ : List ℕ} {table : List Polynomial} → Tabled n cs₀ ms₀ ts₀ table cs ms ts → length table ≡ place.known
    → Stops text place.at (node n nesting kind table place.room) halt.at
unfolding Finds
child-stops h e tabled counted = record { reading = ((rw e at h).found _ _ _ _ tabled counted).finds }

-- What comes behind a child.
abbrev others : One → ℕ → List Polynomial → ℕ → Node Atom → ℕ → List ℕ → Part (Parts Atom)
others one j known room kid q u = put_before kid (read_part q (kids_after one (suc j) (used known (alone kid)) (room_behind room kid)) u)

pub child-stopped : {text : List ℕ} {n nesting kind own j : ℕ} (place : Place) {left : ℕ} {halt : Stop} {cs cs₁ cs' : List ℤ} {ms ms₁ ms' ts ts₁ ts' token token₁ token' : List ℕ} {branch : Result Branch Stop}
    → GoesOn text place.at place.room j left → NodeFound text n nesting kind (child_at place left) cs cs₁ ms ms₁ ts ts₁ token token₁ branch → branch ≡ Err halt
    → KidsFound text n nesting kind own j place cs cs' ms ms' ts ts' token token' (Err halt)
unfolding and_then
child-stopped {n = n} {nesting} {kind} {j = j} place {left} goes h e = record {
  found = λ cs₀ ms₀ ts₀ table tabled counted. found-stop (
      goes.reading (node n nesting kind) table
      ∙ ap (λ (x : Part (Node Atom)). and_then x (others (node n nesting kind) j table left)) (child-stops h e tabled counted).reading);
}

-- A child and those behind it, stored one after the other.
kids-stored : {n : ℕ} {cs₀ : List ℤ} {ms₀ ts₀ : List ℕ} {table : List Polynomial} {own j count room left kind : ℕ} {cs₁ cs' : List ℤ} {ms₁ ms' ts₁ ts' token token₁ token' : List ℕ}
    (kid : Node Atom) (rest : Parts Atom) {between after : Place} {k k' : ℕ} → left + 1 + (2 - (j + 1)) ≡ room + (2 - j)
    → NodeStored n cs₀ ms₀ ts₀ table count left cs₁ ms₁ ts₁ token token₁ kid between k
    → KidsStored n cs₀ ms₀ ts₀ (used table (alone kid)) own (j + 1) between.tokens between.room kind cs' ms' ts' token₁ token' rest after k'
    → KidsStored n cs₀ ms₀ ts₀ table own j count room kind cs' ms' ts' token token' (before kid rest) after k'
kids-stored {table = table} {own} {j} {count} {token = token} {token₁} kid rest {between} less a b =
    let first = used table (alone kid) in
    let all = used first rest in
    let listed : used table (before kid rest) ≡ all = used-before table kid rest in
    let children-are : j + 1 + children rest ≡ j + children (before kid rest) = omega (arith, children-before kid rest) in
    let from : between.tokens ≡ count + length (node_tokens first kid) = omega (arith, a.counted, length-node first kid) in
    record {
      tabled = rw listed b.tabled;
      known = rw listed b.known;
      tape =
          b.tape
          ∙ ap (λ (i : ℕ). set (sets token₁ between.tokens (parts_tokens all rest)) own (16777216 + i)) children-are
          ∙ ap (λ (l : List ℕ). set l own (16777216 + (j + children (before kid rest))))
          (ap₂ (λ (l : List ℕ) (i : ℕ). sets l i (parts_tokens all rest)) a.tape from
          ∙ sym (sets-append token count (node_tokens first kid) (parts_tokens all rest))
          ∙ ap (sets token count) (sym (tokens-before table kid rest) ∙ ap (λ (t : List Polynomial). parts_tokens t (before kid rest)) (sym listed)));
      counted = omega (arith, a.counted, b.counted, nodes-before kid rest);
      room_left = omega (arith, a.room_left, b.room_left, less);
      kind_is = b.kind_is;
    }

pub kids-more : {text : List ℕ} {n nesting kind own j : ℕ} (place : Place) {left : ℕ} {cs cs₁ cs' : List ℤ} {ms ms₁ ms' ts ts₁ ts' token token₁ token' : List ℕ} {branch result : Result Branch Stop}
    {between : Place} {k : ℕ} → GoesOn text place.at place.room j left → NodeFound text n nesting kind (child_at place left) cs cs₁ ms ms₁ ts ts₁ token token₁ branch
    → branch ≡ Ok (record { behind = between; kind = k }) → KidsFound text n nesting kind own (j + 1) between cs₁ cs' ms₁ ms' ts₁ ts' token₁ token' result
    → KidsFound text n nesting kind own j place cs cs' ms ms' ts ts' token token' result
unfolding and_then put_before room_behind
kids-more {text} {n} {nesting} {kind} {own} {j} place {left} {between = between} goes h e rest = record {
  found = λ cs₀ ms₀ ts₀ table tabled counted.
      let one = node n nesting kind in
      let child = child-reached h e tabled counted in
      let kid = child.part in
      let stored = child.stored in
      let room-is : left + 1 - nodes (alone kid) ≡ between.room = omega (arith, stored.counted, stored.room_left) in
      let next : suc j ≡ j + 1 = omega arith in
      found-mapped (before kid)
      (goes.reading one table
      ∙ ap (λ (x : Part (Node Atom)). and_then x (others one j table left)) child.reading
      ∙ ap₂ (λ (i room : ℕ). put_before kid (read_part between.at (kids_after one i (used table (alone kid)) room) (drop between.at text))) next room-is)
      (λ parts after kind' kids. kids-stored kid parts goes.less stored kids)
      (rest.found cs₀ ms₀ ts₀ (used table (alone kid)) stored.tabled stored.known);
}

-- ---- what the next call asks for

-- Behind a child the arrays hold the table with its polynomials,
pub child-tabled : {text : List ℕ} {n nesting kind : ℕ} {place after : Place} {k : ℕ} {cs cs₁ : List ℤ} {ms ms₁ ts ts₁ token token₁ : List ℕ} {branch : Result Branch Stop}
    → NodeFound text n nesting kind place cs cs₁ ms ms₁ ts ts₁ token token₁ branch → branch ≡ Ok (record { behind = after; kind = k }) → SomeTabled n place.known cs ms ts → SomeTabled n after.known cs₁ ms₁ ts₁
child-tabled h e some =
    let stored = (child-reached h e some.tabled some.counted).stored in
    record {
      coefficients_before = some.coefficients_before;
      monomials_before = some.monomials_before;
      counts_before = some.counts_before;
      table = _;
      tabled = stored.tabled;
      counted = stored.known;
    }

-- and there is room for the others.
pub record Between (text token₁ : List ℕ) (place after : Place) (own j : ℕ) : Type 0 where
  pub ready : Ready text token₁ after (2 - (j + 1))
  pub kids : Kids after own (j + 1)
  pub further : place.tokens < after.tokens

pub child-ready : {text : List ℕ} {n nesting kind own j left : ℕ} (place : Place) {after : Place} {k : ℕ} {cs cs₁ : List ℤ} {ms ms₁ ts ts₁ token token₁ : List ℕ} {branch : Result Branch Stop}
    → GoesOn text place.at place.room j left → NodeFound text n nesting kind (child_at place left) cs cs₁ ms ms₁ ts ts₁ token token₁ branch → branch ≡ Ok (record { behind = after; kind = k })
    → SomeTabled n place.known cs ms ts → Ready text token place (2 - j) → Kids place own j → Between text token₁ place after own j
child-ready place {after} {token = token} goes h e some ready kids =
    let child = child-reached h e some.tabled some.counted in
    let stored = child.stored in
    let count = some_nodes child.part in
    record {
      ready = record {
        inside = child.inside;
        tape = ap length stored.tape ∙ length-sets token place.tokens (node_tokens (used some.table (alone child.part)) child.part) ∙ ready.tape;
        fits = omega (arith, stored.room_left, goes.less, ready.fits);
      };
      kids = record { own_behind = omega (arith, kids.own_behind, stored.counted, count); children_behind = omega (arith, kids.children_behind, stored.counted, count) };
      further = omega (arith, stored.counted, count);
    }

-- Where the parent ends there is a byte.
pub turn-ended : {text : List ℕ} {at room j : ℕ} {turn : Turn} → TurnFound text at room j (Ok turn) → turn ≡ End → at + 1 ≤ length text
unfolding TurnOf
turn-ended h e = (rw e at h).turns.inside
