-- A run that cuts no atom, from the state that it settled in: the atoms of the start have their settled sets, and its rounds are counted on the board.
use mathlib.Core.Path.{◌≡◌, refl, sym, ◌∙◌, ap, ap₂, subst}
use mathlib.Core.Bool.{true, false, false≢true}
use mathlib.Core.List.{List, [], ◌∷◌}
use Prim.Native.Nat.{ℕ}
use native.Mathlib.Omega.{arith}
use lib.Dec.{eqb}
use lib.IntN.{ℤ}
use lib.ListN.{length, length-map}
use borrow.Author.Tests.{eqb-true}
use Rattle.rules.specs.Signs.{SignSet}
use Rattle.rules.specs.Polynomial.{Polynomial, Atom}
use Rattle.rules.specs.Rounds.{start, rounds, begun, enough, run, settled, same_sets, sets_of}
use Rattle.rules.specs.Rounds.{State as Standing}
use Rattle.sign_laws.specs.Booleans.{and_first, and_second}
use Rattle.turn_laws.specs.Afresh.{Afresh}
use Rattle.count_laws.specs.Fresh.{settled-start}
use Rattle.count_laws.specs.Boards.{turned_rounds, counted-by-turns}
use Rattle.terms.specs.View.{numbers_from}
use Rattle.terms.specs.View.{sets_of as board_of}
use Rattle.table.specs.declared.Atoms.{Atoms}
use Rattle.table.specs.Table.{Table, atoms_of, many}
use Rattle.round.specs.declared.State.{State}
use Rattle.round.specs.Views.{table_of, state_of}
use Rattle.rounds.specs.declared.Ran.{Ran}
use Rattle.rounds.specs.declared.Counted.{Counted}
use Rattle.rounds.specs.Ended.{Ended}
use Rattle.rounds.specs.Bounded.{BoundedBy, bounded-settled}
use Rattle.rounds.specs.Run.{polynomials_of, RunOf, CountedRun, Uncut}
use Rattle.rounds.proofs.Ends.{sets-are, length-atoms, ended-over}
use Rattle.rounds.proofs.Standing.{bounded-over}
use Rattle.rounds.proofs.Beginnings.{started-low}
use Rattle.rounds.proofs.Polynomials.{same-polynomials}

-- atoms of the same polynomials with the same sets are the same
heads : {A : Type 0} {a b : A} {k m : List A} → a ∷ k ≡ b ∷ m → a ≡ b
heads e = cc

tails : {A : Type 0} {a b : A} {k m : List A} → a ∷ k ≡ b ∷ m → k ≡ m
tails e = cc

atoms-same : (l m : List Atom) → polynomials_of l ≡ polynomials_of m → sets_of l ≡ sets_of m → l ≡ m
unfolding sets_of
atoms-same [] [] p e = refl
atoms-same [] (b ∷ m) p e = absurd (omega (arith, ap length p))
atoms-same (a ∷ l) [] p e = absurd (omega (arith, ap length p))
atoms-same (a ∷ l) (b ∷ m) p e =
    ap₂ (λ (c : Atom) (k : List Atom). c ∷ k)
    (ap₂ (λ (q : Polynomial) (s : SignSet). record { polynomial = q; set = s }) (heads p) (heads e)) (atoms-same l m (tails p) (tails e))

same-sets : (l m : List SignSet) → same_sets l m ≡ true → m ≡ l
unfolding same_sets
same-sets [] [] e = refl
same-sets [] (t ∷ m) e = absurd (false≢true e)
same-sets (s ∷ l) [] e = absurd (false≢true e)
same-sets (s ∷ l) (t ∷ m) e =
    ap₂ (λ (u : SignSet) (k : List SignSet). u ∷ k) (sym (eqb-true s t (and_first (eqb s t) (same_sets l m) e)))
    (same-sets l m (and_second (eqb s t) (same_sets l m) e))

module _ (cs : List ℤ) (ms ts : List ℕ) {n m : ℕ} (own : m ≡ n) (list : Atoms) {r : Ran} (ran : RunOf (table_of cs ms ts n) list r) (first : State)
    (is_start : state_of (table_of cs ms ts n) first ≡ start n (atoms_of (table_of cs ms ts n) list)) where
  t : Table
  t = table_of cs ms ts n

  -- the atoms that settled are those of the start
  uncut : same_sets (numbers_from first.atoms.set 0 (many first.atoms.count)) (numbers_from r.state.atoms.set 0 (many first.atoms.count)) ≡ true
      → (start n (atoms_of t list)).atoms ≡ atoms_of t r.state.atoms
  unfolding t start
  uncut e =
      let a = first.atoms in
      let b = r.state.atoms in
      let starts : atoms_of t a ≡ (start n (atoms_of t list)).atoms = ap (λ (st : Standing). st.atoms) is_start in
      let forms : polynomials_of (atoms_of t b) ≡ polynomials_of (atoms_of t a) = ran.atoms.polynomials ∙ sym (ap polynomials_of starts) in
      let long : many b.count ≡ many a.count =
      sym (length-atoms t b.number b.set 0 (many b.count)) ∙ sym (length-map (atoms_of t b) (λ (c : Atom). c.polynomial)) ∙ ap length forms
      ∙ length-map (atoms_of t a) (λ (c : Atom). c.polynomial) ∙ length-atoms t a.number a.set 0 (many a.count) in
      let held : sets_of (atoms_of t b) ≡ sets_of (atoms_of t a) =
      sets-are t b.number b.set 0 (many b.count) ∙ ap (numbers_from b.set 0) long ∙ same-sets _ _ e
      ∙ sym (sets-are t a.number a.set 0 (many a.count)) in
      sym starts ∙ sym (atoms-same (atoms_of t b) (atoms_of t a) forms held)

  module _ (u : Uncut first r) where
    -- so the start is above the settled board
    uncut-afresh : Afresh n (state_of t r.state) (start n (atoms_of t list))
    unfolding t
    uncut-afresh = settled-start n (atoms_of t list) (sym ran.outcome ∙ rw u.settles) (uncut u.sets)

    pub uncut-bounded : BoundedBy (table_of cs ms ts m) first r.state.board
    unfolding t
    uncut-bounded =
        bounded-over cs ms ts (sym own)
        (bounded-settled {t = table_of cs ms ts n} r.state (subst (Afresh n (state_of t r.state)) (sym is_start) uncut-afresh) ran.variables
        (started-low (table_of cs ms ts n) list first is_start))

    pub counted-uncut : {k : ℕ} → k ≡ turned_rounds m (atoms_of (table_of cs ms ts m) first.atoms) (enough (state_of (table_of cs ms ts m) first)) (board_of first.board)
        → CountedRun (table_of cs ms ts n) list (record { contradiction = false; begun = k; state = r.state })
    unfolding t
    counted-uncut {k} h =
        let settles : run n (atoms_of t list) ≡ settled (state_of t r.state) = sym ran.outcome ∙ rw u.settles in
        let here = subst (λ (v : ℕ). k ≡ turned_rounds v (atoms_of (table_of cs ms ts v) first.atoms) (enough (state_of (table_of cs ms ts v) first)) (board_of first.board)) own h in
        let su : Standing = start n (atoms_of t list) in
        record {
          outcome = sym settles;
          begun =
              here ∙ ap (λ (st : Standing). turned_rounds n st.atoms (enough st) st.board) is_start
              ∙ sym (counted-by-turns uncut-afresh (enough su));
          variables = ran.variables;
          atoms = ran.atoms;
        }

-- ---- the rounds as they stand

pub counted-plain : (cs : List ℤ) (ms ts : List ℕ) {n m : ℕ} → m ≡ n → (list : Atoms) (first : State)
    → state_of (table_of cs ms ts n) first ≡ start n (atoms_of (table_of cs ms ts n) list) → {r : Counted} → Ended (table_of cs ms ts m) first r
    → CountedRun (table_of cs ms ts n) list r
unfolding run start
counted-plain cs ms ts {n} own list first is_start {r} e =
    let ended = ended-over cs ms ts own e in
    let a = first.atoms in
    record {
      outcome = ended.outcome ∙ ap (λ (st : Standing). rounds n (enough st) st) is_start;
      begun = ended.begun ∙ ap (λ (st : Standing). begun n (enough st) st) is_start;
      variables = ended.variables;
      atoms = record {
        polynomials =
            rw (ended.count, ended.number) (same-polynomials _ a.number a.set r.state.atoms.set 0 (many a.count))
            ∙ ap (λ (st : Standing). polynomials_of st.atoms) is_start;
      };
    }
