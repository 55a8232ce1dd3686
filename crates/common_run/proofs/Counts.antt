-- The run over the others, of the atoms that remain: what is known of the common run when it is made, and that it is one without the atom at hand.
use mathlib.Core.Path.{◌≡◌, refl, sym, ◌∙◌, ap, subst}
use mathlib.Core.Bool.{Bool, true}
use mathlib.Core.List.{List, ◌∷◌, ◌++◌}
use mathlib.Core.Option.{none}
use Prim.Native.Nat.{ℕ, ◌+◌}
use lib.IntN.{ℤ}
use Rattle.rules.specs.Polynomial.{Atom, which}
use Rattle.rules.specs.Rounds.{start}
use Rattle.rules.specs.Rounds.{State as Standing}
use Rattle.rules.specs.Level.{kept_unless}
use Rattle.turn_laws.specs.Some.{Some, all_there, some-without}
use Rattle.table.specs.declared.Atoms.{Atoms}
use Rattle.table.specs.Table.{Table, Forms, form_at, atom_at, atoms_of, many}
use Rattle.round.specs.declared.State.{State}
use Rattle.round.specs.Views.{table_of, state_of, rest}
use Rattle.round.specs.Signing.{atom_slot}
use Rattle.round.specs.Walks.{rest-cons}
use Rattle.rounds.specs.Afresh.{AfreshFrom}
use Rattle.common_run.specs.declared.run.Common.{Common}
use Rattle.common_run.specs.Marks.{marked_slot, marked_of}
use Rattle.common_run.specs.Run.{CommonOf}
use Rattle.common_run.specs.Known.{CommonRun, Known, Between, Without, Left, Lost}
use Rattle.common_run.specs.Counting.{Remain}
use Rattle.common_run.proofs.Apart.{those-some}

-- a common run that was made just now; the board's own number of variables is the table's
pub made-now : (cs : List ℤ) (ms ts : List ℕ) {n m : ℕ} → m ≡ n → {settled : State} {remaining over : List Atom} → over ≡ remaining
    → AfreshFrom (table_of cs ms ts n) settled remaining → (begun : State) → state_of (table_of cs ms ts n) begun ≡ start n over → (c : Common)
    → (c.known ≡ true → CommonOf (table_of cs ms ts m) begun c) → Known (table_of cs ms ts n) settled remaining c
unfolding start
made-now cs ms ts {n} {m} same {settled} {remaining} e afresh begun is c ran known =
    let t = table_of cs ms ts n in
    let a = begun.atoms in
    let started : state_of t begun ≡ start n remaining = is ∙ ap (start n) e in
    record {
      over = remaining;
      first = begun;
      is_start = started;
      ran = subst (λ (v : ℕ). CommonOf (table_of cs ms ts v) begun c) same (ran known);
      afresh = afresh;
      some = all_there remaining;
      boards = refl;
      marked = λ round. subst (λ (l : List Atom). Some l (marked_of c.marks.resting.first round t a)) (ap (λ (su : Standing). su.atoms) started)
          (those-some (marked_slot c.marks.resting.first round) t a.number a.set 0 (many a.count));
      whole = λ e. refl;
    }

module _ {t : Table} {settled : State} {kept list : Atoms} {i : ℕ} {others : Atoms} (r : Remain t settled kept list i others) where
  abbrev atom : Atom
  atom = atom_at t list.number list.set i

  split : atoms_of t kept ++ rest t list i ≡ atoms_of t kept ++ (atom ∷ rest t list (i + 1))
  split = ap (λ (l : List Atom). atoms_of t kept ++ l) (rest-cons t list i r.low)

  -- the others are run afresh
  pub others-afresh : AfreshFrom t settled (atoms_of t others)
  others-afresh = subst (AfreshFrom t settled) (sym r.are) (record {
    given = r.afresh.given;
    settles = r.afresh.settles;
    variables = r.afresh.variables;
    some = some-without (atoms_of t kept) atom (rest t list (i + 1)) (subst (Some _) split r.afresh.some);
  })

  -- the atom between them
  pub between : {k : ℕ} → k ≡ atom_slot list.number i → which t.variables (form_at t k) ≡ none
      → Between t k (atoms_of t kept) atom (rest t list (i + 1))
  between e no-variable = record { is = rw e; no-variable = rw e at no-variable }

  known-split : {c : Common} → Known t settled (atoms_of t kept ++ rest t list i) c
      → Known t settled (atoms_of t kept ++ (atom ∷ rest t list (i + 1))) c
  known-split {c} known is = subst (λ (l : List Atom). CommonRun t settled l c) split (known is)

  -- the common run without it
  pub without-it : {c : Common} {k : ℕ} → Known t settled (atoms_of t kept ++ rest t list i) c → k ≡ atom_slot list.number i
      → which t.variables (form_at t k) ≡ none
      → c.known ≡ true → Without t settled c k (atoms_of t others)
  without-it known e no-variable is = record {
    kept = atoms_of t kept;
    atom = atom;
    later = rest t list (i + 1);
    between = between e no-variable;
    are = r.are;
    run = known-split known is;
  }

  -- what is known of it when the atom goes or stays
  pub known-left : Forms t → {out : Bool} {k : ℕ} {c left : Common} → Known t settled (atoms_of t kept ++ rest t list i) c
      → k ≡ atom_slot list.number i
      → which t.variables (form_at t k) ≡ none → Left out k c left
      → Known t settled (kept_unless out atom (atoms_of t kept) ++ rest t list (i + 1)) left
  known-left forms known e no-variable l = l.knows t settled (atoms_of t kept) atom (rest t list (i + 1)) forms (between e no-variable) (known-split known)

  pub known-lost : {out : Bool} {c left : Common} → Known t settled (atoms_of t kept ++ rest t list i) c → Lost out c left
      → Known t settled (kept_unless out atom (atoms_of t kept) ++ rest t list (i + 1)) left
  known-lost known l = l.knows t settled (atoms_of t kept) atom (rest t list (i + 1)) (known-split known)
