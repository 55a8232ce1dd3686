-- Fewer tokens are enough for less: what the laws of leave-out ask of a test.
use mathlib.Core.Path.{◌≡◌, refl}
use mathlib.Core.Bool.{Bool, true, false}
use mathlib.Core.List.{List}
use Prim.Native.Nat.{ℕ}
use Rattle.rules.specs.Signs.{inside, open_signs}
use Rattle.rules.specs.Polynomial.{Atom}
use Rattle.rules.specs.Rounds.{run, says, says_in}
use Rattle.rules.specs.Level.{plain, plains, implied}
use Rattle.removal_laws.specs.Apart.{Apart}
use Rattle.turn_laws.specs.Some.{Some, not_there, there, some-fewer, all_there, some-both}
use Rattle.table.specs.Table.{Table}
use Rattle.tape.specs.Token.{atom_of, atoms_in}
use Rattle.round.specs.declared.State.{State}
use Rattle.round.specs.Views.{state_of}
use Rattle.rounds.specs.declared.Ran.{Ran}
use Rattle.rounds.specs.Afresh.{AfreshFrom}
use Rattle.rounds.specs.Views.{ending, outcome_of}
use Rattle.rules.specs.Reasons.{has_contradiction}
use Rattle.reason_laws.specs.SaysLess.{fewer-apart, implied-by-more, contradiction-by-more}
use Rattle.reason_laws.specs.LeaveOut.{Without, this_one, a_later_one, FewerAreLess}
use Rattle.leaving.specs.declared.Question.{Question}
use Rattle.leaving.specs.Enough.{enough_if, enough_for, Proper}

some-tokens : (t : Table) {l m : List ℕ} → Without l m → Some (plains (atoms_in t l)) (plains (atoms_in t m))
some-tokens t (this_one {c} {l}) = not_there (all_there (plains (atoms_in t l)))
some-tokens t (a_later_one w) = there (some-tokens t w)

afresh-fewer : {t : Table} {state : State} {l m : List Atom} → AfreshFrom t state l → Some l m → AfreshFrom t state m
afresh-fewer a s = record { given = a.given; settles = a.settles; variables = a.variables; some = some-both a.some s }

pub proper-without : (t : Table) (q : Question) {l m : List ℕ} → Without l m → Proper t q l → Proper t q m
proper-without t q w p =
    let s = some-tokens t w in record { apart = fewer-apart (some-fewer s) p.apart; afresh = λ e. afresh-fewer (p.afresh e) s }

enough-more : (b : Bool) (n : ℕ) (a : Atom) {l m : List Atom} → Some l m → Apart l → enough_if b n a m ≡ true → enough_if b n a l ≡ true
unfolding enough_if
enough-more true n a s h e = contradiction-by-more n (some-fewer s) e
enough-more false n a s h e = implied-by-more n (some-fewer s) h a e

pub less : (t : Table) (q : Question) → FewerAreLess (enough_for t q) (Proper t q)
unfolding enough_for
less t q = record {
  proper = λ w p. proper-without t q w p;
  more_are_more = λ w p e. enough-more q.contradiction t.variables (plain (atom_of t q.token)) (some-tokens t w) p.apart e;
}

-- ---- What a run comes to.

module _ (t : Table) (others : List Atom) (r : Ran) (is_run : outcome_of t r ≡ run t.variables others) where
  pub excluded : r.contradiction ≡ has_contradiction (run t.variables others)
  unfolding has_contradiction
  excluded = rw (← is_run) (by_flag r.contradiction)
    where
      by_flag : (b : Bool) → b ≡ has_contradiction (ending b (state_of t r.state))
      by_flag true = refl
      by_flag false = refl

  pub implied-by-contradiction : (a : Atom) → r.contradiction ≡ true → true ≡ implied t.variables others a
  unfolding implied says open_signs
  implied-by-contradiction a e = rw (← is_run, e)

  pub implied-by-state : (a : Atom) → r.contradiction ≡ false → inside (says_in t.variables (state_of t r.state) a.polynomial) a.set ≡ implied t.variables others a
  unfolding implied says
  implied-by-state a e = rw (← is_run, e)
