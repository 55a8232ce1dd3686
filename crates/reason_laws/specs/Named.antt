-- The named atoms suffice, and each of them is needed: for a removed atom and for a false whole.
use Rattle.std.specs.Prelude.{◌≡◌, refl, Bool, true, false, List, [], ◌∷◌, ◌++◌, ℕ}
use Rattle.std.proofs.Common.{sym, ap, ◌∙◌, append_assoc, append-nil}
use Rattle.rules.specs.Polynomial.{Atom}
use Rattle.rules.specs.Level.{Placed, plain, plains, kept_unless, implied, remove_implied}
use Rattle.sign_laws.specs.Lists.{Every, every_none, every}
use Rattle.removal_laws.specs.Fewer.{Fewer, left_out, kept as also, itself, all-kept}
use Rattle.removal_laws.specs.Rounds.{LowAtoms}
use Rattle.removal_laws.specs.Apart.{Apart}
use Rattle.rules.specs.Reasons.{fails, failing, implying, Fate, stays, goes, Told, fate_if, told_from}
use Rattle.reason_laws.specs.SaysLess.{fewer-apart, implied-by-more, fails-by-more}
use Rattle.reason_laws.specs.LeaveOut.{Without, this_one, a_later_one, without-after, FewerAreLess, leave_out-suffices, leave_out-needed}

-- ---- The atoms of clauses.

pub atoms-without : {l m : List Placed} → Without l m → Fewer (plains l) (plains m)
atoms-without (this_one {c} {l}) = left_out (all-kept (plains l))
atoms-without (a_later_one {c} w) = also (itself (plain c)) (atoms-without w)

fewer-low : {l m : List Placed} → Without l m → LowAtoms (plains l) → LowAtoms (plains m)
fewer-low this_one (every h hs) = hs
fewer-low (a_later_one w) (every h hs) = every h (fewer-low w hs)

-- ---- Fewer atoms imply less and fail less.

implying-less : (n : ℕ) (a : Atom) → FewerAreLess (λ (m : List Placed). implied n (plains m) a) (λ (m : List Placed). Apart (plains m))
implying-less n a = record {
  proper = λ w h. fewer-apart (atoms-without w) h;
  more_are_more = λ w h e. implied-by-more n (atoms-without w) h a e;
}

pub failing-less : (n : ℕ) → FewerAreLess (λ (m : List Placed). fails n (plains m)) (λ (m : List Placed). LowAtoms (plains m))
failing-less n = record { proper = fewer-low; more_are_more = λ w h e. fails-by-more n (atoms-without w) h e }

-- ---- A false whole.

-- These fail, and with any one left out they no longer do.
pub record JustFails (n : ℕ) (named : List Placed) : Type 0 where
  pub suffices : fails n (plains named) ≡ true
  pub needed : {fewer : List Placed} → Without named fewer → fails n (plains fewer) ≡ false

pub just-fails : (n : ℕ) (l : List Placed) → LowAtoms (plains l) → fails n (plains l) ≡ true → JustFails n (failing n l)
unfolding failing
just-fails n l h e = record {
  suffices = leave_out-suffices (λ (m : List Placed). fails n (plains m)) l e;
  needed = λ w. leave_out-needed (λ (m : List Placed). fails n (plains m)) (failing-less n) l h w;
}

-- ---- A removed atom.

-- These imply the atom, and with any one left out they no longer do.
pub record JustImplies (n : ℕ) (named : List Placed) (a : Atom) : Type 0 where
  pub suffices : implied n (plains named) a ≡ true
  pub needed : {fewer : List Placed} → Without named fewer → implied n (plains fewer) a ≡ false

pub just-implies : (n : ℕ) (others : List Placed) (a : Atom) → Apart (plains others) → implied n (plains others) a ≡ true
    → JustImplies n (implying n others a) a
unfolding implying
just-implies n others a h e = record {
  suffices = leave_out-suffices (λ (m : List Placed). implied n (plains m) a) others e;
  needed = λ w. leave_out-needed (λ (m : List Placed). implied n (plains m) a) (implying-less n a) others h w;
}

-- What is told of an atom: if it goes, then by these.
abbrev pub TrueFate : ℕ → Atom → Fate → Type 0
TrueFate n a stays = Unit {0}
TrueFate n a (goes named) = JustImplies n named a

pub record TrulyTold (n : ℕ) (t : Told) : Type 0 where
  pub fate : TrueFate n (plain t.clause) t.fate

true-fate : (n : ℕ) (others : List Placed) (a : Atom) → Apart (plains others) → (gone : Bool) → implied n (plains others) a ≡ gone
    → TrueFate n a (fate_if gone (implying n others a))
unfolding fate_if
true-fate n others a h true e = just-implies n others a h e
true-fate n others a h false e = tt

kept-apart : (gone : Bool) (kept : List Placed) (c : Placed) (later : List Placed) → Apart (plains (kept ++ (c ∷ later)))
    → Apart (plains (kept_unless gone c kept ++ later))
unfolding kept_unless
kept-apart true kept c later h = fewer-apart (atoms-without (without-after kept c later)) h
kept-apart false kept c later h = rw (append_assoc kept (c ∷ []) later) h

told-from : (n : ℕ) (kept rest : List Placed) → Apart (plains (kept ++ rest)) → Every (TrulyTold n) (told_from n kept rest)
unfolding told_from
told-from n kept [] h = every_none
told-from n kept (c ∷ later) h =
    let gone = implied n (plains (kept ++ later)) (plain c) in
    every (record { fate = true-fate n (kept ++ later) (plain c) (fewer-apart (atoms-without (without-after kept c later)) h) gone refl })
    (told-from n (kept_unless gone c kept) later (kept-apart gone kept c later h))

-- In a list that has no polynomial twice, each atom that goes goes by atoms that just imply it.
pub truly-told : (n : ℕ) (l : List Placed) → Apart (plains l) → Every (TrulyTold n) (told_from n [] l)
truly-told n l h = told-from n [] l h

-- ---- Step 5 of the book.

-- The clauses that stay.
unfoldable pub unless_gone : Fate → Placed → List Placed → List Placed
unless_gone stays c rest = c ∷ rest
unless_gone (goes named) c rest = rest

unfoldable pub staying : List Told → List Placed
staying [] = []
staying (t ∷ l) = unless_gone t.fate t.clause (staying l)

stays-from : (n : ℕ) (kept rest : List Placed) → kept ++ staying (told_from n kept rest) ≡ remove_implied n kept rest
unfolding told_from staying remove_implied fate_if unless_gone kept_unless
stays-from n kept [] = append-nil kept
stays-from n kept (c ∷ later) = by-test (implied n (plains (kept ++ later)) (plain c)) (λ k. stays-from n k later)
  where
    by-test : (gone : Bool) → ((k : List Placed) → k ++ staying (told_from n k later) ≡ remove_implied n k later)
        → kept ++ unless_gone (fate_if gone (implying n (kept ++ later) (plain c))) c (staying (told_from n (kept_unless gone c kept) later))
        ≡ remove_implied n (kept_unless gone c kept) later
    by-test true rest = rest kept
    by-test false rest =
        let more = kept ++ (c ∷ []) in
        sym (append_assoc kept (c ∷ []) (staying (told_from n more later))) ∙ rest more

-- They are the atoms that step 5 keeps, in order, with their places.
pub staying-is-kept : (n : ℕ) (l : List Placed) → staying (told_from n [] l) ≡ remove_implied n [] l
staying-is-kept n l = stays-from n [] l
