-- Records that are told, one after the other; there are as many as atoms.
use Rattle.std.specs.Prelude.{◌≡◌, refl, Bool, true, false, List, [], ◌∷◌, ◌++◌, map, ℕ, suc, ◌+◌, ◌<◌, length, take, get_or}
use Rattle.std.proofs.Common.{sym, ap, ◌∙◌, add-one, arith, take-suc, get_or-take}
use Rattle.std.proofs.lemmas.List.{length-map}
use Rattle.rules.specs.Polynomial.{Atom}
use Rattle.rules.specs.Deduce.{any_empty}
use Rattle.rules.specs.Rounds.{sets_of, Outcome, contradiction, settled, run}
use Rattle.rules.specs.Level.{Placed, plains}
use Rattle.rules.specs.Reasons.{Reason as Why, Told, clauses_from, joined, merged_list, each_reason, each_false, reasons_after, reasons}
use Rattle.reasons.specs.declared.Reason.{Reason}
use Rattle.reasons.specs.declared.Found.{Found}
use Rattle.reasons.specs.Records.{made, blank, Tells}

-- ---- As many records as atoms.

each_long : (all : List Placed) (told : List Told) (given : List Placed) → length (each_reason all told given) ≡ length given
unfolding each_reason
each_long all told [] = refl
each_long all told (c ∷ l) = ap suc (each_long all told l)

false-long : (named : List ℕ) (given : List Placed) → length (each_false named given) ≡ length given
unfolding each_false
false-long named [] = refl
false-long named (c ∷ l) = ap suc (false-long named l)

pub clauses-long : (i : ℕ) (l : List Atom) → length (clauses_from i l) ≡ length l
unfolding clauses_from
clauses-long i [] = refl
clauses-long i (a ∷ l) = ap suc (clauses-long (suc i) l)

pub reasons-long : (n : ℕ) (l : List Atom) → length (reasons n l) ≡ length l
unfolding reasons reasons_after
reasons-long n l = after (any_empty (sets_of (plains (merged_list l)))) (run n (plains (merged_list l))) ∙ clauses-long 0 l
  where
    after : (b : Bool) (o : Outcome) → length (reasons_after b o n (joined l) (merged_list l) (clauses_from 0 l)) ≡ length (clauses_from 0 l)
    after true o = false-long _ _
    after false contradiction = false-long _ _
    after false (settled st) = each_long _ _ _

-- ---- One record more.

pub told_at : {found : Found} {rs : List Why} → Tells found rs → (i : ℕ) → i < length rs → get_or found.records i blank ≡ get_or (map made rs) i blank
told_at {found} w i h =
    sym (get_or-take found.count found.records i blank (omega (arith, w.size))) ∙ ap (λ (x : List Reason). get_or x i blank) w.is

pub told-next : {found : Found} {rs : List Why} → Tells found rs → (i : ℕ) → i < length rs
    → take (i + 1) (map made rs) ≡ take i (map made rs) ++ (get_or found.records i blank ∷ [])
told-next {found} {rs} w i h =
    rw (add-one i, told_at w i h) (take-suc (map made rs) i blank (omega (arith, length-map rs made)))
