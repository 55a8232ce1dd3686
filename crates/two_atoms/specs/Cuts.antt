-- A set that is cut by findings one list after the other: by all of them, or by the first that changes it.
use Rattle.std.specs.Prelude.{◌≡◌, refl, Bool, true, false, not, ◌&&◌, List, [], ◌∷◌, ◌++◌, eqb}
use Rattle.std.proofs.Common.{sym, ap, ◌∙◌, true≢false, eq-eqb, eqb-true}
use Rattle.std.proofs.lemmas.Bool.{false≢true}
use Rattle.std.proofs.Math.Option.{Option, none, some}
use Rattle.rules.specs.Signs.{SignSet, intersect}
use Rattle.rules.specs.TwoAtoms.{pair_found, pair_mirrored, tried, cut_or, first_cut, cut_by_all}

-- what the first finding that changes a set leaves of it; the set itself if there is none
unfoldable pub or_same : SignSet → Option SignSet → SignSet
or_same s none = s
or_same s (some t) = t

-- a set cut by all findings, or by the first that changes it
unfoldable pub cut_in : Bool → SignSet → List SignSet → SignSet
cut_in true s fs = cut_by_all s fs
cut_in false s fs = or_same s (first_cut s fs)

-- the tries end where the set is cut, unless all are asked for
unfoldable pub stops : Bool → SignSet → SignSet → Bool
stops all cut s = not all && not (eqb cut s)

cut-append : (s : SignSet) (a b : List SignSet) → cut_by_all s (a ++ b) ≡ cut_by_all (cut_by_all s a) b
unfolding cut_by_all
cut-append s [] b = refl
cut-append s (f ∷ a) b = cut-append (intersect s f) a b

unfoldable pub or_later : Option SignSet → Option SignSet → Option SignSet
or_later none y = y
or_later (some t) y = some t

or-cut : (d : Bool) (cut : SignSet) (x y z : Option SignSet) → x ≡ or_later y z → cut_or d cut x ≡ or_later (cut_or d cut y) z
unfolding cut_or or_later
or-cut true cut x y z e = e
or-cut false cut x y z e = refl

first-append : (s : SignSet) (a b : List SignSet) → first_cut s (a ++ b) ≡ or_later (first_cut s a) (first_cut s b)
unfolding first_cut or_later
first-append s [] b = refl
first-append s (f ∷ a) b = or-cut (eqb (intersect s f) s) (intersect s f) (first_cut s (a ++ b)) (first_cut s a) (first_cut s b) (first-append s a b)

changes : (s c t : SignSet) (later : Option SignSet) (d : Bool) → eqb c s ≡ d → (later ≡ some t → eqb t s ≡ false) → cut_or d c later ≡ some t
    → eqb t s ≡ false
unfolding cut_or or_same
changes s c t later true d more e = more e
changes s c t later false d more e = ap (λ (x : SignSet). eqb x s) (sym (ap (or_same 0) e)) ∙ d

unfoldable kept : Option SignSet → Bool
kept none = false
kept (some t) = true

no_change : (t : SignSet) → none ≡ some t → ⊥
unfolding kept
no_change t e = false≢true (ap kept e)

-- what the first finding that changes a set leaves is another set
pub first-changes : (s : SignSet) (a : List SignSet) (t : SignSet) → first_cut s a ≡ some t → eqb t s ≡ false
unfolding first_cut
first-changes s [] t e = absurd (no_change t e)
first-changes s (f ∷ a) t e = changes s (intersect s f) t (first_cut s a) (eqb (intersect s f) s) refl (first-changes s a t) e

on-by-first : (s : SignSet) (a b : List SignSet) (x : Option SignSet) → first_cut s a ≡ x → not (eqb (or_same s x) s) ≡ false
    → or_same s (or_later x (first_cut s b)) ≡ or_same (or_same s x) (first_cut (or_same s x) b)
unfolding or_same or_later
on-by-first s a b none e f = refl
on-by-first s a b (some t) e f = absurd (true≢false (sym (ap not (first-changes s a t e)) ∙ f))

same_set : (s : SignSet) → not (eqb s s) ≡ true → ⊥
same_set s f = false≢true (sym (ap not (eq-eqb s s refl)) ∙ f)

end-by-first : (s : SignSet) (x y : Option SignSet) → not (eqb (or_same s x) s) ≡ true → or_same s (or_later x y) ≡ or_same s x
unfolding or_same or_later
end-by-first s none y f = absurd (same_set s f)
end-by-first s (some t) y f = refl

-- the tries go on with what one list of findings left,
pub goes_on : (all : Bool) (s : SignSet) (a b : List SignSet) → stops all (cut_in all s a) s ≡ false → cut_in all s (a ++ b)
    ≡ cut_in all (cut_in all s a) b
unfolding cut_in stops
goes_on true s a b e = cut-append s a b
goes_on false s a b e = ap (or_same s) (first-append s a b) ∙ on-by-first s a b (first_cut s a) refl e

-- or end with it
pub stopped : (all : Bool) (s : SignSet) (a b : List SignSet) → stops all (cut_in all s a) s ≡ true → cut_in all s (a ++ b) ≡ cut_in all s a
unfolding cut_in stops
stopped true s a b e = absurd (false≢true e)
stopped false s a b e = ap (or_same s) (first-append s a b) ∙ end-by-first s (first_cut s a) (first_cut s b) e

-- a try finds one set at most: it is the same to cut by all findings or by the first
one-first : (s f : SignSet) (d : Bool) → eqb (intersect s f) s ≡ d → intersect s f ≡ or_same s (cut_or d (intersect s f) none)
unfolding or_same cut_or
one-first s f true d = eqb-true (intersect s f) s d
one-first s f false d = refl

pub one-cut : (all : Bool) (s f : SignSet) → intersect s f ≡ cut_in all s (f ∷ [])
unfolding cut_in cut_by_all first_cut
one-cut true s f = refl
one-cut false s f = one-first s f (eqb (intersect s f) s) refl

pub no_cut : (all : Bool) (s : SignSet) → s ≡ cut_in all s []
unfolding cut_in cut_by_all first_cut or_same
no_cut true s = refl
no_cut false s = refl

pub tried-cut : (all : Bool) (s : SignSet) (x y : Bool) (t : SignSet) (strict : Bool) → cut_by_all s (tried x y t strict)
    ≡ cut_in all s (tried x y t strict)
unfolding tried cut_by_all
tried-cut all s true true t strict = one-cut all s (intersect (pair_found t strict) (pair_mirrored t strict))
tried-cut all s true false t strict = one-cut all s (pair_found t strict)
tried-cut all s false true t strict = one-cut all s (pair_mirrored t strict)
tried-cut all s false false t strict = no_cut all s
