-- What pairs leave of a set: nothing of the empty one, a part of any; and it lies inside a bound exactly if nothing is left of what is outside that.
-- So what a state says of a polynomial, from what it says before the pairs are asked.
use mathlib.Core.Path.{◌≡◌, refl, sym, ◌∙◌, ap, subst}
use mathlib.Core.Bool.{Bool, true, false, not}
use mathlib.Core.List.{List, [], ◌∷◌}
use Prim.Native.Nat.{ℕ, ◌<◌}
use lib.Dec.{eqb, lit<}
use lib.IntN.{ℤ}
use borrow.Author.Tests.{eqb-true, eq-eqb}
use Rattle.rules.specs.Signs.{Sign, SignSet, empty, full, only, has, bit, set_of, complement, intersect, inside}
use Rattle.rules.specs.Polynomial.{Polynomial, Atom, Board, by_terms, which}
use Rattle.rules.specs.TwoAtoms.{tries, cut_by_all}
use Rattle.rules.specs.Rounds.{State, held, other_than, says_in}
use Rattle.sign_laws.specs.Booleans.{both_ways, never_both}
use Rattle.sign_laws.specs.Lists.{every-get_d}
use Rattle.sign_laws.specs.Sets.{◌In◌, in-empty, in-intersect, in_left, in_right, in-inside, intersect-below, has-complement}
use Rattle.sign_laws.specs.Sets.{PartOf, part-refl, part-trans, parts-equal, intersect-first}
use Rattle.ending_laws.specs.Cuts.{none-empty, cut_by-below}
use Rattle.removal_laws.specs.Terms.{by_terms-small}
use Rattle.removal_laws.specs.Fewer.{part-empty, inside-wider}
use Rattle.removal_laws.specs.Said.{said_by_others, all-below}
use Rattle.removal_laws.specs.Settled.{Settled}
use Rattle.search.specs.Filled.{Filled, filled-low}
use Rattle.two_atoms.specs.Cuts.{cut_in}
use Rattle.table.specs.declared.Atoms.{Atoms}
use Rattle.table.specs.Table.{form_at, atoms_of}
use Rattle.round.specs.Views.{table_of}
use Rattle.settled.specs.Others.{says_before_pairs, said_before_pairs}

-- the empty set stays empty
pub all-empty : (fs : List SignSet) → cut_by_all 0 fs ≡ 0
unfolding cut_by_all intersect set_of has only bit
all-empty [] = refl
all-empty (f ∷ fs) = all-empty fs

-- any other is only narrowed
all-part : (s : SignSet) (fs : List SignSet) → PartOf (cut_by_all s fs) s
unfolding cut_by_all
all-part s [] = part-refl s
all-part s (f ∷ fs) = part-trans (all-part (intersect s f) fs) (intersect-first s f)

-- what lies inside a set is one of the eight
inside-below : (s bound : SignSet) → inside s bound ≡ true → s < 8
unfolding inside
inside-below s bound e = subst (λ (x : SignSet). x < 8) (eqb-true (intersect s bound) s e) (intersect-below s bound)

-- what lies inside a set stays inside it
pub stays-inside : (s bound : SignSet) (fs : List SignSet) → inside s bound ≡ true → inside (cut_by_all s fs) bound ≡ true
stays-inside s bound fs e = inside-wider bound (all-below s fs (inside-below s bound e)) (all-part s fs) e

-- ---- what is left outside of a bound

-- a sign that is in the one set where it is in the other stays in the one where it stays in the other
one-sign : {x : Sign} (fs : List SignSet) {s u : SignSet} → (x In s → x In u) → x In cut_by_all s fs → x In cut_by_all u fs
unfolding cut_by_all
one-sign [] f h = f h
one-sign (g ∷ fs) {s} {u} f h = one-sign fs {s = intersect s g} {u = intersect u g} (λ k. in-intersect (f (in_left s g k)) (in_right s g k)) h

part-inside : (s bound : SignSet) → s < 8 → PartOf s bound → inside s bound ≡ true
unfolding inside
part-inside s bound low p =
    eq-eqb (intersect s bound) s
    (parts-equal (intersect-below s bound) low (intersect-first s bound) (record { each = λ x h. in-intersect h (p.each x h) }))

module _ (s bound : SignSet) (fs : List SignSet) where
  abbrev away : SignSet
  away = complement bound

  -- what the findings leave of what is outside the bound
  abbrev outside : SignSet
  outside = cut_by_all (intersect s away) fs

  none-outside : inside (cut_by_all s fs) bound ≡ true → PartOf outside empty
  none-outside e = record { each = λ x h. never_both (in-inside (cut_by_all s fs) bound e (one-sign fs (in_left s away) h)).is (not_there x h) }
    where
      not_there : (x : Sign) → x In outside → has x bound ≡ false
      not_there x h = by (has x bound) (sym (has-complement x bound) ∙ (in_right s away ((all-part (intersect s away) fs).each x h)).is)
        where
          by : (b : Bool) → not b ≡ true → b ≡ false
          by true e = sym e
          by false e = refl

  all-inside : outside ≡ empty → PartOf (cut_by_all s fs) bound
  all-inside e = record { each = λ x h. by x h (has x bound) refl }
    where
      by : (x : Sign) → x In cut_by_all s fs → (b : Bool) → has x bound ≡ b → x In bound
      by x h true f = record { is = f }
      by x h false f =
          let there : x In away = record { is = has-complement x bound ∙ ap not f } in
          in-empty (subst (λ (o : SignSet). x In o) e (one-sign fs (λ k. in-intersect k there) h))

  pub inside-by-outside : s < 8 → eqb outside empty ≡ inside (cut_by_all s fs) bound
  inside-by-outside low =
      both_ways (eqb outside empty) (inside (cut_by_all s fs) bound)
      (λ e. part-inside (cut_by_all s fs) bound (all-below s fs low) (all-inside (eqb-true outside empty e)))
      (λ e. eq-eqb outside empty (part-empty (all-below _ fs (intersect-below s away)) (none-outside e)))

-- on the board of a settled state each set has a sign
pub settled-board : {n : ℕ} {st : State} → Settled n st → Filled st.board
settled-board {st = st} s = filled-low st.board (λ i h. every-get_d i full (lit< tt) s.low.board) (none-empty st s.filled).0

-- ---- what is said before the pairs, and with them

pub says-by-pairs : (n : ℕ) (st : State) (p : Polynomial) {said : SignSet} → said ≡ says_before_pairs n st p
    → cut_by_all said (tries st.board p (other_than p st.atoms)) ≡ says_in n st p
unfolding says_before_pairs says_in
says-by-pairs n st p e = rw e

module _ (st : State) (p : Polynomial) {others : List Atom} (are : others ≡ other_than p st.atoms) {said : SignSet} where
  pub said-by-pairs : said ≡ said_before_pairs st.board p others → cut_by_all said (tries st.board p (other_than p st.atoms)) ≡ said_by_others st p
  unfolding said_before_pairs said_by_others
  said-by-pairs e = rw (e, are)

pub says-low : (n : ℕ) (st : State) (p : Polynomial) → says_before_pairs n st p < 8
unfolding says_before_pairs
says-low n st p = cut_by-below st.board p st.atoms _ (intersect-below (held (which n p) st p) (by_terms st.board p))

pub said-low : (board : Board) (p : Polynomial) (others : List Atom) → said_before_pairs board p others < 8
unfolding said_before_pairs
said-low board p others = cut_by-below board p others (by_terms board p) (by_terms-small board p)

-- ---- the contract of the pairs, for a board whose number of variables is the table's

pub pairs-over : (cs : List ℤ) (ms ts : List ℕ) {n m : ℕ} → n ≡ m → {r : SignSet} (board : Board) (p : ℕ) (a : Atoms) (s : SignSet)
    → r ≡ cut_in true s (tries board (form_at (table_of cs ms ts n) p) (atoms_of (table_of cs ms ts n) a))
    → r ≡ cut_by_all s (tries board (form_at (table_of cs ms ts m) p) (atoms_of (table_of cs ms ts m) a))
unfolding cut_in
pairs-over cs ms ts same {r} board p a s =
    subst (λ (v : ℕ). r ≡ cut_by_all s (tries board (form_at (table_of cs ms ts v) p) (atoms_of (table_of cs ms ts v) a))) same
