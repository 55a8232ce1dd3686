-- A term of p that stands alone: it asks for a + tb = 0, its a is not 0, and its b is, since the merge does not meet its monomial in q.
-- `met` goes down the monomials as the book's merge does, whatever their order is.
use Rattle.std.specs.Prelude.{Bool, false, not, ◌&&◌, ◌||◌, List, [], ◌∷◌, ℕ, ◌-◌, eqb, ltb, ℤ, pos, get_or}
use Rattle.rules.specs.Signs.{SignSet, kind}
use Rattle.rules.specs.Deduce.{is_zero}
use Rattle.terms.specs.View.{numbers_from}
use Rattle.deduce.specs.declared.Run.{Run}
use Rattle.deduce.specs.Last.{asks_zero}

abbrev pub monomials_of : List ℕ → Run → List ℕ
monomials_of ms run = numbers_from ms run.from (run.to - run.from)

-- the first of the monomials that is not above m is m
unfoldable pub met : ℕ → List ℕ → Bool
met m [] = false
met m (n ∷ ns) = eqb m n || (not (ltb n m) && met m ns)

-- p is one term, whose monomial's sign set is ≠ or full, whose coefficient is not 0, and which is not met in q
unfoldable pub stands_alone : List ℤ → List ℕ → List SignSet → Run → Run → Bool
stands_alone cs ms ss p q =
    let i = p.from in
    eqb (p.to - i) 1 && (asks_zero (kind (get_or ss i 0)) && (not (is_zero (get_or cs i (pos 0))) && not (met (get_or ms i 0) (monomials_of ms q))))
