use mathlib.Core.Path.{◌≡◌, refl, ◌∙◌}
use mathlib.Core.Bool.{Bool}
use mathlib.Core.List.{List}
use Prim.Native.Nat.{ℕ, ◌+◌, ◌-◌, ◌≤◌}
use native.Mathlib.Omega.{arith}
use lib.ListN.{length, length-set}
use Rattle.tape.specs.Row.{row_of, Lists}
use Rattle.tape.specs.Tape.{Children, laid}
use Rattle.level.specs.Written.{Heads}
use Rattle.tape.specs.Storing.{stored, counted}
use Rattle.tape.specs.Placed.{its-atoms, child-ends}
use Rattle.level.proofs.Telling.{Telling, told-start, told_here, told-turn, told-end}
use Rattle.level.proofs.writing.tell_children.Statement.{statement}
use Rattle.level.proofs.writing.tell_children.Tie as tie

abbrev invariant-loop : tie.invariant-loop-place
invariant-loop out₀ at row n marks₀ end₀ place₀ out marks end place =
    (place ≤ n) × ((end ≡ at + place) × ((length out ≡ length out₀) × ((length marks ≡ length marks₀)
    × ((children : Children) (b : Bool) (l : List ℕ) → Lists (row_of row n) (laid children) → Heads marks₀ 0 b children → Lists (row_of out₀ at) l
    → Telling children b l marks (row_of out end) place))))

abbrev decreases-loop : tie.decreases-loop-place
decreases-loop out₀ at row n marks₀ end₀ place₀ out marks end place = n - place

mark-requires : tie.Need-mark-below-requires invariant-loop decreases-loop
mark-requires c κs =
    let pre = c.requires in
    let told = pre.1.1.1 in
    let inv = c.loop-place.invariant in
    let g = inv.1.1.1.1 told.children told.kind told.before told.lies told.heads told.lists in
    let q = told_here g _ _ told.lies c.atoms_of-atoms.ensures.0 c.tokens_of-tokens.ensures.0 (omega (arith, told.lies.size, c.loop-place-test.true)) (omega (arith, told.lies.size, told.fits)) in (
      omega (arith, q.ends, told.lies.size, told.fits),
      (
        omega (arith, q.ends, told.lies.size, told.fits, pre.1.0),
        (omega (arith, q.ends, told.lies.size, told.fits, pre.1.1.0, inv.1.1.1.0), (_, (q.first.own, q.here.inner))),
      ),
    )

tell-atoms-requires : tie.Need-tell_atoms-requires invariant-loop decreases-loop
tell-atoms-requires c κs =
    let pre = c.requires in
    let told = pre.1.1.1 in
    let loop = c.loop-place in
    let inv = loop.invariant in
    let g = inv.1.1.1.1 told.children told.kind told.before told.lies told.heads told.lists in
    let q = told_here g _ _ told.lies c.atoms_of-atoms.ensures.0 c.tokens_of-tokens.ensures.0 (omega (arith, told.lies.size, c.loop-place-test.true)) (omega (arith, told.lies.size, told.fits)) in
    let long = length-set loop.out loop.end (16777216 + c.atoms_of-atoms.result + c.mark-below.result) in
    (omega arith, (omega (arith, q.ends, told.lies.size, told.fits, pre.1.0), omega (arith, q.ends, told.lies.size, told.fits, inv.1.0, inv.1.1.0, pre.0, long)))

again : tie.Need-loop-place-preserved invariant-loop decreases-loop
again c =
    let pre = c.requires in
    let told = pre.1.1.1 in
    let loop = c.loop-place in
    let inv = loop.invariant in
    let taken = c.loop-place-test.true in
    let atoms-is = c.atoms_of-atoms.ensures.0 in
    let tokens-is = c.tokens_of-tokens.ensures.0 in
    let mark = c.mark-below in
    let tell-atoms = c.tell_atoms in
    let q = told_here (inv.1.1.1.1 told.children told.kind told.before told.lies told.heads told.lists) _ _ told.lies atoms-is tokens-is (omega (arith, told.lies.size, taken)) (omega (arith, told.lies.size, told.fits)) in (
      omega (arith, q.ends, told.lies.size),
      (
        omega (arith, inv.1.0),
        (
          tell-atoms.auto.out ∙ length-set loop.out loop.end _ ∙ inv.1.1.0,
          (
            mark.auto.marks ∙ inv.1.1.1.0,
            λ children b l lies heads lists.
                let g = inv.1.1.1.1 children b l lies heads lists in
                let r = told_here g _ _ lies atoms-is tokens-is (omega (arith, lies.size, taken)) (omega (arith, lies.size, told.fits)) in
                let headed = stored loop.out loop.end (16777216 + c.atoms_of-atoms.result + mark.result) (omega (arith, taken, told.fits, inv.1.0, inv.1.1.0, pre.0)) _ g.lists in
                told-turn g r _ _ (rw r.kind at (mark.ensures.1 _ r.first.own r.here.inner)) _ refl _
                (counted (rw (its-atoms r.here.at, r.kind) at (tell-atoms.ensures _ _ _ headed lies (omega (arith, child-ends r.here.at)))) (omega arith)),
          ),
        ),
      ),
    )

returns : tie.Need-returns invariant-loop decreases-loop
returns c children b l lies heads lists = told-end (c.loop-place.invariant.1.1.1.1 children b l lies heads lists) (omega (arith, lies.size, c.loop-place-test.false))

pub tell_children_spec : {M : Type 1} → statement M
tell_children_spec =
    tie.close
    (tie.spec invariant-loop decreases-loop (λ c. (omega arith, (omega arith, (refl, (refl, λ children b l lies heads lists. told-start children b l _ _ heads lists)))))
    (λ c. omega arith) (λ c. omega (arith, c.loop-place-test.true, c.loop-place.invariant.1.0, c.requires.1.1.1.fits, c.requires.1.0)) (λ c κs. tt) (λ c κs. tt)
    (λ c. omega (arith, c.loop-place-test.true, c.loop-place.invariant.1.0, c.requires.1.1.1.fits)) (λ c. omega (arith, c.loop-place-test.true, c.loop-place.invariant.1.0, c.requires.1.1.1.fits, c.atoms_of-atoms.ensures.1))
    (λ c. omega (arith, c.loop-place-test.true, c.loop-place.invariant.1.0, c.requires.1.1.1.fits, c.requires.1.1.0, c.loop-place.invariant.1.1.1.0)) (λ c. omega (arith, c.loop-place-test.true, c.loop-place.invariant.1.0, c.requires.1.1.1.fits, c.atoms_of-atoms.ensures.1, c.tokens_of-tokens.ensures.1)) mark-requires
    (λ c. omega (arith, c.atoms_of-atoms.ensures.1)) (λ c. omega (arith, c.atoms_of-atoms.ensures.1)) (λ c. omega (arith, c.atoms_of-atoms.ensures.1, c.tokens_of-tokens.ensures.1, c.mark-below.ensures.0))
    (λ c. omega (arith, c.loop-place-test.true, c.loop-place.invariant.1.0, c.requires.1.1.1.fits)) (λ c. omega (arith, c.loop-place-test.true, c.loop-place.invariant.1.0, c.requires.1.1.1.fits, c.requires.0, c.loop-place.invariant.1.1.0))
    (λ c. omega (arith, c.loop-place-test.true, c.loop-place.invariant.1.0, c.requires.1.1.1.fits)) (λ c. omega (arith, c.loop-place-test.true, c.loop-place.invariant.1.0, c.requires.1.1.1.fits)) tell-atoms-requires
    (λ c. omega (arith, c.loop-place-test.true, c.loop-place.invariant.1.0, c.requires.1.1.1.fits)) (λ c. omega (arith, c.loop-place-test.true, c.loop-place.invariant.1.0, c.requires.1.1.1.fits, c.atoms_of-atoms.ensures.1)) (λ c. omega (arith, c.loop-place-test.true)) again
    (λ c. c.loop-place.invariant.1.1.0) (λ c. c.loop-place.invariant.1.1.1.0) returns)
