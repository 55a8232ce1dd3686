use mathlib.Core.Path.{◌≡◌, refl}
use Prim.Native.Nat.{ℕ, ◌+◌, ◌-◌, ◌≤◌}
use native.Mathlib.Omega.{arith}
use lib.ListN.{length, length-set}
use Rattle.tape.specs.Row.{row_of}
use Rattle.tape.specs.Tape.{Children}
use Rattle.level.specs.Written.{Between}
use Rattle.level.proofs.Telling.{Marking, next-child, next-ends, mark-start, mark-turn, mark-end}
use Rattle.level.proofs.writing.mark.Statement.{statement}
use Rattle.level.proofs.writing.mark.Tie as tie

abbrev invariant-loop : tie.invariant-loop-place
invariant-loop row from to conjunction marks₀ count₀ place₀ marks count place =
    (place ≤ to) × ((count + from ≤ place) × ((length marks ≡ length marks₀)
    × ((n : ℕ) (children : Children) → Between (row_of row n) from to children → Marking (row_of row n) from to conjunction marks₀ children marks count place)))

abbrev decreases-loop : tie.decreases-loop-place
decreases-loop row from to conjunction marks₀ count₀ place₀ marks count place = to - place

holds : tie.Need-loop-place-init invariant-loop decreases-loop
holds c = (omega (arith, c.before.before.requires.1.1.1.1.1.ends), (omega arith, (refl, λ n children q. mark-start _ _ q)))

again : tie.Need-loop-place-preserved invariant-loop decreases-loop
again c =
    let pre = c.before.before.before.before.before.before.before.requires in
    let inv = c.before.before.before.before.loop-place.invariant in
    let taken = c.before.before.before.loop-place-test.true in
    let (n, (any, whole)) = pre.1.1.1 in
    let first = next-child _ _ c.before.atoms_of-atoms.ensures.0 c.tokens_of-tokens.ensures.0 (inv.1.1.1 n any whole).between taken pre.0 in (
      next-ends first,
      (
        omega arith,
        (
          simp length-set inv.1.1.0,
          λ n children q.
              let g = inv.1.1.1 n children q in
              mark-turn g (omega (arith, inv.1.1.0, taken, pre.1.1.0)) taken (next-child _ _ c.before.atoms_of-atoms.ensures.0 c.tokens_of-tokens.ensures.0 g.between taken pre.0),
        ),
      ),
    )

returns : tie.Need-returns invariant-loop decreases-loop
returns c =
    let inv = c.before.loop-place.invariant in
    (omega (arith, inv.0, inv.1.0), λ n children q. let e = mark-end (inv.1.1.1 n children q) c.loop-place-test.false in record { count = e.0; heads = e.1.0; others = e.1.1 })

pub mark_spec : {M : Type 1} → statement M
mark_spec =
    tie.close
    (tie.spec invariant-loop decreases-loop holds (λ c. omega arith) (λ c. omega arith) (λ c κs. tt) (λ c κs. tt) (λ c. omega (arith, c.before.before.before.loop-place-test.true, c.before.before.before.before.loop-place.invariant.1.1.0, c.before.before.before.before.before.before.before.requires.1.1.0))
    (λ c. omega (arith, c.before.before.before.loop-place-test.true, c.before.before.before.before.loop-place.invariant.1.0, c.before.before.before.before.before.before.before.requires.0)) (λ c. omega (arith, c.before.before.before.loop-place-test.true, c.before.before.before.before.before.before.before.requires.0))
    (λ c. omega (arith, c.before.before.before.loop-place-test.true, c.before.before.before.before.before.before.before.requires.0, c.before.atoms_of-atoms.ensures.1)) (λ c. omega (arith, c.before.before.before.loop-place-test.true, c.before.before.before.before.before.before.before.requires.0, c.before.atoms_of-atoms.ensures.1, c.tokens_of-tokens.ensures.1))
    (λ c. omega (arith, c.before.before.before.loop-place-test.true)) again (λ c. c.before.loop-place.invariant.1.1.0) returns)
