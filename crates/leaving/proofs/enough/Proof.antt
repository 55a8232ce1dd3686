-- `enough` meets its contract: the kept tokens and the later ones, in one row.
use Prim.Native.Nat.{ℕ, ◌+◌, ◌-◌, ◌≤◌}
use mathlib.Core.List.{List, ◌++◌}
use native.Mathlib.Omega.{arith}
use lib.ListN.{length, drop, length-drop, length-append}
use Rattle.leaving.specs.Enough.{enough_if, enough_for}
use Rattle.leaving.proofs.Leaving.{appended}
use Rattle.leaving.proofs.enough.Statement.{statement}
use Rattle.leaving.proofs.enough.Tie as tie

append-requires : tie.Need-append-others-requires
append-requires c κs =
    let a = c.before.before.requires.1 in (omega (arith, a.low, a.lists.size), (omega (arith, a.short, a.lists.size), omega (arith, a.few, a.low, a.lists.size, a.kept_lists.size)))

few-there : (k l : List ℕ) (from : ℕ) → length k + (length l - from) ≤ 64 → length (k ++ drop from l) ≤ 64
few-there k l from h = omega (arith, length-append k (drop from l), length-drop from l)

excludes-requires : tie.Need-excludes-requires
excludes-requires c κs =
    let s = c.before.before.before.before.before in
    let a = s.requires.1 in (
      s.requires.0,
      record {
        tokens = a.before ++ drop s.args.from a.tokens;
        lists = appended a.before a.tokens _ _ a.lists.size (c.before.before.append-others.ensures.1 a.before a.tokens a.kept_lists a.lists (omega (arith, a.lists.size)));
        few = few-there a.before a.tokens _ a.few;
      },
    )

implies-requires : tie.Need-implies-requires
implies-requires c κs =
    let s = c.before.before.before.before.before in
    let a = s.requires.1 in (
      s.requires.0,
      record {
        tokens = a.before ++ drop s.args.from a.tokens;
        lists = appended a.before a.tokens _ _ a.lists.size (c.before.before.append-others.ensures.1 a.before a.tokens a.kept_lists a.lists (omega (arith, a.lists.size)));
        few = few-there a.before a.tokens _ a.few;
        afresh = a.proper.afresh c.if-question.false;
      },
    )

returns : tie.Need-returns-then-question
unfolding enough_for enough_if
returns c k l hk hl =
    rw c.before.if-question.true (c.excludes.ensures _ (appended k l _ _ hl.size (c.before.before.before.append-others.ensures.1 k l hk hl (omega (arith, hl.size)))))

returns-2 : tie.Need-returns
unfolding enough_for enough_if
returns-2 c k l hk hl =
    rw c.before.if-question.false (c.implies.ensures _ (appended k l _ _ hl.size (c.before.before.before.append-others.ensures.1 k l hk hl (omega (arith, hl.size)))))

pub enough_spec : {M : Type 1} → statement M
enough_spec = tie.close (tie.spec append-requires excludes-requires returns implies-requires returns-2)
