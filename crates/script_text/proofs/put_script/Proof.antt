-- `put_script` meets its contract.
use native.Mathlib.Omega.{arith}
use borrow.Author.Rules.{rules}
use Rattle.script_text.specs.Runs.{two_runs, fits-first, fits-second, wrote-split}
use Rattle.script_text.proofs.Roots.{script-split, script-fits}
use Rattle.script_text.proofs.put_script.Statement.{statement}
use Rattle.script_text.proofs.put_script.Tie as tie

pub put_script_spec : {M : Type 1} → statement M
put_script_spec =
    tie.close
    (tie.spec (λ c κs. search rules)
    (λ c κs.
    let stands = c.requires.stands in (
      omega (arith, stands.stored.variables),
      fits-first two_runs (fits-second (script-split stands) (script-fits stands) c.put_bytes-declarations.ensures),
    ))
    (λ c κs.
    let stands = c.requires.stands in
    fits-first two_runs (fits-second two_runs (fits-second (script-split stands) (script-fits stands) c.put_bytes-declarations.ensures) c.put_declarations-assertion.ensures))
    (λ c κs.
    let some = c.requires in
    record {
      block = some.block;
      stands = some.stands;
      fits = fits-first two_runs (fits-second two_runs (fits-second two_runs
          (fits-second (script-split some.stands) (script-fits some.stands) c.put_bytes-declarations.ensures) c.put_declarations-assertion.ensures)
          c.put_bytes-tree.ensures);
    })
    (λ c κs.
    let some = c.requires in
    fits-second two_runs (fits-second two_runs (fits-second two_runs
    (fits-second (script-split some.stands) (script-fits some.stands) c.put_bytes-declarations.ensures) c.put_declarations-assertion.ensures)
    c.put_bytes-tree.ensures) (c.put_root-end.ensures some.block some.stands))
    (λ c. search rules)
    (λ c block stands.
    wrote-split (script-split stands) c.put_bytes-declarations.ensures (wrote-split two_runs c.put_declarations-assertion.ensures
    (wrote-split two_runs c.put_bytes-tree.ensures (wrote-split two_runs (c.put_root-end.ensures block stands) c.put_bytes.ensures)))))
