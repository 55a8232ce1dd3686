-- `put_atom` meets its contract.
use borrow.Author.Rules.{rules}
use Rattle.script_text.specs.Runs.{two_runs, fits-first, fits-second, wrote-split}
use Rattle.script_text.proofs.Texts.{atom-split}
use Rattle.script_text.proofs.put_atom.Statement.{statement}
use Rattle.script_text.proofs.put_atom.Tie as tie

pub put_atom_spec : {M : Type 1} → statement M
put_atom_spec =
    tie.close
    (tie.spec (λ c. search rules) (λ c. search rules) (λ c. search rules)
    (λ c κs. fits-first (atom-split _ _) c.requires.3)
    (λ c. search rules)
    (λ c κs. (
      c.requires.0,
      c.requires.2,
      fits-first two_runs (fits-second (atom-split _ _) c.requires.3 c.put_opening-polynomial.ensures),
    ))
    (λ c κs.
    fits-first two_runs (fits-second two_runs (fits-second (atom-split _ _) c.requires.3 c.put_opening-polynomial.ensures) c.put_polynomial-space.ensures))
    (λ c κs.
    fits-second two_runs (fits-second two_runs (fits-second (atom-split _ _) c.requires.3 c.put_opening-polynomial.ensures) c.put_polynomial-space.ensures)
    c.put_byte-end.ensures)
    (λ c. search rules)
    (λ c.
    wrote-split (atom-split _ _) c.put_opening-polynomial.ensures
    (wrote-split two_runs c.put_polynomial-space.ensures (wrote-split two_runs c.put_byte-end.ensures c.put_closing.ensures))))
