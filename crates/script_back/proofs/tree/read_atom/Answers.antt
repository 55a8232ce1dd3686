-- `read_atom` meets its contract.
use Rattle.std.proofs.Common.{refl}
use Rattle.std.proofs.lemmas.Result.{err_from_is_err_and}
use Rattle.script_back.proofs.Walk.{atom-stops, atom-reads, atom-number}
use Rattle.script_back.proofs.tree.read_atom.Goals as goal

pub returns-in_err-piece : goal.returns-in_err-piece
returns-in_err-piece c = let p = err_from_is_err_and c.from_residual.result c.from_residual.ensures.1 in rw (p.1, p.2) (atom-stops c.args.place c.in_err-piece.ensures refl)

pub close_atom-requires : goal.close_atom-requires
close_atom-requires c =
    let small = atom-number c.args.place c.in_ok-piece.ensures refl c.requires.0 in
    (record { inside = small.1; tape = c.requires.1.tape; fits = c.requires.1.fits }, c.requires.2, c.requires.3, small.0)

pub returns : goal.returns
returns c = atom-reads c.args.place c.in_ok-piece.ensures refl c.close_atom.ensures
