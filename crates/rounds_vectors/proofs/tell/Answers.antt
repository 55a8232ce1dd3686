-- The arrays that the reader left are what the working table asks for.
use Rattle.rounds_vectors.proofs.Left.{left}
use Rattle.rounds_vectors.proofs.tell.Goals as goal

pub tell_rounds-requires : goal.tell_rounds-requires
tell_rounds-requires g c = left (rw c.in-Ok.is at c.read.ensures)
