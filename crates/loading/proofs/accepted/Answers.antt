-- What is read into the lent arrays is the book's reading.
use Rattle.loading.specs.Started.{found-refused, found-accepted}
use Rattle.loading.proofs.accepted.Goals as goal

pub returns-in-Err : goal.returns-in-Err
returns-in-Err c = found-refused c.read_into-contents.ensures c.in-Err.is

pub returns-in-Ok : goal.returns-in-Ok
returns-in-Ok c = found-accepted c.read_into-contents.ensures c.in-Ok.is
