use Rattle.rounds.proofs.Starts.{not_listed, listed-as-form}
use Rattle.rounds.proofs.start.unless_variable.Goals as goal

pub returns-in-Form : goal.returns-in-Form
returns-in-Form c = listed-as-form c.in-Form.is c.push.ensures

pub returns-in-Variable : goal.returns-in-Variable
returns-in-Variable c = not_listed _ _ _ c.in-Variable.is
