-- What is read keeps the law.
use Rattle.commands.proofs.Law.{command_law}
use Rattle.commands.proofs.command.parse.Goals as goal

pub returns : goal.returns
returns c = record { answer = c.read_call.ensures; law = command_law _ _ c.read_call.ensures }
