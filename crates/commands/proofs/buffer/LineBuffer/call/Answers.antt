-- A line that is too long is ill written, so that none is read wrong.
use Rattle.std.proofs.Common.{ap, ◌∙◌}
use Rattle.commands.specs.Buffers.{held_call}
use Rattle.commands.proofs.Buffering.{kept_call}
use Rattle.commands.proofs.buffer.LineBuffer.call.Goals as goal

pub returns : goal.returns
returns c = record { answer = c.read.ensures; law = λ line h. c.read.ensures ∙ ap held_call h ∙ kept_call line }
