-- What comes of a line: the call that it writes is carried out and answered, and an ill written line changes nothing.
use Rattle.std.specs.Prelude.{ℕ, List, Some, None, Option}
use Rattle.sheet.specs.declared.records.Window.{Window}
use Rattle.sheet.specs.Entries.{Entries}
use Rattle.rule.specs.Cuts.{Cut}
use Rattle.calls.specs.declared.call.Call.{Call}
use Rattle.calls.specs.Stages.{Stage, answer_of, stage_after}
use Rattle.calls.specs.Carrying.{CarriesOn}
use Rattle.commands.specs.declared.reply.Reply.{Reply}
use Rattle.commands.specs.declared.reply.Reply.TheVariants.{Answered, IllWritten}

module _ (cut : Entries → List Window → Cut) where
  abbrev pub reply_to : Stage → Option Call → Reply
  reply_to s (Some c) = Answered (answer_of cut s c)
  reply_to s None = IllWritten

  abbrev pub stage_past : Stage → Option Call → Stage
  stage_past s (Some c) = stage_after cut s c
  stage_past s None = s

-- with the promise over all calls so far
abbrev pub Responds : (Entries → List ℕ → Type 0) → (Entries → List Window → Cut) → Stage → Option Call → Stage → Type 0
Responds admits cut s (Some c) u = CarriesOn admits cut s c (answer_of cut s c) u
Responds admits cut s None u = Unit {0}
