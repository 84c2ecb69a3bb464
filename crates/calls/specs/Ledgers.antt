-- What calls and their answers tell of the sheet and of the looks; nothing here knows how a search works.
use Rattle.std.specs.Prelude.{ℕ, ◌+◌}
use Rattle.sheet.specs.Entries.{Entries, no_entries, job_of, link_of, with_job, with_link, moved}
use Rattle.calls.specs.declared.call.Call.{Call}
use Rattle.calls.specs.declared.call.Call.TheVariants.{Enter, Link, Move, Close, Advance}
use Rattle.calls.specs.declared.call.Answer.{Answer}
use Rattle.calls.specs.declared.call.Answer.TheVariants.{Number, Closed, Advanced}

pub record Ledger : Type 0 where
  -- the sheet that the accepted calls so far make
  pub sheet : Entries
  -- that sheet as it was last closed
  pub closed : Entries
  -- looks given to the accepted advances since that close, and the looks that they answered
  pub granted : ℕ
  pub reported : ℕ

abbrev pub no_calls : Ledger
no_calls = record { sheet = no_entries; closed = no_entries; granted = 0; reported = 0 }

abbrev pub if_number : {X : Type 0} → Answer → X → X → X
if_number (Number n) x y = x
if_number _ x y = y

abbrev pub with_sheet : Ledger → Entries → Ledger
with_sheet l e = record { sheet = e; closed = l.closed; granted = l.granted; reported = l.reported }

abbrev pub with_close : Ledger → Answer → Ledger
with_close l Closed = record { sheet = l.sheet; closed = l.sheet; granted = 0; reported = 0 }
with_close l _ = l

abbrev pub with_advance : Ledger → ℕ → Answer → Ledger
with_advance l g (Advanced o m) = record { sheet = l.sheet; closed = l.closed; granted = l.granted + g; reported = l.reported + m }
with_advance l g _ = l

-- one call more, with its answer
abbrev pub noted : Ledger → Call → Answer → Ledger
noted l (Enter s p r d) a = if_number a (with_sheet l (with_job l.sheet (job_of s p r d))) l
noted l (Link f t w) a = if_number a (with_sheet l (with_link l.sheet (link_of f t w))) l
noted l (Move k r d) a = if_number a (with_sheet l (moved l.sheet k r d)) l
noted l Close a = with_close l a
noted l (Advance g) a = with_advance l g a
noted l _ a = l
