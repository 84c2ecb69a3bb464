-- How many timetables lie within any windows.
use Rattle.search.proofs.Counts.{counted}
use Rattle.search.proofs.entered.entered_windows.Goals as goal

pub returns-clause-counted : goal.returns-clause-counted
returns-clause-counted c = counted _
