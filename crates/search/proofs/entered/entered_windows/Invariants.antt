-- The jobs passed so far have their entered windows.
use Rattle.std.proofs.Common.{◌≡◌, map, take}
use Rattle.sheet.specs.Sheets.{entries}
use Rattle.search.specs.Entered.{entered_window}
use Rattle.search.proofs.entered.entered_windows.Given as goal

abbrev pub invariant-loop-job : goal.invariant-loop-job
invariant-loop-job l = l.windows.items ≡ map entered_window (take l.job-index (entries l.sheet).jobs)
