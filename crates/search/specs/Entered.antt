-- The windows that jobs were entered with.
use Rattle.std.specs.Prelude.{◌-◌, List, map}
use Rattle.sheet.specs.declared.records.Job.{Job}
use Rattle.sheet.specs.declared.records.Window.{Window}
use Rattle.sheet.specs.Entries.{Entries}
use Rattle.rule.specs.Windows.{window_of}

-- the starts from the release to the due time less the duration
abbrev pub entered_window : Job → Window
entered_window j = window_of j.release (j.due - j.duration)

abbrev pub entered_windows : Entries → List Window
entered_windows e = map entered_window e.jobs
