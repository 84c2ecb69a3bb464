-- The tasks of a station, out of the jobs of a sheet and their windows.
use Rattle.std.specs.Prelude.{ℕ, zero, suc, ◌+◌, cond, List, [], ◌∷◌, ◌++◌, length, ◌==◌}
use Rattle.sheet.specs.declared.records.Job.{Job}
use Rattle.sheet.specs.declared.records.Window.{Window}
use Rattle.sheet.specs.Entries.{job}
use Rattle.rule.specs.Windows.{window}
use Rattle.station.specs.declared.task.Task.{Task}

-- how long a job holds its station
abbrev pub span : List Job → ℕ → ℕ
span js k = (job js k).duration

-- job k with its window
abbrev pub task : List Job → List Window → ℕ → Task
task js ws k = record { lo = (window ws k).lo; span = span js k; end = (window ws k).hi + span js k; job = k }

-- those of the first n jobs that are at station x
abbrev pub gathered : List Job → List Window → ℕ → ℕ → List Task
gathered js ws x zero = []
gathered js ws x (suc k) = cond ((job js k).station == x) (gathered js ws x k ++ (task js ws k ∷ [])) (gathered js ws x k)

-- all jobs at station x
abbrev pub tasks_at : List Job → List Window → ℕ → List Task
tasks_at js ws x = gathered js ws x (length ws)
