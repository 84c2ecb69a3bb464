-- The figures that bound the tasks of a station.
use Rattle.std.specs.Prelude.{ℕ, ◌*◌}

-- the latest minute at which a task may end: the latest time of a timetable plus the longest span
abbrev pub horizon : ℕ
horizon = 42000

-- the longest span
abbrev pub longest : ℕ
longest = 2000

-- the most tasks
abbrev pub most_tasks : ℕ
most_tasks = 48

-- the most work: that of as many tasks as there may be, each as long as it may be
abbrev pub most_work : ℕ
most_work = most_tasks * longest
