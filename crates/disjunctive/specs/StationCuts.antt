-- What a kernel makes of the windows of a sheet, and the three rules.
use Rattle.std.specs.Prelude.{ℕ, zero, suc, Bool, false, cond, ◌||◌, List, length}
use Rattle.sheet.specs.declared.records.Job.{Job}
use Rattle.sheet.specs.declared.records.Window.{Window}
use Rattle.sheet.specs.Entries.{job}
use Rattle.sheet.specs.Limits.{last_station}
use Rattle.rule.specs.Cuts.{Cut, dead}
use Rattle.rule.specs.Bounds.{together}
use Rattle.station.specs.declared.task.Task.{Task}
use Rattle.station.specs.Pairs.{pairs_earliest, pairs_limit}
use Rattle.station.specs.Edges.{edges_overloaded, edges_earliest, edges_limit}
use Rattle.station.specs.NotFirst.{not_first_earliest, not_first_limit}
use Rattle.disjunctive.specs.Gathering.{task, tasks_at}

-- whether the test holds of a number below n
abbrev pub any_below : (ℕ → Bool) → ℕ → Bool
any_below f zero = false
any_below f (suc n) = f n || any_below f n

-- how many stations there are
abbrev pub stations : ℕ
stations = suc last_station

-- a figure of job k among the tasks of its station
abbrev pub among : (Task → List Task → ℕ) → List Job → List Window → ℕ → ℕ
among figure js ws k = figure (task js ws k) (tasks_at js ws (job js k).station)

-- dead if a station is overloaded; else all bounds are worked out from the windows as handed, and then set together
abbrev pub station_cut : (List Task → Bool) → (Task → List Task → ℕ) → (Task → List Task → ℕ) → List Job → List Window → Cut
station_cut overloaded earliest limit js ws =
    cond (any_below (λ x. overloaded (tasks_at js ws x)) stations) dead
    (together (among earliest js ws) (among limit js ws) (length ws))

abbrev pub pairs_cut : List Job → List Window → Cut
pairs_cut js ws = station_cut (λ _. false) pairs_earliest pairs_limit js ws

abbrev pub edges_cut : List Job → List Window → Cut
edges_cut js ws = station_cut edges_overloaded edges_earliest edges_limit js ws

abbrev pub not_first_cut : List Job → List Window → Cut
not_first_cut js ws = station_cut (λ _. false) not_first_earliest not_first_limit js ws
