-- What the passes of not-first work out for the tasks that are complete at minute e or later, over tasks from the latest
-- completion down.
use Rattle.std.specs.Prelude.{ℕ, zero, suc, ◌+◌, ◌-◌, ◌*◌, min, max, Bool, cond, ◌&&◌, List, [], ◌∷◌, drop, nat_le, nat_lt}
use Rattle.station.specs.declared.task.Task.{Task}
use Rattle.station.specs.Limits.{horizon, most_work}
use Rattle.station.specs.Tasks.{at, ect}
use Rattle.station.specs.EdgesPasses.{work_of}

abbrev pub complete_from : ℕ → Task → Bool
complete_from e t = nat_le e (ect t)

-- more than any slack
abbrev pub no_slack : ℕ
no_slack = 2 * horizon + most_work

-- the least of a latest completion less the work up to there, raised by the most work so that nothing is below zero
abbrev pub slack : ℕ → List Task → ℕ
slack e [] = no_slack
slack e (t ∷ U) = cond (complete_from e t) (min (slack e U) (t.end + most_work - (t.span + work_of (complete_from e) U))) (slack e U)

-- what the pass down makes of the bound x of the task at place q: the sets that end before it
abbrev pub raised_by_sooner : ℕ → List Task → ℕ → ℕ → ℕ
raised_by_sooner e U q x = cond (complete_from e (at U q) && nat_lt (slack e (drop (suc q) U)) (ect (at U q) + most_work)) (max x e) x

-- from when on a task has to fit in front of all others: its own work is in their slack already where it counts there
abbrev pub front : ℕ → Task → ℕ
front e t = cond (complete_from e t) t.lo (ect t)

-- and the second pass: the sets of all
abbrev pub raised_by_any : ℕ → List Task → ℕ → ℕ → ℕ
raised_by_any e U q x = cond (nat_lt (slack e U) (front e (at U q) + most_work)) (max x e) x

abbrev pub raised_from : ℕ → List Task → ℕ → ℕ → ℕ
raised_from e U q x = raised_by_any e U q (raised_by_sooner e U q x)

-- the passes for the completions of the first n tasks
abbrev pub raised_from_all : List Task → ℕ → ℕ → ℕ
raised_from_all U q zero = (at U q).lo
raised_from_all U q (suc n) = raised_from (ect (at U n)) U q (raised_from_all U q n)
