-- Tasks of one station, as a list.
use Rattle.std.specs.Prelude.{◌≡◌, ℕ, ◌+◌, ◌-◌, ◌≤◌, List, [], ◌∷◌, length, ◌≢◌, slice_index_or}
use Rattle.std.specs.List.{AllByRecursion}
use Rattle.station.specs.declared.task.Task.{Task}
use Rattle.station.specs.Limits.{horizon, longest, most_tasks}

abbrev pub no_task : Task
no_task = record { lo = 0; span = 0; end = 0; job = 0 }

-- the task at a place
abbrev pub at : List Task → ℕ → Task
at U k = slice_index_or U k no_task

-- the earliest completion time
abbrev pub ect : Task → ℕ
ect t = t.lo + t.span

-- the last start
abbrev pub last_start : Task → ℕ
last_start t = t.end - t.span

-- The starts that are left to a task go from the earliest up to, and without, its limit: one more than the last start. A
-- last start below zero has no number here, but its limit has: 0, which leaves no start.
abbrev pub own_limit : Task → ℕ
own_limit t = t.end + 1 - t.span

-- whether one start is left
abbrev pub Single : Task → Type 0
Single t = t.end ≡ t.lo + t.span

-- each stands so to every later one
abbrev pub Pairwise : {X : Type 0} → (X → X → Type 0) → List X → Type 0
Pairwise R [] = Unit {0}
Pairwise R (x ∷ xs) = AllByRecursion (R x) xs × Pairwise R xs

-- what a task keeps to
pub record Fit (t : Task) : Type 0 where
  pub some : 1 ≤ t.span
  pub short : t.span ≤ longest
  pub room : t.lo + t.span ≤ t.end
  pub ends : t.end ≤ horizon

-- what the tasks of a station keep to; no two are of one job
pub record Formed (U : List Task) : Type 0 where
  pub few : length U ≤ most_tasks
  pub fit : AllByRecursion Fit U
  pub distinct : Pairwise (λ s t. s.job ≢ t.job) U
