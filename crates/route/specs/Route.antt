-- Route: which timetables it admits, and what it makes of windows.
use Rattle.std.specs.Prelude.{ℕ, ◌+◌, ◌-◌, ◌<◌, ◌≤◌, min, max, List, length, slice_index}
use Rattle.sheet.specs.declared.records.Job.{Job}
use Rattle.sheet.specs.declared.records.Link.{Link}
use Rattle.sheet.specs.declared.records.Window.{Window}
use Rattle.sheet.specs.Entries.{Entries, job, link}
use Rattle.rule.specs.Windows.{window}
use Rattle.rule.specs.Cuts.{Cut}
use Rattle.rule.specs.Bounds.{together}
use Rattle.rule.specs.Tightest.{tightest}

-- from the start of a link's first job to the soonest start of its second: the duration of the first and the wait
abbrev pub lag : List Job → Link → ℕ
lag js l = (job js l.from).duration + l.wait

-- the second job starts no sooner than the end of the first plus the wait
abbrev pub Holds : List Job → List ℕ → Link → Type 0
Holds js t l = slice_index t l.from + lag js l ≤ slice_index t l.to

-- every link holds
abbrev pub AllHold : Entries → List ℕ → Type 0
AllHold e t = (i : ℕ) → i < length e.links → Holds e.jobs t (link e.links i)

-- the first start that a link leaves its second job: lo_a + p_a + wait
abbrev pub start_after : List Job → List Window → Link → ℕ
start_after js ws l = (window ws l.from).lo + lag js l

-- one more than the last start that a link leaves its first job, hi_b - wait - p_a; where that is below zero, 0
abbrev pub past_before : List Job → List Window → Link → ℕ
past_before js ws l = (window ws l.to).hi + 1 - lag js l

-- the first start of job k, by its window and the links to it
abbrev pub earliest_start : List Job → List Window → List Link → ℕ → ℕ
earliest_start js ws = tightest max (λ l. l.to) (start_after js ws) (λ k. (window ws k).lo)

-- one more than the last start of job k, by its window and the links from it
abbrev pub past_latest_start : List Job → List Window → List Link → ℕ → ℕ
past_latest_start js ws = tightest min (λ l. l.from) (past_before js ws) (λ k. (window ws k).hi + 1)

-- all bounds are worked out from the windows as handed, and then set together
abbrev pub route_cut : Entries → List Window → Cut
route_cut e ws = together (earliest_start e.jobs ws e.links) (past_latest_start e.jobs ws e.links) (length ws)
