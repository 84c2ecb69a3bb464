-- What every sheet keeps to.
use Rattle.std.specs.Prelude.{ℕ, ◌+◌, ◌<◌, ◌≤◌, List, length, ◌≢◌}
use Rattle.sheet.specs.declared.records.Job.{Job}
use Rattle.sheet.specs.declared.records.Link.{Link}
use Rattle.sheet.specs.Limits.{most_jobs, most_links, last_station, longest_duration, longest_wait, last_minute}
use Rattle.sheet.specs.Entries.{Entries, job, link}

-- a job that was entered
abbrev pub Entered : Job → Type 0
Entered j = (j.station ≤ last_station) × (1 ≤ j.duration) × (j.duration ≤ longest_duration) × (j.release + j.duration ≤ j.due) × (j.due ≤ last_minute)

-- a link that was entered between two of n jobs
abbrev pub Linked : ℕ → Link → Type 0
Linked n l = (l.from < n) × (l.to < n) × (l.from ≢ l.to) × (l.wait ≤ longest_wait)

abbrev pub AllEntered : List Job → Type 0
AllEntered js = (k : ℕ) → k < length js → Entered (job js k)

abbrev pub AllLinked : ℕ → List Link → Type 0
AllLinked n ls = (k : ℕ) → k < length ls → Linked n (link ls k)

pub record Sound (e : Entries) : Type 0 where
  pub few_jobs : length e.jobs ≤ most_jobs
  pub few_links : length e.links ≤ most_links
  pub entered : AllEntered e.jobs
  pub linked : AllLinked (length e.jobs) e.links
