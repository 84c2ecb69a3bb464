-- The hall's own words: starts that the hall can work by, and what a report says of them.
use Rattle.std.specs.Prelude.{◌≡◌, ℕ, ◌+◌, ◌<◌, ◌≤◌, ◌⊎◌, List, length, ◌≢◌, slice_index}
use Rattle.sheet.specs.Entries.{Entries, job, link}
use Rattle.sheet.specs.Sound.{Sound}
use Rattle.slip.specs.Texts.{SlipOf}
use Rattle.slip.specs.Faulty.{Faulty as FaultOf}
use Rattle.search.specs.declared.decision.Decision.{Decision}
use Rattle.search.specs.Looks.{State, opened, found, impossible}
use Rattle.report.specs.declared.reported.Unplanned.TheVariants.{Faulty, Refused}
use Rattle.report.specs.Planning.{Told, planned, unplanned, RefusedFor}

-- when job k ends, by the starts t
abbrev pub end_of : Entries → List ℕ → ℕ → ℕ
end_of e t k = slice_index t k + (job e.jobs k).duration

pub record Workable (e : Entries) (t : List ℕ) : Type 0 where
  -- one start for each job
  pub one_each : length t ≡ length e.jobs
  -- no job starts before its release or ends after its due time
  pub in_window : (k : ℕ) → k < length e.jobs → ((job e.jobs k).release ≤ slice_index t k) × (end_of e t k ≤ (job e.jobs k).due)
  -- no two jobs meet at one station: one ends no later than the other starts
  pub apart : (i j : ℕ) → i < length e.jobs → j < length e.jobs → (i ≢ j) → (job e.jobs i).station ≡ (job e.jobs j).station → (end_of e t i ≤ slice_index t j) ⊎ (end_of e t j ≤ slice_index t i)
  -- every link's wait is kept
  pub linked : (i : ℕ) → i < length e.links → end_of e t (link e.links i).from + (link e.links i).wait ≤ slice_index t (link e.links i).to

-- what a search that stands at x after m of g looks says of the sheet e
pub record Says (e : Entries) (g m : ℕ) (x : State) : Type 0 where
  -- found: the hall can work by the starts
  pub yes : (p : List Decision) (t : List ℕ) → x ≡ found p t → Workable e t
  -- impossible: there are no such starts at all
  pub no : x ≡ impossible → (t : List ℕ) → Workable e t → ⊥
  -- open: all granted looks were made
  pub open_yet : (p : List Decision) → x ≡ opened p → m ≡ g
  pub within_grant : m ≤ g

-- what planning the bytes of a slip by g looks tells, where there is room for so many starts
abbrev pub InTheHallsWords : List ℕ → ℕ → ℕ → Told → Type 0
InTheHallsWords bytes g room (unplanned (Faulty f)) = FaultOf bytes f
InTheHallsWords bytes g room (unplanned (Refused r)) = (e : Entries) × SlipOf bytes e × RefusedFor e g room r
InTheHallsWords bytes g room (planned e x m) = SlipOf bytes e × Sound e × (length e.jobs ≤ room) × Says e g m x
