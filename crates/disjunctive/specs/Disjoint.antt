-- What the rules of this crate admit.
use Rattle.std.specs.Prelude.{◌≡◌, ℕ, ◌+◌, ◌<◌, ◌≤◌, ◌⊎◌, List, length, ◌≢◌, slice_index}
use Rattle.sheet.specs.declared.records.Job.{Job}
use Rattle.sheet.specs.Entries.{job}

-- of any two jobs at one station one ends no later than the other starts
abbrev pub Disjoint : List Job → List ℕ → Type 0
Disjoint js t =
    (i j : ℕ) → i < length js → j < length js → (i ≢ j) → (job js i).station ≡ (job js j).station →
    (slice_index t i + (job js i).duration ≤ slice_index t j) ⊎ (slice_index t j + (job js j).duration ≤ slice_index t i)
