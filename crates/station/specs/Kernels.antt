-- What a kernel owes: it narrows, loses no timetable, sees every overlap of single starts, and treats both directions of
-- time alike.
use Rattle.std.specs.Prelude.{◌≡◌, ℕ, ◌+◌, ◌-◌, ◌≤◌, Bool, false, ◌⊎◌, List, map}
use Rattle.std.specs.List.{AllByRecursion}
use Rattle.station.specs.declared.task.Task.{Task}
use Rattle.station.specs.Limits.{horizon}
use Rattle.station.specs.Tasks.{own_limit, Single, Pairwise, Fit, Formed}
use Rattle.station.specs.Mirror.{mirror}

-- one ends no later than the other starts
abbrev pub Apart : (Task → ℕ) → Task → Task → Type 0
Apart st x y = (st x + x.span ≤ st y) ⊎ (st y + y.span ≤ st x)

-- starts within the windows under which no two tasks overlap
pub record Placed (st : Task → ℕ) (U : List Task) : Type 0 where
  pub apart : Pairwise (Apart st) U
  pub low : AllByRecursion (λ t. t.lo ≤ st t) U
  pub high : AllByRecursion (λ t. st t + t.span ≤ t.end) U

pub record Lawful (overloaded : List Task → Bool) (earliest limit : Task → List Task → ℕ) : Type 0 where
  -- contracting
  pub rises : (i : Task) (U : List Task) → i.lo ≤ earliest i U
  pub falls : (i : Task) (U : List Task) → limit i U ≤ own_limit i
  -- preserving
  pub roomy : (st : Task → ℕ) (U : List Task) → Placed st U → overloaded U ≡ false
  pub keeps : (st : Task → ℕ) (U : List Task) → Placed st U → AllByRecursion (λ i. earliest i U ≤ st i) U
  -- checking
  pub checks : (U : List Task) → Formed U → AllByRecursion Single U → overloaded U ≡ false → AllByRecursion (λ i. earliest i U ≤ i.lo) U → Pairwise (Apart (λ t. t.lo)) U
  -- the same as time runs back
  pub mirrored : (U : List Task) → AllByRecursion Fit U → AllByRecursion (λ i. limit i U ≡ horizon + 1 - (earliest (mirror i) (map mirror U) + i.span)) U
  pub mirrored_load : (U : List Task) → AllByRecursion Fit U → overloaded (map mirror U) ≡ overloaded U
