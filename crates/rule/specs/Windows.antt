-- The windows of a sheet's jobs, by number, and the timetables within them.
use Rattle.std.specs.Prelude.{◌≡◌, ℕ, ◌<◌, ◌≤◌, Bool, ◌&&◌, List, map, length, ◌==◌, nat_le, slice_index, slice_index_or}
use Rattle.std.specs.Cmp.Lexicographic.{pointwise}
use Rattle.std.specs.List.{list_all}
use Rattle.sheet.specs.declared.records.Window.{Window}
use Rattle.sheet.specs.Limits.{last_minute}

abbrev pub window_of : ℕ → ℕ → Window
window_of l h = record { lo = l; hi = h }

-- the window of job k
abbrev pub window : List Window → ℕ → Window
window ws k = slice_index_or ws k (window_of 0 0)

-- no first start after its last, and none after the last minute
abbrev pub fine : Window → Bool
fine w = nat_le w.lo w.hi && nat_le w.hi last_minute

abbrev pub all_fine : List Window → Bool
all_fine ws = list_all fine ws

-- whether these can be the windows of n jobs; if not, they are malformed
abbrev pub formed : ℕ → List Window → Bool
formed n ws = length ws == n && all_fine ws

-- the same as a fact
pub record Formed (n : ℕ) (ws : List Window) : Type 0 where
  pub count : length ws ≡ n
  pub ordered : (k : ℕ) → k < length ws → (window ws k).lo ≤ (window ws k).hi
  pub timely : (k : ℕ) → k < length ws → (window ws k).hi ≤ last_minute

-- as many windows, each with the first start and the last of its like
abbrev pub same : List Window → List Window → Bool
same vs ws = pointwise (λ v w. v.lo == w.lo && v.hi == w.hi) vs ws

-- the windows vs lie within ws, and every first start is at most its last
pub record Within (vs ws : List Window) : Type 0 where
  pub count : length vs ≡ length ws
  pub low : (k : ℕ) → k < length ws → (window ws k).lo ≤ (window vs k).lo
  pub ordered : (k : ℕ) → k < length ws → (window vs k).lo ≤ (window vs k).hi
  pub high : (k : ℕ) → k < length ws → (window vs k).hi ≤ (window ws k).hi

-- a timetable, one start for each job, lies within the windows
pub record Inside (t : List ℕ) (ws : List Window) : Type 0 where
  pub count : length t ≡ length ws
  pub low : (k : ℕ) → k < length ws → (window ws k).lo ≤ slice_index t k
  pub high : (k : ℕ) → k < length ws → slice_index t k ≤ (window ws k).hi

-- every window is a single start
abbrev pub Single : List Window → Type 0
Single ws = (k : ℕ) → k < length ws → (window ws k).lo ≡ (window ws k).hi

abbrev pub starts : List Window → List ℕ
starts ws = map (λ w. w.lo) ws
