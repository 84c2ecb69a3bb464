-- New bounds for all jobs, worked out from the windows as handed and then set together.
-- A job's bounds are its first start and its end of starts, which is one more than its last start:
-- a last start below zero is an end of 0, so that every number here is natural.
use Rattle.std.specs.Prelude.{ℕ, zero, suc, ◌-◌, Bool, true, cond, ◌&&◌, List, [], ◌∷◌, ◌++◌, nat_lt}
use Rattle.sheet.specs.declared.records.Window.{Window}
use Rattle.rule.specs.Windows.{window_of, all_fine}
use Rattle.rule.specs.Cuts.{Cut, dead, live}

-- the windows of jobs 0 to n - 1
abbrev pub tabulate : (ℕ → Window) → ℕ → List Window
tabulate f zero = []
tabulate f (suc n) = tabulate f n ++ (f n ∷ [])

-- the window of the starts from lo k on that are below end k
abbrev pub between : (ℕ → ℕ) → (ℕ → ℕ) → ℕ → Window
between lo end k = window_of (lo k) (end k - 1)

-- whether each of the first n jobs has a start left
abbrev pub all_open : (ℕ → ℕ) → (ℕ → ℕ) → ℕ → Bool
all_open lo end zero = true
all_open lo end (suc n) = nat_lt (lo n) (end n) && all_open lo end n

-- dead if a first start passes its last
abbrev pub together : (ℕ → ℕ) → (ℕ → ℕ) → ℕ → Cut
together lo end n = cond (all_open lo end n) (live (tabulate (between lo end) n)) dead

-- windows that were worked out, if each can be the window of a job, and else dead
abbrev pub if_fine : List Window → Cut
if_fine vs = cond (all_fine vs) (live vs) dead
