-- Decisions, and windows cut down to the parts chosen on a path of them. A path has its newest decision in front.
use Rattle.std.specs.Prelude.{◌≡◌, ℕ, suc, ◌+◌, ◌-◌, ◌/◌, ◌<◌, ◌≤◌, List, [], ◌∷◌, length, drop, slice_index_or, slice_set}
use Rattle.sheet.specs.declared.records.Window.{Window}
use Rattle.rule.specs.Windows.{window, window_of}
use Rattle.search.specs.declared.decision.Decision.{Decision}
use Rattle.search.specs.declared.decision.Part.{Part}
use Rattle.search.specs.declared.decision.Part.TheVariants.{First, Second}

-- halfway from the first start to the last, rounded down
abbrev pub middle_of : Window → ℕ
middle_of w = w.lo + (w.hi - w.lo) / 2

-- the decision on a job's window, on its first part
abbrev pub decision_on : ℕ → Window → Decision
decision_on k w = record { job = k; window = w; middle = middle_of w; part = First }

abbrev pub blank_decision : Decision
blank_decision = record { job = 0; window = window_of 0 0; middle = 0; part = First }

abbrev pub to_second : Decision → Decision
to_second d = record { job = d.job; window = d.window; middle = d.middle; part = Second }

-- the first part of a decision's window goes to its middle minute, the second from the minute after
abbrev pub part_of : Part → Decision → Window
part_of First d = window_of d.window.lo d.middle
part_of Second d = window_of (d.middle + 1) d.window.hi

abbrev pub chosen : Decision → Window
chosen d = part_of d.part d

-- windows cut down to the parts chosen on a path
abbrev pub cut_down : List Window → List Decision → List Window
cut_down ws [] = ws
cut_down ws (d ∷ p) = slice_set (cut_down ws p) d.job (chosen d)

-- a decision that splits a window within its job's in ws
abbrev pub Splits : List Window → Decision → Type 0
Splits ws d =
    (d.job < length ws)
    × ((window ws d.job).lo ≤ d.window.lo)
    × (d.window.lo < d.window.hi)
    × (d.window.hi ≤ (window ws d.job).hi)
    × (d.middle ≡ middle_of d.window)

-- a path that grew from the windows ws: each decision splits what those before it leave
abbrev pub Grown : List Window → List Decision → Type 0
Grown ws p = (k : ℕ) → k < length p → Splits (cut_down ws (drop (suc k) p)) (slice_index_or p k blank_decision)
