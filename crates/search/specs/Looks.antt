-- The search: what it is after each look, one look, and looks in a row.
use Rattle.std.specs.Prelude.{ℕ, zero, suc, Bool, true, false, List, [], ◌∷◌, Some, None, Option}
use Rattle.sheet.specs.declared.records.Window.{Window}
use Rattle.sheet.specs.Entries.{Entries}
use Rattle.rule.specs.Windows.{window, starts}
use Rattle.rule.specs.Cuts.{Cut, dead, live, repeated}
use Rattle.search.specs.declared.decision.Decision.{Decision}
use Rattle.search.specs.declared.decision.Part.{Part}
use Rattle.search.specs.declared.decision.Part.TheVariants.{First, Second}
use Rattle.search.specs.declared.outcome.Outcome.{Outcome}
use Rattle.search.specs.declared.outcome.Outcome.TheVariants.{Open, Found, Impossible}
use Rattle.search.specs.Entered.{entered_windows}
use Rattle.search.specs.Choosing.{narrowest}
use Rattle.search.specs.Deciding.{decision_on, to_second, cut_down}

-- a search that is open has its path; one that found a timetable has its starts too
pub data State : Type 0 where
  opened : List Decision → State
  found : List Decision → List ℕ → State
  impossible : State

abbrev pub outcome_of : State → Outcome
outcome_of (opened p) = Open
outcome_of (found p t) = Found
outcome_of impossible = Impossible

abbrev pub path_of : State → List Decision
path_of (opened p) = p
path_of (found p t) = p
path_of impossible = []

abbrev pub is_open : State → Bool
is_open (opened p) = true
is_open (found p t) = false
is_open impossible = false

-- the first of two by the part that a decision is on
abbrev pub by_part : {X : Type 0} → Part → X → X → X
by_part First x y = x
by_part Second x y = y

-- after a dead end: decisions on their second part are dropped, and the last of the rest goes to its second part
abbrev pub backtracked : List Decision → State
backtracked [] = impossible
backtracked (d ∷ p) = by_part d.part (opened (to_second d ∷ p)) (backtracked p)

-- windows that are not dead: a job is split, or every window is a single start
abbrev pub branched : Option ℕ → List Window → List Decision → State
branched None ws p = found p (starts ws)
branched (Some k) ws p = opened (decision_on k (window ws k) ∷ p)

abbrev pub looked_at : Cut → List Decision → State
looked_at dead p = backtracked p
looked_at (live ws) p = branched (narrowest ws) ws p

-- one look at an open search with the path p, where the pile makes cut of windows: the entered windows, cut down
-- to the parts chosen on the path, are narrowed to the standstill of the pile
abbrev pub one_look : (List Window → Cut) → Entries → List Decision → State
one_look cut e p = looked_at (repeated cut (cut_down (entered_windows e) p)) p

-- looks until the search is settled or n are made
abbrev pub after_looks : (List Decision → State) → ℕ → State → State
after_looks f zero s = s
after_looks f (suc n) (opened p) = after_looks f n (f p)
after_looks f (suc n) (found p t) = found p t
after_looks f (suc n) impossible = impossible

-- how many of them are made
abbrev pub looks_made : (List Decision → State) → ℕ → State → ℕ
looks_made f zero s = 0
looks_made f (suc n) (opened p) = suc (looks_made f n (f p))
looks_made f (suc n) (found p t) = 0
looks_made f (suc n) impossible = 0
