-- The search that the values of the code stand for, and its looks.
use Rattle.std.specs.Prelude.{ℕ, List}
use Rattle.sheet.specs.declared.records.Window.{Window}
use Rattle.sheet.specs.Entries.{Entries}
use Rattle.sheet.specs.Sheets.{entries}
use Rattle.rule.specs.Cuts.{Cut, repeated}
use Rattle.search.specs.declared.decision.Decision.{Decision}
use Rattle.search.specs.Deciding.{cut_down}
use Rattle.search.specs.Entered.{entered_windows}
use Rattle.search.specs.Looks.{State, opened, found, impossible, one_look}
use Rattle.search.specs.Paths.{decisions}
use Rattle.planner.specs.declared.state.Search.{Search}
use Rattle.planner.specs.declared.state.Standing.{Standing}
use Rattle.planner.specs.declared.state.Standing.TheVariants.{Open, Found, Impossible}

abbrev pub state_at : Standing → List Decision → State
state_at Open p = opened p
state_at (Found t) p = found p t.items
state_at Impossible p = impossible

module _ {P : Type 0} where
  -- the sheet that the search is of
  abbrev pub entries_of : Search P → Entries
  entries_of s = entries s.draft.sheet

  abbrev pub path_in : Search P → List Decision
  path_in s = decisions s.path

  abbrev pub state_of : Search P → State
  state_of s = state_at s.standing (path_in s)

  -- which timetables the pile admits and what it makes of windows, on the search's sheet, by what it does on any
  abbrev pub admits_in : (P → Entries → List ℕ → Type 0) → Search P → List ℕ → Type 0
  admits_in admits s = admits s.draft.pile.0 (entries_of s)

  abbrev pub cut_in : (P → Entries → List Window → Cut) → Search P → List Window → Cut
  cut_in cut s = cut s.draft.pile.0 (entries_of s)

  -- the entered windows cut down to the path, narrowed to the standstill of the pile
  abbrev pub windows_in : Search P → List Window
  windows_in s = cut_down (entered_windows (entries_of s)) (path_in s)

  abbrev pub narrowed_in : (P → Entries → List Window → Cut) → Search P → Cut
  narrowed_in cut s = repeated (cut_in cut s) (windows_in s)

  -- one look at a path of this search
  abbrev pub look_in : (P → Entries → List Window → Cut) → Search P → List Decision → State
  look_in cut s = one_look (cut_in cut s) (entries_of s)
