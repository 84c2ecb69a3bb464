-- What a planner stands for.
use Rattle.sheet.specs.Sheets.{entries}
use Rattle.planner.specs.States.{entries_of, state_of}
use Rattle.calls.specs.declared.planning.Planner.{Planner}
use Rattle.calls.specs.declared.planning.Planner.TheVariants.{Drafting, Searching}
use Rattle.calls.specs.Stages.{Stage, drafting, searching}

abbrev pub stage_of : {P : Type 0} → Planner P → Stage
stage_of (Drafting d) = drafting (entries d.sheet)
stage_of (Searching s) = searching (entries_of s) (state_of s)

abbrev pub pile_of : {P : Type 0} → Planner P → P
pile_of (Drafting d) = d.pile
pile_of (Searching s) = s.draft.pile.0
