-- One call more, after any list of calls.
use Rattle.std.specs.Prelude.{ℕ, List, [], ◌∷◌, ◌++◌}
use Rattle.sheet.specs.declared.records.Window.{Window}
use Rattle.sheet.specs.Entries.{Entries}
use Rattle.rule.specs.Cuts.{Cut}
use Rattle.calls.specs.declared.call.Call.{Call}
use Rattle.calls.specs.declared.call.Answer.{Answer}
use Rattle.calls.specs.Stages.{Stage, fresh, Leads}
use Rattle.calls.specs.Ledgers.{no_calls}
use Rattle.calls.specs.Promise.{PromiseKept}

-- the call c, answered a, takes the stage s to the stage u: whatever list of calls led from a fresh draft to s,
-- that list with this call leads to u, and the promise is kept of all of it
abbrev pub CarriesOn : (Entries → List ℕ → Type 0) → (Entries → List Window → Cut) → Stage → Call → Answer → Stage → Type 0
CarriesOn admits cut s c a u =
    (h : List (Call × Answer))
    → Leads cut fresh h s
    → Leads cut fresh (h ++ ((c, a) ∷ [])) u × PromiseKept admits cut no_calls (h ++ ((c, a) ∷ []))
