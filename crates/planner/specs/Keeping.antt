-- The promise of one advance, in what it answers.
use Rattle.std.specs.Prelude.{ℕ, List, Ok, Err, Result}
use Rattle.sheet.specs.declared.records.Window.{Window}
use Rattle.sheet.specs.declared.refusal.Refusal.{Refusal}
use Rattle.sheet.specs.Entries.{Entries}
use Rattle.rule.specs.Cuts.{Cut}
use Rattle.search.specs.Looks.{State}
use Rattle.search.specs.Promise.{KeepsPromise}

-- an advance by g looks from the search x to the search y, answered r: an accepted one keeps the promise, with the
-- looks that it answered
abbrev pub Kept : (List ℕ → Type 0) → (List Window → Cut) → Entries → State → ℕ → Result (ℕ × ℕ) Refusal → State → Type 0
Kept admits cut e x g (Ok a) y = KeepsPromise admits cut e x g a.1 y
Kept admits cut e x g (Err w) y = Unit {0}
