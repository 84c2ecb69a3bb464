-- What the loop of `raise_by_all` keeps.
use Rattle.std.proofs.Common.{◌≡◌, ℕ, ◌<◌, false, length, get_or}
use Rattle.station.specs.Tasks.{at}
use Rattle.station.specs.EdgesPasses.{raised_by_all, passes_end}
use Rattle.station.proofs.edges.raise_by_all.Given as goal

abbrev pub invariant-loop-t : goal.invariant-loop-t
invariant-loop-t l =
    ((q : ℕ) → q < length l.tasks → get_or l.lows q 0 ≡ raised_by_all l.tasks q l.t-index) ×
    ((k : ℕ) → k < l.t-index → passes_end l.tasks (at l.tasks k) ≡ false)
