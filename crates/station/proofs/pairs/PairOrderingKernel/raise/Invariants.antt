-- What the loop of `raise` keeps.
use Rattle.std.proofs.Common.{◌≡◌, ℕ, ◌<◌, get_or}
use Rattle.station.specs.Tasks.{at}
use Rattle.station.specs.Pairs.{pairs_earliest}
use Rattle.station.proofs.pairs.PairOrderingKernel.raise.Given as goal

abbrev pub invariant-loop-q : goal.invariant-loop-q
invariant-loop-q l = (q : ℕ) → q < l.q → get_or l.lows q 0 ≡ pairs_earliest (at l.tasks q) l.tasks
