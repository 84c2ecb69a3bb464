-- What the loop of `raise_by_earlier` keeps.
use Rattle.station.proofs.EdgesTurns.{Earlier}
use Rattle.station.proofs.edges.raise_by_earlier.Given as goal

abbrev pub invariant-loop-k : goal.invariant-loop-k
invariant-loop-k l = Earlier l.bound l.tasks l.initial.lows l.lows l.k l.rest l.peak
