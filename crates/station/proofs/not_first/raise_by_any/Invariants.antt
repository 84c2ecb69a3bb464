-- What the loop of `raise_by_any` keeps.
use Rattle.station.specs.NotFirstPasses.{raised_by_any}
use Rattle.station.proofs.Rewriting.{UpTo}
use Rattle.station.proofs.not_first.raise_by_any.Given as goal

abbrev pub invariant-loop-k : goal.invariant-loop-k
invariant-loop-k l = UpTo 0 (raised_by_any l.ready l.tasks) l.initial.lows l.lows l.k
