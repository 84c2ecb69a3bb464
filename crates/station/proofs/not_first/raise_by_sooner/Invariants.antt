-- What the loop of `raise_by_sooner` keeps.
use Rattle.std.proofs.Common.{length}
use Rattle.std.specs.Slice.Iter.{iter_rest}
use Rattle.station.proofs.NotFirstTurns.{Sooner}
use Rattle.station.proofs.Passes.{Front}
use Rattle.station.proofs.not_first.raise_by_sooner.Given as goal

abbrev pub invariant-loop-k : goal.invariant-loop-k
invariant-loop-k l =
    let left = l.k-iterator.iter in
    Front l.tasks (iter_rest left.iter) left.count × Sooner l.ready l.tasks l.initial.lows l.lows (length (iter_rest left.iter)) l.work l.slack
