-- What the loop of `raise_by_later` keeps.
use Rattle.std.proofs.Common.{length}
use Rattle.std.specs.Slice.Iter.{iter_rest}
use Rattle.station.proofs.EdgesTurns.{Later}
use Rattle.station.proofs.Passes.{Front}
use Rattle.station.proofs.edges.raise_by_later.Given as goal

abbrev pub invariant-loop-k : goal.invariant-loop-k
invariant-loop-k l =
    let left = l.k-iterator.iter in
    Front l.tasks (iter_rest left.iter) left.count × Later l.bound l.tasks l.initial.lows l.lows (length (iter_rest left.iter)) l.work l.completion
