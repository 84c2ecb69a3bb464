-- What the loop of `gather` keeps.
use Rattle.std.specs.Slice.Iter.{iter_rest}
use Rattle.disjunctive.proofs.Gathering.{Gathered}
use Rattle.disjunctive.proofs.board.Board.gather.Given as goal

abbrev pub invariant-loop-number : goal.invariant-loop-number
invariant-loop-number l =
    let left = l.number-iterator in
    Gathered l.self.jobs.now (iter_rest left.iter.a) l.self.windows.now (iter_rest left.iter.b) l.station l.tasks.items l.mirrored.items left.count
