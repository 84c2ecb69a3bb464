-- What the loop of `raise_all` keeps.
use Rattle.disjunctive.proofs.Running.{Through}
use Rattle.disjunctive.proofs.board.Board.raise_all.Given as goal

abbrev pub invariant-loop-station : goal.invariant-loop-station
invariant-loop-station g l = Through g.K.Kernel.overloaded g.K.Kernel.earliest l.self.jobs.now l.self.windows.now l.starts.lows l.starts.backs l.station
