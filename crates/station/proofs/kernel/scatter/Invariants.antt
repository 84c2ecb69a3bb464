-- What the loop of `scatter` keeps.
use Rattle.std.proofs.Common.{length}
use Rattle.station.proofs.Scattering.{Scattered}
use Rattle.station.proofs.kernel.scatter.Given as goal

abbrev pub invariant-loop-t : goal.invariant-loop-t
invariant-loop-t l = Scattered l.tasks l.values l.initial.out l.out (length l.yielded)
