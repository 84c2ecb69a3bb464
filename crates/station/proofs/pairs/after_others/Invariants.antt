-- What the loop of `after_others` keeps.
use Rattle.std.proofs.Common.{◌≡◌, take}
use Rattle.station.specs.Pairs.{pairs_earliest}
use Rattle.station.proofs.pairs.after_others.Given as goal

abbrev pub invariant-loop-other : goal.invariant-loop-other
invariant-loop-other l = l.lo ≡ pairs_earliest l.task (take l.other-index l.tasks)
