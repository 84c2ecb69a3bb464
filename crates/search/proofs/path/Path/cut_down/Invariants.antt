-- The windows are cut down to the decisions passed so far.
use Rattle.std.proofs.Common.{◌≡◌, take}
use Rattle.search.specs.Deciding.{cut_down}
use Rattle.search.proofs.Placing.{newest}
use Rattle.search.proofs.path.Path.cut_down.Given as goal

abbrev pub invariant-loop-decision : goal.invariant-loop-decision
invariant-loop-decision l = l.windows ≡ cut_down l.initial.windows (newest (take l.self.depth l.self.places) l.decision-index)
