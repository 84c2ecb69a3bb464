-- What the loop of `raise_from_all` keeps.
use Rattle.std.proofs.Common.{◌≡◌, ℕ, ◌<◌, length, get_or}
use Rattle.station.specs.NotFirstPasses.{raised_from_all}
use Rattle.station.proofs.not_first.raise_from_all.Given as goal

abbrev pub invariant-loop-t : goal.invariant-loop-t
invariant-loop-t l = (q : ℕ) → q < length l.tasks → get_or l.lows q 0 ≡ raised_from_all l.tasks q l.t-index
