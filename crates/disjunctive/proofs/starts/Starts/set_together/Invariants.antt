-- What the loop of `set_together` keeps.
use Rattle.std.proofs.Common.{◌≡◌, ℕ, ◌<◌}
use Rattle.rule.specs.Bounds.{between}
use Rattle.rule.specs.Windows.{window}
use Rattle.disjunctive.proofs.Running.{low_of, limit_of}
use Rattle.disjunctive.proofs.starts.Starts.set_together.Given as goal

abbrev pub invariant-loop-number : goal.invariant-loop-number
invariant-loop-number l = (k : ℕ) → k < l.number → window l.windows k ≡ between (low_of l.self.lows) (limit_of l.jobs l.self.backs) k
