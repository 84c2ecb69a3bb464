-- The copy has the first starts that the links passed so far leave.
use Rattle.std.proofs.Common.{◌+◌, take}
use Rattle.rule.specs.Windows.{window}
use Rattle.rule.proofs.Setting.{Bounded}
use Rattle.drying.specs.Drying.{earliest_start}
use Rattle.drying.proofs.Drying.raise.Given as goal

abbrev pub invariant-loop-link : goal.invariant-loop-link
invariant-loop-link l =
    Bounded (earliest_start l.self l.jobs l.windows (take l.link-index l.links)) (λ k. (window l.windows k).hi + 1) l.windows l.narrowed
