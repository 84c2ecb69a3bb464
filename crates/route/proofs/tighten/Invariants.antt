-- The copy has the bounds of the links passed so far.
use Rattle.std.proofs.Common.{take}
use Rattle.rule.proofs.Setting.{Bounded}
use Rattle.route.specs.Route.{earliest_start, past_latest_start}
use Rattle.route.proofs.tighten.Given as goal

abbrev pub invariant-loop-link : goal.invariant-loop-link
invariant-loop-link l =
    Bounded (earliest_start l.jobs l.windows (take l.link-index l.links)) (past_latest_start l.jobs l.windows (take l.link-index l.links)) l.windows l.narrowed
