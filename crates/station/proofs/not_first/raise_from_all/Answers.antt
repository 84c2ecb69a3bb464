-- What is left to show of `raise_from_all`.
use Rattle.std.proofs.Common.{ℕ, ap, ◌∙◌, add-one}
use Rattle.station.specs.Tasks.{at, ect}
use Rattle.station.specs.NotFirstPasses.{raised_by_sooner, raised_by_any}
use Rattle.station.proofs.not_first.raise_from_all.Goals as goal

pub loop-t-preserved : goal.loop-t-preserved
loop-t-preserved c q h =
    let U = c.args.tasks.now in
    let e = ect (at U c.loop-t.t-index) in
    rw add-one (c.raise_by_any.ensures q h ∙ ap (raised_by_any e U q) (c.raise_by_sooner-slack.ensures.lows q h) ∙ ap (λ (x : ℕ). raised_by_any e U q (raised_by_sooner e U q x)) (c.loop-t.invariant q h))
