-- What is left to show of `after_others`.
use Rattle.std.proofs.Common.{ℕ, max, sym, ap, ◌∙◌}
use Rattle.std.proofs.lemmas.Bool.{cond-true, cond-false}
use Rattle.station.specs.Tasks.{at, ect}
use Rattle.station.proofs.PairsTurns.{earliest_more}
use Rattle.station.proofs.pairs.after_others.Goals as goal
use Rattle.station.proofs.pairs.after_others.Goals.{then-comes_after, else-comes_after}

pub loop-other-preserved : goal.loop-other-preserved
loop-other-preserved c =
    let U = c.args.tasks.now in
    let k = c.loop-other.other-index in
    let more = earliest_more c.args.task U k c.loop-other-test.true in
    elim c.if-comes_after.branch [
      | then-comes_after w ↦ w.lo-is ∙ w.max-lo.ensures ∙ ap (λ (x : ℕ). max x (ect (at U k))) c.loop-other.invariant ∙ sym (more ∙ cond-true _ _ _ (sym c.comes_after.ensures ∙ w.if-comes_after.true))
      | else-comes_after w ↦ w.lo-is ∙ c.loop-other.invariant ∙ sym (more ∙ cond-false _ _ _ (sym c.comes_after.ensures ∙ w.if-comes_after.false))
    ]
