-- What is left to show of `raise_by_all`.
use Rattle.std.proofs.Common.{ℕ, sym, ap, ◌∙◌, add-one, below_more, arith}
use Rattle.std.proofs.ByRecursion.{All-from_get_or}
use Rattle.station.specs.Tasks.{no_task, at}
use Rattle.station.specs.EdgesPasses.{raised_by_both, passes_end}
use Rattle.station.specs.Bounds.{any_none}
use Rattle.station.proofs.edges.raise_by_all.Goals as goal

pub loop-t-preserved : goal.loop-t-preserved
loop-t-preserved c =
    let U = c.args.tasks.now in
    let done = c.in_ok-raise_by_both.ensures in (
      λ q h. rw add-one (done.lows q h ∙ ap (λ (x : ℕ). raised_by_both (at U c.loop-t.t-index).end U q x) (c.loop-t.invariant.0 q h)),
      below_more _ c.loop-t.t-index c.loop-t.invariant.1 (sym done.load),
    )

pub returns-clause-load : goal.returns-clause-load
returns-clause-load c =
    let U = c.args.tasks.now in
    sym (any_none (passes_end U) U (All-from_get_or _ U no_task (λ k h. c.loop-t.invariant.1 k (omega arith))))
