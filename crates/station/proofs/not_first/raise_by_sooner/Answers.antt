-- What is left to show of `raise_by_sooner`.
use Rattle.std.proofs.Common.{◌≡◌, ◌+◌, ◌-◌, length, min, refl, ap, ◌∙◌, arith}
use Rattle.std.specs.Slice.Iter.{iter_rest}
use Rattle.station.specs.declared.task.Task.{Task}
use Rattle.station.specs.Limits.{most_work}
use Rattle.station.specs.Tasks.{at}
use Rattle.station.specs.NotFirstPasses.{complete_from}
use Rattle.station.specs.Members.{fit_at}
use Rattle.station.specs.Works.{work_most}
use Rattle.station.proofs.Passes.{front_turn, pass_as}
use Rattle.station.proofs.NotFirstTurns.{sooner_raise, sooner_keep, sooner_pass}
use Rattle.station.proofs.not_first.raise_by_sooner.Goals as goal
use Rattle.station.proofs.not_first.raise_by_sooner.Goals.{then-slack-complete, else-slack-complete}

pub loop-k-preserved : goal.loop-k-preserved
loop-k-preserved c =
    let d = c.loop-k.invariant in
    let s = c.in-Some.ensures.steps in
    let turn = front_turn d.0 s.0 s.1.0 s.1.1 in
    (turn.0, rw turn.1 (sooner_pass _ _ _ _ _ _ _ c.in-Some.k d.1 turn.2 (omega (arith, ap (λ (t : Task). t.lo) turn.3, ap (λ (t : Task). t.span) turn.3, c.if-complete-ready.false))))

pub overflow_add-work : goal.overflow_add-work
overflow_add-work c =
    let d = c.loop-k.invariant in
    let s = c.in-Some.ensures.steps in
    let turn = front_turn d.0 s.0 s.1.0 s.1.1 in
    let t = fit_at c.args.tasks.now c.requires.formed c.in-Some.k (omega (arith, d.1.within, turn.2)) in
    omega (arith, d.1.work_is, t.short, ap (λ (t : Task). t.span) turn.3, work_most (complete_from c.args.ready) c.args.tasks.now (length (iter_rest c.loop-k.k-iterator.iter.iter)) c.requires.formed)

pub overflow_sub-t : goal.overflow_sub-t
overflow_sub-t c =
    let d = c.loop-k.invariant in
    let s = c.in-Some.ensures.steps in
    let turn = front_turn d.0 s.0 s.1.0 s.1.1 in
    let t = fit_at c.args.tasks.now c.requires.formed c.in-Some.k (omega (arith, d.1.within, turn.2)) in
    omega (arith, d.1.work_is, t.room, ap (λ (t : Task). t.end) turn.3, ap (λ (t : Task). t.span) turn.3, work_most (complete_from c.args.ready) c.args.tasks.now (length (iter_rest c.loop-k.k-iterator.iter.iter)) c.requires.formed)

pub loop-k-preserved-then-complete-ready : goal.loop-k-preserved-then-complete-ready
loop-k-preserved-then-complete-ready c =
    let d = c.loop-k.invariant in
    let s = c.in-Some.ensures.steps in
    let turn = front_turn d.0 s.0 s.1.0 s.1.1 in
    let U = c.args.tasks.now in
    let j = c.in-Some.k in
    let r : c.min-slack.result ≡ min c.loop-k.slack ((at U j).end + most_work - (c.loop-k.work + (at U j).span)) = c.min-slack.ensures ∙ ap (λ (t : Task). min c.loop-k.slack (t.end + most_work - (c.loop-k.work + t.span))) turn.3 in (
      turn.0,
      rw (turn.1, turn.3) (elim c.if-slack-complete.branch [
        | then-slack-complete w ↦ pass_as _ _ _ _ _ _ _ _ _ _ _ _ (sooner_raise _ _ _ _ _ _ _ j d.1 turn.2 (omega (arith, ap (λ (t : Task). t.lo) turn.3, ap (λ (t : Task). t.span) turn.3, c.if-complete-ready.true)) _ r (omega (arith, ap (λ (t : Task). t.lo) turn.3, ap (λ (t : Task). t.span) turn.3, w.if-slack-complete.true)) (omega (arith, c.loop-k.auto.lows, c.requires.len, d.1.within, turn.2)) _ w.max.ensures) w.lows-is refl refl
        | else-slack-complete w ↦ pass_as _ _ _ _ _ _ _ _ _ _ _ _ (sooner_keep _ _ _ _ _ _ _ j d.1 turn.2 (omega (arith, ap (λ (t : Task). t.lo) turn.3, ap (λ (t : Task). t.span) turn.3, c.if-complete-ready.true)) _ r (omega (arith, ap (λ (t : Task). t.lo) turn.3, ap (λ (t : Task). t.span) turn.3, w.if-slack-complete.false))) w.lows-is refl refl
      ]),
    )
