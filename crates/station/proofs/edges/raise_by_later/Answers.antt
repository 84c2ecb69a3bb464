-- What is left to show of `raise_by_later`.
use Rattle.std.proofs.Common.{◌+◌, length, max, ap, ◌∙◌, arith}
use Rattle.std.specs.Slice.Iter.{iter_rest}
use Rattle.station.specs.declared.task.Task.{Task}
use Rattle.station.specs.EdgesPasses.{ends_by}
use Rattle.station.specs.Members.{fit_at}
use Rattle.station.specs.Works.{work_most}
use Rattle.station.proofs.EdgesTurns.{later_held, later_raise, later_pass}
use Rattle.station.proofs.Passes.{front_turn}
use Rattle.station.proofs.edges.raise_by_later.Goals as goal

pub overflow_add-work : goal.overflow_add-work
overflow_add-work c =
    let d = c.loop-k.invariant in
    let s = c.in-Some.ensures.steps in
    let turn = front_turn d.0 s.0 s.1.0 s.1.1 in
    let t = fit_at c.args.tasks.now c.requires.formed c.in-Some.k (omega (arith, d.1.within, turn.2)) in
    omega (arith, d.1.work_is, t.short, ap (λ (t : Task). t.span) turn.3, work_most (ends_by c.args.bound) c.args.tasks.now (length (iter_rest c.loop-k.k-iterator.iter.iter)) c.requires.formed)

pub overflow_add-t : goal.overflow_add-t
overflow_add-t c =
    let d = c.loop-k.invariant in
    let s = c.in-Some.ensures.steps in
    let turn = front_turn d.0 s.0 s.1.0 s.1.1 in
    let t = fit_at c.args.tasks.now c.requires.formed c.in-Some.k (omega (arith, d.1.within, turn.2)) in
    omega (arith, d.1.work_is, t.short, t.room, t.ends, ap (λ (t : Task). t.lo) turn.3, ap (λ (t : Task). t.span) turn.3, work_most (ends_by c.args.bound) c.args.tasks.now (length (iter_rest c.loop-k.k-iterator.iter.iter)) c.requires.formed)

pub loop-k-preserved-then-t-bound : goal.loop-k-preserved-then-t-bound
loop-k-preserved-then-t-bound c =
    let d = c.loop-k.invariant in
    let s = c.in-Some.ensures.steps in
    let turn = front_turn d.0 s.0 s.1.0 s.1.1 in
    (turn.0, rw (turn.1, turn.3) (later_held _ _ _ _ _ _ _ c.in-Some.k d.1 turn.2 (omega (arith, ap (λ (t : Task). t.end) turn.3, c.if-t-bound.true)) _ (c.max-completion.ensures ∙ ap (λ (t : Task). max c.loop-k.completion (t.lo + (c.loop-k.work + t.span))) turn.3)))

pub overflow_add-t-else-t-bound-2 : goal.overflow_add-t-else-t-bound-2
overflow_add-t-else-t-bound-2 c =
    let d = c.loop-k.invariant in
    let s = c.in-Some.ensures.steps in
    let turn = front_turn d.0 s.0 s.1.0 s.1.1 in
    let t = fit_at c.args.tasks.now c.requires.formed c.in-Some.k (omega (arith, d.1.within, turn.2)) in
    omega (arith, d.1.work_is, t.room, t.ends, ap (λ (t : Task). t.lo) turn.3, ap (λ (t : Task). t.span) turn.3, work_most (ends_by c.args.bound) c.args.tasks.now (length (iter_rest c.loop-k.k-iterator.iter.iter)) c.requires.formed)

pub loop-k-preserved-then-t-work : goal.loop-k-preserved-then-t-work
loop-k-preserved-then-t-work c =
    let d = c.loop-k.invariant in
    let s = c.in-Some.ensures.steps in
    let turn = front_turn d.0 s.0 s.1.0 s.1.1 in
    (turn.0, rw turn.1 (later_raise _ _ _ _ _ _ _ c.in-Some.k d.1 turn.2 (omega (arith, ap (λ (t : Task). t.end) turn.3, c.if-t-bound.false)) (omega (arith, ap (λ (t : Task). t.lo) turn.3, ap (λ (t : Task). t.span) turn.3, c.if-t-work.true)) (omega (arith, c.loop-k.auto.lows, c.requires.len, d.1.within, turn.2)) _ c.max.ensures))

pub loop-k-preserved : goal.loop-k-preserved
loop-k-preserved c =
    let d = c.loop-k.invariant in
    let s = c.in-Some.ensures.steps in
    let turn = front_turn d.0 s.0 s.1.0 s.1.1 in
    (turn.0, rw turn.1 (later_pass _ _ _ _ _ _ _ c.in-Some.k d.1 turn.2 (omega (arith, ap (λ (t : Task). t.end) turn.3, c.if-t-bound.false)) (omega (arith, ap (λ (t : Task). t.lo) turn.3, ap (λ (t : Task). t.span) turn.3, c.if-t-work.false))))
