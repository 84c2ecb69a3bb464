-- What is left to show of `gather`.
use Rattle.std.proofs.Common.{length, ap, sym, subst, ◌∙◌, arith}
use Rattle.std.proofs.lemmas.List.{length-map}
use Rattle.rule.specs.Forming.{formed_fact}
use Rattle.station.specs.Tasks.{Fit}
use Rattle.disjunctive.specs.Gathered.{gathered_short, task_fit}
use Rattle.disjunctive.proofs.Gathering.{made_is, next_below, next_there, next_elsewhere}
use Rattle.disjunctive.proofs.board.Board.gather.Goals as goal

pub push-requires : goal.push-requires
push-requires c =
    let b = c.args.self.now in
    let f = formed_fact b.windows.now b.formed in
    let i = c.loop-number.invariant in
    let s = c.in-Some.ensures.steps in
    omega (arith, b.few, f.count, next_below i s.0 s.1 s.2, ap length i.forth, gathered_short b.jobs.now b.windows.now c.args.station c.loop-number.number-iterator.count)

pub mirrored-requires : goal.mirrored-requires
mirrored-requires c =
    let b = c.args.self.now in
    let i = c.loop-number.invariant in
    let s = c.in-Some.ensures.steps in
    subst Fit (sym (made_is i s.0 s.1 s.2)) (task_fit b.jobs.now b.windows.now b.entered b.few (formed_fact b.windows.now b.formed) c.args.station c.loop-number.number-iterator.count (next_below i s.0 s.1 s.2))

pub push-requires-then-job-station : goal.push-requires-then-job-station
push-requires-then-job-station c =
    let b = c.args.self.now in
    let f = formed_fact b.windows.now b.formed in
    let i = c.loop-number.invariant in
    let s = c.in-Some.ensures.steps in
    omega (arith, b.few, f.count, next_below i s.0 s.1 s.2, ap length i.back ∙ length-map _ _, gathered_short b.jobs.now b.windows.now c.args.station c.loop-number.number-iterator.count)

pub loop-number-preserved-then-job-station : goal.loop-number-preserved-then-job-station
loop-number-preserved-then-job-station c =
    let s = c.in-Some.ensures.steps in
    next_there c.loop-number.invariant s.0 s.1 s.2 (omega (arith, c.if-job-station.true)) c.push.ensures.items c.mirrored.ensures c.push-then-job-station.ensures.items

pub loop-number-preserved : goal.loop-number-preserved
loop-number-preserved c =
    let s = c.in-Some.ensures.steps in
    next_elsewhere c.loop-number.invariant s.0 s.1 s.2 (λ e. omega (arith, c.if-job-station.false))
