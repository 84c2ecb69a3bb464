-- What is left to show of `raise_by_earlier`.
use Rattle.std.proofs.Common.{arith}
use Rattle.station.specs.EdgesPasses.{ends_by}
use Rattle.station.specs.Members.{fit_at}
use Rattle.station.specs.Works.{work_most}
use Rattle.station.proofs.EdgesTurns.{before_most}
use Rattle.station.proofs.edges.raise_by_earlier.Goals as goal

pub overflow_add-t : goal.overflow_add-t
overflow_add-t c =
    let t = fit_at c.args.tasks.now c.requires.formed c.loop-k.k c.loop-k-test.true in
    omega (arith, c.loop-k.invariant.rest, t.room, t.ends, work_most (ends_by c.args.bound) c.args.tasks.now c.loop-k.k c.requires.formed)

pub overflow_add-peak : goal.overflow_add-peak
overflow_add-peak c =
    let t = fit_at c.args.tasks.now c.requires.formed c.loop-k.k c.loop-k-test.true in
    omega (arith, c.loop-k.invariant.peak, t.short, before_most c.args.bound c.args.tasks.now c.loop-k.k c.requires.formed (omega (arith, c.loop-k-test.true)))
