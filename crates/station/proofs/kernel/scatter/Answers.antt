-- What is left to show of `scatter`.
use Rattle.std.proofs.Common.{length, ap, rules, arith}
use Rattle.std.proofs.lemmas.List.{length_push}
use Rattle.std.proofs.lemmas.Slice.Zip.{zip_turn}
use Rattle.station.specs.declared.task.Task.{Task}
use Rattle.station.specs.Tasks.{no_task}
use Rattle.station.proofs.Scattering.{scattered_more}
use Rattle.station.proofs.kernel.scatter.Goals as goal

pub loop-t-preserved : goal.loop-t-preserved
loop-t-preserved c =
    let turn = zip_turn c.args.tasks.now c.args.values.now c.loop-t.yielded c.into_iter-t-iterator.result c.loop-t.t-iterator c.next.new.self _ (search rules) (search rules) c.loop-t.yielded_by _ c.in-Some.is c.next.ensures.steps in
    scattered_more c.args.tasks.now c.args.values.now c.args.out.now c.loop-t.out (length c.loop-t.yielded) c.requires.formed turn.0 c.loop-t.invariant
    _ (turn.2 no_task) _ (turn.3 0)
    (omega (arith, c.requires.numbered (length c.loop-t.yielded) no_task turn.0, ap (λ (t : Task). t.job) (turn.2 no_task), c.loop-t.auto.out)) _ (length_push c.loop-t.yielded _)
