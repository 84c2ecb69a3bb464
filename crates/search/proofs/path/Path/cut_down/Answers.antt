-- Each decision splits what those before it leave, so its job is there and its middle is below its last start.
use Rattle.std.proofs.Common.{take, rules}
use Rattle.search.proofs.Halving.{middle_below}
use Rattle.search.proofs.Placing.{place, walked, job_there, cut_more}
use Rattle.search.proofs.path.Path.cut_down.Goals as goal

pub chosen-requires : goal.chosen-requires
chosen-requires c =
    let p = c.args.self.now in
    let ps = take p.depth p.places in
    middle_below _ (place ps c.loop-decision.decision-index) (walked c.args.windows.now ps c.loop-decision.decision-index c.loop-decision-test.true c.requires)

pub offset_bounds-windows-decision : goal.offset_bounds-windows-decision
offset_bounds-windows-decision c =
    let p = c.args.self.now in
    let h = job_there c.args.windows.now c.loop-decision.windows (take p.depth p.places) c.loop-decision.decision-index c.loop-decision-test.true c.requires c.loop-decision.invariant in
    search rules

pub bounds-windows-decision : goal.bounds-windows-decision
bounds-windows-decision c =
    let p = c.args.self.now in
    job_there c.args.windows.now c.loop-decision.windows (take p.depth p.places) c.loop-decision.decision-index c.loop-decision-test.true c.requires c.loop-decision.invariant

pub loop-decision-preserved : goal.loop-decision-preserved
loop-decision-preserved c =
    let p = c.args.self.now in
    cut_more c.args.windows.now _ (take p.depth p.places) c.loop-decision.decision-index _ c.loop-decision-test.true c.loop-decision.invariant c.chosen.ensures
