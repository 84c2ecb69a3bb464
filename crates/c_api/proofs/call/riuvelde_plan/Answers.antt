-- What the hall's words say is enough to write the starts and to tell a fault in one number.
use Rattle.planner.specs.States.{entries_of, state_of}
use Rattle.c_api.proofs.Fitting.{writable, tellable}
use Rattle.c_api.proofs.call.riuvelde_plan.Goals as goal

pub report_answer-requires : goal.report_answer-requires
report_answer-requires c =
    let r = c.in-Ok.report in
    writable c.args.slip.now c.args.buffer.now c.args.looks r.looks (entries_of r.search) (state_of r.search) c.in-Ok.ensures.hall

pub unplanned_answer-requires : goal.unplanned_answer-requires
unplanned_answer-requires c = tellable c.args.slip.now c.args.looks _ c.in-Err.unplanned c.in-Err.ensures.hall
