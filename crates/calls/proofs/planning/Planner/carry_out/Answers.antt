-- The promise of every list of calls, from what one call answers and leads to, by the laws of the pile.
use Rattle.calls.specs.Planners.{stage_of, pile_of}
use Rattle.calls.proofs.Keeping.{carries_on}
use Rattle.calls.proofs.planning.Planner.carry_out.Goals as goal

pub returns : goal.returns
returns g c =
    let p = pile_of c.args.self in
    let told = c.step.ensures in
    record {
      answer = told.answer;
      stage = told.stage;
      pile = told.pile;
      promise = carries_on (g.P.Rule.admits p) (g.P.Rule.cut p) (g.met.P.Rule.lawful p) (stage_of c.args.self) (stage_of c.step.result.0) c.args.call c.step.result.1 told.answer told.stage;
    }
