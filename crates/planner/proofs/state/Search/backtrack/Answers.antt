-- The path that is left grew from the entered windows; where none is left the search is impossible.
use Rattle.std.proofs.Common.{sym}
use Rattle.planner.specs.States.{path_in}
use Rattle.planner.proofs.Narrowed.{back_grown}
use Rattle.planner.proofs.Reading.{shut, shut_path, open_not_found, impossible_not_found, open_not_impossible}
use Rattle.planner.proofs.state.Search.backtrack.Goals as goal

pub invariant_of-self : goal.invariant_of-self
invariant_of-self g c =
    let s = c.args.self.now in
    record {
      grown = back_grown s _ c.backtrack.ensures.after;
      one_each = (λ t e. absurd (impossible_not_found t e));
      no_path = (λ e. shut_path (path_in s) _ c.if-not-backtrack.ensures.answer c.backtrack.ensures.after);
    }

pub invariant_of-self-else-not-backtrack : goal.invariant_of-self-else-not-backtrack
invariant_of-self-else-not-backtrack g c =
    let s = c.args.self.now in
    record {
      grown = back_grown s _ c.backtrack.ensures.after;
      one_each = (λ t e. absurd (open_not_found c.requires t e));
      no_path = (λ e. absurd (open_not_impossible c.requires e));
    }

pub returns-then-not-backtrack-clause-state : goal.returns-then-not-backtrack-clause-state
returns-then-not-backtrack-clause-state g c = sym (shut (path_in c.args.self.now) c.if-not-backtrack.ensures.answer)
