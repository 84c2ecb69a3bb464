-- The looks that are left from here come to what all of them come to from the search as it was.
use Rattle.std.proofs.Common.{◌≡◌, ◌+◌, ◌-◌, ◌≤◌}
use Rattle.search.specs.Looks.{after_looks, looks_made}
use Rattle.planner.specs.States.{state_of, look_in}
use Rattle.planner.proofs.state.Search.make_looks.Given as goal

abbrev pub invariant-loop-settled : goal.invariant-loop-settled
invariant-loop-settled g l =
    let F = look_in g.P.Rule.cut l.initial.self in
    record {
      draft : l.self.draft ≡ l.initial.self.draft;
      granted : l.made ≤ l.looks;
      after : after_looks F (l.looks - l.made) (state_of l.self) ≡ after_looks F l.looks (state_of l.initial.self);
      made : l.made + looks_made F (l.looks - l.made) (state_of l.self) ≡ looks_made F l.looks (state_of l.initial.self);
    }

abbrev pub decreases-loop-settled : goal.decreases-loop-settled
decreases-loop-settled g l = l.looks - l.made
