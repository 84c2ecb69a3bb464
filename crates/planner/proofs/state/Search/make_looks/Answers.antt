-- One look fewer is left after each turn, and a settled search has none to make.
use Rattle.std.proofs.Common.{◌≡◌, suc, ◌+◌, ◌-◌, List, sym, ap, ◌∙◌, arith}
use Rattle.search.specs.declared.decision.Decision.{Decision}
use Rattle.search.specs.declared.outcome.Outcome.TheVariants as outcome
use Rattle.search.specs.Looks.{State, outcome_of, after_looks, looks_made}
use Rattle.planner.specs.declared.state.Standing.TheVariants.{Open}
use Rattle.planner.specs.States.{path_in, state_of, look_in}
use Rattle.planner.proofs.Reading.{standing_open, open_after, open_made, settled_after, settled_made, look_same}
use Rattle.planner.proofs.state.Search.make_looks.Goals as goal

pub loop-settled-preserved : goal.loop-settled-preserved
loop-settled-preserved g c =
    let s = c.loop-settled.self in
    let i = c.loop-settled.invariant in
    let F : List Decision → State = look_in g.P.Rule.cut c.args.self.now in
    let j = c.args.looks - (c.loop-settled.made + 1) in
    let k : c.args.looks - c.loop-settled.made ≡ suc j = omega arith in
    let o : s.standing ≡ Open = standing_open s.standing (path_in s) (sym c.outcome.ensures ∙ c.in-Open.is) in
    let y : state_of c.look.new.self ≡ F (path_in s) = c.look.ensures.state ∙ look_same g.P.Rule.cut s.draft c.args.self.now.draft (path_in s) i.draft in
    let m = open_made F s.standing (path_in s) (c.args.looks - c.loop-settled.made) j o k in
    let q : looks_made F j (state_of c.look.new.self) ≡ looks_made F j (F (path_in s)) = ap (looks_made F j) y in
    record {
      draft = c.look.ensures.draft ∙ i.draft;
      granted = omega arith;
      after = ap (after_looks F j) y ∙ sym (open_after F s.standing (path_in s) (c.args.looks - c.loop-settled.made) j o k) ∙ i.after;
      made = omega (arith, q, m, i.made);
    }

pub returns-in_default : goal.returns-in_default
returns-in_default g c =
    let s = c.loop-settled.self in
    let i = c.loop-settled.invariant in
    let F : List Decision → State = look_in g.P.Rule.cut c.args.self.now in
    let k = c.args.looks - c.loop-settled.made in
    let shut : outcome_of (state_of s) ≡ outcome.Open → ⊥ = λ q. c.in_default.not-Open (c.outcome.ensures ∙ q) in
    record {
      outcome = c.outcome.ensures;
      made = omega (arith, settled_made F s.standing (path_in s) k shut, i.made);
      state = sym (settled_after F s.standing (path_in s) k shut) ∙ i.after;
      draft = i.draft;
    }
