-- An accepted advance keeps the promise, by the laws of the pile, and instalments compose.
use Rattle.sheet.proofs.Soundness.{sheet_sound}
use Rattle.search.proofs.Promised.{keeps_promise}
use Rattle.search.proofs.Rows.{composes}
use Rattle.planner.specs.States.{entries_of, state_of, look_in}
use Rattle.planner.proofs.state.Search.advance.Goals as goal

pub returns-then-looks-eq0-clause-instalments : goal.returns-then-looks-eq0-clause-instalments
returns-then-looks-eq0-clause-instalments g c = composes (look_in g.P.Rule.cut c.args.self.now)

pub returns-clause-promise : goal.returns-clause-promise
returns-clause-promise g c =
    let s = c.args.self.now in
    let e = c.make_looks-outcome.ensures in
    let sound = sheet_sound s.draft.sheet in
    keeps_promise (entries_of s) sound (g.met.P.Rule.lawful s.draft.pile.0 (entries_of s) sound) (state_of s) c.args.looks _ _ e.state e.made

pub returns-clause-instalments : goal.returns-clause-instalments
returns-clause-instalments g c = composes (look_in g.P.Rule.cut c.args.self.now)
