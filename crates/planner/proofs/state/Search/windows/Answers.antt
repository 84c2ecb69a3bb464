-- The windows of the path are well formed.
use Rattle.std.proofs.Common.{length, ap, ◌∙◌, rules}
use Rattle.arrayvec.proofs.ArrayVecLemmas.{items-with_items}
use Rattle.planner.proofs.Narrowed.{set_formed}
use Rattle.planner.proofs.state.Search.windows.Goals as goal

pub returns-clause-formed : goal.returns-clause-formed
returns-clause-formed g c =
    set_formed c.args.self.now _
    (items-with_items c.entered_windows-windows.result _ (c.cut_down.auto.windows ∙ ap length c.as_mut_slice.ensures.value) ∙ search rules)
