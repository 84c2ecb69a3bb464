-- The second rule is handed well-formed windows, by the laws of the first.
use Rattle.std.proofs.Common.{List, length, sym, ap, ◌∙◌}
use Rattle.sheet.specs.declared.records.Window.{Window}
use Rattle.sheet.specs.Sheets.{entries}
use Rattle.sheet.proofs.Soundness.{sheet_sound}
use Rattle.rule.specs.Windows.{formed}
use Rattle.rule.specs.Piling.{left_formed}
use Rattle.rule.proofs.both.BothRule.propagate.Goals as goal

pub propagate-requires-2 : goal.propagate-requires-2
propagate-requires-2 g c =
    let e = entries c.args.sheet.now in
    let r = c.args.self.now.0 in
    let ws = c.args.windows.now in
    ap (λ (vs : List Window). formed (length e.jobs) vs) c.propagate.ensures.after
    ∙ left_formed (g.met.A.Rule.lawful r e (sheet_sound c.args.sheet.now)) ws c.requires (sym c.in_ok-propagate.ensures.answer)
