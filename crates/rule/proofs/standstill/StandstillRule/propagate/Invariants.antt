-- Repeating from here comes to what repeating from the windows as handed comes to.
use Rattle.std.proofs.Common.{◌≡◌, true, length}
use Rattle.sheet.specs.Sheets.{entries}
use Rattle.rule.specs.Windows.{formed}
use Rattle.rule.specs.Cuts.{repeated, width}
use Rattle.rule.proofs.standstill.StandstillRule.propagate.Given as goal

abbrev pub invariant-loop-windows : goal.invariant-loop-windows
invariant-loop-windows g l =
    (formed (length (entries l.sheet).jobs) l.windows ≡ true)
    × (repeated (g.A.Rule.cut l.self.0 (entries l.sheet)) l.windows ≡ repeated (g.A.Rule.cut l.self.0 (entries l.sheet)) l.initial.windows)

abbrev pub decreases-loop-windows : goal.decreases-loop-windows
decreases-loop-windows g l = width l.windows
