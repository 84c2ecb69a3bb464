-- After a round that narrowed something, what is left is narrower and comes to the same.
use Rattle.std.proofs.Common.{Ok, length, sym, ap, ◌∙◌}
use Rattle.sheet.specs.Sheets.{entries}
use Rattle.sheet.proofs.Soundness.{sheet_sound}
use Rattle.rule.specs.Repeating.{Round, narrowing_round}
use Rattle.rule.proofs.standstill.StandstillRule.propagate.Given as given
use Rattle.rule.proofs.standstill.StandstillRule.propagate.Goals as goal

one_round : (g : given.Over) (c : goal.In-Ok-true g) → Round (g.A.Rule.cut c.args.self.now.0 (entries c.args.sheet.now)) (length (entries c.args.sheet.now).jobs) (g.met.A.Rule.lawful c.args.self.now.0 (entries c.args.sheet.now) (sheet_sound c.args.sheet.now)).contracting c.loop-windows.windows c.go_round.new.windows
one_round g c =
    let e = entries c.args.sheet.now in
    narrowing_round (g.A.Rule.cut c.args.self.now.0 e) (length e.jobs) (g.met.A.Rule.lawful c.args.self.now.0 e (sheet_sound c.args.sheet.now)).contracting
    c.loop-windows.windows c.go_round.new.windows c.loop-windows.invariant.0 (sym c.in-Ok-true.ensures.answer ∙ ap Ok c.in-Ok-true.field-0-test) c.go_round.ensures.after

pub loop-windows-smaller : goal.loop-windows-smaller
loop-windows-smaller g c = (one_round g c).narrower

pub loop-windows-preserved : goal.loop-windows-preserved
loop-windows-preserved g c = ((one_round g c).well_formed, (one_round g c).goes_on ∙ c.loop-windows.invariant.1)
