-- What one round of a rule comes to.
use Rattle.std.specs.Prelude.{Bool, not, List, Ok, Err, Result}
use Rattle.sheet.specs.declared.records.Window.{Window}
use Rattle.rule.specs.declared.verdict.Dead.{Dead}
use Rattle.rule.specs.Windows.{same}
use Rattle.rule.specs.Cuts.{Cut, dead, live}

-- whether it changes something, or that the rule is dead
abbrev pub round_of : Cut → List Window → Result Bool Dead
round_of dead ws = Err (record {})
round_of (live vs) ws = Ok (not (same vs ws))
