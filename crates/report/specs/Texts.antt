-- How it is printed why a slip was not planned.
use Rattle.std.specs.Prelude.{ℕ, List}
use Rattle.sheet.specs.Refusals.{refusal_text}
use Rattle.slip.specs.Faults.{fault_text}
use Rattle.report.specs.declared.reported.Unplanned.{Unplanned}
use Rattle.report.specs.declared.reported.Unplanned.TheVariants.{Faulty, Refused}

abbrev pub unplanned_text : Unplanned → List ℕ
unplanned_text (Faulty f) = fault_text f
unplanned_text (Refused r) = refusal_text r
