-- What planning a slip answers, and what that owes.
use Rattle.std.specs.Prelude.{◌≡◌, ℕ, ◌<◌, ◌≤◌, cond, ◌||◌, ◌⊎◌, List, [], length, Ok, Err, Result, ◌==◌, nat_lt}
use Rattle.sheet.specs.declared.records.Window.{Window}
use Rattle.sheet.specs.declared.refusal.Refusal.{Refusal}
use Rattle.sheet.specs.declared.refusal.Refusal.TheVariants.{LooksOutOfRange, BufferTooShort}
use Rattle.sheet.specs.Entries.{Entries}
use Rattle.sheet.specs.Sound.{Sound}
use Rattle.slip.specs.declared.fault.Fault.{Fault}
use Rattle.slip.specs.Reading.{read}
use Rattle.slip.specs.Texts.{SlipOf}
use Rattle.slip.specs.Faulty.{Faulty as FaultOf}
use Rattle.rule.specs.Cuts.{Cut}
use Rattle.search.specs.Looks.{State, opened, one_look, after_looks, looks_made}
use Rattle.search.specs.Promise.{Promise}
use Rattle.planner.specs.States.{entries_of, state_of}
use Rattle.planner.specs.Calls.{most_looks}
use Rattle.report.specs.declared.reported.Unplanned.{Unplanned}
use Rattle.report.specs.declared.reported.Unplanned.TheVariants.{Faulty, Refused}
use Rattle.report.specs.declared.reported.Report.{Report}

-- what a report tells: the sheet, where its search stands, and the looks made
pub data Told : Type 0 where
  unplanned : Unplanned → Told
  planned : Entries → State → ℕ → Told

abbrev pub told : {P : Type 0} → Result (Report P) Unplanned → Told
told (Ok r) = planned (entries_of r.search) (state_of r.search) r.looks
told (Err u) = unplanned u

-- a sheet planned by g looks, where there is room for so many starts
abbrev pub plan_sheet : (Entries → List Window → Cut) → ℕ → ℕ → Entries → Told
plan_sheet cut g room e =
    cond (g == 0 || nat_lt most_looks g) (unplanned (Refused LooksOutOfRange))
    (cond (nat_lt room (length e.jobs)) (unplanned (Refused BufferTooShort))
    (planned e (after_looks (one_look (cut e) e) g (opened [])) (looks_made (one_look (cut e) e) g (opened []))))

abbrev pub plan_read : (Entries → List Window → Cut) → ℕ → ℕ → Result Entries Fault → Told
plan_read cut g room (Ok e) = plan_sheet cut g room e
plan_read cut g room (Err f) = unplanned (Faulty f)

-- the slip is tested first, then the looks, then the room
abbrev pub plan_slip : (Entries → List Window → Cut) → List ℕ → ℕ → ℕ → Told
plan_slip cut bytes g room = plan_read cut g room (read bytes)

-- why a good slip is not planned: the looks are out of range, or else there is too little room
abbrev pub RefusedFor : Entries → ℕ → ℕ → Refusal → Type 0
RefusedFor e g room r =
    ((r ≡ LooksOutOfRange) × ((g ≡ 0) ⊎ (most_looks < g)))
    ⊎ ((r ≡ BufferTooShort) × (1 ≤ g) × (g ≤ most_looks) × (room < length e.jobs))

-- what planning the sheet e with a pile owes, whatever its rules
abbrev pub OwesSheet : (Entries → List ℕ → Type 0) → Entries → ℕ → ℕ → Told → Type 0
OwesSheet admits e g room (unplanned (Faulty f)) = ⊥
OwesSheet admits e g room (unplanned (Refused r)) = RefusedFor e g room r
OwesSheet admits e g room (planned d x m) = (d ≡ e) × Sound e × (length e.jobs ≤ room) × Promise (admits e) e g m x

-- and planning a slip
abbrev pub Owes : (Entries → List ℕ → Type 0) → List ℕ → ℕ → ℕ → Told → Type 0
Owes admits bytes g room (unplanned (Faulty f)) = FaultOf bytes f
Owes admits bytes g room (unplanned (Refused r)) = (e : Entries) × SlipOf bytes e × RefusedFor e g room r
Owes admits bytes g room (planned e x m) = SlipOf bytes e × Sound e × (length e.jobs ≤ room) × Promise (admits e) e g m x
