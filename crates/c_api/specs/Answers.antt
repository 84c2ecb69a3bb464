-- What the call answers, and what the buffer then has, by what planning the slip tells.
use Rattle.std.specs.Prelude.{List, ℕ, ◌+◌, ◌*◌, ◌≤◌, ◌<◌, length, slice_index}
use Rattle.sheet.specs.Refusals.{refusal_number}
use Rattle.slip.specs.declared.fault.Fault.{Fault}
use Rattle.slip.specs.Faults.{fault_number, fault_line, fault_inside, last_line}
use Rattle.search.specs.Outcomes.{outcome_number}
use Rattle.search.specs.Looks.{State, opened, found, impossible, outcome_of}
use Rattle.report.specs.declared.reported.Unplanned.{Unplanned}
use Rattle.report.specs.declared.reported.Unplanned.TheVariants.{Faulty, Refused}
use Rattle.report.specs.Planning.{Told, planned, unplanned}
use Rattle.c_api.specs.Buffers.{with_starts}

-- number, line and inside in one
abbrev pub fault_answer : Fault → ℕ
fault_answer f = fault_number f + 100 * fault_line f + 1000000 * fault_inside f

abbrev pub unplanned_answer : Unplanned → ℕ
unplanned_answer (Faulty f) = fault_answer f
unplanned_answer (Refused r) = refusal_number r

abbrev pub answer : Told → ℕ
answer (unplanned u) = unplanned_answer u
answer (planned e x m) = outcome_number (outcome_of x)

-- untouched, but for the starts of a timetable that was found
abbrev pub buffer_of_state : State → List ℕ → List ℕ
buffer_of_state (opened p) buffer = buffer
buffer_of_state (found p t) buffer = with_starts t buffer
buffer_of_state impossible buffer = buffer

abbrev pub buffer_after : Told → List ℕ → List ℕ
buffer_after (unplanned u) buffer = buffer
buffer_after (planned e x m) buffer = buffer_of_state x buffer

-- the starts of a timetable that was found fit into the buffer, and each into two bytes
abbrev pub Writable : State → List ℕ → Type 0
Writable (opened p) buffer = Unit {0}
Writable (found p t) buffer = (2 * length t ≤ length buffer) × ((k : ℕ) → k < length t → slice_index t k < 65536)
Writable impossible buffer = Unit {0}

-- a fault's line leaves room for the three figures in one number
abbrev pub Tellable : Unplanned → Type 0
Tellable (Faulty f) = fault_line f ≤ last_line
Tellable (Refused r) = Unit {0}
