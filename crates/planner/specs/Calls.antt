-- What a search answers: the causes of refusal from the top, and where several apply the first speaks.
use Rattle.std.specs.Prelude.{◌≡◌, ℕ, cond, ◌||◌, List, Some, None, Ok, Err, Option, Result, ◌==◌, nat_le, nat_lt, slice_index}
use Rattle.sheet.specs.declared.refusal.Refusal.{Refusal}
use Rattle.sheet.specs.declared.refusal.Refusal.TheVariants.{UnknownJob, LooksOutOfRange, NotFound}
use Rattle.search.specs.declared.decision.Decision.{Decision}
use Rattle.search.specs.Outcomes.{outcome_number}
use Rattle.search.specs.Looks.{State, opened, found, impossible, outcome_of, after_looks, looks_made}

-- how many looks an advance may be granted
abbrev pub most_looks : ℕ
most_looks = 1000000

-- the number of the outcome and the looks made, where f is one look
abbrev pub advance_answer : (List Decision → State) → ℕ → State → Result (ℕ × ℕ) Refusal
advance_answer f g s =
    cond (g == 0 || nat_lt most_looks g) (Err LooksOutOfRange)
    (Ok (outcome_number (outcome_of (after_looks f g s)), looks_made f g s))

abbrev pub found_start : State → ℕ → Result ℕ Refusal
found_start (opened p) k = Err NotFound
found_start (found p t) k = Ok (slice_index t k)
found_start impossible k = Err NotFound

-- the start of job k in a search of n jobs
abbrev pub start_answer : ℕ → State → ℕ → Result ℕ Refusal
start_answer n s k = cond (nat_le n k) (Err UnknownJob) (found_start s k)

-- the timetable that a search has found
abbrev pub timetable_of : State → Option (List ℕ)
timetable_of (opened p) = None
timetable_of (found p t) = Some t
timetable_of impossible = None

-- where a call is refused, what it was called on is as it was
abbrev pub Untouched : {A X : Type 0} → Result A Refusal → X → X → Type 0
Untouched (Ok a) before after = Unit {0}
Untouched (Err w) before after = after ≡ before
