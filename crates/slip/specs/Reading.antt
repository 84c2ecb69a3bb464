-- A slip read line by line, in the order of its tests.
use Rattle.std.specs.Prelude.{ℕ, ◌+◌, Bool, true, false, cond, ◌&&◌, List, [], ◌∷◌, length, Some, None, Ok, Err, Option, Result, ◌==◌, nat_lt, slice_index}
use Rattle.sheet.specs.declared.records.Job.{Job}
use Rattle.sheet.specs.declared.records.Link.{Link}
use Rattle.sheet.specs.declared.refusal.Refusal.{Refusal}
use Rattle.sheet.specs.Entries.{Entries, no_entries, job_of, link_of}
use Rattle.text.specs.Bytes.{line_end}
use Rattle.text.specs.Splitting.{Parts, last, next, split}
use Rattle.slip.specs.declared.fault.Fault.{Fault}
use Rattle.slip.specs.declared.fault.Fault.TheVariants.{TooLong, Unfinished, BadLetter, BadFields, UntrueTrailer, Refused}
use Rattle.slip.specs.declared.kind.Kind.{Kind}
use Rattle.slip.specs.declared.kind.Kind.TheVariants.{JobLine, LinkLine, Trailer}
use Rattle.slip.specs.declared.kind.Stage.{Stage}
use Rattle.slip.specs.declared.kind.Stage.TheVariants.{Jobs, Links, Ended}
use Rattle.slip.specs.declared.line.Progress.{Progress}
use Rattle.slip.specs.Format.{longest_slip, letter_J, letter_L, letter_E}
use Rattle.slip.specs.Fields.{fields}
use Rattle.slip.specs.Adding.{then, add_job, add_link}

abbrev pub job_from : List ℕ → Job
job_from ns = job_of (slice_index ns 0) (slice_index ns 1) (slice_index ns 2) (slice_index ns 3)

abbrev pub link_from : List ℕ → Link
link_from ns = link_of (slice_index ns 0) (slice_index ns 1) (slice_index ns 2)

-- the byte place of the first link line, or else p
abbrev pub place_or : Stage → ℕ → ℕ
place_or Jobs p = p
place_or (Links q) p = q
place_or Ended p = p

abbrev pub has_link : Stage → Bool
has_link Jobs = false
has_link (Links q) = true
has_link Ended = false

abbrev pub has_ended : Stage → Bool
has_ended Jobs = false
has_ended (Links q) = false
has_ended Ended = true

abbrev pub start : Progress
start = record { line = 1; place = 0; stage = Jobs }

-- past a line that has n bytes between its letter and its end
abbrev pub past_job : Progress → ℕ → Progress
past_job at n = record { line = at.line + 1; place = at.place + n + 2; stage = at.stage }

abbrev pub past_link : Progress → ℕ → Progress
past_link at n = record { line = at.line + 1; place = at.place + n + 2; stage = Links (place_or at.stage at.place) }

abbrev pub past_trailer : Progress → ℕ → Progress
past_trailer at n = record { line = at.line + 1; place = at.place + n + 2; stage = Ended }

abbrev pub or_bad_fields : {A : Type 0} → ℕ → Option A → Result A Fault
or_bad_fields n (Some a) = Ok a
or_bad_fields n None = Err (BadFields n)

abbrev pub or_refused : ℕ → Result Entries Refusal → Result Entries Fault
or_refused n (Ok b) = Ok b
or_refused n (Err r) = Err (Refused n r)

-- line n, by what follows its letter
abbrev pub read_job : ℕ → Entries → List ℕ → Result Entries Fault
read_job n b fs = then (or_bad_fields n (fields 4 fs)) (λ ns. or_refused n (add_job b (job_from ns)))

abbrev pub read_link : ℕ → Entries → List ℕ → Result Entries Fault
read_link n b fs = then (or_bad_fields n (fields 3 fs)) (λ ns. or_refused n (add_link b (link_from ns)))

-- the counts of jobs and links, and the place
abbrev pub true_figures : Entries → ℕ → List ℕ → Bool
true_figures b p ns = slice_index ns 0 == length b.jobs && (slice_index ns 1 == length b.links && slice_index ns 2 == p)

abbrev pub read_trailer : ℕ → Entries → ℕ → List ℕ → Result Entries Fault
read_trailer n b p fs = then (or_bad_fields n (fields 3 fs)) (λ ns. cond (true_figures b p ns) (Ok b) (Err (UntrueTrailer n)))

-- which line a letter begins, after what was read before
abbrev pub kind_of : ℕ → Stage → Option Kind
kind_of c stage =
    cond (has_ended stage) None
    (cond (c == letter_J) (cond (has_link stage) None (Some JobLine))
    (cond (c == letter_L) (Some LinkLine)
    (cond (c == letter_E) (Some Trailer) None)))

abbrev pub read_kind : Progress → Entries → Option Kind → List ℕ → Result (Progress × Entries) Fault
read_kind at b (Some JobLine) fs = then (read_job at.line b fs) (λ c. Ok (past_job at (length fs), c))
read_kind at b (Some LinkLine) fs = then (read_link at.line b fs) (λ c. Ok (past_link at (length fs), c))
read_kind at b (Some Trailer) fs = then (read_trailer at.line b (place_or at.stage at.place) fs) (λ c. Ok (past_trailer at (length fs), c))
read_kind at b None fs = Err (BadLetter at.line)

-- one finished line
abbrev pub read_line : Progress → Entries → List ℕ → Result (Progress × Entries) Fault
read_line at b [] = Err (BadLetter at.line)
read_line at b (c ∷ fs) = read_kind at b (kind_of c at.stage) fs

-- the finished lines from the top, and what is told when they run out
abbrev pub read_lines : Progress → Entries → Parts → Result Entries Fault
read_lines at b (last left) = cond (has_ended at.stage && length left == 0) (Ok b) (Err (Unfinished at.line))
read_lines at b (next line ps) = then (read_line at b line) (λ s. read_lines s.0 s.1 ps)

-- any bytes
abbrev pub read : List ℕ → Result Entries Fault
read bytes = cond (nat_lt longest_slip (length bytes)) (Err TooLong) (read_lines start no_entries (split line_end bytes))

-- the reader's progress with what the sheet holds then
abbrev pub with_entries : Result Progress Fault → Entries → Result (Progress × Entries) Fault
with_entries (Ok at) b = Ok (at, b)
with_entries (Err f) b = Err f

-- what the sheet holds after a slip was read
abbrev pub left_entries : Result Entries Fault → Entries
left_entries (Ok b) = b
left_entries (Err f) = no_entries
