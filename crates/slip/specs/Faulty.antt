-- What each fault means, in the words of the slip.
use Rattle.std.specs.Prelude.{◌≡◌, ℕ, ◌+◌, ◌<◌, ◌≤◌, ◌⊎◌, List, [], ◌∷◌, ◌++◌, length, Err, ◌≢◌}
use Rattle.sheet.specs.declared.records.Job.{Job}
use Rattle.sheet.specs.declared.records.Link.{Link}
use Rattle.sheet.specs.declared.refusal.Refusal.{Refusal}
use Rattle.sheet.specs.Entries.{Entries}
use Rattle.sheet.specs.Entering.{enter_answer, link_answer}
use Rattle.text.specs.Bytes.{line_end}
use Rattle.text.specs.Splitting.{Without}
use Rattle.text.specs.Spaced.{spaced, AllBelow}
use Rattle.slip.specs.declared.fault.Fault.{Fault}
use Rattle.slip.specs.declared.fault.Fault.TheVariants.{TooLong, Unfinished, BadLetter, BadFields, UntrueTrailer, Refused}
use Rattle.slip.specs.Format.{longest_slip, letter_J, letter_L, letter_E}
use Rattle.slip.specs.Adding.{Enterable}
use Rattle.slip.specs.Texts.{job_fields, link_fields, jobs_text, links_text, trailer_fields, text}

-- the job lines and link lines, and how many they are
abbrev pub lines_text : Entries → List ℕ
lines_text b = jobs_text b ++ links_text b

abbrev pub line_count : Entries → ℕ
line_count b = length b.jobs + length b.links

-- at most five digits each
abbrev pub FiveDigits : List ℕ → Type 0
FiveDigits ns = AllBelow 100000 ns

-- these are not n numbers as they are written
abbrev pub IllWritten : ℕ → List ℕ → Type 0
IllWritten n fs = (ns : List ℕ) → length ns ≡ n → FiveDigits ns → fs ≢ spaced ns

-- a line that comes after the lines of b, before any trailer: it is empty, its letter is none of the three, or it is a J after an L
abbrev pub HasBadLetter : Entries → List ℕ → Type 0
HasBadLetter b [] = Unit {0}
HasBadLetter b (c ∷ fs) = (c ≡ letter_J → b.links ≢ []) × (c ≢ letter_L) × (c ≢ letter_E)

-- fields missing, surplus or ill written
abbrev pub HasBadFields : Entries → List ℕ → Type 0
HasBadFields b [] = ⊥
HasBadFields b (c ∷ fs) = ((c ≡ letter_J) × (b.links ≡ []) × IllWritten 4 fs) ⊎ (((c ≡ letter_L) ⊎ (c ≡ letter_E)) × IllWritten 3 fs)

-- a well written trailer with other figures than the true ones
abbrev pub IsUntrue : Entries → List ℕ → Type 0
IsUntrue b line = (ns : List ℕ) × (length ns ≡ 3) × FiveDigits ns × (line ≡ letter_E ∷ spaced ns) × (ns ≢ trailer_fields b)

-- a well written job or link that the sheet with b refuses
abbrev pub JobIsRefused : Entries → List ℕ → Refusal → Type 0
JobIsRefused b line r = (j : Job) × (line ≡ letter_J ∷ spaced (job_fields j)) × FiveDigits (job_fields j) × (b.links ≡ []) × (enter_answer b j ≡ Err r)

abbrev pub LinkIsRefused : Entries → List ℕ → Refusal → Type 0
LinkIsRefused b line r = (l : Link) × (line ≡ letter_L ∷ spaced (link_fields l)) × FiveDigits (link_fields l) × (link_answer b l ≡ Err r)

-- the line after those of b, line n, has the fault
abbrev pub LineHas : Entries → List ℕ → ℕ → Fault → Type 0
LineHas b line n TooLong = ⊥
LineHas b line n (Unfinished m) = ⊥
LineHas b line n (BadLetter m) = (m ≡ n) × HasBadLetter b line
LineHas b line n (BadFields m) = (m ≡ n) × HasBadFields b line
LineHas b line n (UntrueTrailer m) = (m ≡ n) × IsUntrue b line
LineHas b line n (Refused m r) = (m ≡ n) × (JobIsRefused b line r ⊎ LinkIsRefused b line r)

-- after good lines: the finished lines run out and no trailer was met; a line is at fault; bytes are left over after the trailer; a line comes after it
abbrev pub RunsOut : List ℕ → Entries → Fault → Type 0
RunsOut bytes b f = (left : List ℕ) × (bytes ≡ lines_text b ++ left) × Without line_end left × (f ≡ Unfinished (line_count b + 1))

abbrev pub LineAtFault : List ℕ → Entries → Fault → Type 0
LineAtFault bytes b f = (line : List ℕ) × (rest : List ℕ) × (bytes ≡ lines_text b ++ (line ++ (line_end ∷ rest))) × Without line_end line × LineHas b line (line_count b + 1) f

abbrev pub BytesLeftOver : List ℕ → Entries → Fault → Type 0
BytesLeftOver bytes b f = (left : List ℕ) × (bytes ≡ text b ++ left) × (left ≢ []) × Without line_end left × (f ≡ Unfinished (line_count b + 2))

abbrev pub LineAfterTrailer : List ℕ → Entries → Fault → Type 0
LineAfterTrailer bytes b f = (line : List ℕ) × (rest : List ℕ) × (bytes ≡ text b ++ (line ++ (line_end ∷ rest))) × Without line_end line × (f ≡ BadLetter (line_count b + 2))

-- the first fault from the top, after the lines of what an empty sheet takes
abbrev pub FirstFault : List ℕ → Fault → Type 0
FirstFault bytes f = (b : Entries) × Enterable b × (RunsOut bytes b f ⊎ (LineAtFault bytes b f ⊎ (BytesLeftOver bytes b f ⊎ LineAfterTrailer bytes b f)))

abbrev pub Faulty : List ℕ → Fault → Type 0
Faulty bytes f = ((longest_slip < length bytes) × (f ≡ TooLong)) ⊎ ((length bytes ≤ longest_slip) × FirstFault bytes f)
