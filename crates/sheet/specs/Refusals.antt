-- The number of each refusal, and how it is printed.
use Rattle.std.specs.Prelude.{ℕ, List, ◌++◌, codes, decimal}
use Rattle.sheet.specs.declared.refusal.Refusal.{Refusal}
use Rattle.sheet.specs.declared.refusal.Refusal.TheVariants.{UnknownJob, SheetFull, UnknownStation, DurationOutOfRange, TimeOutOfRange, WindowTooShort, SelfLink, WaitTooLong, DuplicateLink, LinksFull, LooksOutOfRange, NotFound, MalformedWindows, BufferTooShort}

abbrev pub refusal_number : Refusal → ℕ
refusal_number UnknownJob = 1
refusal_number SheetFull = 2
refusal_number UnknownStation = 3
refusal_number DurationOutOfRange = 4
refusal_number TimeOutOfRange = 5
refusal_number WindowTooShort = 6
refusal_number SelfLink = 7
refusal_number WaitTooLong = 8
refusal_number DuplicateLink = 9
refusal_number LinksFull = 10
refusal_number LooksOutOfRange = 11
refusal_number NotFound = 12
refusal_number MalformedWindows = 13
refusal_number BufferTooShort = 14

abbrev pub refusal_text : Refusal → List ℕ
refusal_text r = codes "refused " ++ decimal (refusal_number r)
