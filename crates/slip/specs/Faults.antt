-- The number, the line and the inside of each fault.
use Rattle.std.specs.Prelude.{ℕ, ◌+◌, List, ◌∷◌, ◌++◌, codes, decimal}
use Rattle.sheet.specs.Limits.{most_jobs, most_links}
use Rattle.sheet.specs.Refusals.{refusal_number}
use Rattle.text.specs.Bytes.{space}
use Rattle.slip.specs.declared.fault.Fault.{Fault}
use Rattle.slip.specs.declared.fault.Fault.TheVariants.{TooLong, Unfinished, BadLetter, BadFields, UntrueTrailer, Refused}

abbrev pub fault_number : Fault → ℕ
fault_number TooLong = 20
fault_number (Unfinished n) = 21
fault_number (BadLetter n) = 22
fault_number (BadFields n) = 23
fault_number (UntrueTrailer n) = 24
fault_number (Refused n r) = 25

abbrev pub fault_line : Fault → ℕ
fault_line TooLong = 0
fault_line (Unfinished n) = n
fault_line (BadLetter n) = n
fault_line (BadFields n) = n
fault_line (UntrueTrailer n) = n
fault_line (Refused n r) = n

-- the sheet's refusal, or 0
abbrev pub fault_inside : Fault → ℕ
fault_inside TooLong = 0
fault_inside (Unfinished n) = 0
fault_inside (BadLetter n) = 0
fault_inside (BadFields n) = 0
fault_inside (UntrueTrailer n) = 0
fault_inside (Refused n r) = refusal_number r

-- as it is printed: its three numbers
abbrev pub fault_text : Fault → List ℕ
fault_text f = codes "fault " ++ (decimal (fault_number f) ++ (space ∷ (decimal (fault_line f) ++ (space ∷ decimal (fault_inside f)))))

-- the furthest line that a fault can have: those of a full sheet, the trailer, and one more
abbrev pub last_line : ℕ
last_line = most_jobs + most_links + 2
