-- The line that a buffer holds, where it is not too long.
use Rattle.std.specs.Prelude.{◌≡◌, ℕ, Bool, true, false, cond, List, [], ◌∷◌, ◌++◌, length, Some, None, Option, option_map, ◌==◌, ◌≢◌, nat_le}
use Rattle.text.specs.Bytes.{line_end}
use Rattle.calls.specs.declared.call.Call.{Call}
use Rattle.commands.specs.declared.buffer.LineBuffer.{LineBuffer}
use Rattle.commands.specs.Commands.{command}

-- in bytes
abbrev pub longest_line : ℕ
longest_line = 64

-- a line, or nothing of one that is too long
abbrev pub kept : List ℕ → Option (List ℕ)
kept line = cond (nat_le (length line) longest_line) (Some line) None

abbrev pub held : LineBuffer → Option (List ℕ)
held b = option_map (λ v. v.items) b.bytes

-- with one byte more
abbrev pub longer : Option (List ℕ) → ℕ → Option (List ℕ)
longer (Some line) b = kept (line ++ (b ∷ []))
longer None b = None

-- after a byte: the end of the line adds nothing to it
abbrev pub after_byte : Option (List ℕ) → ℕ → Option (List ℕ)
after_byte h b = cond (b == line_end) h (longer h b)

abbrev pub has_byte : Option (List ℕ) → Bool
has_byte (Some []) = false
has_byte (Some (b ∷ bs)) = true
has_byte None = true

-- a line that is too long is ill written
abbrev pub held_call : Option (List ℕ) → Option Call
held_call (Some line) = command line
held_call None = None

-- whichever line came in, the byte that comes next is its next
abbrev pub Grows : LineBuffer → ℕ → LineBuffer → Type 0
Grows before b after = (line : List ℕ) → (b ≢ line_end) → held before ≡ kept line → held after ≡ kept (line ++ (b ∷ []))

-- whichever line came in, kept or not, the answer is its call
abbrev pub ReadsAny : LineBuffer → Option Call → Type 0
ReadsAny b r = (line : List ℕ) → held b ≡ kept line → r ≡ command line
