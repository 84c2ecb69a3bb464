-- A line read as a call: its word, and its numbers, parted by one space.
use Rattle.std.specs.Prelude.{ℕ, cond, List, [], Some, None, Option, ◌==◌, slice_index}
use Rattle.text.specs.Bytes.{space}
use Rattle.text.specs.Splitting.{Parts, last, next, split}
use Rattle.text.specs.Numbers.{number_32}
use Rattle.text.specs.Spaced.{numbers}
use Rattle.calls.specs.declared.call.Call.{Call}
use Rattle.calls.specs.declared.call.Call.TheVariants as call
use Rattle.commands.specs.declared.word.Word.{Word}
use Rattle.commands.specs.declared.word.Word.TheVariants.{Enter, Link, Move, Close, Advance, Start, Reopen}
use Rattle.commands.specs.Words.{word_of, arity}

-- how many digits a number has
abbrev pub most_digits : ℕ
most_digits = 10

-- the call of a word, by its numbers
abbrev pub call_from : Word → List ℕ → Call
call_from Enter ns = call.Enter (slice_index ns 0) (slice_index ns 1) (slice_index ns 2) (slice_index ns 3)
call_from Link ns = call.Link (slice_index ns 0) (slice_index ns 1) (slice_index ns 2)
call_from Move ns = call.Move (slice_index ns 0) (slice_index ns 1) (slice_index ns 2)
call_from Close ns = call.Close
call_from Advance ns = call.Advance (slice_index ns 0)
call_from Start ns = call.Start (slice_index ns 0)
call_from Reopen ns = call.Reopen

abbrev pub call_with : Word → Option (List ℕ) → Option Call
call_with x (Some ns) = Some (call_from x ns)
call_with x None = None

-- the word's numbers, no more and no fewer
abbrev pub with_numbers : Word → Parts → Option Call
with_numbers x ps = call_with x (numbers (number_32 most_digits) (arity x) ps)

-- with nothing after the word
abbrev pub bare : Word → Option Call
bare x = cond (arity x == 0) (Some (call_from x [])) None

abbrev pub if_word : Option Word → (Word → Option Call) → Option Call
if_word (Some x) f = f x
if_word None f = None

abbrev pub by_parts : Parts → Option Call
by_parts (last w) = if_word (word_of w) bare
by_parts (next w ps) = if_word (word_of w) (λ x. with_numbers x ps)

-- the call that the line writes, if it is well written
abbrev pub command : List ℕ → Option Call
command line = by_parts (split space line)
