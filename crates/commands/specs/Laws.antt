-- The text of a call, and what reading a line answers, both ways.
use Rattle.std.specs.Prelude.{◌≡◌, ℕ, ◌^◌, List, [], ◌∷◌, ◌++◌, Some, None, Option}
use Rattle.text.specs.Spaced.{spaced, AllBelow}
use Rattle.calls.specs.declared.call.Call.{Call}
use Rattle.calls.specs.declared.call.Call.TheVariants as call
use Rattle.commands.specs.declared.word.Word.{Word}
use Rattle.commands.specs.declared.word.Word.TheVariants.{Enter, Link, Move, Close, Advance, Start, Reopen}
use Rattle.commands.specs.Words.{word_text}

abbrev pub call_word : Call → Word
call_word (call.Enter s p r d) = Enter
call_word (call.Link a b w) = Link
call_word (call.Move k r d) = Move
call_word call.Close = Close
call_word (call.Advance n) = Advance
call_word (call.Start k) = Start
call_word call.Reopen = Reopen

abbrev pub call_numbers : Call → List ℕ
call_numbers (call.Enter s p r d) = s ∷ (p ∷ (r ∷ (d ∷ [])))
call_numbers (call.Link a b w) = a ∷ (b ∷ (w ∷ []))
call_numbers (call.Move k r d) = k ∷ (r ∷ (d ∷ []))
call_numbers call.Close = []
call_numbers (call.Advance n) = n ∷ []
call_numbers (call.Start k) = k ∷ []
call_numbers call.Reopen = []

-- the word, and each number in decimal after a space
abbrev pub text_of : Call → List ℕ
text_of c = word_text (call_word c) ++ spaced (call_numbers c)

-- the line is the text of the call, whose numbers fit 32 bits
abbrev pub Writes : List ℕ → Call → Type 0
Writes line c = (line ≡ text_of c) × AllBelow (2 ^ 32) (call_numbers c)

-- of the line and the answer
pub record CommandLaw (line : List ℕ) (r : Option Call) : Type 0 where
  pub only_its_text : (c : Call) → r ≡ Some c → Writes line c
  pub its_text : (c : Call) → Writes line c → r ≡ Some c
  pub none_only_of_no_call : r ≡ None → (c : Call) → Writes line c → ⊥
  pub none_of_no_call : ((c : Call) → Writes line c → ⊥) → r ≡ None
