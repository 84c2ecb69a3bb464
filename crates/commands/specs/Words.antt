-- The words that begin a line.
use Rattle.std.specs.Prelude.{ℕ, cond, List, [], ◌∷◌, Some, None, codes, Option}
use Rattle.std.specs.Str.{bytes_eq}
use Rattle.commands.specs.declared.word.Word.{Word}
use Rattle.commands.specs.declared.word.Word.TheVariants.{Enter, Link, Move, Close, Advance, Start, Reopen}

abbrev pub word_text : Word → List ℕ
word_text Enter = codes "enter"
word_text Link = codes "link"
word_text Move = codes "move"
word_text Close = codes "close"
word_text Advance = codes "advance"
word_text Start = codes "start"
word_text Reopen = codes "reopen"

abbrev pub word_among : List Word → List ℕ → Option Word
word_among [] bs = None
word_among (x ∷ xs) bs = cond (bytes_eq bs (word_text x)) (Some x) (word_among xs bs)

-- the word that the bytes are
abbrev pub word_of : List ℕ → Option Word
word_of bs = word_among (Enter ∷ (Link ∷ (Move ∷ (Close ∷ (Advance ∷ (Start ∷ (Reopen ∷ []))))))) bs

-- how many numbers follow the word
abbrev pub arity : Word → ℕ
arity Enter = 4
arity Link = 3
arity Move = 3
arity Close = 0
arity Advance = 1
arity Start = 1
arity Reopen = 0
