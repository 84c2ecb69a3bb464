-- The fields of a line: what follows its letter.
use Rattle.std.specs.Prelude.{ℕ, cond, List, [], ◌∷◌, None, Option, ◌==◌}
use Rattle.text.specs.Bytes.{space}
use Rattle.text.specs.Splitting.{split}
use Rattle.text.specs.Numbers.{number}
use Rattle.text.specs.Spaced.{numbers}
use Rattle.slip.specs.Format.{most_digits}

-- a space, and n numbers parted by one space
abbrev pub fields : ℕ → List ℕ → Option (List ℕ)
fields n [] = None
fields n (b ∷ bs) = cond (b == space) (numbers (number most_digits) n (split space bs)) None
