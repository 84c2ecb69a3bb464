-- Bytes split at a separator.
use Rattle.std.specs.Prelude.{ℕ, cond, List, [], ◌∷◌, ◌==◌, ◌≢◌}

-- what stands before each separator, and what is left after the last one
pub data Parts : Type 0 where
  last : List ℕ → Parts
  next : List ℕ → Parts → Parts

-- one byte more in front of the first part
abbrev pub onto_first : ℕ → Parts → Parts
onto_first b (last xs) = last (b ∷ xs)
onto_first b (next xs ps) = next (b ∷ xs) ps

abbrev pub split : ℕ → List ℕ → Parts
split sep [] = last []
split sep (b ∷ bs) = cond (b == sep) (next [] (split sep bs)) (onto_first b (split sep bs))

-- none of the bytes is the separator
abbrev pub Without : ℕ → List ℕ → Type 0
Without sep [] = Unit {0}
Without sep (b ∷ bs) = (b ≢ sep) × Without sep bs
