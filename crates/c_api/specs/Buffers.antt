-- Starts as bytes.
use Rattle.std.specs.Prelude.{ℕ, ◌*◌, ◌/◌, ◌%◌, List, [], ◌∷◌, ◌++◌, length, drop}
use Rattle.std.specs.List.{flat_map}

-- each start as two bytes, low byte first
abbrev pub encoded : List ℕ → List ℕ
encoded ss = flat_map (λ s. (s % 256) ∷ ((s / 256) ∷ [])) ss

-- a buffer with the starts at its front
abbrev pub with_starts : List ℕ → List ℕ → List ℕ
with_starts t buffer = encoded t ++ drop (2 * length t) buffer
