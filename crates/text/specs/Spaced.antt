-- Numbers parted by one space: as they are read, and as they are spelled.
use Rattle.std.specs.Prelude.{ℕ, zero, suc, ◌<◌, List, [], ◌∷◌, Some, None, decimal, Option}
use Rattle.std.specs.List.{flat_map}
use Rattle.text.specs.Bytes.{space}
use Rattle.text.specs.Splitting.{Parts, last, next}

abbrev pub in_front : Option ℕ → Option (List ℕ) → Option (List ℕ)
in_front (Some n) (Some ns) = Some (n ∷ ns)
in_front (Some n) None = None
in_front None o = None

-- the parts are n numbers, no more and no fewer, where each is read so
abbrev pub numbers : (List ℕ → Option ℕ) → ℕ → Parts → Option (List ℕ)
numbers read zero ps = None
numbers read (suc zero) (last f) = in_front (read f) (Some [])
numbers read (suc (suc n)) (last f) = None
numbers read (suc n) (next f ps) = in_front (read f) (numbers read n ps)

-- a space and the number in decimal, for each of the numbers
abbrev pub spaced : List ℕ → List ℕ
spaced ns = flat_map (λ n. space ∷ decimal n) ns

abbrev pub AllBelow : ℕ → List ℕ → Type 0
AllBelow m [] = Unit {0}
AllBelow m (n ∷ ns) = (n < m) × AllBelow m ns
