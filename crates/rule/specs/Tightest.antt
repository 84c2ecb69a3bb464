-- Bounds that links set to the jobs at one of their ends.
use Rattle.std.specs.Prelude.{ℕ, cond, List, [], ◌∷◌, ◌==◌}
use Rattle.sheet.specs.declared.records.Link.{Link}

-- the tightest of job k's own bound and of those of the links at it; of first starts the greatest is the tightest (max),
-- of ends of starts the least (min)
abbrev pub tightest : (tighter : ℕ → ℕ → ℕ) (at bound : Link → ℕ) (own : ℕ → ℕ) → List Link → ℕ → ℕ
tightest tighter at bound own [] k = own k
tightest tighter at bound own (l ∷ ls) k =
    cond (at l == k) (tighter (bound l) (tightest tighter at bound own ls k)) (tightest tighter at bound own ls k)
