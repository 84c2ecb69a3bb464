-- How many timetables lie within windows.
use Rattle.std.specs.Prelude.{◌≡◌, ℕ, zero, suc, ◌-◌, ◌*◌, ◌⊎◌, ◌↔◌, List, [], ◌∷◌, ◌++◌, map, length}
use Rattle.sheet.specs.declared.records.Window.{Window}
use Rattle.rule.specs.Windows.{Inside}

abbrev pub timetables : List Window → ℕ
timetables [] = 1
timetables (w ∷ ws) = (suc w.hi - w.lo) * timetables ws

-- each of n starts from a on, before each of the timetables ts
abbrev pub each_before : ℕ → ℕ → List (List ℕ) → List (List ℕ)
each_before a zero ts = []
each_before a (suc n) ts = map (λ t. a ∷ t) ts ++ each_before (suc a) n ts

-- the timetables within windows, one by one
abbrev pub every : List Window → List (List ℕ)
every [] = [] ∷ []
every (w ∷ ws) = each_before w.lo (suc w.hi - w.lo) (every ws)

abbrev pub In : List ℕ → List (List ℕ) → Type 0
In t [] = ⊥
In t (u ∷ us) = (t ≡ u) ⊎ In t us

-- nothing is listed twice
abbrev pub Once : List (List ℕ) → Type 0
Once [] = Unit {0}
Once (u ∷ us) = (In u us → ⊥) × Once us

-- timetables ws is the number of the timetables within ws: they can be listed, each once, and are so many
pub record Counted (ws : List Window) : Type 0 where
  pub number : length (every ws) ≡ timetables ws
  pub once : Once (every ws)
  pub exactly : (t : List ℕ) → In t (every ws) ↔ Inside t ws
