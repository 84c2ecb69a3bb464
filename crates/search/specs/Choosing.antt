-- Which job's window is split: the one with the least slack above 0, and among equals the lowest number.
use Rattle.std.specs.Prelude.{◌≡◌, ℕ, suc, ◌-◌, ◌<◌, ◌≤◌, cond, ◌&&◌, List, [], ◌∷◌, length, Some, None, Option, nat_le, nat_lt}
use Rattle.sheet.specs.declared.records.Window.{Window}
use Rattle.rule.specs.Windows.{window}

-- how many starts a window has beyond one
abbrev pub slack : Window → ℕ
slack w = w.hi - w.lo

-- the choice among w and the windows ws, from that among ws
abbrev pub or_first : Window → List Window → Option ℕ → Option ℕ
or_first w ws None = cond (nat_lt 0 (slack w)) (Some 0) None
or_first w ws (Some k) = cond (nat_lt 0 (slack w) && nat_le (slack w) (slack (window ws k))) (Some 0) (Some (suc k))

abbrev pub narrowest : List Window → Option ℕ
narrowest [] = None
narrowest (w ∷ ws) = or_first w ws (narrowest ws)

-- job k is the one
pub record Narrowest (ws : List Window) (k : ℕ) : Type 0 where
  pub there : k < length ws
  pub wide : 0 < slack (window ws k)
  pub least : (j : ℕ) → j < length ws → 0 < slack (window ws j) → slack (window ws k) ≤ slack (window ws j)
  pub lowest : (j : ℕ) → j < k → 0 < slack (window ws j) → slack (window ws k) < slack (window ws j)

-- what a choice says of the windows: where there is none, no window has a slack
abbrev pub Chooses : List Window → Option ℕ → Type 0
Chooses ws None = (k : ℕ) → k < length ws → slack (window ws k) ≡ 0
Chooses ws (Some k) = Narrowest ws k
