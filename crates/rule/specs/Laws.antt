-- The laws of a rule on one sheet, and what repeating a rule means.
use Rattle.std.specs.Prelude.{◌≡◌, ℕ, List, ◌≢◌}
use Rattle.sheet.specs.declared.records.Window.{Window}
use Rattle.rule.specs.Windows.{Formed, Within, Inside, Single, starts}
use Rattle.rule.specs.Cuts.{Cut, dead, live}

-- a cut loses no timetable t
abbrev pub Keeps : Cut → List ℕ → Type 0
Keeps dead t = ⊥
Keeps (live vs) t = Inside t vs

-- what a rule owes on windows of n jobs that are well formed
pub record Lawful (n : ℕ) (admits : List ℕ → Type 0) (cut : List Window → Cut) : Type 0 where
  -- new windows lie within the old, and every first start is at most its last
  pub contracting : (ws vs : List Window) → Formed n ws → cut ws ≡ live vs → Within vs ws
  -- every admitted timetable within the old windows is within the new; where the rule is dead, there was none
  pub preserving : (ws : List Window) (t : List ℕ) → Formed n ws → admits t → Inside t ws → Keeps (cut ws) t
  -- where every window is a single start and the rule is not dead, it admits that timetable
  pub checking : (ws vs : List Window) → Formed n ws → Single ws → cut ws ≡ live vs → admits (starts ws)

-- a rule repeated on the windows ws comes to c
pub data Repeats (f : List Window → Cut) : List Window → Cut → Type 0 where
  ends_dead : {ws : List Window} → f ws ≡ dead → Repeats f ws dead
  ends_still : {ws : List Window} → f ws ≡ live ws → Repeats f ws (live ws)
  goes_on : {ws vs : List Window} {c : Cut} → f ws ≡ live vs → (vs ≢ ws) → Repeats f vs c → Repeats f ws c
