-- What a search owes to whoever advances it, whatever its pile does.
use Rattle.std.specs.Prelude.{◌≡◌, ℕ, ◌+◌, ◌-◌, ◌*◌, ◌≤◌, ◌⊎◌, List, [], ◌∷◌, length}
use Rattle.sheet.specs.declared.records.Window.{Window}
use Rattle.sheet.specs.Entries.{Entries}
use Rattle.rule.specs.Windows.{Inside}
use Rattle.rule.specs.Cuts.{Cut}
use Rattle.search.specs.declared.decision.Decision.{Decision}
use Rattle.search.specs.Entered.{entered_windows}
use Rattle.search.specs.Counting.{timetables}
use Rattle.search.specs.Paths.{most_decisions}
use Rattle.search.specs.Looks.{State, opened, found, impossible, path_of, one_look, after_looks, looks_made}

-- a timetable fits: all its starts are in the entered windows, and the pile admits it
abbrev pub Fits : (List ℕ → Type 0) → Entries → List ℕ → Type 0
Fits admits e t = Inside t (entered_windows e) × admits t

-- the looks that settle every search of a sheet: twice the number of its timetables, less one
abbrev pub enough_looks : Entries → ℕ
enough_looks e = 2 * timetables (entered_windows e) - 1

-- what holds of a search to which so many looks were granted since it was closed, and which reported so many
pub record Promise (admits : List ℕ → Type 0) (e : Entries) (granted reported : ℕ) (s : State) : Type 0 where
  pub none_fits : s ≡ impossible → (t : List ℕ) → Fits admits e t → ⊥
  pub one_fits : (p : List Decision) (t : List ℕ) → s ≡ found p t → Fits admits e t
  pub few : reported ≤ enough_looks e
  pub enough : enough_looks e ≤ granted → (s ≡ impossible) ⊎ ((p : List Decision) × (t : List ℕ) × (s ≡ found p t))
  pub spent : (p : List Decision) → s ≡ opened p → reported ≡ granted
  pub granted_only : reported ≤ granted
  pub short : length (path_of s) ≤ most_decisions

-- advances in a row, the first in front
abbrev pub advances : (List Decision → State) → List ℕ → State → State
advances f [] s = s
advances f (g ∷ gs) s = advances f gs (after_looks f g s)

-- the looks that they report
abbrev pub reports : (List Decision → State) → List ℕ → State → ℕ
reports f [] s = 0
reports f (g ∷ gs) s = looks_made f g s + reports f gs (after_looks f g s)

-- and the looks granted to them
abbrev pub total : List ℕ → ℕ
total [] = 0
total (g ∷ gs) = g + total gs

-- instalments compose: a row of advances comes to what one advance by all their looks comes to, and reports as many
abbrev pub Composes : (List Decision → State) → Type 0
Composes f = (gs : List ℕ) (s : State) → (advances f gs s ≡ after_looks f (total gs) s) × (reports f gs s ≡ looks_made f (total gs) s)

-- the promise of one advance by g looks that reported m, from the search x to the search y:
-- whatever row of advances led from the close to x
abbrev pub KeepsPromise : (List ℕ → Type 0) → (List Window → Cut) → Entries → State → ℕ → ℕ → State → Type 0
KeepsPromise admits cut e x g m y =
    (gs : List ℕ)
    → x ≡ advances (one_look cut e) gs (opened [])
    → Promise admits e (total gs + g) (reports (one_look cut e) gs (opened []) + m) y
