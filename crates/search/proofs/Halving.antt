-- Decisions that split a job's window in two, and paths that grew by them.
use Rattle.std.proofs.Common.{ℕ, zero, suc, ◌+◌, ◌-◌, ◌*◌, ◌<◌, ◌≤◌, ◌⊎◌, List, [], ◌∷◌, get_or, set, inl, inr, ⊎_elim, arith}
use Rattle.std.proofs.lemmas.Bool.{cases_lt}
use Rattle.sheet.specs.declared.records.Window.{Window}
use Rattle.rule.specs.Windows.{window, Formed, Within, Inside}
use Rattle.rule.specs.Forming.{still_within, within_within}
use Rattle.search.specs.declared.decision.Decision.{Decision}
use Rattle.search.specs.declared.decision.Part.{Part}
use Rattle.search.specs.declared.decision.Part.TheVariants.{First, Second}
use Rattle.search.specs.Counting.{timetables}
use Rattle.search.specs.Deciding.{part_of, to_second, cut_down, Splits, Grown}
use Rattle.search.specs.Looks.{opened, path_of, by_part, backtracked}
use Rattle.search.proofs.Boxes.{set_formed, set_inside, set_within, two_parts}

-- a box with the job's window cut to one part
abbrev pub part_box : Part → List Window → Decision → List Window
part_box b box d = set box d.job (part_of b d)

module _ (box : List Window) (d : Decision) (s : Splits box d) where
  part_ordered : (b : Part) → (part_of b d).lo ≤ (part_of b d).hi
  part_ordered First = omega (arith, s.4, s.2)
  part_ordered Second = omega (arith, s.4, s.2)

  part_low : (b : Part) → (window box d.job).lo ≤ (part_of b d).lo
  part_low First = s.1
  part_low Second = omega (arith, s.1, s.4)

  part_high : (b : Part) → (part_of b d).hi ≤ (window box d.job).hi
  part_high First = omega (arith, s.3, s.4, s.2)
  part_high Second = s.3

  pub middle_below : d.middle < d.window.hi
  middle_below = omega (arith, s.4, s.2)

  pub part_formed : {n : ℕ} (b : Part) → Formed n box → Formed n (part_box b box d)
  part_formed b f =
      set_formed box d.job (part_of b d) (part_ordered b) (omega (arith, part_high b, f.timely d.job s.0)) f

  pub part_within : {n : ℕ} (b : Part) → Formed n box → Within (part_box b box d) box
  part_within b f = set_within box d.job (part_of b d) (part_low b) (part_ordered b) (part_high b) f.ordered

  -- each part has half of the starts at most, rounded up
  pub part_half : (b : Part) → 2 * (suc (part_of b d).hi - (part_of b d).lo) ≤ suc (suc (window box d.job).hi - (window box d.job).lo)
  part_half First = omega (arith, s.1, s.2, s.3, s.4)
  part_half Second = omega (arith, s.1, s.2, s.3, s.4)

  -- both parts together have no more timetables than the box
  pub parts_fewer : timetables (part_box First box d) + timetables (part_box Second box d) ≤ timetables box
  parts_fewer = two_parts box d.job (part_of First d) (part_of Second d) s.0 (omega (arith, s.1, s.2, s.3, s.4))

-- a timetable whose start is in the decision's window is in one of its parts
pub in_a_part : (t : List ℕ) (box : List Window) (d : Decision) → d.window.lo ≤ get_or t d.job 0 → get_or t d.job 0 ≤ d.window.hi → Inside t box → Inside t (part_box First box d) ⊎ Inside t (part_box Second box d)
in_a_part t box d l h i =
    ⊎_elim
    (λ (x : d.middle < get_or t d.job 0). inr (set_inside t box d.job (part_of Second d) (omega arith) h i))
    (λ (x : get_or t d.job 0 ≤ d.middle). inl (set_inside t box d.job (part_of First d) l x i))
    (cases_lt d.middle (get_or t d.job 0))

module _ (ws : List Window) where
  pub grown_last : (d : Decision) (p : List Decision) → Grown ws (d ∷ p) → Splits (cut_down ws p) d
  grown_last d p g = g 0 (omega arith)

  pub grown_before : (d : Decision) (p : List Decision) → Grown ws (d ∷ p) → Grown ws p
  grown_before d p g = λ k h. g (suc k) (omega arith)

  pub grown_more : (d : Decision) (p : List Decision) → Splits (cut_down ws p) d → Grown ws p → Grown ws (d ∷ p)
  grown_more d p s g zero h = s
  grown_more d p s g (suc k) h = g k (omega arith)

  backtracked_step : (b : Part) (d : Decision) (p : List Decision) → Splits (cut_down ws p) d → Grown ws p → Grown ws (path_of (backtracked p)) → Grown ws (path_of (by_part b (opened (to_second d ∷ p)) (backtracked p)))
  backtracked_step First d p s g r = grown_more (to_second d) p s g
  backtracked_step Second d p s g r = r

  pub grown_backtracked : (p : List Decision) → Grown ws p → Grown ws (path_of (backtracked p))
  grown_backtracked [] g = g
  grown_backtracked (d ∷ p) g =
      let b = grown_before d p g in
      backtracked_step d.part d p (grown_last d p g) b (grown_backtracked p b)

  pub cut_formed : {n : ℕ} (p : List Decision) → Formed n ws → Grown ws p → Formed n (cut_down ws p)
  cut_formed [] f g = f
  cut_formed (d ∷ p) f g =
      part_formed (cut_down ws p) d (grown_last d p g) d.part (cut_formed p f (grown_before d p g))

  pub cut_within : {n : ℕ} (p : List Decision) → Formed n ws → Grown ws p → Within (cut_down ws p) ws
  cut_within [] f g = still_within ws f
  cut_within (d ∷ p) f g =
      let b = grown_before d p g in
      within_within _ (cut_down ws p) ws (part_within (cut_down ws p) d (grown_last d p g) d.part (cut_formed p f b)) (cut_within p f b)
