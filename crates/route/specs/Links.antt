-- What the links make of windows.
use Rattle.std.specs.Prelude.{◌≡◌, ℕ, ◌+◌, ◌<◌, ◌≤◌, min, max, true, false, List, length, slice_index}
use Rattle.std.proofs.Common.{ap, arith}
use Rattle.std.proofs.lemmas.Bool.{and_parts}
use Rattle.sheet.specs.declared.records.Job.{Job}
use Rattle.sheet.specs.declared.records.Link.{Link}
use Rattle.sheet.specs.declared.records.Window.{Window}
use Rattle.sheet.specs.Entries.{Entries, link}
use Rattle.sheet.specs.Sound.{Sound}
use Rattle.rule.specs.Windows.{window, all_fine, formed, Formed, Inside, Single, starts}
use Rattle.rule.specs.Cuts.{dead, live}
use Rattle.rule.specs.Bounds.{between, tabulate, if_fine}
use Rattle.rule.specs.Laws.{Keeps}
use Rattle.rule.proofs.Bounding.{together_live, together_keeps, open_at}
use Rattle.rule.proofs.Tightest.{tightest_own, tightest_all, tightest_link}
use Rattle.rule.proofs.Setting.{starts_at, passed_ordered, together_passed, together_failed, together_if_fine}
use Rattle.route.specs.Route.{Holds, AllHold, start_after, past_before, earliest_start, past_latest_start, route_cut}

module _ (js : List Job) (ws : List Window) (ls : List Link) where
  pub earliest_not_sooner : (k : ℕ) → (window ws k).lo ≤ earliest_start js ws ls k
  earliest_not_sooner k =
      tightest_own max (λ l. l.to) (start_after js ws) (λ j. (window ws j).lo) (λ x. (window ws k).lo ≤ x) (λ x y h. omega arith) ls k (omega arith)

  pub latest_not_later : (k : ℕ) → past_latest_start js ws ls k ≤ (window ws k).hi + 1
  latest_not_later k =
      tightest_own min (λ l. l.from) (past_before js ws) (λ j. (window ws j).hi + 1) (λ x. x ≤ (window ws k).hi + 1) (λ x y h. omega arith) ls k (omega arith)

  earliest_after_link : (i : ℕ) → i < length ls → start_after js ws (link ls i) ≤ earliest_start js ws ls (link ls i).to
  earliest_after_link i h =
      tightest_link max (λ l. l.to) (start_after js ws) (λ j. (window ws j).lo) (λ x. start_after js ws (link ls i) ≤ x) (λ x y p. omega arith) (λ x y p. omega arith) ls i h (omega arith)

-- the windows with all the bounds set
abbrev pub narrowed : List Window → List Job → List Link → List Window
narrowed ws js ls = tabulate (between (earliest_start js ws ls) (past_latest_start js ws ls)) (length ws)

module _ (e : Entries) (s : Sound e) (ws : List Window) (f : Formed (length e.jobs) ws) where
  first_there : (i : ℕ) → i < length e.links → (link e.links i).from < length ws
  first_there i h = omega (arith, (s.linked i h).0, f.count)

  second_there : (i : ℕ) → i < length e.links → (link e.links i).to < length ws
  second_there i h = omega (arith, (s.linked i h).1, f.count)

  -- a link with a last start below zero has a second job that starts too late, which the test notices
  no_end_at_zero : (vs : List Window) → vs ≡ narrowed ws e.jobs e.links → all_fine vs ≡ true → (k : ℕ) → k < length ws → 0 < past_latest_start e.jobs ws e.links k
  no_end_at_zero vs n t k h =
      tightest_all min (λ l. l.from) (past_before e.jobs ws) (λ j. (window ws j).hi + 1) (λ x. 0 < x) (λ x y p q. omega arith) e.links k (omega arith) (λ i l at.
      let second = (link e.links i).to in
      omega (arith, passed_ordered _ _ ws vs n t second (second_there i l), earliest_after_link e.jobs ws e.links i l, latest_not_later e.jobs ws e.links second))

  -- the narrowed copy is set if it is well formed, and the rule is dead if not
  pub route_passed : (vs : List Window) → vs ≡ narrowed ws e.jobs e.links → formed (length ws) vs ≡ true → route_cut e ws ≡ live vs
  route_passed vs n t = let fine = (and_parts _ _ t).1 in together_passed _ _ ws vs n fine (no_end_at_zero vs n fine)

  pub route_failed : (vs : List Window) → vs ≡ narrowed ws e.jobs e.links → formed (length ws) vs ≡ false → route_cut e ws ≡ dead
  route_failed vs n t = together_failed _ _ ws vs n f (earliest_not_sooner e.jobs ws e.links) (latest_not_later e.jobs ws e.links) t

  -- so it is put in place if it is fine
  pub route_if_fine : (vs : List Window) → vs ≡ narrowed ws e.jobs e.links → route_cut e ws ≡ if_fine vs
  route_if_fine vs n = together_if_fine _ _ ws vs n f (earliest_not_sooner e.jobs ws e.links) (latest_not_later e.jobs ws e.links) (no_end_at_zero vs n)

  pub route_keeps : (t : List ℕ) → AllHold e t → Inside t ws → Keeps (route_cut e ws) t
  route_keeps t holds inside =
      together_keeps _ _ ws t inside.count
      (λ k h. tightest_all max (λ l. l.to) (start_after e.jobs ws) (λ j. (window ws j).lo) (λ x. x ≤ slice_index t k) (λ x y p q. omega arith) e.links k (inside.low k h) (λ i l at.
      let v : Holds e.jobs t (link e.links i) = holds i l in
      omega (arith, inside.low (link e.links i).from (first_there i l), ap (λ (j : ℕ). slice_index t j) at)))
      (λ k h. tightest_all min (λ l. l.from) (past_before e.jobs ws) (λ j. (window ws j).hi + 1) (λ x. slice_index t k < x) (λ x y p q. omega arith) e.links k (omega (arith, inside.high k h)) (λ i l at.
      let v : Holds e.jobs t (link e.links i) = holds i l in
      omega (arith, inside.high (link e.links i).to (second_there i l), ap (λ (j : ℕ). slice_index t j) at)))

  pub route_checks : (vs : List Window) → Single ws → route_cut e ws ≡ live vs → AllHold e (starts ws)
  route_checks vs single alive i h =
      let l = link e.links i in
      let to : l.to < length ws = second_there i h in
      let still_open = open_at _ _ (length ws) l.to (together_live _ _ (length ws) vs alive).0 to in
      omega (arith, still_open, earliest_after_link e.jobs ws e.links i h, latest_not_later e.jobs ws e.links l.to, single l.to to, starts_at ws l.from, starts_at ws l.to)
