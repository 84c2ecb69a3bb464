-- What drying glue makes of windows.
use Rattle.std.specs.Prelude.{◌≡◌, ℕ, ◌+◌, ◌<◌, ◌≤◌, min, max, List, length, slice_index}
use Rattle.std.proofs.Common.{ap, arith}
use Rattle.std.proofs.lemmas.Bool.{cond_both, cond-true}
use Rattle.sheet.specs.declared.records.Job.{Job}
use Rattle.sheet.specs.declared.records.Link.{Link}
use Rattle.sheet.specs.declared.records.Window.{Window}
use Rattle.sheet.specs.Limits.{last_minute}
use Rattle.sheet.specs.Entries.{Entries, job, link}
use Rattle.sheet.specs.Sound.{Sound}
use Rattle.rule.specs.Windows.{window, Formed, Inside, Single, starts}
use Rattle.rule.specs.Cuts.{live}
use Rattle.rule.specs.Bounds.{between, tabulate}
use Rattle.rule.specs.Laws.{Keeps}
use Rattle.rule.proofs.Bounding.{together_live, together_keeps, open_at}
use Rattle.rule.proofs.Tightest.{tightest_own, tightest_all, tightest_link}
use Rattle.rule.proofs.Setting.{starts_at}
use Rattle.drying.specs.declared.Drying.{Drying}
use Rattle.drying.specs.Drying.{dries, AllDry, dry_at, earliest_start, drying_cut}

module _ (r : Drying) (js : List Job) (ws : List Window) (ls : List Link) where
  -- no first start is lowered
  pub earliest_not_sooner : (k : ℕ) → (window ws k).lo ≤ earliest_start r js ws ls k
  earliest_not_sooner k =
      tightest_own max (λ l. l.to) (dry_at r js ws) (λ j. (window ws j).lo) (λ x. (window ws k).lo ≤ x) (λ x y h. omega arith) ls k (omega arith)

  -- each link has its say
  pub earliest_after_link : (i : ℕ) → i < length ls → dry_at r js ws (link ls i) ≤ earliest_start r js ws ls (link ls i).to
  earliest_after_link i h =
      tightest_link max (λ l. l.to) (dry_at r js ws) (λ j. (window ws j).lo) (λ x. dry_at r js ws (link ls i) ≤ x) (λ x y p. omega arith) (λ x y p. omega arith) ls i h (omega arith)

-- the windows with all first starts raised
abbrev pub raised : Drying → List Window → List Job → List Link → List Window
raised r ws js ls = tabulate (between (earliest_start r js ws ls) (λ k. (window ws k).hi + 1)) (length ws)

module _ (r : Drying) (e : Entries) (s : Sound e) (ws : List Window) (f : Formed (length e.jobs) ws) where
  -- no admitted timetable is lost
  pub drying_keeps : (t : List ℕ) → AllDry r e t → Inside t ws → Keeps (drying_cut r e ws) t
  drying_keeps t dry inside =
      together_keeps _ _ ws t inside.count
      (λ k h. tightest_all max (λ l. l.to) (dry_at r e.jobs ws) (λ j. (window ws j).lo) (λ x. x ≤ slice_index t k) (λ x y p q. omega arith) e.links k (inside.low k h) (λ i l at.
      let from : (link e.links i).from < length ws = omega (arith, (s.linked i l).0, f.count) in
      cond_both (dries r e.jobs (link e.links i)) _ 0 (λ x. x ≤ slice_index t k)
      (λ glued. omega (arith, dry i l glued, inside.low (link e.links i).from from, ap (λ (j : ℕ). slice_index t j) at))
      (λ other. omega arith)))
      (λ k h. omega (arith, inside.high k h))

  -- single starts that pass are admitted
  pub drying_checks : (vs : List Window) → Single ws → drying_cut r e ws ≡ live vs → AllDry r e (starts ws)
  drying_checks vs single alive i h glued =
      let l = link e.links i in
      let to : l.to < length ws = omega (arith, (s.linked i h).1, f.count) in
      let still_open = open_at _ _ (length ws) l.to (together_live _ _ (length ws) vs alive).0 to in
      let dry : dry_at r e.jobs ws l ≡ min ((window ws l.from).lo + (job e.jobs l.from).duration + r.minutes) (last_minute + 1) = cond-true _ _ _ glued in
      omega (arith, still_open, earliest_after_link r e.jobs ws e.links i h, f.timely l.to to, single l.to to, starts_at ws l.from, starts_at ws l.to)
