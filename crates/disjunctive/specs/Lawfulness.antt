-- A rule that runs a lawful kernel over the stations is lawful.
use Rattle.std.specs.Prelude.{◌≡◌, ℕ, zero, suc, ◌+◌, ◌<◌, ◌≤◌, Bool, true, false, ◌⊎◌, List, length, slice_index, slice_index_or, refl}
use Rattle.std.proofs.Common.{sym, ap, subst, ◌∙◌, inl, inr, ⊎_elim, arith}
use Rattle.std.specs.List.{AllByRecursion}
use Rattle.std.proofs.lemmas.Bool.{cases_Bool, cond-true, cond-false, or_from, or_parts, cases_eq}
use Rattle.sheet.specs.declared.records.Window.{Window}
use Rattle.sheet.specs.Entries.{Entries, job}
use Rattle.sheet.specs.Sound.{Sound}
use Rattle.rule.specs.Windows.{window, Within, Inside, Single, starts}
use Rattle.rule.specs.Cuts.{Cut, live}
use Rattle.rule.specs.Bounds.{together}
use Rattle.rule.specs.Laws.{Keeps, Lawful}
use Rattle.rule.specs.Forming.{dead_not_live}
use Rattle.rule.proofs.Bounding.{open_at, together_live, together_within, together_keeps}
use Rattle.rule.proofs.Setting.{starts_at}
use Rattle.station.specs.declared.task.Task.{Task}
use Rattle.station.specs.Tasks.{Pairwise, Formed}
use Rattle.station.specs.Kernels.{Apart, Placed}
use Rattle.station.specs.Members.{In, all_in}
use Rattle.station.specs.Pairwise.{pairwise_in}
use Rattle.station.proofs.Reversing.{limit_keeps}
use Rattle.station.specs.Placing.{apart_turned}
use Rattle.disjunctive.specs.Disjoint.{Disjoint}
use Rattle.disjunctive.specs.Gathering.{task, tasks_at}
use Rattle.disjunctive.specs.StationCuts.{among, any_below, station_cut, stations}
use Rattle.disjunctive.specs.Gathered.{gathered_all, gathered_in, task_in, tasks_formed, tasks_placed}
use Rattle.rule.specs.Windows.{Formed as WellFormed}
use Rattle.station.specs.Kernels.{Lawful as KernelLawful}

pub below_none : (f : ℕ → Bool) (n : ℕ) → ((x : ℕ) → x < n → f x ≡ false) → any_below f n ≡ false
below_none f zero h = refl
below_none f (suc n) h = or_from _ _ (h n (omega arith)) (below_none f n (λ x l. h x (omega arith)))

pub below_at : (f : ℕ → Bool) (n x : ℕ) → any_below f n ≡ false → x < n → f x ≡ false
below_at f zero x e h = absurd (omega arith)
below_at f (suc n) x e h =
    let p = or_parts _ _ e in
    ⊎_elim
    (λ (y : x ≡ n). subst (λ (k : ℕ). f k ≡ false) (sym y) p.0)
    (λ (y : x ≡ n → ⊥). below_at f n x p.1 (omega arith))
    (cases_eq x n)

module _ (o : List Task → Bool) (e l : Task → List Task → ℕ) (law : KernelLawful o e l) (en : Entries) (s : Sound en) (ws : List Window) (f : WellFormed (length en.jobs) ws) where
  abbrev load : Bool
  load = any_below (λ x. o (tasks_at en.jobs ws x)) stations

  cut_live : (vs : List Window) → station_cut o e l en.jobs ws ≡ live vs → (load ≡ false) × (together (among e en.jobs ws) (among l en.jobs ws) (length ws) ≡ live vs)
  cut_live vs a =
      ⊎_elim
      (λ (t : load ≡ true). absurd (dead_not_live vs (sym (cond-true load _ _ t) ∙ a)))
      (λ (t : load ≡ false). (t, sym (cond-false load _ _ t) ∙ a))
      (cases_Bool load)

  limit_own : (k : ℕ) → among l en.jobs ws k ≤ (window ws k).hi + 1
  limit_own k = omega (arith, law.falls (task en.jobs ws k) (tasks_at en.jobs ws (job en.jobs k).station))

  pub cut_contracting : (vs : List Window) → station_cut o e l en.jobs ws ≡ live vs → Within vs ws
  cut_contracting vs a = together_within _ _ ws vs (cut_live vs a).1 (λ k h. law.rises (task en.jobs ws k) (tasks_at en.jobs ws (job en.jobs k).station)) (λ k h. limit_own k)

  formed_at : (x : ℕ) → Formed (tasks_at en.jobs ws x)
  formed_at x = tasks_formed en.jobs ws s.entered s.few_jobs f x

  in_own : (k : ℕ) → k < length ws → In (task en.jobs ws k) (tasks_at en.jobs ws (job en.jobs k).station)
  in_own k h = task_in en.jobs ws s.entered s.few_jobs f (job en.jobs k).station k h refl

  pub cut_preserving : (t : List ℕ) → Disjoint en.jobs t → Inside t ws → Keeps (station_cut o e l en.jobs ws) t
  cut_preserving t p n =
      let st : Task → ℕ = λ τ. slice_index_or t τ.job 0 in
      let placed : (x : ℕ) → Placed (λ τ. slice_index t τ.job) (tasks_at en.jobs ws x) = tasks_placed en.jobs ws f t p n in
      subst (λ (c : Cut). Keeps c t) (sym (cond-false load _ _ (below_none _ stations (λ x h. law.roomy st (tasks_at en.jobs ws x) (placed x)))))
      (together_keeps _ _ ws t n.count
      (λ k h. let x = (job en.jobs k).station in all_in (λ i. e i (tasks_at en.jobs ws x) ≤ slice_index t i.job) (in_own k h) (law.keeps st (tasks_at en.jobs ws x) (placed x)))
      (λ k h. let x = (job en.jobs k).station in limit_keeps st (λ i. refl) (tasks_at en.jobs ws x) (formed_at x) (placed x) o e l law (task en.jobs ws k) (in_own k h)))

  pub cut_checking : (vs : List Window) → Single ws → station_cut o e l en.jobs ws ≡ live vs → Disjoint en.jobs (starts ws)
  cut_checking vs single a i j hi hj ne same =
      let d = cut_live vs a in
      let x = (job en.jobs i).station in
      let U = tasks_at en.jobs ws x in
      let open_all = (together_live _ _ (length ws) vs d.1).0 in
      let still : AllByRecursion (λ τ. e τ (tasks_at en.jobs ws x) ≤ τ.lo) U = gathered_all en.jobs ws x _ (length ws) (λ k h q.
      let z : among e en.jobs ws k ≡ e (task en.jobs ws k) U = ap (λ (y : ℕ). e (task en.jobs ws k) (tasks_at en.jobs ws y)) q in
      omega (arith, open_at _ _ (length ws) k open_all h, limit_own k, single k h)) in
      let apart : Pairwise (Apart (λ τ. τ.lo)) U = law.checks U (formed_at x) (gathered_all en.jobs ws x _ (length ws) (λ k h q. omega (arith, single k h))) (below_at (λ x. o (tasks_at en.jobs ws x)) stations x d.0 (omega (arith, (s.entered i hi).0))) still in
      let mi : In (task en.jobs ws i) U = in_own i (omega (arith, f.count)) in
      let mj : In (task en.jobs ws j) U = gathered_in en.jobs ws x (length ws) j (omega (arith, f.count)) (sym same) in
      let told : Apart (λ τ. τ.lo) (task en.jobs ws i) (task en.jobs ws j) → (slice_index (starts ws) i + (job en.jobs i).duration ≤ slice_index (starts ws) j) ⊎ (slice_index (starts ws) j + (job en.jobs j).duration ≤ slice_index (starts ws) i) = λ q.
      ⊎_elim
      (λ (y : (window ws i).lo + (job en.jobs i).duration ≤ (window ws j).lo). inl (omega (arith, starts_at ws i, starts_at ws j)))
      (λ (y : (window ws j).lo + (job en.jobs j).duration ≤ (window ws i).lo). inr (omega (arith, starts_at ws i, starts_at ws j)))
      q in
      ⊎_elim
      told
      (λ (q : Apart (λ τ. τ.lo) (task en.jobs ws j) (task en.jobs ws i)). told (apart_turned (λ τ. τ.lo) (task en.jobs ws j) (task en.jobs ws i) q))
      (pairwise_in (Apart (λ τ. τ.lo)) apart (task en.jobs ws i) (task en.jobs ws j) mi mj ne)

pub station_lawful : (o : List Task → Bool) (e l : Task → List Task → ℕ) → KernelLawful o e l → (en : Entries) → Sound en → Lawful (length en.jobs) (Disjoint en.jobs) (station_cut o e l en.jobs)
station_lawful o e l law en s = record {
  contracting = λ ws vs f a. cut_contracting o e l law en s ws f vs a;
  preserving = λ ws t f p n. cut_preserving o e l law en s ws f t p n;
  checking = λ ws vs f single a. cut_checking o e l law en s ws f vs single a;
}
