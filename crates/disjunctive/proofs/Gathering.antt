-- The jobs of a station, gathered one by one.
use Rattle.std.proofs.Common.{◌≡◌, ℕ, zero, suc, ◌+◌, ◌<◌, ◌≤◌, List, [], ◌∷◌, ◌++◌, map, length, drop, get_or, sym, ap, ap₂, ◌∙◌, subst, arith}
use Rattle.std.proofs.lemmas.List.{map-append}
use Rattle.sheet.specs.declared.records.Job.{Job}
use Rattle.sheet.specs.declared.records.Window.{Window}
use Rattle.sheet.specs.Entries.{job}
use Rattle.rule.specs.Windows.{window}
use Rattle.station.specs.declared.task.Task.{Task}
use Rattle.station.specs.Mirror.{mirror}
use Rattle.disjunctive.specs.Gathering.{gathered, task}
use Rattle.disjunctive.specs.Gathered.{gathered_yes, gathered_no}

-- how far the jobs of station x have been gathered, with what is left of them and of their windows
pub record Gathered (js js' : List Job) (ws ws' : List Window) (x : ℕ) (tasks mirrored : List Task) (n : ℕ) : Type 0 where
  pub forth : tasks ≡ gathered js ws x n
  pub back : mirrored ≡ map mirror (gathered js ws x n)
  pub jobs : js' ≡ drop n js
  pub windows : ws' ≡ drop n ws
  pub most : n ≤ length ws

-- what is left of a list begins with the element at its place
drop_front : {X : Type 0} (d : X) (xs : List X) (n : ℕ) (x : X) (r : List X) → drop n xs ≡ x ∷ r → (n < length xs) × (x ≡ get_or xs n d) × (r ≡ drop (suc n) xs)
drop_front d [] zero x r e = absurd (let h = ap length e in omega (arith, h))
drop_front d [] (suc n) x r e = absurd (let h = ap length e in omega (arith, h))
drop_front d (y ∷ xs) zero x r e = (omega arith, sym (ap (λ l. get_or l 0 d) e), sym (ap (drop 1) e))
drop_front d (y ∷ xs) (suc n) x r e = let h = drop_front d xs n x r e in (omega (arith, h.0), h.1, h.2)

-- one more job and its window
module _ {js js' : List Job} {ws ws' : List Window} {x : ℕ} {tasks mirrored : List Task} {n : ℕ} (g : Gathered js js' ws ws' x tasks mirrored n)
    {j : Job} {w : Window} {js'' : List Job} {ws'' : List Window} {k n' : ℕ} (next : (js' ≡ j ∷ js'') × (ws' ≡ w ∷ ws'')) (place : k ≡ n) (one : n' ≡ n + 1) where
  front_job : (n < length js) × (j ≡ job js n) × (js'' ≡ drop (suc n) js)
  front_job = drop_front _ js n j js'' (sym g.jobs ∙ next.0)

  front_window : (n < length ws) × (w ≡ window ws n) × (ws'' ≡ drop (suc n) ws)
  front_window = drop_front _ ws n w ws'' (sym g.windows ∙ next.1)

  pub next_below : n < length ws
  next_below = front_window.0

  -- the task that they make
  abbrev made : Task
  made = record { lo = w.lo; span = j.duration; end = w.hi + j.duration; job = k }

  pub made_is : made ≡ task js ws n
  made_is = let a = front_job.1 in let b = front_window.1 in cc

  step : n' ≡ suc n
  step = omega arith

  pub next_there : j.station ≡ x → {tasks' mirrored' : List Task} {m : Task} → tasks' ≡ tasks ++ (made ∷ []) → m ≡ mirror made → mirrored' ≡ mirrored ++ (m ∷ []) → Gathered js js'' ws ws'' x tasks' mirrored' n'
  next_there a {tasks'} {mirrored'} p m q =
      let y : gathered js ws x (suc n) ≡ gathered js ws x n ++ (task js ws n ∷ []) = gathered_yes js ws x n (ap (λ (j : Job). j.station) (sym front_job.1) ∙ a) in
      subst (Gathered js js'' ws ws'' x tasks' mirrored') (sym step) (record {
        forth = p ∙ ap₂ (λ (L : List Task) (t : Task). L ++ (t ∷ [])) g.forth made_is ∙ sym y;
        back = q ∙ ap₂ (λ (L : List Task) (t : Task). L ++ (t ∷ [])) g.back (m ∙ ap mirror made_is) ∙ sym (ap (map mirror) y ∙ map-append mirror (gathered js ws x n) _);
        jobs = front_job.2;
        windows = front_window.2;
        most = front_window.0;
      })

  pub next_elsewhere : (j.station ≡ x → ⊥) → Gathered js js'' ws ws'' x tasks mirrored n'
  next_elsewhere a =
      let y : gathered js ws x (suc n) ≡ gathered js ws x n = gathered_no js ws x n (λ b. a (ap (λ (j : Job). j.station) front_job.1 ∙ b)) in
      subst (Gathered js js'' ws ws'' x tasks mirrored) (sym step) (record { forth = g.forth ∙ sym y; back = g.back ∙ ap (map mirror) (sym y); jobs = front_job.2; windows = front_window.2; most = front_window.0 })
