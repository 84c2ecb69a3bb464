-- The tasks of a station.
use Rattle.std.specs.Prelude.{◌≡◌, ℕ, zero, suc, ◌+◌, ◌<◌, ◌≤◌, List, [], ◌∷◌, ◌++◌, length, take, ◌==◌, ◌≢◌, slice_index, slice_set, refl}
use Rattle.std.proofs.Common.{sym, ap, subst, ◌∙◌, ⊎_elim, arith, add-one, length-set}
use Rattle.std.specs.List.{AllByRecursion}
use Rattle.std.proofs.lemmas.List.{length_push, take_more_set}
use Rattle.std.proofs.ByRecursion.{All-push}
use Rattle.std.proofs.lemmas.Bool.{cond-true, cond-false, cond_both, cases_eq, eq-eqb, ne_eqb}
use Rattle.sheet.specs.declared.records.Job.{Job}
use Rattle.sheet.specs.declared.records.Window.{Window}
use Rattle.sheet.specs.Entries.{job}
use Rattle.sheet.specs.Limits.{most_jobs}
use Rattle.sheet.specs.Sound.{AllEntered}
use Rattle.rule.specs.Windows.{Inside}
use Rattle.station.specs.declared.task.Task.{Task}
use Rattle.station.specs.Limits.{most_tasks}
use Rattle.station.specs.Tasks.{Pairwise, Fit, Formed}
use Rattle.station.specs.Kernels.{Apart, Placed}
use Rattle.station.specs.Members.{In, here, in_left, in_right}
use Rattle.station.specs.Pairwise.{pairwise_push}
use Rattle.disjunctive.specs.Disjoint.{Disjoint}
use Rattle.disjunctive.specs.Gathering.{gathered, task, tasks_at}
use Rattle.rule.specs.Windows.{Formed as WellFormed}

module _ (js : List Job) (ws : List Window) (x : ℕ) where
  pub gathered_yes : (k : ℕ) → (job js k).station ≡ x → gathered js ws x (suc k) ≡ gathered js ws x k ++ (task js ws k ∷ [])
  gathered_yes k e = cond-true ((job js k).station == x) _ _ (eq-eqb _ _ e)

  pub gathered_no : (k : ℕ) → ((job js k).station ≢ x) → gathered js ws x (suc k) ≡ gathered js ws x k
  gathered_no k e = cond-false ((job js k).station == x) _ _ (ne_eqb _ _ e)

  -- what each job at the station adds to what was there
  gathered_by : (P : List Task → Type 0) → P [] → (n : ℕ) → ((k : ℕ) → k < n → (job js k).station ≡ x → P (gathered js ws x k) → P (gathered js ws x k ++ (task js ws k ∷ []))) → P (gathered js ws x n)
  gathered_by P z zero f = z
  gathered_by P z (suc n) f =
      let r : P (gathered js ws x n) = gathered_by P z n (λ k h e. f k (omega arith) e) in
      ⊎_elim
      (λ (e : (job js n).station ≡ x). subst P (sym (gathered_yes n e)) (f n (omega arith) e r))
      (λ (e : (job js n).station ≡ x → ⊥). subst P (sym (gathered_no n e)) r)
      (cases_eq (job js n).station x)

  -- what holds of each job at the station holds of each task
  pub gathered_all : (P : Task → Type 0) (n : ℕ) → ((k : ℕ) → k < n → (job js k).station ≡ x → P (task js ws k)) → AllByRecursion P (gathered js ws x n)
  gathered_all P n f = gathered_by (AllByRecursion P) tt n (λ k h e r. All-push P (gathered js ws x k) (task js ws k) r (f k h e))

  -- what holds of any two jobs at the station holds of any two tasks
  pub gathered_pairwise : (R : Task → Task → Type 0) (n : ℕ) → ((j k : ℕ) → j < k → k < n → (job js j).station ≡ x → (job js k).station ≡ x → R (task js ws j) (task js ws k)) → Pairwise R (gathered js ws x n)
  gathered_pairwise R n f = gathered_by (Pairwise R) tt n (λ k h e r. pairwise_push R (gathered js ws x k) (task js ws k) r (gathered_all (λ t. R t (task js ws k)) k (λ j l d. f j k l h d e)))

  pub gathered_in : (n k : ℕ) → k < n → (job js k).station ≡ x → In (task js ws k) (gathered js ws x n)
  gathered_in zero k h e = absurd (omega arith)
  gathered_in (suc n) k h e =
      ⊎_elim
      (λ (y : k ≡ n). subst (λ (j : ℕ). In (task js ws j) (gathered js ws x (suc n))) (sym y) (subst (In (task js ws n)) (sym (gathered_yes n (ap (λ (j : ℕ). (job js j).station) (sym y) ∙ e))) (in_right (gathered js ws x n) here)))
      (λ (y : k ≡ n → ⊥).
      let r : In (task js ws k) (gathered js ws x n) = gathered_in n k (omega arith) e in
      cond_both ((job js n).station == x) (gathered js ws x n ++ (task js ws n ∷ [])) (gathered js ws x n) (In (task js ws k)) (λ b. in_left _ r) (λ b. r))
      (cases_eq k n)

  pub gathered_short : (n : ℕ) → length (gathered js ws x n) ≤ n
  gathered_short zero = omega arith
  gathered_short (suc n) =
      let r : length (gathered js ws x n) ≤ n = gathered_short n in
      cond_both ((job js n).station == x) (gathered js ws x n ++ (task js ws n ∷ [])) (gathered js ws x n) (λ L. length L ≤ suc n) (λ b. omega (arith, length_push (gathered js ws x n) (task js ws n))) (λ b. omega arith)

-- for a loop that gathers the jobs of a station into an array, with a count beside it: how far it has come
pub record Gathering (js : List Job) (ws : List Window) (x : ℕ) (ts : List Task) (k m : ℕ) : Type 0 where
  pub room : length ts ≡ most_tasks
  pub count : m ≡ length (gathered js ws x k)
  pub taken : take m ts ≡ gathered js ws x k

pub gathering_none : (js : List Job) (ws : List Window) (x : ℕ) (ts : List Task) → length ts ≡ most_tasks → Gathering js ws x ts 0 0
gathering_none js ws x ts h = record { room = h; count = refl; taken = refl }

module _ (js : List Job) (ws : List Window) (x : ℕ) (ts : List Task) (k m : ℕ) (g : Gathering js ws x ts k m) where
  pub gathering_fits : k < most_tasks → m < length ts
  gathering_fits h = omega (arith, g.count, g.room, gathered_short js ws x k)

  pub gathering_yes : (job js k).station ≡ x → k < most_tasks → Gathering js ws x (slice_set ts m (task js ws k)) (k + 1) (m + 1)
  gathering_yes e h =
      let y : gathered js ws x (suc k) ≡ gathered js ws x k ++ (task js ws k ∷ []) = gathered_yes js ws x k e in
      rw (add-one k) (record {
        room = length-set ts m (task js ws k) ∙ g.room;
        count = omega (arith, g.count, length_push (gathered js ws x k) (task js ws k), ap length y);
        taken = take_more_set ts m (task js ws k) (gathering_fits h) ∙ ap (λ (L : List Task). L ++ (task js ws k ∷ [])) g.taken ∙ sym y;
      })

  pub gathering_no : ((job js k).station ≢ x) → Gathering js ws x ts (k + 1) m
  gathering_no e =
      let y : gathered js ws x (suc k) ≡ gathered js ws x k = gathered_no js ws x k e in
      rw (add-one k) (record { room = g.room; count = g.count ∙ ap length (sym y); taken = g.taken ∙ sym y })

pub gathering_as : (js : List Job) (ws : List Window) (x : ℕ) (ts us : List Task) (k m n : ℕ) → Gathering js ws x ts k m → us ≡ ts → n ≡ m → Gathering js ws x us k n
gathering_as js ws x ts us k m n g e f = rw (e, f) g

-- tasks of windows that are well formed
module _ (js : List Job) (ws : List Window) (entered : AllEntered js) (few : length js ≤ most_jobs) (f : WellFormed (length js) ws) (x : ℕ) where
  pub task_fit : (k : ℕ) → k < length ws → Fit (task js ws k)
  task_fit k h =
      let j = entered k (omega (arith, f.count)) in
      record { some = j.1; short = j.2; room = omega (arith, f.ordered k h); ends = omega (arith, f.timely k h, j.2) }

  pub tasks_formed : Formed (tasks_at js ws x)
  tasks_formed = record {
    few = omega (arith, gathered_short js ws x (length ws), f.count);
    fit = gathered_all js ws x Fit (length ws) (λ k h e. task_fit k h);
    distinct = gathered_pairwise js ws x (λ s t. s.job ≢ t.job) (length ws) (λ j k l h d e z. omega arith);
  }

  pub tasks_numbered : (n : ℕ) → length ws ≤ n → AllByRecursion (λ t. t.job < n) (tasks_at js ws x)
  tasks_numbered n z = gathered_all js ws x (λ t. t.job < n) (length ws) (λ k h e. omega arith)

  -- a job that is not at the station has no task there
  pub tasks_others : (k : ℕ) → ((job js k).station ≢ x) → AllByRecursion (λ t. t.job ≢ k) (tasks_at js ws x)
  tasks_others k n = gathered_all js ws x (λ t. t.job ≢ k) (length ws) (λ j h e z. n (subst (λ (i : ℕ). (job js i).station ≡ x) z e))

  pub task_in : (k : ℕ) → k < length ws → (job js k).station ≡ x → In (task js ws k) (tasks_at js ws x)
  task_in k h e = gathered_in js ws x (length ws) k h e

-- the starts of a timetable that the rules admit
module _ (js : List Job) (ws : List Window) (f : WellFormed (length js) ws) (t : List ℕ) (p : Disjoint js t) (n : Inside t ws) (x : ℕ) where
  pub tasks_placed : Placed (λ τ. slice_index t τ.job) (tasks_at js ws x)
  tasks_placed = record {
    apart = gathered_pairwise js ws x (Apart (λ τ. slice_index t τ.job)) (length ws) (λ j k l h d e. p j k (omega (arith, f.count)) (omega (arith, f.count)) (λ z. omega arith) (d ∙ sym e));
    low = gathered_all js ws x _ (length ws) (λ k h e. n.low k h);
    high = gathered_all js ws x _ (length ws) (λ k h e. omega (arith, n.high k h));
  }
