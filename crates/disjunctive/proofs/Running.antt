-- A kernel, run over the stations.
use Rattle.std.proofs.Common.{◌≡◌, ℕ, zero, suc, ◌+◌, ◌-◌, ◌<◌, ◌≤◌, Bool, false, List, All, map, length, get_or, refl, ap, subst, arith}
use Rattle.sheet.specs.declared.records.Job.{Job}
use Rattle.sheet.specs.declared.records.Window.{Window}
use Rattle.sheet.specs.Entries.{job}
use Rattle.sheet.specs.Limits.{most_jobs}
use Rattle.sheet.specs.Sound.{AllEntered}
use Rattle.rule.specs.Bounds.{between, tabulate, all_open, together}
use Rattle.rule.specs.Forming.{window_eq}
use Rattle.station.specs.declared.task.Task.{Task}
use Rattle.station.specs.Limits.{horizon}
use Rattle.station.specs.Mirror.{mirror}
use Rattle.station.specs.Members.{all_in}
use Rattle.disjunctive.specs.Gathering.{span, task, tasks_at}
use Rattle.disjunctive.specs.StationCuts.{among, any_below}
use Rattle.disjunctive.specs.Gathered.{task_in, tasks_formed}
use Rattle.rule.specs.Windows.{Formed as WellFormed}
use Rattle.station.specs.Kernels.{Lawful as KernelLawful}

-- values by job number, of all jobs at station x
abbrev pub AtStation : (Task → List Task → ℕ) → List Job → List Window → ℕ → List ℕ → Type 0
AtStation figure js ws x vs = (k : ℕ) → k < length ws → (job js k).station ≡ x → get_or vs k 0 ≡ figure (task js ws k) (tasks_at js ws x)

-- the same as time runs back
abbrev pub back_of : (Task → List Task → ℕ) → Task → List Task → ℕ
back_of e i U = e (mirror i) (map mirror U)

-- values by job number, of all jobs at the stations below x
abbrev Filled : (Task → List Task → ℕ) → List Job → List Window → List ℕ → ℕ → Type 0
Filled figure js ws vs x = (k : ℕ) → k < length ws → (job js k).station < x → get_or vs k 0 ≡ among figure js ws k

pub raised_as : (figure : Task → List Task → ℕ) (L V : List Task) → L ≡ V → (out : List ℕ) → All (λ t. get_or out t.job 0 ≡ figure t L) L → All (λ t. get_or out t.job 0 ≡ figure t V) V
raised_as figure L V e out a = subst (λ (W : List Task). All (λ t. get_or out t.job 0 ≡ figure t W) W) e a

-- how far the stations have been gone through
pub record Through (o : List Task → Bool) (e : Task → List Task → ℕ) (js : List Job) (ws : List Window) (lows backs : List ℕ) (x : ℕ) : Type 0 where
  pub calm : any_below (λ x. o (tasks_at js ws x)) x ≡ false
  pub forth : Filled e js ws lows x
  pub back : Filled (back_of e) js ws backs x

-- the limits out of the first starts as time runs back
pub limit_is : (o : List Task → Bool) (e l : Task → List Task → ℕ) → KernelLawful o e l → (js : List Job) (ws : List Window) → AllEntered js → length js ≤ most_jobs → WellFormed (length js) ws → (k : ℕ) → k < length ws →
    among l js ws k ≡ horizon + 1 - (among (back_of e) js ws k + span js k)
limit_is o e l law js ws entered few f k h =
    let x = (job js k).station in
    all_in (λ i. l i (tasks_at js ws x) ≡ horizon + 1 - (e (mirror i) (map mirror (tasks_at js ws x)) + i.span)) (task_in js ws entered few f x k h refl)
    (law.mirrored (tasks_at js ws x) (tasks_formed js ws entered few f x).fit)

-- the bounds that `set_together` reads off
abbrev pub low_of : List ℕ → ℕ → ℕ
low_of lows k = get_or lows k 0

abbrev pub limit_of : List Job → List ℕ → ℕ → ℕ
limit_of js backs k = horizon + 1 - (get_or backs k 0 + span js k)

-- bounds that are the same for each job are the same set together
open_same : (lo lo' end end' : ℕ → ℕ) (n : ℕ) → ((k : ℕ) → k < n → lo k ≡ lo' k) → ((k : ℕ) → k < n → end k ≡ end' k) → all_open lo end n ≡ all_open lo' end' n
open_same lo lo' end end' zero p q = refl
open_same lo lo' end end' (suc n) p q =
    let r : all_open lo end n ≡ all_open lo' end' n = open_same lo lo' end end' n (λ k h. p k (omega arith)) (λ k h. q k (omega arith)) in
    let a : lo n ≡ lo' n = p n (omega arith) in
    let b : end n ≡ end' n = q n (omega arith) in
    cc

tabulate_same : (f g : ℕ → Window) (n : ℕ) → ((k : ℕ) → k < n → f k ≡ g k) → tabulate f n ≡ tabulate g n
tabulate_same f g zero p = refl
tabulate_same f g (suc n) p =
    let r : tabulate f n ≡ tabulate g n = tabulate_same f g n (λ k h. p k (omega arith)) in
    let a : f n ≡ g n = p n (omega arith) in
    cc

pub together_same : (lo lo' end end' : ℕ → ℕ) (n : ℕ) → ((k : ℕ) → k < n → lo k ≡ lo' k) → ((k : ℕ) → k < n → end k ≡ end' k) → together lo end n ≡ together lo' end' n
together_same lo lo' end end' n p q =
    let r : all_open lo end n ≡ all_open lo' end' n = open_same lo lo' end end' n p q in
    let t : tabulate (between lo end) n ≡ tabulate (between lo' end') n = tabulate_same (between lo end) (between lo' end') n (λ k h. window_eq _ _ (p k h) (ap (λ (m : ℕ). m - 1) (q k h))) in
    cc
