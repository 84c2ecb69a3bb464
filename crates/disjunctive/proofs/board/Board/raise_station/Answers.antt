-- What is left to show of `raise_station`.
use Rattle.std.proofs.Common.{◌≡◌, ◌<◌, All, List, map, length, get_or, sym, ap, ◌∙◌, subst, rules, arith}
use Rattle.std.proofs.ByRecursion.{All-map}
use Rattle.std.proofs.lemmas.Bool.{eqb-true}
use Rattle.std.proofs.lemmas.Result.{on_ok_weaker}
use Rattle.rule.specs.Forming.{formed_fact}
use Rattle.station.specs.declared.task.Task.{Task}
use Rattle.station.specs.Tasks.{Formed}
use Rattle.station.specs.Mirror.{mirror}
use Rattle.station.specs.Members.{In, all_places, at_in, in_map, in_places}
use Rattle.station.proofs.Reversing.{formed_mirror}
use Rattle.disjunctive.specs.Gathering.{tasks_at}
use Rattle.disjunctive.specs.Gathered.{tasks_formed, tasks_numbered, tasks_others, task_in}
use Rattle.disjunctive.proofs.Running.{AtStation, back_of, raised_as}
use Rattle.disjunctive.proofs.board.Board.raise_station.Goals as goal

-- no job is at a station that has no task
nobody : (U : List Task) (t : Task) → In t U → length U ≡ 0 → ⊥
nobody U t m e = let place = at_in m in omega (arith, place.1)

pub returns-then-is_empty-clause-lows : goal.returns-then-is_empty-clause-lows
returns-then-is_empty-clause-lows g c k h at =
    let b = c.args.self.now in
    absurd (nobody _ _ (task_in b.jobs.now b.windows.now b.entered b.few (formed_fact b.windows.now b.formed) c.args.station k h at) (ap length (sym c.gather.ensures.tasks) ∙ eqb-true _ _ (sym c.is_empty.ensures ∙ c.if-is_empty.true)))

pub returns-then-is_empty-clause-backs : goal.returns-then-is_empty-clause-backs
returns-then-is_empty-clause-backs g c k h at =
    let b = c.args.self.now in
    absurd (nobody _ _ (task_in b.jobs.now b.windows.now b.entered b.few (formed_fact b.windows.now b.formed) c.args.station k h at) (ap length (sym c.gather.ensures.tasks) ∙ eqb-true _ _ (sym c.is_empty.ensures ∙ c.if-is_empty.true)))

pub raise_by_job-requires-clause-formed : goal.raise_by_job-requires-clause-formed
raise_by_job-requires-clause-formed g c =
    let b = c.args.self.now in
    subst Formed (sym (c.deref_mut.ensures.value ∙ c.gather.ensures.tasks)) (tasks_formed b.jobs.now b.windows.now b.entered b.few (formed_fact b.windows.now b.formed) c.args.station)

pub raise_by_job-requires-clause-numbered : goal.raise_by_job-requires-clause-numbered
raise_by_job-requires-clause-numbered g c =
    let b = c.args.self.now in
    let f = formed_fact b.windows.now b.formed in
    let h : length c.args.starts.now.lows ≡ 48 = search rules in
    subst (λ (L : List Task). All (λ t. t.job < length c.args.starts.now.lows) L) (sym (c.deref_mut.ensures.value ∙ c.gather.ensures.tasks)) (all_places _ _ (tasks_numbered b.jobs.now b.windows.now b.entered b.few f c.args.station _ (omega (arith, f.count, b.few))))

pub returns-in_err-raise_by_job-clause-other_lows : goal.returns-in_err-raise_by_job-clause-other_lows
returns-in_err-raise_by_job-clause-other_lows g c k n =
    let b = c.args.self.now in
    c.raise_by_job.ensures.kept k (subst (All (λ t. t.job ≡ k → ⊥)) (sym (c.deref_mut.ensures.value ∙ c.gather.ensures.tasks)) (all_places _ _ (tasks_others b.jobs.now b.windows.now b.entered b.few (formed_fact b.windows.now b.formed) c.args.station k n)))

pub raise_by_job-requires-2-clause-formed : goal.raise_by_job-requires-2-clause-formed
raise_by_job-requires-2-clause-formed g c =
    let b = c.args.self.now in
    subst Formed (sym (c.deref_mut-2.ensures.value ∙ c.gather.ensures.mirrored)) (formed_mirror _ (tasks_formed b.jobs.now b.windows.now b.entered b.few (formed_fact b.windows.now b.formed) c.args.station))

pub raise_by_job-requires-2-clause-numbered : goal.raise_by_job-requires-2-clause-numbered
raise_by_job-requires-2-clause-numbered g c =
    let b = c.args.self.now in
    let f = formed_fact b.windows.now b.formed in
    let h : length c.args.starts.now.backs ≡ 48 = search rules in
    subst (λ (L : List Task). All (λ t. t.job < length c.args.starts.now.backs) L) (sym (c.deref_mut-2.ensures.value ∙ c.gather.ensures.mirrored)) (all_places _ _ (All-map (λ t. t.job < length c.args.starts.now.backs) mirror _ (tasks_numbered b.jobs.now b.windows.now b.entered b.few f c.args.station _ (omega (arith, f.count, b.few)))))

pub returns : goal.returns
returns g c =
    let b = c.args.self.now in
    let js = b.jobs.now in
    let ws = b.windows.now in
    let x = c.args.station in
    let U = tasks_at js ws x in
    let f = formed_fact ws b.formed in
    let e : c.deref_mut.result.now ≡ U = c.deref_mut.ensures.value ∙ c.gather.ensures.tasks in
    let m : c.deref_mut-2.result.now ≡ map mirror U = c.deref_mut-2.ensures.value ∙ c.gather.ensures.mirrored in
    let forth = c.in_ok-raise_by_job.ensures in
    let back = c.raise_by_job-2.ensures in
    let lows : AtStation g.K.Kernel.earliest js ws x c.raise_by_job.new.out = λ k h at.
    in_places (λ t. get_or c.raise_by_job.new.out t.job 0 ≡ g.K.Kernel.earliest t U) (task_in js ws b.entered b.few f x k h at) (raised_as g.K.Kernel.earliest _ U e _ forth.raised) in
    let backs : All (λ t. get_or c.raise_by_job-2.new.out t.job 0 ≡ g.K.Kernel.earliest t c.deref_mut-2.result.now) c.deref_mut-2.result.now → AtStation (back_of g.K.Kernel.earliest) js ws x c.raise_by_job-2.new.out = λ r k h at.
    in_places (λ t. get_or c.raise_by_job-2.new.out t.job 0 ≡ g.K.Kernel.earliest t (map mirror U)) (in_map mirror (task_in js ws b.entered b.few f x k h at)) (raised_as g.K.Kernel.earliest _ (map mirror U) m _ r) in
    record {
      load = back.load ∙ ap g.K.Kernel.overloaded m ∙ g.met.K.Kernel.lawful.mirrored_load U (tasks_formed js ws b.entered b.few f x).fit;
      lows = on_ok_weaker _ (λ _. lows) back.raised;
      other_lows = λ k n. c.raise_by_job.ensures.kept k (subst (All (λ t. t.job ≡ k → ⊥)) (sym e) (all_places _ _ (tasks_others js ws b.entered b.few f x k n)));
      backs = on_ok_weaker _ backs back.raised;
      other_backs = λ k n. back.kept k (subst (All (λ t. t.job ≡ k → ⊥)) (sym m) (all_places _ _ (All-map (λ t. t.job ≡ k → ⊥) mirror U (tasks_others js ws b.entered b.few f x k n))));
    }
