-- What is left to show of `propagate`.
use Rattle.std.proofs.Common.{◌≡◌, ℕ, ◌+◌, ◌-◌, ◌≤◌, true, List, length, sym, ap, ◌∙◌, subst}
use Rattle.std.proofs.lemmas.Bool.{cond-false}
use Rattle.sheet.specs.declared.records.Job.{Job}
use Rattle.sheet.specs.Sheets.{entries}
use Rattle.sheet.specs.Sound.{AllEntered}
use Rattle.sheet.proofs.Soundness.{sheet_sound}
use Rattle.rule.specs.Bounds.{together}
use Rattle.rule.specs.Cuts.{Cut, verdict_of, left}
use Rattle.rule.specs.Forming.{formed_fact}
use Rattle.rule.specs.Windows.{formed}
use Rattle.station.specs.Limits.{horizon}
use Rattle.disjunctive.specs.Gathering.{span, tasks_at}
use Rattle.disjunctive.specs.StationCuts.{any_below, stations, station_cut}
use Rattle.disjunctive.proofs.Running.{low_of, limit_of, limit_is, together_same}
use Rattle.disjunctive.proofs.stations.propagate.Goals as goal

pub returns-in-Ok : goal.returns-in-Ok
returns-in-Ok g c =
    let K = g.K.Kernel in
    let js : List Job = c.jobs-jobs.result.now in
    let ws = c.args.windows.now in
    let same : js ≡ (entries c.args.sheet.now).jobs = c.jobs-jobs.ensures in
    let sound = sheet_sound c.args.sheet.now in
    let entered : AllEntered js = subst AllEntered (sym same) sound.entered in
    let few : length js ≤ 48 = subst (λ (L : List Job). length L ≤ 48) (sym same) sound.few_jobs in
    let f = formed_fact ws (subst (λ (L : List Job). formed (length L) ws ≡ true) (sym same) c.requires) in
    let starts = c.in-Ok.starts in
    let r = c.in-Ok.ensures in
    let cut : station_cut K.overloaded K.earliest K.limit js ws ≡ together (low_of starts.lows) (limit_of js starts.backs) (length ws) =
    cond-false (any_below (λ x. K.overloaded (tasks_at js ws x)) stations) _ _ (sym r.load) ∙
    together_same _ _ _ _ (length ws) (λ k h. sym (r.lows k h)) (λ k h.
    limit_is K.overloaded K.earliest K.limit g.met.K.Kernel.lawful js ws entered few f k h ∙
    ap (λ (x : ℕ). horizon + 1 - (x + span js k)) (sym (r.backs k h))) in
    let told : (λ (L : List Job). station_cut K.overloaded K.earliest K.limit L ws) (entries c.args.sheet.now).jobs ≡ together (low_of starts.lows) (limit_of js starts.backs) (length ws) =
    ap (λ (L : List Job). station_cut K.overloaded K.earliest K.limit L ws) (sym same) ∙ cut in
    record {
      answer = c.set_together.ensures.answer ∙ ap verdict_of (sym told);
      after = c.set_together.ensures.after ∙ ap (λ (x : Cut). left x ws) (sym told);
    }
