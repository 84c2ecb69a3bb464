-- What is left to show of `all_open`.
use Rattle.std.proofs.Common.{ℕ, ◌+◌, ◌-◌, Bool, nat_lt, refl, rules, ◌∙◌}
use Rattle.std.proofs.lemmas.Iterator.{YieldsList-from_slice}
use Rattle.std.proofs.lemmas.Iterator.Consumers.{YieldsList-from_enumerate}
use Rattle.std.proofs.lemmas.Iterator.Search.{all_from_yields_List}
use Rattle.sheet.specs.declared.records.Job.{Job}
use Rattle.station.specs.Limits.{horizon}
use Rattle.disjunctive.proofs.Running.{low_of, limit_of}
use Rattle.disjunctive.proofs.Opening.{open_listed}
use Rattle.disjunctive.proofs.starts.Starts.all_open.Goals as goal

pub returns : goal.returns
returns c =
    let s = c.args.self.now in
    let js = c.args.jobs.now in
    let test : ℕ × Job → Bool = λ p. nat_lt (low_of s.lows p.0) (horizon + 1 - (low_of s.backs p.0 + p.1.duration)) in
    all_from_yields_List test _ _ c.all.result c.all.ensures.ran (YieldsList-from_enumerate (YieldsList-from_slice js cc) cc) (λ x b q k. search rules) ∙
    open_listed (low_of s.lows) (limit_of js s.backs) js test (λ k. refl)
