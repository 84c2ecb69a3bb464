-- Edge finding at one station, over all sets S of its tasks: a task that has to end last, or to start first, does so.
use Rattle.std.specs.Prelude.{ℕ, ◌+◌, ◌-◌, Bool, ◌&&◌, List, ◌∷◌, nat_lt}
use Rattle.std.specs.List.{list_any}
use Rattle.station.specs.declared.task.Task.{Task}
use Rattle.station.specs.Limits.{horizon}
use Rattle.station.specs.Tasks.{own_limit}
use Rattle.station.specs.Sets.{sublists, nonempty, est, lct, work, at_least, at_most, others}

-- p(S) > lct(S) − est(S)
abbrev pub overloads : List Task → Bool
overloads S = nonempty S && nat_lt (lct S) (est S + work S)

abbrev pub edges_overloaded : List Task → Bool
edges_overloaded U = list_any overloads (sublists U)

-- est(S+i) + p(S+i) > lct(S): i ends after all of S
abbrev pub ends_last : Task → List Task → Bool
ends_last i S = nonempty S && nat_lt (lct S) (est (i ∷ S) + work (i ∷ S))

-- the greatest est(T) + p(T) over the non-empty parts T of S
abbrev pub earliest_completion : List Task → ℕ
earliest_completion S = at_least nonempty (λ T. est T + work T) 0 (sublists S)

-- lo_i becomes at least est(T) + p(T)
abbrev pub edges_earliest : Task → List Task → ℕ
edges_earliest i U = at_least (ends_last i) earliest_completion i.lo (sublists (others i U))

-- lct(S+i) − p(S+i) < est(S): i starts before all of S
abbrev pub starts_first : Task → List Task → Bool
starts_first i S = nonempty S && nat_lt (lct (i ∷ S)) (est S + work (i ∷ S))

-- the least limit of i over the non-empty parts T of S, where i ends by lct(T) − p(T)
abbrev pub limit_before : Task → List Task → ℕ
limit_before i S = at_most nonempty (λ T. lct T + 1 - (work T + i.span)) (horizon + 1) (sublists S)

-- hi_i + p_i becomes at most lct(T) − p(T)
abbrev pub edges_limit : Task → List Task → ℕ
edges_limit i U = at_most (starts_first i) (limit_before i) (own_limit i) (sublists (others i U))
