-- Not-first and not-last at one station, over all sets S of its tasks: a task that cannot come before all of S comes after
-- one of them, and one that cannot come after all of S comes before one of them.
use Rattle.std.specs.Prelude.{ℕ, ◌+◌, ◌-◌, Bool, ◌&&◌, List, nat_lt}
use Rattle.station.specs.declared.task.Task.{Task}
use Rattle.station.specs.Tasks.{ect, last_start, own_limit}
use Rattle.station.specs.Sets.{sublists, nonempty, least, greatest, est, lct, work, at_least, at_most, others}

-- lct(S) − lo_i < p(S) + p_i
abbrev pub not_first : Task → List Task → Bool
not_first i S = nonempty S && nat_lt (lct S) (i.lo + (work S + i.span))

-- lo_i becomes at least the least lo_j + p_j in S
abbrev pub not_first_earliest : Task → List Task → ℕ
not_first_earliest i U = at_least (not_first i) (λ S. least ect S) i.lo (sublists (others i U))

-- hi_i + p_i − est(S) < p(S) + p_i
abbrev pub not_last : Task → List Task → Bool
not_last i S = nonempty S && nat_lt i.end (est S + (work S + i.span))

-- hi_i + p_i becomes at most the greatest hi_j in S
abbrev pub not_first_limit : Task → List Task → ℕ
not_first_limit i U = at_most (not_last i) (λ S. greatest last_start S + 1 - i.span) (own_limit i) (sublists (others i U))
