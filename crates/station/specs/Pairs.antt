-- Pairs at one station: of two tasks of which one cannot come before the other, it comes after it.
use Rattle.std.specs.Prelude.{ℕ, ◌+◌, ◌-◌, Bool, List, nat_lt}
use Rattle.station.specs.declared.task.Task.{Task}
use Rattle.station.specs.Tasks.{ect, last_start, own_limit}
use Rattle.station.specs.Sets.{at_least, at_most, others}

-- lo_i + p_i > hi_j: i cannot come before j
abbrev pub comes_after : Task → Task → Bool
comes_after i j = nat_lt (last_start j) (ect i)

-- lo_i becomes at least lo_j + p_j
abbrev pub pairs_earliest : Task → List Task → ℕ
pairs_earliest i U = at_least (comes_after i) ect i.lo (others i U)

-- hi_j becomes at most hi_i − p_j; this is one more
abbrev pub pairs_limit : Task → List Task → ℕ
pairs_limit j U = at_most (λ i. comes_after i j) (λ i. last_start i + 1 - j.span) (own_limit j) (others j U)
