-- What the passes of edge finding work out for the sets that end by minute b, over tasks in the order of their starts.
use Rattle.std.specs.Prelude.{ℕ, zero, suc, ◌+◌, max, Bool, cond, List, [], ◌∷◌, drop, nat_le, nat_lt}
use Rattle.station.specs.declared.task.Task.{Task}
use Rattle.station.specs.Tasks.{at}
use Rattle.station.specs.Sets.{total}

-- the work of those of which the test holds
abbrev pub work_of : (Task → Bool) → List Task → ℕ
work_of q U = total (λ t. cond (q t) t.span 0) U

abbrev pub ends_by : ℕ → Task → Bool
ends_by b t = nat_le t.end b

-- the greatest of a start and the work from there on
abbrev pub completion_by : ℕ → List Task → ℕ
completion_by b [] = 0
completion_by b (t ∷ U) = cond (ends_by b t) (max (completion_by b U) (t.lo + (t.span + work_of (ends_by b) U))) (completion_by b U)

-- the greatest of a start and the work from there on, where the start is of one of the first q
abbrev pub completion_before : ℕ → List Task → ℕ → ℕ
completion_before b U zero = 0
completion_before b U (suc k) = cond (ends_by b (at U k)) (max (completion_before b U k) ((at U k).lo + work_of (ends_by b) (drop k U))) (completion_before b U k)

-- what the pass down makes of the bound x of the task at place q: the sets that stand behind it
abbrev pub raised_by_later : ℕ → List Task → ℕ → ℕ → ℕ
raised_by_later b U q x =
    cond (ends_by b (at U q)) x
    (max x (cond (nat_lt b ((at U q).lo + ((at U q).span + work_of (ends_by b) (drop (suc q) U)))) (completion_by b (drop (suc q) U)) 0))

-- and the pass up: the sets that begin before it
abbrev pub raised_by_earlier : ℕ → List Task → ℕ → ℕ → ℕ
raised_by_earlier b U q x =
    cond (ends_by b (at U q)) x
    (max x (cond (nat_lt b (completion_before b U q + (at U q).span)) (completion_by b U) 0))

abbrev pub raised_by_both : ℕ → List Task → ℕ → ℕ → ℕ
raised_by_both b U q x = raised_by_earlier b U q (raised_by_later b U q x)

-- the passes for the ends of the first n tasks
abbrev pub raised_by_all : List Task → ℕ → ℕ → ℕ
raised_by_all U q zero = (at U q).lo
raised_by_all U q (suc n) = raised_by_both (at U n).end U q (raised_by_all U q n)

-- whether the work by an end passes it
abbrev pub passes_end : List Task → Task → Bool
passes_end U t = nat_lt t.end (completion_by t.end U)
