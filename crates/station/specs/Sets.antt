-- Sets of tasks, as lists, with their earliest start, latest completion and work.
use Rattle.std.specs.Prelude.{ℕ, ◌+◌, min, max, Bool, true, false, cond, not, List, [], ◌∷◌, ◌++◌, map, filter, ◌==◌}
use Rattle.station.specs.declared.task.Task.{Task}

-- every part of a set, the empty one and the whole among them
abbrev pub sublists : {X : Type 0} → List X → List (List X)
sublists [] = [] ∷ []
sublists (x ∷ L) = sublists L ++ map (λ S. x ∷ S) (sublists L)

-- whether a set is not empty
abbrev pub nonempty : {X : Type 0} → List X → Bool
nonempty [] = false
nonempty (x ∷ S) = true

-- the least and the greatest value in a set; 0 where it is empty
abbrev pub least : (Task → ℕ) → List Task → ℕ
least f [] = 0
least f (t ∷ []) = f t
least f (t ∷ s ∷ S) = min (f t) (least f (s ∷ S))

abbrev pub greatest : (Task → ℕ) → List Task → ℕ
greatest f [] = 0
greatest f (t ∷ S) = max (f t) (greatest f S)

-- the sum of the values
abbrev pub total : (Task → ℕ) → List Task → ℕ
total f [] = 0
total f (t ∷ S) = f t + total f S

-- the earliest start
abbrev pub est : List Task → ℕ
est S = least (λ t. t.lo) S

-- the latest completion
abbrev pub lct : List Task → ℕ
lct S = greatest (λ t. t.end) S

-- the sum of the spans
abbrev pub work : List Task → ℕ
work S = total (λ t. t.span) S

-- the tasks of other jobs
abbrev pub others : Task → List Task → List Task
others i L = filter (λ t. not (t.job == i.job)) L

-- x, made at least the value of each of which the test holds
abbrev pub at_least : {X : Type 0} → (X → Bool) → (X → ℕ) → ℕ → List X → ℕ
at_least f g x [] = x
at_least f g x (a ∷ L) = cond (f a) (max (g a) (at_least f g x L)) (at_least f g x L)

-- x, made at most the value of each of which the test holds
abbrev pub at_most : {X : Type 0} → (X → Bool) → (X → ℕ) → ℕ → List X → ℕ
at_most f g x [] = x
at_most f g x (a ∷ L) = cond (f a) (min (g a) (at_most f g x L)) (at_most f g x L)
