-- A pass over tasks from the last down, which keeps two figures of the tasks behind it and rewrites a bound for each.
use Rattle.std.proofs.Common.{◌≡◌, ℕ, suc, ◌+◌, ◌<◌, ◌≤◌, List, [], ◌∷◌, ◌++◌, length, get_or, drop, set, sym, ap, ◌∙◌, append_assoc, arith}
use Rattle.std.proofs.lemmas.List.{length_push, get_or_at}
use Rattle.station.specs.declared.task.Task.{Task}
use Rattle.station.specs.Sets.{work}
use Rattle.station.specs.Tasks.{at, no_task}
use Rattle.station.proofs.Rewriting.{DownTo, down_same, down_set}

pub record Pass (work figure : List Task → ℕ) (raised : ℕ → ℕ → ℕ) (U : List Task) (xs ys : List ℕ) (k w t : ℕ) : Type 0 where
  pub within : k ≤ length U
  pub work_is : w ≡ work (drop k U)
  pub figure_is : t ≡ figure (drop k U)
  pub lows : DownTo 0 raised xs (length U) ys k

module _ (work figure : List Task → ℕ) (raised : ℕ → ℕ → ℕ) (U : List Task) (xs : List ℕ) where
  -- one place further down
  module _ (ys : List ℕ) (k w t j : ℕ) (d : Pass work figure raised U xs ys k w t) (s : k ≡ suc j) where
    pub inside : j < length U
    inside = omega (arith, d.within)

    pub same_work : w ≡ work (drop (suc j) U)
    same_work = d.work_is ∙ ap (λ (n : ℕ). work (drop n U)) s

    pub same_figure : t ≡ figure (drop (suc j) U)
    same_figure = d.figure_is ∙ ap (λ (n : ℕ). figure (drop n U)) s

    pub pass_set : (v r : ℕ) → v ≡ work (drop j U) → r ≡ figure (drop j U) → (x : ℕ) → j < length ys → x ≡ raised j (get_or ys j 0) → Pass work figure raised U xs (set ys j x) j v r
    pass_set v r p q x l e = record { within = omega (arith, inside); work_is = p; figure_is = q; lows = down_set 0 raised xs (length U) ys k j d.lows s x l e }

    pub pass_same : (v r : ℕ) → v ≡ work (drop j U) → r ≡ figure (drop j U) → get_or ys j 0 ≡ raised j (get_or ys j 0) → Pass work figure raised U xs ys j v r
    pass_same v r p q e = record { within = omega (arith, inside); work_is = p; figure_is = q; lows = down_same 0 raised xs (length U) ys k j d.lows s e }

pub pass_as : (work figure : List Task → ℕ) (raised : ℕ → ℕ → ℕ) (U : List Task) (xs ys zs : List ℕ) (k w v t r : ℕ) → Pass work figure raised U xs ys k w t → zs ≡ ys → v ≡ w → r ≡ t → Pass work figure raised U xs zs k v r
pass_as work figure raised U xs ys zs k w v t r p a b c = rw (a, b, c) p

-- what a pass from the last task down has left, with the count that its places begin at
pub record Front (U R : List Task) (n : ℕ) : Type 0 where
  pub from_zero : n ≡ 0
  pub behind : List Task
  pub parts : U ≡ R ++ behind

-- one place further down: what is left then, its length, the length before, and which task is met
pub front_turn : {U R S : List Task} {n m k : ℕ} {t : Task} → Front U R n → m ≡ n → R ≡ S ++ t ∷ [] → k ≡ n + length S → Front U S m × (length S ≡ k) × (length R ≡ suc k) × (t ≡ at U k)
front_turn {U} {R} {S} {n} {m} {k} {t} f same last place =
    let parts : U ≡ S ++ (t ∷ f.behind) = f.parts ∙ ap (λ (xs : List Task). xs ++ f.behind) last ∙ append_assoc S (t ∷ []) f.behind in
    let here : length S ≡ k = omega (arith, f.from_zero) in (
      record { from_zero = same ∙ f.from_zero; behind = t ∷ f.behind; parts = parts },
      here,
      omega (arith, ap length last, length_push S t),
      sym (ap (λ (xs : List Task). at xs k) parts ∙ get_or_at S t f.behind no_task k here),
    )
