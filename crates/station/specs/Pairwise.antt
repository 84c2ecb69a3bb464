-- Lists of which each stands so to every later one.
use Rattle.std.specs.Prelude.{◌≡◌, ℕ, zero, suc, ◌<◌, ◌⊎◌, List, [], ◌∷◌, ◌++◌, length, drop, ◌≢◌}
use Rattle.std.proofs.Common.{sym, ap, subst, ◌∙◌, inl, inr, ⊎_elim, arith}
use Rattle.std.specs.List.{AllByRecursion}
use Rattle.std.proofs.ByRecursion.{All-from_get_or, All-get_or, All-push}
use Rattle.std.proofs.lemmas.Bool.{cases_order}
use Rattle.station.specs.declared.task.Task.{Task}
use Rattle.station.specs.Tasks.{Pairwise, at, no_task}
use Rattle.station.specs.Members.{In, Sublist, all_sublist, at_in, keep, none, skip}

module _ {X : Type 0} (R : X → X → Type 0) where
  pub pairwise_sublist : {S L : List X} → Sublist S L → Pairwise R L → Pairwise R S
  pairwise_sublist none h = tt
  pairwise_sublist (skip p) h = pairwise_sublist p h.1
  pairwise_sublist (keep p) h = (all_sublist (R _) p h.0, pairwise_sublist p h.1)

  pub pairwise_drop : (n : ℕ) (L : List X) → Pairwise R L → Pairwise R (drop n L)
  pairwise_drop zero L h = h
  pairwise_drop (suc n) [] h = h
  pairwise_drop (suc n) (x ∷ L) h = pairwise_drop n L h.1

  pub pairwise_push : (L : List X) (y : X) → Pairwise R L → AllByRecursion (λ x. R x y) L → Pairwise R (L ++ (y ∷ []))
  pairwise_push [] y h a = (tt, tt)
  pairwise_push (x ∷ L) y h a = (All-push (R x) L y h.0 a.0, pairwise_push L y h.1 a.1)

-- by places of tasks
module _ (R : Task → Task → Type 0) where
  pub pairwise_from : (U : List Task) → ((j k : ℕ) → j < k → k < length U → R (at U j) (at U k)) → Pairwise R U
  pairwise_from [] f = tt
  pairwise_from (t ∷ U) f =
      (All-from_get_or (R t) U no_task (λ k l. f 0 (suc k) (omega arith) (omega arith)), pairwise_from U (λ j k l m. f (suc j) (suc k) (omega arith) (omega arith)))

  pub pairwise_at : (U : List Task) → Pairwise R U → (j k : ℕ) → j < k → k < length U → R (at U j) (at U k)
  pairwise_at [] s j k h l = absurd (omega arith)
  pairwise_at (x ∷ U) s zero zero h l = absurd (omega arith)
  pairwise_at (x ∷ U) s zero (suc k) h l = All-get_or (R x) U k no_task (omega arith) s.0
  pairwise_at (x ∷ U) s (suc j) zero h l = absurd (omega arith)
  pairwise_at (x ∷ U) s (suc j) (suc k) h l = pairwise_at U s.1 j k (omega arith) (omega arith)

  -- all behind a place
  pub pairwise_behind : (k : ℕ) (U : List Task) → k < length U → Pairwise R U → AllByRecursion (R (at U k)) (drop (suc k) U)
  pairwise_behind k [] h s = absurd (omega arith)
  pairwise_behind zero (x ∷ U) h s = s.0
  pairwise_behind (suc k) (x ∷ U) h s = pairwise_behind k U (omega arith) s.1

  -- two tasks of different jobs, in either order
  pub pairwise_in : {U : List Task} → Pairwise R U → (x y : Task) → In x U → In y U → (x.job ≢ y.job) → R x y ⊎ R y x
  pairwise_in {U} s x y m n d =
      let p = at_in m in
      let q = at_in n in
      let put : (a b : Task) (j k : ℕ) → at U j ≡ a → at U k ≡ b → R (at U j) (at U k) → R a b = λ a b j k e f r. subst (λ (t : Task). R a t) f (subst (λ (t : Task). R t (at U k)) e r) in
      ⊎_elim
      (λ (e : p.0 ≡ q.0). absurd (d (ap (λ (t : Task). t.job) (sym p.2 ∙ ap (at U) e ∙ q.2))))
      (λ (e : (p.0 < q.0) ⊎ (q.0 < p.0)).
      ⊎_elim
      (λ (l : p.0 < q.0). inl (put x y p.0 q.0 p.2 q.2 (pairwise_at U s p.0 q.0 l q.1)))
      (λ (l : q.0 < p.0). inr (put y x q.0 p.0 q.2 p.2 (pairwise_at U s q.0 p.0 l p.1)))
      e)
      (cases_order p.0 q.0)

-- of distinct jobs, the task of a job is one
pub pairwise_one : (U : List Task) → Pairwise (λ s t. s.job ≢ t.job) U → (x y : Task) → In x U → In y U → x.job ≡ y.job → x ≡ y
pairwise_one U d x y m n e =
    let p = at_in m in
    let q = at_in n in
    let jobs : (at U p.0).job ≡ (at U q.0).job = ap (λ (t : Task). t.job) p.2 ∙ e ∙ ap (λ (t : Task). t.job) (sym q.2) in
    ⊎_elim
    (λ (z : p.0 ≡ q.0). sym p.2 ∙ ap (at U) z ∙ q.2)
    (λ (z : (p.0 < q.0) ⊎ (q.0 < p.0)).
    ⊎_elim
    (λ (l : p.0 < q.0). absurd (pairwise_at _ U d p.0 q.0 l q.1 jobs))
    (λ (l : q.0 < p.0). absurd (pairwise_at _ U d q.0 p.0 l p.1 (sym jobs)))
    z)
    (cases_order p.0 q.0)
