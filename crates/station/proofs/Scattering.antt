-- Values of tasks, written out by job number.
use Rattle.std.proofs.Common.{◌≡◌, ℕ, ◌+◌, ◌<◌, List, length, get_or, set, sym, ap, ◌∙◌, All, subst, ⊎_elim, arith, get_or-set_other, get_or-set_same}
use Rattle.std.specs.List.Sorted.{IsPermutation}
use Rattle.std.proofs.lemmas.Bool.{cases_eq}
use Rattle.std.proofs.lemmas.List.{get_or_default}
use Rattle.std.proofs.lemmas.List.Sorted.{All-permutation, IsPermutation-sym}
use Rattle.station.specs.declared.task.Task.{Task}
use Rattle.station.specs.Tasks.{Formed, at, no_task}
use Rattle.station.specs.Pairwise.{pairwise_at}

-- those of the first q tasks are written out, and nothing else is
pub record Scattered (U : List Task) (vs xs ys : List ℕ) (q : ℕ) : Type 0 where
  pub done : (k : ℕ) → k < q → get_or ys (at U k).job 0 ≡ get_or vs k 0
  pub kept : (j : ℕ) → All (λ t. t.job ≡ j → ⊥) U → get_or ys j 0 ≡ get_or xs j 0

pub scattered_more : (U : List Task) (vs xs ys : List ℕ) (q : ℕ) → Formed U → q < length U → Scattered U vs xs ys q → (t : Task) → t ≡ at U q → (v : ℕ) → v ≡ get_or vs q 0 → t.job < length ys → (n : ℕ) → n ≡ q + 1 → Scattered U vs xs (set ys t.job v) n
scattered_more U vs xs ys q f h s t at_q v value b n more = record {
  done = λ k l.
      ⊎_elim
      (λ (e : k ≡ q). subst (λ (u : Task). get_or (set ys t.job v) u.job 0 ≡ get_or vs k 0) (at_q ∙ ap (at U) (sym e)) (get_or-set_same ys t.job v 0 b ∙ value ∙ ap (λ (j : ℕ). get_or vs j 0) (sym e)))
      (λ (e : k ≡ q → ⊥). get_or-set_other ys t.job (at U k).job v 0 (λ y. pairwise_at (λ s t. s.job ≡ t.job → ⊥) U f.distinct k q (omega arith) h (y ∙ ap (λ (u : Task). u.job) at_q)) ∙ s.done k (omega arith))
      (cases_eq k q);
  kept = λ j a. get_or-set_other ys t.job j v 0 (λ y. a q no_task h (ap (λ (u : Task). u.job) (sym at_q) ∙ sym y)) ∙ s.kept j a;
}

-- what holds of the tasks in one order holds of them in the other
pub by_job : (L U : List Task) → IsPermutation L U → (ys : List ℕ) (v : Task → ℕ) → ((k : ℕ) → k < length U → get_or ys (at U k).job 0 ≡ v (at U k)) → All (λ t. get_or ys t.job 0 ≡ v t) L
by_job L U s ys v f = All-permutation (λ t. get_or ys t.job 0 ≡ v t) U L (IsPermutation-sym L U s) (λ k d h. subst (λ (t : Task). get_or ys t.job 0 ≡ v t) (sym (get_or_default U k d no_task h)) (f k h))
