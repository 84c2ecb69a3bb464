-- What the passes' figures say of intervals.
use Rattle.std.proofs.Common.{◌≡◌, ℕ, zero, suc, ◌+◌, ◌<◌, ◌≤◌, max, Bool, true, false, cond, ◌⊎◌, List, [], ◌∷◌, length, drop, sym, refl, ◌∙◌, subst, inl, inr, ⊎_elim, arith}
use Rattle.std.specs.List.{AllByRecursion}
use Rattle.std.proofs.lemmas.Bool.{cases_Bool, cond-true, cond-false, cond_both, cases_lt, cases_eq, and_from, and_parts, leb-true, le-leb, lt-leb}
use Rattle.station.specs.declared.task.Task.{Task}
use Rattle.station.specs.EdgesPasses.{completion_before, completion_by, ends_by, work_of}
use Rattle.station.specs.Tasks.{Pairwise, at}
use Rattle.station.proofs.Intervals.{inside, inside_fact, inside_from}
use Rattle.station.specs.Members.{In, all_from, all_in, here, there}
use Rattle.station.specs.Works.{span_no, span_yes, work_mono}

abbrev pub inner : ℕ → ℕ → Task → Bool
inner a b = inside (λ t. t.lo) a b

-- each task starts no sooner than those before it
abbrev pub Rising : List Task → Type 0
Rising U = Pairwise (λ s t. s.lo ≤ t.lo) U

pub inner_by : (a b : ℕ) (L : List Task) → work_of (inner a b) L ≤ work_of (ends_by b) L
inner_by a b L = work_mono (inner a b) (ends_by b) L (all_from _ L (λ t m e. (and_parts _ _ e).1))

-- where every task starts at a or later, the interval from a has all that end by b
pub by_inner : (a b : ℕ) (L : List Task) → AllByRecursion (λ t. a ≤ t.lo) L → work_of (ends_by b) L ≤ work_of (inner a b) L
by_inner a b L h = work_mono (ends_by b) (inner a b) L (all_from _ L (λ t m e. and_from _ _ (le-leb _ _ (all_in (λ t. a ≤ t.lo) m h)) e))

module _ (b : ℕ) where
  pub completion_yes : (t : Task) (U : List Task) → t.end ≤ b → completion_by b (t ∷ U) ≡ max (completion_by b U) (t.lo + (t.span + work_of (ends_by b) U))
  completion_yes t U e = cond-true (ends_by b t) _ _ (le-leb _ _ e)

  pub completion_no : (t : Task) (U : List Task) → b < t.end → completion_by b (t ∷ U) ≡ completion_by b U
  completion_no t U e = cond-false (ends_by b t) _ _ (lt-leb _ _ e)

  completion_rest : (t : Task) (U : List Task) → completion_by b U ≤ completion_by b (t ∷ U)
  completion_rest t U = cond_both (ends_by b t) _ _ (λ x. completion_by b U ≤ x) (λ e. omega arith) (λ e. omega arith)

  -- no interval that has work passes the figure
  pub completion_ge : (a : ℕ) (U : List Task) → 0 < work_of (inner a b) U → a + work_of (inner a b) U ≤ completion_by b U
  completion_ge a [] h = absurd (omega arith)
  completion_ge a (t ∷ U) h =
      ⊎_elim
      (λ (e : inner a b t ≡ true).
      let f = inside_fact (λ t. t.lo) a b t e in
      omega (arith, f.0, span_yes (inner a b) t e, completion_yes t U f.1, inner_by a b U))
      (λ (e : inner a b t ≡ false).
      let z : cond (inner a b t) t.span 0 ≡ 0 = span_no (inner a b) t e in
      let r : a + work_of (inner a b) U ≤ completion_by b U = completion_ge a U (omega arith) in
      omega (arith, completion_rest t U))
      (cases_Bool (inner a b t))

  -- the figure is that of the interval from a task
  pub record Reached (U : List Task) : Type 0 where
    pub task : Task
    pub within : In task U
    pub ends : task.end ≤ b
    pub top : completion_by b U ≤ task.lo + work_of (inner task.lo b) U

  pub completion_from : (U : List Task) → Rising U → (completion_by b U ≡ 0) ⊎ Reached U
  completion_from [] s = inl refl
  completion_from (t ∷ U) s =
      let old : completion_by b (t ∷ U) ≤ completion_by b U → (completion_by b (t ∷ U) ≡ 0) ⊎ Reached (t ∷ U) = λ h.
      ⊎_elim
      (λ (z : completion_by b U ≡ 0). inl (omega arith))
      (λ (r : Reached U). inr (record { task = r.task; within = there r.within; ends = r.ends; top = omega (arith, r.top) }))
      (completion_from U s.1) in
      ⊎_elim
      (λ (e : b < t.end). old (omega (arith, completion_no t U e)))
      (λ (e : t.end ≤ b).
      ⊎_elim
      (λ (h : completion_by b U < t.lo + (t.span + work_of (ends_by b) U)).
      inr (record {
        task = t;
        within = here;
        ends = e;
        top = omega (arith, completion_yes t U e, by_inner t.lo b U s.0, span_yes (inner t.lo b) t (inside_from (λ t. t.lo) t.lo b t (omega arith) e));
      }))
      (λ (h : t.lo + (t.span + work_of (ends_by b) U) ≤ completion_by b U). old (omega (arith, completion_yes t U e)))
      (cases_lt (completion_by b U) (t.lo + (t.span + work_of (ends_by b) U))))
      (cases_lt b t.end)

  -- the figure of the first q places
  module _ (U : List Task) where
    abbrev pub place_figure : ℕ → ℕ
    place_figure k = (at U k).lo + work_of (ends_by b) (drop k U)

    step_yes : (k : ℕ) → (at U k).end ≤ b → completion_before b U (suc k) ≡ max (completion_before b U k) (place_figure k)
    step_yes k e = cond-true (ends_by b (at U k)) _ _ (le-leb _ _ e)

    pub before_by : (q k : ℕ) → k < q → (at U k).end ≤ b → place_figure k ≤ completion_before b U q
    before_by zero k h e = absurd (omega arith)
    before_by (suc q) k h e =
        ⊎_elim
        (λ (z : k ≡ q). subst (λ (j : ℕ). place_figure j ≤ completion_before b U (suc q)) (sym z) (omega (arith, step_yes q (subst (λ (j : ℕ). (at U j).end ≤ b) z e))))
        (λ (z : k ≡ q → ⊥).
        let r : place_figure k ≤ completion_before b U q = before_by q k (omega arith) e in
        cond_both (ends_by b (at U q)) _ _ (λ y. place_figure k ≤ y) (λ e. omega arith) (λ e. r))
        (cases_eq k q)

    pub before_le : (q y : ℕ) → ((k : ℕ) → k < q → (at U k).end ≤ b → place_figure k ≤ y) → completion_before b U q ≤ y
    before_le zero y f = omega arith
    before_le (suc q) y f =
        let r : completion_before b U q ≤ y = before_le q y (λ k l e. f k (omega arith) e) in
        cond_both (ends_by b (at U q)) _ _ (λ z. z ≤ y) (λ e. omega (arith, f q (omega arith) (leb-true _ _ e))) (λ e. r)

    -- it is that of one of them
    pub before_from : (q : ℕ) → (completion_before b U q ≡ 0) ⊎ ((k : ℕ) × (k < q) × ((at U k).end ≤ b) × (completion_before b U q ≡ place_figure k))
    before_from zero = inl refl
    before_from (suc q) =
        let old : completion_before b U (suc q) ≡ completion_before b U q → (completion_before b U (suc q) ≡ 0) ⊎ ((k : ℕ) × (k < suc q) × ((at U k).end ≤ b) × (completion_before b U (suc q) ≡ place_figure k)) = λ e.
        ⊎_elim
        (λ (z : completion_before b U q ≡ 0). inl (e ∙ z))
        (λ (r : (k : ℕ) × (k < q) × ((at U k).end ≤ b) × (completion_before b U q ≡ place_figure k)). inr (r.0, (let l : r.0 < q = r.1 in omega arith), r.2, e ∙ r.3))
        (before_from q) in
        ⊎_elim
        (λ (t : b < (at U q).end). old (cond-false (ends_by b (at U q)) _ _ (lt-leb _ _ t)))
        (λ (t : (at U q).end ≤ b).
        let e : completion_before b U (suc q) ≡ max (completion_before b U q) (place_figure q) = step_yes q t in
        ⊎_elim
        (λ (l : completion_before b U q < place_figure q). inr (q, omega arith, t, omega arith))
        (λ (l : place_figure q ≤ completion_before b U q). old (omega arith))
        (cases_lt (completion_before b U q) (place_figure q)))
        (cases_lt b (at U q).end)

  -- a place's figure is no more than that of all
  place_completion : (U : List Task) (k : ℕ) → k < length U → (at U k).end ≤ b → (at U k).lo + work_of (ends_by b) (drop k U) ≤ completion_by b U
  place_completion [] k h e = absurd (omega arith)
  place_completion (t ∷ U) zero h e = omega (arith, completion_yes t U e, span_yes (ends_by b) t (le-leb _ _ e))
  place_completion (t ∷ U) (suc k) h e = omega (arith, place_completion U k (omega arith) e, completion_rest t U)

  pub before_completion : (U : List Task) (q : ℕ) → q ≤ length U → completion_before b U q ≤ completion_by b U
  before_completion U q h = before_le U q (completion_by b U) (λ k l e. place_completion U k (omega arith) e)

-- the first of a stretch of places that passes a test, if one does
pub record FirstOf (p : ℕ → Bool) (q : ℕ) : Type 0 where
  pub place : ℕ
  pub within : place < q
  pub passes : p place ≡ true
  pub clear : (k : ℕ) → k < place → p k ≡ false

pub first_or_none : (p : ℕ → Bool) (q : ℕ) → FirstOf p q ⊎ ((k : ℕ) → k < q → p k ≡ false)
first_or_none p zero = inr (λ k h. absurd (omega arith))
first_or_none p (suc q) =
    ⊎_elim
    (λ (r : FirstOf p q). inl (record { place = r.place; within = omega (arith, r.within); passes = r.passes; clear = r.clear }))
    (λ (c : (k : ℕ) → k < q → p k ≡ false).
    ⊎_elim
    (λ (e : p q ≡ true). inl (record { place = q; within = omega arith; passes = e; clear = c }))
    (λ (e : p q ≡ false). inr (λ k h.
    ⊎_elim
    (λ (y : k ≡ q). subst (λ (j : ℕ). p j ≡ false) (sym y) e)
    (λ (y : k ≡ q → ⊥). c k (omega arith))
    (cases_eq k q)))
    (cases_Bool (p q)))
    (first_or_none p q)
