-- The work of those tasks of which a test holds.
use Rattle.std.specs.Prelude.{◌≡◌, ℕ, zero, suc, ◌+◌, ◌*◌, ◌<◌, ◌≤◌, Bool, true, false, cond, not, List, [], ◌∷◌, length, drop, filter, ◌==◌, ◌≢◌, refl}
use Rattle.std.proofs.Common.{sym, ap, ◌∙◌, ⊎_elim, arith, drop-cons}
use Rattle.std.specs.List.{AllByRecursion}
use Rattle.std.proofs.lemmas.Bool.{both_ways, cases_Bool, cond-true, cond-false, cond_both, eq-eqb, ne_eqb, not_from_false, not_from_true}
use Rattle.station.specs.declared.task.Task.{Task}
use Rattle.station.specs.EdgesPasses.{work_of}
use Rattle.station.specs.Limits.{longest, most_work}
use Rattle.station.specs.Sets.{nonempty, others, total, work}
use Rattle.station.specs.Tasks.{Fit, Formed, Pairwise, at, no_task}
use Rattle.station.specs.Members.{In, Sublist, all_from, all_in, here, keep, none, skip, there}

pub total_drop : (f : Task → ℕ) (n : ℕ) (U : List Task) → total f (drop n U) ≤ total f U
total_drop f zero U = omega arith
total_drop f (suc n) [] = omega arith
total_drop f (suc n) (x ∷ U) = let h : total f (drop n U) ≤ total f U = total_drop f n U in omega arith

pub work_some : (S : List Task) → nonempty S ≡ true → AllByRecursion (λ t. 1 ≤ t.span) S → 0 < work S
work_some [] e h = absurd (both_ways false refl e)
work_some (t ∷ S) e h = let p : 1 ≤ t.span = h.0 in omega arith

pub some_work : (S : List Task) → 0 < work S → nonempty S ≡ true
some_work [] h = absurd (omega arith)
some_work (t ∷ S) h = refl

module _ (q : Task → Bool) where
  pub span_yes : (t : Task) → q t ≡ true → cond (q t) t.span 0 ≡ t.span
  span_yes t e = cond-true (q t) _ _ e

  pub span_no : (t : Task) → q t ≡ false → cond (q t) t.span 0 ≡ 0
  span_no t e = cond-false (q t) _ _ e

  pub work_mono : (r : Task → Bool) (L : List Task) → AllByRecursion (λ t. q t ≡ true → r t ≡ true) L → work_of q L ≤ work_of r L
  work_mono r [] h = omega arith
  work_mono r (t ∷ L) h =
      let p : work_of q L ≤ work_of r L = work_mono r L h.1 in
      let s : cond (q t) t.span 0 ≤ cond (r t) t.span 0 =
      cond_both (q t) t.span 0 (λ x. x ≤ cond (r t) t.span 0) (λ e. let z : cond (r t) t.span 0 ≡ t.span = cond-true (r t) _ _ (h.0 e) in omega arith) (λ e. omega arith) in
      omega arith

  -- as work of a set
  pub work_kept : (L : List Task) → work (filter q L) ≡ work_of q L
  work_kept [] = refl
  work_kept (t ∷ L) =
      let p : work (filter q L) ≡ work_of q L = work_kept L in
      ⊎_elim
      (λ (e : q t ≡ true). ap work (cond-true (q t) (t ∷ filter q L) (filter q L) e) ∙ omega (arith, span_yes t e))
      (λ (e : q t ≡ false). ap work (cond-false (q t) (t ∷ filter q L) (filter q L) e) ∙ omega (arith, span_no t e))
      (cases_Bool (q t))

  -- a set whose tasks all pass has no more than all that pass
  pub work_sublist : {S L : List Task} → Sublist S L → AllByRecursion (λ t. q t ≡ true) S → work S ≤ work_of q L
  work_sublist none h = omega arith
  work_sublist (skip {S = S} {L = L} p) h = let r : work S ≤ work_of q L = work_sublist p h in omega arith
  work_sublist (keep {x = t} {S = S} {L = L} p) h =
      let r : work S ≤ work_of q L = work_sublist p h.1 in
      omega (arith, span_yes t h.0)

  pub work_in : {t : Task} {L : List Task} → In t L → q t ≡ true → t.span ≤ work_of q L
  work_in {t} {L = x ∷ L} here e = omega (arith, span_yes t e)
  work_in {t} (there {x = x} {L = L} m) e = let r : t.span ≤ work_of q L = work_in m e in omega arith

  -- what another test has let through already
  pub work_of_kept : (r : Task → Bool) (L : List Task) → AllByRecursion (λ t. q t ≡ true → r t ≡ true) L → work_of q (filter r L) ≡ work_of q L
  work_of_kept r [] h = refl
  work_of_kept r (t ∷ L) h =
      let p : work_of q (filter r L) ≡ work_of q L = work_of_kept r L h.1 in
      ⊎_elim
      (λ (e : r t ≡ true). ap (work_of q) (cond-true (r t) (t ∷ filter r L) (filter r L) e) ∙ omega arith)
      (λ (e : r t ≡ false).
      let n : q t ≡ false = ⊎_elim (λ (y : q t ≡ true). absurd (both_ways _ e (h.0 y))) (λ (y : q t ≡ false). y) (cases_Bool (q t)) in
      ap (work_of q) (cond-false (r t) (t ∷ filter r L) (filter r L) e) ∙ omega (arith, span_no t n))
      (cases_Bool (r t))

  pub work_split : (S : List Task) → work_of q S + work_of (λ t. not (q t)) S ≡ work S
  work_split [] = refl
  work_split (t ∷ S) =
      let h : work_of q S + work_of (λ t. not (q t)) S ≡ work S = work_split S in
      ⊎_elim
      (λ (e : q t ≡ true). let y : cond (not (q t)) t.span 0 ≡ 0 = cond-false (not (q t)) _ _ (not_from_true _ e) in omega (arith, span_yes t e))
      (λ (e : q t ≡ false). let y : cond (not (q t)) t.span 0 ≡ t.span = cond-true (not (q t)) _ _ (not_from_false _ e) in omega (arith, span_no t e))
      (cases_Bool (q t))

  -- nothing that passes stands before place n
  pub work_behind : (n : ℕ) (U : List Task) → ((k : ℕ) → k < n → q (at U k) ≡ false) → work_of q U ≡ work_of q (drop n U)
  work_behind zero U c = refl
  work_behind (suc n) [] c = refl
  work_behind (suc n) (t ∷ U) c =
      let r : work_of q U ≡ work_of q (drop n U) = work_behind n U (λ k h. c (suc k) (omega arith)) in
      omega (arith, span_no t (c 0 (omega arith)))

  -- one place further down
  pub work_here : (U : List Task) (j : ℕ) → j < length U → work_of q (drop j U) ≡ cond (q (at U j)) (at U j).span 0 + work_of q (drop (suc j) U)
  work_here U j h = ap (work_of q) (drop-cons U j no_task h)

  -- never more than the most work
  work_short : (U : List Task) → AllByRecursion Fit U → work_of q U ≤ longest * length U
  work_short [] h = omega arith
  work_short (t ∷ U) h =
      let r : work_of q U ≤ longest * length U = work_short U h.1 in
      let s : cond (q t) t.span 0 ≤ t.span = cond_both (q t) t.span 0 (λ x. x ≤ t.span) (λ e. omega arith) (λ e. omega arith) in
      omega (arith, h.0.short)

  pub work_most : (U : List Task) (k : ℕ) → Formed U → work_of q (drop k U) ≤ most_work
  work_most U k f = omega (arith, work_short U f.fit, total_drop (λ t. cond (q t) t.span 0) k U, f.few)

-- a task and a set of others of its station
module _ (q : Task → Bool) (i : Task) where
  abbrev other : Task → Bool
  other t = not (t.job == i.job)

  i_itself : other i ≡ false
  i_itself = not_from_true _ (eq-eqb i.job i.job refl)

  pub others_work : {L : List Task} → In i L → Pairwise (λ s t. s.job ≢ t.job) L → work_of q (others i L) + cond (q i) i.span 0 ≡ work_of q L
  others_work {L = x ∷ L} here d =
      let z : others i (i ∷ L) ≡ others i L = cond-false (other i) _ _ i_itself in
      let k : work_of q (others i L) ≡ work_of q L = work_of_kept q other L (all_from _ L (λ t m h. not_from_false _ (ne_eqb _ _ (λ y. all_in (λ s. i.job ≢ s.job) m d.0 (sym y))))) in
      omega (arith, ap (work_of q) z)
  others_work (there {x = x} {L = L} m) d =
      let r : work_of q (others i L) + cond (q i) i.span 0 ≡ work_of q L = others_work m d.1 in
      let z : others i (x ∷ L) ≡ x ∷ others i L = cond-true (other x) _ _ (not_from_false _ (ne_eqb _ _ (λ y. all_in (λ s. x.job ≢ s.job) m d.0 y))) in
      omega (arith, ap (work_of q) z)

  pub work_with : {L : List Task} → In i L → Pairwise (λ s t. s.job ≢ t.job) L → q i ≡ true → (S : List Task) → Sublist S (others i L) → AllByRecursion (λ t. q t ≡ true) S → i.span + work S ≤ work_of q L
  work_with {L} m d e S p h = omega (arith, work_sublist q p h, others_work m d, span_yes q i e)
