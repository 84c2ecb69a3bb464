-- Each kernel loses no timetable, and sees every overlap of single starts.
use Rattle.std.specs.Prelude.{◌≡◌, ℕ, ◌+◌, ◌<◌, ◌≤◌, true, false, not, ◌⊎◌, List, [], ◌∷◌, ◌==◌, ◌≢◌, refl}
use Rattle.std.proofs.Common.{sym, inl, inr, ⊎_elim, arith}
use Rattle.std.specs.List.{AllByRecursion}
use Rattle.std.proofs.lemmas.Bool.{cases_Bool, cases_lt, and_from, and_parts, and_left, and_right, ltb-true, lt-ltb, le-ltb, ne_eqb, not_from_false}
use Rattle.station.specs.declared.task.Task.{Task}
use Rattle.station.specs.Edges.{earliest_completion, edges_earliest, edges_overloaded, ends_last, overloads}
use Rattle.station.specs.Kernels.{Apart, Placed}
use Rattle.station.specs.NotFirst.{not_first, not_first_earliest}
use Rattle.station.specs.Pairs.{comes_after, pairs_earliest}
use Rattle.station.specs.Sets.{est, lct, least, nonempty, others, sublists, work}
use Rattle.station.specs.Tasks.{Fit, Formed, Pairwise, Single, at, ect, last_start}
use Rattle.station.specs.Bounds.{any_none, at_least_by, at_least_le, at_least_sublist, at_least_sublists, est_first, est_rest, greatest_in, least_le}
use Rattle.station.specs.Members.{In, Sublist, all_from, all_in, all_sublist, all_sublists, here, in_at, in_kept, in_sublist, sublist_kept, sublist_one, sublist_trans, sublist_whole, there}
use Rattle.station.specs.Pairwise.{pairwise_at, pairwise_from}
use Rattle.station.specs.Placing.{apart_others, set_high, set_low, set_takes, with_takes}

-- a bound over other tasks, or over sets of them, that no start of i is below
module _ (st : Task → ℕ) (U : List Task) (p : Placed st U) where
  starts_low : (t : Task) → In t U → t.lo ≤ st t
  starts_low t m = all_in (λ t. t.lo ≤ st t) m p.low

  ends_high : (t : Task) → In t U → st t + t.span ≤ t.end
  ends_high t m = all_in (λ t. st t + t.span ≤ t.end) m p.high

  from_others : (i t : Task) → In t (others i U) → In t U
  from_others i t m = in_sublist (sublist_kept _ U) t m

  pub pairs_keeps : AllByRecursion (λ i. pairs_earliest i U ≤ st i) U
  pairs_keeps = all_from _ U (λ i m.
      at_least_le (comes_after i) ect i.lo (others i U) (st i) (starts_low i m) (all_from _ (others i U) (λ j n e.
      let late : last_start j < ect i = ltb-true _ _ e in
      let jU : In j U = from_others i j n in
      ⊎_elim
      (λ (x : st i + i.span ≤ st j). absurd (omega (arith, starts_low i m, ends_high j jU)))
      (λ (x : st j + j.span ≤ st i). omega (arith, starts_low j jU))
      (all_in (Apart st i) n (apart_others st U p i m (sublist_whole (others i U)))))))

  pub edges_roomy : edges_overloaded U ≡ false
  edges_roomy = any_none overloads (sublists U) (all_sublists U (λ S. overloads S ≡ false) (λ S k.
      ⊎_elim
      (λ (e : nonempty S ≡ true). and_right _ _ (le-ltb _ _ (set_takes st U p k e (lct S) (all_from _ S (set_high st U p k)))))
      (λ (e : nonempty S ≡ false). and_left _ _ e)
      (cases_Bool (nonempty S))))

  module _ (i : Task) (m : In i U) (S : List Task) (k : Sublist S (others i U)) where
    of_station : Sublist S U
    of_station = sublist_trans (sublist_kept _ U) k

    -- under the condition of edge finding i ends last
    ends_late : nonempty S ≡ true → lct S < est (i ∷ S) + work (i ∷ S) → lct S < st i + i.span
    ends_late e h =
        ⊎_elim
        (λ (x : lct S < st i + i.span). x)
        (λ (x : st i + i.span ≤ lct S). absurd (omega (
          arith,
          with_takes st U p i m k (est (i ∷ S)) (lct S) (omega (arith, est_first i S, starts_low i m)) x
              (all_from _ S (λ s n. omega (arith, set_low st U p of_station s n, est_rest i S e))) (all_from _ S (set_high st U p of_station)),
        )))
        (cases_lt (lct S) (st i + i.span))

    all_before : nonempty S ≡ true → lct S < est (i ∷ S) + work (i ∷ S) → AllByRecursion (λ s. st s + s.span ≤ st i) S
    all_before e h = all_from _ S (λ s n.
        ⊎_elim
        (λ (y : st i + i.span ≤ st s). absurd (omega (arith, set_high st U p of_station s n, ends_late e h)))
        (λ (y : st s + s.span ≤ st i). y)
        (all_in (Apart st i) n (apart_others st U p i m k)))

    -- one of them comes before i, or i before them all
    before_or : (V : List Task) → AllByRecursion (Apart st i) V → ((s : Task) × In s V × (st s + s.span ≤ st i)) ⊎ AllByRecursion (λ s. st i + i.span ≤ st s) V
    before_or [] a = inr tt
    before_or (s ∷ V) a =
        ⊎_elim
        (λ (x : st i + i.span ≤ st s).
        ⊎_elim
        (λ (r : (s : Task) × In s V × (st s + s.span ≤ st i)). inl (r.0, there r.1, r.2))
        (λ (r : AllByRecursion (λ s. st i + i.span ≤ st s) V). inr (x, r))
        (before_or V a.1))
        (λ (x : st s + s.span ≤ st i). inl (s, here, x))
        a.0

    after_one : nonempty S ≡ true → lct S < i.lo + (work S + i.span) → least ect S ≤ st i
    after_one e h =
        ⊎_elim
        (λ (r : (s : Task) × In s S × (st s + s.span ≤ st i)). omega (arith, least_le ect r.1, starts_low r.0 (in_sublist of_station r.0 r.1), r.2))
        (λ (r : AllByRecursion (λ s. st i + i.span ≤ st s) S). absurd (
        let g = greatest_in (λ t. t.end) S e in
        let a : st i + i.span ≤ st g.0 = all_in (λ s. st i + i.span ≤ st s) g.1 r in
        omega (
          arith,
          starts_low i m,
          with_takes st U p i m k (st i) (lct S) (omega arith) (omega (arith, set_high st U p of_station g.0 g.1))
              (all_from _ S (λ s n. omega (arith, all_in (λ s. st i + i.span ≤ st s) n r))) (all_from _ S (set_high st U p of_station)),
        )))
        (before_or S (apart_others st U p i m k))

  pub edges_keeps : AllByRecursion (λ i. edges_earliest i U ≤ st i) U
  edges_keeps = all_from _ U (λ i m.
      at_least_sublists (ends_last i) earliest_completion i.lo (others i U) (st i) (starts_low i m) (λ S k c.
      let y = and_parts _ _ c in
      at_least_sublists nonempty (λ T. est T + work T) 0 S (st i) (omega arith) (λ T l n.
      set_takes st U p (sublist_trans (of_station i m S k) l) n (st i) (all_sublist _ l (all_before i m S k y.0 (ltb-true _ _ y.1))))))

  pub not_first_keeps : AllByRecursion (λ i. not_first_earliest i U ≤ st i) U
  not_first_keeps = all_from _ U (λ i m.
      at_least_sublists (not_first i) (λ S. least ect S) i.lo (others i U) (st i) (starts_low i m) (λ S k c.
      let y = and_parts _ _ c in
      after_one i m S k y.0 (ltb-true _ _ y.1)))

-- single starts that no bound has moved
module _ (U : List Task) (formed : Formed U) (single : AllByRecursion Single U) where
  -- where of two tasks one that cannot come before the other comes after it, no two overlap
  apart_from : ((x y : Task) → In x U → In y (others x U) → y.lo < x.lo + x.span → ect y ≤ x.lo) → Pairwise (Apart (λ t. t.lo)) U
  apart_from f = pairwise_from (Apart (λ t. t.lo)) U (λ j k jk kU.
      let x = at U j in
      let y = at U k in
      let my : In y U = in_at U k kU in
      let ne : y.job ≡ x.job → ⊥ = λ e. pairwise_at (λ s t. s.job ≢ t.job) U formed.distinct j k jk kU (sym e) in
      ⊎_elim
      (λ (z : y.lo < x.lo + x.span). inr (f x y (in_at U j (omega arith)) (in_kept (λ t. not (t.job == x.job)) my (not_from_false _ (ne_eqb _ _ ne))) z))
      (λ (z : x.lo + x.span ≤ y.lo). inl z)
      (cases_lt y.lo (x.lo + x.span)))

  single_at : (t : Task) → In t U → t.end ≡ t.lo + t.span
  single_at t m = all_in Single m single

  other_in : (x y : Task) → In y (others x U) → In y U
  other_in x y m = in_sublist (sublist_kept _ U) y m

  pub pairs_checks : AllByRecursion (λ i. pairs_earliest i U ≤ i.lo) U → Pairwise (Apart (λ t. t.lo)) U
  pairs_checks f = apart_from (λ x y mx my z.
      omega (
        arith,
        all_in (λ i. pairs_earliest i U ≤ i.lo) mx f,
        at_least_by (comes_after x) ect x.lo my (lt-ltb _ _ (omega (arith, single_at y (other_in x y my)))),
      ))

  pub edges_checks : AllByRecursion (λ i. edges_earliest i U ≤ i.lo) U → Pairwise (Apart (λ t. t.lo)) U
  edges_checks f = apart_from (λ x y mx my z.
      let some : 1 ≤ x.span = (all_in Fit mx formed.fit).some in
      let last : ends_last x (y ∷ []) ≡ true = and_from _ _ refl (lt-ltb _ _ (omega (arith, single_at y (other_in x y my)))) in
      let a : earliest_completion (y ∷ []) ≤ edges_earliest x U = at_least_sublist (ends_last x) earliest_completion x.lo (sublist_one my) last in
      let b : y.lo + (y.span + 0) ≤ earliest_completion (y ∷ []) = at_least_sublist nonempty (λ T. est T + work T) 0 (sublist_whole (y ∷ [])) refl in
      omega (arith, all_in (λ i. edges_earliest i U ≤ i.lo) mx f))

  pub not_first_checks : AllByRecursion (λ i. not_first_earliest i U ≤ i.lo) U → Pairwise (Apart (λ t. t.lo)) U
  not_first_checks f = apart_from (λ x y mx my z.
      omega (
        arith,
        all_in (λ i. not_first_earliest i U ≤ i.lo) mx f,
        at_least_sublist (not_first x) (λ S. least ect S) x.lo (sublist_one my) (and_from _ _ refl (lt-ltb _ _ (omega (arith, single_at y (other_in x y my))))),
      ))
