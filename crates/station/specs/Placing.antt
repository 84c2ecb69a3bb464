-- Tasks of which no two overlap take as long as their spans together.
use Rattle.std.specs.Prelude.{◌≡◌, ℕ, zero, suc, ◌+◌, ◌<◌, ◌≤◌, Bool, true, not, List, [], ◌∷◌, length, filter, ◌==◌, nat_le}
use Rattle.std.proofs.Common.{sym, inl, inr, ⊎_elim, arith}
use Rattle.std.specs.List.{AllByRecursion}
use Rattle.std.proofs.ByRecursion.{kept_by_passes, all_kept_by}
use Rattle.std.proofs.lemmas.Bool.{leb-true, leb-false, eqb-false, not-true}
use Rattle.station.specs.declared.task.Task.{Task}
use Rattle.station.specs.Kernels.{Apart, Placed}
use Rattle.station.specs.Sets.{est, lct, nonempty, others, work}
use Rattle.station.specs.Tasks.{Pairwise}
use Rattle.station.specs.Bounds.{greatest_ge, greatest_in, least_le}
use Rattle.station.specs.Members.{In, Sublist, all_from, all_in, in_sublist, sublist_kept, sublist_length, sublist_trans}
use Rattle.station.specs.Pairwise.{pairwise_in, pairwise_sublist}
use Rattle.station.specs.Works.{work_kept, work_split}

module _ (st : Task → ℕ) where
  pub apart_turned : (x y : Task) → Apart st x y → Apart st y x
  apart_turned x y a = ⊎_elim (λ (z : st x + x.span ≤ st y). inr z) (λ (z : st y + y.span ≤ st x). inl z) a

  pub takes : (n : ℕ) (S : List Task) → length S ≤ n → Pairwise (Apart st) S → (a b : ℕ) → a ≤ b → AllByRecursion (λ t. a ≤ st t) S → AllByRecursion (λ t. st t + t.span ≤ b) S → a + work S ≤ b
  takes n [] l d a b h f g = omega arith
  takes zero (t ∷ S) l d a b h f g = absurd (omega arith)
  takes (suc n) (t ∷ S) l d a b h f g =
      let q : Task → Bool = λ s. nat_le (st s + s.span) (st t) in
      let r : Task → Bool = λ s. not (q s) in
      let A : List Task = filter q S in
      let B : List Task = filter r S in
      let sub : (p : Task → Bool) → Pairwise (Apart st) (filter p S) = λ p. pairwise_sublist (Apart st) (sublist_kept p S) d.1 in
      let lA : length A ≤ length S = sublist_length (sublist_kept q S) in
      let lB : length B ≤ length S = sublist_length (sublist_kept r S) in
      let ta : a ≤ st t = f.0 in
      let tb : st t + t.span ≤ b = g.0 in
      let x : a + work A ≤ st t = takes n A (omega arith) (sub q) a (st t) ta (all_kept_by q _ S f.1) (all_from _ A (λ s m. leb-true _ _ (all_in (λ s. q s ≡ true) m (kept_by_passes q S)))) in
      let late : AllByRecursion (λ s. st t + t.span ≤ st s) B = all_from _ B (λ s m.
      let e : st t < st s + s.span = leb-false _ _ (not-true _ (all_in (λ s. r s ≡ true) m (kept_by_passes r S))) in
      ⊎_elim
      (λ (y : st t + t.span ≤ st s). y)
      (λ (y : st s + s.span ≤ st t). absurd (omega arith))
      (all_in (Apart st t) m (all_kept_by r (Apart st t) S d.0))) in
      let y : st t + t.span + work B ≤ b = takes n B (omega arith) (sub r) (st t + t.span) b tb late (all_kept_by r _ S g.1) in
      omega (arith, work_split q S, work_kept q S, work_kept r S)

  module _ (L : List Task) (p : Placed st L) where
    -- starts and ends of a set's tasks
    pub set_low : {S : List Task} → Sublist S L → (t : Task) → In t S → est S ≤ st t
    set_low {S} k t m = omega (arith, least_le (λ t. t.lo) m, all_in (λ t. t.lo ≤ st t) (in_sublist k t m) p.low)

    pub set_high : {S : List Task} → Sublist S L → (t : Task) → In t S → st t + t.span ≤ lct S
    set_high {S} k t m = omega (arith, greatest_ge (λ t. t.end) m, all_in (λ t. st t + t.span ≤ t.end) (in_sublist k t m) p.high)

    -- a set that lies within two minutes
    pub set_takes : {S : List Task} → Sublist S L → nonempty S ≡ true → (b : ℕ) → AllByRecursion (λ t. st t + t.span ≤ b) S → est S + work S ≤ b
    set_takes {S} k e b h =
        let g = greatest_in (λ t. t.end) S e in
        takes (length S) S (omega arith) (pairwise_sublist (Apart st) k p.apart) (est S) b
        (omega (arith, set_low k g.0 g.1, all_in (λ t. st t + t.span ≤ b) g.1 h))
        (all_from _ S (set_low k)) h

    module _ (i : Task) (m : In i L) where
      -- i and a set of others
      pub apart_others : {S : List Task} → Sublist S (others i L) → AllByRecursion (Apart st i) S
      apart_others {S} k = all_from _ S (λ s n.
          let o : not (s.job == i.job) ≡ true = all_in (λ t. not (t.job == i.job) ≡ true) (in_sublist k s n) (kept_by_passes (λ t. not (t.job == i.job)) L) in
          ⊎_elim
          (λ (a : Apart st i s). a)
          (λ (a : Apart st s i). apart_turned s i a)
          (pairwise_in (Apart st) p.apart i s m (in_sublist (sublist_trans (sublist_kept _ L) k) s n) (λ e. eqb-false _ _ (not-true _ o) (sym e))))

      pub with_takes : {S : List Task} → Sublist S (others i L) → (a b : ℕ) → a ≤ st i → st i + i.span ≤ b → AllByRecursion (λ t. a ≤ st t) S → AllByRecursion (λ t. st t + t.span ≤ b) S → a + work (i ∷ S) ≤ b
      with_takes {S} k a b lo hi f g =
          takes (length (i ∷ S)) (i ∷ S) (omega arith) (apart_others k, pairwise_sublist (Apart st) (sublist_trans (sublist_kept _ L) k) p.apart) a b (omega arith) (lo, f) (hi, g)
