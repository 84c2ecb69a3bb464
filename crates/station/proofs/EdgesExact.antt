-- All passes of edge finding together give what the definition over all sets gives.
use Rattle.std.proofs.Common.{◌≡◌, ℕ, zero, suc, ◌+◌, ◌<◌, ◌≤◌, max, Bool, true, false, cond, not, eqb, ltb, List, [], ◌∷◌, length, drop, filter, sym, refl, ap, ◌∙◌, subst, ⊎_elim, arith, drop-cons}
use Rattle.std.specs.List.{AllByRecursion, list_any}
use Rattle.std.proofs.ByRecursion.{All-weaker}
use Rattle.std.proofs.lemmas.Bool.{both_ways, cases_Bool, cond-true, cond-false, cond_both, or_cases, cases_lt, cases_eq, and_from, and_parts, and_left, and_right, leb-false, lt-leb, ltb-true, ltb-false, lt-ltb, le-ltb, eqb-true, not-false}
use Rattle.station.specs.declared.task.Task.{Task}
use Rattle.station.specs.Edges.{earliest_completion, edges_earliest, edges_overloaded, ends_last, overloads}
use Rattle.station.specs.EdgesPasses.{completion_before, completion_by, ends_by, passes_end, raised_by_all, raised_by_both, raised_by_earlier, raised_by_later, work_of}
use Rattle.station.specs.Sets.{est, lct, nonempty, others, sublists, work}
use Rattle.station.specs.Tasks.{Fit, Formed, at, no_task}
use Rattle.station.specs.Bounds.{any_in, any_none, any_not, at_least_ge, at_least_sublist, at_least_sublists, est_first, est_rest, est_sublist, greatest_in, lct_sublist, least_ge}
use Rattle.station.proofs.EdgesFigures.{FirstOf, Reached, Rising, before_by, before_completion, before_from, by_inner, completion_from, completion_ge, first_or_none, inner, inner_by}
use Rattle.station.proofs.Intervals.{inside_fact, inside_from, kept_each, kept_lct, kept_least, set_inside}
use Rattle.station.specs.Members.{In, Sublist, all_from, all_in, all_sublist, all_sublists, at_in, in_at, in_drop, in_kept, in_nonempty, in_sublist, in_sublists, sublist_kept, sublist_trans, there}
use Rattle.station.specs.Pairwise.{pairwise_at, pairwise_behind, pairwise_drop, pairwise_one}
use Rattle.station.proofs.Shuffles.{Same}
use Rattle.station.specs.Works.{total_drop, work_behind, work_kept, work_of_kept, work_some, work_sublist, work_with}

module _ (L U : List Task) (same : Same L U) (formed : Formed L) where
  spans : AllByRecursion (λ t. 1 ≤ t.span) L
  spans = All-weaker Fit (λ t. 1 ≤ t.span) (λ t f. f.some) L formed.fit

  -- an interval's work is the same in both orders
  either : (a b : ℕ) → work_of (inner a b) L ≡ work_of (inner a b) U
  either a b = same.weight (λ t. cond (inner a b t) t.span 0)

  -- a set within an interval has no more work than the whole interval
  cover : (S : List Task) (a b : ℕ) → Sublist S L → nonempty S ≡ true → a ≤ est S → lct S ≤ b → (work S ≤ work_of (inner a b) U) × (0 < work S)
  cover S a b p e h k =
      (omega (arith, work_sublist (inner a b) p (set_inside (λ t. t.lo) a b S e h k), either a b), work_some S e (all_sublist _ p spans))

  -- where no figure passes its end, no set overloads
  pub roomy : ((t : Task) → In t U → completion_by t.end U ≤ t.end) → (S : List Task) → Sublist S L → nonempty S ≡ true → est S + work S ≤ lct S
  roomy f S p e =
      let g = greatest_in (λ t. t.end) S e in
      let t = g.0 in
      let z : lct S ≡ t.end = g.2 in
      let c = cover S (est S) t.end p e (omega arith) (omega arith) in
      let y : 0 < work S = c.1 in
      omega (arith, c.0, f t (same.into t (in_sublist p t g.1)), completion_ge t.end (est S) U (omega (arith, c.0)))

  not_overloaded : ((t : Task) → In t U → completion_by t.end U ≤ t.end) → edges_overloaded L ≡ false
  not_overloaded f = any_none overloads (sublists L) (all_sublists L (λ S. overloads S ≡ false) (λ S p.
      ⊎_elim
      (λ (e : nonempty S ≡ true). and_right _ _ (le-ltb _ _ (roomy f S p e)))
      (λ (e : nonempty S ≡ false). and_left _ _ e)
      (cases_Bool (nonempty S))))

  -- where one does, an interval overloads
  is_overloaded : Rising U → (b : ℕ) → b < completion_by b U → edges_overloaded L ≡ true
  is_overloaded s b h =
      ⊎_elim
      (λ (z : completion_by b U ≡ 0). absurd (omega arith))
      (λ (r : Reached b U).
      let t = r.task in
      let a = t.lo in
      let S : List Task = filter (inner a b) L in
      let e : nonempty S ≡ true = in_nonempty (in_kept (inner a b) (same.from t r.within) (inside_from (λ t. t.lo) a b t (omega arith) r.ends)) in
      any_in overloads (in_sublists (sublist_kept (inner a b) L)) (and_from _ _ e (lt-ltb _ _ (omega (arith, r.top, work_kept (inner a b) L, either a b, kept_least (λ t. t.lo) a b L e, kept_lct (λ t. t.lo) a b L)))))
      (completion_from b U s)

  pub overload_exact : Rising U → list_any (passes_end U) U ≡ edges_overloaded L
  overload_exact s =
      ⊎_elim
      (λ (e : list_any (passes_end U) U ≡ true). e ∙ sym (found U (λ t m. m) e))
      (λ (e : list_any (passes_end U) U ≡ false). e ∙ sym (not_overloaded (λ t m. ltb-false _ _ (any_not (passes_end U) e m))))
      (cases_Bool (list_any (passes_end U) U))
    where
      found : (V : List Task) → ((t : Task) → In t V → In t U) → list_any (passes_end U) V ≡ true → edges_overloaded L ≡ true
      found [] f e = absurd (both_ways false refl e)
      found (t ∷ V) f e =
          ⊎_elim
          (λ (y : passes_end U t ≡ true). is_overloaded s t.end (ltb-true _ _ y))
          (λ (y : list_any (passes_end U) V ≡ true). found V (λ t m. f t (there m)) y)
          (or_cases _ _ e)

  -- an interval that meets the condition, and one within it, bound i
  justified : (i : Task) → AllByRecursion (λ t. t.job ≡ i.job → t.end ≡ i.end) L → (c a a' b y : ℕ) → c ≤ i.lo → c ≤ a → a ≤ a' → b < i.end → (t : Task) → In t U → a' ≤ t.lo → t.end ≤ b → b < c + (i.span + work_of (inner a b) U) → y ≤ a' + work_of (inner a' b) U → y ≤ edges_earliest i L
  justified i one c a a' b y ci ca aa bi t tU ta tb last yh =
      let M = others i L in
      let other : Task → Bool = λ t. not (eqb t.job i.job) in
      let free : (a : ℕ) → AllByRecursion (λ t. inner a b t ≡ true → other t ≡ true) L = λ a. all_from _ L (λ t m e.
      ⊎_elim
      (λ (x : other t ≡ true). x)
      (λ (x : other t ≡ false). absurd (omega (arith, all_in (λ t. t.job ≡ i.job → t.end ≡ i.end) m one (eqb-true _ _ (not-false _ x)), (inside_fact (λ t. t.lo) a b t e).1)))
      (cases_Bool (other t))) in
      let S : List Task = filter (inner a b) M in
      let T : List Task = filter (inner a' b) S in
      let it : inner a b t ≡ true = inside_from (λ t. t.lo) a b t (omega arith) tb in
      let mL : In t L = same.from t tU in
      let mM : In t M = in_kept other mL (all_in (λ t. inner a b t ≡ true → other t ≡ true) mL (free a) it) in
      let mS : In t S = in_kept (inner a b) mM it in
      let nT : nonempty T ≡ true = in_nonempty (in_kept (inner a' b) mS (inside_from (λ t. t.lo) a' b t ta tb)) in
      let wS : work S ≡ work_of (inner a b) U = work_kept (inner a b) M ∙ work_of_kept (inner a b) other L (free a) ∙ either a b in
      let down : AllByRecursion (λ t. inner a' b t ≡ true → inner a b t ≡ true) M = all_from _ M (λ t m e. let f = inside_fact (λ t. t.lo) a' b t e in inside_from (λ t. t.lo) a b t (omega (arith, f.0)) f.1) in
      let wT : work T ≡ work_of (inner a' b) U = work_kept (inner a' b) S ∙ work_of_kept (inner a' b) (inner a b) M down ∙ work_of_kept (inner a' b) other L (free a') ∙ either a' b in
      let eS : c ≤ est (i ∷ S) = least_ge (λ t. t.lo) (i ∷ S) c refl (ci, kept_each (λ t. t.lo) a b M c ca) in
      let lS : lct S ≤ b = kept_lct (λ t. t.lo) a b M in
      let x : earliest_completion S ≤ edges_earliest i L = at_least_sublist (ends_last i) earliest_completion i.lo (sublist_kept (inner a b) M) (and_from _ _ (in_nonempty mS) (lt-ltb _ _ (omega arith))) in
      let v : est T + work T ≤ earliest_completion S = at_least_sublist nonempty (λ T. est T + work T) 0 (sublist_kept (inner a' b) S) nT in
      omega (arith, kept_least (λ t. t.lo) a' b S nT)

-- what the passes for one end do to a bound
module _ (b : ℕ) (U : List Task) (q : ℕ) where
  abbrev behind_i : ℕ
  behind_i = (at U q).lo + ((at U q).span + work_of (ends_by b) (drop (suc q) U))

  abbrev later : ℕ → ℕ
  later x = raised_by_later b U q x

  later_ge : (x : ℕ) → x ≤ raised_by_later b U q x
  later_ge x = cond_both (ends_by b (at U q)) _ _ (λ y. x ≤ y) (λ e. omega arith) (λ e. omega arith)

  earlier_ge : (x : ℕ) → x ≤ raised_by_earlier b U q x
  earlier_ge x = cond_both (ends_by b (at U q)) _ _ (λ y. x ≤ y) (λ e. omega arith) (λ e. omega arith)

  pub both_ge : (x : ℕ) → x ≤ raised_by_both b U q x
  both_ge x = omega (arith, later_ge x, earlier_ge (later x))

  pub both_later : b < (at U q).end → b < behind_i → (x : ℕ) → completion_by b (drop (suc q) U) ≤ raised_by_both b U q x
  both_later h k x =
      let z : cond (ltb b behind_i) (completion_by b (drop (suc q) U)) 0 ≡ completion_by b (drop (suc q) U) = cond-true (ltb b behind_i) _ _ (lt-ltb _ _ k) in
      let y : later x ≡ max x (cond (ltb b behind_i) (completion_by b (drop (suc q) U)) 0) = cond-false (ends_by b (at U q)) _ _ (lt-leb _ _ h) in
      omega (arith, earlier_ge (later x))

  pub both_earlier : b < (at U q).end → b < completion_before b U q + (at U q).span → (x : ℕ) → completion_by b U ≤ raised_by_both b U q x
  both_earlier h k x =
      let z : cond (ltb b (completion_before b U q + (at U q).span)) (completion_by b U) 0 ≡ completion_by b U = cond-true (ltb b (completion_before b U q + (at U q).span)) _ _ (lt-ltb _ _ k) in
      let y : raised_by_earlier b U q (later x) ≡ max (later x) (cond (ltb b (completion_before b U q + (at U q).span)) (completion_by b U) 0) = cond-false (ends_by b (at U q)) _ _ (lt-leb _ _ h) in
      omega arith

  -- a bound under a condition stays below what both keep to
  under : (x y : ℕ) (v : Bool) (z : ℕ) → x ≤ y → (v ≡ true → z ≤ y) → max x (cond v z 0) ≤ y
  under x y v z h f = let u : cond v z 0 ≤ y = cond_both v z 0 (λ n. n ≤ y) f (λ e. omega arith) in omega arith

  pub both_le : (x y : ℕ) → x ≤ y → (b < (at U q).end → b < behind_i → completion_by b (drop (suc q) U) ≤ y) → (b < (at U q).end → b < completion_before b U q + (at U q).span → completion_by b U ≤ y) → raised_by_both b U q x ≤ y
  both_le x y h f g =
      let l : later x ≤ y = cond_both (ends_by b (at U q)) _ _ (λ z. z ≤ y) (λ e. h) (λ e. under x y (ltb b behind_i) _ h (λ t. f (leb-false _ _ e) (ltb-true _ _ t))) in
      cond_both (ends_by b (at U q)) _ _ (λ z. z ≤ y) (λ e. l) (λ e. under (later x) y (ltb b (completion_before b U q + (at U q).span)) _ l (λ t. g (leb-false _ _ e) (ltb-true _ _ t)))

module _ (U : List Task) (q : ℕ) where
  all_ge : (n : ℕ) → (at U q).lo ≤ raised_by_all U q n
  all_ge zero = omega arith
  all_ge (suc n) = omega (arith, all_ge n, both_ge (at U n).end U q (raised_by_all U q n))

  all_by : (n e y : ℕ) → e < n → ((x : ℕ) → y ≤ raised_by_both (at U e).end U q x) → y ≤ raised_by_all U q n
  all_by zero e y h f = absurd (omega arith)
  all_by (suc n) e y h f =
      ⊎_elim
      (λ (z : e ≡ n). subst (λ (k : ℕ). y ≤ raised_by_both (at U k).end U q (raised_by_all U q n)) z (f (raised_by_all U q n)))
      (λ (z : e ≡ n → ⊥). omega (arith, all_by n e y (omega arith) f, both_ge (at U n).end U q (raised_by_all U q n)))
      (cases_eq e n)

  all_le : (n y : ℕ) → (at U q).lo ≤ y → ((e x : ℕ) → e < n → x ≤ y → raised_by_both (at U e).end U q x ≤ y) → raised_by_all U q n ≤ y
  all_le zero y h f = h
  all_le (suc n) y h f = f n (raised_by_all U q n) (omega arith) (all_le n y h (λ e x l k. f e x (omega arith) k))

module _ (L U : List Task) (same : Same L U) (formed : Formed L) (rising : Rising U) (q : ℕ) (inq : q < length U) where
  inL : In (at U q) L
  inL = same.from (at U q) (in_at U q inq)

  -- the task of a job is one
  one : AllByRecursion (λ t. t.job ≡ (at U q).job → t.end ≡ (at U q).end) L
  one = all_from _ L (λ t m e. let p = pairwise_one L formed.distinct t (at U q) m inL e in ap (λ (s : Task). s.end) p)

  later_sound : (b : ℕ) → b < (at U q).end → b < (at U q).lo + ((at U q).span + work_of (ends_by b) (drop (suc q) U)) → completion_by b (drop (suc q) U) ≤ edges_earliest (at U q) L
  later_sound b bi h =
      let i = at U q in
      let D : List Task = drop (suc q) U in
      let up : AllByRecursion (λ t. i.lo ≤ t.lo) D = pairwise_behind (λ s t. s.lo ≤ t.lo) q U inq rising in
      ⊎_elim
      (λ (z : completion_by b D ≡ 0). omega arith)
      (λ (r : Reached b D).
      let t = r.task in
      justified L U same formed i one i.lo i.lo t.lo b (completion_by b D) (omega arith) (omega arith) (all_in (λ t. i.lo ≤ t.lo) r.within up) bi t (in_drop (suc q) U t r.within) (omega arith) r.ends
      (omega (arith, by_inner i.lo b D up, total_drop (λ t. cond (inner i.lo b t) t.span 0) (suc q) U))
      (omega (arith, r.top, total_drop (λ s. cond (inner t.lo b s) s.span 0) (suc q) U)))
      (completion_from b D (pairwise_drop _ (suc q) U rising))

  earlier_sound : (b : ℕ) → b < (at U q).end → b < completion_before b U q + (at U q).span → completion_by b U ≤ edges_earliest (at U q) L
  earlier_sound b bi h =
      let i = at U q in
      ⊎_elim
      (λ (z : completion_by b U ≡ 0). omega arith)
      (λ (r : Reached b U).
      let t = r.task in
      let by : (a : ℕ) → a ≤ i.lo → a ≤ t.lo → b < a + (i.span + work_of (inner a b) U) → completion_by b U ≤ edges_earliest i L = λ a ai at' k.
      justified L U same formed i one a a t.lo b (completion_by b U) ai (omega arith) at' bi t r.within (omega arith) r.ends k r.top in
      ⊎_elim
      (λ (l : i.lo < t.lo).
      ⊎_elim
      (λ (z : completion_before b U q ≡ 0). by i.lo (omega arith) (omega arith) (omega arith))
      (λ (k : (j : ℕ) × (j < q) × ((at U j).end ≤ b) × (completion_before b U q ≡ (at U j).lo + work_of (ends_by b) (drop j U))).
      let j = k.0 in
      let jq : j < q = k.1 in
      let jl : (at U j).lo ≤ i.lo = pairwise_at (λ s t. s.lo ≤ t.lo) U rising j q jq inq in
      by (at U j).lo jl (omega arith) (omega (arith, k.3, by_inner (at U j).lo b (drop j U) (from_place j (omega arith)), total_drop (λ t. cond (inner (at U j).lo b t) t.span 0) j U)))
      (before_from b U q))
      (λ (l : t.lo ≤ i.lo). by t.lo l (omega arith) (omega (arith, before_completion b U q (omega arith), r.top)))
      (cases_lt i.lo t.lo))
      (completion_from b U rising)
    where
      from_place : (j : ℕ) → j < length U → AllByRecursion (λ t. (at U j).lo ≤ t.lo) (drop j U)
      from_place j h = subst (λ (V : List Task). AllByRecursion (λ t. (at U j).lo ≤ t.lo) V) (sym (drop-cons U j no_task h)) (omega arith, pairwise_behind (λ s t. s.lo ≤ t.lo) j U h rising)

  passes_sound : (n : ℕ) → raised_by_all U q n ≤ edges_earliest (at U q) L
  passes_sound n = all_le U q n (edges_earliest (at U q) L) (at_least_ge _ _ _ (sublists (others (at U q) L))) (λ e x l k. both_le (at U e).end U q x _ k (later_sound (at U e).end) (earlier_sound (at U e).end))

  -- a set that meets the condition, with its part T, where i may end after all of it
  reach : (e : ℕ) → e < length U → (at U e).end < (at U q).end → (S T : List Task) → Sublist S L → nonempty S ≡ true → lct S ≤ (at U e).end → Sublist T S → nonempty T ≡ true → (at U e).end < est (at U q ∷ S) + work (at U q ∷ S) → est T + work T ≤ raised_by_all U q (length U)
  reach e ie bi S T pS nS l pT nT h =
      let i = at U q in
      let b = (at U e).end in
      let a = est S in
      let lo : est (i ∷ S) ≤ i.lo = est_first i S in
      let aS : est (i ∷ S) ≤ a = est_rest i S nS in
      let wS : work S ≤ work_of (inner a b) U = (cover L U same formed S a b pS nS (omega arith) l).0 in
      let aT : a ≤ est T = est_sublist pT nT in
      let cT = cover L U same formed T (est T) b (sublist_trans pS pT) nT (omega arith) (omega (arith, lct_sublist pT)) in
      let wT : work T ≤ work_of (inner (est T) b) U = cT.0 in
      let sT : 0 < work T = cT.1 in
      ⊎_elim
      (λ (r : FirstOf (λ k. inner a b (at U k)) q).
      let k = r.place in
      let f = inside_fact (λ t. t.lo) a b (at U k) r.passes in
      let z : work_of (inner a b) U ≡ work_of (inner a b) (drop k U) = work_behind (inner a b) k U r.clear in
      let p : (at U k).lo + work_of (ends_by b) (drop k U) ≤ completion_before b U q = before_by b U q k r.within f.1 in
      let v : completion_by b U ≤ raised_by_all U q (length U) = all_by U q (length U) e (completion_by b U) ie (both_earlier b U q bi (omega (arith, f.0, inner_by a b (drop k U)))) in
      omega (arith, completion_ge b (est T) U (omega arith)))
      (λ (c : (k : ℕ) → k < q → inner a b (at U k) ≡ false).
      let more : (a' : ℕ) → a ≤ a' → (k : ℕ) → k < suc q → inner a' b (at U k) ≡ false = λ a' aa k kq.
      ⊎_elim
      (λ (y : inner a' b (at U k) ≡ true). absurd (
      let f = inside_fact (λ t. t.lo) a' b (at U k) y in
      ⊎_elim
      (λ (w : k ≡ q). omega (arith, f.1, ap (λ (j : ℕ). (at U j).end) w))
      (λ (w : k ≡ q → ⊥). both_ways _ (c k (omega arith)) (inside_from (λ t. t.lo) a b (at U k) (omega (arith, f.0)) f.1))
      (cases_eq k q)))
      (λ (y : inner a' b (at U k) ≡ false). y)
      (cases_Bool (inner a' b (at U k))) in
      let D : List Task = drop (suc q) U in
      let z : work_of (inner a b) U ≡ work_of (inner a b) D = work_behind (inner a b) (suc q) U (more a (omega arith)) in
      let z' : work_of (inner (est T) b) U ≡ work_of (inner (est T) b) D = work_behind (inner (est T) b) (suc q) U (more (est T) aT) in
      let v : completion_by b D ≤ raised_by_all U q (length U) = all_by U q (length U) e (completion_by b D) ie (both_later b U q bi (omega (arith, inner_by a b D))) in
      omega (arith, completion_ge b (est T) D (omega arith)))
      (first_or_none (λ k. inner a b (at U k)) q)

  -- where i would have to end within the set, both together overload
  cramped : (b : ℕ) → completion_by b U ≤ b → (at U q).end ≤ b → (S : List Task) → Sublist S (others (at U q) L) → nonempty S ≡ true → lct S ≤ b → b < est (at U q ∷ S) + work (at U q ∷ S) → ⊥
  cramped b rb bi S pS nS l h =
      let i = at U q in
      let a = est (i ∷ S) in
      let w : i.span + work S ≤ work_of (inner a b) L = work_with (inner a b) i inL formed.distinct (inside_from (λ t. t.lo) a b i (est_first i S) bi) S pS (set_inside (λ t. t.lo) a b S nS (est_rest i S nS) l) in
      let v : 0 < work S = work_some S nS (all_sublist _ (sublist_trans (sublist_kept _ L) pS) (spans L U same formed)) in
      omega (arith, either L U same formed a b, completion_ge b a U (omega (arith, either L U same formed a b)))

  -- every set that meets the condition, and every part of it, is covered
  passes_complete : ((t : Task) → In t U → completion_by t.end U ≤ t.end) → edges_earliest (at U q) L ≤ raised_by_all U q (length U)
  passes_complete room =
      let i = at U q in
      at_least_sublists (ends_last i) earliest_completion i.lo (others i L) (raised_by_all U q (length U)) (all_ge U q (length U)) (λ S pS last.
      at_least_sublists nonempty (λ T. est T + work T) 0 S (raised_by_all U q (length U)) (omega arith) (λ T pT nT.
      let c = and_parts _ _ last in
      let h : lct S < est (i ∷ S) + work (i ∷ S) = ltb-true _ _ c.1 in
      let sL : Sublist S L = sublist_trans (sublist_kept _ L) pS in
      let g = greatest_in (λ t. t.end) S c.0 in
      let p = at_in (same.into g.0 (in_sublist sL g.0 g.1)) in
      let e = p.0 in
      let z : lct S ≡ (at U e).end = g.2 ∙ ap (λ (t : Task). t.end) (sym p.2) in
      ⊎_elim
      (λ (bi : (at U e).end < i.end). reach e p.1 bi S T sL c.0 (omega arith) pT nT (omega arith))
      (λ (bi : i.end ≤ (at U e).end). absurd (cramped (at U e).end (room (at U e) (in_at U e p.1)) bi S pS c.0 (omega arith) (omega arith)))
      (cases_lt (at U e).end i.end)))

  pub passes_exact : list_any (passes_end U) U ≡ false → raised_by_all U q (length U) ≡ edges_earliest (at U q) L
  passes_exact r = omega (arith, passes_complete (λ t m. ltb-false _ _ (any_not (passes_end U) r m)), passes_sound (length U))
