-- All passes of not-first together give what the definition over all sets gives.
use Rattle.std.proofs.Common.{◌≡◌, ℕ, zero, suc, ◌+◌, ◌-◌, ◌<◌, ◌≤◌, min, max, Bool, true, false, cond, ◌&&◌, ltb, ◌⊎◌, List, [], ◌∷◌, length, drop, filter, sym, refl, ap, ◌∙◌, subst, inl, inr, ⊎_elim, arith}
use Rattle.std.specs.List.{AllByRecursion}
use Rattle.std.proofs.ByRecursion.{All-weaker}
use Rattle.std.proofs.lemmas.Bool.{cases_Bool, cond-true, cond-false, cond_both, cases_lt, cases_eq, and_from, and_parts, and_left, leb-true, le-leb, lt-leb, ltb-true, lt-ltb}
use Rattle.station.specs.declared.task.Task.{Task}
use Rattle.station.specs.EdgesPasses.{work_of}
use Rattle.station.specs.Limits.{most_work}
use Rattle.station.specs.NotFirst.{not_first, not_first_earliest}
use Rattle.station.specs.NotFirstPasses.{complete_from, front, no_slack, raised_by_sooner, raised_from, raised_from_all, slack}
use Rattle.station.specs.Sets.{lct, least, nonempty, others, sublists, work}
use Rattle.station.specs.Tasks.{Fit, Formed, Pairwise, at, ect}
use Rattle.station.specs.Bounds.{at_least_ge, at_least_sublist, at_least_sublists, least_in}
use Rattle.station.proofs.Intervals.{inside, inside_fact, inside_from, kept_lct, kept_least, set_inside}
use Rattle.station.specs.Members.{In, Sublist, all_from, all_in, all_sublist, at_in, here, in_at, in_drop, in_sublist, sublist_kept, sublist_trans, there}
use Rattle.station.specs.Pairwise.{pairwise_at, pairwise_drop}
use Rattle.station.proofs.Shuffles.{Same}
use Rattle.station.specs.Works.{others_work, some_work, span_no, span_yes, total_drop, work_behind, work_here, work_in, work_kept, work_mono, work_most, work_some, work_sublist, work_with}

-- complete at e or later, and ends by b
abbrev late : ℕ → ℕ → Task → Bool
late e b = inside ect e b

-- from the latest completion down
abbrev pub Falling : List Task → Type 0
Falling U = Pairwise (λ s t. t.end ≤ s.end) U

late_from_e : (e b : ℕ) (L : List Task) → work_of (late e b) L ≤ work_of (complete_from e) L
late_from_e e b L = work_mono (late e b) (complete_from e) L (all_from _ L (λ t m h. (and_parts _ _ h).0))

-- where every task ends by b, all that are complete at e or later are meant
from_e_late : (e b : ℕ) (L : List Task) → AllByRecursion (λ t. t.end ≤ b) L → work_of (complete_from e) L ≤ work_of (late e b) L
from_e_late e b L a = work_mono (complete_from e) (late e b) L (all_from _ L (λ t m h. and_from _ _ h (le-leb _ _ (all_in (λ t. t.end ≤ b) m a))))

module _ (e : ℕ) where
  pub slack_yes : (t : Task) (U : List Task) → e ≤ ect t → slack e (t ∷ U) ≡ min (slack e U) (t.end + most_work - (t.span + work_of (complete_from e) U))
  slack_yes t U h = cond-true (complete_from e t) _ _ (le-leb _ _ h)

  pub slack_no : (t : Task) (U : List Task) → ect t < e → slack e (t ∷ U) ≡ slack e U
  slack_no t U h = cond-false (complete_from e t) _ _ (lt-leb _ _ h)

  -- no set that has work leaves less than the slack
  slack_le : (b : ℕ) (V : List Task) → work_of (complete_from e) V ≤ most_work → 0 < work_of (late e b) V → slack e V + work_of (late e b) V ≤ b + most_work
  slack_le b [] f h = absurd (omega arith)
  slack_le b (t ∷ V) f h =
      ⊎_elim
      (λ (y : late e b t ≡ true).
      let k = inside_fact ect e b t y in
      omega (arith, k.1, span_yes (late e b) t y, span_yes (complete_from e) t (le-leb _ _ k.0), slack_yes t V k.0, late_from_e e b V))
      (λ (y : late e b t ≡ false).
      let z : cond (late e b t) t.span 0 ≡ 0 = span_no (late e b) t y in
      let r : slack e V + work_of (late e b) V ≤ b + most_work = slack_le b V (omega arith) (omega arith) in
      let g : slack e (t ∷ V) ≤ slack e V = cond_both (complete_from e t) _ _ (λ x. x ≤ slack e V) (λ h. omega arith) (λ h. omega arith) in
      omega arith)
      (cases_Bool (late e b t))

  -- the slack is that up to the end of a task
  record Tightest (V : List Task) : Type 0 where
    pub task : Task
    pub within : In task V
    pub complete : e ≤ ect task
    pub low : task.end + most_work ≤ slack e V + work_of (late e task.end) V

  slack_from : (V : List Task) → Falling V → (slack e V ≡ no_slack) ⊎ Tightest V
  slack_from [] s = inl refl
  slack_from (t ∷ V) s =
      let old : slack e (t ∷ V) ≡ slack e V → (slack e (t ∷ V) ≡ no_slack) ⊎ Tightest (t ∷ V) = λ h.
      ⊎_elim
      (λ (z : slack e V ≡ no_slack). inl (h ∙ z))
      (λ (r : Tightest V). inr (record { task = r.task; within = there r.within; complete = r.complete; low = omega (arith, r.low) }))
      (slack_from V s.1) in
      ⊎_elim
      (λ (y : ect t < e). old (slack_no t V y))
      (λ (y : e ≤ ect t).
      ⊎_elim
      (λ (h : t.end + most_work - (t.span + work_of (complete_from e) V) < slack e V).
      inr (record {
        task = t;
        within = here;
        complete = y;
        low = omega (arith, slack_yes t V y, from_e_late e t.end V s.0, span_yes (late e t.end) t (inside_from ect e t.end t y (omega arith)));
      }))
      (λ (h : slack e V ≤ t.end + most_work - (t.span + work_of (complete_from e) V)). old (omega (arith, slack_yes t V y)))
      (cases_lt (t.end + most_work - (t.span + work_of (complete_from e) V)) (slack e V)))
      (cases_lt (ect t) e)

-- what the passes for one completion do to a bound
module _ (e : ℕ) (U : List Task) (q : ℕ) where
  abbrev pub by_sooner : Bool
  by_sooner = complete_from e (at U q) && ltb (slack e (drop (suc q) U)) (ect (at U q) + most_work)

  abbrev pub by_any : Bool
  by_any = ltb (slack e U) (front e (at U q) + most_work)

  abbrev first_pass : ℕ → ℕ
  first_pass x = raised_by_sooner e U q x

  raise_ge : (v : Bool) (x : ℕ) → x ≤ cond v (max x e) x
  raise_ge v x = cond_both v (max x e) x (λ y. x ≤ y) (λ t. omega arith) (λ t. omega arith)

  pub from_ge : (x : ℕ) → x ≤ raised_from e U q x
  from_ge x = omega (arith, raise_ge by_sooner x, raise_ge by_any (first_pass x))

  from_sooner : e ≤ ect (at U q) → slack e (drop (suc q) U) < ect (at U q) + most_work → (x : ℕ) → e ≤ raised_from e U q x
  from_sooner h k x = omega (arith, cond-true by_sooner (max x e) x (and_from _ _ (le-leb _ _ h) (lt-ltb _ _ k)), raise_ge by_any (first_pass x))

  from_any : slack e U < front e (at U q) + most_work → (x : ℕ) → e ≤ raised_from e U q x
  from_any k x = omega (arith, cond-true by_any (max (first_pass x) e) (first_pass x) (lt-ltb _ _ k))

  from_le : (x y : ℕ) → x ≤ y → (e ≤ ect (at U q) → slack e (drop (suc q) U) < ect (at U q) + most_work → e ≤ y) → (slack e U < front e (at U q) + most_work → e ≤ y) → raised_from e U q x ≤ y
  from_le x y h f g =
      let a : first_pass x ≤ y = cond_both by_sooner (max x e) x (λ z. z ≤ y) (λ t. let p = and_parts (complete_from e (at U q)) (ltb (slack e (drop (suc q) U)) (ect (at U q) + most_work)) t in omega (arith, f (leb-true _ _ p.0) (ltb-true _ _ p.1))) (λ t. h) in
      cond_both by_any (max (first_pass x) e) (first_pass x) (λ z. z ≤ y) (λ t. omega (arith, g (ltb-true _ _ t))) (λ t. a)

module _ (U : List Task) (q : ℕ) where
  from_all_ge : (n : ℕ) → (at U q).lo ≤ raised_from_all U q n
  from_all_ge zero = omega arith
  from_all_ge (suc n) = omega (arith, from_all_ge n, from_ge (ect (at U n)) U q (raised_from_all U q n))

  from_all_by : (n k y : ℕ) → k < n → ((x : ℕ) → y ≤ raised_from (ect (at U k)) U q x) → y ≤ raised_from_all U q n
  from_all_by zero k y h f = absurd (omega arith)
  from_all_by (suc n) k y h f =
      ⊎_elim
      (λ (z : k ≡ n). subst (λ (j : ℕ). y ≤ raised_from (ect (at U j)) U q (raised_from_all U q n)) z (f (raised_from_all U q n)))
      (λ (z : k ≡ n → ⊥). omega (arith, from_all_by n k y (omega arith) f, from_ge (ect (at U n)) U q (raised_from_all U q n)))
      (cases_eq k n)

  from_all_le : (n y : ℕ) → (at U q).lo ≤ y → ((k x : ℕ) → k < n → x ≤ y → raised_from (ect (at U k)) U q x ≤ y) → raised_from_all U q n ≤ y
  from_all_le zero y h f = h
  from_all_le (suc n) y h f = f n (raised_from_all U q n) (omega arith) (from_all_le n y h (λ k x l m. f k x (omega arith) m))

module _ (L U : List Task) (same : Same L U) (formed : Formed L) (formed' : Formed U) (falling : Falling U) (q : ℕ) (inq : q < length U) where
  inL : In (at U q) L
  inL = same.from (at U q) (in_at U q inq)

  fits : Fit (at U q)
  fits = all_in Fit inL formed.fit

  either : (f : Task → Bool) → work_of f L ≡ work_of f U
  either f = same.weight (λ t. cond (f t) t.span 0)

  -- the set of all that are complete at e or later and end by b, without i
  justified : (e b : ℕ) → 0 < work_of (late e b) (others (at U q) L) → b < (at U q).lo + (work_of (late e b) (others (at U q) L) + (at U q).span) → e ≤ not_first_earliest (at U q) L
  justified e b h k =
      let i = at U q in
      let M = others i L in
      let S : List Task = filter (late e b) M in
      let w : work S ≡ work_of (late e b) M = work_kept (late e b) M in
      let nS : nonempty S ≡ true = some_work S (omega arith) in
      omega (arith, kept_least ect e b M nS, at_least_sublist (not_first i) (λ S. least ect S) i.lo (sublist_kept (late e b) M) (and_from _ _ nS (lt-ltb _ _ (omega (arith, kept_lct ect e b M)))))

  -- a task whose end gives a slack has work of its own
  tight_work : (e : ℕ) (l : Task) (V : List Task) → In l V → In l U → e ≤ ect l → 0 < work_of (late e l.end) V
  tight_work e l V m n h = omega (arith, work_in (late e l.end) m (inside_from ect e l.end l h (omega arith)), (all_in Fit (same.from l n) formed.fit).some)

  without : (e b : ℕ) → work_of (late e b) (others (at U q) L) + cond (late e b (at U q)) (at U q).span 0 ≡ work_of (late e b) U
  without e b = others_work (late e b) (at U q) inL formed.distinct ∙ either (late e b)

  sooner_sound : (e : ℕ) → e ≤ ect (at U q) → slack e (drop (suc q) U) < ect (at U q) + most_work → e ≤ not_first_earliest (at U q) L
  sooner_sound e h k =
      let i = at U q in
      let D : List Task = drop (suc q) U in
      ⊎_elim
      (λ (z : slack e D ≡ no_slack). absurd (omega (arith, fits.room, fits.ends)))
      (λ (r : Tightest e D).
      let l = r.task in
      let b = l.end in
      let some : 0 < work_of (late e b) D = tight_work e l D r.within (in_drop (suc q) U l r.within) r.complete in
      let behind : work_of (late e b) D + cond (late e b i) i.span 0 ≤ work_of (late e b) U = omega (arith, work_here (late e b) U q inq, total_drop (λ t. cond (late e b t) t.span 0) q U) in
      justified e b (omega (arith, without e b)) (omega (arith, without e b, r.low)))
      (slack_from e D (pairwise_drop _ (suc q) U falling))

  any_sound : (e : ℕ) → slack e U < front e (at U q) + most_work → e ≤ not_first_earliest (at U q) L
  any_sound e k =
      let i = at U q in
      let top : front e i ≤ ect i = cond_both (complete_from e i) i.lo (ect i) (λ x. x ≤ ect i) (λ t. omega arith) (λ t. omega arith) in
      ⊎_elim
      (λ (z : slack e U ≡ no_slack). absurd (omega (arith, fits.room, fits.ends)))
      (λ (r : Tightest e U).
      let l = r.task in
      let b = l.end in
      let low : b + most_work ≤ slack e U + work_of (late e b) U = r.low in
      let some : 0 < work_of (late e b) U = tight_work e l U r.within r.within r.complete in
      let o = without e b in
      ⊎_elim
      (λ (m : complete_from e i ≡ true).
      let c : front e i ≡ i.lo = cond-true (complete_from e i) _ _ m in
      ⊎_elim
      (λ (n : late e b i ≡ true). justified e b (omega (arith, o, span_yes (late e b) i n, (inside_fact ect e b i n).1, fits.room)) (omega (arith, o, span_yes (late e b) i n)))
      (λ (n : late e b i ≡ false). justified e b (omega (arith, o, span_no (late e b) i n)) (omega (arith, o, span_no (late e b) i n)))
      (cases_Bool (late e b i)))
      (λ (m : complete_from e i ≡ false).
      let c : front e i ≡ ect i = cond-false (complete_from e i) _ _ m in
      let z : cond (late e b i) i.span 0 ≡ 0 = span_no (late e b) i (and_left _ _ m) in
      justified e b (omega (arith, o)) (omega (arith, o)))
      (cases_Bool (complete_from e i)))
      (slack_from e U falling)

  passes_sound : (n : ℕ) → raised_from_all U q n ≤ not_first_earliest (at U q) L
  passes_sound n = from_all_le U q n (not_first_earliest (at U q) L) (at_least_ge _ _ _ (sublists (others (at U q) L))) (λ k x l m. from_le (ect (at U k)) U q x _ m (sooner_sound (ect (at U k))) (any_sound (ect (at U k))))

  -- a set that keeps i from being first
  reach : (k : ℕ) → k < length U → (S : List Task) → Sublist S (others (at U q) L) → nonempty S ≡ true → least ect S ≡ ect (at U k) → lct S < (at U q).lo + (work S + (at U q).span) → ect (at U k) ≤ raised_from_all U q (length U)
  reach k kU S pS nS z h =
      let i = at U q in
      let e = ect (at U k) in
      let b = lct S in
      let sL : Sublist S L = sublist_trans (sublist_kept _ L) pS in
      let aS : AllByRecursion (λ t. late e b t ≡ true) S = set_inside ect e b S nS (omega arith) (omega arith) in
      let wS : work S ≤ work_of (late e b) L = work_sublist (late e b) sL aS in
      let some : 0 < work S = work_some S nS (all_sublist _ sL (All-weaker Fit (λ t. 1 ≤ t.span) (λ t f. f.some) L formed.fit)) in
      let y : work_of (late e b) L ≡ work_of (late e b) U = either (late e b) in
      let all : slack e U + work_of (late e b) U ≤ b + most_work = slack_le e b U (work_most (complete_from e) U 0 formed') (omega arith) in
      ⊎_elim
      (λ (m : complete_from e i ≡ true).
      ⊎_elim
      (λ (o : b < i.end).
      let D : List Task = drop (suc q) U in
      let c : work_of (late e b) U ≡ work_of (late e b) D = work_behind (late e b) (suc q) U (λ j l.
      ⊎_elim
      (λ (n : late e b (at U j) ≡ true). absurd (
      let v : (at U j).end ≤ b = (inside_fact ect e b (at U j) n).1 in
      ⊎_elim
      (λ (w : j ≡ q). omega (arith, ap (λ (p : ℕ). (at U p).end) w))
      (λ (w : j ≡ q → ⊥). omega (arith, pairwise_at (λ s t. t.end ≤ s.end) U falling j q (omega arith) inq))
      (cases_eq j q)))
      (λ (n : late e b (at U j) ≡ false). n)
      (cases_Bool (late e b (at U j)))) in
      from_all_by U q (length U) k e kU (from_sooner e U q (leb-true _ _ m) (omega (arith, slack_le e b D (work_most (complete_from e) U (suc q) formed') (omega arith)))))
      (λ (o : i.end ≤ b).
      let w : i.span + work S ≤ work_of (late e b) L = work_with (late e b) i inL formed.distinct (inside_from ect e b i (leb-true _ _ m) o) S pS aS in
      from_all_by U q (length U) k e kU (from_any e U q (omega (arith, cond-true (complete_from e i) i.lo (ect i) m))))
      (cases_lt b i.end))
      (λ (m : complete_from e i ≡ false). from_all_by U q (length U) k e kU (from_any e U q (omega (arith, cond-false (complete_from e i) i.lo (ect i) m))))
      (cases_Bool (complete_from e i))

  pub not_first_exact : raised_from_all U q (length U) ≡ not_first_earliest (at U q) L
  not_first_exact =
      let i = at U q in
      let a : not_first_earliest (at U q) L ≤ raised_from_all U q (length U) =
      at_least_sublists (not_first i) (λ S. least ect S) i.lo (others i L) (raised_from_all U q (length U)) (from_all_ge U q (length U)) (λ S pS c.
      let y = and_parts _ _ c in
      let j = least_in ect S y.0 in
      let p = at_in (same.into j.0 (in_sublist (sublist_trans (sublist_kept _ L) pS) j.0 j.1)) in
      let z : least ect S ≡ ect (at U p.0) = j.2 ∙ ap ect (sym p.2) in
      subst (λ (n : ℕ). n ≤ raised_from_all U q (length U)) (sym z) (reach p.0 p.1 S pS y.0 z (ltb-true _ _ y.1))) in
      omega (arith, passes_sound (length U))
