-- The limits are the earliest starts as time runs back.
use Rattle.std.specs.Prelude.{◌≡◌, ℕ, ◌+◌, ◌-◌, ◌<◌, ◌≤◌, max, Bool, true, false, not, ◌&&◌, ◌||◌, List, [], ◌∷◌, ◌++◌, map, ◌==◌, nat_lt, refl}
use Rattle.std.proofs.Common.{sym, ap, ◌∙◌, ⊎_elim, arith}
use Rattle.std.specs.List.{AllByRecursion, list_any}
use Rattle.std.proofs.ByRecursion.{all_kept_by}
use Rattle.std.proofs.lemmas.List.{map-append}
use Rattle.std.proofs.lemmas.Simd.{map-map}
use Rattle.std.proofs.lemmas.Bool.{both_ways, cases_Bool, cond-true, cond-false, cases_lt, and_parts, and_left, lt-ltb, le-ltb}
use Rattle.station.specs.declared.task.Task.{Task}
use Rattle.station.specs.Edges.{earliest_completion, edges_earliest, edges_limit, edges_overloaded, ends_last, limit_before, overloads, starts_first}
use Rattle.station.specs.Limits.{horizon}
use Rattle.station.specs.Mirror.{mirror}
use Rattle.station.specs.NotFirst.{not_first, not_first_earliest, not_first_limit, not_last}
use Rattle.station.specs.Pairs.{comes_after, pairs_earliest, pairs_limit}
use Rattle.station.specs.Sets.{at_least, at_most, est, greatest, lct, least, nonempty, others, sublists, work}
use Rattle.station.specs.Tasks.{Fit, ect, last_start, own_limit}
use Rattle.station.specs.Bounds.{at_most_start}
use Rattle.station.specs.Members.{In, all_from, all_in, all_sublist, all_sublists, in_sublists, sublist_whole}

sublists_map : {X Y : Type 0} (f : X → Y) (L : List X) → sublists (map f L) ≡ map (map f) (sublists L)
sublists_map f [] = refl
sublists_map f (x ∷ L) =
    let ih : sublists (map f L) ≡ map (map f) (sublists L) = sublists_map f L in
    ap (λ P. P ++ map (λ S. f x ∷ S) P) ih
    ∙ ap (λ P. map (map f) (sublists L) ++ P) (map-map (λ S. f x ∷ S) (map f) (sublists L) ∙ sym (map-map (map f) (λ S. x ∷ S) (sublists L)))
    ∙ sym (map-append (map f) (sublists L) (map (λ S. x ∷ S) (sublists L)))

any_map : {X Y : Type 0} (h : X → Y) (f : Y → Bool) (g : X → Bool) (L : List X) → AllByRecursion (λ x. f (h x) ≡ g x) L → list_any f (map h L) ≡ list_any g L
any_map h f g [] a = refl
any_map h f g (x ∷ L) a = ap (λ (b : Bool). b || list_any f (map h L)) a.0 ∙ ap (λ (b : Bool). g x || b) (any_map h f g L a.1)

others_map : (i : Task) (L : List Task) → others (mirror i) (map mirror L) ≡ map mirror (others i L)
others_map i [] = refl
others_map i (t ∷ L) =
    let other : Bool = not (t.job == i.job) in
    let ih : others (mirror i) (map mirror L) ≡ map mirror (others i L) = others_map i L in
    ⊎_elim
    (λ (e : not (t.job == i.job) ≡ true). cond-true other _ _ e ∙ ap (λ (N : List Task). mirror t ∷ N) ih ∙ ap (map mirror) (sym (cond-true other (t ∷ others i L) _ e)))
    (λ (e : not (t.job == i.job) ≡ false). cond-false other _ _ e ∙ ih ∙ ap (map mirror) (sym (cond-false other (t ∷ others i L) _ e)))
    (cases_Bool (not (t.job == i.job)))

-- the limit of a task that starts at y as time runs back
abbrev turned : Task → ℕ → ℕ
turned i y = horizon + 1 - (y + i.span)

-- a bound from above over L is one from below over what L becomes as time runs back
at_most_turned : {X Y : Type 0} (h : X → Y) (i : Task) (f : Y → Bool) (g : Y → ℕ) (f' : X → Bool) (v : X → ℕ) (x : ℕ) (L : List X) → AllByRecursion (λ S. (f (h S) ≡ f' S) × (f' S ≡ true → v S ≡ turned i (g (h S)))) L → at_most f' v (turned i x) L ≡ turned i (at_least f g x (map h L))
at_most_turned h i f g f' v x [] a = refl
at_most_turned h i f g f' v x (S ∷ L) a =
    let ih : at_most f' v (turned i x) L ≡ turned i (at_least f g x (map h L)) = at_most_turned h i f g f' v x L a.1 in
    ⊎_elim
    (λ (e : f' S ≡ true). cond-true (f' S) _ _ e ∙ omega (arith, a.0.1 e, cond-true (f (h S)) (max (g (h S)) (at_least f g x (map h L))) (at_least f g x (map h L)) (a.0.0 ∙ e)))
    (λ (e : f' S ≡ false). cond-false (f' S) _ _ e ∙ ih ∙ ap (turned i) (sym (cond-false (f (h S)) _ _ (a.0.0 ∙ e))))
    (cases_Bool (f' S))

ltb_same : (a b c d : ℕ) → (a < b → c < d) → (c < d → a < b) → nat_lt a b ≡ nat_lt c d
ltb_same a b c d f g =
    ⊎_elim
    (λ (h : a < b). lt-ltb _ _ h ∙ sym (lt-ltb _ _ (f h)))
    (λ (h : b ≤ a). le-ltb _ _ h ∙ sym (le-ltb _ _ (⊎_elim (λ (k : c < d). absurd (let z : a < b = g k in omega arith)) (λ (k : d ≤ c). k) (cases_lt c d))))
    (cases_lt a b)

-- the figures of a set as time runs back
nonempty_map : (S : List Task) → nonempty (map mirror S) ≡ nonempty S
nonempty_map [] = refl
nonempty_map (t ∷ S) = refl

work_map : (S : List Task) → work (map mirror S) ≡ work S
work_map [] = refl
work_map (t ∷ S) = ap (λ (n : ℕ). t.span + n) (work_map S)

record Turned (S : List Task) : Type 0 where
  pub est_is : est (map mirror S) ≡ horizon - lct S
  pub lct_is : lct (map mirror S) ≡ horizon - est S
  pub ect_is : least ect (map mirror S) ≡ horizon - greatest last_start S
  pub work_is : work (map mirror S) ≡ work S
  pub est_most : est S ≤ horizon
  pub lct_most : lct S ≤ horizon
  pub last_most : greatest last_start S ≤ horizon

turned_set : (S : List Task) → AllByRecursion Fit S → nonempty S ≡ true → Turned S
turned_set [] h e = absurd (both_ways false refl e)
turned_set (t ∷ []) h e =
    let f = h.0 in
    record { est_is = omega (arith, f.ends); lct_is = omega (arith, f.ends); ect_is = omega (arith, f.ends, f.room); work_is = refl; est_most = omega (arith, f.ends, f.room); lct_most = omega (arith, f.ends); last_most = omega (arith, f.ends) }
turned_set (t ∷ s ∷ S) h e =
    let f = h.0 in
    let r : Turned (s ∷ S) = turned_set (s ∷ S) h.1 refl in
    record {
      est_is = omega (arith, f.ends, r.est_is, r.lct_most);
      lct_is = omega (arith, f.ends, f.room, r.lct_is, r.est_most);
      ect_is = omega (arith, f.ends, f.room, r.ect_is, r.last_most);
      work_is = work_map (t ∷ s ∷ S);
      est_most = omega (arith, f.ends, f.room);
      lct_most = omega (arith, f.ends, r.lct_most);
      last_most = omega (arith, f.ends, r.last_most);
    }

-- a test of a set that is not empty
test_same : (S : List Task) → AllByRecursion Fit S → (a b c d : ℕ) → (Turned S → (a < b → c < d) × (c < d → a < b)) → (nonempty (map mirror S) && nat_lt a b) ≡ (nonempty S && nat_lt c d)
test_same S h a b c d f =
    ⊎_elim
    (λ (e : nonempty S ≡ true).
    let g = f (turned_set S h e) in
    ap (λ (x : Bool). x && nat_lt a b) (nonempty_map S) ∙ ap (λ (x : Bool). nonempty S && x) (ltb_same a b c d g.0 g.1))
    (λ (e : nonempty S ≡ false). and_left _ _ (nonempty_map S ∙ e) ∙ sym (and_left _ _ e))
    (cases_Bool (nonempty S))

module _ (U : List Task) (fit : AllByRecursion Fit U) where
  pub overloaded_mirrored : edges_overloaded (map mirror U) ≡ edges_overloaded U
  overloaded_mirrored =
      ap (list_any overloads) (sublists_map mirror U) ∙
      any_map (map mirror) overloads overloads (sublists U) (all_sublists U _ (λ S p. test_same S (all_sublist _ p fit) _ _ _ _ (λ r. ((λ k. omega (arith, r.est_is, r.lct_is, r.work_is, r.est_most, r.lct_most)), (λ k. omega (arith, r.est_is, r.lct_is, r.work_is, r.est_most, r.lct_most))))))

  module _ (i : Task) (m : In i U) where
    own : Fit i
    own = all_in Fit m fit

    start : own_limit i ≡ turned i (mirror i).lo
    start = omega (arith, own.ends)

    fit_others : AllByRecursion Fit (others i U)
    fit_others = all_kept_by _ Fit U fit

    sets_map : sublists (others (mirror i) (map mirror U)) ≡ map (map mirror) (sublists (others i U))
    sets_map = ap sublists (others_map i U) ∙ sublists_map mirror (others i U)

    -- the same for each set of others
    sets_turned : (f : List Task → Bool) (g : List Task → ℕ) (f' : List Task → Bool) (v : List Task → ℕ) → ((S : List Task) → AllByRecursion Fit S → (f (map mirror S) ≡ f' S) × (f' S ≡ true → v S ≡ turned i (g (map mirror S)))) → at_most f' v (own_limit i) (sublists (others i U)) ≡ turned i (at_least f g (mirror i).lo (sublists (others (mirror i) (map mirror U))))
    sets_turned f g f' v h =
        ap (λ (x : ℕ). at_most f' v x (sublists (others i U))) start ∙
        at_most_turned (map mirror) i f g f' v (mirror i).lo (sublists (others i U)) (all_sublists (others i U) _ (λ S p. h S (all_sublist Fit p fit_others))) ∙
        ap (λ (N : List (List Task)). turned i (at_least f g (mirror i).lo N)) (sym sets_map)

    pairs_turned : pairs_limit i U ≡ turned i (pairs_earliest (mirror i) (map mirror U))
    pairs_turned =
        ap (λ (x : ℕ). at_most (λ j. comes_after j i) (λ j. last_start j + 1 - i.span) x (others i U)) start ∙
        at_most_turned mirror i (comes_after (mirror i)) ect (λ j. comes_after j i) (λ j. last_start j + 1 - i.span) (mirror i).lo (others i U) (all_from _ (others i U) (λ j n.
        let f = all_in Fit n fit_others in
        (ltb_same _ _ _ _ (λ k. omega (arith, f.ends, f.room, own.ends, own.room)) (λ k. omega (arith, f.ends, f.room, own.ends, own.room)), λ e. omega (arith, f.ends, f.room)))) ∙
        ap (λ (N : List Task). turned i (at_least (comes_after (mirror i)) ect (mirror i).lo N)) (sym (others_map i U))

    not_first_turned : not_first_limit i U ≡ turned i (not_first_earliest (mirror i) (map mirror U))
    not_first_turned = sets_turned (not_first (mirror i)) (λ S. least ect S) (not_last i) (λ S. greatest last_start S + 1 - i.span) (λ S h. (
      test_same S h _ _ _ _ (λ r. ((λ k. omega (arith, own.ends, r.lct_is, r.work_is, r.est_most)), (λ k. omega (arith, own.ends, r.lct_is, r.work_is, r.est_most)))),
      λ e. let r = turned_set S h (and_parts _ _ e).0 in omega (arith, r.ect_is, r.last_most),
    ))

    parts_turned : (S : List Task) → AllByRecursion Fit S → nonempty S ≡ true → limit_before i S ≡ turned i (earliest_completion (map mirror S))
    parts_turned S h e =
        let v : List Task → ℕ = λ T. lct T + 1 - (work T + i.span) in
        let l : lct S ≤ horizon = (turned_set S h e).lct_most in
        at_most_start nonempty v (horizon + 1) (turned i 0) (in_sublists (sublist_whole S)) e (omega arith) (omega arith) ∙
        at_most_turned (map mirror) i nonempty (λ T. est T + work T) nonempty v 0 (sublists S) (all_sublists S _ (λ T p. (nonempty_map T, λ f. let r = turned_set T (all_sublist Fit p h) f in omega (arith, r.est_is, r.work_is, r.lct_most)))) ∙
        ap (λ (N : List (List Task)). turned i (at_least nonempty (λ T. est T + work T) 0 N)) (sym (sublists_map mirror S))

    edges_turned : edges_limit i U ≡ turned i (edges_earliest (mirror i) (map mirror U))
    edges_turned = sets_turned (ends_last (mirror i)) earliest_completion (starts_first i) (limit_before i) (λ S h. (
      test_same S h _ _ _ _ (λ r.
          let w : Turned (i ∷ S) = turned_set (i ∷ S) (own, h) refl in
          ((λ k. omega (arith, w.est_is, w.lct_most, r.lct_is, r.work_is, r.est_most)), (λ k. omega (arith, w.est_is, w.lct_most, r.lct_is, r.work_is, r.est_most)))),
      λ e. parts_turned S h (and_parts _ _ e).0,
    ))

  pub pairs_mirrored : AllByRecursion (λ i. pairs_limit i U ≡ turned i (pairs_earliest (mirror i) (map mirror U))) U
  pairs_mirrored = all_from _ U pairs_turned

  pub edges_mirrored : AllByRecursion (λ i. edges_limit i U ≡ turned i (edges_earliest (mirror i) (map mirror U))) U
  edges_mirrored = all_from _ U edges_turned

  pub not_first_mirrored : AllByRecursion (λ i. not_first_limit i U ≡ turned i (not_first_earliest (mirror i) (map mirror U))) U
  not_first_mirrored = all_from _ U not_first_turned
