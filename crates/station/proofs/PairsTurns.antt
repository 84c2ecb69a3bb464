-- The loop of pairs, turn by turn.
use Rattle.std.proofs.Common.{◌≡◌, ℕ, ◌+◌, ◌<◌, max, Bool, true, false, cond, not, ◌&&◌, eqb, List, [], ◌∷◌, ◌++◌, length, take, sym, ap, ◌∙◌, ⊎_elim, append-nil}
use Rattle.std.proofs.lemmas.List.Elements.{filter_more}
use Rattle.std.proofs.lemmas.Bool.{cases_Bool, cond-true, cond-false}
use Rattle.station.specs.declared.task.Task.{Task}
use Rattle.station.specs.Pairs.{comes_after, pairs_earliest}
use Rattle.station.specs.Sets.{at_least, others}
use Rattle.station.specs.Tasks.{at, ect, no_task}
use Rattle.station.specs.Bounds.{at_least_push}

pub earliest_more : (i : Task) (U : List Task) (k : ℕ) → k < length U →
    pairs_earliest i (take (k + 1) U) ≡ cond (not (eqb (at U k).job i.job) && comes_after i (at U k)) (max (pairs_earliest i (take k U)) (ect (at U k))) (pairs_earliest i (take k U))
earliest_more i U k h =
    let other : Bool = not (eqb (at U k).job i.job) in
    let M : ℕ = pairs_earliest i (take k U) in
    let e : others i (take (k + 1) U) ≡ others i (take k U) ++ cond other (at U k ∷ []) [] = filter_more (λ t. not (eqb t.job i.job)) U k no_task h in
    ap (at_least (comes_after i) ect i.lo) e ∙
    ⊎_elim
    (λ (o : not (eqb (at U k).job i.job) ≡ true).
    ap (λ (L : List Task). at_least (comes_after i) ect i.lo (others i (take k U) ++ L)) (cond-true other _ _ o) ∙
    at_least_push (comes_after i) ect i.lo (others i (take k U)) (at U k) ∙
    ap (λ (b : Bool). cond (b && comes_after i (at U k)) (max M (ect (at U k))) M) (sym o))
    (λ (o : not (eqb (at U k).job i.job) ≡ false).
    ap (λ (L : List Task). at_least (comes_after i) ect i.lo (others i (take k U) ++ L)) (cond-false other _ _ o) ∙
    ap (at_least (comes_after i) ect i.lo) (append-nil (others i (take k U))) ∙
    ap (λ (b : Bool). cond (b && comes_after i (at U k)) (max M (ect (at U k))) M) (sym o))
    (cases_Bool (not (eqb (at U k).job i.job)))
