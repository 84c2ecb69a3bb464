-- Bounds over many: each value is kept to, and the bound is the least or the greatest that keeps to them all.
use Rattle.std.specs.Prelude.{◌≡◌, ℕ, ◌<◌, ◌≤◌, max, Bool, true, false, cond, List, [], ◌∷◌, ◌++◌, refl}
use Rattle.std.proofs.Common.{sym, ap, subst, ◌∙◌, ⊎_elim, arith}
use Rattle.std.specs.List.{AllByRecursion, list_any}
use Rattle.std.proofs.lemmas.Bool.{both_ways, cases_Bool, cond-true, cond-false, cond_both, or_left, or_right, or_from, cases_lt}
use Rattle.station.specs.declared.task.Task.{Task}
use Rattle.station.specs.Sets.{at_least, at_most, est, greatest, lct, least, nonempty, sublists}
use Rattle.station.specs.Members.{In, Sublist, all_from, all_sublists, here, in_sublist, in_sublists, skip, sublist_whole, there}

module _ {X : Type 0} (f : X → Bool) (g : X → ℕ) (x : ℕ) where
  pub at_least_ge : (L : List X) → x ≤ at_least f g x L
  at_least_ge [] = omega arith
  at_least_ge (a ∷ L) = let h : x ≤ at_least f g x L = at_least_ge L in cond_both (f a) _ _ (λ y. x ≤ y) (λ e. omega arith) (λ e. h)

  pub at_least_by : {a : X} {L : List X} → In a L → f a ≡ true → g a ≤ at_least f g x L
  at_least_by {a} {L = b ∷ M} here t = subst (λ (y : ℕ). g a ≤ y) (sym (cond-true (f a) _ _ t)) (omega arith)
  at_least_by {a} (there {x = b} {L = M} h) t =
      let p : g a ≤ at_least f g x M = at_least_by h t in
      cond_both (f b) _ _ (λ y. g a ≤ y) (λ e. omega arith) (λ e. p)

  pub at_least_le : (L : List X) (y : ℕ) → x ≤ y → AllByRecursion (λ a. f a ≡ true → g a ≤ y) L → at_least f g x L ≤ y
  at_least_le [] y h k = h
  at_least_le (a ∷ L) y h k =
      let p : at_least f g x L ≤ y = at_least_le L y h k.1 in
      cond_both (f a) _ _ (λ z. z ≤ y) (λ e. let q : g a ≤ y = k.0 e in omega arith) (λ e. p)

  pub at_most_le : (L : List X) → at_most f g x L ≤ x
  at_most_le [] = omega arith
  at_most_le (a ∷ L) = let h : at_most f g x L ≤ x = at_most_le L in cond_both (f a) _ _ (λ y. y ≤ x) (λ e. omega arith) (λ e. h)

  pub at_most_by : {a : X} {L : List X} → In a L → f a ≡ true → at_most f g x L ≤ g a
  at_most_by {a} {L = b ∷ M} here t = subst (λ (y : ℕ). y ≤ g a) (sym (cond-true (f a) _ _ t)) (omega arith)
  at_most_by {a} (there {x = b} {L = M} h) t =
      let p : at_most f g x M ≤ g a = at_most_by h t in
      cond_both (f b) _ _ (λ y. y ≤ g a) (λ e. omega arith) (λ e. p)

  pub at_most_ge : (L : List X) (y : ℕ) → y ≤ x → AllByRecursion (λ a. f a ≡ true → y ≤ g a) L → y ≤ at_most f g x L
  at_most_ge [] y h k = h
  at_most_ge (a ∷ L) y h k =
      let p : y ≤ at_most f g x L = at_most_ge L y h k.1 in
      cond_both (f a) _ _ (λ z. y ≤ z) (λ e. let q : y ≤ g a = k.0 e in omega arith) (λ e. p)

-- one more at the end
pub at_least_push : {X : Type 0} (f : X → Bool) (g : X → ℕ) (x : ℕ) (L : List X) (a : X) → at_least f g x (L ++ (a ∷ [])) ≡ cond (f a) (max (at_least f g x L) (g a)) (at_least f g x L)
at_least_push f g x [] a = cond_both (f a) (max (g a) x) x (λ y. y ≡ cond (f a) (max x (g a)) x) (λ e. omega (arith, cond-true (f a) (max x (g a)) x e)) (λ e. sym (cond-false (f a) (max x (g a)) x e))
at_least_push f g x (b ∷ L) a =
    let M = at_least f g x L in
    let ih : at_least f g x (L ++ (a ∷ [])) ≡ cond (f a) (max M (g a)) M = at_least_push f g x L a in
    let N : ℕ = cond (f b) (max (g b) M) M in
    ap (λ (y : ℕ). cond (f b) (max (g b) y) y) ih ∙
    ⊎_elim
    (λ (e : f a ≡ true).
    ap (λ (y : ℕ). cond (f b) (max (g b) y) y) (cond-true (f a) (max M (g a)) M e) ∙
    cond_both (f b) (max (g b) (max M (g a))) (max M (g a)) (λ y. y ≡ max N (g a)) (λ d. omega (arith, cond-true (f b) (max (g b) M) M d)) (λ d. omega (arith, cond-false (f b) (max (g b) M) M d)) ∙
    sym (cond-true (f a) (max N (g a)) N e))
    (λ (e : f a ≡ false). ap (λ (y : ℕ). cond (f b) (max (g b) y) y) (cond-false (f a) (max M (g a)) M e) ∙ sym (cond-false (f a) (max N (g a)) N e))
    (cases_Bool (f a))

-- over all sublists
pub at_least_sublist : {X : Type 0} (f : List X → Bool) (g : List X → ℕ) (x : ℕ) {S L : List X} → Sublist S L → f S ≡ true → g S ≤ at_least f g x (sublists L)
at_least_sublist f g x p e = at_least_by f g x (in_sublists p) e

pub at_least_sublists : {X : Type 0} (f : List X → Bool) (g : List X → ℕ) (x : ℕ) (L : List X) (y : ℕ) → x ≤ y → ((S : List X) → Sublist S L → f S ≡ true → g S ≤ y) → at_least f g x (sublists L) ≤ y
at_least_sublists f g x L y h k = at_least_le f g x (sublists L) y h (all_sublists L (λ S. f S ≡ true → g S ≤ y) k)

-- where to start from does not matter, if it is above one of them
pub at_most_start : {X : Type 0} (f : X → Bool) (g : X → ℕ) (x y : ℕ) {a : X} {L : List X} → In a L → f a ≡ true → g a ≤ x → g a ≤ y → at_most f g x L ≡ at_most f g y L
at_most_start f g x y {a} {L} m t h k =
    let one : (u w : ℕ) → g a ≤ u → g a ≤ w → at_most f g u L ≤ at_most f g w L = λ u w hu hw.
    at_most_ge f g w L (at_most f g u L) (let p : at_most f g u L ≤ g a = at_most_by f g u m t in omega arith) (all_from _ L (λ b n e. at_most_by f g u n e)) in
    let p : at_most f g x L ≤ at_most f g y L = one x y h k in
    let q : at_most f g y L ≤ at_most f g x L = one y x k h in
    omega arith

pub any_in : {X : Type 0} (f : X → Bool) {a : X} {L : List X} → In a L → f a ≡ true → list_any f L ≡ true
any_in f here e = or_left _ _ e
any_in f (there h) e = or_right _ _ (any_in f h e)

pub any_none : {X : Type 0} (f : X → Bool) (L : List X) → AllByRecursion (λ a. f a ≡ false) L → list_any f L ≡ false
any_none f [] h = refl
any_none f (a ∷ L) h = or_from _ _ h.0 (any_none f L h.1)

pub any_not : {X : Type 0} (f : X → Bool) {a : X} {L : List X} → list_any f L ≡ false → In a L → f a ≡ false
any_not f {a} {L} e m =
    ⊎_elim
    (λ (t : f a ≡ true). absurd (both_ways _ e (any_in f m t)))
    (λ (t : f a ≡ false). t)
    (cases_Bool (f a))

-- the least and the greatest value in a set of tasks
module _ (f : Task → ℕ) where
  pub least_le : {t : Task} {S : List Task} → In t S → least f S ≤ f t
  least_le {t} {S = s ∷ []} here = omega arith
  least_le {t} {S = s ∷ r ∷ S} here = omega arith
  least_le {t} (there {x = x} {L = r ∷ S} h) = let p : least f (r ∷ S) ≤ f t = least_le h in omega arith
  least_le {t} (there {x = x} {L = []} h) = elim h [ ]

  pub least_ge : (S : List Task) (a : ℕ) → nonempty S ≡ true → AllByRecursion (λ t. a ≤ f t) S → a ≤ least f S
  least_ge [] a e h = absurd (both_ways false refl e)
  least_ge (t ∷ []) a e h = h.0
  least_ge (t ∷ s ∷ S) a e h = let p : a ≤ least f (s ∷ S) = least_ge (s ∷ S) a refl h.1 in let q : a ≤ f t = h.0 in omega arith

  pub least_in : (S : List Task) → nonempty S ≡ true → (t : Task) × In t S × (least f S ≡ f t)
  least_in [] e = absurd (both_ways false refl e)
  least_in (t ∷ []) e = (t, here, refl)
  least_in (t ∷ s ∷ S) e =
      let r = least_in (s ∷ S) refl in
      let z : least f (s ∷ S) ≡ f r.0 = r.2 in
      ⊎_elim
      (λ (h : f t < least f (s ∷ S)). (t, here, omega arith))
      (λ (h : least f (s ∷ S) ≤ f t). (r.0, there r.1, omega arith))
      (cases_lt (f t) (least f (s ∷ S)))

  pub greatest_ge : {t : Task} {S : List Task} → In t S → f t ≤ greatest f S
  greatest_ge here = omega arith
  greatest_ge {t} (there {x = x} {L = L} h) = let p : f t ≤ greatest f L = greatest_ge h in omega arith

  pub greatest_le : (S : List Task) (b : ℕ) → AllByRecursion (λ t. f t ≤ b) S → greatest f S ≤ b
  greatest_le [] b h = omega arith
  greatest_le (t ∷ S) b h = let p : greatest f S ≤ b = greatest_le S b h.1 in let q : f t ≤ b = h.0 in omega arith

  pub greatest_in : (S : List Task) → nonempty S ≡ true → (t : Task) × In t S × (greatest f S ≡ f t)
  greatest_in [] e = absurd (both_ways false refl e)
  greatest_in (t ∷ []) e = (t, here, omega arith)
  greatest_in (t ∷ s ∷ S) e =
      let r = greatest_in (s ∷ S) refl in
      let z : greatest f (s ∷ S) ≡ f r.0 = r.2 in
      ⊎_elim
      (λ (h : f t < greatest f (s ∷ S)). (r.0, there r.1, omega arith))
      (λ (h : greatest f (s ∷ S) ≤ f t). (t, here, omega arith))
      (cases_lt (f t) (greatest f (s ∷ S)))

pub lct_sublist : {S L : List Task} → Sublist S L → lct S ≤ lct L
lct_sublist {S} {L} p = greatest_le (λ t. t.end) S (lct L) (all_from _ S (λ t m. greatest_ge (λ t. t.end) (in_sublist p t m)))

pub est_sublist : {T S : List Task} → Sublist T S → nonempty T ≡ true → est S ≤ est T
est_sublist {T} {S} p e = least_ge (λ t. t.lo) T (est S) e (all_from _ T (λ t m. least_le (λ t. t.lo) (in_sublist p t m)))

pub est_first : (i : Task) (S : List Task) → est (i ∷ S) ≤ i.lo
est_first i S = least_le (λ t. t.lo) {t = i} {S = i ∷ S} here

pub est_rest : (i : Task) (S : List Task) → nonempty S ≡ true → est (i ∷ S) ≤ est S
est_rest i S e = est_sublist (skip {x = i} (sublist_whole S)) e
