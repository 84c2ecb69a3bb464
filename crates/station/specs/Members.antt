-- Members and sublists of a list, and what is said of all of them.
use Rattle.std.specs.Prelude.{◌≡◌, ℕ, zero, suc, ◌<◌, ◌≤◌, Bool, true, List, [], ◌∷◌, ◌++◌, map, length, drop, filter, All, refl}
use Rattle.std.proofs.Common.{sym, subst, arith}
use Rattle.std.specs.List.{AllByRecursion}
use Rattle.std.proofs.ByRecursion.{All-append, All-map, All-get_or}
use Rattle.std.proofs.lemmas.Bool.{cond-true, cond_both}
use Rattle.station.specs.declared.task.Task.{Task}
use Rattle.station.specs.Sets.{nonempty, sublists}
use Rattle.station.specs.Tasks.{Fit, Formed, at, no_task}

pub data In {X : Type 0} (a : X) : List X → Type 0 where
  here : {L : List X} → In a (a ∷ L)
  there : {x : X} {L : List X} → In a L → In a (x ∷ L)

pub data Sublist {X : Type 0} : List X → List X → Type 0 where
  none : Sublist [] []
  skip : {x : X} {S L : List X} → Sublist S L → Sublist S (x ∷ L)
  keep : {x : X} {S L : List X} → Sublist S L → Sublist (x ∷ S) (x ∷ L)

module _ {X : Type 0} where
  pub in_left : {a : X} {L : List X} (M : List X) → In a L → In a (L ++ M)
  in_left M here = here
  in_left M (there h) = there (in_left M h)

  pub in_right : {a : X} (L : List X) {M : List X} → In a M → In a (L ++ M)
  in_right [] h = h
  in_right (x ∷ L) h = there (in_right L h)

  pub all_in : (P : X → Type 0) {a : X} {L : List X} → In a L → AllByRecursion P L → P a
  all_in P here p = p.0
  all_in P (there h) p = all_in P h p.1

  pub all_from : (P : X → Type 0) (L : List X) → ((a : X) → In a L → P a) → AllByRecursion P L
  all_from P [] f = tt
  all_from P (x ∷ L) f = (f x here, all_from P L (λ a h. f a (there h)))

  -- the same by places
  pub all_places : (P : X → Type 0) (L : List X) → AllByRecursion P L → All P L
  all_places P L h k d l = All-get_or P L k d l h

  pub in_places : (P : X → Type 0) {a : X} {L : List X} → In a L → All P L → P a
  in_places P {a} here p = p 0 a (omega arith)
  in_places P (there h) p = in_places P h (λ k d l. p (suc k) d (omega arith))

  pub all_sublist : (P : X → Type 0) {S L : List X} → Sublist S L → AllByRecursion P L → AllByRecursion P S
  all_sublist P none h = tt
  all_sublist P (skip p) h = all_sublist P p h.1
  all_sublist P (keep p) h = (h.0, all_sublist P p h.1)

  pub in_sublist : {S L : List X} → Sublist S L → (a : X) → In a S → In a L
  in_sublist {S} {L} p a m = all_in (λ a. In a L) m (all_sublist (λ a. In a L) p (all_from _ L (λ a m. m)))

  pub in_nonempty : {a : X} {L : List X} → In a L → nonempty L ≡ true
  in_nonempty here = refl
  in_nonempty (there h) = refl

  pub sublist_whole : (L : List X) → Sublist L L
  sublist_whole [] = none
  sublist_whole (x ∷ L) = keep (sublist_whole L)

  sublist_empty : (L : List X) → Sublist [] L
  sublist_empty [] = none
  sublist_empty (x ∷ L) = skip (sublist_empty L)

  pub sublist_one : {a : X} {L : List X} → In a L → Sublist (a ∷ []) L
  sublist_one {L = x ∷ M} here = keep (sublist_empty M)
  sublist_one (there h) = skip (sublist_one h)

  pub sublist_trans : {T L : List X} → Sublist T L → {S : List X} → Sublist S T → Sublist S L
  sublist_trans none p = p
  sublist_trans (skip q) p = skip (sublist_trans q p)
  sublist_trans (keep q) (skip p) = skip (sublist_trans q p)
  sublist_trans (keep q) (keep p) = keep (sublist_trans q p)

  pub sublist_kept : (q : X → Bool) (L : List X) → Sublist (filter q L) L
  sublist_kept q [] = none
  sublist_kept q (x ∷ L) =
      let p : Sublist (filter q L) L = sublist_kept q L in
      cond_both (q x) (x ∷ filter q L) (filter q L) (λ S. Sublist S (x ∷ L)) (λ e. keep p) (λ e. skip p)

  pub sublist_length : {S L : List X} → Sublist S L → length S ≤ length L
  sublist_length none = omega arith
  sublist_length (skip {S = S} {L = L} p) = let h : length S ≤ length L = sublist_length p in omega arith
  sublist_length (keep {S = S} {L = L} p) = let h : length S ≤ length L = sublist_length p in omega arith

  pub in_kept : (q : X → Bool) {a : X} {L : List X} → In a L → q a ≡ true → In a (filter q L)
  in_kept q {a} {L = x ∷ M} here e = subst (λ (S : List X). In a S) (sym (cond-true (q a) _ _ e)) here
  in_kept q {a} (there {x = x} {L = M} h) e =
      let p : In a (filter q M) = in_kept q h e in
      cond_both (q x) (x ∷ filter q M) (filter q M) (λ S. In a S) (λ e. there p) (λ e. p)

  pub in_drop : (n : ℕ) (L : List X) (a : X) → In a (drop n L) → In a L
  in_drop zero L a h = h
  in_drop (suc n) [] a h = h
  in_drop (suc n) (x ∷ L) a h = there (in_drop n L a h)

pub in_map : {X Y : Type 0} (f : X → Y) {a : X} {L : List X} → In a L → In (f a) (map f L)
in_map f here = here
in_map f (there h) = there (in_map f h)

-- `sublists` has each sublist, and nothing else
pub in_sublists : {X : Type 0} {S L : List X} → Sublist S L → In S (sublists L)
in_sublists none = here
in_sublists (skip p) = in_left _ (in_sublists p)
in_sublists (keep {x = x} {L = L} p) = in_right (sublists L) (in_map (λ S. x ∷ S) (in_sublists p))

pub all_sublists : {X : Type 0} (L : List X) (P : List X → Type 0) → ((S : List X) → Sublist S L → P S) → AllByRecursion P (sublists L)
all_sublists [] P f = (f [] none, tt)
all_sublists (x ∷ L) P f =
    All-append P (sublists L) (map (λ S. x ∷ S) (sublists L))
    (all_sublists L P (λ S p. f S (skip p)))
    (All-map P (λ S. x ∷ S) (sublists L) (all_sublists L (λ S. P (x ∷ S)) (λ S p. f (x ∷ S) (keep p))))

-- places of tasks
pub in_at : (U : List Task) (k : ℕ) → k < length U → In (at U k) U
in_at [] k h = absurd (omega arith)
in_at (t ∷ U) zero h = here
in_at (t ∷ U) (suc k) h = there (in_at U k (omega arith))

pub at_in : {t : Task} {U : List Task} → In t U → (k : ℕ) × (k < length U) × (at U k ≡ t)
at_in {U = x ∷ U} here = (zero, omega arith, refl)
at_in (there {L = L} m) = let r = at_in m in (suc r.0, (let h : r.0 < length L = r.1 in omega arith), r.2)

pub fit_at : (U : List Task) → Formed U → (k : ℕ) → k < length U → Fit (at U k)
fit_at U f k h = All-get_or Fit U k no_task h f.fit
