-- The narrowest window: the definition chooses it, nothing else is it, and a walk that keeps the first with the least slack finds it.
use Rattle.std.proofs.Common.{◌≡◌, ℕ, zero, suc, ◌+◌, ◌<◌, ◌≤◌, Bool, true, false, cond, ◌&&◌, ltb, leb, Ordering, Less, Equal, Greater, ◌⊎◌, List, [], ◌∷◌, length, fold, Some, None, Option, option_map, sym, refl, ap, ◌∙◌, add-zero, zero-add, subst, ⊎_elim, not-suc-le-zero, arith}
use Rattle.std.proofs.lemmas.Bool.{cases_Bool, cases_order, cond-true, cond-false, and_parts, and_cases, ltb-true, ltb-false, leb-true, leb-false}
use Rattle.std.proofs.lemmas.Bool.Decides.{nat_tests}
use Rattle.std.proofs.lemmas.Iterator.{YieldsList}
use Rattle.std.proofs.lemmas.Iterator.Consumers.{reduce_by_from_yields_List}
use Rattle.std.specs.Fn.{CalledAt}
use Rattle.std.specs.Iterator.{KeyTurn, PicksMinByKey}
use Rattle.std.specs.List.{FoldsTo, reduce, filter, enumerate_from}
use Rattle.std.specs.Ordering.{nat_cmp, min_by_ordering}
use denote.Param.Members.{Mut}
use denote.Ref.{Bor}
use Rattle.sheet.specs.declared.records.Window.{Window}
use Rattle.rule.specs.Windows.{window}
use Rattle.search.specs.Choosing.{slack, or_first, narrowest, Narrowest, Chooses}

first_none : (w : Window) (ws : List Window) → Chooses ws None → Chooses (w ∷ ws) (or_first w ws None)
first_none w ws f =
    ⊎_elim
    (λ (t : ltb 0 (slack w) ≡ true). subst (Chooses (w ∷ ws)) (sym (cond-true _ _ _ t)) (record { there = omega arith; wide = ltb-true _ _ t; least = least; lowest = λ j h x. absurd (omega arith) }))
    (λ (t : ltb 0 (slack w) ≡ false). subst (Chooses (w ∷ ws)) (sym (cond-false _ _ _ t)) (none t))
    (cases_Bool (ltb 0 (slack w)))
  where
    none : ltb 0 (slack w) ≡ false → (k : ℕ) → k < suc (length ws) → slack (window (w ∷ ws) k) ≡ 0
    none t zero h = omega (arith, ltb-false _ _ t)
    none t (suc k) h = f k (omega arith)

    least : (j : ℕ) → j < suc (length ws) → 0 < slack (window (w ∷ ws) j) → slack w ≤ slack (window (w ∷ ws) j)
    least zero h x = omega arith
    least (suc j) h x = absurd (omega (arith, f j (omega arith)))

first_some : (w : Window) (ws : List Window) (k : ℕ) → Narrowest ws k → Chooses (w ∷ ws) (or_first w ws (Some k))
first_some w ws k f =
    ⊎_elim
    (λ (t : (ltb 0 (slack w) && leb (slack w) (slack (window ws k))) ≡ true).
    subst (Chooses (w ∷ ws)) (sym (cond-true _ _ _ t)) (record { there = omega arith; wide = ltb-true _ _ (and_parts _ _ t).0; least = least (leb-true _ _ (and_parts _ _ t).1); lowest = λ j h x. absurd (omega arith) }))
    (λ (t : (ltb 0 (slack w) && leb (slack w) (slack (window ws k))) ≡ false).
    subst (Chooses (w ∷ ws)) (sym (cond-false _ _ _ t)) (record { there = omega (arith, f.there); wide = f.wide; least = later t; lowest = before t }))
    (cases_Bool (ltb 0 (slack w) && leb (slack w) (slack (window ws k))))
  where
    least : slack w ≤ slack (window ws k) → (j : ℕ) → j < suc (length ws) → 0 < slack (window (w ∷ ws) j) → slack w ≤ slack (window (w ∷ ws) j)
    least y zero h x = omega arith
    least y (suc j) h x = omega (arith, f.least j (omega arith) x)

    more : (ltb 0 (slack w) && leb (slack w) (slack (window ws k))) ≡ false → 0 < slack w → slack (window ws k) < slack w
    more t x =
        ⊎_elim
        (λ (u : ltb 0 (slack w) ≡ false). absurd (omega (arith, ltb-false _ _ u)))
        (λ (u : leb (slack w) (slack (window ws k)) ≡ false). leb-false _ _ u)
        (and_cases _ _ t)

    later : (ltb 0 (slack w) && leb (slack w) (slack (window ws k))) ≡ false → (j : ℕ) → j < suc (length ws) → 0 < slack (window (w ∷ ws) j) → slack (window ws k) ≤ slack (window (w ∷ ws) j)
    later t zero h x = omega (arith, more t x)
    later t (suc j) h x = f.least j (omega arith) x

    before : (ltb 0 (slack w) && leb (slack w) (slack (window ws k))) ≡ false → (j : ℕ) → j < suc k → 0 < slack (window (w ∷ ws) j) → slack (window ws k) < slack (window (w ∷ ws) j)
    before t zero h x = more t x
    before t (suc j) h x = f.lowest j (omega arith) x

first_chooses : (w : Window) (ws : List Window) (q : Option ℕ) → Chooses ws q → Chooses (w ∷ ws) (or_first w ws q)
first_chooses w ws None f = first_none w ws f
first_chooses w ws (Some k) f = first_some w ws k f

pub narrowest_chooses : (ws : List Window) → Chooses ws (narrowest ws)
narrowest_chooses [] = λ k h. absurd (not-suc-le-zero h)
narrowest_chooses (w ∷ ws) = first_chooses w ws (narrowest ws) (narrowest_chooses ws)

-- there is one choice at most
pub one_choice : (ws : List Window) (p q : Option ℕ) → Chooses ws p → Chooses ws q → p ≡ q
one_choice ws None None f g = refl
one_choice ws None (Some k) f g = absurd (omega (arith, f k g.there, g.wide))
one_choice ws (Some k) None f g = absurd (omega (arith, g k f.there, f.wide))
one_choice ws (Some k) (Some j) f g =
    ap Some
    (⊎_elim
    (λ (e : k ≡ j). e)
    (λ (e : (k < j) ⊎ (j < k)). ⊎_elim
    (λ (l : k < j). absurd (omega (arith, g.lowest k l f.wide, f.least j g.there g.wide)))
    (λ (l : j < k). absurd (omega (arith, f.lowest j l g.wide, g.least k f.there f.wide)))
    e)
    (cases_order k j))

-- the first of two, but the second where that has less slack
abbrev pub first_of : ℕ × Window → ℕ × Window → ℕ × Window
first_of a b = cond (ltb (slack b.1) (slack a.1)) b a

pick_is : {A : Type 0} (x y : ℕ) (a b : A) → min_by_ordering (nat_cmp x y) a b ≡ cond (ltb y x) b a
pick_is x y a b = grind (arith, nat_tests)

first_assoc : (a b c : ℕ × Window) → first_of (first_of a b) c ≡ first_of a (first_of b c)
first_assoc a b c = grind (arith, nat_tests)

fold_front : (a b : ℕ × Window) (ps : List (ℕ × Window)) → fold first_of (first_of a b) ps ≡ first_of a (fold first_of b ps)
fold_front a b [] = refl
fold_front a b (c ∷ ps) = ap (λ (x : ℕ × Window). fold first_of x ps) (first_assoc a b c) ∙ fold_front a (first_of b c) ps

-- the first of a window and of what is chosen of others
abbrev closer : ℕ × Window → Option (ℕ × Window) → ℕ × Window
closer a None = a
closer a (Some b) = first_of a b

front : (a : ℕ × Window) (ps : List (ℕ × Window)) → reduce first_of (a ∷ ps) ≡ Some (closer a (reduce first_of ps))
front a [] = refl
front a (b ∷ ps) = ap Some (fold_front a b ps)

-- a window with slack, with its number; and all of them, numbered from n on
abbrev pub wide : ℕ × Window → Bool
wide p = ltb p.1.lo p.1.hi

abbrev pub wide_from : ℕ → List Window → List (ℕ × Window)
wide_from n ws = filter wide (enumerate_from n ws)

-- job k of the windows ws, numbered from n on
abbrev pub at : ℕ → List Window → ℕ → ℕ × Window
at n ws k = (n + k, window ws k)

at_next : (n : ℕ) (w : Window) (ws : List Window) (k : ℕ) → at (n + 1) ws k ≡ at n (w ∷ ws) (suc k)
at_next n w ws k = let e : (n + 1) + k ≡ n + suc k = omega arith in ap (λ (i : ℕ). (i, window ws k)) e

narrow_step : (n : ℕ) (w : Window) (ws : List Window) (ps : List (ℕ × Window)) (q : Option ℕ) → wide (n, w) ≡ false → reduce first_of ps ≡ option_map (at (n + 1) ws) q → reduce first_of ps ≡ option_map (at n (w ∷ ws)) (or_first w ws q)
narrow_step n w ws ps None t e = grind (arith, nat_tests, e)
narrow_step n w ws ps (Some k) t e = grind (arith, nat_tests, e, at_next n w ws k)

first_of_two : (n : ℕ) (w : Window) (ws : List Window) (k : ℕ) → wide (n, w) ≡ true → Some (first_of (n, w) (at n (w ∷ ws) (suc k))) ≡ option_map (at n (w ∷ ws)) (or_first w ws (Some k))
first_of_two n w ws k t = grind (arith, nat_tests, add-zero)

first_of_one : (n : ℕ) (w : Window) (ws : List Window) → wide (n, w) ≡ true → Some (n, w) ≡ option_map (at n (w ∷ ws)) (or_first w ws None)
first_of_one n w ws t = grind (arith, nat_tests, add-zero)

wide_step : (n : ℕ) (w : Window) (ws : List Window) (ps : List (ℕ × Window)) (q : Option ℕ) → wide (n, w) ≡ true → reduce first_of ps ≡ option_map (at (n + 1) ws) q → reduce first_of ((n, w) ∷ ps) ≡ option_map (at n (w ∷ ws)) (or_first w ws q)
wide_step n w ws ps None t e =
    front (n, w) ps ∙ ap (λ (x : Option (ℕ × Window)). Some (closer (n, w) x)) e ∙ first_of_one n w ws t
wide_step n w ws ps (Some k) t e =
    let a : Some (closer (n, w) (reduce first_of ps)) ≡ Some (first_of (n, w) (at (n + 1) ws k)) = ap (λ (x : Option (ℕ × Window)). Some (closer (n, w) x)) e in
    front (n, w) ps ∙ a ∙ ap (λ (x : ℕ × Window). Some (first_of (n, w) x)) (at_next n w ws k) ∙ first_of_two n w ws k t

pub walk_chooses : (n : ℕ) (ws : List Window) → reduce first_of (wide_from n ws) ≡ option_map (at n ws) (narrowest ws)
walk_chooses n [] = refl
walk_chooses n (w ∷ ws) =
    ⊎_elim
    (λ (t : wide (n, w) ≡ true). ap (reduce first_of) (cond-true _ _ _ t) ∙ wide_step n w ws (wide_from (n + 1) ws) (narrowest ws) t (walk_chooses (n + 1) ws))
    (λ (t : wide (n, w) ≡ false). ap (reduce first_of) (cond-false _ _ _ t) ∙ narrow_step n w ws (wide_from (n + 1) ws) (narrowest ws) t (walk_chooses (n + 1) ws))
    (cases_Bool (wide (n, w)))

-- the items of a walk, each with its window, of which f answers the slack
module _ {F A : Type 0} (v : A → ℕ × Window) (g : Mut F (Bor A × Unit {0}) ℕ) (f : F) (slacks : (x : A) (k : ℕ) (q : F) → CalledAt g f x k q → (q ≡ f) × (k ≡ slack (v x).1)) where
  abbrev least_of : A → A → A
  least_of a b = min_by_ordering (nat_cmp (slack (v a).1) (slack (v b).1)) a b

  least_reads : (a b : A) → v (least_of a b) ≡ first_of (v a) (v b)
  least_reads a b = ap v (pick_is (slack (v a).1) (slack (v b).1) a b) ∙ read (ltb (slack (v b).1) (slack (v a).1))
    where
      read : (c : Bool) → v (cond c b a) ≡ cond c (v b) (v a)
      read true = refl
      read false = refl

  turn_slack : (o : Ordering) (a b : A) → slack (v (min_by_ordering o a b)).1 ≡ min_by_ordering o (slack (v a).1) (slack (v b).1)
  turn_slack Less a b = refl
  turn_slack Equal a b = refl
  turn_slack Greater a b = refl

  turns : (x : A) (k : ℕ) (h : F) (xs : List A) (q : F × ℕ) (y : A) → h ≡ f → k ≡ slack (v x).1 → FoldsTo {P = (F × ℕ) × A} (KeyTurn min_by_ordering min_by_ordering g nat_cmp) ((h, k), x) xs (q, y) → FoldsTo (λ a b c. c ≡ least_of a b) x xs y
  turns x k h [] q y e s t = ap (λ (z : (F × ℕ) × A). z.1) t
  turns x k h (z ∷ zs) q y e s t =
      let j = t.0 in
      let c = slacks z t.1.0 j.0.0 (subst (λ (w : F). CalledAt g w z t.1.0 j.0.0) e t.1.2) in
      let item : j.1 ≡ least_of x z = t.1.5 ∙ ap (λ (o : Ordering). min_by_ordering o x z) (sym t.1.3 ∙ cc) in
      let key : j.0.1 ≡ slack (v j.1).1 = cc (turn_slack t.1.1 x z) in
      (j.1, item, turns j.1 j.0.1 j.0.0 zs q y c.0 key t.2)

  -- the item that such a walk picks by its key is the first with the least slack
  pub picked : {S : Type 0} {steps : S → Option A → S → Type 0} {s : S} {all : List (ℕ × Window)} (r : Option A) → PicksMinByKey steps g nat_cmp s f r → YieldsList steps v s all → option_map v r ≡ reduce first_of all
  picked {s = s} None ran list = reduce_by_from_yields_List least_of first_of s None least_reads ran list
  picked {s = s} (Some y) ran list =
      let first = slacks ran.0 ran.2 ran.3 ran.6 in
      reduce_by_from_yields_List least_of first_of s (Some y) least_reads (ran.0, ran.1, ran.5, turns ran.0 ran.2 ran.3 ran.1 ran.4 y first.0 first.1 ran.7) list

-- the numbers of what is chosen
pub number_chosen : (ws : List Window) (r : Option (ℕ × Bor Window)) (q : Option ℕ) → option_map (λ (x : ℕ × Bor Window). (x.0, x.1.now)) r ≡ option_map (at 0 ws) q → option_map (λ (x : ℕ × Bor Window). x.0) r ≡ q
number_chosen ws None None e = refl
number_chosen ws None (Some k) e = cc
number_chosen ws (Some x) None e = cc
number_chosen ws (Some x) (Some k) e = let h : (x.0, x.1.now) ≡ at 0 ws k = cc in ap Some (ap (λ (y : ℕ × Window). y.0) h ∙ zero-add k)
