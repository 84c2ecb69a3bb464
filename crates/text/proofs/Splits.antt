-- Splitting bytes, and joining the parts again.
use Rattle.std.proofs.Common.{◌≡◌, ℕ, suc, ◌+◌, Bool, true, false, cond, eqb, ltb, List, [], ◌∷◌, ◌++◌, length, get_or, take, drop, Some, None, Option, MatchBool, position, refl, ap, ◌∙◌, subst, arith, one-add, add-one}
use Rattle.std.specs.List.{position_or_len, AllWithin, IsFirstMatchOrLen}
use Rattle.std.proofs.lemmas.Bool.{eq-eqb, ne_eqb, eqb-true, eqb-false, ltb-true, ltb-false, lt-ltb, le-ltb, cond_both}
use Rattle.std.proofs.lemmas.Grind.{common_steps}
use Rattle.text.specs.Splitting.{Parts, last, next, onto_first, split, Without}

pub split_next : (sep : ℕ) (xs ys : List ℕ) → Without sep xs → split sep (xs ++ (sep ∷ ys)) ≡ next xs (split sep ys)
split_next sep [] ys h = let e : eqb sep sep ≡ true = eq-eqb sep sep refl in rw e
split_next sep (b ∷ bs) ys h = let e : eqb b sep ≡ false = ne_eqb b sep h.0 in rw (e, split_next sep bs ys h.1)

pub split_last : (sep : ℕ) (xs : List ℕ) → Without sep xs → split sep xs ≡ last xs
split_last sep [] h = refl
split_last sep (b ∷ bs) h = let e : eqb b sep ≡ false = ne_eqb b sep h.0 in rw (e, split_last sep bs h.1)

-- the bytes that were split
abbrev pub rejoined : ℕ → Parts → List ℕ
rejoined sep (last xs) = xs
rejoined sep (next xs ps) = xs ++ (sep ∷ rejoined sep ps)

rejoined_onto_first : (sep b : ℕ) (ps : Parts) → rejoined sep (onto_first b ps) ≡ b ∷ rejoined sep ps
rejoined_onto_first sep b (last xs) = refl
rejoined_onto_first sep b (next xs ps) = refl

pub rejoined_split : (sep : ℕ) (xs : List ℕ) → rejoined sep (split sep xs) ≡ xs
rejoined_split sep [] = refl
rejoined_split sep (b ∷ bs) =
    cond_both (eqb b sep) (next [] (split sep bs)) (onto_first b (split sep bs)) (λ ps. rejoined sep ps ≡ b ∷ bs)
    (λ e. let q : b ≡ sep = eqb-true b sep e in rw (rejoined_split sep bs, q))
    (λ e. rw (rejoined_onto_first sep b (split sep bs), rejoined_split sep bs))

-- no part has a separator
abbrev pub AllWithout : ℕ → Parts → Type 0
AllWithout sep (last xs) = Without sep xs
AllWithout sep (next xs ps) = Without sep xs × AllWithout sep ps

without_onto_first : (sep b : ℕ) (ps : Parts) → (b ≡ sep → ⊥) → AllWithout sep ps → AllWithout sep (onto_first b ps)
without_onto_first sep b (last xs) h g = (h, g)
without_onto_first sep b (next xs ps) h g = ((h, g.0), g.1)

pub split_without : (sep : ℕ) (xs : List ℕ) → AllWithout sep (split sep xs)
split_without sep [] = tt
split_without sep (b ∷ bs) =
    cond_both (eqb b sep) (next [] (split sep bs)) (onto_first b (split sep bs)) (AllWithout sep)
    (λ e. (tt, split_without sep bs)) (λ e. without_onto_first sep b (split sep bs) (eqb-false b sep e) (split_without sep bs))

pub without_append : (sep : ℕ) (xs ys : List ℕ) → Without sep xs → Without sep ys → Without sep (xs ++ ys)
without_append sep [] ys f g = g
without_append sep (x ∷ xs) ys f g = (f.0, without_append sep xs ys f.1 g)

-- the parts that a cut at a place leaves
abbrev pub cut_at : ℕ → List ℕ → Option ℕ → Parts
cut_at sep l (Some i) = next (take i l) (split sep (drop (i + 1) l))
cut_at sep l None = last l

onto_cut : (sep b n : ℕ) (bs : List ℕ) → onto_first b (cut_at sep bs (cond (ltb n (length bs)) (Some n) None)) ≡ cut_at sep (b ∷ bs) (cond (ltb (suc n) (length (b ∷ bs))) (Some (suc n)) None)
onto_cut sep b n bs =
    cond_both (ltb n (length bs)) (Some n) None (λ v. onto_first b (cut_at sep bs v) ≡ cut_at sep (b ∷ bs) (cond (ltb (suc n) (length (b ∷ bs))) (Some (suc n)) None))
    (λ e. let l = ltb-true n (length bs) e in let t : ltb (suc n) (length (b ∷ bs)) ≡ true = lt-ltb _ _ (omega arith) in simp (t, add-one))
    (λ e. let l = ltb-false n (length bs) e in let t : ltb (suc n) (length (b ∷ bs)) ≡ false = le-ltb _ _ (omega arith) in rw t)

-- the first cut is at the first separator
pub first_cut : (sep : ℕ) (l : List ℕ) → split sep l ≡ cut_at sep l (position (λ b. eqb b sep) l)
first_cut sep [] = refl
first_cut sep (b ∷ bs) =
    cond_both (eqb b sep) (next [] (split sep bs)) (onto_first b (split sep bs)) (λ ps. ps ≡ cut_at sep (b ∷ bs) (position (λ b. eqb b sep) (b ∷ bs)))
    (λ e. let t : ltb 0 (length (b ∷ bs)) ≡ true = lt-ltb _ _ (omega arith) in rw (e, t))
    (λ e. rw (e, one-add, first_cut sep bs) (onto_cut sep b (position_or_len (λ b. eqb b sep) bs) bs))

without_from : (sep : ℕ) (xs : List ℕ) → AllWithin (λ b. eqb b sep ≡ false) xs 0 (length xs) → Without sep xs
without_from sep [] f = tt
without_from sep (b ∷ bs) f = (eqb-false b sep (f 0 0 (omega arith) (omega arith)), without_from sep bs (λ k d l h. f (suc k) d (omega arith) (omega arith)))

-- as `split` of a slice takes off one part
pub split_part : (sep : ℕ) (xs x rest : List ℕ) (done : Bool) → MatchBool done (xs ≡ x) ((y : ℕ) × (xs ≡ x ++ (y ∷ rest))) → IsFirstMatchOrLen (λ b. eqb b sep) xs (length x)
    → split sep xs ≡ cond done (last x) (next x (split sep rest))
split_part sep xs x rest true e h = ap (split sep) e ∙ split_last sep x (without_from sep x (λ k d l b. subst (λ ys. eqb (get_or ys k d) sep ≡ false) e (h.0 k d l b)))
split_part sep xs x rest false e h =
    let front : AllWithin (λ b. eqb b sep ≡ false) x 0 (length x) = λ k d l b. let a = h.0 k d l b in let q = e.1 in grind (arith, common_steps) in
    let hit : e.0 ≡ sep = let q = e.1 in let a = h.1 (grind (arith, common_steps)) e.0 in grind (arith, common_steps, eqb-true) in
    ap (split sep) (e.1 ∙ ap (λ (b : ℕ). x ++ (b ∷ rest)) hit) ∙ split_next sep x rest (without_from sep x front)
