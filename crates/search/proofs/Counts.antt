-- The number of timetables within windows is the length of their list.
use Rattle.std.proofs.Common.{◌≡◌, ℕ, zero, suc, ◌+◌, ◌-◌, ◌*◌, ◌<◌, ◌≤◌, ◌⊎◌, List, [], ◌∷◌, ◌++◌, map, length, get_or, sym, refl, ap, ◌∙◌, subst, inl, inr, ⊎_elim, not-suc-le-zero, arith, length-append}
use Rattle.std.proofs.lemmas.List.{length-map}
use Rattle.std.proofs.lemmas.Bool.{cases_eq}
use Rattle.sheet.specs.declared.records.Window.{Window}
use Rattle.rule.specs.Windows.{window, Inside}
use Rattle.search.specs.Counting.{timetables, each_before, every, In, Once, Counted}

abbrev cons : ℕ → List ℕ → List ℕ
cons a t = a ∷ t

each_before_length : (a k : ℕ) (ts : List (List ℕ)) → length (each_before a k ts) ≡ k * length ts
each_before_length a zero ts = omega arith
each_before_length a (suc k) ts = omega (arith, length-append (map (cons a) ts) (each_before (suc a) k ts), length-map ts (cons a), each_before_length (suc a) k ts)

every_length : (ws : List Window) → length (every ws) ≡ timetables ws
every_length [] = refl
every_length (w ∷ ws) = each_before_length w.lo (suc w.hi - w.lo) (every ws) ∙ ap (λ (x : ℕ). (suc w.hi - w.lo) * x) (every_length ws)

in_append : (t : List ℕ) (xs ys : List (List ℕ)) → In t (xs ++ ys) → In t xs ⊎ In t ys
in_append t [] ys m = inr m
in_append t (x ∷ xs) ys (inl e) = inl (inl e)
in_append t (x ∷ xs) ys (inr m) = ⊎_elim (λ u. inl (inr u)) (λ u. inr u) (in_append t xs ys m)

in_left : (t : List ℕ) (xs ys : List (List ℕ)) → In t xs → In t (xs ++ ys)
in_left t [] ys m = absurd m
in_left t (x ∷ xs) ys (inl e) = inl e
in_left t (x ∷ xs) ys (inr m) = inr (in_left t xs ys m)

in_right : (t : List ℕ) (xs ys : List (List ℕ)) → In t ys → In t (xs ++ ys)
in_right t [] ys m = m
in_right t (x ∷ xs) ys m = inr (in_right t xs ys m)

in_map : (a : ℕ) (t : List ℕ) (ts : List (List ℕ)) → In t (map (cons a) ts) → (r : List ℕ) × (t ≡ a ∷ r) × In r ts
in_map a t [] m = absurd m
in_map a t (u ∷ us) (inl e) = (u, e, inl refl)
in_map a t (u ∷ us) (inr m) = let x = in_map a t us m in (x.0, x.1, inr x.2)

map_in : (a : ℕ) (r : List ℕ) (ts : List (List ℕ)) → In r ts → In (a ∷ r) (map (cons a) ts)
map_in a r [] m = absurd m
map_in a r (u ∷ us) (inl e) = inl (ap (cons a) e)
map_in a r (u ∷ us) (inr m) = inr (map_in a r us m)

record Listed (a k : ℕ) (ts : List (List ℕ)) (t : List ℕ) : Type 0 where
  head : ℕ
  rest : List ℕ
  is : t ≡ head ∷ rest
  low : a ≤ head
  high : head < a + k
  member : In rest ts

in_each_before : (a k : ℕ) (ts : List (List ℕ)) (t : List ℕ) → In t (each_before a k ts) → Listed a k ts t
in_each_before a zero ts t m = absurd m
in_each_before a (suc k) ts t m =
    ⊎_elim
    (λ (u : In t (map (cons a) ts)). let x = in_map a t ts u in record { head = a; rest = x.0; is = x.1; low = omega arith; high = omega arith; member = x.2 })
    (λ (u : In t (each_before (suc a) k ts)).
    let x = in_each_before (suc a) k ts t u in
    record { head = x.head; rest = x.rest; is = x.is; low = omega (arith, x.low); high = omega (arith, x.high); member = x.member })
    (in_append t (map (cons a) ts) (each_before (suc a) k ts) m)

each_before_in : (a k : ℕ) (ts : List (List ℕ)) (b : ℕ) (r : List ℕ) → a ≤ b → b < a + k → In r ts → In (b ∷ r) (each_before a k ts)
each_before_in a zero ts b r l h m = absurd (omega arith)
each_before_in a (suc k) ts b r l h m =
    ⊎_elim
    (λ (e : a ≡ b). in_left (b ∷ r) _ _ (subst (λ (x : ℕ). In (x ∷ r) (map (cons a) ts)) e (map_in a r ts m)))
    (λ (e : a ≡ b → ⊥). in_right (b ∷ r) (map (cons a) ts) _ (each_before_in (suc a) k ts b r (omega arith) (omega arith) m))
    (cases_eq a b)

once_append : (xs ys : List (List ℕ)) → Once xs → Once ys → ((t : List ℕ) → In t xs → In t ys → ⊥) → Once (xs ++ ys)
once_append [] ys p q f = q
once_append (x ∷ xs) ys p q f = ((λ m. ⊎_elim p.0 (f x (inl refl)) (in_append x xs ys m)), once_append xs ys p.1 q (λ t u v. f t (inr u) v))

tail_same : (a b : ℕ) (r s : List ℕ) → ◌≡◌ {A = List ℕ} (a ∷ r) (b ∷ s) → r ≡ s
tail_same a b r s e = cc

head_same : (a b : ℕ) (r s : List ℕ) → ◌≡◌ {A = List ℕ} (a ∷ r) (b ∷ s) → a ≡ b
head_same a b r s e = cc

once_map : (a : ℕ) (ts : List (List ℕ)) → Once ts → Once (map (cons a) ts)
once_map a [] p = tt
once_map a (u ∷ us) p = ((λ m. let x = in_map a (a ∷ u) us m in p.0 (subst (λ (r : List ℕ). In r us) (sym (tail_same a a u x.0 x.1)) x.2)), once_map a us p.1)

once_each_before : (a k : ℕ) (ts : List (List ℕ)) → Once ts → Once (each_before a k ts)
once_each_before a zero ts p = tt
once_each_before a (suc k) ts p =
    once_append (map (cons a) ts) (each_before (suc a) k ts) (once_map a ts p) (once_each_before (suc a) k ts p) (λ t u v.
    let x = in_map a t ts u in
    let y = in_each_before (suc a) k ts t v in
    omega (arith, head_same a y.head x.0 y.rest (sym x.1 ∙ y.is), y.low))

once_every : (ws : List Window) → Once (every ws)
once_every [] = ((λ m. m), tt)
once_every (w ∷ ws) = once_each_before w.lo (suc w.hi - w.lo) (every ws) (once_every ws)

inside_cons : (b : ℕ) (r : List ℕ) (w : Window) (ws : List Window) → w.lo ≤ b → b ≤ w.hi → Inside r ws → Inside (b ∷ r) (w ∷ ws)
inside_cons b r w ws l h i = record { count = ap suc i.count; low = low; high = high }
  where
    low : (k : ℕ) → k < suc (length ws) → (window (w ∷ ws) k).lo ≤ get_or (b ∷ r) k 0
    low zero x = l
    low (suc k) x = i.low k (omega arith)

    high : (k : ℕ) → k < suc (length ws) → get_or (b ∷ r) k 0 ≤ (window (w ∷ ws) k).hi
    high zero x = h
    high (suc k) x = i.high k (omega arith)

in_inside : (ws : List Window) (t : List ℕ) → In t (every ws) → Inside t ws
in_inside [] t (inl e) = record { count = ap length e; low = λ k h. absurd (not-suc-le-zero h); high = λ k h. absurd (not-suc-le-zero h) }
in_inside [] t (inr m) = absurd m
in_inside (w ∷ ws) t m =
    let x = in_each_before w.lo (suc w.hi - w.lo) (every ws) t m in
    subst (λ (u : List ℕ). Inside u (w ∷ ws)) (sym x.is) (inside_cons x.head x.rest w ws x.low (omega (arith, x.low, x.high)) (in_inside ws x.rest x.member))

inside_in : (ws : List Window) (t : List ℕ) → Inside t ws → In t (every ws)
inside_in [] [] i = inl refl
inside_in [] (b ∷ r) i = absurd (omega (arith, i.count))
inside_in (w ∷ ws) [] i = absurd (omega (arith, i.count))
inside_in (w ∷ ws) (b ∷ r) i =
    let l : w.lo ≤ b = i.low 0 (omega arith) in
    let h : b ≤ w.hi = i.high 0 (omega arith) in
    each_before_in w.lo (suc w.hi - w.lo) (every ws) b r l (omega arith)
    (inside_in ws r (record { count = omega (arith, i.count); low = λ k x. i.low (suc k) (omega arith); high = λ k x. i.high (suc k) (omega arith) }))

pub counted : (ws : List Window) → Counted ws
counted ws = record {
  number = every_length ws;
  once = once_every ws;
  exactly = λ t. (in_inside ws t, inside_in ws t);
}
