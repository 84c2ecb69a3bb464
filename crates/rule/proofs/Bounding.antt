-- What a rule owes that sets all bounds together.
use Rattle.std.proofs.Common.{◌≡◌, ℕ, zero, suc, ◌+◌, ◌<◌, ◌≤◌, true, false, List, [], ◌∷◌, ◌++◌, length, get_or, take, set, sym, refl, ap, ◌∙◌, subst, ⊎_elim, add-one, arith}
use lib.ListN.{get_or-append}
use Rattle.std.proofs.lemmas.Bool.{cases_Bool, cases_eq, cond-true, cond-false, and_parts, and_from, ltb-true, lt-ltb}
use Rattle.std.proofs.lemmas.List.{get_or_push, length_push, take_more_set}
use Rattle.sheet.specs.declared.records.Window.{Window}
use Rattle.rule.specs.Windows.{window, window_of, Within}
use Rattle.rule.specs.Cuts.{Cut, dead, live}
use Rattle.rule.specs.Bounds.{between, tabulate, all_open, together}
use Rattle.rule.specs.Laws.{Keeps}
use Rattle.rule.specs.Forming.{dead_not_live}

pub tabulate_length : (f : ℕ → Window) (n : ℕ) → length (tabulate f n) ≡ n
tabulate_length f zero = refl
tabulate_length f (suc n) = length_push (tabulate f n) (f n) ∙ (let e : length (tabulate f n) ≡ n = tabulate_length f n in omega arith)

pub tabulate_at : (f : ℕ → Window) (n k : ℕ) → k < n → window (tabulate f n) k ≡ f k
tabulate_at f zero k h = absurd (omega arith)
tabulate_at f (suc n) k h =
    let e : length (tabulate f n) ≡ n = tabulate_length f n in
    ⊎_elim
    (λ (q : k ≡ n). get_or_push (tabulate f n) (f n) (window_of 0 0) k (e ∙ sym q) ∙ ap f (sym q))
    (λ (q : k ≡ n → ⊥). let l : k < n = omega arith in
    let m : k < length (tabulate f n) = omega arith in
    get_or-append (tabulate f n) (f n ∷ []) (window_of 0 0) k m ∙ tabulate_at f n k l)
    (cases_eq k n)

pub open_at : (lo end : ℕ → ℕ) (n k : ℕ) → all_open lo end n ≡ true → k < n → lo k < end k
open_at lo end zero k e h = absurd (omega arith)
open_at lo end (suc n) k e h =
    let p = and_parts _ _ e in
    ⊎_elim
    (λ (q : k ≡ n). subst (λ (j : ℕ). lo j < end j) (sym q) (ltb-true _ _ p.0))
    (λ (q : k ≡ n → ⊥). open_at lo end n k p.1 (omega arith))
    (cases_eq k n)

pub open_stop : (lo end : ℕ → ℕ) (n k : ℕ) → k < n → end k ≤ lo k → all_open lo end n ≡ false
open_stop lo end n k h l =
    ⊎_elim
    (λ (e : all_open lo end n ≡ true). absurd (let x : lo k < end k = open_at lo end n k e h in omega arith))
    (λ (e : all_open lo end n ≡ false). e)
    (cases_Bool (all_open lo end n))

pub open_from : (lo end : ℕ → ℕ) (n : ℕ) → ((k : ℕ) → k < n → lo k < end k) → all_open lo end n ≡ true
open_from lo end zero f = refl
open_from lo end (suc n) f = and_from _ _ (lt-ltb _ _ (f n (omega arith))) (open_from lo end n (λ k h. f k (omega arith)))

pub open_more : (lo end : ℕ → ℕ) (n : ℕ) → all_open lo end n ≡ true → lo n < end n → all_open lo end (n + 1) ≡ true
open_more lo end n e h = rw add-one (and_from _ _ (lt-ltb _ _ h) e)

pub together_live : (lo end : ℕ → ℕ) (n : ℕ) (vs : List Window) → together lo end n ≡ live vs → (all_open lo end n ≡ true) × (tabulate (between lo end) n ≡ vs)
together_live lo end n vs e =
    ⊎_elim
    (λ (t : all_open lo end n ≡ true). let q : live (tabulate (between lo end) n) ≡ live vs = sym (cond-true _ _ _ t) ∙ e in (t, cc))
    (λ (t : all_open lo end n ≡ false). absurd (dead_not_live vs (sym (cond-false _ _ _ t) ∙ e)))
    (cases_Bool (all_open lo end n))

module _ (lo end : ℕ → ℕ) (ws : List Window) where
  tabulate_within : all_open lo end (length ws) ≡ true → ((k : ℕ) → k < length ws → (window ws k).lo ≤ lo k) → ((k : ℕ) → k < length ws → end k ≤ (window ws k).hi + 1) → Within (tabulate (between lo end) (length ws)) ws
  tabulate_within o a b =
      let at : (k : ℕ) → k < length ws → window (tabulate (between lo end) (length ws)) k ≡ between lo end k = λ k h. tabulate_at (between lo end) (length ws) k h in
      record {
        count = tabulate_length (between lo end) (length ws);
        low = λ k h. subst (λ (w : Window). (window ws k).lo ≤ w.lo) (sym (at k h)) (a k h);
        ordered = λ k h. subst (λ (w : Window). w.lo ≤ w.hi) (sym (at k h)) (omega (arith, open_at lo end (length ws) k o h));
        high = λ k h. subst (λ (w : Window). w.hi ≤ (window ws k).hi) (sym (at k h)) (omega (arith, b k h));
      }

  pub together_within : (vs : List Window) → together lo end (length ws) ≡ live vs → ((k : ℕ) → k < length ws → (window ws k).lo ≤ lo k) → ((k : ℕ) → k < length ws → end k ≤ (window ws k).hi + 1) → Within vs ws
  together_within vs e a b =
      let d = together_live lo end (length ws) vs e in
      subst (λ (us : List Window). Within us ws) d.1 (tabulate_within d.0 a b)

  pub together_keeps : (t : List ℕ) → length t ≡ length ws → ((k : ℕ) → k < length ws → lo k ≤ get_or t k 0) → ((k : ℕ) → k < length ws → get_or t k 0 < end k) → Keeps (together lo end (length ws)) t
  together_keeps t n a b =
      let o : all_open lo end (length ws) ≡ true = open_from lo end (length ws) (λ k h. omega (arith, a k h, b k h)) in
      let at : (k : ℕ) → k < length ws → window (tabulate (between lo end) (length ws)) k ≡ between lo end k = λ k h. tabulate_at (between lo end) (length ws) k h in
      let e : length (tabulate (between lo end) (length ws)) ≡ length ws = tabulate_length (between lo end) (length ws) in
      subst (λ (c : Cut). Keeps c t) (sym (cond-true _ _ _ o)) (record {
        count = n ∙ sym e;
        low = λ k h. let l : k < length ws = omega arith in subst (λ (w : Window). w.lo ≤ get_or t k 0) (sym (at k l)) (a k l);
        high = λ k h. let l : k < length ws = omega arith in subst (λ (w : Window). get_or t k 0 ≤ w.hi) (sym (at k l)) (omega (arith, b k l));
      })

pub tabulate_more : (f : ℕ → Window) (xs : List Window) (i : ℕ) (w : Window) → i < length xs → take i xs ≡ tabulate f i → w ≡ f i → take (i + 1) (set xs i w) ≡ tabulate f (i + 1)
tabulate_more f xs i w h e q =
    let more : tabulate f (i + 1) ≡ tabulate f i ++ (f i ∷ []) = rw add-one in
    take_more_set xs i w h ∙ ap (λ (ys : List Window). ys ++ (w ∷ [])) e ∙ ap (λ (x : Window). tabulate f i ++ (x ∷ [])) q ∙ sym more

pub together_dead : (lo end : ℕ → ℕ) (n k : ℕ) → k < n → end k ≤ lo k → together lo end n ≡ dead
together_dead lo end n k h l = cond-false _ _ _ (open_stop lo end n k h l)
