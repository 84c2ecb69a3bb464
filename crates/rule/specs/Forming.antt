-- What the tests of windows say, and windows within windows.
use Rattle.std.specs.Prelude.{◌≡◌, ℕ, zero, suc, ◌<◌, true, List, [], ◌∷◌, length, ◌≢◌, refl}
use Rattle.std.proofs.Common.{ap, ◌∙◌, le_of_suc-le-suc, not-suc-le-zero, arith}
use Rattle.std.proofs.lemmas.Bool.{and_parts, and_from, leb-true, le-leb, eqb-true, eq-eqb}
use Rattle.sheet.specs.declared.records.Window.{Window}
use Rattle.rule.specs.Windows.{window, fine, all_fine, formed, Formed, Within, Single}
use Rattle.rule.specs.Cuts.{dead, live}

pub fine_at : (ws : List Window) (k : ℕ) → all_fine ws ≡ true → k < length ws → fine (window ws k) ≡ true
fine_at [] k e h = absurd (not-suc-le-zero h)
fine_at (w ∷ ws) zero e h = (and_parts _ _ e).0
fine_at (w ∷ ws) (suc k) e h = fine_at ws k (and_parts _ _ e).1 (le_of_suc-le-suc h)

pub all_fine_from : (ws : List Window) → ((k : ℕ) → k < length ws → fine (window ws k) ≡ true) → all_fine ws ≡ true
all_fine_from [] f = refl
all_fine_from (w ∷ ws) f = and_from _ _ (f 0 (omega arith)) (all_fine_from ws (λ k h. f (suc k) (omega arith)))

pub formed_fact : {n : ℕ} (ws : List Window) → formed n ws ≡ true → Formed n ws
formed_fact ws h =
    let p = and_parts _ _ h in
    record {
      count = eqb-true _ _ p.0;
      ordered = λ k lt. leb-true _ _ (and_parts _ _ (fine_at ws k p.1 lt)).0;
      timely = λ k lt. leb-true _ _ (and_parts _ _ (fine_at ws k p.1 lt)).1;
    }

pub formed_test : {n : ℕ} (ws : List Window) → Formed n ws → formed n ws ≡ true
formed_test ws f =
    and_from _ _ (eq-eqb _ _ f.count) (all_fine_from ws (λ k h. and_from _ _ (le-leb _ _ (f.ordered k h)) (le-leb _ _ (f.timely k h))))

pub still_within : {n : ℕ} (ws : List Window) → Formed n ws → Within ws ws
still_within ws f = record {
  count = refl;
  low = λ k h. omega arith;
  ordered = f.ordered;
  high = λ k h. omega arith;
}

pub within_formed : {n : ℕ} (vs ws : List Window) → Formed n ws → Within vs ws → Formed n vs
within_formed vs ws f w = record {
  count = w.count ∙ f.count;
  ordered = λ k h. let l : k < length ws = omega arith in w.ordered k l;
  timely = λ k h. let l : k < length ws = omega arith in omega (arith, w.high k l, f.timely k l);
}

pub within_within : (us vs ws : List Window) → Within us vs → Within vs ws → Within us ws
within_within us vs ws p q = record {
  count = p.count ∙ q.count;
  low = λ k h. let l : k < length vs = omega (arith, q.count) in omega (arith, p.low k l, q.low k h);
  ordered = λ k h. let l : k < length vs = omega (arith, q.count) in p.ordered k l;
  high = λ k h. let l : k < length vs = omega (arith, q.count) in omega (arith, p.high k l, q.high k h);
}

pub window_eq : (a b : Window) → a.lo ≡ b.lo → a.hi ≡ b.hi → a ≡ b
window_eq a b p q =
    let f : ℕ → Window = λ l. record { lo = l; hi = a.hi } in
    let g : ℕ → Window = λ h. record { lo = b.lo; hi = h } in
    ap f p ∙ ap g q

pub windows_eq : (vs ws : List Window) → length vs ≡ length ws → ((k : ℕ) → k < length ws → window vs k ≡ window ws k) → vs ≡ ws
windows_eq [] [] e f = refl
windows_eq [] (w ∷ ws) e f = absurd (omega arith)
windows_eq (v ∷ vs) [] e f = absurd (omega arith)
windows_eq (v ∷ vs) (w ∷ ws) e f =
    let p : v ≡ w = f 0 (omega arith) in
    let q : vs ≡ ws = windows_eq vs ws (omega arith) (λ k h. f (suc k) (omega arith)) in
    ap (λ (x : Window). x ∷ vs) p ∙ ap (λ (r : List Window). w ∷ r) q

-- nothing but the same lies within single windows
pub within_single : (vs ws : List Window) → Within vs ws → Single ws → vs ≡ ws
within_single vs ws w s =
    windows_eq vs ws w.count (λ k h.
    window_eq _ _ (omega (arith, w.low k h, w.ordered k h, w.high k h, s k h)) (omega (arith, w.low k h, w.ordered k h, w.high k h, s k h)))

pub dead_not_live : (vs : List Window) → dead ≢ live vs
dead_not_live vs e = let z : ◌≡◌ {A = ℕ} 0 1 = cc in omega arith
