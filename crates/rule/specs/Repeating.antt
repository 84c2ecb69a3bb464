-- A cut that is repeated: it stays within the windows, loses nothing, and comes to where repeating comes.
use Rattle.std.specs.Prelude.{◌≡◌, ℕ, zero, suc, ◌<◌, ◌≤◌, Bool, true, false, not, cond, ◌&&◌, List, [], ◌∷◌, Ok, Result, ◌==◌, ◌≢◌, nat_eq, refl}
use Rattle.std.proofs.Common.{sym, ap, subst, ◌∙◌, ⊎_elim, arith}
use Rattle.std.proofs.lemmas.Bool.{both_ways, cases_Bool, cond-true, cond-false, and_cases, and_parts, and_from, eqb-true, eqb-false, eq-eqb}
use Rattle.sheet.specs.declared.records.Window.{Window}
use Rattle.rule.specs.Windows.{same, formed, Formed, Within, Inside}
use Rattle.rule.specs.declared.verdict.Dead.{Dead}
use Rattle.rule.specs.Cuts.{Cut, dead, live, left, then_cut, width, repeated_for, repeated}
use Rattle.rule.specs.Rounds.{round_of}
use Rattle.rule.specs.Laws.{Keeps, Repeats, ends_dead, ends_still, goes_on}
use Rattle.rule.specs.Forming.{formed_fact, formed_test, within_formed, within_within, still_within, window_eq}
use Rattle.rule.specs.Piling.{then_live, then_keeps}

within_tail : (v w : Window) (vs ws : List Window) → Within (v ∷ vs) (w ∷ ws) → Within vs ws
within_tail v w vs ws p = record {
  count = omega (arith, p.count);
  low = λ k h. p.low (suc k) (omega arith);
  ordered = λ k h. p.ordered (suc k) (omega arith);
  high = λ k h. p.high (suc k) (omega arith);
}

pub width_le : (vs ws : List Window) → Within vs ws → width vs ≤ width ws
width_le [] [] p = omega arith
width_le [] (w ∷ ws) p = absurd (omega (arith, p.count))
width_le (v ∷ vs) [] p = absurd (omega (arith, p.count))
width_le (v ∷ vs) (w ∷ ws) p =
    omega (arith, width_le vs ws (within_tail v w vs ws p), p.low 0 (omega arith), p.ordered 0 (omega arith), p.high 0 (omega arith))

pub width_less : (vs ws : List Window) → Within vs ws → same vs ws ≡ false → width vs < width ws
width_less [] [] p e = absurd (both_ways _ e refl)
width_less [] (w ∷ ws) p e = absurd (omega (arith, p.count))
width_less (v ∷ vs) [] p e = absurd (omega (arith, p.count))
width_less (v ∷ vs) (w ∷ ws) p e =
    let t = within_tail v w vs ws p in
    let l : w.lo ≤ v.lo = p.low 0 (omega arith) in
    let o : v.lo ≤ v.hi = p.ordered 0 (omega arith) in
    let h : v.hi ≤ w.hi = p.high 0 (omega arith) in
    let m : width vs ≤ width ws = width_le vs ws t in
    ⊎_elim
    (λ (x : (v.lo == w.lo && v.hi == w.hi) ≡ false).
    ⊎_elim
    (λ (y : nat_eq v.lo w.lo ≡ false). let n = eqb-false _ _ y in omega (arith, n))
    (λ (y : nat_eq v.hi w.hi ≡ false). let n = eqb-false _ _ y in omega (arith, n))
    (and_cases _ _ x))
    (λ (x : same vs ws ≡ false). let k : width vs < width ws = width_less vs ws t x in omega arith)
    (and_cases _ _ e)

then_agree : (c : Cut) (f g : List Window → Cut) → ((vs : List Window) → c ≡ live vs → f vs ≡ g vs) → then_cut c f ≡ then_cut c g
then_agree dead f g h = refl
then_agree (live vs) f g h = h vs refl

cond_agree : (b : Bool) (z x y : Cut) → (b ≡ false → x ≡ y) → cond b z x ≡ cond b z y
cond_agree true z x y h = refl
cond_agree false z x y h = h refl

live_same : (vs us : List Window) → live vs ≡ live us → vs ≡ us
live_same vs us e = cc

pub same_true : (vs ws : List Window) → same vs ws ≡ true → vs ≡ ws
same_true [] [] e = refl
same_true [] (w ∷ ws) e = absurd (both_ways _ refl e)
same_true (v ∷ vs) [] e = absurd (both_ways _ refl e)
same_true (v ∷ vs) (w ∷ ws) e =
    let p = and_parts _ _ e in
    let q = and_parts _ _ p.0 in
    let head : v ≡ w = window_eq v w (eqb-true _ _ q.0) (eqb-true _ _ q.1) in
    let tail : vs ≡ ws = same_true vs ws p.1 in
    cc

same_itself : (ws : List Window) → same ws ws ≡ true
same_itself [] = refl
same_itself (w ∷ ws) = and_from _ _ (and_from _ _ (eq-eqb w.lo w.lo refl) (eq-eqb w.hi w.hi refl)) (same_itself ws)

pub same_false : (vs ws : List Window) → same vs ws ≡ false → vs ≢ ws
same_false vs ws t e = both_ways _ t (subst (λ (us : List Window). same us ws ≡ true) (sym e) (same_itself ws))

ok_same : {b c : Bool} → ◌≡◌ {A = Result Bool Dead} (Ok b) (Ok c) → b ≡ c
ok_same e = cc

not_true : (b : Bool) → not b ≡ true → b ≡ false
not_true true e = sym e
not_true false e = refl

narrowed_live : (c : Cut) (ws : List Window) → round_of c ws ≡ Ok true → (c ≡ live (left c ws)) × (same (left c ws) ws ≡ false)
narrowed_live dead ws e = let z : ◌≡◌ {A = ℕ} 0 1 = cc in absurd (omega arith)
narrowed_live (live vs) ws e = (refl, not_true (same vs ws) (ok_same e))

module _ (f : List Window → Cut) (jobs : ℕ) (one : (ws vs : List Window) → Formed jobs ws → f ws ≡ live vs → Within vs ws) where
  pub repeated_within : (n : ℕ) (ws us : List Window) → Formed jobs ws → repeated_for f n ws ≡ live us → Within us ws
  repeated_within zero ws us a e = subst (λ (x : List Window). Within x ws) (live_same ws us e) (still_within ws a)
  repeated_within (suc n) ws us a e =
      let d = then_live (f ws) _ us e in
      let vs = d.0 in
      let w : Within vs ws = one ws vs a d.1 in
      ⊎_elim
      (λ (t : same vs ws ≡ true). subst (λ (x : List Window). Within x ws) (live_same vs us (sym (cond-true _ _ _ t) ∙ d.2)) w)
      (λ (t : same vs ws ≡ false). within_within us vs ws (repeated_within n vs us (within_formed vs ws a w) (sym (cond-false _ _ _ t) ∙ d.2)) w)
      (cases_Bool (same vs ws))

  -- enough is enough
  pub repeated_enough : (n m : ℕ) (ws : List Window) → Formed jobs ws → width ws < n → width ws < m → repeated_for f n ws ≡ repeated_for f m ws
  repeated_enough zero m ws a p q = absurd (omega arith)
  repeated_enough (suc n) zero ws a p q = absurd (omega arith)
  repeated_enough (suc n) (suc m) ws a p q =
      then_agree (f ws) _ _ (λ vs e. cond_agree (same vs ws) _ _ _ (λ t.
      let w = one ws vs a e in
      let l : width vs < width ws = width_less vs ws w t in
      repeated_enough n m vs (within_formed vs ws a w) (omega arith) (omega arith)))

  -- one turn that changed something
  pub repeated_again : (ws vs : List Window) → Formed jobs ws → f ws ≡ live vs → same vs ws ≡ false → repeated f ws ≡ repeated f vs
  repeated_again ws vs a e t =
      let w = one ws vs a e in
      let l : width vs < width ws = width_less vs ws w t in
      ap (λ (c : Cut). then_cut c (λ us. cond (same us ws) (live us) (repeated_for f (width ws) us))) e ∙ cond-false _ _ _ t ∙ repeated_enough (width ws) (suc (width vs)) vs (within_formed vs ws a w) l (omega arith)

  pub repeated_keeps : (t : List ℕ) → ((ws : List Window) → Formed jobs ws → Inside t ws → Keeps (f ws) t) → (n : ℕ) (ws : List Window) → Formed jobs ws → Inside t ws → Keeps (repeated_for f n ws) t
  repeated_keeps t k zero ws a i = i
  repeated_keeps t k (suc n) ws a i =
      then_keeps (f ws) _ t (k ws a i) (λ vs e j.
      ⊎_elim
      (λ (x : same vs ws ≡ true). subst (λ (c : Cut). Keeps c t) (sym (cond-true _ _ _ x)) j)
      (λ (x : same vs ws ≡ false). subst (λ (c : Cut). Keeps c t) (sym (cond-false _ _ _ x)) (repeated_keeps t k n vs (within_formed vs ws a (one ws vs a e)) j))
      (cases_Bool (same vs ws)))

  -- a round that changes something: what it leaves is well formed, narrower, and repeating from it comes to the same
  pub record Round (ws vs : List Window) : Type 0 where
    pub well_formed : formed jobs vs ≡ true
    pub narrower : width vs < width ws
    pub goes_on : repeated f vs ≡ repeated f ws

  pub narrowing_round : (ws vs : List Window) → formed jobs ws ≡ true → round_of (f ws) ws ≡ Ok true → vs ≡ left (f ws) ws → Round ws vs
  narrowing_round ws vs h e q =
      let d = narrowed_live (f ws) ws e in
      let l : f ws ≡ live vs = d.0 ∙ ap live (sym q) in
      let t : same vs ws ≡ false = ap (λ (us : List Window). same us ws) q ∙ d.1 in
      let a = formed_fact ws h in
      let w = one ws vs a l in
      record {
        well_formed = formed_test vs (within_formed vs ws a w);
        narrower = width_less vs ws w t;
        goes_on = sym (repeated_again ws vs a l t);
      }

  repeats_round : (n : ℕ) → ((vs : List Window) → Formed jobs vs → width vs < n → Repeats f vs (repeated_for f n vs)) → (ws : List Window) → Formed jobs ws → width ws < suc n → (c : Cut) → f ws ≡ c → Repeats f ws (then_cut c (λ vs. cond (same vs ws) (live vs) (repeated_for f n vs)))
  repeats_round n rest ws a p dead e = ends_dead e
  repeats_round n rest ws a p (live vs) e =
      ⊎_elim
      (λ (t : same vs ws ≡ true). subst (Repeats f ws) (ap live (sym (same_true vs ws t)) ∙ sym (cond-true _ _ _ t)) (ends_still (e ∙ ap live (same_true vs ws t))))
      (λ (t : same vs ws ≡ false).
      let w : Within vs ws = one ws vs a e in
      let l : width vs < width ws = width_less vs ws w t in
      subst (Repeats f ws) (sym (cond-false _ _ _ t)) (goes_on e (same_false vs ws t) (rest vs (within_formed vs ws a w) (omega arith))))
      (cases_Bool (same vs ws))

  repeats_for : (n : ℕ) (ws : List Window) → Formed jobs ws → width ws < n → Repeats f ws (repeated_for f n ws)
  repeats_for zero ws a p = absurd (omega arith)
  repeats_for (suc n) ws a p = repeats_round n (repeats_for n) ws a p (f ws) refl

  pub repeats : (ws : List Window) → Formed jobs ws → Repeats f ws (repeated f ws)
  repeats ws a = repeats_for (suc (width ws)) ws a (omega arith)
