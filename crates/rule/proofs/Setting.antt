-- New bounds written into a copy of the windows, which is set if every first start is then at most its last.
use Rattle.std.proofs.Common.{◌≡◌, ℕ, ◌+◌, ◌-◌, ◌<◌, ◌≤◌, min, max, Bool, true, false, cond, eqb, List, length, get_or, take, set, sym, refl, ap, ◌∙◌, subst, ⊎_elim, arith, length-set, get_or-set_other, get_or-set_same}
use lib.ListN.{get_or-map}
use Rattle.std.proofs.lemmas.Bool.{both_ways, cases_Bool, cases_eq, cond-true, cond-false, cond_both, and_from, and_parts, eqb-true, eq-eqb, ne_eqb}
use Rattle.sheet.specs.declared.records.Job.{Job}
use Rattle.sheet.specs.declared.records.Link.{Link}
use Rattle.sheet.specs.declared.records.Window.{Window}
use Rattle.sheet.specs.Entries.{Entries, link}
use Rattle.rule.specs.Windows.{window, window_of, all_fine, formed, Formed, Within, starts}
use Rattle.rule.specs.Cuts.{dead, live}
use Rattle.rule.specs.Bounds.{between, tabulate, all_open, together, if_fine}
use Rattle.rule.specs.Tightest.{tightest}
use Rattle.rule.specs.Forming.{formed_fact, formed_test, within_formed, window_eq, windows_eq}
use Rattle.rule.proofs.Bounding.{tabulate_length, tabulate_at, open_from, together_within}
use Rattle.rule.proofs.Tightest.{tightest_more}

pub starts_at : (ws : List Window) (k : ℕ) → get_or (starts ws) k 0 ≡ (window ws k).lo
starts_at ws k = get_or-map (λ (w : Window). w.lo) ws k (window_of 0 0)

-- the windows vs are ws with these bounds; a last start below zero is put down as 0
pub record Bounded (lo end : ℕ → ℕ) (ws vs : List Window) : Type 0 where
  pub count : length vs ≡ length ws
  pub low : (k : ℕ) → k < length ws → (window vs k).lo ≡ lo k
  pub high : (k : ℕ) → k < length ws → (window vs k).hi ≡ end k - 1

pub bounded_copy : (ws vs : List Window) → vs ≡ ws → Bounded (λ k. (window ws k).lo) (λ k. (window ws k).hi + 1) ws vs
bounded_copy ws vs e = record {
  count = ap length e;
  low = λ k h. ap (λ (us : List Window). (window us k).lo) e;
  high = λ k h. ap (λ (us : List Window). (window us k).hi) e ∙ omega arith;
}

pub bounded_all : (lo end : ℕ → ℕ) (ws vs : List Window) → Bounded lo end ws vs → vs ≡ tabulate (between lo end) (length ws)
bounded_all lo end ws vs b =
    windows_eq _ _ (b.count ∙ sym (tabulate_length (between lo end) (length ws))) (λ k h.
    let l : k < length ws = omega (arith, tabulate_length (between lo end) (length ws)) in
    window_eq _ _ (b.low k l) (b.high k l) ∙ sym (tabulate_at (between lo end) (length ws) k l))

window_written : (vs : List Window) (j : ℕ) (w : Window) (k : ℕ) → j < length vs → window (set vs j w) k ≡ cond (eqb j k) w (window vs k)
window_written vs j w k h =
    ⊎_elim
    (λ (e : j ≡ k). subst (λ (i : ℕ). window (set vs j w) i ≡ w) e (get_or-set_same vs j w (window_of 0 0) h) ∙ sym (cond-true _ _ _ (eq-eqb j k e)))
    (λ (n : j ≡ k → ⊥). get_or-set_other vs j k w (window_of 0 0) (λ e. n (sym e)) ∙ sym (cond-false _ _ _ (ne_eqb j k n)))
    (cases_eq j k)

-- a part of the window of job k after that of job j was written
part_written : (part : Window → ℕ) (vs : List Window) (j : ℕ) (w : Window) (k : ℕ) → j < length vs → part (window (set vs j w) k) ≡ cond (eqb j k) (part w) (part (window vs k))
part_written part vs j w k h =
    ap part (window_written vs j w k h) ∙ cond_both (eqb j k) w (window vs k) (λ v. part v ≡ cond (eqb j k) (part w) (part (window vs k)))
    (λ t. sym (cond-true _ _ _ t)) (λ t. sym (cond-false _ _ _ t))

-- the same where that part is as it was
part_kept : (part : Window → ℕ) (vs : List Window) (j : ℕ) (w : Window) (k : ℕ) → j < length vs → part w ≡ part (window vs j) → part (window (set vs j w) k) ≡ part (window vs k)
part_kept part vs j w k h e =
    part_written part vs j w k h ∙ cond_both (eqb j k) (part w) (part (window vs k)) (λ x. x ≡ part (window vs k)) (λ t. e ∙ ap (λ (i : ℕ). part (window vs i)) (eqb-true j k t)) (λ t. refl)

cond_through : (b : Bool) (f : ℕ → ℕ) {x y v w : ℕ} → (b ≡ true → x ≡ f v) → y ≡ f w → cond b x y ≡ f (cond b v w)
cond_through true f p q = p refl
cond_through false f p q = q

module _ (at bound : Link → ℕ) (own other : ℕ → ℕ) (ws vs : List Window) (ls : List Link) (i : ℕ) (here : i < length ls) (there : at (link ls i) < length ws) where
  -- the first start s that one link more leaves, written
  pub raised_by_link : (x s : ℕ) → Bounded (tightest max at bound own (take i ls)) other ws vs → s ≡ bound (link ls i) → x ≡ max (window vs (at (link ls i))).lo s → Bounded (tightest max at bound own (take (i + 1) ls)) other ws (set vs (at (link ls i)) (window_of x (window vs (at (link ls i))).hi))
  raised_by_link x s b d e =
      let j : at (link ls i) < length vs = omega (arith, b.count) in
      record {
        count = length-set vs _ _ ∙ b.count;
        low = λ k h.
            part_written (λ w. w.lo) vs (at (link ls i)) _ k j
            ∙ cond_through (eqb (at (link ls i)) k) (λ z. z) (λ t.
            let q : x ≡ max (window vs k).lo s = subst (λ (n : ℕ). x ≡ max (window vs n).lo s) (eqb-true _ _ t) e in
            omega (arith, b.low k h)) (b.low k h)
            ∙ sym (tightest_more max at bound own (λ x y z. omega arith) ls i k here);
        high = λ k h. part_kept (λ w. w.hi) vs (at (link ls i)) _ k j refl ∙ b.high k h;
      }

  -- the last start s that one link more leaves, written
  pub lowered_by_link : (y s : ℕ) → Bounded other (tightest min at bound own (take i ls)) ws vs → s ≡ bound (link ls i) - 1 → y ≡ min (window vs (at (link ls i))).hi s → Bounded other (tightest min at bound own (take (i + 1) ls)) ws (set vs (at (link ls i)) (window_of (window vs (at (link ls i))).lo y))
  lowered_by_link y s b d e =
      let j : at (link ls i) < length vs = omega (arith, b.count) in
      record {
        count = length-set vs _ _ ∙ b.count;
        low = λ k h. part_kept (λ w. w.lo) vs (at (link ls i)) _ k j refl ∙ b.low k h;
        high = λ k h.
            part_written (λ w. w.hi) vs (at (link ls i)) _ k j
            ∙ cond_through (eqb (at (link ls i)) k) (λ z. z - 1) (λ t.
            let q : y ≡ min (window vs k).hi s = subst (λ (n : ℕ). y ≡ min (window vs n).hi s) (eqb-true _ _ t) e in
            omega (arith, b.high k h)) (b.high k h)
            ∙ ap (λ (z : ℕ). z - 1) (sym (tightest_more min at bound own (λ x y z. omega arith) ls i k here));
      }

-- the jobs and links that a function was handed are those of the sheet
pub as_entered : (f : List Job → List Link → List Window) (e : Entries) (js : List Job) (ls : List Link) (vs : List Window) → js ≡ e.jobs → ls ≡ e.links → vs ≡ f js ls → vs ≡ f e.jobs e.links
as_entered f e js ls vs p q made = made ∙ ap (λ (xs : List Job). f xs ls) p ∙ ap (f e.jobs) q

-- a copy that was tested
module _ (lo end : ℕ → ℕ) (ws vs : List Window) (set_in : vs ≡ tabulate (between lo end) (length ws)) where
  fine_formed : all_fine vs ≡ true → formed (length ws) vs ≡ true
  fine_formed t = and_from _ _ (eq-eqb _ _ (ap length set_in ∙ tabulate_length (between lo end) (length ws))) t

  not_formed : all_fine vs ≡ false → formed (length ws) vs ≡ false
  not_formed t =
      ⊎_elim
      (λ (e : formed (length ws) vs ≡ true). absurd (both_ways _ t (and_parts _ _ e).1))
      (λ (e : formed (length ws) vs ≡ false). e)
      (cases_Bool (formed (length ws) vs))

  pub passed_ordered : all_fine vs ≡ true → (k : ℕ) → k < length ws → lo k ≤ end k - 1
  passed_ordered t k h =
      let f = formed_fact vs (fine_formed t) in
      let w : window vs k ≡ between lo end k = ap (λ (us : List Window). window us k) set_in ∙ tabulate_at (between lo end) (length ws) k h in
      subst (λ (v : Window). v.lo ≤ v.hi) w (f.ordered k (omega (arith, f.count)))

  -- it is what the cut leaves, unless a last start below zero was put down as 0
  pub together_passed : all_fine vs ≡ true → ((k : ℕ) → k < length ws → 0 < end k) → together lo end (length ws) ≡ live vs
  together_passed t above =
      cond-true _ _ _ (open_from lo end (length ws) (λ k h. omega (arith, passed_ordered t k h, above k h))) ∙ ap live (sym set_in)

  pub together_failed : {n : ℕ} → Formed n ws → ((k : ℕ) → (window ws k).lo ≤ lo k) → ((k : ℕ) → end k ≤ (window ws k).hi + 1) → formed (length ws) vs ≡ false → together lo end (length ws) ≡ dead
  together_failed f low high t =
      ⊎_elim
      (λ (o : all_open lo end (length ws) ≡ true).
      let w : Within vs ws = together_within lo end ws vs (cond-true _ _ _ o ∙ ap live (sym set_in)) (λ k h. low k) (λ k h. high k) in
      absurd (both_ways _ t (formed_test vs (within_formed vs ws (record { count = refl; ordered = f.ordered; timely = f.timely }) w))))
      (λ (o : all_open lo end (length ws) ≡ false). cond-false _ _ _ o)
      (cases_Bool (all_open lo end (length ws)))

  -- so a cut that sets all bounds together is the copy if it is fine, and dead if not
  pub together_if_fine : {n : ℕ} → Formed n ws → ((k : ℕ) → (window ws k).lo ≤ lo k) → ((k : ℕ) → end k ≤ (window ws k).hi + 1) → (all_fine vs ≡ true → (k : ℕ) → k < length ws → 0 < end k) → together lo end (length ws) ≡ if_fine vs
  together_if_fine f low high above =
      ⊎_elim
      (λ (t : all_fine vs ≡ true). together_passed t (above t) ∙ sym (cond-true _ _ _ t))
      (λ (t : all_fine vs ≡ false). together_failed f low high (not_formed t) ∙ sym (cond-false _ _ _ t))
      (cases_Bool (all_fine vs))
