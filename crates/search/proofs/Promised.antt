-- Every search keeps the promise, from the laws of its pile on a sound sheet.
use Rattle.std.proofs.Common.{◌≡◌, ℕ, ◌+◌, ◌≤◌, ◌⊎◌, List, [], length, sym, refl, ap, ◌∙◌, subst, inl, inr, arith}
use Rattle.sheet.specs.declared.records.Window.{Window}
use Rattle.sheet.specs.Entries.{Entries}
use Rattle.sheet.specs.Sound.{Sound}
use Rattle.rule.specs.Cuts.{Cut}
use Rattle.rule.specs.Laws.{Lawful}
use Rattle.search.specs.declared.decision.Decision.{Decision}
use Rattle.search.specs.Entered.{entered_windows}
use Rattle.search.specs.Looks.{State, opened, found, impossible, path_of, one_look, after_looks, looks_made}
use Rattle.search.specs.Promise.{enough_looks, Promise, KeepsPromise, reports, total}
use Rattle.search.proofs.Looking.{entered_formed, Good, start_good, run_good, good_few, good_grown, look_left}
use Rattle.search.proofs.Rows.{composes, after_add, made_add, made_within, open_spent}
use Rattle.search.proofs.Depth.{path_short}

module _ {admits : List ℕ → Type 0} {cut : List Window → Cut} (e : Entries) (sound : Sound e) (laws : Lawful (length e.jobs) admits cut) where
  looked : (k : ℕ) → Good admits (entered_windows e) (looks_made (one_look cut e) k (opened [])) (after_looks (one_look cut e) k (opened []))
  looked k =
      subst (λ (m : ℕ). Good admits (entered_windows e) m (after_looks (one_look cut e) k (opened []))) (omega arith)
      (run_good laws e (entered_formed e sound) k 0 (opened []) (start_good admits (entered_windows e)))

  settles : (k m : ℕ) (s : State) → Good admits (entered_windows e) m s → ((p : List Decision) → s ≡ opened p → m ≡ k) → enough_looks e ≤ k → (s ≡ impossible) ⊎ ((p : List Decision) × (t : List ℕ) × (s ≡ found p t))
  settles k m (opened p) g f h = absurd (omega (arith, f p refl, look_left laws e (entered_formed e sound) m p g))
  settles k m (found p t) g f h = inr (p, t, refl)
  settles k m impossible g f h = inl refl

  -- the promise of one advance since the close
  pub promised_once : (k : ℕ) → Promise admits e k (looks_made (one_look cut e) k (opened [])) (after_looks (one_look cut e) k (opened []))
  promised_once k =
      let m = looks_made (one_look cut e) k (opened []) in
      let s = after_looks (one_look cut e) k (opened []) in
      let g = looked k in
      record {
        none_fits = λ q t x. (subst (Good admits (entered_windows e) m) q g).none t x.1 x.0;
        one_fits = λ p t q. let y = subst (Good admits (entered_windows e) m) q g in (y.inside, y.admitted);
        few = good_few admits (entered_windows e) m s g;
        enough = settles k m s g (open_spent (one_look cut e) k (opened []));
        spent = open_spent (one_look cut e) k (opened []);
        granted_only = made_within (one_look cut e) k (opened []);
        short = path_short (entered_windows e) (path_of s) sound.few_jobs (entered_formed e sound) (good_grown admits (entered_windows e) m s g);
      }

  promise_at : (g : ℕ) (m : ℕ) (s : State) → m ≡ looks_made (one_look cut e) g (opened []) → s ≡ after_looks (one_look cut e) g (opened []) → Promise admits e g m s
  promise_at g m s p q =
      subst (λ (x : State). Promise admits e g m x) (sym q)
      (subst (λ (k : ℕ). Promise admits e g k (after_looks (one_look cut e) g (opened []))) (sym p) (promised_once g))

  -- the promise of one advance more, from whatever search a row of advances led to
  pub keeps_promise : (x : State) (g m : ℕ) (y : State) → y ≡ after_looks (one_look cut e) g x → m ≡ looks_made (one_look cut e) g x → KeepsPromise admits cut e x g m y
  keeps_promise x g m y p q gs h =
      let f = one_look cut e in
      let c = composes f gs (opened []) in
      let z : x ≡ after_looks f (total gs) (opened []) = h ∙ c.0 in
      promise_at (total gs + g) _ _
      (ap (λ (k : ℕ). reports f gs (opened []) + k) (q ∙ ap (looks_made f g) z)
      ∙ ap (λ (k : ℕ). k + looks_made f g (after_looks f (total gs) (opened []))) c.1
      ∙ sym (made_add f (total gs) g (opened [])))
      (p ∙ ap (after_looks f g) z ∙ sym (after_add f (total gs) g (opened [])))
