-- Advances in a row come to one advance by all their looks.
use Rattle.std.proofs.Common.{◌≡◌, ℕ, zero, suc, ◌+◌, ◌≤◌, List, [], ◌∷◌, sym, refl, ap, ◌∙◌, subst, suc-add, zero-add, arith}
use Rattle.search.specs.declared.decision.Decision.{Decision}
use Rattle.search.specs.Looks.{State, opened, found, impossible, after_looks, looks_made}
use Rattle.search.specs.Promise.{advances, reports, total, Composes}

module _ (f : List Decision → State) where
  after_found : (k : ℕ) (p : List Decision) (t : List ℕ) → after_looks f k (found p t) ≡ found p t
  after_found zero p t = refl
  after_found (suc k) p t = refl

  after_impossible : (k : ℕ) → after_looks f k impossible ≡ impossible
  after_impossible zero = refl
  after_impossible (suc k) = refl

  made_found : (k : ℕ) (p : List Decision) (t : List ℕ) → looks_made f k (found p t) ≡ 0
  made_found zero p t = refl
  made_found (suc k) p t = refl

  made_impossible : (k : ℕ) → looks_made f k impossible ≡ 0
  made_impossible zero = refl
  made_impossible (suc k) = refl

  pub after_add : (k m : ℕ) (s : State) → after_looks f (k + m) s ≡ after_looks f m (after_looks f k s)
  after_add zero m s = rw zero-add
  after_add (suc k) m (opened p) = rw suc-add (after_add k m (f p))
  after_add (suc k) m (found p t) = after_found (suc k + m) p t ∙ sym (after_found m p t)
  after_add (suc k) m impossible = after_impossible (suc k + m) ∙ sym (after_impossible m)

  pub made_add : (k m : ℕ) (s : State) → looks_made f (k + m) s ≡ looks_made f k s + looks_made f m (after_looks f k s)
  made_add zero m s = ap (λ (n : ℕ). looks_made f n s) (zero-add m) ∙ sym (zero-add (looks_made f m s))
  made_add (suc k) m (opened p) =
      ap (λ (n : ℕ). looks_made f n (opened p)) (suc-add k m) ∙ ap suc (made_add k m (f p)) ∙ sym (suc-add (looks_made f k (f p)) _)
  made_add (suc k) m (found p t) = rw zero-add (made_found (suc k + m) p t ∙ sym (made_found m p t))
  made_add (suc k) m impossible = rw zero-add (made_impossible (suc k + m) ∙ sym (made_impossible m))

  advances_one : (gs : List ℕ) (s : State) → advances f gs s ≡ after_looks f (total gs) s
  advances_one [] s = refl
  advances_one (g ∷ gs) s = advances_one gs (after_looks f g s) ∙ sym (after_add g (total gs) s)

  reports_one : (gs : List ℕ) (s : State) → reports f gs s ≡ looks_made f (total gs) s
  reports_one [] s = refl
  reports_one (g ∷ gs) s = ap (λ (x : ℕ). looks_made f g s + x) (reports_one gs (after_looks f g s)) ∙ sym (made_add g (total gs) s)

  pub composes : Composes f
  composes gs s = (advances_one gs s, reports_one gs s)

  pub made_within : (k : ℕ) (s : State) → looks_made f k s ≤ k
  made_within zero s = omega arith
  made_within (suc k) (opened p) = omega (arith, made_within k (f p))
  made_within (suc k) (found p t) = omega arith
  made_within (suc k) impossible = omega arith

  abbrev Spent : ℕ → ℕ → State → Type 0
  Spent k m (opened p) = m ≡ k
  Spent k m (found p t) = Unit {0}
  Spent k m impossible = Unit {0}

  spent_more : (k m : ℕ) (s : State) → Spent k m s → Spent (suc k) (suc m) s
  spent_more k m (opened p) e = ap suc e
  spent_more k m (found p t) e = tt
  spent_more k m impossible e = tt

  spent : (k : ℕ) (s : State) → Spent k (looks_made f k s) (after_looks f k s)
  spent zero (opened p) = refl
  spent zero (found p t) = tt
  spent zero impossible = tt
  spent (suc k) (opened p) = spent_more k (looks_made f k (f p)) (after_looks f k (f p)) (spent k (f p))
  spent (suc k) (found p t) = tt
  spent (suc k) impossible = tt

  -- a search that is open after so many looks has made them all
  pub open_spent : (k : ℕ) (s : State) (p : List Decision) → after_looks f k s ≡ opened p → looks_made f k s ≡ k
  open_spent k s p e = subst (Spent k (looks_made f k s)) e (spent k s)
