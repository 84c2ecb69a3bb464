-- The tightest of the bounds at a job: what holds of it, and one link more.
use Rattle.std.proofs.Common.{◌≡◌, ℕ, zero, suc, ◌+◌, ◌<◌, Bool, true, false, cond, eqb, List, [], ◌∷◌, ◌++◌, length, take, sym, refl, ap, ◌∙◌, subst, le_of_suc-le-suc, not-suc-le-zero, arith}
use Rattle.std.proofs.lemmas.Bool.{cond_both, cond-true, eqb-true, eq-eqb}
use Rattle.std.proofs.lemmas.List.{take_more}
use Rattle.sheet.specs.declared.records.Link.{Link}
use Rattle.sheet.specs.Entries.{link, link_of}
use Rattle.rule.specs.Tightest.{tightest}

module _ (tighter : ℕ → ℕ → ℕ) (at bound : Link → ℕ) (own : ℕ → ℕ) where
  -- what the job's own bound has, and no other bound takes away
  pub tightest_own : (P : ℕ → Type 0) → ((x y : ℕ) → P y → P (tighter x y)) → (ls : List Link) (k : ℕ) → P (own k) → P (tightest tighter at bound own ls k)
  tightest_own P keep [] k p = p
  tightest_own P keep (l ∷ ls) k p =
      cond_both (eqb (at l) k) _ _ P (λ e. keep _ _ (tightest_own P keep ls k p)) (λ e. tightest_own P keep ls k p)

  -- what all the bounds at the job have
  pub tightest_all : (P : ℕ → Type 0) → ((x y : ℕ) → P x → P y → P (tighter x y)) → (ls : List Link) (k : ℕ) → P (own k) → ((i : ℕ) → i < length ls → at (link ls i) ≡ k → P (bound (link ls i))) → P (tightest tighter at bound own ls k)
  tightest_all P join [] k p each = p
  tightest_all P join (l ∷ ls) k p each =
      let rest : P (tightest tighter at bound own ls k) = tightest_all P join ls k p (λ i h. each (suc i) (omega arith)) in
      cond_both (eqb (at l) k) _ _ P (λ e. join _ _ (each 0 (omega arith) (eqb-true _ _ e)) rest) (λ e. rest)

  -- what one link's bound has, and no other bound takes away
  pub tightest_link : (P : ℕ → Type 0) → ((x y : ℕ) → P x → P (tighter x y)) → ((x y : ℕ) → P y → P (tighter x y)) → (ls : List Link) (i : ℕ) → i < length ls → P (bound (link ls i)) → P (tightest tighter at bound own ls (at (link ls i)))
  tightest_link P left right [] i h p = absurd (not-suc-le-zero h)
  tightest_link P left right (l ∷ ls) zero h p = subst P (sym (cond-true _ _ _ (eq-eqb (at l) (at l) refl))) (left _ _ p)
  tightest_link P left right (l ∷ ls) (suc i) h p =
      let rest : P (tightest tighter at bound own ls (at (link ls i))) = tightest_link P left right ls i (le_of_suc-le-suc h) p in
      cond_both (eqb (at l) (at (link ls i))) _ _ P (λ e. right _ _ rest) (λ e. rest)

  module _ (swap : (x y z : ℕ) → tighter x (tighter y z) ≡ tighter y (tighter x z)) where
    cond_swap : (a b : Bool) (x y z : ℕ) → cond a (tighter x (cond b (tighter y z) z)) (cond b (tighter y z) z) ≡ cond b (tighter y (cond a (tighter x z) z)) (cond a (tighter x z) z)
    cond_swap true true x y z = swap x y z
    cond_swap true false x y z = refl
    cond_swap false true x y z = refl
    cond_swap false false x y z = refl

    tightest_push : (ls : List Link) (l : Link) (k : ℕ) → tightest tighter at bound own (ls ++ (l ∷ [])) k ≡ cond (eqb (at l) k) (tighter (bound l) (tightest tighter at bound own ls k)) (tightest tighter at bound own ls k)
    tightest_push [] l k = refl
    tightest_push (m ∷ ls) l k =
        ap (λ (x : ℕ). cond (eqb (at m) k) (tighter (bound m) x) x) (tightest_push ls l k) ∙ cond_swap (eqb (at m) k) (eqb (at l) k) _ _ _

    -- by one link more
    pub tightest_more : (ls : List Link) (i k : ℕ) → i < length ls → tightest tighter at bound own (take (i + 1) ls) k ≡ cond (eqb (at (link ls i)) k) (tighter (bound (link ls i)) (tightest tighter at bound own (take i ls) k)) (tightest tighter at bound own (take i ls) k)
    tightest_more ls i k h =
        ap (λ (ms : List Link). tightest tighter at bound own ms k) (take_more ls i (link_of 0 0 0) h) ∙ tightest_push (take i ls) (link ls i) k
