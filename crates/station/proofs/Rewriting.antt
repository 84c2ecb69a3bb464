-- A loop that writes one place after another: what is done has its new value, and what is left its old.
use Rattle.std.proofs.Common.{◌≡◌, ℕ, suc, ◌<◌, ◌≤◌, List, length, get_or, set, sym, refl, ap, ◌∙◌, subst, ⊎_elim, arith, get_or-set_other, get_or-set_same}
use Rattle.std.proofs.lemmas.Bool.{cases_eq}

pub record Rewritten {X : Type 0} (d : X) (f : ℕ → X → X) (xs ys : List X) (Done Left : ℕ → Type 0) : Type 0 where
  pub done : (q : ℕ) → Done q → get_or ys q d ≡ f q (get_or xs q d)
  pub left : (q : ℕ) → Left q → get_or ys q d ≡ get_or xs q d

module _ {X : Type 0} (d : X) (f : ℕ → X → X) (xs ys : List X) (Done Left Done' Left' : ℕ → Type 0) (r : Rewritten d f xs ys Done Left) (j : ℕ) (now_left : Left j)
    (was_done : (q : ℕ) → Done' q → (q ≡ j → ⊥) → Done q) (was_left : (q : ℕ) → Left' q → (q ≡ j → ⊥) × Left q) where
  rewritten_at : (zs : List X) → get_or zs j d ≡ f j (get_or ys j d) → ((q : ℕ) → (q ≡ j → ⊥) → get_or zs q d ≡ get_or ys q d) → Rewritten d f xs zs Done' Left'
  rewritten_at zs new other = record {
    done = λ q h.
        ⊎_elim
        (λ (e : q ≡ j). subst (λ (n : ℕ). get_or zs n d ≡ f n (get_or xs n d)) (sym e) (new ∙ ap (f j) (r.left j now_left)))
        (λ (e : q ≡ j → ⊥). other q e ∙ r.done q (was_done q h e))
        (cases_eq q j);
    left = λ q h. let w = was_left q h in other q w.0 ∙ r.left q w.1;
  }

  pub rewritten_set : (x : X) → j < length ys → x ≡ f j (get_or ys j d) → Rewritten d f xs (set ys j x) Done' Left'
  rewritten_set x h e = rewritten_at (set ys j x) (get_or-set_same ys j x d h ∙ e) (λ q n. get_or-set_other ys j q x d n)

  pub rewritten_same : get_or ys j d ≡ f j (get_or ys j d) → Rewritten d f xs ys Done' Left'
  rewritten_same e = rewritten_at ys e (λ q n. refl)

-- from the first place up
module _ {X : Type 0} (d : X) (f : ℕ → X → X) (xs : List X) where
  abbrev pub UpTo : List X → ℕ → Type 0
  UpTo ys k = Rewritten d f xs ys (λ q. q < k) (λ q. k ≤ q)

  -- from the last of n places down
  module _ (n : ℕ) where
    abbrev pub DownTo : List X → ℕ → Type 0
    DownTo ys k = Rewritten d f xs ys (λ q. (k ≤ q) × (q < n)) (λ q. q < k)

    pub down_set : (ys : List X) (k j : ℕ) → DownTo ys k → k ≡ suc j → (x : X) → j < length ys → x ≡ f j (get_or ys j d) → DownTo (set ys j x) j
    down_set ys k j r e = rewritten_set d f xs ys _ _ _ _ r j (omega arith) (λ q h n. (omega (arith, h.0), h.1)) (λ q h. ((λ e. omega arith), omega arith))

    pub down_same : (ys : List X) (k j : ℕ) → DownTo ys k → k ≡ suc j → get_or ys j d ≡ f j (get_or ys j d) → DownTo ys j
    down_same ys k j r e = rewritten_same d f xs ys _ _ _ _ r j (omega arith) (λ q h n. (omega (arith, h.0), h.1)) (λ q h. ((λ e. omega arith), omega arith))
