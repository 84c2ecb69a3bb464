-- Numbers parted by one space: spelled out, and read back.
use Rattle.std.proofs.Common.{◌≡◌, ℕ, zero, suc, ◌^◌, ◌<◌, ◌≤◌, List, [], ◌∷◌, ◌++◌, length, Some, None, decimal, Option, sym, refl, ap, ◌∙◌, subst, arith}
use Rattle.std.proofs.lemmas.List.{append-nil}
use Rattle.text.specs.Bytes.{space}
use Rattle.text.specs.Splitting.{Parts, last, next, split, Without}
use Rattle.text.specs.Spaced.{in_front, numbers, spaced, AllBelow}
use Rattle.text.proofs.Splits.{split_next, split_last, rejoined, without_append}
use Rattle.text.proofs.Decimals.{Reads, decimal_without}

in_front_some : (o : Option ℕ) (p : Option (List ℕ)) (ns : List ℕ) → in_front o p ≡ Some ns → (n : ℕ) × (ms : List ℕ) × (o ≡ Some n) × (p ≡ Some ms) × (n ∷ ms ≡ ns)
in_front_some (Some n) (Some ms) ns q = (n, ms, refl, refl, cc)
in_front_some (Some n) None ns q = cc
in_front_some None p ns q = cc

-- the bytes spell these k numbers below m
abbrev pub Spells : ℕ → ℕ → List ℕ → List ℕ → Type 0
Spells m k fs ns = (fs ≡ spaced ns) × (length ns ≡ k) × AllBelow m ns

spells_one : (m : ℕ) (f : List ℕ) (n : ℕ) → f ≡ decimal n → n < m → Spells m 1 (space ∷ f) (n ∷ [])
spells_one m f n e l = (rw e (ap (λ (x : List ℕ). space ∷ x) (sym (append-nil (decimal n)))), refl, (l, tt))

spells_more : (m k : ℕ) (f g ms : List ℕ) (n : ℕ) → f ≡ decimal n → n < m → Spells m k g ms → Spells m (suc k) (space ∷ (f ++ g)) (n ∷ ms)
spells_more m k f g ms n e l i = (rw (e, i.0), ap suc i.1, (l, i.2))

-- of numbers below m, that are read so
module _ (m : ℕ) (read : List ℕ → Option ℕ) (r : Reads read m) where
  pub numbers_spaced : (n : ℕ) (ns : List ℕ) → AllBelow m (n ∷ ns) → numbers read (suc (length ns)) (split space (decimal n ++ spaced ns)) ≡ Some (n ∷ ns)
  numbers_spaced n [] s =
      let l = r.short in
      let a : split space (decimal n ++ []) ≡ last (decimal n) = ap (split space) (append-nil (decimal n)) ∙ split_last space (decimal n) (decimal_without space n (omega arith) (omega arith)) in
      rw (a, r.from_decimal n s.0)
  numbers_spaced n (i ∷ is) s =
      let l = r.short in
      let a : split space (decimal n ++ (space ∷ (decimal i ++ spaced is))) ≡ next (decimal n) (split space (decimal i ++ spaced is)) = split_next space (decimal n) (decimal i ++ spaced is) (decimal_without space n (omega arith) (omega arith)) in
      rw (a, r.from_decimal n s.0, numbers_spaced i is s.1)

  pub spells_numbers : (k : ℕ) (ps : Parts) (ns : List ℕ) → numbers read k ps ≡ Some ns → Spells m k (space ∷ rejoined space ps) ns
  spells_numbers zero ps ns q = cc
  spells_numbers (suc zero) (last f) ns q =
      let t = in_front_some (read f) (Some []) ns q in
      let w = r.only_decimal f t.0 t.2 in
      subst (Spells m 1 (space ∷ f)) (let e : [] ≡ t.1 = cc in ap (λ (ms : List ℕ). t.0 ∷ ms) e ∙ t.4) (spells_one m f t.0 w.0 w.1)
  spells_numbers (suc (suc k)) (last f) ns q = cc
  spells_numbers (suc k) (next f ps) ns q =
      let t = in_front_some (read f) (numbers read k ps) ns q in
      let w = r.only_decimal f t.0 t.2 in
      subst (Spells m (suc k) (space ∷ (f ++ (space ∷ rejoined space ps)))) t.4 (spells_more m k f (space ∷ rejoined space ps) t.1 t.0 w.0 w.1 (spells_numbers k ps t.1 t.3))

pub spaced_without : (sep : ℕ) (m : ℕ) (ns : List ℕ) → sep < 32 → m ≤ 2 ^ 64 → AllBelow m ns → Without sep (spaced ns)
spaced_without sep m [] h l s = tt
spaced_without sep m (n ∷ ns) h l s = (λ e. absurd (omega arith), without_append sep (decimal n) (spaced ns) (decimal_without sep n (omega arith) (omega arith)) (spaced_without sep m ns h l s.1))
