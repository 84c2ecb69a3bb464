-- Tasks that end by b and whose figure, the start or the earliest completion, is a or more.
use Rattle.std.proofs.Common.{◌≡◌, ℕ, ◌≤◌, Bool, true, ◌&&◌, leb, List, filter, arith}
use Rattle.std.specs.List.{AllByRecursion}
use Rattle.std.proofs.ByRecursion.{kept_by_passes}
use Rattle.std.proofs.lemmas.Bool.{and_from, and_parts, leb-true, le-leb}
use Rattle.station.specs.declared.task.Task.{Task}
use Rattle.station.specs.Sets.{lct, least, nonempty}
use Rattle.station.specs.Bounds.{greatest_ge, greatest_le, least_ge, least_le}
use Rattle.station.specs.Members.{In, all_from, all_in}

abbrev pub inside : (Task → ℕ) → ℕ → ℕ → Task → Bool
inside f a b t = leb a (f t) && leb t.end b

module _ (f : Task → ℕ) (a b : ℕ) where
  pub inside_fact : (t : Task) → inside f a b t ≡ true → (a ≤ f t) × (t.end ≤ b)
  inside_fact t e = let p = and_parts _ _ e in (leb-true _ _ p.0, leb-true _ _ p.1)

  pub inside_from : (t : Task) → a ≤ f t → t.end ≤ b → inside f a b t ≡ true
  inside_from t h k = and_from _ _ (le-leb _ _ h) (le-leb _ _ k)

  -- all that pass, as a set
  module _ (M : List Task) where
    passes : (t : Task) → In t (filter (inside f a b) M) → (a ≤ f t) × (t.end ≤ b)
    passes t m = inside_fact t (all_in (λ t. inside f a b t ≡ true) m (kept_by_passes (inside f a b) M))

    pub kept_least : nonempty (filter (inside f a b) M) ≡ true → a ≤ least f (filter (inside f a b) M)
    kept_least e = least_ge f _ a e (all_from _ _ (λ t m. (passes t m).0))

    pub kept_each : (c : ℕ) → c ≤ a → AllByRecursion (λ t. c ≤ f t) (filter (inside f a b) M)
    kept_each c h = all_from _ _ (λ t m. omega (arith, (passes t m).0))

    pub kept_lct : lct (filter (inside f a b) M) ≤ b
    kept_lct = greatest_le (λ t. t.end) _ b (all_from _ _ (λ t m. (passes t m).1))

  -- a set within the interval
  pub set_inside : (S : List Task) → nonempty S ≡ true → a ≤ least f S → lct S ≤ b → AllByRecursion (λ t. inside f a b t ≡ true) S
  set_inside S e h k = all_from _ S (λ t m. inside_from t (omega (arith, least_le f m)) (omega (arith, greatest_ge (λ t. t.end) m)))
