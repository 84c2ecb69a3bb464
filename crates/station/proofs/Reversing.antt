-- Tasks and their starts as time runs back.
use Rattle.std.proofs.Common.{◌≡◌, ℕ, ◌+◌, ◌-◌, ◌<◌, ◌≤◌, Bool, List, [], ◌∷◌, map, inl, inr, ⊎_elim, arith}
use lib.ListN.{length-map}
use Rattle.std.specs.List.{AllByRecursion}
use Rattle.std.proofs.ByRecursion.{All-map}
use Rattle.station.specs.declared.task.Task.{Task}
use Rattle.station.specs.Kernels.{Apart, Lawful, Placed}
use Rattle.station.specs.Limits.{horizon}
use Rattle.station.specs.Mirror.{mirror}
use Rattle.station.specs.Tasks.{Fit, Formed, Pairwise}
use Rattle.station.specs.Members.{In, all_from, all_in, here, in_map, there}

map_all : (P : Task → Type 0) (U : List Task) → ((t : Task) → In t U → P (mirror t)) → AllByRecursion P (map mirror U)
map_all P U f = All-map P mirror U (all_from _ U f)

pairwise_map : (R Q : Task → Task → Type 0) (U : List Task) → ((s t : Task) → In s U → In t U → R s t → Q (mirror s) (mirror t)) → Pairwise R U → Pairwise Q (map mirror U)
pairwise_map R Q [] f p = tt
pairwise_map R Q (s ∷ U) f p =
    (map_all (Q (mirror s)) U (λ t m. f s t here (there m) (all_in (R s) m p.0)), pairwise_map R Q U (λ s t m n. f s t (there m) (there n)) p.1)

pub formed_mirror : (U : List Task) → Formed U → Formed (map mirror U)
formed_mirror U f = record {
  few = omega (arith, f.few, length-map U mirror);
  fit = map_all Fit U (λ t m. let h = all_in Fit m f.fit in record { some = h.some; short = h.short; room = omega (arith, h.room, h.ends); ends = omega arith });
  distinct = pairwise_map _ _ U (λ s t m n d. d) f.distinct;
}

-- starts that go by the job alone
module _ (st : Task → ℕ) (by_job : (t : Task) → st (mirror t) ≡ st t) (U : List Task) (formed : Formed U) (p : Placed st U) where
  abbrev back : Task → ℕ
  back t = horizon - (st t + t.span)

  high_at : (t : Task) → In t U → st t + t.span ≤ t.end
  high_at t m = all_in (λ t. st t + t.span ≤ t.end) m p.high

  ends_at : (t : Task) → In t U → t.end ≤ horizon
  ends_at t m = (all_in Fit m formed.fit).ends

  placed_mirror : Placed back (map mirror U)
  placed_mirror = record {
    apart = pairwise_map (Apart st) (Apart back) U (λ s t m n a.
        ⊎_elim
        (λ (x : st s + s.span ≤ st t). inr (omega (arith, by_job s, by_job t, high_at t n, ends_at t n)))
        (λ (x : st t + t.span ≤ st s). inl (omega (arith, by_job s, by_job t, high_at s m, ends_at s m)))
        a) p.apart;
    low = map_all _ U (λ t m. omega (arith, by_job t, high_at t m, ends_at t m));
    high = map_all _ U (λ t m. omega (arith, by_job t, all_in (λ t. t.lo ≤ st t) m p.low, high_at t m, ends_at t m));
  }

  -- a kernel that keeps every start keeps it below the limit
  pub limit_keeps : (o : List Task → Bool) (e l : Task → List Task → ℕ) → Lawful o e l → (i : Task) → In i U → st i < l i U
  limit_keeps o e l law i m =
      omega (
        arith,
        by_job i,
        high_at i m,
        ends_at i m,
        all_in (λ i. l i U ≡ horizon + 1 - (e (mirror i) (map mirror U) + i.span)) m (law.mirrored U formed.fit),
        all_in (λ i. e i (map mirror U) ≤ back i) (in_map mirror m) (law.keeps back (map mirror U) placed_mirror),
      )
