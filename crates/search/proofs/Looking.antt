-- What holds of a search after each look, from the laws of its pile alone.
use Rattle.std.proofs.Common.{◌≡◌, ℕ, zero, suc, ◌+◌, ◌-◌, ◌*◌, ◌<◌, ◌≤◌, ◌⊎◌, List, [], ◌∷◌, length, get_or, Some, None, Option, sym, refl, subst, inl, inr, ⊎_elim, arith}
use Rattle.std.proofs.lemmas.List.{length-map, get_or-map}
use Rattle.sheet.specs.declared.records.Window.{Window}
use Rattle.sheet.specs.Entries.{Entries, job_of}
use Rattle.sheet.specs.Limits.{last_minute}
use Rattle.sheet.specs.Sound.{Sound}
use Rattle.rule.specs.Windows.{window, window_of, Formed, Within, Inside, starts}
use Rattle.rule.specs.Cuts.{Cut, dead, live, repeated}
use Rattle.rule.specs.Laws.{Keeps, Lawful}
use Rattle.rule.specs.Forming.{within_within}
use Rattle.search.specs.declared.decision.Decision.{Decision}
use Rattle.search.specs.declared.decision.Part.{Part}
use Rattle.search.specs.declared.decision.Part.TheVariants.{First, Second}
use Rattle.search.specs.Entered.{entered_window, entered_windows}
use Rattle.search.specs.Counting.{timetables}
use Rattle.search.specs.Choosing.{narrowest, Narrowest, Chooses}
use Rattle.search.specs.Deciding.{decision_on, to_second, cut_down, Splits, Grown}
use Rattle.search.specs.Looks.{State, opened, found, impossible, path_of, by_part, backtracked, branched, looked_at, one_look, after_looks, looks_made}
use Rattle.search.proofs.Boxes.{some_timetable, starts_inside, inside_within}
use Rattle.search.proofs.Nearest.{narrowest_chooses}
use Rattle.search.proofs.Halving.{part_box, part_formed, parts_fewer, in_a_part, grown_last, grown_before, grown_more, cut_formed, cut_within}
use Rattle.search.proofs.Standing.{standstill_within, standstill_keeps, standstill_admits}

pub entered_formed : (e : Entries) → Sound e → Formed (length e.jobs) (entered_windows e)
entered_formed e s =
    let n : length (entered_windows e) ≡ length e.jobs = length-map e.jobs entered_window in
    let at : (k : ℕ) → k < length e.jobs → window (entered_windows e) k ≡ entered_window (get_or e.jobs k (job_of 0 0 0 0)) = λ k h. get_or-map entered_window e.jobs k (job_of 0 0 0 0) (window_of 0 0) h in
    record {
      count = n;
      ordered = λ k h. let l : k < length e.jobs = omega arith in subst (λ (w : Window). w.lo ≤ w.hi) (sym (at k l)) (omega (arith, (s.entered k l).3));
      timely = λ k h. let l : k < length e.jobs = omega arith in subst (λ (w : Window). w.hi ≤ last_minute) (sym (at k l)) (omega (arith, (s.entered k l).4));
    }

-- the looks that a box of windows can take, with all that comes of it
abbrev pub worth : List Window → ℕ
worth box = 2 * timetables box - 1

worth_some : {n : ℕ} (box : List Window) → Formed n box → 1 ≤ worth box
worth_some box f = omega (arith, some_timetable box f.ordered)

-- the two parts of a box and the look that splits it take no more than the box
parts_worth : {n : ℕ} (box : List Window) (d : Decision) → Formed n box → Splits box d → suc (worth (part_box First box d) + worth (part_box Second box d)) ≤ worth box
parts_worth box d f s =
    let a : 1 ≤ timetables (part_box First box d) = some_timetable _ (part_formed box d s First f).ordered in
    let b : 1 ≤ timetables (part_box Second box d) = some_timetable _ (part_formed box d s Second f).ordered in
    let c : timetables (part_box First box d) + timetables (part_box Second box d) ≤ timetables box = parts_fewer box d s in
    omega arith

-- a decision on its first part has its second part to be looked at later
abbrev OrLater : Part → Type 0 → Type 0 → Type 0
OrLater First A B = A ⊎ B
OrLater Second A B = B

-- a timetable is in a second part that is still to be looked at
abbrev pub Pending : List ℕ → List Window → List Decision → Type 0
Pending t ws [] = ⊥
Pending t ws (d ∷ p) = OrLater d.part (Inside t (part_box Second (cut_down ws p) d)) (Pending t ws p)

-- the looks that these parts can take
abbrev pub owed : List Window → List Decision → ℕ
owed ws [] = 0
owed ws (d ∷ p) = by_part d.part (worth (part_box Second (cut_down ws p) d) + owed ws p) (owed ws p)

module _ (admits : List ℕ → Type 0) (ws : List Window) where
  -- what holds of an open search after m looks
  pub record Searching (m : ℕ) (p : List Decision) : Type 0 where
    pub grown : Grown ws p
    pub covered : (t : List ℕ) → admits t → Inside t ws → Inside t (cut_down ws p) ⊎ Pending t ws p
    pub bounded : m + worth (cut_down ws p) + owed ws p ≤ worth ws

  pub record Settled (m : ℕ) (p : List Decision) (t : List ℕ) : Type 0 where
    pub grown : Grown ws p
    pub admitted : admits t
    pub inside : Inside t ws
    pub bounded : m ≤ worth ws

  pub record RuledOut (m : ℕ) : Type 0 where
    pub none : (t : List ℕ) → admits t → Inside t ws → ⊥
    pub bounded : m ≤ worth ws

  abbrev pub Good : ℕ → State → Type 0
  Good m (opened p) = Searching m p
  Good m (found p t) = Settled m p t
  Good m impossible = RuledOut m

  pub start_good : Good 0 (opened [])
  start_good = record { grown = λ k h. absurd (omega arith); covered = λ t a i. inl i; bounded = omega arith }

  pub good_few : (m : ℕ) (s : State) → Good m s → m ≤ worth ws
  good_few m (opened p) g = omega (arith, g.bounded)
  good_few m (found p t) g = g.bounded
  good_few m impossible g = g.bounded

  pub good_grown : (m : ℕ) (s : State) → Good m s → Grown ws (path_of s)
  good_grown m (opened p) g = g.grown
  good_grown m (found p t) g = g.grown
  good_grown m impossible g = λ k h. absurd (omega arith)

  back_step : (b : Part) (m : ℕ) (d : Decision) (p : List Decision) → Splits (cut_down ws p) d → Grown ws p
      → ((t : List ℕ) → admits t → Inside t ws → OrLater b (Inside t (part_box Second (cut_down ws p) d)) (Pending t ws p))
      → m + by_part b (worth (part_box Second (cut_down ws p) d) + owed ws p) (owed ws p) ≤ worth ws
      → (((t : List ℕ) → admits t → Inside t ws → Pending t ws p) → m + owed ws p ≤ worth ws → Good m (backtracked p))
      → Good m (by_part b (opened (to_second d ∷ p)) (backtracked p))
  back_step First m d p s g c b rest = record { grown = grown_more ws (to_second d) p s g; covered = c; bounded = omega arith }
  back_step Second m d p s g c b rest = rest c b

  back_good : (m : ℕ) (p : List Decision) → Grown ws p → ((t : List ℕ) → admits t → Inside t ws → Pending t ws p) → m + owed ws p ≤ worth ws → Good m (backtracked p)
  back_good m [] g c b = record { none = c; bounded = omega arith }
  back_good m (d ∷ p) g c b =
      let r = grown_before ws d p g in
      back_step d.part m d p (grown_last ws d p g) r c b (back_good m p r)

-- the job that is split has its narrowed window within the box
pub branch_splits : (ws box : List Window) (k : ℕ) → Within ws box → Narrowest ws k → Splits box (decision_on k (window ws k))
branch_splits ws box k i x =
    let c : length ws ≡ length box = i.count in
    let l : k < length box = omega (arith, x.there) in
    (l, i.low k l, omega (arith, x.wide), i.high k l, refl)

module _ {n : ℕ} {admits : List ℕ → Type 0} {cut : List Window → Cut} (laws : Lawful n admits cut) (e : Entries) (formed : Formed n (entered_windows e)) where
  branch_good : (m : ℕ) (p : List Decision) (us : List Window) (k : ℕ) → repeated cut (cut_down (entered_windows e) p) ≡ live us → Narrowest us k → Searching admits (entered_windows e) m p → Searching admits (entered_windows e) (suc m) (decision_on k (window us k) ∷ p)
  branch_good m p us k q x g =
      let box = cut_down (entered_windows e) p in
      let f : Formed n box = cut_formed (entered_windows e) p formed g.grown in
      let d = decision_on k (window us k) in
      let s : Splits box d = branch_splits us box k (standstill_within laws box us f q) x in
      record {
        grown = grown_more (entered_windows e) d p s g.grown;
        covered = λ t a y.
            ⊎_elim
            (λ (z : Inside t box).
            let j : Inside t us = subst (λ (v : Cut). Keeps v t) q (standstill_keeps laws box t f a z) in
            ⊎_elim (λ u. inl u) (λ u. inr (inl u)) (in_a_part t box d (j.low k x.there) (j.high k x.there) z))
            (λ (z : Pending t (entered_windows e) p). inr (inr z))
            (g.covered t a y);
        bounded = omega (arith, parts_worth box d f s, g.bounded);
      }

  settled_good : (m : ℕ) (p : List Decision) (us : List Window) → repeated cut (cut_down (entered_windows e) p) ≡ live us → Chooses us None → Searching admits (entered_windows e) m p → Settled admits (entered_windows e) (suc m) p (starts us)
  settled_good m p us q x g =
      let box = cut_down (entered_windows e) p in
      let f : Formed n box = cut_formed (entered_windows e) p formed g.grown in
      let i : Within us box = standstill_within laws box us f q in
      let c : length us ≡ length box = i.count in
      let o : (k : ℕ) → k < length us → (window us k).lo ≤ (window us k).hi = λ k h. i.ordered k (omega arith) in
      record {
        grown = g.grown;
        admitted = standstill_admits laws box us f q (λ k h. omega (arith, o k h, x k h));
        inside = inside_within _ us (entered_windows e) (within_within us box (entered_windows e) i (cut_within (entered_windows e) p formed g.grown)) (starts_inside us o);
        bounded = omega (arith, g.bounded, worth_some box f);
      }

  dead_good : (m : ℕ) (p : List Decision) → repeated cut (cut_down (entered_windows e) p) ≡ dead → Searching admits (entered_windows e) m p → Good admits (entered_windows e) (suc m) (backtracked p)
  dead_good m p q g =
      let box = cut_down (entered_windows e) p in
      let f : Formed n box = cut_formed (entered_windows e) p formed g.grown in
      back_good admits (entered_windows e) (suc m) p g.grown
      (λ t a y.
      ⊎_elim
      (λ (z : Inside t box). absurd (subst (λ (v : Cut). Keeps v t) q (standstill_keeps laws box t f a z)))
      (λ (z : Pending t (entered_windows e) p). z)
      (g.covered t a y))
      (omega (arith, g.bounded, worth_some box f))

  look_good : (m : ℕ) (p : List Decision) → Searching admits (entered_windows e) m p → Good admits (entered_windows e) (suc m) (one_look cut e p)
  look_good m p g = by_cut (repeated cut (cut_down (entered_windows e) p)) refl
    where
      by_choice : (us : List Window) → repeated cut (cut_down (entered_windows e) p) ≡ live us → (q : Option ℕ) → Chooses us q → Good admits (entered_windows e) (suc m) (branched q us p)
      by_choice us r None x = settled_good m p us r x g
      by_choice us r (Some k) x = branch_good m p us k r x g

      by_cut : (c : Cut) → repeated cut (cut_down (entered_windows e) p) ≡ c → Good admits (entered_windows e) (suc m) (looked_at c p)
      by_cut dead r = dead_good m p r g
      by_cut (live us) r = by_choice us r (narrowest us) (narrowest_chooses us)

  pub run_good : (j m : ℕ) (s : State) → Good admits (entered_windows e) m s → Good admits (entered_windows e) (m + looks_made (one_look cut e) j s) (after_looks (one_look cut e) j s)
  run_good zero m s g = subst (λ (x : ℕ). Good admits (entered_windows e) x s) (omega arith) g
  run_good (suc j) m (opened p) g =
      subst (λ (x : ℕ). Good admits (entered_windows e) x (after_looks (one_look cut e) j (one_look cut e p))) (omega arith) (run_good j (suc m) (one_look cut e p) (look_good m p g))
  run_good (suc j) m (found p t) g = subst (λ (x : ℕ). Good admits (entered_windows e) x (found p t)) (omega arith) g
  run_good (suc j) m impossible g = subst (λ (x : ℕ). Good admits (entered_windows e) x impossible) (omega arith) g

  -- while a search is open there is a look left
  pub look_left : (m : ℕ) (p : List Decision) → Searching admits (entered_windows e) m p → m < worth (entered_windows e)
  look_left m p g =
      omega (arith, g.bounded, worth_some (cut_down (entered_windows e) p) (cut_formed (entered_windows e) p formed g.grown))
