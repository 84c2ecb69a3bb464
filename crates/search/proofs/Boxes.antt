-- Windows of which one is replaced by a part, and the numbers of their timetables.
use Rattle.std.proofs.Common.{◌≡◌, ℕ, zero, suc, ◌+◌, ◌-◌, ◌<◌, ◌≤◌, List, [], ◌∷◌, length, get_or, set, sym, refl, ap, ◌∙◌, le_of_suc-le-suc, not-suc-le-zero, mul-le-mul_right, mul-le-mul_left, mul-pos, arith, length-set}
use Rattle.sheet.specs.declared.records.Window.{Window}
use Rattle.sheet.specs.Limits.{last_minute}
use Rattle.rule.specs.Windows.{window, Formed, Within, Inside, starts}
use Rattle.search.specs.Counting.{timetables}

-- no window has its first start after its last
abbrev pub Ordered : List Window → Type 0
Ordered ws = (k : ℕ) → k < length ws → (window ws k).lo ≤ (window ws k).hi

-- what holds of every window holds after one is replaced
pub set_each : (P : ℕ → Window → Type 0) (ws : List Window) (j : ℕ) (v : Window) → P j v → ((k : ℕ) → k < length ws → P k (window ws k)) → (k : ℕ) → k < length ws → P k (window (set ws j v) k)
set_each P [] j v x f k h = absurd (not-suc-le-zero h)
set_each P (w ∷ ws) zero v x f zero h = x
set_each P (w ∷ ws) zero v x f (suc k) h = f (suc k) h
set_each P (w ∷ ws) (suc j) v x f zero h = f 0 h
set_each P (w ∷ ws) (suc j) v x f (suc k) h = set_each (λ i. P (suc i)) ws j v x (λ i l. f (suc i) (omega arith)) k (le_of_suc-le-suc h)

pub set_formed : {n : ℕ} (ws : List Window) (j : ℕ) (v : Window) → v.lo ≤ v.hi → v.hi ≤ last_minute → Formed n ws → Formed n (set ws j v)
set_formed ws j v o t f =
    let e : length (set ws j v) ≡ length ws = length-set ws j v in
    record {
      count = e ∙ f.count;
      ordered = λ k h. set_each (λ i w. w.lo ≤ w.hi) ws j v o f.ordered k (omega arith);
      timely = λ k h. set_each (λ i w. w.hi ≤ last_minute) ws j v t f.timely k (omega arith);
    }

pub set_inside : (t : List ℕ) (ws : List Window) (j : ℕ) (v : Window) → v.lo ≤ get_or t j 0 → get_or t j 0 ≤ v.hi → Inside t ws → Inside t (set ws j v)
set_inside t ws j v l h i =
    let e : length (set ws j v) ≡ length ws = length-set ws j v in
    record {
      count = i.count ∙ sym e;
      low = λ k x. set_each (λ m w. w.lo ≤ get_or t m 0) ws j v l i.low k (omega arith);
      high = λ k x. set_each (λ m w. get_or t m 0 ≤ w.hi) ws j v h i.high k (omega arith);
    }

pub set_within : (ws : List Window) (j : ℕ) (v : Window) → (window ws j).lo ≤ v.lo → v.lo ≤ v.hi → v.hi ≤ (window ws j).hi → Ordered ws → Within (set ws j v) ws
set_within ws j v l o h f = record {
  count = length-set ws j v;
  low = set_each (λ k w. (window ws k).lo ≤ w.lo) ws j v l (λ k x. omega arith);
  ordered = set_each (λ k w. w.lo ≤ w.hi) ws j v o f;
  high = set_each (λ k w. w.hi ≤ (window ws k).hi) ws j v h (λ k x. omega arith);
}

pub inside_within : (t : List ℕ) (vs ws : List Window) → Within vs ws → Inside t vs → Inside t ws
inside_within t vs ws w i =
    let c : length vs ≡ length ws = w.count in
    record {
      count = i.count ∙ c;
      low = λ k h. let l : k < length vs = omega arith in omega (arith, w.low k h, i.low k l);
      high = λ k h. let l : k < length vs = omega arith in omega (arith, w.high k h, i.high k l);
    }

pub some_timetable : (ws : List Window) → Ordered ws → 1 ≤ timetables ws
some_timetable [] f = omega arith
some_timetable (w ∷ ws) f =
    let o : w.lo ≤ w.hi = f 0 (omega arith) in
    mul-pos (omega arith) (some_timetable ws (λ k h. f (suc k) (omega arith)))

-- two parts of one window have together no more timetables than the whole
pub two_parts : (ws : List Window) (j : ℕ) (u v : Window) → j < length ws → (suc u.hi - u.lo) + (suc v.hi - v.lo) ≤ suc (window ws j).hi - (window ws j).lo → timetables (set ws j u) + timetables (set ws j v) ≤ timetables ws
two_parts [] j u v h x = absurd (not-suc-le-zero h)
two_parts (w ∷ ws) zero u v h x = omega (arith, mul-le-mul_right (timetables ws) x)
two_parts (w ∷ ws) (suc j) u v h x = omega (arith, mul-le-mul_left (suc w.hi - w.lo) (two_parts ws j u v (le_of_suc-le-suc h) x))

pub starts_at : (ws : List Window) (k : ℕ) → k < length ws → get_or (starts ws) k 0 ≡ (window ws k).lo
starts_at [] k h = absurd (not-suc-le-zero h)
starts_at (w ∷ ws) zero h = refl
starts_at (w ∷ ws) (suc k) h = starts_at ws k (le_of_suc-le-suc h)

pub starts_count : (ws : List Window) → length (starts ws) ≡ length ws
starts_count [] = refl
starts_count (w ∷ ws) = ap suc (starts_count ws)

-- the first starts of ordered windows lie within them
pub starts_inside : (ws : List Window) → Ordered ws → Inside (starts ws) ws
starts_inside ws o = record {
  count = starts_count ws;
  low = λ k h. omega (arith, starts_at ws k h);
  high = λ k h. omega (arith, starts_at ws k h, o k h);
}
