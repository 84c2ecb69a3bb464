-- A path is never too long for its places: each decision halves a window, and 16 halvings leave one of 40,001 starts.
use Rattle.std.proofs.Common.{ℕ, zero, suc, ◌+◌, ◌-◌, ◌*◌, ◌^◌, ◌<◌, ◌≤◌, List, [], ◌∷◌, length, set, le_of_suc-le-suc, not-suc-le-zero, arith}
use Rattle.sheet.specs.declared.records.Window.{Window}
use Rattle.sheet.specs.Limits.{most_jobs, last_minute}
use Rattle.rule.specs.Windows.{window, Formed}
use Rattle.search.specs.declared.decision.Decision.{Decision}
use Rattle.search.specs.Deciding.{part_of, cut_down, Splits, Grown}
use Rattle.search.specs.Paths.{most_decisions}
use Rattle.search.proofs.Halving.{part_half, grown_last, grown_before}

-- r halvings in all tell the starts of each window apart
abbrev Room : List Window → ℕ → Type 0
Room [] r = Unit {0}
Room (w ∷ ws) r = (a : ℕ) × (b : ℕ) × (suc w.hi - w.lo ≤ 2 ^ a) × Room ws b × (a + b ≤ r)

room_start : (ws : List Window) → ((k : ℕ) → k < length ws → (window ws k).hi ≤ last_minute) → Room ws (16 * length ws)
room_start [] f = tt
room_start (w ∷ ws) f =
    let t : w.hi ≤ last_minute = f 0 (omega arith) in
    (16, 16 * length ws, omega arith, room_start ws (λ k h. f (suc k) (omega arith)), omega arith)

halve : (a x y : ℕ) → 2 ≤ x → 2 * y ≤ suc x → x ≤ 2 ^ a → (c : ℕ) × (suc c ≤ a) × (y ≤ 2 ^ c)
halve zero x y p q h = absurd (omega arith)
halve (suc c) x y p q h = (c, omega arith, omega arith)

room_less : (ws : List Window) (j : ℕ) (v : Window) (r : ℕ) → j < length ws → (window ws j).lo < (window ws j).hi → 2 * (suc v.hi - v.lo) ≤ suc (suc (window ws j).hi - (window ws j).lo) → Room ws r → (q : ℕ) × (suc q ≤ r) × Room (set ws j v) q
room_less [] j v r h x y m = absurd (not-suc-le-zero h)
room_less (w ∷ ws) zero v r h x y m =
    let c = halve m.0 (suc w.hi - w.lo) (suc v.hi - v.lo) (omega arith) y m.2 in
    (c.0 + m.1, omega (arith, c.1, m.4), (c.0, m.1, c.2, m.3, omega arith))
room_less (w ∷ ws) (suc j) v r h x y m =
    let c = room_less ws j v m.1 (le_of_suc-le-suc h) x y m.3 in
    (m.0 + c.0, omega (arith, c.1, m.4), (m.0, c.0, m.2, c.2, omega arith))

path_room : (ws : List Window) (p : List Decision) → ((k : ℕ) → k < length ws → (window ws k).hi ≤ last_minute) → Grown ws p → (r : ℕ) × Room (cut_down ws p) r × (r + length p ≤ 16 * length ws)
path_room ws [] f g = (16 * length ws, room_start ws f, omega arith)
path_room ws (d ∷ p) f g =
    let m = path_room ws p f (grown_before ws d p g) in
    let s : Splits (cut_down ws p) d = grown_last ws d p g in
    let c = room_less (cut_down ws p) d.job (part_of d.part d) m.0 s.0 (omega (arith, s.1, s.2, s.3)) (part_half (cut_down ws p) d s d.part) m.1 in
    (c.0, c.2, omega (arith, c.1, m.2))

pub path_short : {n : ℕ} (ws : List Window) (p : List Decision) → n ≤ most_jobs → Formed n ws → Grown ws p → length p ≤ most_decisions
path_short ws p h f g = let m = path_room ws p f.timely g in omega (arith, m.2, f.count)
