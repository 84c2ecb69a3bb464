-- The tests of windows, window after window: for a rule whose loop tests windows itself.
use Rattle.std.specs.Prelude.{◌≡◌, ℕ, suc, ◌+◌, ◌<◌, ◌≤◌, Bool, true, false, ◌&&◌, List, [], ◌∷◌, length, drop, ◌==◌, ◌≢◌, refl}
use Rattle.std.proofs.Common.{ap, ◌∙◌, add-one, arith, drop_of_length-le, drop-cons}
use Rattle.std.proofs.lemmas.Bool.{and_right}
use Rattle.sheet.specs.declared.records.Window.{Window}
use Rattle.rule.specs.Windows.{window, window_of, fine, all_fine, same}

pub fine_step : (ws : List Window) (i : ℕ) → i < length ws → all_fine (drop i ws) ≡ (fine (window ws i) && all_fine (drop (i + 1) ws))
fine_step ws i h = rw add-one (ap all_fine (drop-cons ws i (window_of 0 0) h))

pub fine_more : (ws : List Window) (i : ℕ) (b : Bool) → i < length ws → all_fine ws ≡ all_fine (drop i ws) → fine (window ws i) ≡ b → all_fine ws ≡ (b && all_fine (drop (i + 1) ws))
fine_more ws i b h inv e = inv ∙ fine_step ws i h ∙ ap (λ (x : Bool). x && all_fine (drop (i + 1) ws)) e

pub fine_end : (ws : List Window) (i : ℕ) → length ws ≤ i → all_fine ws ≡ all_fine (drop i ws) → all_fine ws ≡ true
fine_end ws i h inv = inv ∙ ap all_fine (drop_of_length-le ws h)

pub same_step : (vs ws : List Window) (i : ℕ) → i < length vs → i < length ws → same (drop i vs) (drop i ws) ≡ (((window vs i).lo == (window ws i).lo && (window vs i).hi == (window ws i).hi) && same (drop (i + 1) vs) (drop (i + 1) ws))
same_step vs ws i h g = rw add-one (ap (λ (x : List Window). same x (drop i ws)) (drop-cons vs i (window_of 0 0) h) ∙ ap (λ (x : List Window). same (window vs i ∷ drop (suc i) vs) x) (drop-cons ws i (window_of 0 0) g))

pub same_apart : (vs ws : List Window) → (length vs ≢ length ws) → same vs ws ≡ false
same_apart [] [] h = absurd (h refl)
same_apart [] (w ∷ ws) h = refl
same_apart (v ∷ vs) [] h = refl
same_apart (v ∷ vs) (w ∷ ws) h = and_right _ _ (same_apart vs ws (λ e. h (ap suc e)))

pub same_more : (vs ws : List Window) (i : ℕ) (b : Bool) → i < length vs → length vs ≡ length ws → same vs ws ≡ same (drop i vs) (drop i ws) → ((window vs i).lo == (window ws i).lo && (window vs i).hi == (window ws i).hi) ≡ b → same vs ws ≡ (b && same (drop (i + 1) vs) (drop (i + 1) ws))
same_more vs ws i b h n inv e =
    inv ∙ same_step vs ws i h (omega arith) ∙ ap (λ (x : Bool). x && same (drop (i + 1) vs) (drop (i + 1) ws)) e

pub same_end : (vs ws : List Window) (i : ℕ) → length vs ≤ i → length vs ≡ length ws → same vs ws ≡ same (drop i vs) (drop i ws) → same vs ws ≡ true
same_end vs ws i h n inv =
    let l : length ws ≤ i = omega arith in
    inv ∙ ap (λ (x : List Window). same x (drop i ws)) (drop_of_length-le vs h) ∙ ap (λ (x : List Window). same [] x) (drop_of_length-le ws l)
