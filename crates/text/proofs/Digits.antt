-- One step of the loop over digits, and its end.
use Rattle.std.proofs.Common.{◌≡◌, ℕ, ◌+◌, ◌-◌, ◌*◌, ◌^◌, ◌<◌, ◌≤◌, true, false, ltb, leb, List, [], ◌∷◌, length, get_or, drop, Some, None, refl, ap, ◌∙◌, ⊎_elim, add-one, arith, drop_of_length-le, drop-cons}
use Rattle.std.specs.Char.{digit_value, IsDigitOf}
use Rattle.std.proofs.lemmas.Bool.{le-leb, lt-ltb, le-ltb, cond_both}
use Rattle.std.proofs.lemmas.Str.Parse.{digit_from_value}
use Rattle.text.specs.Numbers.{is_digit, value_after, in_32_bits}

at_digit : (n : ℕ) (l : List ℕ) (i : ℕ) → i < length l → 48 ≤ get_or l i 0 → get_or l i 0 ≤ 57 → value_after n (drop i l) ≡ value_after (n * 10 + (get_or l i 0 - 48)) (drop (i + 1) l)
at_digit n l i h a b =
    let x : leb 48 (get_or l i 0) ≡ true = le-leb _ _ a in
    let y : leb (get_or l i 0) 57 ≡ true = le-leb _ _ b in
    rw (add-one, drop-cons l i 0 h) (simp (x, y))

-- digits that come after those of a number above 32 bits make no smaller one
above_32_bits : (n : ℕ) (ds : List ℕ) → 2 ^ 32 ≤ n → in_32_bits (value_after n ds) ≡ None
above_32_bits n [] h = let t : ltb n (2 ^ 32) ≡ false = le-ltb n (2 ^ 32) h in rw t
above_32_bits n (b ∷ bs) h =
    cond_both (is_digit b) (value_after (n * 10 + (b - 48)) bs) None (λ v. in_32_bits v ≡ None)
    (λ _. above_32_bits (n * 10 + (b - 48)) bs (omega arith))
    (λ _. refl)

-- one digit more, past 32 bits
pub too_great : (n : ℕ) (l : List ℕ) (i x d : ℕ) → i < length l → x ≡ get_or l i 0 → digit_value x < 10 → IsDigitOf x d → 2 ^ 32 ≤ n * 10 + d → in_32_bits (value_after n (drop i l)) ≡ None
too_great n l i x d h e v c g =
    let r = digit_from_value x v in
    let s : get_or l i 0 ≡ 48 + d = ⊎_elim (λ a. omega arith) (λ o. ⊎_elim (λ a. absurd (omega arith)) (λ a. absurd (omega arith)) o) c in
    ap in_32_bits (at_digit n l i h (omega arith) (omega arith)) ∙ above_32_bits _ (drop (i + 1) l) (omega arith)

pub after_digits : (n : ℕ) (l : List ℕ) (i : ℕ) → n < 2 ^ 32 → length l ≤ i → Some n ≡ in_32_bits (value_after n (drop i l))
after_digits n l i b h =
    let e : drop i l ≡ [] = drop_of_length-le l h in
    let t : ltb n (2 ^ 32) ≡ true = lt-ltb n (2 ^ 32) b in
    simp (e, t)
