-- Numbers as they are written in decimal.
use Rattle.std.specs.Prelude.{ℕ, ◌+◌, ◌-◌, ◌*◌, ◌^◌, Bool, cond, ◌&&◌, List, [], ◌∷◌, length, Some, None, Option, ◌==◌, nat_le, nat_lt}

abbrev pub is_digit : ℕ → Bool
is_digit b = nat_le 48 b && nat_le b 57

-- the value of digits that come after those of n
abbrev pub value_after : ℕ → List ℕ → Option ℕ
value_after n [] = Some n
value_after n (b ∷ bs) = cond (is_digit b) (value_after (n * 10 + (b - 48)) bs) None

-- 1 to k digits, and no leading zero but in 0 itself
abbrev pub number : ℕ → List ℕ → Option ℕ
number k [] = None
number k (b ∷ bs) = cond (nat_lt k (length (b ∷ bs))) None (cond (b == 48) (cond (length bs == 0) (Some 0) None) (value_after 0 (b ∷ bs)))

abbrev pub in_32_bits : Option ℕ → Option ℕ
in_32_bits (Some n) = cond (nat_lt n (2 ^ 32)) (Some n) None
in_32_bits None = None

abbrev pub number_32 : ℕ → List ℕ → Option ℕ
number_32 k f = in_32_bits (number k f)
