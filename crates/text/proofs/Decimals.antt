-- A number is read from its decimal digits, and from nothing else.
use Rattle.std.proofs.Common.{◌≡◌, ℕ, ◌+◌, ◌-◌, ◌*◌, ◌^◌, ◌<◌, ◌≤◌, Bool, true, false, cond, ◌&&◌, eqb, ltb, leb, List, [], ◌∷◌, length, get_or, Some, None, decimal, Option, sym, refl, ap, ◌∙◌, ⊎_elim, arith, rules}
use Rattle.std.proofs.lemmas.Bool.{ne_eqb, eqb-true, eqb-false, lt-ltb, le-ltb, ltb-true, ltb-false, cond_both, and_parts, leb-true, cases_eq}
use Rattle.std.proofs.lemmas.List.{nil_from_length}
use Rattle.std.proofs.lemmas.Str.Parse.{IsNumeralModel, numerals_by_fold, digits_value_short}
use Rattle.std.proofs.lemmas.Fmt.{digits_decimal, digits_value-decimal, length-decimal-le, decimal_nonempty, first_decimal, decimal_digit, decimal-digits_value}
use Rattle.text.specs.Splitting.{Without}
use Rattle.text.specs.Numbers.{is_digit, value_after, number, in_32_bits, number_32}

abbrev all_digits : List ℕ → Bool
all_digits [] = true
all_digits (b ∷ bs) = is_digit b && all_digits bs

abbrev value : ℕ → List ℕ → ℕ
value n [] = n
value n (b ∷ bs) = value (n * 10 + (b - 48)) bs

numerals : IsNumeralModel (λ ds. all_digits ds ≡ true) (value 0)
numerals = numerals_by_fold _ (search rules) value (search rules)

value_after_is : (n : ℕ) (ds : List ℕ) → value_after n ds ≡ cond (all_digits ds) (Some (value n ds)) None
value_after_is n [] = refl
value_after_is n (b ∷ bs) =
    elim (is_digit b) as (λ v. cond v (value_after (n * 10 + (b - 48)) bs) None ≡ cond (v && all_digits bs) (Some (value (n * 10 + (b - 48)) bs)) None) [
      | true ↦ value_after_is (n * 10 + (b - 48)) bs
      | false ↦ refl
    ]

only_digits : (n : ℕ) (ds : List ℕ) → value_after 0 ds ≡ Some n → (all_digits ds ≡ true) × (value 0 ds ≡ n)
only_digits n ds q =
    cond_both (all_digits ds) (Some (value 0 ds)) None (λ v. v ≡ Some n → (all_digits ds ≡ true) × (value 0 ds ≡ n))
    (λ e r. (e, cc)) (λ e r. cc) (sym (value_after_is 0 ds) ∙ q)

number_of_digits : (k : ℕ) (ds : List ℕ) → all_digits ds ≡ true → 0 < length ds → length ds ≤ k → (get_or ds 0 0 ≡ 48 → length ds ≡ 1) → number k ds ≡ Some (value 0 ds)
number_of_digits k [] d h l z = absurd (omega arith)
number_of_digits k (b ∷ bs) d h l z =
    let e : ltb k (length (b ∷ bs)) ≡ false = le-ltb k (length (b ∷ bs)) l in
    let v : value_after 0 (b ∷ bs) ≡ Some (value 0 (b ∷ bs)) = value_after_is 0 (b ∷ bs) ∙ ap (λ (t : Bool). cond t (Some (value 0 (b ∷ bs))) None) d in
    rw e
    (⊎_elim
    (λ (q : b ≡ 48).
    let n : bs ≡ [] = nil_from_length bs (omega (arith, z q)) in
    rw (q, n))
    (λ (q : b ≡ 48 → ⊥). let f : eqb b 48 ≡ false = ne_eqb b 48 q in rw f v)
    (cases_eq b 48))

number_of_decimal : (k n : ℕ) → 0 < k → n < 10 ^ k → n < 2 ^ 64 → number k (decimal n) ≡ Some n
number_of_decimal k n o h l =
    number_of_digits k (decimal n) (digits_decimal numerals n l) (decimal_nonempty n l) (length-decimal-le k n o h l)
    (λ z. ⊎_elim
    (λ (q : n ≡ 0). rw (q, decimal_digit 0 (omega arith)))
    (λ (q : n ≡ 0 → ⊥). absurd (omega (arith, first_decimal n (omega arith) l)))
    (cases_eq n 0))
    ∙ ap (λ (m : ℕ). Some m) (digits_value-decimal numerals n l)

-- the field is the number in decimal, which is below m
abbrev pub DecimalBelow : ℕ → List ℕ → ℕ → Type 0
DecimalBelow m f n = (f ≡ decimal n) × (n < m)

decimal_from_number : (k : ℕ) (f : List ℕ) (n : ℕ) → 10 ^ k ≤ 2 ^ 64 → number k f ≡ Some n → DecimalBelow (10 ^ k) f n
decimal_from_number k [] n s = λ q. cc
decimal_from_number k (b ∷ bs) n s =
    cond_both (ltb k (length (b ∷ bs))) None _ (λ v. v ≡ Some n → DecimalBelow (10 ^ k) (b ∷ bs) n) (λ _ q. cc)
    (λ l. let h : length (b ∷ bs) ≤ k = ltb-false k (length (b ∷ bs)) l in
    cond_both (eqb b 48) _ _ (λ v. v ≡ Some n → DecimalBelow (10 ^ k) (b ∷ bs) n)
    (λ z. cond_both (eqb (length bs) 0) (Some 0) None (λ v. v ≡ Some n → DecimalBelow (10 ^ k) (b ∷ bs) n)
    (λ o q. let e : bs ≡ [] = nil_from_length bs (eqb-true (length bs) 0 o) in
    let c : b ≡ 48 = eqb-true b 48 z in
    let m : 0 ≡ n = cc in
    (rw (e, c, ← m) (sym (decimal_digit 0 (omega arith))), omega (arith, digits_value_short numerals (48 ∷ []) k refl (omega arith))))
    (λ _ q. cc))
    (λ z q. let t = only_digits n (b ∷ bs) q in
    let u = digits_value_short numerals (b ∷ bs) k t.0 (omega arith) in
    let e = t.1 in (
      sym (decimal-digits_value numerals (b ∷ bs) t.0 (omega arith) (λ w. absurd (eqb-false b 48 z w)) (omega arith)) ∙ ap decimal t.1,
      omega arith,
    )))

-- what is read are the numbers below m, from their digits
pub record Reads (read : List ℕ → Option ℕ) (m : ℕ) : Type 0 where
  pub from_decimal : (n : ℕ) → n < m → read (decimal n) ≡ Some n
  pub only_decimal : (f : List ℕ) (n : ℕ) → read f ≡ Some n → DecimalBelow m f n
  pub short : m ≤ 2 ^ 64

pub number_reads : (k : ℕ) → 0 < k → 10 ^ k ≤ 2 ^ 64 → Reads (number k) (10 ^ k)
number_reads k o s = record {
  from_decimal = λ n h. number_of_decimal k n o h (omega arith);
  only_decimal = λ f n q. decimal_from_number k f n s q;
  short = s;
}

in_32_bits_some : (o : Option ℕ) (n : ℕ) → in_32_bits o ≡ Some n → (o ≡ Some n) × (n < 2 ^ 32)
in_32_bits_some None n = λ q. cc
in_32_bits_some (Some m) n =
    cond_both (ltb m (2 ^ 32)) (Some m) None (λ v. v ≡ Some n → (Some m ≡ Some n) × (n < 2 ^ 32))
    (λ e q. let l = ltb-true m (2 ^ 32) e in
    let r : m ≡ n = cc in
    (q, omega arith))
    (λ _ q. cc)

within_32_bits : (o : Option ℕ) → ((n : ℕ) → o ≡ Some n → n < 2 ^ 32) → in_32_bits o ≡ o
within_32_bits None h = refl
within_32_bits (Some n) h = let t : ltb n (2 ^ 32) ≡ true = lt-ltb n (2 ^ 32) (h n refl) in rw t

pub number_32_reads : (k : ℕ) → 0 < k → 2 ^ 32 ≤ 10 ^ k → 10 ^ k ≤ 2 ^ 64 → Reads (number_32 k) (2 ^ 32)
number_32_reads k o b s = record {
  from_decimal = λ n h. let t : ltb n (2 ^ 32) ≡ true = lt-ltb n (2 ^ 32) h in ap in_32_bits (number_of_decimal k n o (omega arith) (omega arith)) ∙ (rw t);
  only_decimal = λ f n q. let t = in_32_bits_some (number k f) n q in ((decimal_from_number k f n s t.0).0, t.1);
  short = omega arith;
}

-- few digits always fit
pub number_fits : (k : ℕ) → 10 ^ k ≤ 2 ^ 32 → (f : List ℕ) → number_32 k f ≡ number k f
number_fits k h f = within_32_bits (number k f) (λ n q. let t = decimal_from_number k f n (omega arith) q in omega arith)

digits_without : (sep : ℕ) (ds : List ℕ) → sep < 48 → all_digits ds ≡ true → Without sep ds
digits_without sep [] h e = tt
digits_without sep (b ∷ bs) h e =
    let p = and_parts (is_digit b) (all_digits bs) e in
    let q = and_parts (leb 48 b) (leb b 57) p.0 in
    let l = leb-true 48 b q.0 in
    (λ w. absurd (omega arith), digits_without sep bs h p.1)

pub decimal_without : (sep n : ℕ) → sep < 48 → n < 2 ^ 64 → Without sep (decimal n)
decimal_without sep n h l = digits_without sep (decimal n) h (digits_decimal numerals n l)
