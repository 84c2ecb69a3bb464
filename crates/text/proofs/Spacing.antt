-- Numbers parted by one space, as they are read one by one.
use Rattle.std.proofs.Common.{◌≡◌, ℕ, zero, suc, ◌+◌, ◌-◌, ◌<◌, ◌≤◌, Bool, true, false, cond, eqb, List, [], ◌∷◌, ◌++◌, length, get_or, take, set, Some, None, Option, MatchBool, sym, refl, ap, ◌∙◌, arith, append_assoc, length-set}
use native.Mathlib.Nat.{sub-zero}
use Rattle.std.proofs.lemmas.List.{append-nil, take_all}
use Rattle.std.proofs.lemmas.Grind.{take-set_at}
use Rattle.std.specs.List.{IsFirstMatchOrLen}
use Rattle.text.specs.Bytes.{space}
use Rattle.text.specs.Splitting.{Parts, last, next, split}
use Rattle.text.specs.Spaced.{in_front, numbers}
use Rattle.text.proofs.Splits.{split_part}

in_front_of_none : (o : Option ℕ) → in_front o None ≡ None
in_front_of_none (Some n) = refl
in_front_of_none None = refl

-- these numbers, and then those
abbrev joined : List ℕ → Option (List ℕ) → Option (List ℕ)
joined ns (Some ms) = Some (ns ++ ms)
joined ns None = None

joined_none : (o : Option (List ℕ)) → joined [] o ≡ o
joined_none (Some ms) = refl
joined_none None = refl

joined_more : (ns : List ℕ) (n : ℕ) (o : Option (List ℕ)) → joined (ns ++ (n ∷ [])) o ≡ joined ns (in_front (Some n) o)
joined_more ns n (Some ms) = ap (λ (l : List ℕ). Some l) (append_assoc ns (n ∷ []) ms)
joined_more ns n None = refl

abbrev none_left : ℕ → Option (List ℕ)
none_left zero = Some []
none_left (suc n) = None

-- n numbers in the bytes that are left, or in none once all parts are passed
abbrev numbers_left : (List ℕ → Option ℕ) → ℕ → Bool → List ℕ → Option (List ℕ)
numbers_left read n true rest = none_left n
numbers_left read n false rest = numbers read n (split space rest)

-- the first i numbers, and those in the bytes that are left
abbrev pub read_so_far : (List ℕ → Option ℕ) → List ℕ → ℕ → Bool → List ℕ → Option (List ℕ)
read_so_far read ns i done rest = joined (take i ns) (numbers_left read (length ns - i) done rest)

-- x is the part that `split` of a slice takes off xs
abbrev pub TakesPart : List ℕ → List ℕ → List ℕ → Bool → Type 0
TakesPart xs x rest done = MatchBool done (xs ≡ x) ((y : ℕ) × (xs ≡ x ++ (y ∷ rest))) × IsFirstMatchOrLen (λ b. eqb b space) xs (length x)

past_part : (read : List ℕ → Option ℕ) (n : ℕ) (x rest : List ℕ) (done : Bool) → numbers read (suc n) (cond done (last x) (next x (split space rest))) ≡ in_front (read x) (numbers_left read n done rest)
past_part read zero x rest true = refl
past_part read (suc n) x rest true = sym (in_front_of_none (read x))
past_part read n x rest false = refl

module _ (read : List ℕ → Option ℕ) (ns : List ℕ) (i : ℕ) where
  pub none_read : (rest : List ℕ) → i ≡ 0 → read_so_far read ns i false rest ≡ numbers read (length ns) (split space rest)
  none_read rest e = rw (e, sub-zero) (joined_none _)

  module _ (xs x rest : List ℕ) (done : Bool) (h : i < length ns) (p : TakesPart xs x rest done) where
    past_field : read_so_far read ns i false xs ≡ joined (take i ns) (in_front (read x) (numbers_left read (length ns - (i + 1)) done rest))
    past_field =
        let e : length ns - i ≡ suc (length ns - (i + 1)) = omega arith in
        rw (e, split_part space xs x rest done p.0 p.1) (ap (joined (take i ns)) (past_part read (length ns - (i + 1)) x rest done))

    pub one_more : (v : ℕ) → Some v ≡ read x → read_so_far read (set ns i v) (i + 1) done rest ≡ read_so_far read ns i false xs
    one_more v e = rw (take-set_at ns i (i + 1) v refl h, length-set ns i v) (joined_more (take i ns) v _ ∙ ap (λ (o : Option ℕ). joined (take i ns) (in_front o (numbers_left read (length ns - (i + 1)) done rest))) e ∙ sym past_field)

    pub one_ill : None ≡ read x → read_so_far read ns i false xs ≡ None
    one_ill e = past_field ∙ ap (λ (o : Option ℕ). joined (take i ns) (in_front o (numbers_left read (length ns - (i + 1)) done rest))) (sym e)

  -- too few, just enough, too many
  pub too_few : (rest : List ℕ) → i < length ns → read_so_far read ns i true rest ≡ None
  too_few rest h = let e : length ns - i ≡ suc (length ns - (i + 1)) = omega arith in rw e

  pub all_read : (rest : List ℕ) → length ns ≤ i → read_so_far read ns i true rest ≡ Some ns
  all_read rest h = let e : length ns - i ≡ 0 = omega arith in rw (e, take_all i ns h, append-nil)

  pub too_many : (rest : List ℕ) → length ns ≤ i → read_so_far read ns i false rest ≡ None
  too_many rest h = let e : length ns - i ≡ 0 = omega arith in rw e

-- two ways to read that agree read the same numbers
pub numbers_same : (read also : List ℕ → Option ℕ) → ((f : List ℕ) → read f ≡ also f) → (n : ℕ) (ps : Parts) → numbers read n ps ≡ numbers also n ps
numbers_same read also h zero ps = refl
numbers_same read also h (suc zero) (last f) = ap (λ (o : Option ℕ). in_front o (Some [])) (h f)
numbers_same read also h (suc (suc n)) (last f) = refl
numbers_same read also h (suc n) (next f ps) = rw (h f, numbers_same read also h n ps)

-- n places of a list, from place i on
abbrev pub places : ℕ → ℕ → List ℕ → List ℕ
places i zero ns = []
places i (suc n) ns = get_or ns i 0 ∷ places (suc i) n ns

places_past : (i n m : ℕ) (ns : List ℕ) → places (suc i) n (m ∷ ns) ≡ places i n ns
places_past i zero m ns = refl
places_past i (suc n) m ns = ap (λ (l : List ℕ). get_or ns i 0 ∷ l) (places_past (suc i) n m ns)

-- a list by its places
pub by_places : (n : ℕ) (ns : List ℕ) → length ns ≡ n → ns ≡ places 0 n ns
by_places zero [] e = refl
by_places zero (m ∷ ns) e = absurd (omega arith)
by_places (suc n) [] e = absurd (omega arith)
by_places (suc n) (m ∷ ns) e = ap (λ (l : List ℕ). m ∷ l) (by_places n ns (omega arith) ∙ sym (places_past 0 n m ns))
