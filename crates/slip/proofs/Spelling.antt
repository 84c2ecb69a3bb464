-- A line's fields: read after the first space, spelled out, and read back.
use Rattle.std.proofs.Common.{◌≡◌, ℕ, ◌-◌, ◌<◌, true, eqb, List, [], ◌∷◌, ◌++◌, length, get_or, take, drop, Some, None, Option, sym, refl, ap, ◌∙◌, subst, arith}
use Rattle.std.proofs.lemmas.List.{append_assoc, take_rest}
use Rattle.std.proofs.lemmas.Bool.{eq-eqb, eqb-true, cond_both}
use Rattle.text.specs.Bytes.{space, line_end}
use Rattle.text.specs.Splitting.{next, split}
use Rattle.text.specs.Numbers.{number, number_32}
use Rattle.text.specs.Spaced.{numbers, spaced}
use Rattle.text.proofs.Splits.{split_next, rejoined_split}
use Rattle.text.proofs.Decimals.{Reads, number_reads, number_fits}
use Rattle.text.proofs.Spacing.{numbers_same}
use Rattle.text.proofs.Spelling.{numbers_spaced, spells_numbers, spaced_without}
use Rattle.slip.specs.Format.{most_digits}
use Rattle.slip.specs.Fields.{fields}
use Rattle.slip.specs.Texts.{line_text}
use Rattle.slip.specs.Faulty.{FiveDigits, IllWritten}

reads_five_digits : Reads (number most_digits) 100000
reads_five_digits = number_reads most_digits (omega arith) (omega arith)

pub space_first : (l : List ℕ) → 0 < length l → get_or l 0 0 ≡ space → (n : ℕ) → fields n l ≡ numbers (number_32 most_digits) n (split space (take (length l - 1) (drop 1 l)))
space_first [] h e n = absurd (omega arith)
space_first (b ∷ bs) h e n =
    let t : eqb b space ≡ true = eq-eqb b space e in
    rw (take_rest (b ∷ bs) 1, t) (sym (numbers_same (number_32 most_digits) (number most_digits) (number_fits most_digits (omega arith)) n (split space bs)))

pub fields_spaced : (k : ℕ) (ns : List ℕ) → length ns ≡ k → 0 < k → FiveDigits ns → fields k (spaced ns) ≡ Some ns
fields_spaced k [] e h s = absurd (omega arith)
fields_spaced k (n ∷ ns) e h s = subst (λ (m : ℕ). fields m (spaced (n ∷ ns)) ≡ Some (n ∷ ns)) e (numbers_spaced 100000 (number most_digits) reads_five_digits n ns s)

-- the bytes spell these k numbers
abbrev pub Spells : ℕ → List ℕ → List ℕ → Type 0
Spells k fs ns = (fs ≡ spaced ns) × (length ns ≡ k) × FiveDigits ns

pub spells_fields : (k : ℕ) (fs ns : List ℕ) → fields k fs ≡ Some ns → Spells k fs ns
spells_fields k [] ns = λ q. cc
spells_fields k (b ∷ bs) ns =
    cond_both (eqb b space) (numbers (number most_digits) k (split space bs)) None (λ v. v ≡ Some ns → Spells k (b ∷ bs) ns)
    (λ e q. let c : b ≡ space = eqb-true b space e in
    let i = spells_numbers 100000 (number most_digits) reads_five_digits k (split space bs) ns q in
    (rw c (ap (λ (x : List ℕ). space ∷ x) (sym (rejoined_split space bs)) ∙ i.0), i.1, i.2))
    (λ _ q. cc)

-- ill written is what does not read as fields
pub ill_from_none : (k : ℕ) (fs : List ℕ) → 0 < k → fields k fs ≡ None → IllWritten k fs
ill_from_none k fs h q ns l s e = let r = fields_spaced k ns l h s in cc

ill_by_cases : (k : ℕ) (fs : List ℕ) (o : Option (List ℕ)) → fields k fs ≡ o → IllWritten k fs → fields k fs ≡ None
ill_by_cases k fs None q i = q
ill_by_cases k fs (Some ns) q i = let r = spells_fields k fs ns q in absurd (i ns r.1 r.2 r.0)

pub none_from_ill : (k : ℕ) (fs : List ℕ) → IllWritten k fs → fields k fs ≡ None
none_from_ill k fs i = ill_by_cases k fs (fields k fs) refl i

-- a line that is spelled out is the next line
pub split_line : (c : ℕ) (ns rest : List ℕ) → (c ≡ line_end → ⊥) → FiveDigits ns → split line_end (line_text c ns ++ rest) ≡ next (c ∷ spaced ns) (split line_end rest)
split_line c ns rest h s =
    ap (λ (x : List ℕ). split line_end (c ∷ x)) (append_assoc (spaced ns) (line_end ∷ []) rest) ∙ split_next line_end (c ∷ spaced ns) rest (h, spaced_without line_end 100000 ns (omega arith) (omega arith) s)
