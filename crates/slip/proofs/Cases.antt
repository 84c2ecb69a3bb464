-- What a line can be: by its letter, by its fields, by a trailer's figures.
use Rattle.std.proofs.Common.{◌≡◌, ℕ, ◌<◌, Bool, true, false, eqb, List, [], ◌∷◌, length, get_or, Some, None, Err, Option, Result, refl, ◌∙◌, ⊎_elim, arith}
use Rattle.std.proofs.lemmas.Bool.{cond_both, both_ways, cases_Bool, and_parts, and_from, eq-eqb, eqb-true, eqb-false}
use Rattle.sheet.specs.Entries.{Entries}
use Rattle.slip.specs.declared.fault.Fault.{Fault}
use Rattle.slip.specs.declared.fault.Fault.TheVariants.{BadFields}
use Rattle.slip.specs.declared.kind.Kind.{Kind}
use Rattle.slip.specs.declared.kind.Kind.TheVariants.{JobLine, LinkLine, Trailer}
use Rattle.slip.specs.declared.kind.Stage.{Stage}
use Rattle.slip.specs.Format.{letter_J, letter_L, letter_E}
use Rattle.slip.specs.Fields.{fields}
use Rattle.slip.specs.Adding.{then}
use Rattle.slip.specs.Reading.{has_link, has_ended, or_bad_fields, true_figures, kind_of}
use Rattle.slip.specs.Texts.{jobs_text, trailer_fields}
use Rattle.slip.specs.Faulty.{IllWritten}
use Rattle.text.proofs.Spacing.{by_places}
use Rattle.slip.proofs.Spelling.{Spells, spells_fields, ill_from_none}

-- a letter that begins no line
abbrev pub NoKind : ℕ → Bool → Type 0
NoKind x linked = (x ≡ letter_J → linked ≡ false → ⊥) × (x ≡ letter_L → ⊥) × (x ≡ letter_E → ⊥)

pub kind_cases : (x : ℕ) (s : Stage) (P : Option Kind → Type 0) → has_ended s ≡ false
    → (x ≡ letter_J → has_link s ≡ false → P (Some JobLine)) → (x ≡ letter_L → P (Some LinkLine)) → (x ≡ letter_E → P (Some Trailer)) → (NoKind x (has_link s) → P None)
    → P (kind_of x s)
kind_cases x s P before job link trailer none =
    rw before
    (cond_both (eqb x letter_J) _ _ P
    (λ j. let e : x ≡ letter_J = eqb-true x letter_J j in
    cond_both (has_link s) None (Some JobLine) P (λ t. none (λ _ f. both_ways (has_link s) f t, λ l. absurd (omega arith), λ l. absurd (omega arith))) (λ f. job e f))
    (λ j. cond_both (eqb x letter_L) _ _ P (λ l. link (eqb-true x letter_L l))
    (λ l. cond_both (eqb x letter_E) _ _ P (λ t. trailer (eqb-true x letter_E t))
    (λ t. none (λ e _. eqb-false x letter_J j e, eqb-false x letter_L l, eqb-false x letter_E t)))))

pub kind_none : (x : ℕ) (s : Stage) → has_ended s ≡ false → NoKind x (has_link s) → kind_of x s ≡ None
kind_none x s before h = kind_cases x s (λ k. k ≡ None) before (λ e f. absurd (h.0 e f)) (λ e. absurd (h.1 e)) (λ e. absurd (h.2 e)) (λ _. refl)

by_fields : (k n : ℕ) (fs : List ℕ) (made : List ℕ → Result Entries Fault) (P : Result Entries Fault → Type 0) (o : Option (List ℕ)) → fields k fs ≡ o → 0 < k
    → (IllWritten k fs → P (Err (BadFields n))) → ((ns : List ℕ) → Spells k fs ns → P (made ns)) → P (then (or_bad_fields n o) made)
by_fields k n fs made P None q h ill well = ill (ill_from_none k fs h q)
by_fields k n fs made P (Some ns) q h ill well = well ns (spells_fields k fs ns q)

-- ill written, or spelling k numbers
pub fields_cases : (k n : ℕ) (fs : List ℕ) (made : List ℕ → Result Entries Fault) (P : Result Entries Fault → Type 0) → 0 < k
    → (IllWritten k fs → P (Err (BadFields n))) → ((ns : List ℕ) → Spells k fs ns → P (made ns)) → P (then (or_bad_fields n (fields k fs)) made)
fields_cases k n fs made P h ill well = by_fields k n fs made P (fields k fs) refl h ill well

pub figures_true : (b : Entries) → true_figures b (length (jobs_text b)) (trailer_fields b) ≡ true
figures_true b = and_from _ _ (eq-eqb (length b.jobs) _ refl) (and_from _ _ (eq-eqb (length b.links) _ refl) (eq-eqb (length (jobs_text b)) _ refl))

three_same : (x y z a b c : ℕ) → x ≡ a → y ≡ b → z ≡ c → x ∷ (y ∷ (z ∷ [])) ≡ a ∷ (b ∷ (c ∷ []))
three_same x y z a b c e f g = rw (e, f, g)

pub figures_are : (b : Entries) (ns : List ℕ) → length ns ≡ 3 → true_figures b (length (jobs_text b)) ns ≡ true → ns ≡ trailer_fields b
figures_are b ns l t =
    let x = and_parts (eqb (get_or ns 0 0) (length b.jobs)) _ t in
    let y = and_parts (eqb (get_or ns 1 0) (length b.links)) (eqb (get_or ns 2 0) (length (jobs_text b))) x.1 in
    by_places 3 ns l ∙ three_same _ _ _ _ _ _ (eqb-true _ _ x.0) (eqb-true _ _ y.0) (eqb-true _ _ y.1)

pub figures_false : (b : Entries) (ns : List ℕ) → length ns ≡ 3 → (ns ≡ trailer_fields b → ⊥) → true_figures b (length (jobs_text b)) ns ≡ false
figures_false b ns l h =
    ⊎_elim
    (λ (t : true_figures b (length (jobs_text b)) ns ≡ true). absurd (h (figures_are b ns l t)))
    (λ (t : true_figures b (length (jobs_text b)) ns ≡ false). t)
    (cases_Bool (true_figures b (length (jobs_text b)) ns))
