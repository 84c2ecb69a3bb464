-- What the reader answers and leaves is what the slip's text says, both ways.
use Rattle.std.proofs.Common.{◌≡◌, ℕ, ◌<◌, ◌≤◌, true, false, ltb, List, length, Ok, Err, Result, sym, refl, ap, ◌∙◌, subst, inl, inr, ⊎_elim}
use Rattle.std.proofs.lemmas.Bool.{cond_both, ltb-true, ltb-false, lt-ltb, le-ltb}
use Rattle.sheet.specs.Entries.{Entries, no_entries}
use Rattle.slip.specs.declared.fault.Fault.{Fault}
use Rattle.slip.specs.declared.fault.Fault.TheVariants.{TooLong}
use Rattle.text.specs.Bytes.{line_end}
use Rattle.slip.specs.Format.{longest_slip}
use Rattle.text.specs.Splitting.{split}
use Rattle.slip.specs.Adding.{unless_refused}
use Rattle.slip.specs.Reading.{start, read_lines, read, left_entries}
use Rattle.slip.specs.Texts.{SlipOf}
use Rattle.slip.specs.Faulty.{FirstFault, Faulty}
use Rattle.slip.specs.Laws.{ReaderLaw}
use Rattle.slip.proofs.Walk.{ComesTo, read_lines_comes_to}
use Rattle.slip.proofs.Telling.{read_text, tell_first_fault}

abbrev Means : List ℕ → Result Entries Fault → Type 0
Means bytes (Ok b) = SlipOf bytes b
Means bytes (Err f) = Faulty bytes f

not_too_long : (bytes : List ℕ) (r : Result Entries Fault) → length bytes ≤ longest_slip → ComesTo bytes r → Means bytes r
not_too_long bytes (Ok b) h w = (w.0, w.1, h)
not_too_long bytes (Err f) h w = inr (h, w)

read_means : (bytes : List ℕ) → Means bytes (read bytes)
read_means bytes =
    cond_both (ltb longest_slip (length bytes)) (Err TooLong) (read_lines start no_entries (split line_end bytes)) (Means bytes)
    (λ l. inl (ltb-true longest_slip (length bytes) l, refl))
    (λ l. not_too_long bytes (read_lines start no_entries (split line_end bytes)) (ltb-false longest_slip (length bytes) l) (read_lines_comes_to bytes))

slip_is_read : (bytes : List ℕ) (b : Entries) → SlipOf bytes b → read bytes ≡ Ok b
slip_is_read bytes b s =
    let l : ltb longest_slip (length bytes) ≡ false = le-ltb longest_slip (length bytes) s.2 in
    rw l (ap (λ (u : List ℕ). read_lines start no_entries (split line_end u)) s.0 ∙ read_text b s.1 (subst (λ (u : List ℕ). length u ≤ longest_slip) s.0 s.2))

fault_is_read : (bytes : List ℕ) (f : Fault) → Faulty bytes f → read bytes ≡ Err f
fault_is_read bytes f w =
    ⊎_elim
    (λ (x : (longest_slip < length bytes) × (f ≡ TooLong)). let l : ltb longest_slip (length bytes) ≡ true = lt-ltb longest_slip (length bytes) x.0 in rw l (ap (λ (g : Fault). Err g) (sym x.1)))
    (λ (x : (length bytes ≤ longest_slip) × FirstFault bytes f). let l : ltb longest_slip (length bytes) ≡ false = le-ltb longest_slip (length bytes) x.0 in rw l (tell_first_fault bytes f x.0 x.1))
    w

-- what was read, from the answer and what the sheet then holds
read_from_ok : (x : Result Entries Fault) (r : Result (Unit {0}) Fault) (b : Entries) → r ≡ unless_refused x tt → b ≡ left_entries x → r ≡ Ok tt → x ≡ Ok b
read_from_ok (Ok y) r b e f g = ap (λ (z : Entries). Ok z) (sym f)
read_from_ok (Err y) r b e f g = cc

read_from_err : (x : Result Entries Fault) (r : Result (Unit {0}) Fault) (f : Fault) → r ≡ unless_refused x tt → r ≡ Err f → x ≡ Err f
read_from_err (Ok y) r f e g = cc
read_from_err (Err y) r f e g = cc

pub reader_law : (bytes : List ℕ) (r : Result (Unit {0}) Fault) (after : Entries) → r ≡ unless_refused (read bytes) tt → after ≡ left_entries (read bytes) → ReaderLaw bytes r after
reader_law bytes r after e f = record {
  taken_only_slips = λ g. subst (Means bytes) (read_from_ok (read bytes) r after e f g) (read_means bytes);
  slips_are_taken = λ b s. (e ∙ ap (λ (x : Result Entries Fault). unless_refused x tt) (slip_is_read bytes b s), f ∙ ap left_entries (slip_is_read bytes b s));
  told_only_faults = λ g q. let x = read_from_err (read bytes) r g e q in (subst (Means bytes) x (read_means bytes), f ∙ ap left_entries x);
  faults_are_told = λ g w. (e ∙ ap (λ (x : Result Entries Fault). unless_refused x tt) (fault_is_read bytes g w), f ∙ ap left_entries (fault_is_read bytes g w));
}
