-- How far one line takes the reader.
use Rattle.std.proofs.Common.{◌≡◌, ℕ, ◌+◌, List, [], ◌∷◌, length, Some, None, Ok, Err, Option, Result, sym, refl, ap, subst, arith}
use Rattle.sheet.specs.Entries.{Entries}
use Rattle.slip.specs.declared.fault.Fault.{Fault}
use Rattle.slip.specs.declared.kind.Kind.{Kind}
use Rattle.slip.specs.declared.kind.Kind.TheVariants.{JobLine, LinkLine, Trailer}
use Rattle.slip.specs.declared.line.Progress.{Progress}
use Rattle.text.specs.Splitting.{Parts, next}
use Rattle.slip.specs.Adding.{then}
use Rattle.slip.specs.Reading.{past_job, past_link, past_trailer, place_or, read_job, read_link, read_trailer, kind_of, read_kind, read_line, read_lines}

then_past : (r : Result Entries Fault) (p to : Progress) (c : Entries) → then {B = Progress × Entries} r (λ b. Ok (p, b)) ≡ Ok (to, c) → (p ≡ to) × (r ≡ Ok c)
then_past (Ok b) p to c q = let e : ◌≡◌ {A = Progress × Entries} (p, b) (to, c) = cc in (ap (λ (s : Progress × Entries). s.0) e, ap (λ (s : Progress × Entries). Ok s.1) e)
then_past (Err f) p to c q = cc

-- past n bytes between a letter and its line's end
abbrev Past : Progress → ℕ → Progress → Type 0
Past at n to = (to.line ≡ at.line + 1) × (to.place ≡ at.place + n + 2)

kind_moves : (at : Progress) (b : Entries) (k : Option Kind) (fs : List ℕ) (to : Progress) (c : Entries) → read_kind at b k fs ≡ Ok (to, c) → Past at (length fs) to
kind_moves at b (Some JobLine) fs to c q = subst (Past at (length fs)) (then_past (read_job at.line b fs) (past_job at (length fs)) to c q).0 (refl, refl)
kind_moves at b (Some LinkLine) fs to c q = subst (Past at (length fs)) (then_past (read_link at.line b fs) (past_link at (length fs)) to c q).0 (refl, refl)
kind_moves at b (Some Trailer) fs to c q = subst (Past at (length fs)) (then_past (read_trailer at.line b (place_or at.stage at.place) fs) (past_trailer at (length fs)) to c q).0 (refl, refl)
kind_moves at b None fs to c q = cc

pub line_moves : (at : Progress) (b : Entries) (l : List ℕ) (to : Progress) (c : Entries) → Ok (to, c) ≡ read_line at b l → (to.line ≡ at.line + 1) × (to.place ≡ at.place + length l + 1)
line_moves at b [] to c q = cc
line_moves at b (x ∷ fs) to c q = let m = kind_moves at b (kind_of x at.stage) fs to c (sym q) in (m.0, omega arith)

pub line_done : (at : Progress) (b : Entries) (l : List ℕ) (to : Progress) (c : Entries) (ps qs : Parts) → qs ≡ next l ps → Ok (to, c) ≡ read_line at b l → read_lines to c ps ≡ read_lines at b qs
line_done at b l to c ps qs e q = rw (e, ← q)
