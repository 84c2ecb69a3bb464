-- What comes of the bytes, read from the top: they are the slip of what was read, or have the fault that is told.
use Rattle.std.proofs.Common.{◌≡◌, ℕ, ◌+◌, true, cond, eqb, List, [], ◌∷◌, ◌++◌, length, Some, Ok, Err, Option, Result, sym, refl, ap, ◌∙◌, subst, inl, inr, arith}
use Rattle.std.proofs.lemmas.Bool.{cond_both, both_ways, eqb-false, eqb-true}
use Rattle.std.proofs.lemmas.List.{append-nil, append_assoc, nil_from_length}
use Rattle.sheet.specs.Entries.{Entries, no_entries, with_job, with_link}
use Rattle.sheet.specs.Entering.{enter_answer, link_answer}
use Rattle.slip.specs.declared.fault.Fault.{Fault}
use Rattle.slip.specs.declared.fault.Fault.TheVariants.{Unfinished, BadLetter, UntrueTrailer}
use Rattle.slip.specs.declared.kind.Kind.{Kind}
use Rattle.slip.specs.declared.kind.Kind.TheVariants.{JobLine, LinkLine, Trailer}
use Rattle.slip.specs.declared.line.Progress.{Progress}
use Rattle.text.specs.Bytes.{line_end}
use Rattle.slip.specs.Format.{letter_J, letter_L, letter_E}
use Rattle.text.specs.Splitting.{Parts, last, next, split, Without}
use Rattle.slip.specs.Adding.{then, unless_refused, add_job, add_link, Enterable}
use Rattle.slip.specs.Reading.{job_from, link_from, place_or, has_link, has_ended, start, past_job, past_link, past_trailer, or_refused, true_figures, read_kind, read_lines}
use Rattle.text.specs.Spaced.{spaced}
use Rattle.slip.specs.Texts.{line_text, job_fields, link_fields, jobs_text, links_text, trailer_fields, text}
use Rattle.slip.specs.Faulty.{lines_text, line_count, FiveDigits, LineHas, FirstFault}
use Rattle.sheet.proofs.Accepting.{none_sound, enter_sound, link_sound}
use Rattle.text.proofs.Splits.{rejoined, rejoined_split, AllWithout, split_without}
use Rattle.text.proofs.Spacing.{by_places}
use Rattle.slip.proofs.Entered.{enterable_job, enterable_link}
use Rattle.slip.proofs.Standing.{Unlinked, Stands, not_ended, jobs_end, unlinked_by_mark, unlinked_by_links, stands_job, stands_link, lines_text_job, lines_text_link}
use Rattle.slip.proofs.Cases.{kind_cases, fields_cases, figures_true, figures_are}

abbrev pub ComesTo : List ℕ → Result Entries Fault → Type 0
ComesTo bytes (Ok c) = (bytes ≡ text c) × Enterable c
ComesTo bytes (Err f) = FirstFault bytes f

-- with one more line spelled out
one_line_on : (bytes before fs ns rest after : List ℕ) (x y : ℕ) → bytes ≡ before ++ ((x ∷ fs) ++ (line_end ∷ rest)) → x ≡ y → fs ≡ spaced ns → before ++ line_text y ns ≡ after → bytes ≡ after ++ rest
one_line_on bytes before fs ns rest after x y e f h k =
    e ∙ ap (λ (t : List ℕ). before ++ t) (rw (f, h) (sym (ap (λ (t : List ℕ). y ∷ t) (append_assoc (spaced ns) (line_end ∷ []) rest)))) ∙ sym (append_assoc before (line_text y ns) rest) ∙ ap (λ (t : List ℕ). t ++ rest) k

pub lines_and_trailer : (b : Entries) → lines_text b ++ line_text letter_E (trailer_fields b) ≡ text b
lines_and_trailer b = append_assoc (jobs_text b) (links_text b) (line_text letter_E (trailer_fields b))

-- after the trailer
after_trailer : (ps : Parts) (at : Progress) (b : Entries) (bytes : List ℕ) → has_ended at.stage ≡ true → at.line ≡ line_count b + 2 → Enterable b → AllWithout line_end ps → bytes ≡ text b ++ rejoined line_end ps → ComesTo bytes (read_lines at b ps)
after_trailer (last left) at b bytes en l t w e =
    rw en (cond_both (eqb (length left) 0) (Ok b) (Err (Unfinished at.line)) (ComesTo bytes)
    (λ z. (e ∙ ap (λ (x : List ℕ). text b ++ x) (nil_from_length left (eqb-true (length left) 0 z)) ∙ append-nil (text b), t))
    (λ z. (b, t, inr (inr (inl (left, e, λ n. eqb-false (length left) 0 z (ap length n), w, ap (λ (m : ℕ). Unfinished m) l))))))
after_trailer (next [] ps) at b bytes en l t w e = (b, t, inr (inr (inr ([], rejoined line_end ps, e, tt, ap (λ (m : ℕ). BadLetter m) l))))
after_trailer (next (x ∷ fs) ps) at b bytes en l t w e =
    rw en (b, t, inr (inr (inr (x ∷ fs, rejoined line_end ps, e, w.0, ap (λ (m : ℕ). BadLetter m) l))))

-- the lines that are left, from anywhere before the trailer
abbrev Walks : Parts → List ℕ → Type 0
Walks ps bytes = (at : Progress) (b : Entries) → Stands at b → Enterable b → bytes ≡ lines_text b ++ rejoined line_end ps → ComesTo bytes (read_lines at b ps)

module _ (bytes : List ℕ) (ps : Parts) (at : Progress) (b : Entries) (i : Stands at b) (t : Enterable b) (fs : List ℕ) where
  -- the line of that letter, and the lines after it
  abbrev Line : ℕ → Type 0
  Line x = (bytes ≡ lines_text b ++ ((x ∷ fs) ++ (line_end ∷ rejoined line_end ps))) × Without line_end (x ∷ fs)

  abbrev Read : Option Kind → Type 0
  Read k = ComesTo bytes (then (read_kind at b k fs) (λ s. read_lines s.0 s.1 ps))

  -- what comes of the line by what it makes of the sheet
  abbrev GoesOn : Progress → Result Entries Fault → Type 0
  GoesOn to v = ComesTo bytes (then (then {B = Progress × Entries} v (λ c. Ok (to, c))) (λ s. read_lines s.0 s.1 ps))

  fault : (x : ℕ) (f : Fault) → Line x → LineHas b (x ∷ fs) (line_count b + 1) f → FirstFault bytes f
  fault x f e w = (b, t, inr (inl (x ∷ fs, rejoined line_end ps, e.0, e.1, w)))

  walk_job : (x : ℕ) → Line x → x ≡ letter_J → Unlinked at b → Walks ps bytes → Read (Some JobLine)
  walk_job x e f u go =
      fields_cases 4 at.line fs (λ ns. or_refused at.line (add_job b (job_from ns))) (GoesOn (past_job at (length fs))) (omega arith)
      (λ ill. fault x _ e (i.line_is, inl (f, u.1, ill)))
      (λ ns s.
      let j = job_from ns in
      let q : ns ≡ job_fields j = by_places 4 ns s.1 in
      let h : fs ≡ spaced (job_fields j) = s.0 ∙ ap spaced q in
      elim (enter_answer b j) as (λ v. enter_answer b j ≡ v → GoesOn (past_job at (length fs)) (or_refused at.line (unless_refused v (with_job b j)))) [
        | Ok k ↦ λ a. go (past_job at (length fs)) (with_job b j) (stands_job at b j fs i u (enter_sound b j k i.sound a) h)
            (enterable_job b j (with_job b j) u.1 t (ap (λ (r : Result ℕ _). unless_refused r (with_job b j)) a))
            (one_line_on bytes (lines_text b) fs (job_fields j) (rejoined line_end ps) (lines_text (with_job b j)) x letter_J e.0 f h (lines_text_job b j u.1))
        | Err d ↦ λ a. fault x _ e (i.line_is, inl (j, rw (f, h), subst FiveDigits q s.2, u.1, a))
      ] refl)

  walk_link : (x : ℕ) → Line x → x ≡ letter_L → Walks ps bytes → Read (Some LinkLine)
  walk_link x e f go =
      fields_cases 3 at.line fs (λ ns. or_refused at.line (add_link b (link_from ns))) (GoesOn (past_link at (length fs))) (omega arith)
      (λ ill. fault x _ e (i.line_is, inr (inl f, ill)))
      (λ ns s.
      let l = link_from ns in
      let q : ns ≡ link_fields l = by_places 3 ns s.1 in
      let h : fs ≡ spaced (link_fields l) = s.0 ∙ ap spaced q in
      elim (link_answer b l) as (λ v. link_answer b l ≡ v → GoesOn (past_link at (length fs)) (or_refused at.line (unless_refused v (with_link b l)))) [
        | Ok k ↦ λ a. go (past_link at (length fs)) (with_link b l) (stands_link at b l (length fs) i (link_sound b l i.sound a))
            (enterable_link b l (with_link b l) t (ap (λ (r : Result (Unit {0}) _). unless_refused r (with_link b l)) a))
            (one_line_on bytes (lines_text b) fs (link_fields l) (rejoined line_end ps) (lines_text (with_link b l)) x letter_L e.0 f h (lines_text_link b l))
        | Err d ↦ λ a. fault x _ e (i.line_is, inr (l, rw (f, h), subst FiveDigits q s.2, a))
      ] refl)

  walk_trailer : (x : ℕ) → Line x → x ≡ letter_E → AllWithout line_end ps → Read (Some Trailer)
  walk_trailer x e f w =
      fields_cases 3 at.line fs (λ ns. cond (true_figures b (place_or at.stage at.place) ns) (Ok b) (Err (UntrueTrailer at.line))) (GoesOn (past_trailer at (length fs))) (omega arith)
      (λ ill. fault x _ e (i.line_is, inr (inr f, ill)))
      (λ ns s. rw (jobs_end at b i)
      (cond_both (true_figures b (length (jobs_text b)) ns) (Ok b) (Err (UntrueTrailer at.line)) (GoesOn (past_trailer at (length fs)))
      (λ v. let l = i.line_is in
      after_trailer ps (past_trailer at (length fs)) b bytes refl (omega arith) t w
      (one_line_on bytes (lines_text b) fs (trailer_fields b) (rejoined line_end ps) (text b) x letter_E e.0 f (s.0 ∙ ap spaced (figures_are b ns s.1 v)) (lines_and_trailer b)))
      (λ v. fault x _ e (i.line_is, (ns, s.1, s.2, rw (f, s.0), λ q. both_ways (true_figures b (length (jobs_text b)) ns) v (ap (true_figures b (length (jobs_text b))) q ∙ figures_true b))))))

walk : (ps : Parts) (bytes : List ℕ) → AllWithout line_end ps → Walks ps bytes
walk (last left) bytes w at b i t e =
    let en = not_ended at b i in
    rw en (b, t, inl (left, e, w, ap (λ (m : ℕ). Unfinished m) i.line_is))
walk (next [] ps) bytes w at b i t e = (b, t, inr (inl ([], rejoined line_end ps, e, tt, (i.line_is, tt))))
walk (next (x ∷ fs) ps) bytes w at b i t e =
    kind_cases x at.stage (Read bytes ps at b i t fs) (not_ended at b i)
    (λ f g. walk_job bytes ps at b i t fs x (e, w.0) f (unlinked_by_mark at b i g) (walk ps bytes w.1))
    (λ f. walk_link bytes ps at b i t fs x (e, w.0) f (walk ps bytes w.1))
    (λ f. walk_trailer bytes ps at b i t fs x (e, w.0) f w.1)
    (λ n. fault bytes ps at b i t fs x _ (e, w.0) (i.line_is, (λ f z. n.0 f (ap has_link (unlinked_by_links at b i z).0), n.1, n.2)))

-- the reader starts after no lines
pub stands_at_start : Stands start no_entries
stands_at_start = record { line_is = refl; first_link = inl (refl, refl, refl); sound = none_sound }

pub read_lines_comes_to : (bytes : List ℕ) → ComesTo bytes (read_lines start no_entries (split line_end bytes))
read_lines_comes_to bytes = walk (split line_end bytes) bytes (split_without line_end bytes) start no_entries stands_at_start refl (sym (rejoined_split line_end bytes))
