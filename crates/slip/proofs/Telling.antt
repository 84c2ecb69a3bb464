-- What the text of a slip has is what the reader tells: its jobs and links, or its first fault.
use Rattle.std.proofs.Common.{◌≡◌, ℕ, ◌+◌, ◌<◌, ◌≤◌, Bool, true, false, cond, ◌&&◌, eqb, List, [], ◌∷◌, ◌++◌, length, Ok, Err, Option, Result, sym, refl, ap, ◌∙◌, subst, ⊎_elim, arith}
use Rattle.std.proofs.lemmas.Bool.{ne_eqb}
use Rattle.std.proofs.lemmas.List.{append-nil, append_assoc, length-append, nil_from_length}
use Rattle.std.specs.List.{flat_map}
use Rattle.sheet.specs.declared.refusal.Refusal.{Refusal}
use Rattle.sheet.specs.Entries.{Entries, no_entries, with_job, with_link}
use Rattle.sheet.specs.Entering.{enter_answer, link_answer}
use Rattle.slip.specs.declared.fault.Fault.{Fault}
use Rattle.slip.specs.declared.fault.Fault.TheVariants.{TooLong, Unfinished, BadLetter, BadFields, UntrueTrailer, Refused}
use Rattle.slip.specs.declared.kind.Kind.{Kind}
use Rattle.slip.specs.declared.line.Progress.{Progress}
use Rattle.text.specs.Bytes.{line_end}
use Rattle.slip.specs.Format.{longest_slip, letter_J, letter_L, letter_E}
use Rattle.text.specs.Splitting.{split, Without}
use Rattle.slip.specs.Adding.{then, add_job, add_link, add_all, Enterable}
use Rattle.slip.specs.Reading.{start, has_ended, past_job, past_link, past_trailer, read_kind, read_line, read_lines}
use Rattle.text.specs.Spaced.{spaced}
use Rattle.slip.specs.Texts.{line_text, job_fields, link_fields, jobs_text, links_text, trailer_fields, text}
use Rattle.slip.specs.Faulty.{lines_text, line_count, FiveDigits, IllWritten, HasBadLetter, HasBadFields, IsUntrue, JobIsRefused, LinkIsRefused, LineHas, RunsOut, LineAtFault, BytesLeftOver, LineAfterTrailer, FirstFault}
use Rattle.sheet.proofs.Accepting.{enter_sound, link_sound}
use Rattle.slip.proofs.Results.{then_ok, unless_refused_ok}
use Rattle.text.proofs.Splits.{split_next, split_last}
use Rattle.slip.proofs.Spelling.{fields_spaced, none_from_ill, split_line}
use Rattle.slip.proofs.Entered.{last_entered, last_linked}
use Rattle.slip.proofs.Standing.{Stands, not_ended, jobs_end, unlinked_by_mark, unlinked_by_links, stands_job, stands_link}
use Rattle.slip.proofs.Cases.{kind_none, figures_true, figures_false}
use Rattle.slip.proofs.Walk.{lines_and_trailer, stands_at_start}

-- reading goes on from where a text has led it
abbrev Leads : Progress → Entries → List ℕ → List ℕ → Progress → Entries → Type 0
Leads at b front rest to c = read_lines at b (split line_end (front ++ rest)) ≡ read_lines to c (split line_end rest)

one_line : (at : Progress) (b : Entries) (x : ℕ) (ns rest : List ℕ) (to : Progress) (c : Entries) → (x ≡ line_end → ⊥) → FiveDigits ns → read_line at b (x ∷ spaced ns) ≡ Ok (to, c) → Leads at b (line_text x ns) rest to c
one_line at b x ns rest to c h s q =
    ap (read_lines at b) (split_line x ns rest h s) ∙ ap (λ (u : Result (Progress × Entries) Fault). then u (λ a. read_lines a.0 a.1 (split line_end rest))) q

-- one entry more is read from its line, where G holds before and after
abbrev OneMore : {X : Type 0} → (Entries → X → Result Entries Refusal) → ℕ → (X → List ℕ) → (Entries → Type 0) → Type 0
OneMore {X} add letter fields_of G = (at : Progress) (b : Entries) (x : X) (c : Entries) → Stands at b → G b → add b x ≡ Ok c
    → (to : Progress) × Stands to c × G c × FiveDigits (fields_of x) × (read_line at b (letter ∷ spaced (fields_of x)) ≡ Ok (to, c))

all_lines : {X : Type 0} (add : Entries → X → Result Entries Refusal) (letter : ℕ) (fields_of : X → List ℕ) (G : Entries → Type 0) → (letter ≡ line_end → ⊥) → OneMore add letter fields_of G
    → (xs : List X) (at : Progress) (b c : Entries) (rest : List ℕ) → Stands at b → G b → add_all add b xs ≡ Ok c
    → (to : Progress) × Stands to c × Leads at b (flat_map (λ x. line_text letter (fields_of x)) xs) rest to c
all_lines add letter fields_of G h one [] at b c rest i g q = let e : b ≡ c = cc in (at, subst (Stands at) e i, ap (λ (x : Entries). read_lines at x (split line_end rest)) e)
all_lines add letter fields_of G h one (x ∷ xs) at b c rest i g q =
    let t = then_ok (add b x) (λ d. add_all add d xs) c q in
    let o = one at b x t.0 i g t.1 in
    let r = all_lines add letter fields_of G h one xs o.0 t.0 c rest o.1 o.2 t.2 in
    let others = flat_map (λ y. line_text letter (fields_of y)) xs in (
      r.0,
      r.1,
      ap (λ (u : List ℕ). read_lines at b (split line_end u)) (append_assoc (line_text letter (fields_of x)) others rest)
          ∙ one_line at b letter (fields_of x) (others ++ rest) o.0 t.0 h o.3 o.4 ∙ r.2,
    )

one_job : OneMore add_job letter_J job_fields (λ b. b.links ≡ [])
one_job at b j c i n q =
    let a = unless_refused_ok (enter_answer b j) (with_job b j) c q in
    let g = enter_sound b j a.0 i.sound a.1 in
    let d = last_entered b j g in
    let u = unlinked_by_links at b i n in
    let s : FiveDigits (job_fields j) = (omega arith, (omega arith, (omega arith, (omega arith, tt)))) in
    let lk = u.0 in let f = fields_spaced 4 (job_fields j) refl (omega arith) s in (
      past_job at (length (spaced (job_fields j))),
      subst (Stands (past_job at (length (spaced (job_fields j))))) a.2 (stands_job at b j (spaced (job_fields j)) i u g refl),
      subst (λ (x : Entries). x.links ≡ []) a.2 n,
      s,
      rw (lk, f, q),
    )

one_link : OneMore add_link letter_L link_fields (λ _. Unit {0})
one_link at b l c i n q =
    let a = unless_refused_ok (link_answer b l) (with_link b l) c q in
    let g = link_sound b l i.sound a.1 in
    let d = last_linked b l g in
    let k = i.sound.few_jobs in
    let s : FiveDigits (link_fields l) = (omega arith, (omega arith, (omega arith, tt))) in
    let en = not_ended at b i in let f = fields_spaced 3 (link_fields l) refl (omega arith) s in (
      past_link at (length (spaced (link_fields l))),
      subst (Stands (past_link at (length (spaced (link_fields l))))) a.2 (stands_link at b l (length (spaced (link_fields l))) i g),
      tt,
      s,
      rw (en, f, q),
    )

-- the lines of b lead to where the reader stands after them
to_lines : (b : Entries) (rest : List ℕ) → Enterable b → (to : Progress) × Stands to b × Leads start no_entries (lines_text b) rest to b
to_lines b rest t =
    let w = then_ok (add_all add_job no_entries b.jobs) (λ d. add_all add_link d b.links) b t in
    let r = all_lines add_job letter_J job_fields (λ b. b.links ≡ []) (λ e. absurd (omega arith)) one_job b.jobs start no_entries w.0 (links_text b ++ rest) stands_at_start refl w.1 in
    let s = all_lines add_link letter_L link_fields (λ _. Unit {0}) (λ e. absurd (omega arith)) one_link b.links r.0 w.0 b rest r.1 tt w.2 in
    (s.0, s.1, ap (λ (u : List ℕ). read_lines start no_entries (split line_end u)) (append_assoc (jobs_text b) (links_text b) rest) ∙ r.2 ∙ s.2)

-- and the trailer, to where it has ended
to_trailer : (b : Entries) (rest : List ℕ) → Enterable b → length (jobs_text b) < 100000
    → (to : Progress) × (has_ended to.stage ≡ true) × (to.line ≡ line_count b + 2) × Leads start no_entries (text b) rest to b
to_trailer b rest t h =
    let ns = trailer_fields b in
    let r = to_lines b (line_text letter_E ns ++ rest) t in
    let i = r.1 in
    let s : FiveDigits ns = (omega arith, (omega arith, (h, tt))) in
    let en = not_ended r.0 b i in let f = fields_spaced 3 ns refl (omega arith) s in let p = jobs_end r.0 b i in let g = figures_true b in
    let q : read_line r.0 b (letter_E ∷ spaced ns) ≡ Ok (past_trailer r.0 (length (spaced ns)), b) = rw (en, f, p, g) in (
      past_trailer r.0 (length (spaced ns)),
      refl,
      omega arith,
      ap (λ (u : List ℕ). read_lines start no_entries (split line_end u)) (ap (λ (u : List ℕ). u ++ rest) (sym (lines_and_trailer b)) ∙ append_assoc (lines_text b) (line_text letter_E ns) rest)
          ∙ r.2 ∙ one_line r.0 b letter_E ns rest (past_trailer r.0 (length (spaced ns))) b (λ e. absurd (omega arith)) s q,
    )

-- a line at fault, after the lines of b
module _ (at : Progress) (b : Entries) (i : Stands at b) where
  abbrev Tells : List ℕ → Fault → Type 0
  Tells line f = read_line at b line ≡ Err f

  tell_letter : (line : List ℕ) → HasBadLetter b line → Tells line (BadLetter at.line)
  tell_letter [] w = refl
  tell_letter (c ∷ fs) w =
      ap (λ (o : Option Kind). read_kind at b o fs) (kind_none c at.stage (not_ended at b i) (λ e f. w.0 e (unlinked_by_mark at b i f).1, w.1, w.2))

  tell_ill_job : (fs : List ℕ) → b.links ≡ [] → IllWritten 4 fs → Tells (letter_J ∷ fs) (BadFields at.line)
  tell_ill_job fs n w = let lk = (unlinked_by_links at b i n).0 in let f = none_from_ill 4 fs w in rw (lk, f)

  tell_ill_link : (fs : List ℕ) → IllWritten 3 fs → Tells (letter_L ∷ fs) (BadFields at.line)
  tell_ill_link fs w = let en = not_ended at b i in let f = none_from_ill 3 fs w in rw (en, f)

  tell_ill_trailer : (fs : List ℕ) → IllWritten 3 fs → Tells (letter_E ∷ fs) (BadFields at.line)
  tell_ill_trailer fs w = let en = not_ended at b i in let f = none_from_ill 3 fs w in rw (en, f)

  tell_fields : (line : List ℕ) → HasBadFields b line → Tells line (BadFields at.line)
  tell_fields [] w = absurd w
  tell_fields (c ∷ fs) w =
      ⊎_elim
      (λ (x : (c ≡ letter_J) × (b.links ≡ []) × IllWritten 4 fs). subst (λ (y : ℕ). Tells (y ∷ fs) (BadFields at.line)) (sym x.0) (tell_ill_job fs x.1 x.2))
      (λ x. ⊎_elim
      (λ (e : c ≡ letter_L). subst (λ (y : ℕ). Tells (y ∷ fs) (BadFields at.line)) (sym e) (tell_ill_link fs x.1))
      (λ (e : c ≡ letter_E). subst (λ (y : ℕ). Tells (y ∷ fs) (BadFields at.line)) (sym e) (tell_ill_trailer fs x.1))
      x.0)
      w

  tell_untrue : (line : List ℕ) → IsUntrue b line → Tells line (UntrueTrailer at.line)
  tell_untrue line w =
      let ns = w.0 in
      let en = not_ended at b i in let f = fields_spaced 3 ns w.1 (omega arith) w.2 in let p = jobs_end at b i in let g = figures_false b ns w.1 w.4 in
      ap (read_line at b) w.3 ∙ rw (en, f, p, g)

  tell_refused_job : (line : List ℕ) (r : Refusal) → JobIsRefused b line r → Tells line (Refused at.line r)
  tell_refused_job line r w =
      let lk = (unlinked_by_links at b i w.3).0 in let f = fields_spaced 4 (job_fields w.0) refl (omega arith) w.2 in let a = w.4 in
      ap (read_line at b) w.1 ∙ rw (lk, f, a)

  tell_refused_link : (line : List ℕ) (r : Refusal) → LinkIsRefused b line r → Tells line (Refused at.line r)
  tell_refused_link line r w =
      let en = not_ended at b i in let f = fields_spaced 3 (link_fields w.0) refl (omega arith) w.2 in let a = w.3 in
      ap (read_line at b) w.1 ∙ rw (en, f, a)

  tell_line : (f : Fault) (line : List ℕ) → LineHas b line (line_count b + 1) f → Tells line f
  tell_line TooLong line w = absurd w
  tell_line (Unfinished m) line w = absurd w
  tell_line (BadLetter m) line w = tell_letter line w.1 ∙ ap (λ (n : ℕ). Err (BadLetter n)) (i.line_is ∙ sym w.0)
  tell_line (BadFields m) line w = tell_fields line w.1 ∙ ap (λ (n : ℕ). Err (BadFields n)) (i.line_is ∙ sym w.0)
  tell_line (UntrueTrailer m) line w = tell_untrue line w.1 ∙ ap (λ (n : ℕ). Err (UntrueTrailer n)) (i.line_is ∙ sym w.0)
  tell_line (Refused m r) line w =
      ⊎_elim (λ (x : JobIsRefused b line r). tell_refused_job line r x) (λ (x : LinkIsRefused b line r). tell_refused_link line r x) w.1
      ∙ ap (λ (n : ℕ). Err (Refused n r)) (i.line_is ∙ sym w.0)

-- where a text has led the reader, the next line tells its fault, and so do bytes that no line ends
next_line_tells : (front : List ℕ) (to : Progress) (b : Entries) (line rest : List ℕ) (f : Fault) → Leads start no_entries front (line ++ (line_end ∷ rest)) to b → Without line_end line → read_line to b line ≡ Err f
    → read_lines start no_entries (split line_end (front ++ (line ++ (line_end ∷ rest)))) ≡ Err f
next_line_tells front to b line rest f r w q =
    r ∙ ap (read_lines to b) (split_next line_end line rest w) ∙ ap (λ (u : Result (Progress × Entries) Fault). then u (λ s. read_lines s.0 s.1 (split line_end rest))) q

left_tells : (front : List ℕ) (to : Progress) (b : Entries) (left : List ℕ) → Leads start no_entries front left to b → Without line_end left → (has_ended to.stage && eqb (length left) 0) ≡ false
    → read_lines start no_entries (split line_end (front ++ left)) ≡ Err (Unfinished to.line)
left_tells front to b left r w q = r ∙ ap (read_lines to b) (split_last line_end left w) ∙ ap (λ (v : Bool). cond v (Ok b) (Err (Unfinished to.line))) q

tell_after_trailer : (at : Progress) (b : Entries) (line : List ℕ) → has_ended at.stage ≡ true → read_line at b line ≡ Err (BadLetter at.line)
tell_after_trailer at b [] en = refl
tell_after_trailer at b (c ∷ fs) en = rw en

jobs_within : (bytes : List ℕ) (b : Entries) (x : List ℕ) → bytes ≡ text b ++ x → length bytes ≤ longest_slip → length (jobs_text b) < 100000
jobs_within bytes b x e h =
    let a = length-append (jobs_text b) (links_text b ++ line_text letter_E (trailer_fields b)) in
    let c : length bytes ≡ length (text b) + length x = ap length e ∙ length-append (text b) x in
    omega arith

-- the four ways to a first fault
module _ (bytes : List ℕ) (f : Fault) (b : Entries) (t : Enterable b) where
  abbrev IsTold : Type 0
  IsTold = read_lines start no_entries (split line_end bytes) ≡ Err f

  tells_of : (front : List ℕ) (g : Fault) → bytes ≡ front → g ≡ f → read_lines start no_entries (split line_end front) ≡ Err g → IsTold
  tells_of front g e q r = ap (λ (u : List ℕ). read_lines start no_entries (split line_end u)) e ∙ r ∙ ap (λ (x : Fault). Err x) q

  tell_runs_out : RunsOut bytes b f → IsTold
  tell_runs_out x =
      let r = to_lines b x.0 t in
      let en = not_ended r.0 b r.1 in
      tells_of (lines_text b ++ x.0) (Unfinished r.0.line) x.1 (ap (λ (m : ℕ). Unfinished m) r.1.line_is ∙ sym x.3) (left_tells (lines_text b) r.0 b x.0 r.2 x.2 (rw en))

  tell_line_at_fault : LineAtFault bytes b f → IsTold
  tell_line_at_fault x =
      let r = to_lines b (x.0 ++ (line_end ∷ x.1)) t in
      tells_of (lines_text b ++ (x.0 ++ (line_end ∷ x.1))) f x.2 refl (next_line_tells (lines_text b) r.0 b x.0 x.1 f r.2 x.3 (tell_line r.0 b r.1 f x.0 x.4))

  tell_left_over : length bytes ≤ longest_slip → BytesLeftOver bytes b f → IsTold
  tell_left_over h x =
      let r = to_trailer b x.0 t (jobs_within bytes b x.0 x.1 h) in
      let en = r.1 in
      let n : eqb (length x.0) 0 ≡ false = ne_eqb (length x.0) 0 (λ q. x.2 (nil_from_length x.0 q)) in
      tells_of (text b ++ x.0) (Unfinished r.0.line) x.1 (ap (λ (m : ℕ). Unfinished m) r.2 ∙ sym x.4) (left_tells (text b) r.0 b x.0 r.3 x.3 (rw (en, n)))

  tell_line_after_trailer : length bytes ≤ longest_slip → LineAfterTrailer bytes b f → IsTold
  tell_line_after_trailer h x =
      let r = to_trailer b (x.0 ++ (line_end ∷ x.1)) t (jobs_within bytes b (x.0 ++ (line_end ∷ x.1)) x.2 h) in
      tells_of (text b ++ (x.0 ++ (line_end ∷ x.1))) (BadLetter r.0.line) x.2 (ap (λ (m : ℕ). BadLetter m) r.2 ∙ sym x.4) (next_line_tells (text b) r.0 b x.0 x.1 (BadLetter r.0.line) r.3 x.3 (tell_after_trailer r.0 b x.0 r.1))

pub tell_first_fault : (bytes : List ℕ) (f : Fault) → length bytes ≤ longest_slip → FirstFault bytes f → read_lines start no_entries (split line_end bytes) ≡ Err f
tell_first_fault bytes f h s =
    let b = s.0 in
    let t = s.1 in
    ⊎_elim (λ (x : RunsOut bytes b f). tell_runs_out bytes f b t x)
    (λ y. ⊎_elim (λ (x : LineAtFault bytes b f). tell_line_at_fault bytes f b t x)
    (λ z. ⊎_elim (λ (x : BytesLeftOver bytes b f). tell_left_over bytes f b t h x) (λ (x : LineAfterTrailer bytes b f). tell_line_after_trailer bytes f b t h x) z) y)
    s.2

pub read_text : (b : Entries) → Enterable b → length (text b) ≤ longest_slip → read_lines start no_entries (split line_end (text b)) ≡ Ok b
read_text b t h =
    let e : text b ≡ text b ++ [] = sym (append-nil (text b)) in
    let r = to_trailer b [] t (jobs_within (text b) b [] e h) in
    ap (λ (u : List ℕ). read_lines start no_entries (split line_end u)) e ∙ r.3 ∙ ap (λ (v : Bool). cond (v && eqb 0 0) (Ok b) (Err (Unfinished r.0.line))) r.1
