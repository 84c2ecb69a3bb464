-- Where the reader stands after good lines, before any trailer.
use Rattle.std.proofs.Common.{◌≡◌, ℕ, ◌+◌, false, ◌⊎◌, List, [], ◌∷◌, ◌++◌, length, sym, ap, ◌∙◌, inl, inr, ⊎_elim, arith}
use Rattle.std.proofs.lemmas.Bool.{both_ways}
use Rattle.std.proofs.lemmas.List.{append-nil, append_assoc, length-append, flat_map_more, length_push}
use Rattle.std.specs.List.{flat_map}
use Rattle.sheet.specs.declared.records.Job.{Job}
use Rattle.sheet.specs.declared.records.Link.{Link}
use Rattle.sheet.specs.Entries.{Entries, with_job, with_link}
use Rattle.sheet.specs.Sound.{Sound}
use Rattle.slip.specs.declared.kind.Stage.{Stage}
use Rattle.slip.specs.declared.kind.Stage.TheVariants.{Jobs, Links}
use Rattle.slip.specs.declared.line.Progress.{Progress}
use Rattle.text.specs.Bytes.{line_end}
use Rattle.slip.specs.Reading.{past_job, past_link, place_or, has_link, has_ended}
use Rattle.text.specs.Spaced.{spaced}
use Rattle.slip.specs.Texts.{job_fields, job_text, link_text, jobs_text, links_text}
use Rattle.slip.specs.Faulty.{lines_text, line_count}

-- no link line was read, and the reader is where the job lines end
abbrev pub Unlinked : Progress → Entries → Type 0
Unlinked at b = (at.stage ≡ Jobs) × (b.links ≡ []) × (at.place ≡ length (jobs_text b))

-- the first link line was where the job lines end
abbrev pub LinkedSince : Progress → Entries → Type 0
LinkedSince at b = (b.links ≡ [] → ⊥) × (at.stage ≡ Links (length (jobs_text b)))

pub record Stands (at : Progress) (b : Entries) : Type 0 where
  pub line_is : at.line ≡ line_count b + 1
  pub first_link : Unlinked at b ⊎ LinkedSince at b
  pub sound : Sound b

pub not_ended : (at : Progress) (b : Entries) → Stands at b → has_ended at.stage ≡ false
not_ended at b i = ⊎_elim (λ (x : Unlinked at b). ap has_ended x.0) (λ (x : LinkedSince at b). ap has_ended x.1) i.first_link

pub jobs_end : (at : Progress) (b : Entries) → Stands at b → place_or at.stage at.place ≡ length (jobs_text b)
jobs_end at b i =
    ⊎_elim (λ (x : Unlinked at b). ap (λ (s : Stage). place_or s at.place) x.0 ∙ x.2)
    (λ (x : LinkedSince at b). ap (λ (s : Stage). place_or s at.place) x.1)
    i.first_link

-- a job may come next exactly while there is no link
pub unlinked_by_mark : (at : Progress) (b : Entries) → Stands at b → has_link at.stage ≡ false → Unlinked at b
unlinked_by_mark at b i e =
    ⊎_elim (λ (x : Unlinked at b). x)
    (λ (x : LinkedSince at b). absurd (both_ways (has_link at.stage) e (ap has_link x.1)))
    i.first_link

pub unlinked_by_links : (at : Progress) (b : Entries) → Stands at b → b.links ≡ [] → Unlinked at b
unlinked_by_links at b i e = ⊎_elim (λ (x : Unlinked at b). x) (λ (x : LinkedSince at b). absurd (x.0 e)) i.first_link

joined_push : {X : Type 0} (f : X → List ℕ) (xs : List X) (x : X) → flat_map f (xs ++ (x ∷ [])) ≡ flat_map f xs ++ f x
joined_push f xs x = sym (flat_map_more f [] xs x)

-- past one more job line, and past one more link line
pub stands_job : (at : Progress) (b : Entries) (j : Job) (fs : List ℕ) → Stands at b → Unlinked at b → Sound (with_job b j) → fs ≡ spaced (job_fields j) → Stands (past_job at (length fs)) (with_job b j)
stands_job at b j fs i u s e =
    let n = length_push b.jobs j in
    let l = length-append (spaced (job_fields j)) (line_end ∷ []) in
    let k : length fs ≡ length (spaced (job_fields j)) = ap length e in
    let g : length (flat_map job_text (b.jobs ++ (j ∷ []))) ≡ length (jobs_text b) + length (job_text j) = ap length (joined_push job_text b.jobs j) ∙ length-append (jobs_text b) (job_text j) in
    let p = u.2 in
    record { line_is = omega arith; first_link = inl (u.0, u.1, omega arith); sound = s }

push_some : {X : Type 0} (xs : List X) (x : X) → xs ++ (x ∷ []) ≡ [] → ⊥
push_some xs x e = let a = length_push xs x in let b : length (xs ++ (x ∷ [])) ≡ 0 = ap length e in omega arith

pub stands_link : (at : Progress) (b : Entries) (l : Link) (n : ℕ) → Stands at b → Sound (with_link b l) → Stands (past_link at n) (with_link b l)
stands_link at b l n i s =
    let m = length_push b.links l in
    record { line_is = omega arith; first_link = inr (push_some b.links l, ap (λ (p : ℕ). Links p) (jobs_end at b i)); sound = s }

pub lines_text_job : (b : Entries) (j : Job) → b.links ≡ [] → lines_text b ++ job_text j ≡ lines_text (with_job b j)
lines_text_job b j n =
    let x : links_text b ≡ [] = ap (flat_map link_text) n in
    ap (λ (t : List ℕ). (jobs_text b ++ t) ++ job_text j) x ∙ ap (λ (t : List ℕ). t ++ job_text j) (append-nil (jobs_text b)) ∙ sym (joined_push job_text b.jobs j)
    ∙ sym (append-nil (flat_map job_text (b.jobs ++ (j ∷ [])))) ∙ ap (λ (t : List ℕ). flat_map job_text (b.jobs ++ (j ∷ [])) ++ t) (sym x)

pub lines_text_link : (b : Entries) (l : Link) → lines_text b ++ link_text l ≡ lines_text (with_link b l)
lines_text_link b l = append_assoc (jobs_text b) (links_text b) (link_text l) ∙ ap (λ (t : List ℕ). jobs_text b ++ t) (sym (joined_push link_text b.links l))
