-- The text of a slip: which bytes tell these jobs and links.
use Rattle.std.specs.Prelude.{◌≡◌, ℕ, ◌≤◌, List, [], ◌∷◌, ◌++◌, length}
use Rattle.std.specs.List.{flat_map}
use Rattle.sheet.specs.declared.records.Job.{Job}
use Rattle.sheet.specs.declared.records.Link.{Link}
use Rattle.sheet.specs.Entries.{Entries}
use Rattle.text.specs.Bytes.{line_end}
use Rattle.text.specs.Spaced.{spaced}
use Rattle.slip.specs.Format.{longest_slip, letter_J, letter_L, letter_E}
use Rattle.slip.specs.Adding.{Enterable}

abbrev pub line_text : ℕ → List ℕ → List ℕ
line_text letter ns = letter ∷ (spaced ns ++ (line_end ∷ []))

abbrev pub job_fields : Job → List ℕ
job_fields j = j.station ∷ (j.duration ∷ (j.release ∷ (j.due ∷ [])))

abbrev pub link_fields : Link → List ℕ
link_fields l = l.from ∷ (l.to ∷ (l.wait ∷ []))

abbrev pub job_text : Job → List ℕ
job_text j = line_text letter_J (job_fields j)

abbrev pub link_text : Link → List ℕ
link_text l = line_text letter_L (link_fields l)

-- the job lines and the link lines
abbrev pub jobs_text : Entries → List ℕ
jobs_text b = flat_map job_text b.jobs

abbrev pub links_text : Entries → List ℕ
links_text b = flat_map link_text b.links

-- the true trailer: the counts, and the place of the first link line or else of the trailer, which is where the job lines end
abbrev pub trailer_fields : Entries → List ℕ
trailer_fields b = length b.jobs ∷ (length b.links ∷ (length (jobs_text b) ∷ []))

abbrev pub text : Entries → List ℕ
text b = jobs_text b ++ (links_text b ++ line_text letter_E (trailer_fields b))

-- the bytes are the slip of these jobs and links, and an empty sheet takes them
abbrev pub SlipOf : List ℕ → Entries → Type 0
SlipOf bytes b = (bytes ≡ text b) × Enterable b × (length bytes ≤ longest_slip)
