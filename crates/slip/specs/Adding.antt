-- What a sheet makes of jobs and links in their order: what it then holds, or its first refusal.
use Rattle.std.specs.Prelude.{◌≡◌, List, [], ◌∷◌, Ok, Err, Result}
use Rattle.sheet.specs.declared.records.Job.{Job}
use Rattle.sheet.specs.declared.records.Link.{Link}
use Rattle.sheet.specs.declared.refusal.Refusal.{Refusal}
use Rattle.sheet.specs.Entries.{Entries, no_entries, with_job, with_link}
use Rattle.sheet.specs.Entering.{enter_answer, link_answer}

abbrev pub then : {A B E : Type 0} → Result A E → (A → Result B E) → Result B E
then (Ok a) f = f a
then (Err e) f = Err e

-- x, where the answer is no refusal
abbrev pub unless_refused : {A X E : Type 0} → Result A E → X → Result X E
unless_refused (Ok a) x = Ok x
unless_refused (Err e) x = Err e

abbrev pub add_job : Entries → Job → Result Entries Refusal
add_job b j = unless_refused (enter_answer b j) (with_job b j)

abbrev pub add_link : Entries → Link → Result Entries Refusal
add_link b l = unless_refused (link_answer b l) (with_link b l)

-- one after another
abbrev pub add_all : {X : Type 0} → (Entries → X → Result Entries Refusal) → Entries → List X → Result Entries Refusal
add_all add b [] = Ok b
add_all add b (x ∷ xs) = then (add b x) (λ c. add_all add c xs)

-- an empty sheet takes all the jobs and then all the links
abbrev pub Enterable : Entries → Type 0
Enterable b = then (add_all add_job no_entries b.jobs) (λ c. add_all add_link c b.links) ≡ Ok b
