-- What a sheet has taken, last and in order.
use Rattle.std.proofs.Common.{◌≡◌, List, [], ◌∷◌, ◌++◌, length, Ok, Result, sym, refl, ap, ◌∙◌, subst, arith}
use Rattle.std.proofs.lemmas.List.{get_or_push, length_push}
use Rattle.sheet.specs.declared.records.Job.{Job}
use Rattle.sheet.specs.declared.records.Link.{Link}
use Rattle.sheet.specs.declared.refusal.Refusal.{Refusal}
use Rattle.sheet.specs.Entries.{Entries, no_entries, job_of, link_of, with_job, with_link}
use Rattle.sheet.specs.Sound.{Sound, Entered, Linked}
use Rattle.sheet.specs.Entering.{enter_answer, link_answer}
use Rattle.slip.specs.Adding.{then, add_job, add_link, add_all, Enterable}
use Rattle.slip.proofs.Results.{then_ok, then_same, then_then, then_ok_itself, unless_refused_ok}

-- the last job and the last link of a sound sheet
pub last_entered : (b : Entries) (j : Job) → Sound (with_job b j) → Entered j
last_entered b j s = subst Entered (get_or_push b.jobs j (job_of 0 0 0 0) (length b.jobs) refl) (s.entered (length b.jobs) (omega (arith, length_push b.jobs j)))

pub last_linked : (b : Entries) (l : Link) → Sound (with_link b l) → Linked (length b.jobs) l
last_linked b l s = subst (Linked (length b.jobs)) (get_or_push b.links l (link_of 0 0 0) (length b.links) refl) (s.linked (length b.links) (omega (arith, length_push b.links l)))

-- one more at the end
add_all_push : {X : Type 0} (add : Entries → X → Result Entries Refusal) (xs : List X) (b : Entries) (x : X) → add_all add b (xs ++ (x ∷ [])) ≡ then (add_all add b xs) (λ c. add c x)
add_all_push add [] b x = then_ok_itself (add b x)
add_all_push add (y ∷ ys) b x = then_same (add b y) _ _ (λ c. add_all_push add ys c x) ∙ sym (then_then (add b y) (λ c. add_all add c ys) (λ c. add c x))

-- a job more, where there is no link
job_after_jobs : (b : Entries) (j : Job) (c : Entries) (ls : List Link) → ls ≡ [] → then (add_all add_job no_entries b.jobs) (λ d. add_all add_link d ls) ≡ Ok b → add_job b j ≡ Ok c → then (add_all add_job no_entries (b.jobs ++ (j ∷ []))) (λ d. add_all add_link d ls) ≡ Ok c
job_after_jobs b j c ls n t q =
    let t' : then (add_all add_job no_entries b.jobs) (λ d. Ok d) ≡ Ok b = rw n at t in
    let s : add_all add_job no_entries b.jobs ≡ Ok b = sym (then_ok_itself (add_all add_job no_entries b.jobs)) ∙ t' in
    rw n (then_ok_itself (add_all add_job no_entries (b.jobs ++ (j ∷ []))) ∙ add_all_push add_job b.jobs no_entries j ∙ ap (λ (r : Result Entries Refusal). then r (λ d. add_job d j)) s ∙ q)

pub enterable_job : (b : Entries) (j : Job) (c : Entries) → b.links ≡ [] → Enterable b → add_job b j ≡ Ok c → Enterable c
enterable_job b j c n t q =
    let a = unless_refused_ok (enter_answer b j) (with_job b j) c q in
    subst (λ (x : Entries). then (add_all add_job no_entries x.jobs) (λ d. add_all add_link d x.links) ≡ Ok c) a.2 (job_after_jobs b j c b.links n t q)

pub enterable_link : (b : Entries) (l : Link) (c : Entries) → Enterable b → add_link b l ≡ Ok c → Enterable c
enterable_link b l c t q =
    let a = unless_refused_ok (link_answer b l) (with_link b l) c q in
    let w = then_ok (add_all add_job no_entries b.jobs) (λ d. add_all add_link d b.links) b t in
    subst (λ (x : Entries). then (add_all add_job no_entries x.jobs) (λ d. add_all add_link d x.links) ≡ Ok c) a.2
    (ap (λ (x : Result Entries Refusal). then x (λ d. add_all add_link d (b.links ++ (l ∷ [])))) w.1 ∙ add_all_push add_link b.links w.0 l ∙ ap (λ (x : Result Entries Refusal). then x (λ d. add_link d l)) w.2 ∙ q)
