-- What a sheet accepts keeps it sound.
use Rattle.std.proofs.Common.{◌≡◌, ℕ, ◌+◌, ◌<◌, ◌≤◌, Bool, true, false, cond, [], ◌∷◌, ◌++◌, length, set, Ok, Err, Result, sym, refl, subst, arith, length-set}
use Rattle.std.proofs.ByRecursion.{All-get_or, All-from_get_or, All-push, All-set}
use Rattle.std.proofs.lemmas.List.{length_push}
use Rattle.std.proofs.lemmas.Bool.{or_parts, leb-false, ltb-false, eqb-false}
use Rattle.sheet.specs.declared.records.Job.{Job}
use Rattle.sheet.specs.declared.records.Link.{Link}
use Rattle.sheet.specs.declared.refusal.Refusal.{Refusal}
use Rattle.sheet.specs.Entries.{Entries, no_entries, job, job_of, link_of, with_job, with_link, moved}
use Rattle.sheet.specs.Sound.{Sound, Entered, Linked, AllLinked}
use Rattle.sheet.specs.Entering.{enter_answer, link_answer, move_answer}
use Rattle.sheet.proofs.Linking.{linked_among_more}

pub none_sound : Sound no_entries
none_sound = record {
  few_jobs = omega arith;
  few_links = omega arith;
  entered = λ k h. absurd (omega arith);
  linked = λ k h. absurd (omega arith);
}

-- a cause that would have spoken first does not apply
passed : {A : Type 0} (b : Bool) (r : Refusal) (x : Result A Refusal) (a : A) → cond b (Err r) x ≡ Ok a → (b ≡ false) × (x ≡ Ok a)
passed true r x a e = let z : ◌≡◌ {A = ℕ} 0 1 = cc in absurd (omega arith)
passed false r x a e = (refl, e)

pub enter_sound : (e : Entries) (j : Job) (n : ℕ) → Sound e → enter_answer e j ≡ Ok n → Sound (with_job e j)
enter_sound e j n s q =
    let room = passed _ _ _ n q in
    let station = passed _ _ _ n room.1 in
    let duration = passed _ _ _ n station.1 in
    let times = passed _ _ _ n duration.1 in
    let window = passed _ _ _ n times.1 in
    let fits : length e.jobs < 48 = leb-false _ _ room.0 in
    let more : length (e.jobs ++ (j ∷ [])) ≡ length e.jobs + 1 = length_push e.jobs j in
    let positive : 1 ≤ j.duration = (let z : j.duration ≡ 0 → ⊥ = eqb-false _ _ (or_parts _ _ duration.0).0 in omega (arith, z)) in
    let good : Entered j = (ltb-false _ _ station.0, positive, ltb-false _ _ (or_parts _ _ duration.0).1, ltb-false _ _ window.0, ltb-false _ _ (or_parts _ _ times.0).1) in
    record {
      few_jobs = omega arith;
      few_links = s.few_links;
      entered = λ k h. All-get_or Entered (e.jobs ++ (j ∷ [])) k (job_of 0 0 0 0) h (All-push Entered e.jobs j (All-from_get_or Entered e.jobs (job_of 0 0 0 0) s.entered) good);
      linked = subst (λ (m : ℕ). AllLinked m e.links) (sym more) (linked_among_more _ _ s.linked);
    }

pub link_sound : (e : Entries) (l : Link) → Sound e → link_answer e l ≡ Ok tt → Sound (with_link e l)
link_sound e l s q =
    let known = passed _ _ _ tt q in
    let apart = passed _ _ _ tt known.1 in
    let wait = passed _ _ _ tt apart.1 in
    let new = passed _ _ _ tt wait.1 in
    let room = passed _ _ _ tt new.1 in
    let fits : length e.links < 96 = leb-false _ _ room.0 in
    let more : length (e.links ++ (l ∷ [])) ≡ length e.links + 1 = length_push e.links l in
    let good : Linked (length e.jobs) l = (leb-false _ _ (or_parts _ _ known.0).0, leb-false _ _ (or_parts _ _ known.0).1, eqb-false _ _ apart.0, ltb-false _ _ wait.0) in
    record {
      few_jobs = s.few_jobs;
      few_links = omega arith;
      entered = s.entered;
      linked = λ k h. All-get_or (Linked (length e.jobs)) (e.links ++ (l ∷ [])) k (link_of 0 0 0) h (All-push (Linked (length e.jobs)) e.links l (All-from_get_or (Linked (length e.jobs)) e.links (link_of 0 0 0) s.linked) good);
    }

pub move_sound : (e : Entries) (k r d : ℕ) → Sound e → move_answer e k r d ≡ Ok tt → Sound (moved e k r d)
move_sound e k r d s q =
    let known = passed _ _ _ tt q in
    let times = passed _ _ _ tt known.1 in
    let window = passed _ _ _ tt times.1 in
    let there : k < length e.jobs = leb-false _ _ known.0 in
    let old = s.entered k there in
    let j : Job = job_of (job e.jobs k).station (job e.jobs k).duration r d in
    let good : Entered j = (old.0, old.1, old.2, ltb-false _ _ window.0, ltb-false _ _ (or_parts _ _ times.0).1) in
    let same : length (set e.jobs k j) ≡ length e.jobs = length-set e.jobs k j in
    record {
      few_jobs = omega (arith, s.few_jobs);
      few_links = s.few_links;
      entered = λ i h. All-get_or Entered (set e.jobs k j) i (job_of 0 0 0 0) h (All-set Entered e.jobs k j good (All-from_get_or Entered e.jobs (job_of 0 0 0 0) s.entered));
      linked = subst (λ (m : ℕ). AllLinked m e.links) (sym same) s.linked;
    }
