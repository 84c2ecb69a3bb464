-- What a sheet holds: jobs and links in order of entry, and how one more of them, or a moved job, changes that.
use Rattle.std.specs.Prelude.{ℕ, List, [], ◌∷◌, ◌++◌, slice_index_or, slice_set}
use Rattle.sheet.specs.declared.records.Job.{Job}
use Rattle.sheet.specs.declared.records.Link.{Link}

pub record Entries : Type 0 where
  pub jobs : List Job
  pub links : List Link

abbrev pub no_entries : Entries
no_entries = record { jobs = []; links = [] }

abbrev pub job_of : ℕ → ℕ → ℕ → ℕ → Job
job_of s p r d = record { station = s; duration = p; release = r; due = d }

abbrev pub link_of : ℕ → ℕ → ℕ → Link
link_of a b w = record { from = a; to = b; wait = w }

-- the job and the link of a number; where there is none, one of zeros
abbrev pub job : List Job → ℕ → Job
job js k = slice_index_or js k (job_of 0 0 0 0)

abbrev pub link : List Link → ℕ → Link
link ls k = slice_index_or ls k (link_of 0 0 0)

abbrev pub with_job : Entries → Job → Entries
with_job e j = record { jobs = e.jobs ++ (j ∷ []); links = e.links }

abbrev pub with_link : Entries → Link → Entries
with_link e l = record { jobs = e.jobs; links = e.links ++ (l ∷ []) }

-- job k has the record j, and all others are as before
abbrev pub with_job_at : Entries → ℕ → Job → Entries
with_job_at e k j = record { jobs = slice_set e.jobs k j; links = e.links }

-- job k has another release and due time
abbrev pub moved : Entries → ℕ → ℕ → ℕ → Entries
moved e k r d = with_job_at e k (job_of (job e.jobs k).station (job e.jobs k).duration r d)
