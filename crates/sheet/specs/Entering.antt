-- What a sheet answers: the causes of refusal from the top, and where several apply the first speaks.
use Rattle.std.specs.Prelude.{ℕ, ◌+◌, Bool, cond, ◌&&◌, ◌||◌, List, length, Ok, Err, Result, ◌==◌, nat_le, nat_lt}
use Rattle.std.specs.List.{list_any}
use Rattle.sheet.specs.declared.records.Job.{Job}
use Rattle.sheet.specs.declared.records.Link.{Link}
use Rattle.sheet.specs.declared.refusal.Refusal.{Refusal}
use Rattle.sheet.specs.declared.refusal.Refusal.TheVariants.{UnknownJob, SheetFull, UnknownStation, DurationOutOfRange, TimeOutOfRange, WindowTooShort, SelfLink, WaitTooLong, DuplicateLink, LinksFull}
use Rattle.sheet.specs.Limits.{most_jobs, most_links, last_station, longest_duration, longest_wait, last_minute}
use Rattle.sheet.specs.Entries.{Entries, job}

-- what is held after a call: the new where it was accepted, else the old
abbrev pub taken : {A X : Type 0} → Result A Refusal → X → X → X
taken (Ok a) old new = new
taken (Err r) old new = old

abbrev pub enter_answer : Entries → Job → Result ℕ Refusal
enter_answer e j =
    cond (nat_le most_jobs (length e.jobs)) (Err SheetFull)
    (cond (nat_lt last_station j.station) (Err UnknownStation)
    (cond (j.duration == 0 || nat_lt longest_duration j.duration) (Err DurationOutOfRange)
    (cond (nat_lt last_minute j.release || nat_lt last_minute j.due) (Err TimeOutOfRange)
    (cond (nat_lt j.due (j.release + j.duration)) (Err WindowTooShort)
    (Ok (length e.jobs))))))

-- whether there is a link from a to b
abbrev pub has_link : List Link → ℕ → ℕ → Bool
has_link ls a b = list_any (λ l. l.from == a && l.to == b) ls

abbrev pub link_answer : Entries → Link → Result (Unit {0}) Refusal
link_answer e l =
    cond (nat_le (length e.jobs) l.from || nat_le (length e.jobs) l.to) (Err UnknownJob)
    (cond (l.from == l.to) (Err SelfLink)
    (cond (nat_lt longest_wait l.wait) (Err WaitTooLong)
    (cond (has_link e.links l.from l.to) (Err DuplicateLink)
    (cond (nat_le most_links (length e.links)) (Err LinksFull)
    (Ok tt)))))

abbrev pub move_answer : Entries → ℕ → ℕ → ℕ → Result (Unit {0}) Refusal
move_answer e k r d =
    cond (nat_le (length e.jobs) k) (Err UnknownJob)
    (cond (nat_lt last_minute r || nat_lt last_minute d) (Err TimeOutOfRange)
    (cond (nat_lt d (r + (job e.jobs k).duration)) (Err WindowTooShort)
    (Ok tt)))
