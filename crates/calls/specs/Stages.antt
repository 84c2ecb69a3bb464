-- What each call answers and leads to, by the definitions of the sheet and of the search, and lists of calls.
use Rattle.std.specs.Prelude.{◌≡◌, ℕ, List, [], ◌∷◌, length, Ok, Err, Result}
use Rattle.sheet.specs.declared.records.Window.{Window}
use Rattle.sheet.specs.declared.refusal.Refusal.{Refusal}
use Rattle.sheet.specs.Entries.{Entries, no_entries, job_of, link_of, with_job, with_link, moved}
use Rattle.sheet.specs.Entering.{enter_answer, link_answer, move_answer, taken}
use Rattle.rule.specs.Cuts.{Cut}
use Rattle.search.specs.declared.outcome.Outcome.{Outcome}
use Rattle.search.specs.Looks.{State, opened, outcome_of, one_look, after_looks}
use Rattle.planner.specs.Calls.{advance_answer, start_answer}
use Rattle.calls.specs.declared.call.Call.{Call}
use Rattle.calls.specs.declared.call.Call.TheVariants.{Enter, Link, Move, Close, Advance, Start, Reopen}
use Rattle.calls.specs.declared.call.Answer.{Answer}
use Rattle.calls.specs.declared.call.Answer.TheVariants.{Number, Refused, Closed, Advanced, Reopened, OutOfTurn}

-- a draft with its sheet, or a search with its sheet and where it stands
pub data Stage : Type 0 where
  drafting : Entries → Stage
  searching : Entries → State → Stage

-- a fresh draft
abbrev pub fresh : Stage
fresh = drafting no_entries

-- the number that an accepted call answers, or the refusal
abbrev pub numbered : {A : Type 0} → (A → ℕ) → Result A Refusal → Answer
numbered number (Ok a) = Number (number a)
numbered number (Err r) = Refused r

-- enter and start answer their number, link and move answer 0
abbrev pub own : ℕ → ℕ
own n = n

abbrev pub zero : Unit {0} → ℕ
zero u = 0

-- an accepted advance answers the outcome that the search then has, and the looks made
abbrev pub advanced_or_refused : Outcome → Result (ℕ × ℕ) Refusal → Answer
advanced_or_refused o (Ok x) = Advanced o x.1
advanced_or_refused o (Err r) = Refused r

module _ (cut : Entries → List Window → Cut) where
  abbrev pub answer_of : Stage → Call → Answer
  answer_of (drafting e) (Enter s p r d) = numbered own (enter_answer e (job_of s p r d))
  answer_of (drafting e) (Link a b w) = numbered zero (link_answer e (link_of a b w))
  answer_of (drafting e) (Move k r d) = numbered zero (move_answer e k r d)
  answer_of (drafting e) Close = Closed
  answer_of (searching e x) (Advance g) = advanced_or_refused (outcome_of (after_looks (one_look (cut e) e) g x)) (advance_answer (one_look (cut e) e) g x)
  answer_of (searching e x) (Start k) = numbered own (start_answer (length e.jobs) x k)
  answer_of (searching e x) Reopen = Reopened
  answer_of _ _ = OutOfTurn

  abbrev pub stage_after : Stage → Call → Stage
  stage_after (drafting e) (Enter s p r d) = drafting (taken (enter_answer e (job_of s p r d)) e (with_job e (job_of s p r d)))
  stage_after (drafting e) (Link a b w) = drafting (taken (link_answer e (link_of a b w)) e (with_link e (link_of a b w)))
  stage_after (drafting e) (Move k r d) = drafting (taken (move_answer e k r d) e (moved e k r d))
  stage_after (drafting e) Close = searching e (opened [])
  stage_after (searching e x) (Advance g) = searching e (taken (advance_answer (one_look (cut e) e) g x) x (after_looks (one_look (cut e) e) g x))
  stage_after (searching e x) Reopen = drafting e
  stage_after s _ = s

  -- the calls of h, each with its answer, lead from the stage s to the stage u
  abbrev pub Leads : Stage → List (Call × Answer) → Stage → Type 0
  Leads s [] u = s ≡ u
  Leads s (x ∷ h) u = (x.1 ≡ answer_of s x.0) × Leads (stage_after s x.0) h u
