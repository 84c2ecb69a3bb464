-- The worked figures: small sheets, and what the rules and the search make of them. All jobs are at station 0.
use Rattle.std.specs.Prelude.{◌≡◌, List, [], ◌∷◌, ℕ}
use Rattle.sheet.specs.declared.records.Job.{Job}
use Rattle.sheet.specs.declared.records.Window.{Window}
use Rattle.sheet.specs.Entries.{Entries, job_of}
use Rattle.sheet.specs.Limits.{last_minute}
use Rattle.rule.specs.Windows.{window_of}
use Rattle.rule.specs.Cuts.{Cut, live}
use Rattle.disjunctive.specs.StationCuts.{pairs_cut, edges_cut, not_first_cut}
use Rattle.forbid_all.specs.ForbidAll.{forbid_all_cut}
use Rattle.house.specs.Piles.{house_cut}
use Rattle.search.specs.declared.outcome.Outcome.{Outcome}
use Rattle.search.specs.declared.outcome.Outcome.TheVariants.{Open, Found, Impossible}
use Rattle.calls.specs.declared.call.Call.{Call}
use Rattle.calls.specs.declared.call.Call.TheVariants.{Enter, Link, Move, Close, Advance, Start, Reopen}
use Rattle.calls.specs.declared.call.Answer.{Answer}
use Rattle.calls.specs.declared.call.Answer.TheVariants.{Number, Closed, Advanced, Reopened}
use Rattle.calls.specs.Stages.{Stage, fresh, Leads}

-- a job of so many minutes
abbrev pub lasting : ℕ → Job
lasting p = job_of 0 p 0 last_minute

-- three jobs of 4, 3 and 3 minutes, and three of 8
abbrev pub short_jobs : List Job
short_jobs = lasting 4 ∷ lasting 3 ∷ lasting 3 ∷ []

abbrev pub long_jobs : List Job
long_jobs = lasting 8 ∷ lasting 8 ∷ lasting 8 ∷ []

-- a rule leaves the windows as they are
abbrev pub Leaves : (List Window → Cut) → List Window → Type 0
Leaves cut ws = cut ws ≡ live ws

-- an advance that came to this outcome with so many looks
abbrev pub came_to : Outcome → ℕ → Answer
came_to o m = Advanced o m

-- the calls on a fresh draft with this pile are answered so
abbrev pub Answered : (Entries → List Window → Cut) → List (Call × Answer) → Type 0
Answered cut h = (u : Stage) × Leads cut fresh h u

pub record Figures : Type 0 where
  -- 1: of two jobs one cannot come first
  pub pairs_orders : pairs_cut (lasting 4 ∷ lasting 3 ∷ []) (window_of 2 6 ∷ window_of 0 4 ∷ []) ≡ live (window_of 3 6 ∷ window_of 0 3 ∷ [])
  -- 2: either can
  pub pairs_leaves : Leaves (pairs_cut (lasting 4 ∷ lasting 3 ∷ [])) (window_of 2 6 ∷ window_of 0 6 ∷ [])
  -- 3: a job comes after two others
  pub edges_orders : edges_cut short_jobs (window_of 0 16 ∷ window_of 0 4 ∷ window_of 1 4 ∷ []) ≡ live (window_of 6 16 ∷ window_of 0 4 ∷ window_of 1 4 ∷ [])
  -- 4: it just fits between them, so that greater is not the same as not less
  pub edges_leaves : Leaves (edges_cut short_jobs) (window_of 0 16 ∷ window_of 0 7 ∷ window_of 1 7 ∷ [])
  -- 5: a job comes after one of two others
  pub not_first_orders : not_first_cut short_jobs (window_of 2 16 ∷ window_of 0 6 ∷ window_of 1 6 ∷ []) ≡ live (window_of 3 16 ∷ window_of 0 6 ∷ window_of 1 6 ∷ [])
  -- 6: it need not
  pub not_first_leaves : Leaves (not_first_cut short_jobs) (window_of 2 16 ∷ window_of 0 9 ∷ window_of 1 9 ∷ [])
  -- 7: three jobs that do not fit, any two of which do: one look
  pub three_not_two :
      Leaves (pairs_cut long_jobs) (window_of 1 10 ∷ window_of 1 10 ∷ window_of 1 10 ∷ [])
      × Answered house_cut
      ((Enter 0 8 1 18, Number 0)
      ∷ (Enter 0 8 1 18, Number 1)
      ∷ (Enter 0 8 1 18, Number 2)
      ∷ (Close, Closed)
      ∷ (Advance 100, came_to Impossible 1)
      ∷ [])
  -- 8: one job, three advances by one look
  pub look_by_look :
      Answered house_cut
      ((Enter 0 2 0 5, Number 0)
      ∷ (Close, Closed)
      ∷ (Advance 1, came_to Open 1)
      ∷ (Advance 1, came_to Open 1)
      ∷ (Advance 1, came_to Found 1)
      ∷ (Start 0, Number 0)
      ∷ [])
  -- 9: a dead first part alone is not impossible: three looks
  pub both_parts : Answered (λ e ws. forbid_all_cut ws) ((Enter 0 1 0 2, Number 0) ∷ (Close, Closed) ∷ (Advance 100, came_to Impossible 3) ∷ [])
  -- 10: an empty sheet
  pub nothing_to_do : Answered house_cut ((Close, Closed) ∷ (Advance 100, came_to Found 1) ∷ [])
  -- 13: narrowed windows do not outlive a reopen
  pub moved_and_searched_again :
      Answered house_cut
      ((Enter 0 5 0 12, Number 0)
      ∷ (Enter 0 4 0 9, Number 1)
      ∷ (Link 0 1 0, Number 0)
      ∷ (Close, Closed)
      ∷ (Advance 100, came_to Found 1)
      ∷ (Reopen, Reopened)
      ∷ (Move 1 0 20, Number 0)
      ∷ (Close, Closed)
      ∷ (Advance 100, came_to Found 8)
      ∷ (Start 0, Number 0)
      ∷ (Start 1, Number 5)
      ∷ [])
