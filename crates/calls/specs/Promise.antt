-- The promise over every list of calls and answers.
use Rattle.std.specs.Prelude.{◌≡◌, ℕ, ◌-◌, ◌*◌, ◌≤◌, ◌↔◌, List, [], ◌∷◌, slice_index}
use Rattle.sheet.specs.declared.records.Window.{Window}
use Rattle.sheet.specs.Entries.{Entries}
use Rattle.rule.specs.Cuts.{Cut}
use Rattle.search.specs.declared.decision.Decision.{Decision}
use Rattle.search.specs.declared.outcome.Outcome.{Outcome}
use Rattle.search.specs.declared.outcome.Outcome.TheVariants.{Open, Found, Impossible}
use Rattle.search.specs.Entered.{entered_windows}
use Rattle.search.specs.Counting.{timetables}
use Rattle.search.specs.Looks.{opened, found, one_look, after_looks}
use Rattle.search.specs.Promise.{Fits}
use Rattle.calls.specs.declared.call.Call.{Call}
use Rattle.calls.specs.declared.call.Call.TheVariants.{Advance, Start}
use Rattle.calls.specs.declared.call.Answer.{Answer}
use Rattle.calls.specs.declared.call.Answer.TheVariants.{Number, Advanced}
use Rattle.calls.specs.Ledgers.{Ledger, noted}

-- for a pile that admits these timetables on a sheet, and makes this of windows
module _ (admits : Entries → List ℕ → Type 0) (cut : Entries → List Window → Cut) where
  -- P: the number of timetables with every start in its window, on the sheet as last closed
  abbrev pub possible : Ledger → ℕ
  possible l = timetables (entered_windows l.closed)

  -- a timetable fits that sheet: its starts are in their windows, and the pile admits it
  abbrev pub Fitting : Ledger → List ℕ → Type 0
  Fitting l t = Fits (admits l.closed) l.closed t

  abbrev pub NoneFits : Ledger → Type 0
  NoneFits l = (t : List ℕ) → Fitting l t → ⊥

  -- t is the timetable that the search of that sheet has found, by its definition, once so many looks were granted
  abbrev pub FoundTimetable : Ledger → List ℕ → Type 0
  FoundTimetable l t = (p : List Decision) × (after_looks (one_look (cut l.closed) l.closed) l.granted (opened []) ≡ found p t)

  -- what an accepted advance owes that answered the outcome o, this advance being noted in the ledger l
  pub record AdvanceOwes (l : Ledger) (o : Outcome) : Type 0 where
    -- impossible only if no timetable fits
    pub no_is_true : o ≡ Impossible → NoneFits l
    -- found only with a timetable that fits, that of the search's definition
    pub found_fits : o ≡ Found → (t : List ℕ) × FoundTimetable l t × Fitting l t
    -- once the looks granted are at least 2 P - 1: impossible exactly if none fits, and found otherwise
    pub enough_settles : 2 * possible l - 1 ≤ l.granted → ((o ≡ Impossible) ↔ NoneFits l) × ((NoneFits l → ⊥) → o ≡ Found)
    -- the looks reported never exceed 2 P - 1
    pub few_looks : l.reported ≤ 2 * possible l - 1
    -- and where it answers open they are those granted
    pub open_is_spent : o ≡ Open → l.reported ≡ l.granted

  -- an accepted start answers from the timetable that was found
  abbrev pub StartOwes : Ledger → ℕ → ℕ → Type 0
  StartOwes l k n = (t : List ℕ) × FoundTimetable l t × (n ≡ slice_index t k)

  abbrev pub AdvanceAnswered : Ledger → Answer → Type 0
  AdvanceAnswered l (Advanced o m) = AdvanceOwes l o
  AdvanceAnswered l _ = Unit {0}

  abbrev pub StartAnswered : Ledger → ℕ → Answer → Type 0
  StartAnswered l k (Number n) = StartOwes l k n
  StartAnswered l k _ = Unit {0}

  -- what one call owes by its answer, both being noted in the ledger l
  abbrev pub Owed : Ledger → Call → Answer → Type 0
  Owed l (Advance g) a = AdvanceAnswered l a
  Owed l (Start k) a = StartAnswered l k a
  Owed l _ a = Unit {0}

  -- every call of a list keeps the promise
  abbrev pub PromiseKept : Ledger → List (Call × Answer) → Type 0
  PromiseKept l [] = Unit {0}
  PromiseKept l (x ∷ h) = Owed (noted l x.0 x.1) x.0 x.1 × PromiseKept (noted l x.0 x.1) h
