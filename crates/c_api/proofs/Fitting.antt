-- What planning tells fits into the answer and into the buffer.
use mathlib.Core.Path.{◌≡◌, refl}
use mathlib.Core.List.{List}
use Prim.Native.Nat.{ℕ, ◌+◌, ◌/◌, ◌≤◌, ◌<◌}
use native.Mathlib.Omega.{arith}
use lib.ListN.{length, get_or}
use Rattle.sheet.specs.Entries.{Entries, job}
use Rattle.slip.proofs.Bounded.{fault_line_bounded}
use Rattle.search.specs.Looks.{State, opened, found, impossible}
use Rattle.report.specs.declared.reported.Unplanned.{Unplanned}
use Rattle.report.specs.declared.reported.Unplanned.TheVariants.{Faulty, Refused}
use Rattle.report.specs.Planning.{planned, unplanned}
use Rattle.house.specs.Hall.{Workable, InTheHallsWords}
use Rattle.c_api.specs.Answers.{Writable, Tellable}

pub writable : (bytes buffer : List ℕ) (g m : ℕ) (e : Entries) (x : State) → InTheHallsWords bytes g (length buffer / 2) (planned e x m) → Writable x buffer
writable bytes buffer g m e (opened p) h = tt
writable bytes buffer g m e impossible h = tt
writable bytes buffer g m e (found p t) h =
    let w : Workable e t = h.3.yes p t refl in
    let n : length t ≡ length e.jobs = w.one_each in
    let room : length e.jobs ≤ length buffer / 2 = h.2 in (
      omega arith,
      λ k l.
          let there : k < length e.jobs = omega arith in
          let ends : get_or t k 0 + (job e.jobs k).duration ≤ (job e.jobs k).due = (w.in_window k there).1 in
          let due : (job e.jobs k).due ≤ 40000 = (h.1.entered k there).4 in
          omega arith,
    )

pub tellable : (bytes : List ℕ) (g room : ℕ) (u : Unplanned) → InTheHallsWords bytes g room (unplanned u) → Tellable u
tellable bytes g room (Faulty f) h = fault_line_bounded bytes f h
tellable bytes g room (Refused r) h = tt
