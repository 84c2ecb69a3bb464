-- What the house pile admits within the entered windows is what the hall can work by.
use Rattle.std.proofs.Common.{◌≡◌, ℕ, ◌-◌, ◌<◌, ◌≤◌, List, length, get_or, sym, ◌∙◌, subst, arith}
use lib.ListN.{length-map}
use Rattle.std.proofs.lemmas.List.{get_or-map}
use Rattle.sheet.specs.declared.records.Window.{Window}
use Rattle.sheet.specs.Entries.{Entries, job, job_of}
use Rattle.sheet.specs.Sound.{Sound}
use Rattle.rule.specs.Windows.{window, window_of}
use Rattle.search.specs.Entered.{entered_window, entered_windows}
use Rattle.search.specs.Promise.{Fits}
use Rattle.report.specs.declared.reported.Unplanned.TheVariants.{Faulty, Refused}
use Rattle.report.specs.Planning.{Told, planned, unplanned, Owes}
use Rattle.house.specs.Piles.{house_admits}
use Rattle.house.specs.Hall.{Workable, InTheHallsWords}

entered_at : (e : Entries) (k : ℕ) → k < length e.jobs → window (entered_windows e) k ≡ entered_window (job e.jobs k)
entered_at e k h = get_or-map entered_window e.jobs k (job_of 0 0 0 0) (window_of 0 0) h

entered_count : (e : Entries) → length (entered_windows e) ≡ length e.jobs
entered_count e = length-map e.jobs entered_window

pub to_workable : (e : Entries) (t : List ℕ) → Sound e → Fits (house_admits e) e t → Workable e t
to_workable e t s f =
    let n : length (entered_windows e) ≡ length e.jobs = entered_count e in
    let a = f.1 in
    record {
      one_each = f.0.count ∙ n;
      in_window = λ k h.
          let l : k < length (entered_windows e) = omega arith in
          let low : (job e.jobs k).release ≤ get_or t k 0 = subst (λ (w : Window). w.lo ≤ get_or t k 0) (entered_at e k h) (f.0.low k l) in
          let high : get_or t k 0 ≤ (job e.jobs k).due - (job e.jobs k).duration = subst (λ (w : Window). get_or t k 0 ≤ w.hi) (entered_at e k h) (f.0.high k l) in
          let room = (s.entered k h).3 in
          (low, omega arith);
      apart = a.1.0;
      linked = λ i h. omega (arith, a.0 i h);
    }

pub from_workable : (e : Entries) (t : List ℕ) → Workable e t → Fits (house_admits e) e t
from_workable e t w =
    let n : length (entered_windows e) ≡ length e.jobs = entered_count e in (
      record {
        count = w.one_each ∙ sym n;
        low = λ k l. let h : k < length e.jobs = omega arith in subst (λ (v : Window). v.lo ≤ get_or t k 0) (sym (entered_at e k h)) (w.in_window k h).0;
        high = λ k l.
            let h : k < length e.jobs = omega arith in
            let due = (w.in_window k h).1 in
            subst (λ (v : Window). get_or t k 0 ≤ v.hi) (sym (entered_at e k h)) (omega arith);
      },
      ((λ i h. omega (arith, w.linked i h)), (w.apart, (w.apart, w.apart))),
    )

pub halls_words : (bytes : List ℕ) (g room : ℕ) (u : Told) → Owes house_admits bytes g room u → InTheHallsWords bytes g room u
halls_words bytes g room (unplanned (Faulty f)) o = o
halls_words bytes g room (unplanned (Refused r)) o = o
halls_words bytes g room (planned e x m) o =
    let promise = o.3 in (
      o.0,
      o.1,
      o.2,
      record {
        yes = λ p t q. to_workable e t o.1 (promise.one_fits p t q);
        no = λ q t w. promise.none_fits q t (from_workable e t w);
        open_yet = promise.spent;
        within_grant = promise.granted_only;
      },
    )
