-- Every list of calls that is carried out by the definitions keeps the promise.
use Rattle.std.proofs.Common.{◌≡◌, ℕ, ◌+◌, Bool, true, false, cond, ◌||◌, eqb, ltb, leb, List, [], ◌∷◌, ◌++◌, length, Ok, Err, Result, sym, refl, ap, ◌∙◌, subst}
use Rattle.sheet.specs.declared.records.Window.{Window}
use Rattle.sheet.specs.declared.refusal.Refusal.{Refusal}
use Rattle.sheet.specs.declared.refusal.Refusal.TheVariants.{UnknownJob, LooksOutOfRange}
use Rattle.sheet.specs.Entries.{Entries, job_of, link_of, with_job, with_link, moved}
use Rattle.sheet.specs.Entering.{enter_answer, link_answer, move_answer, taken}
use Rattle.sheet.specs.Sound.{Sound}
use Rattle.sheet.proofs.Accepting.{none_sound, enter_sound, link_sound, move_sound}
use Rattle.rule.specs.Cuts.{Cut}
use Rattle.rule.specs.Laws.{Lawful}
use Rattle.search.specs.Outcomes.{outcome_number}
use Rattle.search.specs.Looks.{State, opened, found, impossible, outcome_of, one_look, after_looks, looks_made}
use Rattle.search.proofs.Rows.{after_add, made_add}
use Rattle.planner.specs.Calls.{most_looks, found_start}
use Rattle.calls.specs.declared.call.Call.{Call}
use Rattle.calls.specs.declared.call.Call.TheVariants.{Enter, Link, Move, Close, Advance, Start, Reopen}
use Rattle.calls.specs.declared.call.Answer.{Answer}
use Rattle.calls.specs.declared.call.Answer.TheVariants.{Advanced}
use Rattle.calls.specs.Stages.{Stage, drafting, searching, fresh, numbered, own, zero, advanced_or_refused, answer_of, stage_after, Leads}
use Rattle.calls.specs.Ledgers.{Ledger, no_calls, if_number, with_sheet, with_advance, noted}
use Rattle.calls.specs.Promise.{Owed, StartAnswered, PromiseKept}
use Rattle.calls.specs.Carrying.{CarriesOn}
use Rattle.calls.proofs.Owing.{advance_owes}

module _ (admits : Entries → List ℕ → Type 0) (cut : Entries → List Window → Cut) (lawful : (e : Entries) → Sound e → Lawful (length e.jobs) (admits e) (cut e)) where
  -- what a ledger says of a search of its closed sheet
  pub record Stands (l : Ledger) (x : State) : Type 0 where
    pub unchanged : l.sheet ≡ l.closed
    pub sound : Sound l.closed
    pub granted_looks : x ≡ after_looks (one_look (cut l.closed) l.closed) l.granted (opened [])
    pub reported_looks : l.reported ≡ looks_made (one_look (cut l.closed) l.closed) l.granted (opened [])

  -- what a ledger says of a stage
  abbrev pub Agrees : Ledger → Stage → Type 0
  Agrees l (drafting e) = (l.sheet ≡ e) × Sound e
  Agrees l (searching e x) = (l.closed ≡ e) × Stands l x

  -- the stage agrees with the ledger after a call and its answer, and the answer is what the call owes
  abbrev pub GoesOn : Ledger → Call → Answer → Stage → Type 0
  GoesOn l c a s = Agrees (noted l c a) s × Owed admits cut (noted l c a) c a

  -- a call that changes the draft's sheet where it is accepted
  sheet_call : {A : Type 0} (number : A → ℕ) (r : Result A Refusal) (l : Ledger) (e new told : Entries) → l.sheet ≡ e → Sound e → told ≡ new → ((a : A) → r ≡ Ok a → Sound new) → Agrees (if_number (numbered number r) (with_sheet l told) l) (drafting (taken r e new))
  sheet_call number (Ok a) l e new told q s t f = (t, f a refl)
  sheet_call number (Err x) l e new told q s t f = (q, s)

  draft_call : (l : Ledger) (e : Entries) (c : Call) → Agrees l (drafting e) → Agrees (noted l c (answer_of cut (drafting e) c)) (stage_after cut (drafting e) c)
  draft_call l e (Enter s p r d) g =
      let j = job_of s p r d in
      sheet_call own (enter_answer e j) l e (with_job e j) _ g.0 g.1 (ap (λ (x : Entries). with_job x j) g.0) (λ n q. enter_sound e j n g.1 q)
  draft_call l e (Link a b w) g =
      let k = link_of a b w in
      sheet_call zero (link_answer e k) l e (with_link e k) _ g.0 g.1 (ap (λ (x : Entries). with_link x k) g.0) (λ n q. link_sound e k g.1 q)
  draft_call l e (Move k r d) g =
      sheet_call zero (move_answer e k r d) l e (moved e k r d) _ g.0 g.1 (ap (λ (x : Entries). moved x k r d) g.0) (λ n q. move_sound e k r d g.1 q)
  draft_call l e Close g = (g.0, record { unchanged = refl; sound = subst Sound (sym g.0) g.1; granted_looks = refl; reported_looks = refl })
  draft_call l e _ g = g

  draft_owes : (l : Ledger) (e : Entries) (c : Call) → Owed admits cut l c (answer_of cut (drafting e) c)
  draft_owes l e (Advance n) = tt
  draft_owes l e (Start k) = tt
  draft_owes l e _ = tt

  module _ (l : Ledger) (x : State) (g : Stands l x) where
    -- an advance by n looks, where b tells whether that is out of range
    advanced : (n : ℕ) (b : Bool) →
        let f = one_look (cut l.closed) l.closed in
        let o = outcome_of (after_looks f n x) in
        let r : Result (ℕ × ℕ) Refusal = cond b (Err LooksOutOfRange) (Ok (outcome_number o, looks_made f n x)) in
        GoesOn l (Advance n) (advanced_or_refused o r) (searching l.closed (taken r x (after_looks f n x)))
    advanced n true = ((refl, g), tt)
    advanced n false =
        let f = one_look (cut l.closed) l.closed in
        let y = after_looks f n x in
        let granted : y ≡ after_looks f (l.granted + n) (opened []) = ap (after_looks f n) g.granted_looks ∙ sym (after_add f l.granted n (opened [])) in
        let reported : l.reported + looks_made f n x ≡ looks_made f (l.granted + n) (opened []) =
        ap (λ (m : ℕ). m + looks_made f n x) g.reported_looks
        ∙ ap (λ (z : State). looks_made f l.granted (opened []) + looks_made f n z) g.granted_looks
        ∙ sym (made_add f l.granted n (opened [])) in (
          (refl, record { unchanged = g.unchanged; sound = g.sound; granted_looks = granted; reported_looks = reported }),
          advance_owes admits cut lawful (with_advance l n (Advanced (outcome_of y) (looks_made f n x))) g.sound y granted reported,
        )

    -- a start, where b tells whether the job is not on the sheet
    started : (k : ℕ) (b : Bool) (y : State) → x ≡ y → StartAnswered admits cut l k (numbered own (cond b (Err UnknownJob) (found_start y k)))
    started k true y e = tt
    started k false (opened p) e = tt
    started k false (found p t) e = (t, (p, sym g.granted_looks ∙ e), refl)
    started k false impossible e = tt

    search_call : (c : Call) → GoesOn l c (answer_of cut (searching l.closed x) c) (stage_after cut (searching l.closed x) c)
    search_call (Advance n) = advanced n (eqb n 0 || ltb most_looks n)
    search_call (Start k) = ((refl, g), started k (leb (length l.closed.jobs) k) x refl)
    search_call Reopen = ((g.unchanged, g.sound), tt)
    search_call _ = ((refl, g), tt)

  pub step : (l : Ledger) (s : Stage) (c : Call) → Agrees l s → GoesOn l c (answer_of cut s c) (stage_after cut s c)
  step l (drafting e) c g = (draft_call l e c g, draft_owes (noted l c (answer_of cut (drafting e) c)) e c)
  step l (searching e x) c g =
      subst (λ (d : Entries). GoesOn l c (answer_of cut (searching d x) c) (stage_after cut (searching d x) c)) g.0 (search_call l x g.1 c)

  pub kept : (h : List (Call × Answer)) (l : Ledger) (s u : Stage) → Agrees l s → Leads cut s h u → PromiseKept admits cut l h
  kept [] l s u g r = tt
  kept (x ∷ h) l s u g r =
      let d = subst (λ (a : Answer). GoesOn l x.0 a (stage_after cut s x.0)) (sym r.0) (step l s x.0 g) in
      (d.1, kept h (noted l x.0 x.1) (stage_after cut s x.0) u d.0 r.1)

-- one call more
leads_on : (cut : Entries → List Window → Cut) (h : List (Call × Answer)) (s u : Stage) (c : Call) (a : Answer) → Leads cut s h u → a ≡ answer_of cut u c → Leads cut s (h ++ ((c, a) ∷ [])) (stage_after cut u c)
leads_on cut [] s u c a r e = (e ∙ ap (λ (v : Stage). answer_of cut v c) (sym r), ap (λ (v : Stage). stage_after cut v c) r)
leads_on cut (x ∷ h) s u c a r e = (r.0, leads_on cut h (stage_after cut s x.0) u c a r.1 e)

pub carries_on : (admits : Entries → List ℕ → Type 0) (cut : Entries → List Window → Cut) (lawful : (e : Entries) → Sound e → Lawful (length e.jobs) (admits e) (cut e)) (s u : Stage) (c : Call) (a : Answer) → a ≡ answer_of cut s c → u ≡ stage_after cut s c → CarriesOn admits cut s c a u
carries_on admits cut lawful s u c a e q h r =
    let leads : Leads cut fresh (h ++ ((c, a) ∷ [])) u = subst (Leads cut fresh (h ++ ((c, a) ∷ []))) (sym q) (leads_on cut h fresh s c a r e) in
    (leads, kept admits cut lawful (h ++ ((c, a) ∷ [])) no_calls fresh u (refl, none_sound) leads)
