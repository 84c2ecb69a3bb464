-- What a search that was granted so many looks owes, in the terms of a ledger.
use Rattle.std.proofs.Common.{◌≡◌, ℕ, ◌⊎◌, ◌↔◌, List, [], length, sym, refl, ap, ◌∙◌, subst, ⊎_elim}
use Rattle.sheet.specs.declared.records.Window.{Window}
use Rattle.sheet.specs.Entries.{Entries}
use Rattle.sheet.specs.Sound.{Sound}
use Rattle.rule.specs.Cuts.{Cut}
use Rattle.rule.specs.Laws.{Lawful}
use Rattle.search.specs.declared.decision.Decision.{Decision}
use Rattle.search.specs.declared.outcome.Outcome.TheVariants.{Open, Found, Impossible}
use Rattle.search.specs.Looks.{State, opened, found, impossible, outcome_of, one_look, after_looks, looks_made}
use Rattle.search.specs.Promise.{Promise}
use Rattle.search.proofs.Promised.{promised_once}
use Rattle.calls.specs.Ledgers.{Ledger}
use Rattle.calls.specs.Promise.{NoneFits, AdvanceOwes}

-- a state by its outcome
impossible_by_outcome : (x : State) → outcome_of x ≡ Impossible → x ≡ impossible
impossible_by_outcome (opened p) e = cc
impossible_by_outcome (found p t) e = cc
impossible_by_outcome impossible e = refl

found_by_outcome : (x : State) → outcome_of x ≡ Found → (p : List Decision) × (t : List ℕ) × (x ≡ found p t)
found_by_outcome (opened p) e = cc
found_by_outcome (found p t) e = (p, t, refl)
found_by_outcome impossible e = cc

open_by_outcome : (x : State) → outcome_of x ≡ Open → (p : List Decision) × (x ≡ opened p)
open_by_outcome (opened p) e = (p, refl)
open_by_outcome (found p t) e = cc
open_by_outcome impossible e = cc

module _ (admits : Entries → List ℕ → Type 0) (cut : Entries → List Window → Cut) (lawful : (e : Entries) → Sound e → Lawful (length e.jobs) (admits e) (cut e)) where
  module _ (l : Ledger) (sound : Sound l.closed) (x : State) (stands : x ≡ after_looks (one_look (cut l.closed) l.closed) l.granted (opened [])) (reports : l.reported ≡ looks_made (one_look (cut l.closed) l.closed) l.granted (opened [])) where
    promise : Promise (admits l.closed) l.closed l.granted l.reported x
    promise =
        subst (λ (y : State). Promise (admits l.closed) l.closed l.granted l.reported y) (sym stands)
        (subst (λ (m : ℕ). Promise (admits l.closed) l.closed l.granted m (after_looks (one_look (cut l.closed) l.closed) l.granted (opened []))) (sym reports)
        (promised_once l.closed sound (lawful l.closed sound) l.granted))

    settled : (x ≡ impossible) ⊎ ((p : List Decision) × (t : List ℕ) × (x ≡ found p t)) → ((outcome_of x ≡ Impossible) ↔ NoneFits admits cut l) × ((NoneFits admits cut l → ⊥) → outcome_of x ≡ Found)
    settled =
        ⊎_elim
        (λ (e : x ≡ impossible).
        let o : outcome_of x ≡ Impossible = ap outcome_of e in
        (((λ q. promise.none_fits e), (λ n. o)), λ some. absurd (some (promise.none_fits e))))
        (λ (d : (p : List Decision) × (t : List ℕ) × (x ≡ found p t)).
        let o : outcome_of x ≡ Found = ap (λ (y : State). outcome_of y) d.2 in
        (((λ q. absurd (let y : Found ≡ Impossible = sym o ∙ q in cc)), (λ n. absurd (n d.1 (promise.one_fits d.0 d.1 d.2)))), λ some. o))

    pub advance_owes : AdvanceOwes admits cut l (outcome_of x)
    advance_owes = record {
      no_is_true = λ q. promise.none_fits (impossible_by_outcome x q);
      found_fits = λ q.
          let d = found_by_outcome x q in
          (d.1, (d.0, sym stands ∙ d.2), promise.one_fits d.0 d.1 d.2);
      enough_settles = λ h. settled (promise.enough h);
      few_looks = promise.few;
      open_is_spent = λ q. let d = open_by_outcome x q in promise.spent d.0 d.1;
    }
