-- What the law of ForbidAll rests on: the test for single starts, and windows that are left as they were.
use Rattle.std.specs.Prelude.{◌≡◌, ℕ, suc, Bool, true, false, cond, List, [], ◌∷◌, refl}
use Rattle.std.proofs.Common.{sym, subst, ◌∙◌, ⊎_elim, arith}
use Rattle.std.proofs.lemmas.Bool.{and_from, eq-eqb, cond-true, cond-false, cases_Bool}
use Rattle.sheet.specs.declared.records.Window.{Window}
use Rattle.rule.specs.Windows.{Formed, Within, Single}
use Rattle.rule.specs.Cuts.{dead, live}
use Rattle.rule.specs.Forming.{still_within, dead_not_live}
use Rattle.forbid_all.specs.ForbidAll.{all_single}

pub single_test : (ws : List Window) → Single ws → all_single ws ≡ true
single_test [] s = refl
single_test (w ∷ ws) s = and_from _ _ (eq-eqb _ _ (s 0 (omega arith))) (single_test ws (λ k h. s (suc k) (omega arith)))

-- windows that are dead or left as they were are, where they are left, within themselves
pub unchanged_within : {n : ℕ} (noticed : Bool) (ws vs : List Window) → Formed n ws → cond noticed dead (live ws) ≡ live vs → Within vs ws
unchanged_within noticed ws vs f alive =
    ⊎_elim
    (λ (t : noticed ≡ true). absurd (dead_not_live vs (sym (cond-true _ _ _ t) ∙ alive)))
    (λ (t : noticed ≡ false).
    let e : live ws ≡ live vs = sym (cond-false _ _ _ t) ∙ alive in
    let same : ws ≡ vs = cc in
    subst (λ (us : List Window). Within us ws) same (still_within ws f))
    (cases_Bool noticed)
