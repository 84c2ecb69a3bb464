-- The two passes of not-first, turn by turn.
use Rattle.std.proofs.Common.{◌≡◌, ℕ, suc, ◌+◌, ◌-◌, ◌<◌, ◌≤◌, min, max, ltb, List, length, get_or, drop, set, sym, ap, ◌∙◌, arith, drop-cons}
use Rattle.std.proofs.lemmas.Bool.{cond-true, cond-false, and_from, and_left, and_right, le-leb, lt-leb, lt-ltb, le-ltb}
use Rattle.station.specs.declared.task.Task.{Task}
use Rattle.station.specs.EdgesPasses.{work_of}
use Rattle.station.specs.Limits.{most_work}
use Rattle.station.specs.NotFirstPasses.{complete_from, raised_by_sooner, slack}
use Rattle.station.specs.Tasks.{at, ect, no_task}
use Rattle.station.proofs.NotFirstExact.{by_sooner, slack_no, slack_yes}
use Rattle.station.proofs.Passes.{Pass, inside, pass_same, pass_set, same_figure, same_work}
use Rattle.station.specs.Works.{span_no, span_yes, work_here}

-- one place further down
module _ (e : ℕ) (U : List Task) (j : ℕ) (h : j < length U) where
  work_yes : e ≤ ect (at U j) → work_of (complete_from e) (drop j U) ≡ (at U j).span + work_of (complete_from e) (drop (suc j) U)
  work_yes y = omega (arith, work_here (complete_from e) U j h, span_yes (complete_from e) (at U j) (le-leb _ _ y))

  work_no : ect (at U j) < e → work_of (complete_from e) (drop j U) ≡ work_of (complete_from e) (drop (suc j) U)
  work_no y = omega (arith, work_here (complete_from e) U j h, span_no (complete_from e) (at U j) (lt-leb _ _ y))

  slack_ready : e ≤ ect (at U j) → slack e (drop j U) ≡ min (slack e (drop (suc j) U)) ((at U j).end + most_work - ((at U j).span + work_of (complete_from e) (drop (suc j) U)))
  slack_ready y = ap (slack e) (drop-cons U j no_task h) ∙ slack_yes e (at U j) (drop (suc j) U) y

  slack_past : ect (at U j) < e → slack e (drop j U) ≡ slack e (drop (suc j) U)
  slack_past y = ap (slack e) (drop-cons U j no_task h) ∙ slack_no e (at U j) (drop (suc j) U) y

-- the pass down has come to place k, from the bounds xs to ys
abbrev pub Sooner : ℕ → List Task → List ℕ → List ℕ → ℕ → ℕ → ℕ → Type 0
Sooner e U xs ys k w g = Pass (work_of (complete_from e)) (slack e) (raised_by_sooner e U) U xs ys k w g

module _ (e : ℕ) (U : List Task) (xs ys : List ℕ) (k w g j : ℕ) (d : Sooner e U xs ys k w g) (s : k ≡ suc j) where
  here_inside : j < length U
  here_inside = inside _ _ _ _ _ _ _ _ _ _ d s

  behind_work : w ≡ work_of (complete_from e) (drop (suc j) U)
  behind_work = same_work _ _ _ _ _ _ _ _ _ _ d s

  behind_slack : g ≡ slack e (drop (suc j) U)
  behind_slack = same_figure _ _ _ _ _ _ _ _ _ _ d s

  pub sooner_pass : ect (at U j) < e → Sooner e U xs ys j w g
  sooner_pass y =
      pass_same _ _ _ U xs ys k w g j d s w g (behind_work ∙ sym (work_no e U j here_inside y)) (behind_slack ∙ sym (slack_past e U j here_inside y))
      (sym (cond-false (by_sooner e U j) _ _ (and_left _ _ (lt-leb _ _ y))))

  module _ (y : e ≤ ect (at U j)) (r : ℕ) (rg : r ≡ min g ((at U j).end + most_work - (w + (at U j).span))) where
    more_work : w + (at U j).span ≡ work_of (complete_from e) (drop j U)
    more_work = omega (arith, behind_work, work_yes e U j here_inside y)

    new_slack : r ≡ slack e (drop j U)
    new_slack = omega (arith, behind_work, behind_slack, slack_ready e U j here_inside y)

    pub sooner_raise : g < ect (at U j) + most_work → j < length ys → (x : ℕ) → x ≡ max (get_or ys j 0) e → Sooner e U xs (set ys j x) j (w + (at U j).span) r
    sooner_raise c l x xt =
        pass_set _ _ _ U xs ys k w g j d s (w + (at U j).span) r more_work new_slack x l
        (xt ∙ sym (cond-true (by_sooner e U j) _ _ (and_from _ _ (le-leb _ _ y) (lt-ltb _ _ (omega (arith, behind_slack))))))

    pub sooner_keep : ect (at U j) + most_work ≤ g → Sooner e U xs ys j (w + (at U j).span) r
    sooner_keep c =
        pass_same _ _ _ U xs ys k w g j d s (w + (at U j).span) r more_work new_slack
        (sym (cond-false (by_sooner e U j) _ _ (and_right (complete_from e (at U j)) (ltb (slack e (drop (suc j) U)) (ect (at U j) + most_work)) (le-ltb _ _ (omega (arith, behind_slack))))))
