-- The two passes of edge finding, turn by turn.
use Rattle.std.proofs.Common.{◌≡◌, ℕ, suc, ◌+◌, ◌<◌, ◌≤◌, max, cond, ltb, List, length, get_or, drop, set, sym, ap, ◌∙◌, arith, drop-cons}
use Rattle.std.proofs.lemmas.Bool.{cond-true, cond-false, le-leb, lt-leb, lt-ltb, le-ltb}
use Rattle.station.specs.declared.task.Task.{Task}
use Rattle.station.specs.EdgesPasses.{completion_before, completion_by, ends_by, raised_by_earlier, raised_by_later, work_of}
use Rattle.station.specs.Limits.{horizon, most_work}
use Rattle.station.specs.Tasks.{Formed, at, no_task}
use Rattle.station.proofs.EdgesFigures.{before_le, completion_no, completion_yes}
use Rattle.station.specs.Members.{fit_at}
use Rattle.station.proofs.Passes.{Pass, inside, pass_same, pass_set, same_figure, same_work}
use Rattle.station.proofs.Rewriting.{UpTo}
use Rattle.station.specs.Works.{span_no, span_yes, work_here, work_most}

-- one place further down
module _ (b : ℕ) (U : List Task) (j : ℕ) (h : j < length U) where
  pub work_held : (at U j).end ≤ b → work_of (ends_by b) (drop j U) ≡ (at U j).span + work_of (ends_by b) (drop (suc j) U)
  work_held e = omega (arith, work_here (ends_by b) U j h, span_yes (ends_by b) (at U j) (le-leb _ _ e))

  work_free : b < (at U j).end → work_of (ends_by b) (drop j U) ≡ work_of (ends_by b) (drop (suc j) U)
  work_free e = omega (arith, work_here (ends_by b) U j h, span_no (ends_by b) (at U j) (lt-leb _ _ e))

  completion_held : (at U j).end ≤ b → completion_by b (drop j U) ≡ max (completion_by b (drop (suc j) U)) ((at U j).lo + ((at U j).span + work_of (ends_by b) (drop (suc j) U)))
  completion_held e = ap (completion_by b) (drop-cons U j no_task h) ∙ completion_yes b (at U j) (drop (suc j) U) e

  completion_free : b < (at U j).end → completion_by b (drop j U) ≡ completion_by b (drop (suc j) U)
  completion_free e = ap (completion_by b) (drop-cons U j no_task h) ∙ completion_no b (at U j) (drop (suc j) U) e

-- the pass down has come to place k, from the bounds xs to ys
abbrev pub Later : ℕ → List Task → List ℕ → List ℕ → ℕ → ℕ → ℕ → Type 0
Later b U xs ys k w t = Pass (work_of (ends_by b)) (completion_by b) (raised_by_later b U) U xs ys k w t

module _ (b : ℕ) (U : List Task) (xs ys : List ℕ) (k w t j : ℕ) (d : Later b U xs ys k w t) (s : k ≡ suc j) where
  here_inside : j < length U
  here_inside = inside _ _ _ _ _ _ _ _ _ _ d s

  behind_work : w ≡ work_of (ends_by b) (drop (suc j) U)
  behind_work = same_work _ _ _ _ _ _ _ _ _ _ d s

  behind_completion : t ≡ completion_by b (drop (suc j) U)
  behind_completion = same_figure _ _ _ _ _ _ _ _ _ _ d s

  pub later_held : (at U j).end ≤ b → (r : ℕ) → r ≡ max t ((at U j).lo + (w + (at U j).span)) → Later b U xs ys j (w + (at U j).span) r
  later_held e r rt =
      pass_same _ _ _ U xs ys k w t j d s (w + (at U j).span) r
      (omega (arith, behind_work, work_held b U j here_inside e))
      (omega (arith, behind_work, behind_completion, completion_held b U j here_inside e))
      (sym (cond-true (ends_by b (at U j)) _ _ (le-leb _ _ e)))

  abbrev needed : ℕ
  needed = (at U j).lo + ((at U j).span + work_of (ends_by b) (drop (suc j) U))

  raised : b < (at U j).end → (x : ℕ) → raised_by_later b U j x ≡ max x (cond (ltb b needed) (completion_by b (drop (suc j) U)) 0)
  raised e x = cond-false (ends_by b (at U j)) _ _ (lt-leb _ _ e)

  pub later_raise : b < (at U j).end → b < (at U j).lo + (at U j).span + w → j < length ys → (x : ℕ) → x ≡ max (get_or ys j 0) t → Later b U xs (set ys j x) j w t
  later_raise e r l x xt =
      let z : cond (ltb b needed) (completion_by b (drop (suc j) U)) 0 ≡ completion_by b (drop (suc j) U) = cond-true (ltb b needed) _ _ (lt-ltb _ _ (omega (arith, behind_work))) in
      pass_set _ _ _ U xs ys k w t j d s w t (behind_work ∙ sym (work_free b U j here_inside e)) (behind_completion ∙ sym (completion_free b U j here_inside e)) x l (omega (arith, raised e (get_or ys j 0), behind_completion))

  pub later_pass : b < (at U j).end → (at U j).lo + (at U j).span + w ≤ b → Later b U xs ys j w t
  later_pass e r =
      let z : cond (ltb b needed) (completion_by b (drop (suc j) U)) 0 ≡ 0 = cond-false (ltb b needed) _ _ (le-ltb _ _ (omega (arith, behind_work))) in
      pass_same _ _ _ U xs ys k w t j d s w t (behind_work ∙ sym (work_free b U j here_inside e)) (behind_completion ∙ sym (completion_free b U j here_inside e)) (omega (arith, raised e (get_or ys j 0)))

-- the pass up has come to place k
pub record Earlier (b : ℕ) (U : List Task) (xs ys : List ℕ) (k r p : ℕ) : Type 0 where
  pub rest : r ≡ work_of (ends_by b) (drop k U)
  pub peak : p ≡ completion_before b U k
  pub lows : UpTo 0 (raised_by_earlier b U) xs ys k

-- no sum here passes the horizon and the most work together
pub before_most : (b : ℕ) (U : List Task) (k : ℕ) → Formed U → k ≤ length U → completion_before b U k ≤ horizon + most_work
before_most b U k f h = before_le b U k (horizon + most_work) (λ j l e. let t = fit_at U f j (omega arith) in omega (arith, t.room, t.ends, work_most (ends_by b) U j f))
