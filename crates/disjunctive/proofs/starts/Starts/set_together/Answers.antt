-- What is left to show of `set_together`.
use Rattle.std.proofs.Common.{◌≡◌, ◌∙◌, true, length, sym, ap, arith, ext_get_or}
use Rattle.std.proofs.lemmas.Bool.{cond-true}
use Rattle.rule.specs.Bounds.{all_open, between, tabulate, together}
use Rattle.rule.specs.Cuts.{Cut, live, left}
use Rattle.rule.specs.Forming.{formed_fact}
use Rattle.rule.specs.Windows.{window_of}
use Rattle.rule.proofs.Bounding.{open_at, tabulate_at, tabulate_length}
use Rattle.disjunctive.proofs.Running.{low_of, limit_of}
use Rattle.disjunctive.proofs.starts.Starts.set_together.Goals as goal

pub overflow_sub-hi : goal.overflow_sub-hi
overflow_sub-hi c =
    let s = c.args.self.now in
    let f = formed_fact c.args.windows.now c.requires.formed in
    let room = open_at (low_of s.lows) (limit_of c.args.jobs.now s.backs) _ c.loop-number.number (sym c.all_open.ensures ∙ c.if-not-all_open.false) (omega (arith, f.count, c.loop-number-test.true)) in
    omega (arith, c.limit-hi.ensures)

pub returns-clause-after : goal.returns-clause-after
returns-clause-after c =
    let lo = low_of c.args.self.now.lows in
    let end = limit_of c.args.jobs.now c.args.self.now.backs in
    let n = length c.args.windows.now in
    let f = formed_fact c.args.windows.now c.requires.formed in
    let all : all_open lo end n ≡ true = ap (all_open lo end) f.count ∙ sym c.all_open.ensures ∙ c.if-not-all_open.false in
    let live_ : together lo end n ≡ live (tabulate (between lo end) n) = cond-true (all_open lo end n) _ _ all in
    let set : c.loop-number.windows ≡ tabulate (between lo end) n =
    ext_get_or (window_of 0 0) _ _ (c.loop-number.auto.windows ∙ sym (tabulate_length (between lo end) n))
    (λ k h. c.loop-number.invariant k (omega (arith, c.loop-number-test.false, c.loop-number.auto.windows)) ∙ sym (tabulate_at (between lo end) n k (omega (arith, c.loop-number.auto.windows)))) in
    set ∙ ap (λ (x : Cut). left x c.args.windows.now) (sym live_)
