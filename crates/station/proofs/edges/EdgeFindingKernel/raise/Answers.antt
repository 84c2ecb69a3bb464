-- What is left to show of `raise`.
use Rattle.std.proofs.Common.{◌≡◌, ◌≤◌, sym, ◌∙◌, Bool, false, Result, Ok, Err, is_err, OnOk, rules, arith}
use Rattle.std.proofs.lemmas.List.Sorted.{IsNonDecreasingBy-from_sort, answers_always, length_permutation}
use Rattle.station.specs.declared.kernel.Overload.{Overload}
use Rattle.station.specs.Pairwise.{pairwise_from}
use Rattle.station.specs.Tasks.{no_task}
use Rattle.station.proofs.Shuffles.{same_shuffled}
use Rattle.station.proofs.EdgesFigures.{Rising}
use Rattle.station.proofs.EdgesExact.{overload_exact, passes_exact}
use Rattle.station.proofs.edges.EdgeFindingKernel.raise.Goals as goal

-- what follows where the station is not overloaded
calm : (P Q : Type 0) (r : Result (Unit {0}) Overload) (b : Bool) → is_err r ≡ b → OnOk r P → (b ≡ false → P → Q) → OnOk r Q
calm P Q (Ok x) b e p f = f (sym e) p
calm P Q (Err x) b e p f = tt

pub returns : goal.returns
returns c =
    let L = c.args.tasks.now in
    let U = c.sort_starts.new.tasks in
    let same = same_shuffled L U c.sort_starts.ensures.shuffled in
    let ordered = IsNonDecreasingBy-from_sort (λ t. t.lo) U (c.sort_starts.ensures.ordered (λ t. t.lo) (answers_always _ _ _ (λ f a r g h. search rules))) in
    let rising : Rising U = pairwise_from (λ s t. s.lo ≤ t.lo) U (λ j k h l. ordered j k no_task (omega arith) l) in
    record {
      load = c.raise_by_all.ensures.load ∙ overload_exact L U same c.requires.formed rising;
      shuffled = c.sort_starts.ensures.shuffled;
      raised = calm _ _ _ _ c.raise_by_all.ensures.load c.raise_by_all.ensures.lows (λ e p q h.
          let k = length_permutation L U c.sort_starts.ensures.shuffled in
          p q (omega arith) ∙ passes_exact L U same c.requires.formed rising q (omega arith) e);
    }
