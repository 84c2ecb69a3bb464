-- What is left to show of `raise`.
use Rattle.std.proofs.Common.{◌≤◌, ◌∙◌, rules, arith}
use Rattle.std.proofs.lemmas.List.MinMax.{ranks_by, IsStrictWeakOrder-flip}
use Rattle.std.proofs.lemmas.List.Sorted.{answers_always, length_permutation, sorted_far}
use Rattle.std.proofs.lemmas.Map.Keys.{ge_from_not_lt}
use Rattle.std.specs.Cmp.{nat_cmp_total}
use Rattle.std.specs.Ordering.{is_lt, nat_cmp}
use Rattle.station.specs.Pairwise.{pairwise_from}
use Rattle.station.specs.Tasks.{no_task}
use Rattle.station.proofs.Shuffles.{same_shuffled}
use Rattle.station.proofs.NotFirstExact.{Falling, not_first_exact}
use Rattle.station.proofs.not_first.NotFirstNotLastKernel.raise.Goals as goal

pub returns-clause-raised : goal.returns-clause-raised
returns-clause-raised c q h =
    let sorted = c.sort_starts.ensures in
    let U = c.sort_starts.new.tasks in
    let k = length_permutation _ _ sorted.shuffled in
    let ordered = sorted_far (λ s t. is_lt (nat_cmp t.end s.end)) (IsStrictWeakOrder-flip _ (ranks_by nat_cmp_total (λ t. t.end))) U (sorted.ordered (λ t. record { 0 = t.end }) (answers_always _ _ _ (λ f a r g h. search rules))) in
    let falling : Falling U = pairwise_from (λ s t. t.end ≤ s.end) U (λ j k h l. ge_from_not_lt _ _ (ordered j k no_task (omega arith) l)) in
    c.raise_from_all.ensures q (omega arith) ∙ not_first_exact _ U (same_shuffled _ U sorted.shuffled) c.requires.formed sorted.formed falling q (omega arith)
