-- The laws of the kernels.
use Rattle.std.specs.Prelude.{◌+◌, ◌-◌, false, refl}
use Rattle.station.specs.Edges.{earliest_completion, edges_earliest, edges_limit, edges_overloaded, ends_last, limit_before, starts_first}
use Rattle.station.specs.Kernels.{Lawful}
use Rattle.station.specs.NotFirst.{not_first, not_first_earliest, not_first_limit, not_last}
use Rattle.station.specs.Pairs.{comes_after, pairs_earliest, pairs_limit}
use Rattle.station.specs.Sets.{greatest, least, others, sublists}
use Rattle.station.specs.Tasks.{ect, last_start, own_limit}
use Rattle.station.specs.Bounds.{at_least_ge, at_most_le}
use Rattle.station.specs.Mirroring.{edges_mirrored, not_first_mirrored, overloaded_mirrored, pairs_mirrored}
use Rattle.station.specs.Preserving.{edges_checks, edges_keeps, edges_roomy, not_first_checks, not_first_keeps, pairs_checks, pairs_keeps}

pub pairs_lawful : Lawful (λ _. false) pairs_earliest pairs_limit
pairs_lawful = record {
  rises = λ i U. at_least_ge (comes_after i) ect i.lo (others i U);
  falls = λ i U. at_most_le (λ j. comes_after j i) (λ j. last_start j + 1 - i.span) (own_limit i) (others i U);
  roomy = λ st U p. refl;
  keeps = pairs_keeps;
  checks = λ U f s o b. pairs_checks U f s b;
  mirrored = pairs_mirrored;
  mirrored_load = λ U f. refl;
}

pub edges_lawful : Lawful edges_overloaded edges_earliest edges_limit
edges_lawful = record {
  rises = λ i U. at_least_ge (ends_last i) earliest_completion i.lo (sublists (others i U));
  falls = λ i U. at_most_le (starts_first i) (limit_before i) (own_limit i) (sublists (others i U));
  roomy = edges_roomy;
  keeps = edges_keeps;
  checks = λ U f s o b. edges_checks U f s b;
  mirrored = edges_mirrored;
  mirrored_load = overloaded_mirrored;
}

pub not_first_lawful : Lawful (λ _. false) not_first_earliest not_first_limit
not_first_lawful = record {
  rises = λ i U. at_least_ge (not_first i) (λ S. least ect S) i.lo (sublists (others i U));
  falls = λ i U. at_most_le (not_last i) (λ S. greatest last_start S + 1 - i.span) (own_limit i) (sublists (others i U));
  roomy = λ st U p. refl;
  keeps = not_first_keeps;
  checks = λ U f s o b. not_first_checks U f s b;
  mirrored = not_first_mirrored;
  mirrored_load = λ U f. refl;
}
