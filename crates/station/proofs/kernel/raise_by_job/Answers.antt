-- What is left to show of `raise_by_job`.
use Rattle.std.proofs.Common.{◌<◌, length, ◌≢◌, ◌∙◌, arith}
use Rattle.std.proofs.lemmas.List.Sorted.{length_permutation}
use Rattle.std.proofs.lemmas.List.Sorted.{All-permutation}
use Rattle.station.proofs.Shuffles.{formed_shuffled}
use Rattle.station.proofs.Scattering.{by_job}
use Rattle.station.proofs.kernel.raise_by_job.Goals as goal

pub scatter-requires-clause-formed : goal.scatter-requires-clause-formed
scatter-requires-clause-formed g c = formed_shuffled _ _ c.raise.ensures.shuffled c.requires.formed

pub scatter-requires-clause-numbered : goal.scatter-requires-clause-numbered
scatter-requires-clause-numbered g c = All-permutation (λ t. t.job < length c.args.out.now) _ _ c.raise.ensures.shuffled c.requires.numbered

pub returns-clause-raised : goal.returns-clause-raised
returns-clause-raised g c =
    let s = c.raise.ensures.shuffled in
    by_job _ _ s _ (λ t. g.K.Kernel.earliest t c.args.tasks.now) (λ k h. c.scatter.ensures.written k h ∙ c.in_ok-raise.ensures.raised k (omega (arith, length_permutation _ _ s)))

pub returns-clause-kept : goal.returns-clause-kept
returns-clause-kept g c j a = c.scatter.ensures.kept j (All-permutation (λ t. t.job ≢ j) _ _ c.raise.ensures.shuffled a)
