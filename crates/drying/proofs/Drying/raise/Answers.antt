-- One link more.
use Rattle.std.proofs.Common.{◌+◌, List, subst, arith}
use Rattle.std.proofs.lemmas.List.{take_all}
use Rattle.sheet.specs.declared.records.Link.{Link}
use Rattle.rule.specs.Windows.{window}
use Rattle.rule.proofs.Setting.{Bounded, bounded_copy, bounded_all, raised_by_link}
use Rattle.drying.specs.Drying.{dry_at, earliest_start}
use Rattle.drying.proofs.Drying.raise.Goals as goal

pub loop-link-init : goal.loop-link-init
loop-link-init c = bounded_copy _ _ c.requires.copy

pub loop-link-preserved : goal.loop-link-preserved
loop-link-preserved c =
    let ws = c.args.windows.now in
    let i = c.loop-link.link-index in
    let linked = c.requires.linked i c.loop-link-test.true in
    raised_by_link (λ l. l.to) (dry_at c.args.self.now c.args.jobs.now ws) (λ k. (window ws k).lo) _ ws _ c.args.links.now i c.loop-link-test.true (omega (arith, linked.1))
    c.max.result c.dry_at-dry.result c.loop-link.invariant c.dry_at-dry.ensures c.max.ensures

pub returns : goal.returns
returns c =
    let ws = c.args.windows.now in
    bounded_all _ _ ws _
    (subst (λ (ms : List Link). Bounded (earliest_start c.args.self.now c.args.jobs.now ws ms) (λ k. (window ws k).hi + 1) ws c.loop-link.narrowed) (take_all _ _ c.loop-link-test.false) c.loop-link.invariant)
