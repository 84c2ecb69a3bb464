-- One link more.
use Rattle.std.proofs.Common.{◌+◌, ◌<◌, List, length, refl, subst, arith}
use Rattle.std.proofs.lemmas.List.{take_all}
use Rattle.sheet.specs.declared.records.Link.{Link}
use Rattle.sheet.specs.Entries.{link}
use Rattle.rule.specs.Windows.{window}
use Rattle.rule.specs.Forming.{formed_fact}
use Rattle.rule.proofs.Setting.{Bounded, bounded_copy, bounded_all, raised_by_link, lowered_by_link}
use Rattle.route.specs.Route.{start_after, past_before, earliest_start, past_latest_start}
use Rattle.route.proofs.tighten.Goals as goal

pub overflow_add-lo : goal.overflow_add-lo
overflow_add-lo c =
    let f = formed_fact c.args.windows.now c.requires.formed in
    let l = link c.args.links.now c.loop-link.link-index in
    let linked = c.requires.linked c.loop-link.link-index c.loop-link-test.true in
    let from : l.from < length c.args.windows.now = omega (arith, linked.0, f.count) in
    omega (arith, f.ordered l.from from, f.timely l.from from, (c.requires.entered l.from linked.0).2, linked.3)

pub loop-link-init : goal.loop-link-init
loop-link-init c = bounded_copy _ _ c.requires.copy

pub loop-link-preserved : goal.loop-link-preserved
loop-link-preserved c =
    let js = c.args.jobs.now in
    let ws = c.args.windows.now in
    let ls = c.args.links.now in
    let i = c.loop-link.link-index in
    let here = c.loop-link-test.true in
    let f = formed_fact ws c.requires.formed in
    let linked = c.requires.linked i here in
    lowered_by_link (λ l. l.from) (past_before js ws) (λ k. (window ws k).hi + 1) _ ws _ ls i here (omega (arith, linked.0, f.count)) c.min.result c.saturating_sub-hi.result
    (raised_by_link (λ l. l.to) (start_after js ws) (λ k. (window ws k).lo) _ ws _ ls i here (omega (arith, linked.1, f.count)) c.max.result _ c.loop-link.invariant refl c.max.ensures)
    (omega (arith, c.saturating_sub-hi.ensures)) c.min.ensures

pub returns : goal.returns
returns c =
    let js = c.args.jobs.now in
    let ws = c.args.windows.now in
    bounded_all _ _ ws _ (subst (λ (ms : List Link). Bounded (earliest_start js ws ms) (past_latest_start js ws ms) ws c.loop-link.narrowed) (take_all _ _ c.loop-link-test.false) c.loop-link.invariant)
