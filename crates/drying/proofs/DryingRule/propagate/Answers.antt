-- The raised copy is put in place if it is fine, and the rule is dead if not.
use Rattle.std.proofs.Common.{◌≡◌, length, sym, ap, ◌∙◌, arith}
use Rattle.arrayvec.proofs.ArrayVecLemmas.{items-with_items}
use Rattle.sheet.specs.Sheets.{entries}
use Rattle.rule.specs.Cuts.{Cut, verdict_of, left}
use Rattle.rule.specs.Bounds.{if_fine}
use Rattle.rule.specs.Forming.{formed_fact}
use Rattle.rule.proofs.Setting.{as_entered, together_if_fine}
use Rattle.drying.specs.Drying.{drying_cut}
use Rattle.drying.specs.Links.{earliest_not_sooner, raised}
use Rattle.drying.proofs.DryingRule.propagate.Goals as goal

pub returns : goal.returns
returns c =
    let e = entries c.args.sheet.now in
    let ws = c.args.windows.now in
    let handed : c.as_slice.result.now ≡ c.raise.new.narrowed =
    c.as_slice.ensures.value ∙ items-with_items c.copy_of-narrowed.result _ (c.raise.auto.narrowed ∙ ap length c.as_mut_slice.ensures.value) in
    let r = c.args.self.now in
    let is : drying_cut r e ws ≡ if_fine c.as_slice.result.now =
    together_if_fine _ _ ws _ (handed ∙ as_entered (raised r ws) e _ _ _ c.jobs.ensures c.links.ensures c.raise.ensures) (formed_fact ws c.requires)
    (earliest_not_sooner r e.jobs ws e.links) (λ k. omega arith) (λ t k h. omega arith) in
    record { answer = c.put_in_place.ensures.answer ∙ ap verdict_of (sym is); after = c.put_in_place.ensures.after ∙ ap (λ (x : Cut). left x ws) (sym is) }
