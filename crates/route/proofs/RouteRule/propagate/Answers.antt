-- The narrowed copy is put in place if it is fine, and the rule is dead if not.
use Rattle.std.proofs.Common.{◌≡◌, length, sym, ap, ◌∙◌}
use Rattle.arrayvec.proofs.ArrayVecLemmas.{items-with_items}
use Rattle.sheet.specs.Sheets.{entries}
use Rattle.rule.specs.Cuts.{Cut, verdict_of, left}
use Rattle.rule.specs.Bounds.{if_fine}
use Rattle.rule.specs.Forming.{formed_fact}
use Rattle.sheet.proofs.Soundness.{sheet_sound}
use Rattle.rule.proofs.Setting.{as_entered}
use Rattle.route.specs.Route.{route_cut}
use Rattle.route.specs.Links.{narrowed, route_if_fine}
use Rattle.route.proofs.RouteRule.propagate.Goals as goal

pub returns : goal.returns
returns c =
    let e = entries c.args.sheet.now in
    let ws = c.args.windows.now in
    let handed : c.as_slice.result.now ≡ c.tighten.new.narrowed =
    c.as_slice.ensures.value ∙ items-with_items c.copy_of-narrowed.result _ (c.tighten.auto.narrowed ∙ ap length c.as_mut_slice.ensures.value) in
    let is : route_cut e ws ≡ if_fine c.as_slice.result.now =
    route_if_fine e (sheet_sound c.args.sheet.now) ws (formed_fact ws c.requires) _
    (handed ∙ as_entered (narrowed ws) e _ _ _ c.jobs.ensures c.links.ensures c.tighten.ensures) in
    record { answer = c.put_in_place.ensures.answer ∙ ap verdict_of (sym is); after = c.put_in_place.ensures.after ∙ ap (λ (x : Cut). left x ws) (sym is) }
