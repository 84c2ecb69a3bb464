-- The walk passes the windows with slack, and picks the first with the least.
use Rattle.std.proofs.Common.{◌≡◌, ℕ, option_map, subst, sym, ◌∙◌, rules, tests}
use Rattle.std.proofs.lemmas.Iterator.{YieldsList-from_slice}
use Rattle.std.proofs.lemmas.Iterator.Consumers.{YieldsList-at, YieldsList-from_filter, YieldsList-from_enumerate}
use denote.Ref.{Bor}
use Rattle.sheet.specs.declared.records.Window.{Window}
use Rattle.search.specs.Choosing.{narrowest, Chooses}
use Rattle.search.proofs.Nearest.{narrowest_chooses, wide, picked, walk_chooses, number_chosen}
use Rattle.search.proofs.choosing.narrowest.Goals as goal

choice : (c : goal.After-map) → c.map.result ≡ narrowest c.args.windows.now
choice c =
    let ws = c.args.windows.now in
    let windows = YieldsList-at c.enumerate.ensures.source (YieldsList-from_slice ws cc) in
    let pick = picked (λ (x : ℕ × Bor Window). (x.0, x.1.now)) _ _ (λ x k q h. search (rules, tests)) c.min_by_key.result c.min_by_key.ensures.ran (YieldsList-from_filter _ wide (YieldsList-at c.filter.ensures.source (YieldsList-from_enumerate windows (cc))) c.filter.ensures.closure (λ x b q k. search (rules, tests))) in
    let e : c.map.result ≡ option_map (λ (x : ℕ × Bor Window). x.0) c.min_by_key.result = search rules in
    e ∙ number_chosen ws _ _ (pick ∙ walk_chooses 0 ws)

pub returns-clause-choice : goal.returns-clause-choice
returns-clause-choice c = choice c

pub returns-clause-chooses : goal.returns-clause-chooses
returns-clause-chooses c = subst (Chooses c.args.windows.now) (sym (choice c)) (narrowest_chooses c.args.windows.now)
