-- What the house pile makes of windows, and which timetables it admits.
use Rattle.std.specs.Prelude.{ℕ, List}
use Rattle.sheet.specs.declared.records.Window.{Window}
use Rattle.sheet.specs.Entries.{Entries}
use Rattle.rule.specs.Cuts.{Cut, then_cut, repeated}
use Rattle.route.specs.Route.{AllHold, route_cut}
use Rattle.disjunctive.specs.Disjoint.{Disjoint}
use Rattle.disjunctive.specs.StationCuts.{pairs_cut, edges_cut, not_first_cut}

-- Pairs, Edges and Not-first in this order
abbrev pub stations_cut : Entries → List Window → Cut
stations_cut e ws = then_cut (pairs_cut e.jobs ws) (λ vs. then_cut (edges_cut e.jobs vs) (not_first_cut e.jobs))

-- Route, and then the standstill of these
abbrev pub house_cut : Entries → List Window → Cut
house_cut e ws = then_cut (route_cut e ws) (repeated (stations_cut e))

abbrev pub house_admits : Entries → List ℕ → Type 0
house_admits e t = AllHold e t × (Disjoint e.jobs t × (Disjoint e.jobs t × Disjoint e.jobs t))
