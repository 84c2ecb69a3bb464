-- A rule that admits nothing and notices only where every window is a single start.
use Rattle.std.specs.Prelude.{Bool, cond, List, ◌==◌}
use Rattle.std.specs.List.{list_all}
use Rattle.sheet.specs.declared.records.Window.{Window}
use Rattle.rule.specs.Cuts.{Cut, dead, live}

-- whether every window is a single start
abbrev pub all_single : List Window → Bool
all_single ws = list_all (λ w. w.lo == w.hi) ws

abbrev pub forbid_all_cut : List Window → Cut
forbid_all_cut ws = cond (all_single ws) dead (live ws)
