-- The windows passed so far have their first starts listed.
use Rattle.std.proofs.Common.{◌≡◌, take}
use Rattle.rule.specs.Windows.{starts}
use Rattle.search.proofs.entered.first_starts.Given as goal

abbrev pub invariant-loop-window : goal.invariant-loop-window
invariant-loop-window g l = l.starts.items ≡ starts (take l.window-index l.windows)
