-- What the places of a path hold.
use Rattle.std.specs.Prelude.{◌≡◌, ℕ, List, reverse, take, replicate}
use Rattle.search.specs.declared.decision.Decision.{Decision}
use Rattle.search.specs.declared.path.Path.{Path}
use Rattle.search.specs.Deciding.{blank_decision}

-- how many decisions a path has at most
abbrev pub most_decisions : ℕ
most_decisions = 768

-- the decisions on the path, the newest in front
abbrev pub decisions : Path → List Decision
decisions p = reverse (take p.depth p.places)

-- no place holds a decision yet
abbrev pub Blank : Path → Type 0
Blank p = p.places ≡ replicate most_decisions blank_decision
