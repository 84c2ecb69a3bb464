-- The number and the word of each outcome.
use Rattle.std.specs.Prelude.{ℕ, List, codes}
use Rattle.search.specs.declared.outcome.Outcome.{Outcome}
use Rattle.search.specs.declared.outcome.Outcome.TheVariants.{Open, Found, Impossible}

abbrev pub outcome_number : Outcome → ℕ
outcome_number Open = 0
outcome_number Found = 1
outcome_number Impossible = 2

abbrev pub outcome_word : Outcome → List ℕ
outcome_word Open = codes "open"
outcome_word Found = codes "found"
outcome_word Impossible = codes "impossible"
