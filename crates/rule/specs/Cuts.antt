-- What a rule makes of windows, what a call then answers, and cuts one after the other.
use Rattle.std.specs.Prelude.{ℕ, zero, suc, ◌+◌, ◌-◌, Bool, true, false, cond, List, [], ◌∷◌, Ok, Err, Result}
use Rattle.sheet.specs.declared.records.Window.{Window}
use Rattle.sheet.specs.declared.refusal.Refusal.{Refusal}
use Rattle.sheet.specs.declared.refusal.Refusal.TheVariants.{MalformedWindows}
use Rattle.rule.specs.declared.verdict.Dead.{Dead}
use Rattle.rule.specs.Windows.{same}

pub data Cut : Type 0 where
  dead : Cut
  live : List Window → Cut

-- whether a timetable may still lie within the windows
abbrev pub Verdict : Type 0
Verdict = Result (Unit {0}) Dead

abbrev pub verdict_number : Verdict → ℕ
verdict_number (Ok u) = 0
verdict_number (Err d) = 1

abbrev pub verdict_of : Cut → Verdict
verdict_of dead = Err (record {})
verdict_of (live vs) = Ok tt

-- what the windows then are: left where the rule is dead
abbrev pub left : Cut → List Window → List Window
left dead ws = ws
left (live vs) ws = vs

-- the same of a call that tests first whether the windows are well formed
abbrev pub answer_of : Bool → Cut → Result Verdict Refusal
answer_of false c = Err MalformedWindows
answer_of true c = Ok (verdict_of c)

abbrev pub after : Bool → Cut → List Window → List Window
after false c ws = ws
after true c ws = left c ws

-- one cut, and then another of what it left
abbrev pub then_cut : Cut → (List Window → Cut) → Cut
then_cut dead f = dead
then_cut (live vs) f = f vs

-- how many starts the windows leave beyond one each
abbrev pub width : List Window → ℕ
width [] = 0
width (w ∷ ws) = (w.hi - w.lo) + width ws

-- a cut again and again, at most n times, until it is dead or changes nothing
abbrev pub repeated_for : (List Window → Cut) → ℕ → List Window → Cut
repeated_for f zero ws = live ws
repeated_for f (suc n) ws = then_cut (f ws) (λ vs. cond (same vs ws) (live vs) (repeated_for f n vs))

-- a cut that changes something lowers the width, so that many times is always enough: see the law Repeats
abbrev pub repeated : (List Window → Cut) → List Window → Cut
repeated f ws = repeated_for f (suc (width ws)) ws
