-- Drying: which timetables it admits, and what it makes of windows.
use Rattle.std.specs.Prelude.{◌≡◌, ℕ, ◌+◌, ◌<◌, ◌≤◌, min, max, Bool, true, cond, ◌&&◌, List, length, ◌==◌, slice_index}
use Rattle.sheet.specs.declared.records.Job.{Job}
use Rattle.sheet.specs.declared.records.Link.{Link}
use Rattle.sheet.specs.declared.records.Window.{Window}
use Rattle.sheet.specs.Limits.{last_minute}
use Rattle.sheet.specs.Entries.{Entries, job, link}
use Rattle.rule.specs.Windows.{window}
use Rattle.rule.specs.Cuts.{Cut}
use Rattle.rule.specs.Bounds.{together}
use Rattle.rule.specs.Tightest.{tightest}
use Rattle.drying.specs.declared.Drying.{Drying}

-- whether glue has to dry between the two jobs of a link
abbrev pub dries : Drying → List Job → Link → Bool
dries r js l = (job js l.from).station == r.glue && (job js l.to).station == r.next

-- where it has, the second job starts no sooner than the end of the first plus the drying minutes
abbrev pub Dry : Drying → List Job → List ℕ → Link → Type 0
Dry r js t l = dries r js l ≡ true → slice_index t l.from + (job js l.from).duration + r.minutes ≤ slice_index t l.to

-- what the rule admits: the glue dries over every link
abbrev pub AllDry : Drying → Entries → List ℕ → Type 0
AllDry r e t = (i : ℕ) → i < length e.links → Dry r e.jobs t (link e.links i)

-- the first start that a link leaves its second job: 0 where nothing dries; past the last minute all starts are alike
abbrev pub dry_at : Drying → List Job → List Window → Link → ℕ
dry_at r js ws l =
    cond (dries r js l) (min ((window ws l.from).lo + (job js l.from).duration + r.minutes) (last_minute + 1)) 0

-- the first start of job k, by its window and the links to it
abbrev pub earliest_start : Drying → List Job → List Window → List Link → ℕ → ℕ
earliest_start r js ws = tightest max (λ l. l.to) (dry_at r js ws) (λ k. (window ws k).lo)

-- all first starts are worked out from the windows as handed, and then set together; the last starts stay
abbrev pub drying_cut : Drying → Entries → List Window → Cut
drying_cut r e ws = together (earliest_start r e.jobs ws e.links) (λ k. (window ws k).hi + 1) (length ws)
