-- The limits of a sheet.
use Rattle.std.specs.Prelude.{ℕ}

abbrev pub most_jobs : ℕ
most_jobs = 48

abbrev pub most_links : ℕ
most_links = 96

abbrev pub last_station : ℕ
last_station = 7

abbrev pub longest_duration : ℕ
longest_duration = 2000

abbrev pub longest_wait : ℕ
longest_wait = 2000

-- the last minute that a release, a due time or a start may have
abbrev pub last_minute : ℕ
last_minute = 40000
