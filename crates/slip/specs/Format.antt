-- The bounds of a slip, and the letters that begin its lines.
use Rattle.std.specs.Prelude.{ℕ}

-- how many bytes a slip has
abbrev pub longest_slip : ℕ
longest_slip = 4096

-- how many digits a number has
abbrev pub most_digits : ℕ
most_digits = 5

abbrev pub letter_J : ℕ
letter_J = 74

abbrev pub letter_L : ℕ
letter_L = 76

abbrev pub letter_E : ℕ
letter_E = 69
