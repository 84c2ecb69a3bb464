-- The bytes that part a text.
use Rattle.std.specs.Prelude.{ℕ}

abbrev pub line_end : ℕ
line_end = 10

abbrev pub space : ℕ
space = 32
