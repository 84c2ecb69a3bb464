-- The lines that are left give from here what all lines give from the start, and no place passes the bytes.
use Rattle.std.proofs.Common.{◌≡◌, ◌+◌, ◌≤◌, length}
use Rattle.sheet.specs.Sheets.{entries}
use Rattle.text.specs.Bytes.{line_end}
use Rattle.slip.specs.Format.{longest_slip}
use Rattle.text.specs.Splitting.{split}
use Rattle.slip.specs.Reading.{read_lines}
use Rattle.slip.proofs.reader.read_lines.Given as goal

abbrev pub invariant-loop-line : goal.invariant-loop-line
invariant-loop-line l =
    (read_lines l.at (entries l.sheet) (split line_end l.rest) ≡ read_lines l.initial.at (entries l.initial.sheet) (split line_end l.initial.rest))
    × (l.at.place + length l.rest ≤ longest_slip)
    × (l.at.line ≤ l.at.place + 1)

abbrev pub decreases-loop-line : goal.decreases-loop-line
decreases-loop-line l = length l.rest
