-- One line more is read.
use Rattle.std.proofs.Common.{◌∙◌, arith}
use Rattle.sheet.specs.Sheets.{entries}
use Rattle.text.specs.Bytes.{line_end}
use Rattle.text.specs.Splitting.{split}
use Rattle.slip.proofs.Steps.{line_moves, line_done}
use Rattle.slip.proofs.reader.read_lines.Goals as goal

pub loop-line-preserved : goal.loop-line-preserved
loop-line-preserved c =
    let b = entries c.loop-line.sheet in
    let d = entries c.read_line.new.sheet in
    let e = c.in_ok-at.ensures in
    let m = line_moves c.loop-line.at b c.in-Some.line.now c.in_ok-at.at d e in
    let n = c.in-Some.ensures.lengths in (
      line_done c.loop-line.at b c.in-Some.line.now c.in_ok-at.at d (split line_end c.in-Some.after.now) (split line_end c.loop-line.rest.now) c.in-Some.ensures.parts e ∙ c.loop-line.invariant.0,
      omega arith,
      omega arith,
    )
