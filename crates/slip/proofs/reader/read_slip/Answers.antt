-- The law follows from what was read.
use Rattle.sheet.specs.Sheets.{entries}
use Rattle.slip.proofs.Law.{reader_law}
use Rattle.slip.proofs.reader.read_slip.Goals as goal

pub returns : goal.returns
returns c =
    let a = c.read_bytes.ensures.answer in
    let s = c.read_bytes.ensures.sheet in
    record { answer = a; sheet = s; law = reader_law c.args.bytes.now c.read_bytes.result (entries c.read_bytes.new.sheet) a s }
