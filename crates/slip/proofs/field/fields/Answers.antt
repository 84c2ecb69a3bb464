-- The fields stand after the first space.
use Rattle.std.proofs.Common.{sym, ◌∙◌, arith}
use Rattle.slip.proofs.Spelling.{space_first}
use Rattle.slip.proofs.field.fields.Goals as goal

pub returns-in-32 : goal.returns-in-32
returns-in-32 g c = c.numbers.ensures ∙ sym (space_first c.args.text.now c.in-32.len_at_least (omega arith) g.row.N)
