-- Each word has its bytes.
use Rattle.std.proofs.Common.{◌∙◌, arith}
use Rattle.text.proofs.Spacing.{by_places}
use Rattle.commands.specs.declared.word.Word.TheVariants.{Enter, Link, Move, Close, Advance, Start, Reopen}
use Rattle.commands.proofs.Wording.{read_as}
use Rattle.commands.proofs.word.parse_word.Goals as goal

pub returns-in-enter : goal.returns-in-enter
returns-in-enter c = read_as _ Enter (by_places 5 c.args.bytes.now (omega arith) ∙ cc)

pub returns-in-link : goal.returns-in-link
returns-in-link c = read_as _ Link (by_places 4 c.args.bytes.now (omega arith) ∙ cc)

pub returns-in-move : goal.returns-in-move
returns-in-move c = read_as _ Move (by_places 4 c.args.bytes.now (omega arith) ∙ cc)

pub returns-in-close : goal.returns-in-close
returns-in-close c = read_as _ Close (by_places 5 c.args.bytes.now (omega arith) ∙ cc)

pub returns-in-advance : goal.returns-in-advance
returns-in-advance c = read_as _ Advance (by_places 7 c.args.bytes.now (omega arith) ∙ cc)

pub returns-in-start : goal.returns-in-start
returns-in-start c = read_as _ Start (by_places 5 c.args.bytes.now (omega arith) ∙ cc)

pub returns-in-reopen : goal.returns-in-reopen
returns-in-reopen c = read_as _ Reopen (by_places 6 c.args.bytes.now (omega arith) ∙ cc)
