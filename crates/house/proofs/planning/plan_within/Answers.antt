-- What planning owes with any pile, in the hall's words for the house pile.
use Rattle.report.specs.Planning.{told}
use Rattle.house.proofs.Working.{halls_words}
use Rattle.house.proofs.planning.plan_within.Goals as goal

pub returns : goal.returns
returns c = record {
  told = c.plan_with.ensures.told;
  hall = halls_words c.args.bytes.now c.args.looks c.args.room (told c.plan_with.result) c.plan_with.ensures.owes;
}
