-- The standstill comes to where repeating its rule comes.
use Rattle.std.proofs.Common.{refl}
use Rattle.rule.specs.Forming.{formed_fact}
use Rattle.rule.specs.Repeating.{repeats}
use Rattle.rule.proofs.standstill.Standstill.of.Goals as goal

pub returns : goal.returns
returns g c = record {
  rule = refl;
  repeats = λ e ws s h. repeats _ _ (g.met.A.Rule.lawful c.args.rule e s).contracting ws (formed_fact ws h);
}
