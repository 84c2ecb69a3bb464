-- The first separator splits the bytes, and without one there is nothing to split.
use Rattle.std.proofs.Common.{sym, ap, ◌∙◌}
use Rattle.std.proofs.lemmas.List.{take_rest}
use Rattle.text.proofs.Splits.{cut_at, first_cut}
use Rattle.text.proofs.split.split_at.Goals as goal

pub returns-in_err-place-clause-parts : goal.returns-in_err-place-clause-parts
returns-in_err-place-clause-parts c = rw c.from_residual.ensures (first_cut c.args.separator c.args.text.now ∙ ap (cut_at c.args.separator c.args.text.now) (sym c.in_err-place.ensures))

pub returns-clause-parts : goal.returns-clause-parts
returns-clause-parts c = rw take_rest (first_cut c.args.separator c.args.text.now ∙ ap (cut_at c.args.separator c.args.text.now) (sym c.in_ok-place.ensures))
