-- An accepted advance of the closed draft keeps the promise.
use Rattle.std.proofs.Common.{[], ap, rules}
use Rattle.sheet.specs.Sheets.{entries}
use Rattle.sheet.proofs.Soundness.{sheet_sound}
use Rattle.report.proofs.Planned.{promised}
use Rattle.report.proofs.planning.plan_draft.Goals as goal

pub returns-clause-owes : goal.returns-clause-owes
returns-clause-owes g c =
    let same = ap entries c.close-search.ensures.sheet in (
      search rules,
      sheet_sound c.args.draft.sheet,
      search rules,
      promised g.P.Rule.admits c.close-search.ensures.pile same (c.in_ok-looks.ensures.promise [] c.close-search.ensures.state),
    )
