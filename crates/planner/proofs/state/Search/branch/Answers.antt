-- By the laws of the pile the narrowed windows are well formed, and a job that is split has a place on the path.
use Rattle.std.proofs.Common.{◌≡◌, ℕ, length, sym, ap, ◌∙◌, arith}
use Rattle.std.proofs.lemmas.List.{length-map}
use Rattle.arrayvec.specs.ArrayVec.{ArrayVec as Starts}
use Rattle.sheet.specs.declared.records.Window.{Window}
use Rattle.sheet.proofs.Soundness.{sheet_sound}
use Rattle.rule.specs.Laws.{Lawful}
use Rattle.planner.specs.declared.state.Search.{Search}
use Rattle.planner.specs.States.{entries_of, admits_in, cut_in}
use Rattle.planner.proofs.Narrowed.{narrowed_formed, room_left, pushed_grown}
use Rattle.planner.proofs.Reading.{open_not_found, open_not_impossible, impossible_not_found, found_same}
use Rattle.planner.proofs.state.Search.branch.Given as given
use Rattle.planner.proofs.state.Search.branch.Goals as goal

lawful : (g : given.Over) (s : Search g.row.P.Denot) → Lawful (length (entries_of s).jobs) (admits_in g.P.Rule.admits s) (cut_in g.P.Rule.cut s)
lawful g s = g.met.P.Rule.lawful s.draft.pile.0 (entries_of s) (sheet_sound s.draft.sheet)

pub push-requires : goal.push-requires
push-requires g c =
    let s = c.args.self.now in
    record { room = room_left s (lawful g s) c.args.windows.now c.requires.narrowed c.in-Some.job c.in-Some.ensures.chooses }

pub invariant_of-self : goal.invariant_of-self
invariant_of-self g c =
    let s = c.args.self.now in
    record {
      grown = pushed_grown s (lawful g s) c.args.windows.now c.requires.narrowed c.in-Some.job _ _ c.in-Some.ensures.chooses c.on.ensures c.push.ensures;
      one_each = (λ t e. absurd (open_not_found c.requires.open t e));
      no_path = (λ e. absurd (open_not_impossible c.requires.open e));
    }

pub first_starts-requires : goal.first_starts-requires
first_starts-requires g c =
    let s = c.args.self.now in
    let n = (narrowed_formed s (lawful g s) c.args.windows.now c.requires.narrowed).count in
    omega (arith, n, (sheet_sound s.draft.sheet).few_jobs)

pub invariant_of-self-in-None : goal.invariant_of-self-in-None
invariant_of-self-in-None g c =
    let s = c.args.self.now in
    let n = (narrowed_formed s (lawful g s) c.args.windows.now c.requires.narrowed).count in
    record {
      grown = s.grown;
      one_each = (λ t e.
          let same : c.first_starts.result ≡ t = found_same _ _ e in
          sym (ap (λ (u : Starts ℕ). length u.items) same) ∙ ap length c.first_starts.ensures ∙ length-map c.args.windows.now (λ (w : Window). w.lo) ∙ n);
      no_path = (λ e. absurd (impossible_not_found _ (sym e)));
    }
