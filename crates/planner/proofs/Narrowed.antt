-- What the laws of a pile give of the windows of a search: they are well formed, and a job that is split has room on the path.
use Rattle.std.proofs.Common.{◌≡◌, ℕ, ◌<◌, true, List, ◌∷◌, length, sym, ap, ◌∙◌, subst}
use Rattle.sheet.specs.declared.records.Window.{Window}
use Rattle.sheet.proofs.Soundness.{sheet_sound}
use Rattle.rule.specs.Windows.{window, formed, Formed}
use Rattle.rule.specs.Cuts.{Cut, live, repeated}
use Rattle.rule.specs.Laws.{Lawful}
use Rattle.rule.specs.Forming.{formed_test}
use Rattle.search.specs.declared.decision.Decision.{Decision}
use Rattle.search.specs.Choosing.{Narrowest}
use Rattle.search.specs.Deciding.{decision_on, Grown}
use Rattle.search.specs.Entered.{entered_windows}
use Rattle.search.specs.Looks.{path_of, backtracked}
use Rattle.search.specs.Paths.{most_decisions}
use Rattle.search.proofs.Depth.{path_short}
use Rattle.search.proofs.Halving.{cut_formed, grown_more, grown_backtracked}
use Rattle.search.proofs.Looking.{entered_formed, branch_splits}
use Rattle.search.proofs.Standing.{standstill_within, standstill_formed}
use Rattle.planner.specs.declared.state.Search.{Search}
use Rattle.planner.specs.States.{entries_of, path_in, windows_in}

module _ {P : Type 0} (s : Search P) where
  pub path_formed : Formed (length (entries_of s).jobs) (windows_in s)
  path_formed = cut_formed (entered_windows (entries_of s)) (path_in s) (entered_formed (entries_of s) (sheet_sound s.draft.sheet)) s.grown

  pub set_formed : (vs : List Window) → vs ≡ windows_in s → formed (length (entries_of s).jobs) vs ≡ true
  set_formed vs e = ap (formed (length (entries_of s).jobs)) e ∙ formed_test _ path_formed

  -- a path that went back still grew from the entered windows
  pub back_grown : (q : List Decision) → q ≡ path_of (backtracked (path_in s)) → Grown (entered_windows (entries_of s)) q
  back_grown q e = subst (Grown (entered_windows (entries_of s))) (sym e) (grown_backtracked (entered_windows (entries_of s)) (path_in s) s.grown)

  module _ {admits : List ℕ → Type 0} {cut : List Window → Cut} (laws : Lawful (length (entries_of s).jobs) admits cut) (ws : List Window) (still : repeated cut (windows_in s) ≡ live ws) where
    pub narrowed_formed : Formed (length (entries_of s).jobs) ws
    narrowed_formed = standstill_formed laws _ ws path_formed still

    -- the decision on a job that is chosen lengthens a path that grew
    longer_grown : (k : ℕ) → Narrowest ws k → Grown (entered_windows (entries_of s)) (decision_on k (window ws k) ∷ path_in s)
    longer_grown k x =
        grown_more (entered_windows (entries_of s)) _ (path_in s) (branch_splits ws _ k (standstill_within laws _ ws path_formed still) x) s.grown

    -- so that there is a place for it
    pub room_left : (k : ℕ) → Narrowest ws k → length (path_in s) < most_decisions
    room_left k x =
        let sound = sheet_sound s.draft.sheet in
        path_short (entered_windows (entries_of s)) (decision_on k (window ws k) ∷ path_in s) sound.few_jobs (entered_formed (entries_of s) sound) (longer_grown k x)

    pub pushed_grown : (k : ℕ) (d : Decision) (p : List Decision) → Narrowest ws k → d ≡ decision_on k (window ws k) → p ≡ d ∷ path_in s → Grown (entered_windows (entries_of s)) p
    pushed_grown k d p x a b =
        subst (Grown (entered_windows (entries_of s))) (sym (b ∙ ap (λ (y : Decision). y ∷ path_in s) a)) (longer_grown k x)
