-- How the state of a search reads off its outcome, path and starts.
use Rattle.std.proofs.Common.{◌≡◌, ℕ, zero, suc, false, List, [], ◌∷◌, length, None, Option, sym, refl, ap, ◌∙◌, arith}
use Rattle.std.proofs.lemmas.Bool.{both_ways}
use Rattle.arrayvec.specs.ArrayVec.{ArrayVec as Starts}
use Rattle.sheet.specs.declared.records.Window.{Window}
use Rattle.sheet.specs.Entries.{Entries}
use Rattle.sheet.specs.Sheets.{entries}
use Rattle.rule.specs.declared.standstill.Standstill.{Standstill}
use Rattle.rule.specs.Windows.{starts}
use Rattle.rule.specs.Cuts.{Cut}
use Rattle.search.specs.declared.decision.Decision.{Decision}
use Rattle.search.specs.declared.decision.Part.{Part}
use Rattle.search.specs.declared.decision.Part.TheVariants.{First, Second}
use Rattle.search.specs.declared.outcome.Outcome.TheVariants as outcome
use Rattle.search.specs.Deciding.{to_second}
use Rattle.search.specs.Looks.{State, opened, found, impossible, path_of, is_open, by_part, backtracked, branched, one_look, outcome_of, after_looks, looks_made}
use Rattle.planner.specs.declared.draft.Draft.{Draft}
use Rattle.planner.specs.declared.state.Standing.{Standing}
use Rattle.planner.specs.declared.state.Standing.TheVariants.{Open, Found, Impossible}
use Rattle.planner.specs.States.{state_at}

pub open_not_impossible : {o : Standing} → o ≡ Open → o ≡ Impossible → ⊥
open_not_impossible p q = let z : ◌≡◌ {A = ℕ} 0 1 = cc in omega arith

pub open_not_found : {o : Standing} → o ≡ Open → (t : Starts ℕ) → o ≡ Found t → ⊥
open_not_found p t q = let z : ◌≡◌ {A = ℕ} 0 1 = cc in omega arith

pub impossible_not_found : (t : Starts ℕ) → Impossible ≡ Found t → ⊥
impossible_not_found t q = let z : ◌≡◌ {A = ℕ} 0 1 = cc in omega arith

pub found_same : (t u : Starts ℕ) → ◌≡◌ {A = Standing} (Found t) (Found u) → t ≡ u
found_same t u e = cc

shut_step : (b : Part) (x : State) (q : List Decision) → (false ≡ is_open x → x ≡ impossible) → false ≡ is_open (by_part b (opened q) x) → by_part b (opened q) x ≡ impossible
shut_step First x q f e = absurd (both_ways _ (sym e) refl)
shut_step Second x q f e = f e

-- a path that can't go back is that of an impossible search
pub shut : (p : List Decision) → false ≡ is_open (backtracked p) → backtracked p ≡ impossible
shut [] e = refl
shut (d ∷ p) e = shut_step d.part (backtracked p) (to_second d ∷ p) (shut p) e

-- and has no decision left
pub shut_path : (p q : List Decision) → false ≡ is_open (backtracked p) → q ≡ path_of (backtracked p) → length q ≡ 0
shut_path p q e h = ap length (h ∙ ap path_of (shut p e))

-- where no job is chosen, the starts listed are those of the windows
pub branched_none : (q : Option ℕ) (ws : List Window) (p : List Decision) (t : List ℕ) → None ≡ q → t ≡ starts ws → found p t ≡ branched q ws p
branched_none q ws p t e h = ap (found p) h ∙ ap (λ (x : Option ℕ). branched x ws p) e

-- the outcome tells whether a search is open
pub standing_open : (o : Standing) (p : List Decision) → outcome_of (state_at o p) ≡ outcome.Open → o ≡ Open
standing_open Open p e = refl
standing_open (Found t) p e = let z : ◌≡◌ {A = ℕ} 0 1 = cc in absurd (omega arith)
standing_open Impossible p e = let z : ◌≡◌ {A = ℕ} 0 1 = cc in absurd (omega arith)

module _ (f : List Decision → State) (o : Standing) (p : List Decision) where
  -- a look of an open search, with j looks left after it
  pub open_after : (k j : ℕ) → o ≡ Open → k ≡ suc j → after_looks f k (state_at o p) ≡ after_looks f j (f p)
  open_after k j q e = ap (λ (x : Standing). after_looks f k (state_at x p)) q ∙ ap (λ (i : ℕ). after_looks f i (opened p)) e

  pub open_made : (k j : ℕ) → o ≡ Open → k ≡ suc j → looks_made f k (state_at o p) ≡ suc (looks_made f j (f p))
  open_made k j q e = ap (λ (x : Standing). looks_made f k (state_at x p)) q ∙ ap (λ (i : ℕ). looks_made f i (opened p)) e

-- a settled search makes no look
pub settled_after : (f : List Decision → State) (o : Standing) (p : List Decision) (k : ℕ) → (outcome_of (state_at o p) ≡ outcome.Open → ⊥) → after_looks f k (state_at o p) ≡ state_at o p
settled_after f o p zero n = refl
settled_after f Open p (suc k) n = absurd (n refl)
settled_after f (Found t) p (suc k) n = refl
settled_after f Impossible p (suc k) n = refl

pub settled_made : (f : List Decision → State) (o : Standing) (p : List Decision) (k : ℕ) → (outcome_of (state_at o p) ≡ outcome.Open → ⊥) → looks_made f k (state_at o p) ≡ 0
settled_made f o p zero n = refl
settled_made f Open p (suc k) n = absurd (n refl)
settled_made f (Found t) p (suc k) n = refl
settled_made f Impossible p (suc k) n = refl

-- searches of one draft look alike
pub look_same : {P : Type 0} (cut : P → Entries → List Window → Cut) (a b : Draft (Standstill P)) (p : List Decision) → a ≡ b → one_look (cut a.pile.0 (entries a.sheet)) (entries a.sheet) p ≡ one_look (cut b.pile.0 (entries b.sheet)) (entries b.sheet) p
look_same cut a b p e = ap (λ (d : Draft (Standstill _)). one_look (cut d.pile.0 (entries d.sheet)) (entries d.sheet) p) e
