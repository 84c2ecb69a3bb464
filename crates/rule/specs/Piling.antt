-- One cut after another.
use Rattle.std.specs.Prelude.{◌≡◌, ℕ, true, List, Ok, refl}
use Rattle.std.proofs.Common.{arith}
use Rattle.sheet.specs.declared.records.Window.{Window}
use Rattle.rule.specs.Windows.{formed, Inside}
use Rattle.rule.specs.Cuts.{Cut, dead, live, verdict_of, left, then_cut}
use Rattle.rule.specs.Laws.{Keeps, Lawful}
use Rattle.rule.specs.Forming.{within_formed, formed_fact, formed_test, dead_not_live}

pub then_live : (c : Cut) (f : List Window → Cut) (us : List Window) → then_cut c f ≡ live us → (vs : List Window) × (c ≡ live vs) × (f vs ≡ live us)
then_live dead f us e = absurd (dead_not_live us e)
then_live (live vs) f us e = (vs, refl, e)

pub then_keeps : (c : Cut) (f : List Window → Cut) (t : List ℕ) → Keeps c t → ((vs : List Window) → c ≡ live vs → Inside t vs → Keeps (f vs) t) → Keeps (then_cut c f) t
then_keeps dead f t k n = k
then_keeps (live vs) f t k n = n vs refl k

pub alive_live : (c : Cut) (ws : List Window) → verdict_of c ≡ Ok tt → c ≡ live (left c ws)
alive_live dead ws e = let z : ◌≡◌ {A = ℕ} 0 1 = cc in absurd (omega arith)
alive_live (live vs) ws e = refl

-- what a rule that is not dead leaves is well formed
pub left_formed : {n : ℕ} {admits : List ℕ → Type 0} {cut : List Window → Cut} → Lawful n admits cut → (ws : List Window) → formed n ws ≡ true → verdict_of (cut ws) ≡ Ok tt → formed n (left (cut ws) ws) ≡ true
left_formed laws ws h e =
    let f = formed_fact ws h in
    formed_test _ (within_formed _ ws f (laws.contracting ws _ f (alive_live _ ws e)))
