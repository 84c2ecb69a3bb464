-- A search that was closed from a draft with the pile p and the sheet e, and advanced once.
use Rattle.std.proofs.Common.{◌≡◌, ℕ, ◌+◌, List, subst, zero-add}
use Rattle.sheet.specs.Entries.{Entries}
use Rattle.search.specs.Looks.{State}
use Rattle.search.specs.Promise.{Promise}

-- the promise of that advance, in the terms of the draft
pub promised : {P : Type 0} (admits : P → Entries → List ℕ → Type 0) {p q : P} {d e : Entries} {g m : ℕ} {x : State} → q ≡ p → d ≡ e → Promise (admits q d) d (0 + g) (0 + m) x → Promise (admits p e) e g m x
promised admits {p} {q} {d} {e} {g} {m} {x} a b h =
    let here : Promise (admits q d) d g m x = simp zero-add at h in
    subst (λ (z : Entries). Promise (admits p z) z g m x) b (subst (λ (r : _). Promise (admits r d) d g m x) a here)
