-- A path kept in places.
use Rattle.std.proofs.Common.{◌≡◌, ℕ, zero, suc, ◌+◌, ◌<◌, ◌≤◌, true, List, [], ◌∷◌, reverse, length, get_or, take, set, Bool, false, sym, refl, ap, ◌∙◌, subst, ⊎_elim, add-one, arith}
use Rattle.std.proofs.lemmas.Bool.{cases_eq}
use Rattle.std.proofs.lemmas.List.{get_or-take, take_more, take_more_set, take_all, reverse-append}
use Rattle.sheet.specs.declared.records.Window.{Window}
use Rattle.search.specs.declared.decision.Decision.{Decision}
use Rattle.search.specs.declared.decision.Part.{Part}
use Rattle.search.specs.declared.decision.Part.TheVariants.{First, Second}
use Rattle.search.specs.Deciding.{blank_decision, chosen, cut_down, to_second, Splits, Grown}
use Rattle.search.specs.Looks.{opened, impossible, path_of, is_open, by_part, backtracked}
use Rattle.search.proofs.Halving.{grown_last, grown_before}

-- the decision at place k, and those in the first k places with the newest in front
abbrev pub place : List Decision → ℕ → Decision
place ps k = get_or ps k blank_decision

abbrev pub newest : List Decision → ℕ → List Decision
newest ps k = reverse (take k ps)

pub newest_more : (ps : List Decision) (k : ℕ) → k < length ps → newest ps (k + 1) ≡ place ps k ∷ newest ps k
newest_more ps k h = ap reverse (take_more ps k blank_decision h) ∙ reverse-append (take k ps) (place ps k ∷ [])

newest_written : (ps : List Decision) (k : ℕ) (d : Decision) → k < length ps → newest (set ps k d) (k + 1) ≡ d ∷ newest ps k
newest_written ps k d h = ap reverse (take_more_set ps k d h) ∙ reverse-append (take k ps) (d ∷ [])

newest_suc : (ps : List Decision) (n : ℕ) → n < length ps → newest ps (suc n) ≡ place ps n ∷ newest ps n
newest_suc ps n h = ap (newest ps) (sym (add-one n)) ∙ newest_more ps n h

-- each decision of a path that grew splits what those in the places before it leave
grown_place : (ws : List Window) (ps : List Decision) (n i : ℕ) → i < n → n ≤ length ps → Grown ws (newest ps n) → Splits (cut_down ws (newest ps i)) (place ps i)
grown_place ws ps zero i h l g = absurd (omega arith)
grown_place ws ps (suc n) i h l g =
    let f : Grown ws (place ps n ∷ newest ps n) = subst (Grown ws) (newest_suc ps n (omega arith)) g in
    ⊎_elim
    (λ (q : i ≡ n). subst (λ (j : ℕ). Splits (cut_down ws (newest ps j)) (place ps j)) (sym q) (grown_last ws _ _ f))
    (λ (q : i ≡ n → ⊥). grown_place ws ps n i (omega arith) (omega arith) (grown_before ws _ _ f))
    (cases_eq i n)

pub walked : (ws : List Window) (ps : List Decision) (i : ℕ) → i < length ps → Grown ws (reverse ps) → Splits (cut_down ws (newest ps i)) (place ps i)
walked ws ps i h g =
    grown_place ws ps (length ps) i h (omega arith) (subst (λ (x : List Decision). Grown ws (reverse x)) (sym (take_all (length ps) ps (omega arith))) g)

-- so its job is there
pub job_there : (ws vs : List Window) (ps : List Decision) (i : ℕ) → i < length ps → Grown ws (reverse ps) → vs ≡ cut_down ws (newest ps i) → (place ps i).job < length vs
job_there ws vs ps i h g e = omega (arith, (walked ws ps i h g).0, ap length e)

pub cut_more : (ws vs : List Window) (ps : List Decision) (i : ℕ) (w : Window) → i < length ps → vs ≡ cut_down ws (newest ps i) → w ≡ chosen (place ps i) → set vs (place ps i).job w ≡ cut_down ws (newest ps (i + 1))
cut_more ws vs ps i w h e q =
    ap (λ (x : List Window). set x (place ps i).job w) e
    ∙ ap (λ (x : Window). set (cut_down ws (newest ps i)) (place ps i).job x) q
    ∙ ap (cut_down ws) (sym (newest_more ps i h))

-- the newest decision, on its second part, is dropped
back_dropped : (ps : List Decision) (n : ℕ) → n < length ps → (place ps n).part ≡ Second → backtracked (newest ps (suc n)) ≡ backtracked (newest ps n)
back_dropped ps n l e =
    ap backtracked (newest_suc ps n l)
    ∙ ap (λ (b : Part). by_part b (opened (to_second (place ps n) ∷ newest ps n)) (backtracked (newest ps n))) e

-- and on its first it goes to its second
back_turned : (ps : List Decision) (n : ℕ) → n < length ps → (place ps n).part ≡ First → backtracked (newest ps (suc n)) ≡ opened (to_second (place ps n) ∷ newest ps n)
back_turned ps n l e =
    ap backtracked (newest_suc ps n l)
    ∙ ap (λ (b : Part). by_part b (opened (to_second (place ps n) ∷ newest ps n)) (backtracked (newest ps n))) e

back_none : (ps : List Decision) (n : ℕ) → n ≤ length ps → ((k : ℕ) → k < n → (place ps k).part ≡ Second) → backtracked (newest ps n) ≡ impossible
back_none ps zero l f = refl
back_none ps (suc n) l f = back_dropped ps n l (f n (omega arith)) ∙ back_none ps n (omega arith) (λ k h. f k (omega arith))

back_to : (ps : List Decision) (n i : ℕ) → i < n → n ≤ length ps → (place ps i).part ≡ First → ((k : ℕ) → i < k → k < n → (place ps k).part ≡ Second) → backtracked (newest ps n) ≡ opened (to_second (place ps i) ∷ newest ps i)
back_to ps zero i h l e f = absurd (omega arith)
back_to ps (suc n) i h l e f =
    ⊎_elim
    (λ (q : i ≡ n). subst (λ (j : ℕ). backtracked (newest ps (suc n)) ≡ opened (to_second (place ps j) ∷ newest ps j)) (sym q) (back_turned ps n l (ap (λ (j : ℕ). (place ps j).part) (sym q) ∙ e)))
    (λ (q : i ≡ n → ⊥). back_dropped ps n l (f n (omega arith) (omega arith)) ∙ back_to ps n i (omega arith) (omega arith) e (λ k a b. f k a (omega arith)))
    (cases_eq i n)

-- the part that the decision at place k of the first n is on
abbrev pub part_at : List Decision → ℕ → ℕ → Part
part_at ps n k = (place (take n ps) k).part

part_there : (ps : List Decision) (n k : ℕ) (b : Part) → k < n → part_at ps n k ≡ b → (place ps k).part ≡ b
part_there ps n k b h e = ap (λ (d : Decision). d.part) (sym (get_or-take n ps k blank_decision h)) ∙ e

-- what going back comes to: the path qs is left, or none
pub record Back (ps : List Decision) (n : ℕ) (b : Bool) (qs : List Decision) : Type 0 where
  pub answer : b ≡ is_open (backtracked (newest ps n))
  pub after : qs ≡ path_of (backtracked (newest ps n))

-- every decision is on its second part
pub back_dead : (ps : List Decision) (n : ℕ) → n ≤ length ps → ((k : ℕ) → k < n → part_at ps n k ≡ Second) → Back ps n false []
back_dead ps n l f =
    let e = back_none ps n l (λ k h. part_there ps n k Second h (f k h)) in record { answer = ap is_open (sym e); after = ap path_of (sym e) }

-- the last one on its first part is in place i, and goes to its second
pub back_open : (ps : List Decision) (n i : ℕ) (d : Decision) → i < n → n ≤ length ps → d ≡ to_second (place ps i) → part_at ps n i ≡ First → ((k : ℕ) → i < k → k < n → part_at ps n k ≡ Second) → Back ps n true (newest (set ps i d) (i + 1))
back_open ps n i d h l q e f =
    let x = back_to ps n i h l (part_there ps n i First h e) (λ k a b. part_there ps n k Second b (f k a b)) in
    record {
      answer = ap is_open (sym x);
      after = newest_written ps i d (omega arith) ∙ ap (λ (y : Decision). y ∷ newest ps i) q ∙ ap path_of (sym x);
    }
