-- The line of a fault is never far down: what an empty sheet takes has few lines.
use Rattle.std.proofs.Common.{◌≡◌, ℕ, ◌+◌, ◌≤◌, List, [], ◌∷◌, Ok, Result, ap, subst, ⊎_elim, arith}
use Rattle.sheet.specs.declared.refusal.Refusal.{Refusal}
use Rattle.sheet.specs.Entries.{Entries, no_entries, with_job, with_link}
use Rattle.sheet.specs.Entering.{enter_answer, link_answer}
use Rattle.sheet.specs.Sound.{Sound}
use Rattle.sheet.proofs.Accepting.{none_sound, enter_sound, link_sound}
use Rattle.slip.specs.declared.fault.Fault.{Fault}
use Rattle.slip.specs.declared.fault.Fault.TheVariants.{TooLong, Unfinished, BadLetter, BadFields, UntrueTrailer, Refused}
use Rattle.slip.specs.Adding.{add_job, add_link, add_all, Enterable}
use Rattle.slip.specs.Faults.{fault_line, last_line}
use Rattle.slip.proofs.Results.{then_ok, unless_refused_ok}
use Rattle.slip.specs.Faulty.{Faulty, LineHas, line_count, RunsOut, LineAtFault, BytesLeftOver, LineAfterTrailer}

all_sound : {X : Type 0} (add : Entries → X → Result Entries Refusal) → ((b c : Entries) (x : X) → Sound b → add b x ≡ Ok c → Sound c) → (xs : List X) (b c : Entries) → Sound b → add_all add b xs ≡ Ok c → Sound c
all_sound add keeps [] b c s e = let q : b ≡ c = cc in subst Sound q s
all_sound add keeps (x ∷ xs) b c s e =
    let d = then_ok (add b x) _ c e in
    all_sound add keeps xs d.0 c (keeps b d.0 x s d.1) d.2

pub enterable_sound : (b : Entries) → Enterable b → Sound b
enterable_sound b e =
    let d = then_ok _ _ b e in
    let jobs : Sound d.0 =
    all_sound add_job (λ x y j s q. let r = unless_refused_ok (enter_answer x j) (with_job x j) y q in subst Sound r.2 (enter_sound x j r.0 s r.1)) b.jobs no_entries d.0 none_sound d.1 in
    all_sound add_link (λ x y l s q. let r = unless_refused_ok (link_answer x l) (with_link x l) y q in subst Sound r.2 (link_sound x l s r.1)) b.links d.0 b jobs d.2

line_has_line : (b : Entries) (line : List ℕ) (n : ℕ) (f : Fault) → LineHas b line n f → fault_line f ≡ n
line_has_line b line n TooLong h = absurd h
line_has_line b line n (Unfinished m) h = absurd h
line_has_line b line n (BadLetter m) h = h.0
line_has_line b line n (BadFields m) h = h.0
line_has_line b line n (UntrueTrailer m) h = h.0
line_has_line b line n (Refused m r) h = h.0

pub fault_line_bounded : (bytes : List ℕ) (f : Fault) → Faulty bytes f → fault_line f ≤ last_line
fault_line_bounded bytes f =
    ⊎_elim
    (λ long. let q : fault_line f ≡ 0 = ap fault_line long.1 in omega arith)
    (λ first.
    let b = first.1.0 in
    let s = enterable_sound b first.1.1 in
    let few : line_count b + 2 ≤ last_line = omega (arith, s.few_jobs, s.few_links) in
    ⊎_elim
    (λ (x : RunsOut bytes b f). let q : fault_line f ≡ line_count b + 1 = ap fault_line x.3 in omega arith)
    (⊎_elim
    (λ (x : LineAtFault bytes b f). let q : fault_line f ≡ line_count b + 1 = line_has_line b x.0 (line_count b + 1) f x.4 in omega arith)
    (⊎_elim
    (λ (x : BytesLeftOver bytes b f). let q : fault_line f ≡ line_count b + 2 = ap fault_line x.4 in omega arith)
    (λ (x : LineAfterTrailer bytes b f). let q : fault_line f ≡ line_count b + 2 = ap fault_line x.4 in omega arith)))
    first.1.2)
