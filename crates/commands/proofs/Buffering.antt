-- What a buffer holds after a byte, and that it loses no call.
use Rattle.std.proofs.Common.{◌≡◌, ℕ, ◌<◌, ◌≤◌, true, false, leb, List, [], ◌∷◌, ◌++◌, length, Some, None, sym, refl, arith}
use Rattle.std.proofs.lemmas.List.{length_push}
use Rattle.std.proofs.lemmas.Bool.{le-leb, lt-leb, leb-false, cond_both}
use Rattle.commands.specs.Commands.{command}
use Rattle.commands.specs.Buffers.{longest_line, kept, longer, held_call}
use Rattle.commands.proofs.Law.{long_is_ill_written}

pub kept_short : (line : List ℕ) → length line ≤ longest_line → kept line ≡ Some line
kept_short line h = let e : leb (length line) longest_line ≡ true = le-leb _ _ h in rw e

pub kept_long : (line : List ℕ) → longest_line < length line → kept line ≡ None
kept_long line h = let e : leb (length line) longest_line ≡ false = lt-leb _ _ h in rw e

pub longer_kept : (line : List ℕ) (b : ℕ) → longer (kept line) b ≡ kept (line ++ (b ∷ []))
longer_kept line b =
    cond_both (leb (length line) longest_line) (Some line) None (λ v. longer v b ≡ kept (line ++ (b ∷ [])))
    (λ _. refl)
    (λ e. let h = leb-false (length line) longest_line e in
    let p = length_push line b in
    sym (kept_long (line ++ (b ∷ [])) (omega arith)))

pub kept_call : (line : List ℕ) → held_call (kept line) ≡ command line
kept_call line =
    cond_both (leb (length line) longest_line) (Some line) None (λ v. held_call v ≡ command line)
    (λ _. refl)
    (λ e. let h = leb-false (length line) longest_line e in sym (long_is_ill_written line (omega arith)))
