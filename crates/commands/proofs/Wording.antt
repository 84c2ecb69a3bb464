-- Words and their numbers, and the calls that they make.
use Rattle.std.proofs.Common.{◌≡◌, ℕ, ◌≤◌, Bool, true, ◌&&◌, ltb, List, [], ◌∷◌, length, Some, sym, refl, ap, ◌∙◌, arith}
use Rattle.std.proofs.lemmas.Slice.Eq.{bytes_eq-Decides}
use Rattle.std.proofs.lemmas.Bool.{cond_both, and_parts, ltb-true}
use Rattle.std.specs.Str.{bytes_eq}
use Rattle.text.specs.Bytes.{space}
use Rattle.text.specs.Splitting.{Without}
use Rattle.text.proofs.Spacing.{by_places}
use Rattle.calls.specs.declared.call.Call.{Call}
use Rattle.calls.specs.declared.call.Call.TheVariants as call
use Rattle.commands.specs.declared.word.Word.{Word}
use Rattle.commands.specs.declared.word.Word.TheVariants.{Enter, Link, Move, Close, Advance, Start, Reopen}
use Rattle.commands.specs.Words.{word_text, word_among, word_of, arity}
use Rattle.commands.specs.Commands.{call_from}
use Rattle.commands.specs.Laws.{call_word, call_numbers}

word_among_is : (xs : List Word) (bs : List ℕ) (x : Word) → word_among xs bs ≡ Some x → bs ≡ word_text x
word_among_is [] bs x = λ q. cc
word_among_is (y ∷ ys) bs x =
    cond_both (bytes_eq bs (word_text y)) (Some y) (word_among ys bs) (λ v. v ≡ Some x → bs ≡ word_text x)
    (λ e q. let s : y ≡ x = cc in rw (← s) ((bytes_eq-Decides bs (word_text y)).0 e))
    (λ _ q. word_among_is ys bs x q)

pub word_is : (bs : List ℕ) (x : Word) → word_of bs ≡ Some x → bs ≡ word_text x
word_is bs x q = word_among_is (Enter ∷ (Link ∷ (Move ∷ (Close ∷ (Advance ∷ (Start ∷ (Reopen ∷ []))))))) bs x q

abbrev all_above : ℕ → List ℕ → Bool
all_above n [] = true
all_above n (b ∷ bs) = ltb n b && all_above n bs

without_from_above : (n : ℕ) (bs : List ℕ) → all_above n bs ≡ true → Without n bs
without_from_above n [] e = tt
without_from_above n (b ∷ bs) e =
    let p = and_parts (ltb n b) (all_above n bs) e in
    let l = ltb-true n b p.0 in
    (λ w. absurd (omega arith), without_from_above n bs p.1)

-- what is seen of each word by computing: its text is read as it, is short and has no space, and few numbers follow
pub record Seen (x : Word) : Type 0 where
  pub read_back : word_of (word_text x) ≡ Some x
  pub short : length (word_text x) ≤ 7
  pub above_space : all_above space (word_text x) ≡ true
  pub few : arity x ≤ 4

pub seen : (x : Word) → Seen x
seen Enter = record { read_back = refl; short = omega arith; above_space = refl; few = omega arith }
seen Link = record { read_back = refl; short = omega arith; above_space = refl; few = omega arith }
seen Move = record { read_back = refl; short = omega arith; above_space = refl; few = omega arith }
seen Close = record { read_back = refl; short = omega arith; above_space = refl; few = omega arith }
seen Advance = record { read_back = refl; short = omega arith; above_space = refl; few = omega arith }
seen Start = record { read_back = refl; short = omega arith; above_space = refl; few = omega arith }
seen Reopen = record { read_back = refl; short = omega arith; above_space = refl; few = omega arith }

pub read_as : (bs : List ℕ) (x : Word) → bs ≡ word_text x → Some x ≡ word_of bs
read_as bs x e = sym (ap word_of e ∙ (seen x).read_back)

pub word_without_space : (x : Word) → Without space (word_text x)
word_without_space x = without_from_above space (word_text x) (seen x).above_space

-- a call by its word and its numbers, and back
pub call_back : (c : Call) → (call_from (call_word c) (call_numbers c) ≡ c) × (length (call_numbers c) ≡ arity (call_word c))
call_back (call.Enter s p r d) = (refl, refl)
call_back (call.Link a b w) = (refl, refl)
call_back (call.Move k r d) = (refl, refl)
call_back call.Close = (refl, refl)
call_back (call.Advance n) = (refl, refl)
call_back (call.Start k) = (refl, refl)
call_back call.Reopen = (refl, refl)

pub word_back : (x : Word) (ns : List ℕ) → call_word (call_from x ns) ≡ x
word_back Enter ns = refl
word_back Link ns = refl
word_back Move ns = refl
word_back Close ns = refl
word_back Advance ns = refl
word_back Start ns = refl
word_back Reopen ns = refl

pub numbers_back : (x : Word) (ns : List ℕ) → length ns ≡ arity x → call_numbers (call_from x ns) ≡ ns
numbers_back Enter ns e = sym (by_places 4 ns e)
numbers_back Link ns e = sym (by_places 3 ns e)
numbers_back Move ns e = sym (by_places 3 ns e)
numbers_back Close ns e = sym (by_places 0 ns e)
numbers_back Advance ns e = sym (by_places 1 ns e)
numbers_back Start ns e = sym (by_places 1 ns e)
numbers_back Reopen ns e = sym (by_places 0 ns e)
