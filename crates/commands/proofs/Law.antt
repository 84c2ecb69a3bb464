-- What a line is read as is what its text says, both ways.
use Rattle.std.proofs.Common.{◌≡◌, ℕ, ◌*◌, ◌^◌, ◌<◌, ◌≤◌, true, eqb, List, [], ◌∷◌, ◌++◌, length, Some, None, decimal, Option, sym, refl, ap, ◌∙◌, subst, arith}
use Rattle.std.proofs.lemmas.Fmt.{length-decimal-le}
use Rattle.std.proofs.lemmas.List.{append-nil, length-append}
use Rattle.std.proofs.lemmas.Bool.{eq-eqb, eqb-true, cond_both}
use Rattle.text.specs.Bytes.{space}
use Rattle.text.specs.Splitting.{Parts, last, next, split}
use Rattle.text.specs.Numbers.{number_32}
use Rattle.text.specs.Spaced.{numbers, spaced, AllBelow}
use Rattle.text.proofs.Splits.{split_next, split_last, rejoined, rejoined_split}
use Rattle.text.proofs.Decimals.{Reads, number_32_reads}
use Rattle.text.proofs.Spelling.{numbers_spaced, spells_numbers}
use Rattle.calls.specs.declared.call.Call.{Call}
use Rattle.commands.specs.declared.word.Word.{Word}
use Rattle.commands.specs.Words.{word_text, word_of, arity}
use Rattle.commands.specs.Commands.{most_digits, call_from, call_with, with_numbers, bare, if_word, by_parts, command}
use Rattle.commands.specs.Laws.{call_word, call_numbers, text_of, Writes, CommandLaw}
use Rattle.commands.proofs.Wording.{word_is, seen, word_without_space, call_back, word_back, numbers_back}

reads_32_bits : Reads (number_32 most_digits) (2 ^ 32)
reads_32_bits = number_32_reads most_digits (omega arith) (omega arith) (omega arith)

-- a text is read
text_is_read : (x : Word) (ns : List ℕ) → length ns ≡ arity x → AllBelow (2 ^ 32) ns → command (word_text x ++ spaced ns) ≡ Some (call_from x ns)
text_is_read x [] e s =
    let a : split space (word_text x ++ []) ≡ last (word_text x) = ap (split space) (append-nil (word_text x)) ∙ split_last space (word_text x) (word_without_space x) in
    let b : eqb (arity x) 0 ≡ true = eq-eqb (arity x) 0 (sym e) in
    ap by_parts a ∙ ap (λ (o : Option Word). if_word o bare) (seen x).read_back ∙ (rw b)
text_is_read x (n ∷ ns) e s =
    let a : split space (word_text x ++ (space ∷ (decimal n ++ spaced ns))) ≡ next (word_text x) (split space (decimal n ++ spaced ns)) = split_next space (word_text x) (decimal n ++ spaced ns) (word_without_space x) in
    ap by_parts a ∙ ap (λ (o : Option Word). if_word o (λ y. with_numbers y (split space (decimal n ++ spaced ns)))) (seen x).read_back
    ∙ ap (λ (k : ℕ). call_with x (numbers (number_32 most_digits) k (split space (decimal n ++ spaced ns)))) (sym e)
    ∙ ap (call_with x) (numbers_spaced (2 ^ 32) (number_32 most_digits) reads_32_bits n ns s)

pub call_is_read : (line : List ℕ) (c : Call) → Writes line c → command line ≡ Some c
call_is_read line c w = ap command w.0 ∙ text_is_read (call_word c) (call_numbers c) (call_back c).1 w.1 ∙ ap (λ (d : Call). Some d) (call_back c).0

-- what is read is a text
writes_from_numbers : (line : List ℕ) (x : Word) (ns : List ℕ) → line ≡ word_text x ++ spaced ns → length ns ≡ arity x → AllBelow (2 ^ 32) ns → Writes line (call_from x ns)
writes_from_numbers line x ns e l s =
    let b = numbers_back x ns l in
    (e ∙ ap (λ (y : Word). word_text y ++ spaced ns) (sym (word_back x ns)) ∙ ap (λ (ms : List ℕ). word_text (call_word (call_from x ns)) ++ spaced ms) (sym b), subst (AllBelow (2 ^ 32)) (sym b) s)

bare_writes : (w : List ℕ) (x : Word) (c : Call) → w ≡ word_text x → bare x ≡ Some c → Writes w c
bare_writes w x c e =
    cond_both (eqb (arity x) 0) (Some (call_from x [])) None (λ v. v ≡ Some c → Writes w c)
    (λ z q. let s : call_from x [] ≡ c = cc in subst (Writes w) s (writes_from_numbers w x [] (e ∙ sym (append-nil (word_text x))) (sym (eqb-true (arity x) 0 z)) tt))
    (λ _ q. cc)

numbers_write : (w : List ℕ) (x : Word) (ps : Parts) (c : Call) (o : Option (List ℕ)) → numbers (number_32 most_digits) (arity x) ps ≡ o → w ≡ word_text x → call_with x o ≡ Some c → Writes (w ++ (space ∷ rejoined space ps)) c
numbers_write w x ps c None h e q = cc
numbers_write w x ps c (Some ns) h e q =
    let i = spells_numbers (2 ^ 32) (number_32 most_digits) reads_32_bits (arity x) ps ns h in
    let s : call_from x ns ≡ c = cc in
    subst (Writes (w ++ (space ∷ rejoined space ps))) s (writes_from_numbers (w ++ (space ∷ rejoined space ps)) x ns (rw (e, i.0)) i.1 i.2)

if_word_some : (bs : List ℕ) (f : Word → Option Call) (c : Call) (o : Option Word) → word_of bs ≡ o → if_word o f ≡ Some c → (x : Word) × (bs ≡ word_text x) × (f x ≡ Some c)
if_word_some bs f c None h q = cc
if_word_some bs f c (Some x) h q = (x, word_is bs x h, q)

parts_write : (ps : Parts) (c : Call) → by_parts ps ≡ Some c → Writes (rejoined space ps) c
parts_write (last w) c q = let t = if_word_some w bare c (word_of w) refl q in bare_writes w t.0 c t.1 t.2
parts_write (next w ps) c q = let t = if_word_some w (λ x. with_numbers x ps) c (word_of w) refl q in numbers_write w t.0 ps c _ refl t.1 t.2

pub read_writes : (line : List ℕ) (c : Call) → command line ≡ Some c → Writes line c
read_writes line c q = subst (λ (l : List ℕ). Writes l c) (rejoined_split space line) (parts_write (split space line) c q)

none_otherwise : (line : List ℕ) (o : Option Call) → command line ≡ o → ((c : Call) → Writes line c → ⊥) → o ≡ None
none_otherwise line None q h = refl
none_otherwise line (Some c) q h = absurd (h c (read_writes line c q))

pub command_law : (line : List ℕ) (r : Option Call) → r ≡ command line → CommandLaw line r
command_law line r e = record {
  only_its_text = λ c q. read_writes line c (sym e ∙ q);
  its_text = λ c w. e ∙ call_is_read line c w;
  none_only_of_no_call = λ q c w. let s = call_is_read line c w in cc;
  none_of_no_call = λ h. none_otherwise line r (sym e) h;
}

-- a line longer than any text is of no call
spaced_length : (ns : List ℕ) → AllBelow (2 ^ 32) ns → length (spaced ns) ≤ 11 * length ns
spaced_length [] s = omega arith
spaced_length (n ∷ ns) s =
    let l = s.0 in
    let d = length-decimal-le 10 n (omega arith) (omega arith) (omega arith) in
    let i = spaced_length ns s.1 in
    let a = length-append (decimal n) (spaced ns) in
    omega arith

text_length : (c : Call) → AllBelow (2 ^ 32) (call_numbers c) → length (text_of c) ≤ 51
text_length c s =
    let a = length-append (word_text (call_word c)) (spaced (call_numbers c)) in
    let w = seen (call_word c) in
    let n = spaced_length (call_numbers c) s in
    let k = (call_back c).1 in
    omega arith

pub long_is_ill_written : (line : List ℕ) → 51 < length line → command line ≡ None
long_is_ill_written line h = none_otherwise line (command line) refl (λ c w. let l = text_length c w.1 in let e = ap length w.0 in absurd (omega arith))
