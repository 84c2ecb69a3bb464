-- One field more is read, and at the end none is left.
use Rattle.std.proofs.Common.{eqb, sym, refl, ◌∙◌, arith, rules, tests}
use Rattle.std.proofs.lemmas.List.Sorted.{answers_always}
use Rattle.std.specs.Slice.Iter.{split_rest}
use Rattle.text.specs.Bytes.{space}
use Rattle.text.specs.Numbers.{number_32}
use Rattle.text.proofs.Spacing.{none_read, one_more, one_ill, too_few, all_read, too_many}
use Rattle.text.proofs.spaced.read_numbers.Goals as goal

pub loop-place-init : goal.loop-place-init
loop-place-init c = rw (c.split-fields.ensures.done, c.split-fields.ensures.rest) (none_read (number_32 c.args.digits) c.args.places.now 0 c.args.text.now refl)

pub returns-in_err-next : goal.returns-in_err-next
returns-in_err-next c =
    let l = c.loop-place in
    let h = c.in_err-next.ensures.steps in
    rw c.from_residual.ensures (sym (rw h.0 at l.invariant) ∙ too_few (number_32 c.args.digits) l.place-items l.place-index (split_rest l.fields) (omega arith))

pub returns-in_err-place : goal.returns-in_err-place
returns-in_err-place c =
    let l = c.loop-place in
    let h = c.in_ok-next.ensures.steps in
    let first = h.2 (λ b. eqb b space) (answers_always _ _ _ (λ f a r g k. search (rules, tests))) in
    rw c.from_residual-in_err-place.ensures (sym (rw h.0 at l.invariant) ∙ one_ill (number_32 c.args.digits) l.place-items l.place-index _ _ _ _ (omega arith) (h.1, first.1) c.in_err-place.ensures)

pub loop-place-preserved : goal.loop-place-preserved
loop-place-preserved c =
    let l = c.loop-place in
    let h = c.in_ok-next.ensures.steps in
    let first = h.2 (λ b. eqb b space) (answers_always _ _ _ (λ f a r g k. search (rules, tests))) in
    one_more (number_32 c.args.digits) l.place-items l.place-index _ _ _ _ (omega arith) (h.1, first.1) c.in_ok-place.field-0 c.in_ok-place.ensures ∙ (rw h.0 at l.invariant)

pub returns-in-Some : goal.returns-in-Some
returns-in-Some c =
    let l = c.loop-place in
    let h = c.in-Some.ensures.steps in
    sym (rw h.0 at l.invariant) ∙ too_many (number_32 c.args.digits) l.place-items l.place-index (split_rest l.fields) (omega arith)

pub returns-in-None : goal.returns-in-None
returns-in-None c =
    let l = c.loop-place in
    let h = c.in-None.ensures.steps in
    sym (rw h.0 at l.invariant) ∙ all_read (number_32 c.args.digits) l.place-items l.place-index (split_rest l.fields) (omega arith)
