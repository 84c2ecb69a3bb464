-- A value above 32 bits ends the loop, and so does the last digit.
use Rattle.std.proofs.Common.{sym, ◌∙◌, arith}
use Rattle.text.proofs.Digits.{too_great, after_digits}
use Rattle.text.proofs.number.digits_value.Goals as goal

pub returns-in_err-checked_mul : goal.returns-in_err-checked_mul
returns-in_err-checked_mul c =
    let d = c.in_ok-digit.ensures in
    let g = c.in_err-checked_mul.ensures in
    rw c.from_residual-in_err-checked_mul.ensures (sym (too_great _ _ c.loop-byte.byte-index _ _ c.loop-byte-test.true c.from.ensures d.value.0 d.cases (omega arith)) ∙ c.loop-byte.invariant.1)

pub returns-in_err-value : goal.returns-in_err-value
returns-in_err-value c =
    let d = c.in_ok-digit.ensures in
    let m = c.in_ok-checked_mul.ensures in
    let g = c.in_err-value.ensures in
    rw c.from_residual-in_err-value.ensures (sym (too_great _ _ c.loop-byte.byte-index _ _ c.loop-byte-test.true c.from.ensures d.value.0 d.cases (omega arith)) ∙ c.loop-byte.invariant.1)

pub returns : goal.returns
returns c = after_digits _ _ c.loop-byte.byte-index c.loop-byte.invariant.0 c.loop-byte-test.false ∙ c.loop-byte.invariant.1
