-- The digits passed so far give the value.
use Rattle.std.proofs.Common.{◌≡◌, ◌^◌, ◌<◌, drop}
use Rattle.text.specs.Numbers.{value_after, in_32_bits}
use Rattle.text.proofs.number.digits_value.Given as goal

abbrev pub invariant-loop-byte : goal.invariant-loop-byte
invariant-loop-byte l = (l.value < 2 ^ 32) × (in_32_bits (value_after l.value (drop l.byte-index l.field)) ≡ in_32_bits (value_after 0 l.field))
