-- The numbers read so far stand in front of those that the fields left give.
use Rattle.std.proofs.Common.{◌≡◌, length}
use Rattle.std.specs.Slice.Iter.{split_rest, split_done}
use Rattle.text.specs.Bytes.{space}
use Rattle.text.specs.Splitting.{split}
use Rattle.text.specs.Numbers.{number_32}
use Rattle.text.specs.Spaced.{numbers}
use Rattle.text.proofs.Spacing.{read_so_far}
use Rattle.text.proofs.spaced.read_numbers.Given as goal

abbrev pub invariant-loop-place : goal.invariant-loop-place
invariant-loop-place l =
    read_so_far (number_32 l.digits) l.place-items l.place-index (split_done l.fields) (split_rest l.fields) ≡ numbers (number_32 l.digits) (length l.fn.places) (split space l.text)
