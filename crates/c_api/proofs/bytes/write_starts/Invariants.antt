-- The starts so far stand at the front, and the rest of the buffer is as it was.
use Rattle.std.proofs.Common.{◌≡◌, ◌*◌, take, drop}
use Rattle.c_api.specs.Buffers.{encoded}
use Rattle.c_api.proofs.bytes.write_starts.Given as goal

abbrev pub invariant-loop-i : goal.invariant-loop-i
invariant-loop-i l = (take (2 * l.i) l.buffer ≡ encoded (take l.i l.starts)) × (drop (2 * l.i) l.buffer ≡ drop (2 * l.i) l.initial.buffer)
