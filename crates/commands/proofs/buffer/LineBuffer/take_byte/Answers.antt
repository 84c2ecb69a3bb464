-- A byte that is no line end is the next of its line.
use Rattle.std.proofs.Common.{◌≡◌, ℕ, false, eqb, List, Option, sym, ap, ◌∙◌}
use Rattle.std.proofs.lemmas.Bool.{ne_eqb}
use Rattle.text.specs.Bytes.{line_end}
use Rattle.commands.specs.Buffers.{longer}
use Rattle.commands.proofs.Buffering.{longer_kept}
use Rattle.commands.proofs.buffer.LineBuffer.take_byte.Goals as goal

pub returns : goal.returns
returns c =
    let e : eqb c.args.byte line_end ≡ false = ne_eqb _ _ c.if-byte-eq10.false in
    record {
      ended = sym e;
      line = rw e c.push.ensures;
      grows = λ line ne h. c.push.ensures ∙ ap (λ (v : Option (List ℕ)). longer v c.args.byte) h ∙ longer_kept line c.args.byte;
    }
