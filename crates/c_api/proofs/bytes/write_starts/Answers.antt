-- One start more, and all of them at the end.
use Rattle.std.proofs.Common.{◌≡◌, ℕ, ◌+◌, ◌*◌, ◌/◌, ◌%◌, List, [], ◌∷◌, ◌++◌, length, get_or, take, drop, sym, ap, ◌∙◌, arith}
use Rattle.std.proofs.lemmas.List.{take-append-drop, take_all, drop-drop}
use Rattle.std.proofs.lemmas.Slice.{take-put_mid, drop-put_mid}
use Rattle.c_api.specs.Buffers.{encoded}
use Rattle.c_api.proofs.Encoding.{encoded_more}
use Rattle.c_api.proofs.bytes.write_starts.Goals as goal

pub loop-i-preserved : goal.loop-i-preserved
loop-i-preserved c =
    let ss = c.args.starts.now in
    let i = c.loop-i.i in
    let here = c.loop-i-test.true in
    let high : get_or ss i 0 / 256 % 256 ≡ get_or ss i 0 / 256 = omega (arith, c.requires.small i here) in
    let bytes : c.copy_from_slice.new.self ≡ (get_or ss i 0 % 256) ∷ ((get_or ss i 0 / 256) ∷ []) =
    c.copy_from_slice.ensures.after ∙ c.to_le_bytes.ensures ∙ ap (λ (h : ℕ). (get_or ss i 0 % 256) ∷ (h ∷ [])) high in
    let two : length c.copy_from_slice.new.self ≡ 2 = ap length bytes in
    let next : 2 * i + 2 ≡ 2 * (i + 1) = omega arith in (
      take-put_mid (2 * i) _ c.loop-i.buffer c.copy_from_slice.new.self _ (omega arith) (omega (arith, c.requires.room))
          ∙ ap (λ (front : List ℕ). front ++ c.copy_from_slice.new.self) c.loop-i.invariant.0
          ∙ ap (λ (pair : List ℕ). encoded (take i ss) ++ pair) bytes
          ∙ encoded_more ss i here,
      drop-put_mid (2 * i) _ c.loop-i.buffer c.copy_from_slice.new.self _ (omega arith) (omega (arith, c.requires.room)) (omega arith)
          ∙ ap (λ (n : ℕ). drop n c.loop-i.buffer) (sym next)
          ∙ sym (drop-drop 2 (2 * i) c.loop-i.buffer)
          ∙ ap (drop 2) c.loop-i.invariant.1
          ∙ drop-drop 2 (2 * i) c.args.buffer.now
          ∙ ap (λ (n : ℕ). drop n c.args.buffer.now) next,
    )

pub returns : goal.returns
returns c =
    let ss = c.args.starts.now in
    let all : c.loop-i.i ≡ length ss = omega arith in
    sym (take-append-drop (2 * c.loop-i.i) c.loop-i.buffer)
    ∙ ap (λ (front : List ℕ). front ++ drop (2 * c.loop-i.i) c.loop-i.buffer) (c.loop-i.invariant.0 ∙ ap encoded (take_all _ ss (omega arith)))
    ∙ ap (λ (rest : List ℕ). encoded ss ++ rest) (c.loop-i.invariant.1 ∙ ap (λ (n : ℕ). drop (2 * n) c.args.buffer.now) all)
