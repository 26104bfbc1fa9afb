-- The invariant: the first i words are put.
use Prim.Native.Nat.{◌/◌}
use mathlib.Core.Path.{◌≡◌, ap, sym, ◌∙◌}
use mathlib.Core.List.{[]}
use native.Mathlib.Omega.{arith}
use lib.ListN.{length, get_or}
use lib.Seq.{take_all}
use Rattle.std.proofs.lemmas.List.{take_more}
use Rattle.rules.specs.Program.{words_from}
use Rattle.listing.proofs.PutLaws.{put_next}
use Rattle.listing.proofs.InputLaws.{words-length, words-at, word_of}
use Rattle.listing.proofs.input.read_words.Goals as goal

pub loop-i-preserved : goal.loop-i-preserved
loop-i-preserved c =
    let bytes = c.args.bytes.now in
    let i = c.loop-i.i in
    let inside = words-length bytes in
    let e : get_or (words_from bytes) i 0 ≡ c.from_le_bytes.result =
    words-at (length bytes / 2) bytes i (omega arith) (omega (arith, c.loop-i-test.true, c.as_chunks.ensures.front_len))
    ∙ sym (c.from_le_bytes.ensures ∙ ap (λ pairs. word_of (get_or pairs i [])) c.as_chunks.ensures.front)
    in
    rw (take_more (words_from bytes) i 0 (omega (arith, c.loop-i-test.true, c.as_chunks.ensures.front_len, inside)), e) (put_next c.from_le_bytes.result c.loop-i.invariant)

pub returns : goal.returns
returns c =
    let bytes = c.args.bytes.now in
    let all : length c.as_chunks.result.0.now ≡ c.loop-i.i = omega (arith, c.loop-i-test.false, c.loop-i.auto.i-end) in
    rw all (rw (take_all c.loop-i.i (words_from bytes) (omega (arith, all, words-length bytes, c.as_chunks.ensures.front_len))) at c.loop-i.invariant)
