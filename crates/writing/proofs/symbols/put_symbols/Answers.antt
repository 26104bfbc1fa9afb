-- The invariant: the lines of the symbols from n on are still to be written.
use Prim.Native.Nat.{◌+◌}
use mathlib.Core.Path.{ap}
use mathlib.Core.List.{[], ◌++◌}
use native.Mathlib.Omega.{arith}
use lib.ListN.{length, drop}
use Rattle.rules.specs.Decks.{symbol_words}
use Rattle.text_rules.specs.TextWriter.{symbols_text}
use Rattle.deck.specs.Kinds.{symbols_of}
use Rattle.listing.proofs.PutLaws.{Left, left-room, put_some, none_left}
use Rattle.writing.specs.Writes.{format_of, line_at, lines_of}
use Rattle.writing.proofs.TextParts.{symbols-next, symbols-end}
use Rattle.writing.proofs.symbols.put_symbols.Goals as goal
use Rattle.writing.proofs.symbols.put_symbols.Goals.{In-loop-n}

line :
    (c : goal.In-loop-n) → let ws = c.args.deck.now.words.now in let n = c.loop-n.n in
    Left c.args.out.now (lines_of ws) c.loop-n.out (line_at ws n ++ symbols_text (format_of ws) (n + 1) (symbols_of (drop (n + 1) (symbol_words ws))) [])
line c =
    let ws = c.args.deck.now.words.now in
    rw (symbols-next (format_of ws) (symbol_words ws) c.loop-n.n (omega (arith, c.loop-n-test.true, ap length c.symbols-n-end.ensures))) at c.loop-n.invariant

pub put_declaration-requires-clause-room : goal.put_declaration-requires-clause-room
put_declaration-requires-clause-room c =
    left-room (line_at c.args.deck.now.words.now c.loop-n.n) _ (line (goal.at.put_declaration-requires-clause-room c).In-loop-n) c.requires

pub loop-n-preserved : goal.loop-n-preserved
loop-n-preserved c = put_some (line (goal.at.loop-n-preserved c).In-loop-n) c.put_declaration.ensures

pub returns : goal.returns
returns c =
    let ws = c.args.deck.now.words.now in
    none_left (rw (symbols-end (format_of ws) (symbol_words ws) c.loop-n.n (omega (arith, c.loop-n-test.false, ap length c.symbols-n-end.ensures))) at c.loop-n.invariant)
