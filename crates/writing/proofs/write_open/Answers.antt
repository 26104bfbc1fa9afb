-- Refusal 11, or the symbols' lines and the clauses'.
use Prim.Native.Nat.{ℕ, ◌+◌, ◌≤◌}
use mathlib.Core.Path.{ap}
use mathlib.Core.List.{List, [], ◌++◌}
use native.Mathlib.Omega.{arith}
use lib.ListN.{length, length-append}
use Rattle.text_rules.specs.TextWriter.{symbols_text, format_text, clauses_text, deck_text}
use Rattle.rules.specs.Syntax.{Deck}
use Rattle.std.proofs.Common.{rules}
use Rattle.listing.specs.Put.{Adds}
use Rattle.listing.proofs.PutLaws.{put_at_start, adds_then, adds-length}
use Rattle.writing.specs.Writes.{deck_of}
use Rattle.writing.proofs.TextParts.{deck-parts}
use Rattle.writing.proofs.DeckLaws.{same-symbols, wrote-short, wrote-all}
use Rattle.writing.proofs.write_open.Goals as goal
use Rattle.writing.proofs.write_open.Goals.{After-put_declarations, Else-text-deck_length}

abbrev declared_text : Deck → List ℕ
declared_text d = format_text d.format [] ++ symbols_text d.format 0 d.symbols []

fits : (c : goal.Else-text-deck_length) → length (deck_text (deck_of c.args.deck.now.words.now)) ≤ length c.args.text.now
fits c = omega (arith, c.if-text-deck_length.false, c.deck_length.ensures)

both : (c : goal.Else-text-deck_length) → let d = deck_of c.args.deck.now.words.now in length (declared_text d) + length (clauses_text d.clauses) ≤ length c.args.text.now
both c =
    let d = deck_of c.args.deck.now.words.now in
    omega (arith, fits c, ap length (deck-parts d), length-append (declared_text d) (clauses_text d.clauses))

-- The symbols' lines.
declared :
    (c : goal.After-put_declarations) → Adds c.new-out.result (declared_text (deck_of c.args.deck.now.words.now)) c.put_declarations.new.out
declared c = rw (← same-symbols c.args.deck.now.words.now c.args.deck.now.opens) at c.put_declarations.ensures

pub returns-then-text-deck_length : goal.returns-then-text-deck_length
returns-then-text-deck_length c = wrote-short c.args.deck.now.words.now c.args.text.now c.args.deck.now.opens (omega (arith, c.if-text-deck_length.true, c.deck_length.ensures))

pub put_declarations-requires : goal.put_declarations-requires
put_declarations-requires c =
    let o = c.new-out.ensures in
    let b = both (goal.at.put_declarations-requires c).Else-text-deck_length in
    rw (← same-symbols c.args.deck.now.words.now c.args.deck.now.opens) (omega (arith, b, o.start, ap length o.bytes))

pub put_clauses-requires : goal.put_clauses-requires
put_clauses-requires c =
    let o = c.new-out.ensures in
    let b = both (goal.at.put_clauses-requires c).Else-text-deck_length in
    let p = declared (goal.at.put_clauses-requires c).After-put_declarations in
    omega (arith, p.put.place, adds-length p, b, o.start, ap length o.bytes)

pub returns : goal.returns
returns c =
    let ws = c.args.deck.now.words.now in
    let o = c.new-out.ensures in
    let a = adds_then (declared (goal.at.returns c).After-put_declarations) c.put_clauses.ensures in
    wrote-all ws c.args.text.now c.args.deck.now.opens _ _ (fits (goal.at.returns c).Else-text-deck_length)
    (rw (deck-parts (deck_of ws)) (put_at_start o.bytes o.start a (search (rules, o.same_reference, a.same_reference))))
