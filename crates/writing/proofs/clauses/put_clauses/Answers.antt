-- The invariant: the clauses from i on are still to be written.
use Prim.Native.Nat.{◌+◌, ◌≤◌, ◌<◌}
use mathlib.Core.List.{[], ◌++◌}
use native.Mathlib.Omega.{arith}
use lib.ListN.{length, drop}
use Rattle.text_rules.specs.TextWriter.{clause_text, clauses_text}
use Rattle.listing.proofs.PutLaws.{Left, left-room, put_some, none_left}
use Rattle.writing.specs.Writes.{deck_of}
use Rattle.writing.proofs.TextParts.{clauses-next, clauses-end}
use Rattle.writing.proofs.DeckLaws.{clause-count, clause_of, clause-stands}
use Rattle.writing.proofs.clauses.put_clauses.Goals as goal
use Rattle.writing.proofs.clauses.put_clauses.Goals.{In-loop-i}

-- Clause i is one of the deck's, and its text is the next part.
inside : (c : goal.In-loop-i) → c.loop-i.i < length (deck_of c.args.deck.now.words.now).clauses
inside c = omega (arith, c.loop-i-test.true, c.clause_count-count.ensures, clause-count c.args.deck.now.words.now c.args.deck.now.opens)

line :
    (c : goal.In-loop-i) → let ws = c.args.deck.now.words.now in let i = c.loop-i.i in
    Left c.args.out.now (clauses_text (deck_of ws).clauses) c.loop-i.out
    (clause_text (clause_of ws c.args.deck.now.opens i (inside c)).clause [] ++ clauses_text (drop (i + 1) (deck_of ws).clauses))
line c =
    let ws = c.args.deck.now.words.now in
    let k = clause_of ws c.args.deck.now.opens c.loop-i.i (inside c) in
    rw (clauses-next (deck_of ws).clauses c.loop-i.i k.clause k.place) at c.loop-i.invariant

pub put_clause-requires : goal.put_clause-requires
put_clause-requires c =
    let ws = c.args.deck.now.words.now in
    let i = (goal.at.put_clause-requires c).In-loop-i in
    let k = clause_of ws c.args.deck.now.opens c.loop-i.i (inside i) in (
      k.clause,
      clause-stands ws c.args.deck.now.opens c.loop-i.i (inside i) _ c.clause.ensures _ c.symbols-symbols.ensures,
      left-room (clause_text k.clause []) _ (line i) c.requires,
    )

pub loop-i-preserved : goal.loop-i-preserved
loop-i-preserved c =
    let ws = c.args.deck.now.words.now in
    let i = (goal.at.loop-i-preserved c).In-loop-i in
    put_some (line i)
    (c.put_clause.ensures (clause_of ws c.args.deck.now.opens c.loop-i.i (inside i)).clause (clause-stands ws c.args.deck.now.opens c.loop-i.i (inside i) _ c.clause.ensures _ c.symbols-symbols.ensures))

pub returns : goal.returns
returns c =
    let ws = c.args.deck.now.words.now in
    let past : length (deck_of ws).clauses ≤ c.loop-i.i = omega (arith, c.loop-i-test.false, c.clause_count-count.ensures, clause-count ws c.args.deck.now.opens) in
    none_left (rw (clauses-end (deck_of ws).clauses c.loop-i.i past) at c.loop-i.invariant)
