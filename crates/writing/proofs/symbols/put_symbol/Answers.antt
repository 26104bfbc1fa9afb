-- A line by the kind of the symbol.
use mathlib.Core.Path.{◌≡◌, ap, sym, ◌∙◌}
use mathlib.Core.List.{[], ◌∷◌}
use native.Mathlib.Omega.{arith}
use Rattle.rules.specs.Decks.{symbol_words}
use Rattle.text_rules.specs.TextWriter.{symbol_text}
use Rattle.deck.specs.Kinds.{symbol_of}
use Rattle.signature.specs.Symbols.{symbol_word}
use Rattle.writing.specs.Writes.{line_text}
use Rattle.writing.proofs.DeckLaws.{few-symbols}
use Rattle.writing.proofs.TextParts.{functor-text, predicate-text}
use Rattle.writing.proofs.symbols.put_symbol.Goals as goal
use Rattle.writing.proofs.symbols.put_symbol.Goals.{Else-is_predicate, Then-is_predicate}

predicate-line :
    (c : goal.Then-is_predicate) → let n = c.args.n in
    symbol_text (symbol_of (symbol_word (symbol_words c.args.deck.now.words.now) n)) n [] ≡ line_text (112 ∷ 114 ∷ 32 ∷ []) n c.arity-arity.result
predicate-line c =
    let n = c.args.n in
    let p = rw c.symbols-symbols.ensures at c.is_predicate.ensures in
    let a = rw c.symbols-symbols.ensures at c.arity-arity.ensures in
    predicate-text (symbol_word (symbol_words c.args.deck.now.words.now) n) n (sym p ∙ c.if-is_predicate.true) ∙ ap (line_text (112 ∷ 114 ∷ 32 ∷ []) n) (sym a)

functor-line :
    (c : goal.Else-is_predicate) → let n = c.args.n in
    symbol_text (symbol_of (symbol_word (symbol_words c.args.deck.now.words.now) n)) n [] ≡ line_text (102 ∷ 110 ∷ 32 ∷ []) n c.arity-arity.result
functor-line c =
    let n = c.args.n in
    let p = rw c.symbols-symbols.ensures at c.is_predicate.ensures in
    let a = rw c.symbols-symbols.ensures at c.arity-arity.ensures in
    functor-text (symbol_word (symbol_words c.args.deck.now.words.now) n) n (sym p ∙ c.if-is_predicate.false) ∙ ap (line_text (102 ∷ 110 ∷ 32 ∷ []) n) (sym a)

pub put_line-requires-clause-numbers : goal.put_line-requires-clause-numbers
put_line-requires-clause-numbers c = (omega (arith, few-symbols c.args.deck.now.words.now c.args.deck.now.opens, c.requires.symbol), omega (arith, c.arity-arity.ensures))

pub put_line-requires-2-clause-numbers : goal.put_line-requires-2-clause-numbers
put_line-requires-2-clause-numbers c = (omega (arith, few-symbols c.args.deck.now.words.now c.args.deck.now.opens, c.requires.symbol), omega (arith, c.arity-arity.ensures))

pub put_line-requires-clause-room : goal.put_line-requires-clause-room
put_line-requires-clause-room c = rw (predicate-line (goal.at.put_line-requires-clause-room c).Then-is_predicate) at c.requires.room

pub returns-then-is_predicate : goal.returns-then-is_predicate
returns-then-is_predicate c = rw (predicate-line (goal.at.returns-then-is_predicate c).Then-is_predicate) c.put_line.ensures

pub put_line-requires-2-clause-room : goal.put_line-requires-2-clause-room
put_line-requires-2-clause-room c = rw (functor-line (goal.at.put_line-requires-2-clause-room c).Else-is_predicate) at c.requires.room

pub returns : goal.returns
returns c = rw (functor-line (goal.at.returns c).Else-is_predicate) c.put_line-2.ensures
