-- The invariant: the first j words are put.
use mathlib.Core.Path.{◌≡◌}
use mathlib.Core.List.{map, ◌++◌}
use lib.ListN.{take, drop}
use Rattle.rules.specs.Decks.{write_symbol}
use Rattle.text.specs.declared.names.Entry.{Entry}
use Rattle.naming.specs.declared.declarations.Symbol.{Symbol}
use Rattle.naming.specs.Walks.{symbol_of}
use Rattle.encoding.proofs.symbols.put_words.Given as goal

abbrev pub invariant-loop-j : goal.invariant-loop-j
invariant-loop-j l = l.words ≡ take l.j (map (λ (e : Entry Symbol). write_symbol (symbol_of e.value)) l.names.names.now.entries) ++ drop l.j l.initial.words
