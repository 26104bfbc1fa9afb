-- `symbols::is_symbol`: the test is the rules'.
use mathlib.Core.Path.{sym, ◌∙◌}
use native.Mathlib.Omega.{arith}
use borrow.Author.Tests.{le-leb, lt-leb}
use Rattle.deck.proofs.SymbolLaws.{word-found}
use Rattle.deck.proofs.symbols.is_symbol.Goals as goal

pub returns-in-0-to-15 : goal.returns-in-0-to-15
returns-in-0-to-15 c = sym (word-found _ ∙ rw (le-leb c.args.word 15 (omega arith)))

pub returns-in-0-to-15-2 : goal.returns-in-0-to-15-2
returns-in-0-to-15-2 c = let w = c.args.word in sym (word-found _ ∙ rw (lt-leb w 15 (omega arith), le-leb 256 w (omega arith), le-leb w 271 (omega arith)))

pub returns-in_default : goal.returns-in_default
returns-in_default c = let w = c.args.word in sym (word-found _ ∙ rw (lt-leb w 15 (omega arith), lt-leb 256 w (omega arith)))

pub returns-in_default-2 : goal.returns-in_default-2
returns-in_default-2 c = let w = c.args.word in sym (word-found _ ∙ rw (lt-leb w 15 (omega arith), le-leb 256 w (omega arith), lt-leb w 271 (omega arith)))
