-- `kinds::symbol`: the symbol is the one that the word at that number stands for.
use Prim.Native.Nat.{◌<◌}
use mathlib.Core.Path.{sym, ◌∙◌}
use native.Mathlib.Omega.{arith}
use lib.ListN.{length}
use Rattle.rules.specs.Cells.{symbol_cell}
use Rattle.deck.proofs.SymbolLaws.{symbol-past, symbol-at, kind-functor, kind-predicate}
use Rattle.deck.proofs.kinds.symbol.Goals as goal
use Rattle.deck.proofs.kinds.symbol.Goals.{After-is_predicate}

inside : (c : goal.After-is_predicate) → let a = c.args in a.n < length a.symbols.now
inside c = omega (arith, c.if-count-n.false, c.count.ensures)

pub returns-then-count-n : goal.returns-then-count-n
unfolding symbol_cell
returns-then-count-n c = let a = c.args in rw (symbol-past a.symbols.now a.n (omega (arith, c.if-count-n.true, c.count.ensures)))

pub returns-then-is_predicate : goal.returns-then-is_predicate
unfolding symbol_cell
returns-then-is_predicate c = rw (symbol-at _ _ (inside (goal.at.returns-then-is_predicate c).After-is_predicate), kind-predicate _ (sym c.is_predicate.ensures ∙ c.if-is_predicate.true), c.arity-arity.ensures)

pub returns-else-is_predicate : goal.returns-else-is_predicate
unfolding symbol_cell
returns-else-is_predicate c = rw (symbol-at _ _ (inside (goal.at.returns-else-is_predicate c).After-is_predicate), kind-functor _ (sym c.is_predicate.ensures ∙ c.if-is_predicate.false), c.arity-arity.ensures)
