-- The terms that are still to be given.
use Rattle.std.specs.Prelude.{ℕ, List}
use Rattle.deck.specs.Kinds.{symbols_of}
use Rattle.drill.specs.declared.terms.Terms.{Terms}
use Rattle.drill.specs.Successors.{rest_after}
use Rattle.drill.specs.Holding.{cells_of}
pub use Rattle.drill.specs.Holding.{term_cells}

abbrev pub terms_left : Terms → List (List ℕ)
terms_left t = rest_after (symbols_of t.functors.symbols.now) t.n (cells_of t.last)
