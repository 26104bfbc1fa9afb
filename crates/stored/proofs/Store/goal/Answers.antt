-- `goal`: every goal that fits passes the tests, and what passes them is one.
use Prim.Native.Nat.{◌%◌}
use mathlib.Core.Path.{refl, sym, ◌∙◌}
use mathlib.Core.Bool.{false≢true}
use native.Mathlib.Omega.{arith}
use lib.ListN.{drop, length-drop}
use Rattle.deck.specs.Kinds.{symbols_of}
use Rattle.std.specs.Prelude.{None}
use Rattle.stored.specs.Passing.{fits_as, GoalFound}
use Rattle.stored.proofs.StoreLaws.{Tested, no-goal, no_cells, goal-there}
use Rattle.stored.proofs.Store.goal.Goals as goal
use Rattle.stored.proofs.Store.goal.Goals.{After-from-answer_cells}

pub returns-then-words-at-lt2 : goal.returns-then-words-at-lt2
returns-then-words-at-lt2 c = no-goal (symbols_of c.args.self.now.symbols.now) c.args.self.now.parked c.args.self.now.terms c.args.self.now.words.now c.args.at _ refl _ refl (λ t. omega (arith, t.long, length-drop c.args.at c.args.self.now.words.now, c.if-words-at-lt2.true))

-- Words that fail a test begin with no such goal.
refused : (c : goal.After-from-answer_cells) → let s = c.args.self.now in
    (Tested (symbols_of s.symbols.now) s.parked s.terms (drop c.args.at s.words.now) c.from-first.result c.from-answer_cells.result (c.from-first.result % 4096) → ⊥)
    → GoalFound (symbols_of s.symbols.now) (fits_as s.parked s.terms) s.words.now c.args.at None
refused c =
    let s = c.args.self.now in
    no-goal (symbols_of s.symbols.now) s.parked s.terms s.words.now c.args.at c.from-first.result c.from-first.ensures c.from-answer_cells.result c.from-answer_cells.ensures

pub returns-then-not-mark_fits : goal.returns-then-not-mark_fits
returns-then-not-mark_fits c = refused (goal.at.returns-then-not-mark_fits c).After-from-answer_cells (λ t. false≢true (sym c.if-not-mark_fits.true ∙ c.mark_fits.ensures ∙ t.mark))

pub returns-then-n-lt2 : goal.returns-then-n-lt2
returns-then-n-lt2 c = refused (goal.at.returns-then-n-lt2 c).After-from-answer_cells (λ t. omega (arith, t.least, c.if-n-lt2.true))

pub returns-then-n-gt1024 : goal.returns-then-n-gt1024
returns-then-n-gt1024 c = refused (goal.at.returns-then-n-gt1024 c).After-from-answer_cells (λ t. omega (arith, t.short, c.if-n-gt1024.true))

pub returns-then-words-at : goal.returns-then-words-at
returns-then-words-at c = refused (goal.at.returns-then-words-at c).After-from-answer_cells (λ t. omega (arith, t.fits, length-drop c.args.at c.args.self.now.words.now, c.if-words-at.true))

pub returns-then-not-cells_fit : goal.returns-then-not-cells_fit
returns-then-not-cells_fit c = no_cells (symbols_of c.args.self.now.symbols.now) c.args.self.now.parked c.args.self.now.terms c.args.self.now.words.now c.args.at c.from-first.result c.from-first.ensures c.from-answer_cells.result (c.from-first.result % 4096) c.from-answer_cells.ensures refl c.if-n-lt2.false (sym c.cells_fit.ensures ∙ c.if-not-cells_fit.true)

pub returns : goal.returns
returns c = goal-there (symbols_of c.args.self.now.symbols.now) c.args.self.now.parked c.args.self.now.terms c.args.self.now.words.now c.args.at c.from-first.result c.from-first.ensures c.from-answer_cells.result (c.from-first.result % 4096) c.from-answer_cells.ensures refl c.if-n-lt2.false c.if-words-at-lt2.false (sym c.mark_fits.ensures ∙ c.if-not-mark_fits.false) c.if-n-gt1024.false c.if-words-at.false (sym c.cells_fit.ensures ∙ c.if-not-cells_fit.false)
