-- `accepts` meets its contract. Assumes nothing.
use mathlib.Core.Path.{◌≡◌, sym, ◌∙◌}
use mathlib.Core.Bool.{Bool, true, false}
use native.Mathlib.Omega.{arith}
use lib.ListN.{length}
use borrow.Author.Tests.{eqb-true, eqb-false}
use Rattle.deck.specs.Kinds.{symbols_of}
use Rattle.drill.specs.Successors.{fills, Accepts}
use Rattle.drill.proofs.PastLaws.{after-long, after-invalid}
use Rattle.drill.proofs.accepts.Goals as goal

pub returns-then-is_empty : goal.returns-then-is_empty
returns-then-is_empty c =
    let none : length c.args.given.now ≡ 0 = eqb-true _ _ (sym c.is_empty.ensures ∙ c.if-is_empty.true) in
    record { small = omega (arith, c.if-n-gt8.false); inside = omega arith; valid = λ h. absurd (omega arith) }

pub returns-then-n-given : goal.returns-then-n-given
returns-then-n-given c h = after-long _ _ _ c.if-n-given.true

pub returns : goal.returns
returns c = go c.is_term.result (sym c.is_term.ensures)
  where
    some : length c.args.given.now ≡ 0 → ⊥
    some = eqb-false _ _ (sym c.is_empty.ensures ∙ c.if-is_empty.false)

    go :
        (b : Bool) → fills (symbols_of c.args.symbols.now) 1 c.args.given.now ≡ b
        → Accepts (symbols_of c.args.symbols.now) c.args.n c.args.given.now b
    go true e = record { small = omega (arith, c.if-n-gt8.false); inside = omega (arith, c.if-n-given.false); valid = λ _. e }
    go false e = λ h. after-invalid _ _ _ (omega (arith, some)) e
