-- `next` meets its contract. Assumes nothing.
use Prim.Native.Nat.{ℕ, ◌+◌, ◌-◌, ◌≤◌}
use mathlib.Core.Path.{◌≡◌, refl, sym, ◌∙◌, subst}
use mathlib.Core.Bool.{false}
use mathlib.Core.List.{List}
use native.Mathlib.Omega.{arith}
use Rattle.std.proofs.lemmas.List.{get_or-replicate}
use Rattle.std.specs.Prelude.{Option, is_some}
use Rattle.rules.specs.Syntax.{Symbol}
use Rattle.rules.specs.Drill.{fillings}
use Rattle.deck.specs.Kinds.{symbols_of}
use Rattle.drill.specs.Successors.{nonempty, Sought}
use Rattle.drill.proofs.TableLaws.{filled-one, filled_more, filled_known}
use Rattle.drill.proofs.WordLaws.{entry-sought}
use Rattle.drill.proofs.table.Row.next.Goals as goal

-- The entry of k places that m + 1 cells fill.
entry-of : (S : List Symbol) (m k : ℕ) → 1 ≤ k → (r : Option ℕ) → Sought S m (k - 1) 0 r → is_some r ≡ nonempty (fillings S (m + 1) k)
entry-of S m k h r w =
    let n : m + 1 - 1 ≡ m = omega arith in
    entry-sought S (m + 1) k (omega arith) h r (subst (λ j. Sought S j (k - 1) 0 r) (sym n) w)

pub loop-k-init : goal.loop-k-init
loop-k-init c = filled-one (symbols_of c.args.self.now.symbols.now) _ _ refl (λ k h. get_or-replicate 8 k false false h) (omega arith)

pub loop-k-preserved : goal.loop-k-preserved
loop-k-preserved c =
    let S = symbols_of c.args.self.now.symbols.now in
    filled_more c.loop-k.invariant c.is_some.result (omega arith) (c.is_some.ensures ∙ entry-of S c.args.self.now.m c.loop-k.k (omega arith) c.seek.result c.seek.ensures)

pub returns : goal.returns
returns c = filled_known c.loop-k.invariant (omega (arith, c.loop-k-test.false))

pub returns-2 : goal.returns-2
returns-2 c =
    let S = symbols_of c.args.self.now.symbols.now in
    filled_known (filled_more c.loop-k.invariant c.is_some.result (omega arith) (c.is_some.ensures ∙ entry-of S c.args.self.now.m c.loop-k.k (omega arith) c.seek.result c.seek.ensures)) (omega arith)
