-- `starts` meets its contract. Assumes nothing.
use mathlib.Core.Path.{◌≡◌, sym, ◌∙◌}
use mathlib.Core.Bool.{false}
use native.Mathlib.Omega.{arith}
use Rattle.signature.specs.Symbols.{is_predicate}
use Rattle.drill.proofs.WordLaws.{starts-predicate, starts-over, starts-row}
use Rattle.drill.proofs.table.Row.starts.Goals as goal

pub returns-then-is_predicate : goal.returns-then-is_predicate
returns-then-is_predicate c =
    let s = c.args.self.now in
    sym (starts-predicate s.symbols.now s.m c.args.k c.args.f c.requires.1 (sym c.is_predicate.ensures ∙ c.if-is_predicate.true))

pub returns-then-self-arity : goal.returns-then-self-arity
returns-then-self-arity c =
    let s = c.args.self.now in
    let p : is_predicate s.symbols.now c.args.f ≡ false = sym c.is_predicate.ensures ∙ c.if-is_predicate.false in
    sym (starts-over s.symbols.now s.m c.args.k c.args.f c.requires.1 p (omega (arith, c.if-self-arity.true, c.arity-arity.ensures)))

pub returns : goal.returns
returns c =
    let s = c.args.self.now in
    let p : is_predicate s.symbols.now c.args.f ≡ false = sym c.is_predicate.ensures ∙ c.if-is_predicate.false in
    rw c.arity-arity.ensures
    (starts-row s.symbols.now s.fillable.now s.m c.args.k c.args.f c.requires.1 p s.known s.small (omega (arith, c.if-self-arity.false, c.arity-arity.ensures)))
