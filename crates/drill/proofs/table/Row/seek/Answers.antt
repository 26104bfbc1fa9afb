-- `seek` meets its contract: the symbols in order, up to the first one that can begin a filling. Assumes nothing.
use Rattle.std.proofs.Common.{rules, tests}
use mathlib.Core.Path.{◌≡◌}
use mathlib.Core.Bool.{true, false}
use native.Mathlib.Omega.{arith}
use lib.ListN.{get_elem?}
use Rattle.std.proofs.lemmas.Iterator.{first_from_Range}
use Rattle.deck.specs.Kinds.{symbols_of}
use Rattle.drill.specs.Successors.{starts_with}
use Rattle.drill.proofs.FillLaws.{sought-range}
use Rattle.drill.proofs.WordLaws.{symbols-length}
use Rattle.drill.proofs.table.Row.seek.Goals as goal

pub returns : goal.returns
returns c =
    let s = c.args.self.now in
    let S = symbols_of s.symbols.now in
    let m = s.m in
    let k = c.args.k in
    sought-range S m k c.args.from c.count.result c.find.result (omega (arith, c.count.ensures, symbols-length s.symbols.now)) (omega (arith, c.count.ensures, c.requires.1))
    (first_from_Range _ _ _ _ (λ i. starts_with S m k (get_elem? S i) ≡ true) (λ i. starts_with S m k (get_elem? S i) ≡ false) c.find.ensures.ran (λ x q h. search (rules, tests)) (λ x q h. search (rules, tests)))
