-- The tests of the words, put together one after another.
use Rattle.std.proofs.Common.{rules}
use mathlib.Core.Path.{◌≡◌, refl, ◌∙◌}
use mathlib.Core.Bool.{Bool, true, false, ◌&&◌}
use mathlib.Core.List.{List, [], ◌∷◌}
use Prim.Native.Nat.{ℕ}
use Rattle.std.specs.List.{fold, list_all}
use Rattle.std.proofs.lemmas.Iterator.{YieldsList-from_slice}
use Rattle.std.proofs.lemmas.Iterator.Consumers.{fold_from_yields_List}
use Rattle.rules.specs.Decks.{read_symbol}
use Rattle.deck.specs.Answers.{found}
use Rattle.deck.proofs.symbols.fit.Goals as goal

folded : (p : ℕ → Bool) (fits : Bool) (xs : List ℕ) → fold (λ a x. a && p x) fits xs ≡ fits && list_all p xs
folded p true [] = refl
folded p false [] = refl
folded p true (x ∷ xs) = folded p (p x) xs
folded p false (x ∷ xs) = folded p false xs

pub returns : goal.returns
returns c =
    let p : ℕ → Bool = λ word. found (read_symbol word) in
    fold_from_yields_List _ (λ fits word. fits && p word) true c.fold.result c.fold.ensures.ran (YieldsList-from_slice c.args.words.now c.iter.ensures.rest) (λ a x b q k. search rules)
    ∙ folded p true c.args.words.now
