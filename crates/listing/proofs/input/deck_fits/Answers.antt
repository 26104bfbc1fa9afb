-- The test is that of `deck_fits`.
use Rattle.std.proofs.Common.{rules, ◌≡◌, List, ℕ, Bool, false, ◌&&◌, Bor, Option, Some, None, MatchOption, leb, length}
use Rattle.rules.specs.Program.{even}
use Rattle.listing.specs.Printed.{file_of, deck_fits}
use Rattle.listing.proofs.input.deck_fits.Goals as goal

told : (b : Bool) {Gives : Bor (List ℕ) → Type 0} → ((x : Bor (List ℕ)) → Gives x → b ≡ (even x.now && leb (length x.now) 32768))
    → (file : Option (Bor (List ℕ))) → MatchOption file (b ≡ false) Gives → b ≡ deck_fits (file_of file)
told b says None e = e
told b says (Some x) e = says x e

pub returns : goal.returns
returns c = told _ (λ x g. search rules) _ c.is_some_and.ensures
