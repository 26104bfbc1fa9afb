-- What checks come to, as a result of the code; and what is printed of it.
use Rattle.std.specs.Prelude.{ℕ, ◌≡◌, List, Result, Ok, Err}
use Rattle.std.specs.Borrow.{Bor}
use Rattle.rules.specs.Refusals.{Checked, refused, accepted}
use Rattle.rules.specs.Listing.{listing}
use Rattle.deck.specs.declared.Refusal.{Refusal}
use Rattle.deck.specs.Answers.{refusal_for}
use Rattle.listing.specs.Printed.{Printed}

-- Checks come to the words lent, or to the refusal.
abbrev pub ComesTo : Checked (List ℕ) → Result (Bor (List ℕ)) Refusal → Type 0
ComesTo c (Ok words) = c ≡ accepted words.now
ComesTo c (Err why) = c ≡ refused (refusal_for why)

-- The text of what checks come to is printed; or nothing yet, and the refusal is returned.
abbrev pub Prints : {A : Type 0} → (Checked A → List ℕ) → Checked A → List ℕ → Result ℕ Refusal → List ℕ → Type 0
Prints text c before (Ok n) after = Printed (text c) before n after
Prints text c before (Err why) after = (c ≡ refused (refusal_for why)) × (after ≡ before)

-- The output stays as it is, or begins with the refusal's line.
abbrev pub PrintsOrRefuses : Result ℕ Refusal → List ℕ → ℕ → List ℕ → Type 0
PrintsOrRefuses (Ok n) before m after = (m ≡ n) × (after ≡ before)
PrintsOrRefuses (Err why) before m after = Printed (listing (refused (refusal_for why))) before m after
