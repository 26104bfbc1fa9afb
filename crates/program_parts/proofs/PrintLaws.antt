-- A result that is printed, or the line of the refusal in its place.
use Rattle.std.proofs.Common.{◌≡◌, ℕ, List, Result, Ok, Err}
use Rattle.rules.specs.Refusals.{Refusal, Checked, refused}
use Rattle.rules.specs.Listing.{listing}
use Rattle.deck.specs.declared.Refusal.{Refusal as Why}
use Rattle.deck.specs.Answers.{refusal_for}
use Rattle.listing.specs.Printed.{Printed}
use Rattle.program_parts.specs.Answers.{Prints, PrintsOrRefuses}

-- Where a refusal's text is its line.
module _ {A : Type 0} (text : Checked A → List ℕ) (line : (n : Refusal) → text (refused n) ≡ listing (refused n)) (c : Checked A) where
  pub Prints-or_refusal :
      (before : List ℕ) (r : Result ℕ Why) (mid : List ℕ) (m : ℕ) (after : List ℕ) → Prints text c before r mid → PrintsOrRefuses r mid m after → Printed (text c) before m after
  Prints-or_refusal before (Ok n) mid m after p q = rw (q.0, q.1) p
  Prints-or_refusal before (Err why) mid m after p q = rw (p.0, line (refusal_for why)) (rw p.1 at q)
