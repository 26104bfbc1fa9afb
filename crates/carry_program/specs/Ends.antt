-- The two outputs of a program that keeps its open goals, and its refusals.
use Rattle.std.specs.Prelude.{ℕ, ◌≡◌, List, Result, Ok, Err, None}
use Rattle.rules.specs.Refusals.{Checked, refused}
use Rattle.rules.specs.Listing.{listing}
use Rattle.rules.specs.CarryProgram.{Kept}
use Rattle.deck.specs.declared.Refusal.{Refusal}
use Rattle.deck.specs.Answers.{refusal_for}
use Rattle.listing.specs.Printed.{Printed}
use Rattle.carry_program.specs.declared.output.Outputs.{Outputs}
pub use Rattle.carry_program.specs.Finished.{Both}

-- Both outputs of what checks and a run come to; or nothing yet, and the refusal is returned.
abbrev pub Leaves : Checked Kept → List ℕ → List ℕ → Result Outputs Refusal → List ℕ → List ℕ → Type 0
Leaves c out left (Ok outputs) out' left' = Both c out left outputs.listing outputs.goals out' left'
Leaves c out left (Err why) out' left' = (c ≡ refused (refusal_for why)) × (out' ≡ out) × (left' ≡ left)

-- The listing stays as it is, or is the refusal's line.
abbrev pub PrintsOrRefuses : Result Outputs Refusal → List ℕ → Outputs → List ℕ → Type 0
PrintsOrRefuses (Ok outputs) out result out' = (result ≡ outputs) × (out' ≡ out)
PrintsOrRefuses (Err why) out result out' = Printed (listing (refused (refusal_for why))) out result.listing out' × (result.goals ≡ None)
