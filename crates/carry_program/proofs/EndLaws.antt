-- What the two outputs hold.
use Prim.Native.Nat.{ℕ}
use mathlib.Core.Path.{◌≡◌, refl, ap, sym}
use mathlib.Core.List.{List}
use lib.ListN.{length}
use Rattle.rules.specs.Refusals.{Checked, accepted}
use Rattle.rules.specs.Listing.{listing}
use Rattle.rules.specs.Evaluation.{Outcome}
use Rattle.rules.specs.Run.{report}
use Rattle.rules.specs.Run as run
use Rattle.rules.specs.CarryProgram.{Kept, kept_listing, kept_goals}
use Rattle.report.specs.declared.Report.{Report}
use Rattle.listing.specs.Printed.{Printed}
use Rattle.listing.specs.Shown.{Shown}
use Rattle.std.specs.Prelude.{Result, Ok, Err, Option}
use Rattle.deck.specs.declared.Refusal.{Refusal as Why}
use Rattle.carry_program.specs.declared.output.Outputs.{Outputs}
use Rattle.carry_program.specs.Ends.{Leaves, PrintsOrRefuses}
use Rattle.carry_program.specs.Finished.{Both, Keeps}
use Rattle.deck.specs.Answers.{refusal_for}

-- The outputs of a run, or the line of the refusal in their place.
pub Leaves-or_refusal :
    (c : Checked Kept) (out left : List ℕ) (r : Result Outputs Why) (out₁ left₁ : List ℕ) (m : Outputs) (out₂ : List ℕ)
    → Leaves c out left r out₁ left₁ → PrintsOrRefuses r out₁ m out₂ → Both c out left m.listing m.goals out₂ left₁
unfolding kept_listing listing kept_goals
Leaves-or_refusal c out left (Ok n) out₁ left₁ m out₂ p q = rw (q.0, q.1) p
Leaves-or_refusal c out left (Err why) out₁ left₁ m out₂ p q = rw (p.0, p.2, q.1) (record {
  listing = rw p.1 at q.0;
  goals = ((refusal_for why, refl), refl);
})

pub kept-both : {out left : List ℕ} {end : ℕ} {after : List ℕ} (c : Checked Kept) {m : Option ℕ} {left' : List ℕ} (k : Kept) → c ≡ accepted k
    → Printed (listing (accepted k.outcome)) out end after → Keeps c left m left' → Both c out left end m after left'
unfolding kept_listing
kept-both c k e p q = record { listing = rw e p; goals = q }

-- The counts of a report are those of the outcome that it shows.
pub counts_of : (o : Outcome) (r : Report) (list symbol_words : List ℕ) → Shown o r list symbol_words → (length o.pending ≡ r.pending) × (length o.parked ≡ r.parked)
unfolding report
counts_of o r list symbol_words s = (sym (ap (λ (x : run.Report). x.pending) s.reported), sym (ap (λ (x : run.Report). x.parked) s.reported))
