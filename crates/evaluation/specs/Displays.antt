-- What a press returns, and the display's record, as the rules'.
use Rattle.std.specs.Prelude.{ℕ, Result, Ok, Err}
use Rattle.rules.specs.Refusals as rules
use Rattle.rules.specs.Press as press
use Rattle.report.specs.Reports.{advance_of, counted_of}
use Rattle.report.specs.declared.Stop.TheVariants.{Finished}
use Rattle.report.specs.declared.Advance.{Advance}
use Rattle.report.specs.declared.Advance.TheVariants.{Prevented}
use Rattle.report.specs.declared.Pressed.{Pressed}
use Rattle.deck.specs.Answers.{refusal_for}
use Rattle.deck.specs.declared.Refusal.{Refusal}
use Rattle.evaluation.specs.declared.press.Display.{Display}

-- A press on a finished query.
abbrev pub finished_press : ℕ → Pressed
finished_press parked = record { advance = Prevented Finished; steps = 0; cost = 0; answers = 0; pending = 0; parked = parked }

abbrev pub pressed_of : Result Pressed Refusal → rules.Checked press.Counted
pressed_of (Ok p) = rules.accepted (counted_of p)
pressed_of (Err why) = rules.refused (refusal_for why)

abbrev pub advanced_of : Result Advance Refusal → rules.Checked press.Advance
advanced_of (Ok a) = rules.accepted (advance_of a)
advanced_of (Err why) = rules.refused (refusal_for why)

abbrev pub display_of : Display → press.Display
display_of d = record { steps = d.steps; cost = d.cost; answers = d.answers; pending = d.pending; parked = d.parked }
