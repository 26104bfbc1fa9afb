-- The word of each stop, and the line's end.
use Rattle.std.proofs.Common.{refl}
use Rattle.rules.specs.Listing.{stop_text}
use Rattle.press_program.proofs.showing.stop_line.Goals as goal

pub returns-in-Finished : goal.returns-in-Finished
unfolding stop_text
returns-in-Finished c = rw c.in-Finished.is refl

pub returns-in-Budget : goal.returns-in-Budget
unfolding stop_text
returns-in-Budget c = rw c.in-Budget.is refl

pub returns-in-Answers : goal.returns-in-Answers
unfolding stop_text
returns-in-Answers c = rw c.in-Answers.is refl

pub returns-in-Store : goal.returns-in-Store
unfolding stop_text
returns-in-Store c = rw c.in-Store.is refl
