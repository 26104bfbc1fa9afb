-- The stops and the report of the code as those of the rules, and what a press returns.
use Rattle.rules.specs.Evaluation as rules
use Rattle.rules.specs.Run as run
use Rattle.rules.specs.Press as press
use Rattle.report.specs.declared.Stop.{Stop}
use Rattle.report.specs.declared.Stop.TheVariants.{Finished, Budget, Answers, Store}
use Rattle.report.specs.declared.Report.{Report}
use Rattle.report.specs.declared.Advance.{Advance}
use Rattle.report.specs.declared.Advance.TheVariants.{Stepped, Prevented}
use Rattle.report.specs.declared.Pressed.{Pressed}

abbrev pub stop_of : Stop → rules.Stop
stop_of Finished = rules.finished
stop_of Budget = rules.budget
stop_of Answers = rules.answers
stop_of Store = rules.store

abbrev pub report_of : Report → run.Report
report_of r = record { stop = stop_of r.stop; steps = r.steps; cost = r.cost; answers = r.answers; pending = r.pending; parked = r.parked }

abbrev pub advance_of : Advance → press.Advance
advance_of Stepped = press.stepped
advance_of (Prevented s) = press.prevented (stop_of s)

-- How level 0 ends for it: `press` says that a step was taken by `succeeded`.
abbrev pub ending_of : Advance → rules.Ending
ending_of Stepped = rules.succeeded
ending_of (Prevented s) = rules.stopped (stop_of s)

abbrev pub counted_of : Pressed → press.Counted
counted_of p = record { advance = advance_of p.advance; steps = p.steps; cost = p.cost; answers = p.answers; pending = p.pending; parked = p.parked }
