-- The run's contract, on the program's buffers, and the column's.
use Rattle.std.proofs.Common.{◌≡◌, length, replicate, refl, ap, sym, ◌∙◌}
use mathlib.Core.Option.{none}
use Rattle.std.proofs.lemmas.Result.{err_from_is_err_and}
use Rattle.rules.specs.Syntax.{Deck}
use Rattle.rules.specs.Refusals.{accepted}
use Rattle.rules.specs.Decks.{open_deck}
use Rattle.rules.specs.Evaluation.{Outcome}
use Rattle.rules.specs.Run.{answers_after}
use Rattle.rules.specs.CarryProgram.{open_words}
use Rattle.report.specs.Reports.{report_of}
use Rattle.means.specs.Means.{as_mean}
use Rattle.deck.proofs.OpenLaws.{accepted-deck}
use Rattle.deck.proofs.RefusalLaws.{number-refuses}
use Rattle.column.proofs.CallLaws.{answered, turned_down}
use Rattle.program.specs.Runs.{words_run}
use Rattle.program.proofs.PartLaws.{zeros-buffers, run-done}
use Rattle.carry_program.specs.Finished.{Finished}
use Rattle.carry_program.proofs.BarLaws.{bars-missing}
use Rattle.carry_program.proofs.RunLaws.{open-deck, open-refused, open_done}
use Rattle.mean_program.proofs.TellLaws.{mean-unasked, mean-refused, mean-done, mean-short, words-each}
use Rattle.mean_program.proofs.find_mean.Goals as goal
use Rattle.mean_program.proofs.find_mean.Goals.{In_ok-opened, After-nothing_barred, In_ok-report}

-- The deck that opened, and nothing barred.
deck : (k : In_ok-opened) → (d : Deck) × (open_deck k.args.deck.now ≡ accepted d)
deck k = let d = accepted-deck k.in_ok-opened.opened.words.now k.in_ok-opened.opened.opens in (d.0, ap open_deck (sym k.in_ok-opened.ensures.words) ∙ d.1)

barred : (k : After-nothing_barred) (d : Deck) → open_deck k.args.deck.now ≡ accepted d → k.nothing_barred.result.now ≡ replicate (length d.symbols) 0
barred k d e = k.nothing_barred.ensures d (ap open_deck k.in_ok-opened.ensures.words ∙ e)

pub returns-in_err-opened : goal.returns-in_err-opened
returns-in_err-opened c =
    let a = c.args in
    let p = err_from_is_err_and c.from_residual.result c.from_residual.ensures.1 in
    rw (p.1, p.2) (mean-unasked a.deck.now a.query.now a.place _ (open-deck a.deck.now a.query.now none 100000 _ (number-refuses _ (open_deck a.deck.now) c.in_err-opened.ensures.number)))

pub returns-in_err-report : goal.returns-in_err-report
returns-in_err-report c =
    let a = c.args in
    let at = goal.at.returns-in_err-report c in
    let d = deck at.In_ok-opened in
    let z = barred at.After-nothing_barred d.0 d.1 ∙ bars-missing (length d.0.symbols) in
    let p = err_from_is_err_and c.from_residual-in_err-report.result c.from_residual-in_err-report.ensures.1 in
    rw (p.1, p.2) (mean-unasked a.deck.now a.query.now a.place _
    (open-refused a.deck.now a.query.now _ d.0 d.1 none z 100000 _ _ (zeros-buffers c.new-lists.ensures.answers c.new-lists.ensures.store c.new-lists.ensures.scratch) _ c.in_err-report.ensures))

finished :
    (c : In_ok-report) → let a = c.args in
    Finished (open_words a.deck.now a.query.now none 100000) a.deck.now c.variables-terms.result c.run.new.answers c.run.new.store c.in_ok-report.report
finished c =
    let a = c.args in
    let at = goal.at.In_ok-report c in
    let d = deck at.In_ok-opened in
    let z = barred at.After-nothing_barred d.0 d.1 ∙ bars-missing (length d.0.symbols) in
    open_done a.deck.now a.query.now _ d.0 d.1 none z 100000 _ _ (zeros-buffers c.new-lists.ensures.answers c.new-lists.ensures.store c.new-lists.ensures.scratch) c.in_ok-report.report _ c.variables-terms.ensures c.in_ok-report.ensures

-- The program's outcome, whose answers the list begins with.
ran :
    (c : In_ok-report) → let a = c.args in
    (o : Outcome) × (words_run a.deck.now a.query.now ≡ accepted o) × (c.run.new.answers ≡ answers_after o (replicate 8192 0))
ran c =
    let a = c.args in
    let at = goal.at.In_ok-report c in
    let d = deck at.In_ok-opened in
    let z = barred at.After-nothing_barred d.0 d.1 in
    let t = run-done a.deck.now a.query.now _ d.0 d.1 z _ _ (zeros-buffers c.new-lists.ensures.answers c.new-lists.ensures.store c.new-lists.ensures.scratch) (report_of c.in_ok-report.report) c.in_ok-report.ensures in
    (t.0, t.1, t.3 ∙ ap (answers_after t.0) c.new-lists.ensures.answers)

pub returns-in_err-mean : goal.returns-in_err-mean
returns-in_err-mean c =
    let a = c.args in
    let k = (goal.at.returns-in_err-mean c).In_ok-report in
    let d = deck (goal.at.returns-in_err-mean c).In_ok-opened in
    let r = ran k in
    let p = err_from_is_err_and c.from_residual-in_err-mean.result c.from_residual-in_err-mean.ensures.1 in
    rw (p.1, p.2) (mean-refused a.deck.now a.query.now a.place d.0 d.1 _ _ c.in_ok-report.report c.variables-terms.result (finished k) r.0 r.1 r.2 _ (turned_down _ _ c.in_err-mean.ensures))

pub returns : goal.returns
returns c =
    let a = c.args in
    let k = (goal.at.returns c).In_ok-report in
    let d = deck (goal.at.returns c).In_ok-opened in
    let r = ran k in
    let f = finished k in
    let m = answered _ c.in_ok-mean.mean c.in_ok-mean.ensures in
    let h = mean-short a.deck.now _ _ _ _ (as_mean c.in_ok-mean.mean) (words-each a.deck.now (λ i. (c.type_inv.deck i).fits)) m in (
      record { outcome = f.outcome; mean = as_mean c.in_ok-mean.mean },
      mean-done a.deck.now a.query.now a.place d.0 d.1 _ _ c.in_ok-report.report c.variables-terms.result f r.0 r.1 r.2 (as_mean c.in_ok-mean.mean) m,
      record {
        reported = f.shown.reported;
        mean = refl;
        some = h.some;
        few = h.few;
        sum = h.sum;
        whole = h.whole;
        remainder = h.remainder;
      },
    )
