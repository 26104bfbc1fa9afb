-- The run's contract, on the program's buffers, gives what is printed.
use Rattle.std.proofs.Common.{rules, ◌≡◌, ℕ, List, length, ap, sym, ◌∙◌, subst}
use Rattle.rules.specs.Syntax.{Deck}
use Rattle.rules.specs.Refusals.{accepted}
use Rattle.rules.specs.Decks.{open_deck}
use Rattle.deck.proofs.OpenLaws.{accepted-deck}
use Rattle.deck.proofs.RefusalLaws.{number-refuses}
use Rattle.std.proofs.lemmas.Result.{err_from_is_err_and}
use Rattle.listing.specs.Printed.{file_of}
use Rattle.rules.specs.CarryProgram.{bars_from, open_words}
use Rattle.program.proofs.PartLaws.{zeros-buffers}
use Rattle.carry_program.specs.Finished.{Finished}
use Rattle.carry_program.proofs.RunLaws.{open-deck, open-refused, open_done}
use Rattle.carry_program.proofs.open_run.Goals as goal
use Rattle.carry_program.proofs.open_run.Goals.{In_ok-opened, After-bars_of-bars, In_ok-report}

-- The deck that opened, and the list.
deck : (k : goal.In_ok-opened) → (d : Deck) × (open_deck k.args.deck.now ≡ accepted d)
deck k = let d = accepted-deck k.in_ok-opened.opened.words.now k.in_ok-opened.opened.opens in (d.0, ap open_deck (sym k.in_ok-opened.ensures.words) ∙ d.1)

listed : (k : goal.After-bars_of-bars) (d : Deck) → open_deck k.args.deck.now ≡ accepted d → k.bars_of-bars.result.now ≡ bars_from (length d.symbols) (file_of k.args.bars)
listed k d e = k.bars_of-bars.ensures d (ap open_deck k.in_ok-opened.ensures.words ∙ e)

pub returns-in_err-opened : goal.returns-in_err-opened
returns-in_err-opened c =
    let a = c.args in
    let p = err_from_is_err_and c.from_residual.result c.from_residual.ensures.1 in
    rw (p.1, p.2) (open-deck a.deck.now a.query.now (file_of a.bars) a.budget _ (number-refuses _ (open_deck a.deck.now) c.in_err-opened.ensures.number), search rules, search rules)

finished :
    (c : In_ok-report) → let a = c.args in
    Finished (open_words a.deck.now a.query.now (file_of a.bars) a.budget) c.in_ok-opened.opened.words.now c.variables-terms.result c.run.new.answers c.run.new.store c.in_ok-report.report
finished c =
    let a = c.args in
    let at = goal.at.In_ok-report c in
    let d = deck at.In_ok-opened in
    subst (λ (ws : List ℕ). Finished (open_words a.deck.now a.query.now (file_of a.bars) a.budget) ws c.variables-terms.result c.run.new.answers c.run.new.store c.in_ok-report.report) (sym c.in_ok-opened.ensures.words)
    (open_done a.deck.now a.query.now _ d.0 d.1 (file_of a.bars) (listed at.After-bars_of-bars d.0 d.1) a.budget _ _ (zeros-buffers c.new-lists.ensures.answers c.new-lists.ensures.store c.new-lists.ensures.scratch) c.in_ok-report.report _ c.variables-terms.ensures c.in_ok-report.ensures)

pub returns-in_err-report : goal.returns-in_err-report
returns-in_err-report c =
    let a = c.args in
    let at = goal.at.returns-in_err-report c in
    let d = deck at.In_ok-opened in
    let p = err_from_is_err_and c.from_residual-in_err-report.result c.from_residual-in_err-report.ensures.1 in
    rw (p.1, p.2) (open-refused a.deck.now a.query.now _ d.0 d.1 (file_of a.bars) (listed at.After-bars_of-bars d.0 d.1) a.budget _ _ (zeros-buffers c.new-lists.ensures.answers c.new-lists.ensures.store c.new-lists.ensures.scratch) _ c.in_err-report.ensures, search rules, search rules)

pub put-requires : goal.put-requires
put-requires c = (_, finished (goal.at.put-requires c).In_ok-report)

pub returns : goal.returns
returns c = c.put.ensures _ (finished (goal.at.returns c).In_ok-report)
