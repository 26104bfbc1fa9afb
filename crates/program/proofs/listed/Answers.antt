-- The run's contract, on the program's buffers, gives what is printed.
use Rattle.std.proofs.Common.{rules, ◌≡◌, ℕ, List, length, replicate, ap, sym, ◌∙◌, subst}
use Rattle.std.proofs.lemmas.Result.{err_from_is_err_and}
use Rattle.rules.specs.Refusals.{accepted}
use Rattle.rules.specs.Decks.{symbol_words, open_deck}
use Rattle.rules.specs.Evaluation.{Outcome}
use Rattle.report.specs.Reports.{report_of}
use Rattle.listing.specs.Shown.{Shown}
use Rattle.listing.proofs.RunLaws.{run-shown}
use Rattle.program.specs.Runs.{words_run}
use Rattle.rules.specs.Syntax.{Deck}
use Rattle.deck.proofs.OpenLaws.{accepted-deck}
use Rattle.deck.proofs.RefusalLaws.{number-refuses}
use Rattle.program.proofs.PartLaws.{zeros-buffers, words-run, deck-refused, run-refused, run-done}
use Rattle.program.proofs.listed.Goals as goal
use Rattle.program.proofs.listed.Goals.{In_ok-opened, After-nothing_barred, In_ok-report}

-- The deck that opened.
deck : (k : goal.In_ok-opened) → (d : Deck) × (open_deck k.args.deck.now ≡ accepted d)
deck k = let d = accepted-deck k.in_ok-opened.opened.words.now k.in_ok-opened.opened.opens in (d.0, ap open_deck (sym k.in_ok-opened.ensures.words) ∙ d.1)

-- Nothing is barred.
barred : (k : goal.After-nothing_barred) (d : Deck) → open_deck k.args.deck.now ≡ accepted d → k.nothing_barred.result.now ≡ replicate (length d.symbols) 0
barred k d e = k.nothing_barred.ensures d (ap open_deck k.in_ok-opened.ensures.words ∙ e)

pub returns-in_err-opened : goal.returns-in_err-opened
returns-in_err-opened c =
    let a = c.args in
    let p = err_from_is_err_and c.from_residual.result c.from_residual.ensures.1 in
    rw (p.1, p.2) (deck-refused a.deck.now a.query.now _ (number-refuses _ (open_deck a.deck.now) c.in_err-opened.ensures.number), search rules)

-- The run was done, and can be listed.
shown :
    (c : In_ok-report) → let a = c.args in
    (o : Outcome) × (words_run a.deck.now a.query.now ≡ accepted o)
    × Shown o c.in_ok-report.report c.run.new.answers (symbol_words a.deck.now)
shown c =
    let a = c.args in
    let report = c.in_ok-report.report in
    let at = goal.at.In_ok-report c in
    let d = deck at.In_ok-opened in
    let z = barred at.After-nothing_barred d.0 d.1 in
    let t = run-done a.deck.now a.query.now _ d.0 d.1 z _ _ (zeros-buffers c.new-lists.ensures.answers c.new-lists.ensures.store c.new-lists.ensures.scratch) (report_of report) c.in_ok-report.ensures in (
      t.0,
      t.1,
      subst (λ (list : List ℕ). Shown t.0 report list (symbol_words a.deck.now)) (sym t.3)
          (run-shown a.deck.now a.query.now _ 100000 8192 16384 8192 t.0 (sym (words-run a.deck.now a.query.now d.0 d.1) ∙ t.1) report t.2 _),
    )

pub returns-in_err-report : goal.returns-in_err-report
returns-in_err-report c =
    let a = c.args in
    let at = goal.at.returns-in_err-report c in
    let d = deck at.In_ok-opened in
    let z = barred at.After-nothing_barred d.0 d.1 in
    let p = err_from_is_err_and c.from_residual-in_err-report.result c.from_residual-in_err-report.ensures.1 in
    rw (p.1, p.2) (run-refused a.deck.now a.query.now _ d.0 d.1 z _ _ (zeros-buffers c.new-lists.ensures.answers c.new-lists.ensures.store c.new-lists.ensures.scratch) _ c.in_err-report.ensures, search rules)

pub put_run-requires : goal.put_run-requires
put_run-requires c =
    let s = shown (goal.at.put_run-requires c).In_ok-report in
    (s.0, rw (c.symbols.ensures ∙ ap symbol_words c.in_ok-opened.ensures.words) s.2)

pub returns : goal.returns
returns c =
    let s = shown (goal.at.returns c).In_ok-report in
    rw s.1 (c.put_run.ensures s.0 (rw (c.symbols.ensures ∙ ap symbol_words c.in_ok-opened.ensures.words) s.2))
