-- The numbers and the goals' words are read, and the contract of the run that carries on gives what is printed.
use Rattle.std.proofs.Common.{rules, ◌≡◌, ℕ, List, ◌∙◌, ◌-◌, length, drop, ap, sym, subst, arith}
use Rattle.std.proofs.lemmas.List.{take_all, length-drop}
use Rattle.rules.specs.Syntax.{Deck}
use Rattle.rules.specs.Refusals.{accepted}
use Rattle.rules.specs.Decks.{open_deck}
use Rattle.deck.proofs.OpenLaws.{accepted-deck}
use Rattle.deck.proofs.RefusalLaws.{number-refuses}
use Rattle.report.specs.Reports.{report_of}
use Rattle.std.proofs.lemmas.Result.{err_from_is_err_and}
use Rattle.rules.specs.Program.{words_from}
use Rattle.listing.specs.Printed.{file_of}
use Rattle.rules.specs.CarryProgram.{bars_from, store_from, carry_bytes}
use Rattle.listing.proofs.PutLaws.{put-length}
use Rattle.program.proofs.PartLaws.{Buffers, zeros-buffers}
use Rattle.carry_program.specs.Finished.{Finished}
use Rattle.carry_program.proofs.RunLaws.{goals-stored, numbered, carry-deck, carry-refused, carry-done}
use Rattle.carry_program.proofs.carry_run.Goals as goal
use Rattle.carry_program.proofs.carry_run.Goals.{In_ok-opened, After-read_words, After-bars_of-bars, In_ok-report}

-- The deck that opened, and the list.
deck : (k : goal.In_ok-opened) → (d : Deck) × (open_deck k.args.deck.now ≡ accepted d)
deck k = let d = accepted-deck k.in_ok-opened.opened.words.now k.in_ok-opened.opened.opens in (d.0, ap open_deck (sym k.in_ok-opened.ensures.words) ∙ d.1)

listed : (k : goal.After-bars_of-bars) (d : Deck) → open_deck k.args.deck.now ≡ accepted d → k.bars_of-bars.result.now ≡ bars_from (length d.symbols) (file_of k.args.bars)
listed k d e = k.bars_of-bars.ensures d (ap open_deck k.in_ok-opened.ensures.words ∙ e)

pub returns-in_err-opened : goal.returns-in_err-opened
returns-in_err-opened c =
    let a = c.args in
    let p = err_from_is_err_and c.from_residual.result c.from_residual.ensures.1 in
    rw (p.1, p.2) (carry-deck a.deck.now a.goals.now (file_of a.bars) a.budget _ (number-refuses _ (open_deck a.deck.now) c.in_err-opened.ensures.number), search rules, search rules)

-- The store after the goals' words are read.
filled : (c : After-read_words) → c.read_words.new.words ≡ store_from (words_from (drop 24 c.args.goals.now))
filled c =
    let a = c.args in
    let rest = drop 24 a.goals.now in
    goals-stored 24 a.goals.now _ (take_all (length a.goals.now - 24) rest (omega (arith, length-drop 24 a.goals.now))) c.requires.1 (rw c.new-lists.ensures.store at c.read_words.ensures)

-- The lists have their sizes.
sized : (c : After-read_words) → Buffers (record { answers = c.new-lists.result.answers; store = c.read_words.new.words; scratch = c.new-lists.result.scratch })
sized c =
    let l = c.new-lists.ensures in
    let z : Buffers (record { answers = c.new-lists.result.answers; store = c.new-lists.result.store; scratch = c.new-lists.result.scratch }) = zeros-buffers l.answers l.store l.scratch in
    record { answers = z.answers; store = put-length c.read_words.ensures ∙ z.store; scratch = z.scratch }

finished :
    (c : In_ok-report) → let a = c.args in
    Finished (carry_bytes a.deck.now a.goals.now (file_of a.bars) a.budget) c.in_ok-opened.opened.words.now c.number-terms.result c.carry_on.new.answers c.carry_on.new.store c.in_ok-report.report
finished c =
    let a = c.args in
    let result = accepted (report_of c.in_ok-report.report) in
    let at = goal.at.In_ok-report c in
    let w = at.After-read_words in
    let d = deck at.In_ok-opened in
    subst (λ (ws : List ℕ). Finished (carry_bytes a.deck.now a.goals.now (file_of a.bars) a.budget) ws c.number-terms.result c.carry_on.new.answers c.carry_on.new.store c.in_ok-report.report) (sym c.in_ok-opened.ensures.words)
    (subst (λ (n : ℕ). Finished (carry_bytes a.deck.now a.goals.now (file_of a.bars) a.budget) a.deck.now n c.carry_on.new.answers c.carry_on.new.store c.in_ok-report.report) (sym c.number-terms.ensures)
    (carry-done a.deck.now a.goals.now _ d.0 d.1 (file_of a.bars) (listed at.After-bars_of-bars d.0 d.1) a.budget _ _ (sized w) (filled w) c.in_ok-report.report
    (numbered a.deck.now a.goals.now _ a.budget _ _ _ c.number-pending.ensures c.number-parked.ensures c.number-terms.ensures result _ _ c.in_ok-report.ensures)))

pub returns-in_err-report : goal.returns-in_err-report
returns-in_err-report c =
    let a = c.args in
    let at = goal.at.returns-in_err-report c in
    let p = err_from_is_err_and c.from_residual-in_err-report.result c.from_residual-in_err-report.ensures.1 in
    let w = at.After-read_words in
    let d = deck at.In_ok-opened in
    rw (p.1, p.2) (
      carry-refused a.deck.now a.goals.now _ d.0 d.1 (file_of a.bars) (listed at.After-bars_of-bars d.0 d.1) a.budget _ _ (sized w) (filled w) _
          (numbered a.deck.now a.goals.now _ a.budget _ _ _ c.number-pending.ensures c.number-parked.ensures c.number-terms.ensures _ _ _ c.in_err-report.ensures),
      search rules,
      search rules,
    )

pub put-requires : goal.put-requires
put-requires c = (_, finished (goal.at.put-requires c).In_ok-report)

pub returns : goal.returns
returns c = c.put.ensures _ (finished (goal.at.returns c).In_ok-report)
