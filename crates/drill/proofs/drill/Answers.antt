-- `drill` meets its contract: the deck's refusals, refusal 19, and the list. Assumes nothing.
use mathlib.Core.Path.{◌≡◌, subst}
use mathlib.Core.Bool.{Bool, true, false}
use borrow.Author.Tests.{not-true, not-false}
use Rattle.std.proofs.lemmas.Result.{err_from_is_err_and}
use Rattle.rules.specs.Refusals.{checked_number}
use Rattle.rules.specs.Decks.{symbol_words, open_deck}
use Rattle.deck.specs.Kinds.{symbols_of}
use Rattle.drill.specs.Successors.{Accepts}
use Rattle.drill.proofs.AnswerLaws.{symbols-few, refused-call, refused-drill, written-call}
use Rattle.drill.proofs.drill.Goals as goal
use Rattle.drill.proofs.drill.Goals.{After-accepts, In_ok-opened}

-- The deck was accepted, and what the test of the given cells says.
opens : (c : goal.In_ok-opened) → checked_number (open_deck c.args.deck.now) ≡ 0
opens c = rw c.in_ok-opened.ensures.words at c.in_ok-opened.opened.opens

tested : (c : goal.After-accepts) (b : Bool) → c.accepts.result ≡ b → Accepts (symbols_of (symbol_words c.args.deck.now)) c.args.n c.args.given.now b
tested c b e =
    subst (λ r. Accepts (symbols_of (symbol_words c.args.deck.now)) c.args.n c.args.given.now r) e
    (rw (c.symbols-symbols.ensures, c.in_ok-opened.ensures.words, c.in-Ok.ensures.1) at c.accepts.ensures)

pub returns-then-not-accepts : goal.returns-then-not-accepts
returns-then-not-accepts c =
    let w = refused-drill c.args.deck.now c.args.n c.args.given.now c.args.out.now (opens (goal.at.returns-then-not-accepts c).In_ok-opened) (tested (goal.at.returns-then-not-accepts c).After-accepts false (not-true c.accepts.result c.if-not-accepts.true-raw)) in
    record {
      answers = w.answer;
      out_after = w.list;
    }

pub list-requires : goal.list-requires
list-requires c =
    let ws = c.args.deck.now in
    rw (c.symbols-symbols.ensures, c.in_ok-opened.ensures.words, c.in-Ok.ensures.1) (symbols-few ws (opens (goal.at.list-requires c).In_ok-opened), tested (goal.at.list-requires c).After-accepts true (not-false c.accepts.result c.if-not-accepts.false-raw))

pub returns-in_err-opened : goal.returns-in_err-opened
returns-in_err-opened c =
    let p = err_from_is_err_and c.from_residual.result c.from_residual.ensures.1 in
    let w = refused-call c.args.deck.now c.args.n c.args.given.now c.args.out.now c.in_err-opened.field-0.0 c.in_err-opened.ensures.number in
    record {
      answers = rw (p.1, p.2) w.answer;
      out_after = w.list;
    }

pub returns : goal.returns
returns c =
    let ws = c.args.deck.now in
    let w =
    written-call ws c.args.n c.args.given.now c.args.out.now (opens (goal.at.returns c).In_ok-opened) c.list.result c.list.new.out
    (tested (goal.at.returns c).After-accepts true (not-false c.accepts.result c.if-not-accepts.false-raw)) (rw (c.symbols-symbols.ensures, c.in_ok-opened.ensures.words, c.in-Ok.ensures.1) at c.list.ensures.number) (rw (c.symbols-symbols.ensures, c.in_ok-opened.ensures.words, c.in-Ok.ensures.1) at c.list.ensures.list) in
    record {
      answers = w.answer;
      out_after = w.list;
    }
