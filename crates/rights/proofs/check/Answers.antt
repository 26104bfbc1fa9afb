-- `check` meets its contract.
use Rattle.std.proofs.Common.{true, false, sym, ◌∙◌}
use Rattle.rules.specs.Rights.{literals_of}
use Rattle.rights.proofs.RightsLaws.{barred-found, number-15, number-16, number-0, fits-as}
use Rattle.rights.proofs.check.Goals as goal

pub returns-then-not-fit : goal.returns-then-not-fit
returns-then-not-fit c d ms e f =
    number-15 d c.args.bars.now ms (fits-as c.args.clauses.now.deck.words.now d e _ c.symbols.ensures c.args.bars.now c.fit.result false c.fit.ensures c.if-not-fit.true)

pub returns-then-any_barred : goal.returns-then-any_barred
returns-then-any_barred c d ms e f =
    number-16 d c.args.bars.now ms (fits-as c.args.clauses.now.deck.words.now d e _ c.symbols.ensures c.args.bars.now c.fit.result true c.fit.ensures c.if-not-fit.false)
    (sym (barred-found d (literals_of ms) c.args.bars.now _ (c.spread.ensures d (literals_of ms) e f)) ∙ sym c.any_barred.ensures ∙ c.if-any_barred.true)

pub returns : goal.returns
returns c d ms e f =
    number-0 d c.args.bars.now ms (fits-as c.args.clauses.now.deck.words.now d e _ c.symbols.ensures c.args.bars.now c.fit.result true c.fit.ensures c.if-not-fit.false)
    (sym (barred-found d (literals_of ms) c.args.bars.now _ (c.spread.ensures d (literals_of ms) e f)) ∙ sym c.any_barred.ensures ∙ c.if-any_barred.false)
