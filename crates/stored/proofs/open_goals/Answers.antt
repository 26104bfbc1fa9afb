-- `open_goals`: the pending goals, and then the parked ones.
use Rattle.deck.specs.Kinds.{symbols_of}
use Rattle.stored.proofs.StoreLaws.{none-pending, none-parked, all-open}
use Rattle.stored.proofs.open_goals.Goals as goal

pub returns-in_err-middle : goal.returns-in_err-middle
returns-in_err-middle c =
    let a = c.args in
    rw c.from_residual.ensures (none-pending (symbols_of a.symbols.now) a.store.now a.counts.pending a.counts.parked a.counts.terms c.in_err-middle.ensures)

pub returns-in_err-end : goal.returns-in_err-end
returns-in_err-end c =
    let a = c.args in
    rw c.from_residual-in_err-end.ensures
    (none-parked (symbols_of a.symbols.now) a.store.now a.counts.pending a.counts.parked a.counts.terms c.in_ok-middle.middle c.in_ok-middle.ensures c.in_err-end.ensures)

pub returns : goal.returns
returns c =
    let a = c.args in
    all-open (symbols_of a.symbols.now) a.store.now a.counts.pending a.counts.parked a.counts.terms c.in_ok-middle.middle c.in_ok-middle.ensures c.in_ok-end.end c.in_ok-end.ensures
