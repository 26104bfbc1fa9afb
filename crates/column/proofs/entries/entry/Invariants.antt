-- `entry`: the terms from the place on are those after the first i.
use Rattle.std.proofs.Common.{◌≡◌}
use Rattle.rules.specs.Terms.{Terms}
use Rattle.matching.specs.Taking.{drop_t}
use Rattle.matching.specs.Cells.{from}
use Rattle.column.specs.Entries.{EntryAt}
use Rattle.column.proofs.entries.entry.Given as goal

abbrev pub invariant-loop-i : goal.invariant-loop-i
invariant-loop-i l =
    (ts : Terms) → EntryAt l.symbols l.cells ts l.place → from l.symbols l.cells l.at ≡ drop_t l._i ts
