-- The invariant: the entries so far are written.
use Rattle.text_rules.specs.TextWords.{entry_cell}
use Rattle.text_rules.specs.Text.{text_declarations, text_entries}
use Rattle.encoding.proofs.ClauseLaws.{Writing}
use Rattle.encoding.proofs.clauses.put_clauses.Given as goal

abbrev pub invariant-loop-entry : goal.invariant-loop-entry
invariant-loop-entry l =
    let text = l.names.all.text.text.now in
    (goal.iterator-loop-entry).can_next l.entry-iterator × (goal.iterator-loop-entry).is_finite l.entry-iterator
    × Writing (text_entries text) (entry_cell (text_declarations text)) l.initial.starts l.initial.cells l.entry-iterator l.s l.starts l.cells
