-- The two tests are the rules', and the words are those of the bytes.
use Rattle.std.proofs.Common.{rules, ap, sym, ◌∙◌}
use Rattle.rules.specs.Refusals.{accepted}
use Rattle.program.proofs.InputLaws.{query_input-long, query_input-odd, query_input-words}
use Rattle.program.proofs.input.query_words.Goals as goal

pub returns-then-query-gt1000 : goal.returns-then-query-gt1000
returns-then-query-gt1000 c = query_input-long c.args.query.now c.if-query-gt1000.true

pub returns-then-not-is_multiple_of : goal.returns-then-not-is_multiple_of
returns-then-not-is_multiple_of c = query_input-odd c.args.query.now c.if-query-gt1000.false (search rules)

pub returns : goal.returns
returns c = query_input-words c.args.query.now c.if-query-gt1000.false (search rules) ∙ ap accepted (sym c.words_of.ensures)
