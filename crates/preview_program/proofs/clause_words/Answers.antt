-- The size's test is the rules', and the words are those of the bytes.
use Rattle.std.proofs.Common.{sym, ap, ◌∙◌}
use Rattle.rules.specs.Program.{words_from}
use Rattle.preview_program.proofs.PartLaws.{clause_size, no-clause, clause-unfit, clause-fit}
use Rattle.preview_program.proofs.clause_words.Goals as goal

pub returns-in_default : goal.returns-in_default
returns-in_default c = rw c.in_default.is no-clause

pub returns-then-not-are_words : goal.returns-then-not-are_words
returns-then-not-are_words c = rw c.in-Some.is (clause-unfit c.in-Some.bytes.now (sym (ap clause_size c.first_cells-first.ensures) ∙ sym c.are_words.ensures ∙ c.if-not-are_words.true))

pub returns : goal.returns
returns c = rw c.in-Some.is (c.words_of.ensures ∙ ap words_from c.first_cells-first.ensures ∙ clause-fit c.in-Some.bytes.now (sym (ap clause_size c.first_cells-first.ensures) ∙ sym c.are_words.ensures ∙ c.if-not-are_words.false))
