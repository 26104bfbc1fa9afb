-- The test is the rules', and the words are those of the bytes.
use Rattle.std.proofs.Common.{length, arith, ap, sym, ◌∙◌}
use Rattle.rules.specs.Refusals.{accepted}
use Rattle.program_parts.proofs.SizeLaws.{words-size}
use Rattle.drill_program.proofs.PartLaws.{drill_input-refused, drill_input-words, some_word}
use Rattle.drill_program.proofs.input_words.Goals as goal

pub returns-then-not-are_words-clause-comes : goal.returns-then-not-are_words-clause-comes
returns-then-not-are_words-clause-comes c = drill_input-refused c.args.input.now (sym c.are_words.ensures ∙ c.if-not-are_words.true)

pub words_of-requires : goal.words_of-requires
words_of-requires c = omega (arith, (words-size c.args.input.now 2 18 (sym c.are_words.ensures ∙ c.if-not-are_words.false)).1, c.told-words)

pub returns-clause-comes : goal.returns-clause-comes
returns-clause-comes c = drill_input-words c.args.input.now (sym c.are_words.ensures ∙ c.if-not-are_words.false) ∙ ap accepted (sym c.words_of.ensures)

pub returns-clause-some_word : goal.returns-clause-some_word
returns-clause-some_word c =
    omega (arith, ap length c.words_of.ensures, some_word c.args.input.now (words-size c.args.input.now 2 18 (sym c.are_words.ensures ∙ c.if-not-are_words.false)).0)
