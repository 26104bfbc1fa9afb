-- The size's test is the rules', and the words are those of the bytes.
use Rattle.std.proofs.Common.{length, sym, ◌∙◌}
use Rattle.carry_program.proofs.BarLaws.{bars-missing, bars-unfit, bars-fit}
use Rattle.carry_program.proofs.bars.bars_of.Goals as goal

pub returns-in_default : goal.returns-in_default
returns-in_default c d e = rw c.in_default.is (c.nothing_barred.ensures d e ∙ bars-missing (length d.symbols))

pub returns-then-not-are_words : goal.returns-then-not-are_words
returns-then-not-are_words c d e = rw c.in-Some.is (bars-unfit (length d.symbols) c.in-Some.bytes.now (sym c.are_words.ensures ∙ c.if-not-are_words.true))

pub returns : goal.returns
returns c d e = rw c.in-Some.is (c.words_of.ensures ∙ bars-fit (length d.symbols) c.in-Some.bytes.now (sym c.are_words.ensures ∙ c.if-not-are_words.false))
