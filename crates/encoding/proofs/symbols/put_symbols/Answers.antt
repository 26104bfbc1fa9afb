-- By the format of the text.
use mathlib.Core.Path.{ap, ◌∙◌}
use lib.ListN.{length}
use Rattle.rules.specs.Decks.{format_number}
use Rattle.encoding.proofs.EncodeLaws.{words-same, pairs-same, one-word, two-words}
use Rattle.encoding.proofs.symbols.put_symbols.Goals as goal

pub put_pairs-requires : goal.put_pairs-requires
put_pairs-requires c = c.requires ∙ two-words _ (length c.args.names.names.now.entries) (pairs-same c.args.names c.if-names.true).0

pub put_words-requires : goal.put_words-requires
put_words-requires c = c.requires ∙ one-word _ (length c.args.names.names.now.entries) (ap format_number (words-same c.args.names c.if-names.false).0)

pub returns-then-names : goal.returns-then-names
returns-then-names c = c.put_pairs.ensures ∙ (pairs-same c.args.names c.if-names.true).1

pub returns-else-names : goal.returns-else-names
returns-else-names c = c.put_words.ensures ∙ (words-same c.args.names c.if-names.false).1
