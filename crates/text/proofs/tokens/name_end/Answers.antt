-- A name is at most 16 bytes.
use Rattle.text.proofs.ScanLaws.{named}
use Rattle.text.proofs.tokens.name_end.Goals as goal

pub returns : goal.returns
returns c = named c.args.text.now c.args.from c.words.result c.requires c.words.ensures
