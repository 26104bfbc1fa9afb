-- By the kind of the token and the place.
use mathlib.Core.Path.{refl}
use lib.ListN.{drop}
use Rattle.text_rules.specs.TextTokens.{tokens}
use Rattle.text_rules.specs.TextWords.{a_variable, entry_after}
use Rattle.text.proofs.ReadLaws.{token_of}
use Rattle.encoding.specs.Walk.{kind_before}
use Rattle.encoding.proofs.CellLaws.{variable-small}
use Rattle.encoding.proofs.WalkLaws.{use_of, entry-variable, entry-name, entry-none}
use Rattle.encoding.proofs.walk.Entries.entry.Goals as goal

pub returns-in-Variable : goal.returns-in-Variable
returns-in-Variable c =
    let w = c.args.self.now in
    let t = c.args.t in
    let n = c.requires.next in
    let v = c.in-Variable.v in
    (a_variable v, (variable-small w.text.now w.at t n v c.in-Variable.is, refl), entry-variable w.text.now w.at t n (kind_before w.place) c.requires.more v c.in-Variable.is)

pub returns-in-Name : goal.returns-in-Name
returns-in-Name c =
    let w = c.args.self.now in
    let t = c.args.t in
    let u = use_of (token_of w.text.now t) (tokens 0 (drop t.to w.text.now)) in
    (entry_after (kind_before w.place) u, c.entry.ensures u refl, entry-name w.text.now w.at t c.requires.next (kind_before w.place) c.requires.more c.in-Name.is)

pub returns-in_default : goal.returns-in_default
returns-in_default c =
    let w = c.args.self.now in
    entry-none w.text.now w.at c.args.t c.requires.next (kind_before w.place) c.requires.more c.in_default.not-Name c.in_default.not-Variable
