-- The head, the body and the end of the line.
use mathlib.Core.List.{[]}
use Rattle.rules.specs.Syntax.{pos}
use Rattle.text_rules.specs.TextWriter.{literal_text, body_text}
use Rattle.listing.proofs.PutLaws.{all_left, left-room, rest-room, put_some, put_last}
use Rattle.writing.proofs.TextParts.{clause-parts}
use Rattle.writing.proofs.clauses.put_clause.Goals as goal

pub put_literal-requires : goal.put_literal-requires
put_literal-requires c =
    let d = c.requires.0 in
    let head = pos d.predicate d.arguments in
    (head, d.body, c.requires.1, left-room (literal_text head []) _ (all_left c.args.out.now (clause-parts d)) c.requires.2)

pub put_body-requires : goal.put_body-requires
put_body-requires c =
    let d = c.requires.0 in
    let h = c.put_literal.ensures (pos d.predicate d.arguments) d.body c.requires.1 in
    (d.body, h.others, left-room (body_text d.body []) _ (put_some (all_left c.args.out.now (clause-parts d)) h.adds) c.requires.2)

pub put-requires : goal.put-requires
put-requires c =
    let d = c.requires.0 in
    let h = c.put_literal.ensures (pos d.predicate d.arguments) d.body c.requires.1 in
    rest-room (put_some (put_some (all_left c.args.out.now (clause-parts d)) h.adds) (c.put_body.ensures d.body h.others)) c.requires.2

pub returns : goal.returns
returns c = λ d a.
    let h = c.put_literal.ensures (pos d.predicate d.arguments) d.body a in
    put_last (put_some (put_some (all_left c.args.out.now (clause-parts d)) h.adds) (c.put_body.ensures d.body h.others)) c.put.ensures
