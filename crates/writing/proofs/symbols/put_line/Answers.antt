-- The key word, the two numbers and the end of the line.
use mathlib.Core.List.{[], ◌∷◌, ◌++◌}
use Rattle.rules.specs.Listing.{decimal}
use Rattle.listing.proofs.PutLaws.{Left, all_left, left-room, rest-room, put_some, put_last}
use Rattle.writing.specs.Writes.{line_text}
use Rattle.writing.proofs.TextParts.{line-parts}
use Rattle.writing.proofs.symbols.put_line.Goals as goal
use Rattle.writing.proofs.symbols.put_line.Goals.{After-put_prefixed}

pub put-requires : goal.put-requires
put-requires c = left-room c.args.key.now _ (all_left c.args.out.now (line-parts c.args.key.now c.args.number c.args.arity)) c.requires.room

-- What is still to be put after the first number.
left : (c : After-put_prefixed) → let a = c.args in Left a.out.now (line_text a.key.now a.number a.arity) c.put_prefixed.new.self ((47 ∷ decimal a.arity []) ++ (46 ∷ 10 ∷ []))
left c =
    let a = c.args in
    put_some (put_some (all_left a.out.now (line-parts a.key.now a.number a.arity)) c.put.ensures) c.put_prefixed.ensures

pub put_prefixed-requires : goal.put_prefixed-requires
put_prefixed-requires c =
    let a = c.args in
    left-room (115 ∷ decimal a.number []) _ (put_some (all_left a.out.now (line-parts a.key.now a.number a.arity)) c.put.ensures) c.requires.room

pub put_prefixed-requires-2 : goal.put_prefixed-requires-2
put_prefixed-requires-2 c = left-room (47 ∷ decimal c.args.arity []) _ (left (goal.at.put_prefixed-requires-2 c).After-put_prefixed) c.requires.room

pub put-requires-2 : goal.put-requires-2
put-requires-2 c = rest-room (put_some (left (goal.at.put-requires-2 c).After-put_prefixed) c.put_prefixed-2.ensures) c.requires.room

pub returns : goal.returns
returns c = put_last (put_some (left (goal.at.returns c).After-put_prefixed) c.put_prefixed-2.ensures) c.put-2.ensures
