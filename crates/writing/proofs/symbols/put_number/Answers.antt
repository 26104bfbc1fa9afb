-- The key word, the number, the value and the end of the line.
use mathlib.Core.List.{[], ◌∷◌, ◌++◌}
use Rattle.rules.specs.Listing.{decimal}
use Rattle.text_rules.specs.TextWriter.{value_text, number_text}
use Rattle.listing.proofs.PutLaws.{Left, all_left, left-room, rest-room, put_some, put_last}
use Rattle.writing.proofs.TextParts.{number-parts}
use Rattle.writing.proofs.symbols.put_number.Goals as goal
use Rattle.writing.proofs.symbols.put_number.Goals.{After-put, After-put_prefixed}

pub put-requires : goal.put-requires
put-requires c = left-room (110 ∷ 117 ∷ 32 ∷ []) _ (all_left c.args.out.now (number-parts c.args.word c.args.number)) c.requires.room

-- What is still to be put after the key word, and after the number.
named : (c : After-put) → let a = c.args in
    Left a.out.now (number_text a.word a.number []) c.put.new.self ((115 ∷ decimal a.number []) ++ ((32 ∷ value_text a.word []) ++ (46 ∷ 10 ∷ [])))
named c = put_some (all_left c.args.out.now (number-parts c.args.word c.args.number)) c.put.ensures

valued : (c : After-put_prefixed) → let a = c.args in Left a.out.now (number_text a.word a.number []) c.put_prefixed.new.self ((32 ∷ value_text a.word []) ++ (46 ∷ 10 ∷ []))
valued c = put_some (put_some (all_left c.args.out.now (number-parts c.args.word c.args.number)) c.put.ensures) c.put_prefixed.ensures

pub put_prefixed-requires : goal.put_prefixed-requires
put_prefixed-requires c = left-room (115 ∷ decimal c.args.number []) _ (named (goal.at.put_prefixed-requires c).After-put) c.requires.room

pub put_value-requires : goal.put_value-requires
put_value-requires c = left-room (32 ∷ value_text c.args.word []) _ (valued (goal.at.put_value-requires c).After-put_prefixed) c.requires.room

pub put-requires-2 : goal.put-requires-2
put-requires-2 c = rest-room (put_some (valued (goal.at.put-requires-2 c).After-put_prefixed) c.put_value.ensures) c.requires.room

pub returns : goal.returns
returns c = put_last (put_some (valued (goal.at.returns c).After-put_prefixed) c.put_value.ensures) c.put-2.ensures
