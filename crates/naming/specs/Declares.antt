-- What the pass over the declarations of a text says.
use Rattle.std.specs.Prelude.{◌<◌, ◌≡◌, Result, Ok, Err, length}
use Rattle.std.proofs.Math.Option.{some}
use Rattle.text_rules.specs.TextWords.{declared_twice}
use Rattle.text_rules.specs.Text.{text_declarations, place_of}
use Rattle.text.specs.declared.readable.Readable.{Readable}
use Rattle.naming.specs.declared.table.NameError.{NameError}
use Rattle.naming.specs.declared.table.NameError.TheVariants.{Twice, Many}
use Rattle.naming.specs.declared.table.DeclaredNames.{DeclaredNames}

-- Its declarations, with their names; or why there is no table of them.
abbrev pub DidDeclare : Readable → Result DeclaredNames NameError → Type 0
DidDeclare text (Ok d) = d.all.text ≡ text
DidDeclare text (Err (Twice place)) = place_of text.text.now (declared_twice (text_declarations text.text.now) 0 (text_declarations text.text.now)) ≡ some place
DidDeclare text (Err Many) = 4096 < length (text_declarations text.text.now)
