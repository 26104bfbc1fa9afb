-- What a walk over the declarations gives, one after another.
use Rattle.std.specs.Prelude.{◌+◌, ◌-◌, ◌≡◌, Option, Some, None, length}
use Rattle.std.specs.Iterator.{Count, at_most}
use Rattle.naming.specs.declared.declarations.Declaration.{Declaration}
use Rattle.naming.specs.declared.walks.Walk.{Walk}
use Rattle.naming.specs.Walks.{At}

-- The walk goes on after a declaration, and stays where there is none.
abbrev pub Onward : Walk → Option Declaration → Walk → Type 0
Onward s (Some d) t = (t.count ≡ s.count + 1) × (t.at ≡ d.end)
Onward s None t = (t.count ≡ s.count) × (t.at ≡ s.at)

-- The declaration at the walk's place is given.
pub record GivesDeclaration (s : Walk) (given : Option Declaration) (t : Walk) : Type 0 where
  pub found : At s.text.text.now s.at given
  pub text : t.text ≡ s.text
  pub onward : Onward s given t

abbrev pub bytes_left : Walk → Count
bytes_left s = at_most (length s.text.text.now - s.at)
