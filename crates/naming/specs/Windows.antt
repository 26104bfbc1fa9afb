-- Names declared twice, by windows of 4,096 declarations.
use Rattle.std.specs.Prelude.{ℕ, ◌<◌, ◌≡◌, List, [], Option, Some, None, length}
use Rattle.std.proofs.Math.Option as math
use Rattle.std.proofs.Math.Option.{none, some}
use Rattle.std.proofs.Math.ListN.{get_elem?}
use Rattle.text_rules.specs.TextWords.{Declaration}
use Rattle.text_rules.specs.Text.{text_declarations, place_of}
use Rattle.text.specs.declared.names.Entry.{Entry}
use Rattle.text.specs.Names.{Table, entered}
use Rattle.naming.specs.declared.windows.First.{First}

abbrev pub name_in : math.Option Declaration → List ℕ
name_in none = []
name_in (some d) = d.name

-- The name of declaration j.
abbrev pub name_of : List Declaration → ℕ → List ℕ
name_of ds j = name_in (get_elem? ds j)

-- Declaration c has the name of an earlier one; its name is at that place.
pub record Again (text : List ℕ) (c at : ℕ) : Type 0 where
  pub earlier : ℕ
  pub less : earlier < c
  pub same : name_of (text_declarations text) earlier ≡ name_of (text_declarations text) c
  pub this : Declaration
  pub there : get_elem? (text_declarations text) c ≡ some this
  pub place : place_of text (some this.left) ≡ some at

abbrev pub WindowEnds : List ℕ → ℕ → Option ℕ → Type 0
WindowEnds text c (Some at) = Again text c at
WindowEnds text c None = length (text_declarations text) ≡ c

-- The first declaration that is known to have an earlier one's name, or the end; before it none has the name of one of the first n.
pub record Known (text : List ℕ) (n : ℕ) (f : First) : Type 0 where
  pub distinct : (i j : ℕ) → i < n → i < j → j < f.number → name_of (text_declarations text) i ≡ name_of (text_declarations text) j → ⊥
  pub ended : WindowEnds text f.number f.place

-- One name more in the table, as long as there are fewer than 4,096.
pub record Kept {V : Type 0} (t : Table V) (e : Entry V) (t' : Table V) : Type 0 where
  pub full : length t.entries ≡ 4096 → t' ≡ t
  pub more : length t.entries < 4096 → t' ≡ entered t e
