-- Names in the table of declarations.
use Prim.Native.Nat.{ℕ}
use mathlib.Core.Path.{◌≡◌, sym}
use mathlib.Core.Bool.{false}
use mathlib.Core.List.{List}
use lib.ListN.{length}
use lib.Dec.{eqb}
use Rattle.std.specs.Prelude.{Option, Some, None}
use Rattle.text_rules.specs.TextWords.{arity, Use, well_used}
use Rattle.text_rules.specs.Text.{text_declarations}
use Rattle.text.specs.Hash.{last_with, found_at, is_name}
use Rattle.text.specs.Names.{Table, name_at}
use Rattle.naming.specs.declared.declarations.Symbol.{Symbol}
use Rattle.naming.specs.Walks.{symbol_of}
use Rattle.naming.specs.Table.{symbol_at, Declared}
use Rattle.naming.proofs.UseLaws.{found_none, found_some}
use Rattle.uses.specs.Uses.{takes}

module _ (t : Table Symbol) (D : Declared t) (bytes : List ℕ) (r : Option ℕ) (found : r ≡ found_at (last_with (is_name bytes) (name_at t) (length t.entries))) where
  abbrev used : ℕ → Use
  used k = record { name = bytes; arguments = k; left = 0 }

  pub table_none : r ≡ None → (k : ℕ) → false ≡ takes (text_declarations t.text) bytes k
  unfolding well_used
  table_none z k = sym (found_none t D (used k) r found z)

  pub table_some : (j : ℕ) → r ≡ Some j → (k : ℕ) → eqb (arity (symbol_of (symbol_at t j))) k ≡ takes (text_declarations t.text) bytes k
  unfolding well_used
  table_some j q k = sym (found_some t D (used k) r found j q)
