-- The declarations of a text in a table.
use Rattle.std.specs.Prelude.{ℕ, ◌≡◌, length, get_or}
use Rattle.std.proofs.Math.Option.{none, some}
use Rattle.std.proofs.Math.ListN.{get_elem?}
use Rattle.text_rules.specs.TextWords.{Declaration, declared_twice}
use Rattle.text_rules.specs.Text.{text_declarations}
use Rattle.text.specs.Names.{Table, name_at}
use Rattle.text.specs.declared.names.Entry.{Entry}
use Rattle.naming.specs.declared.declarations.Symbol.{Symbol}
use Rattle.naming.specs.declared.declarations.Symbol.TheVariants.{Function}
use Rattle.naming.specs.Walks.{symbol_of, value_of}

abbrev pub no_symbol : Entry Symbol
no_symbol = record { from = 0; to = 0; value = Function 0 }

-- What name j was declared as.
abbrev pub symbol_at : Table Symbol → ℕ → Symbol
symbol_at t j = (get_or t.entries j no_symbol).value

-- All declarations of the text are in the table, each with its symbol.
pub record Declared (t : Table Symbol) : Type 0 where
  pub count : length (text_declarations t.text) ≡ length t.entries
  pub names : (j : ℕ) (d : Declaration) → get_elem? (text_declarations t.text) j ≡ some d → name_at t j ≡ d.name
  pub symbol : (j : ℕ) (d : Declaration) → get_elem? (text_declarations t.text) j ≡ some d → symbol_of (symbol_at t j) ≡ d.symbol
  pub value : (j : ℕ) (d : Declaration) → get_elem? (text_declarations t.text) j ≡ some d → value_of (symbol_at t j) ≡ d.value
  pub distinct : declared_twice (text_declarations t.text) 0 (text_declarations t.text) ≡ none
