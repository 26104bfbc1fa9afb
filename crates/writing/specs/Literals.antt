-- Literals whose cells a row holds, and what the walks that write them promise.
use Rattle.std.specs.Prelude.{ℕ, ◌<◌, ◌≤◌, ◌≡◌, List, [], ◌∷◌, length}
use Rattle.std.proofs.Math.Option.{some}
use Rattle.rules.specs.Syntax.{Symbol, Literal, Clause, vars_literals}
use Rattle.rules.specs.Cells.{write_literals}
use Rattle.rules.specs.Decks.{read_symbol, read_all}
use Rattle.rules.specs.WellFormed.{All, WfLiterals, clause_literals}
use Rattle.text_rules.specs.TextWriter.{literal_text, clause_text}
use Rattle.listing.specs.declared.output.Output.{Output}
use Rattle.listing.specs.Put.{Fits, Adds}

pub record LiteralsAt (symbol_words row : List ℕ) (ls : List Literal) : Type 0 where
  pub symbols : List Symbol
  pub read : read_all read_symbol symbol_words ≡ some symbols
  pub written : row ≡ write_literals ls
  pub formed : WfLiterals symbols ls
  pub small : All (λ v. v ≤ 1023) (vars_literals ls)

-- The literal's text was written, and its cells were passed: the others are what the cells after it hold.
pub record Passed (symbol_words cells text : List ℕ) (ls : List Literal) (out after : Output) (rest : List ℕ) : Type 0 where
  pub adds : Adds out text after
  pub forward : length rest < length cells
  pub others : LiteralsAt symbol_words rest ls

-- Room for the text of what the cells hold, and that this text is what is written, whatever they hold.
module _ (symbol_words cells : List ℕ) where
  abbrev pub LiteralFits : Output → Type 0
  LiteralFits out = (l : Literal) × (ls : List Literal) × LiteralsAt symbol_words cells (l ∷ ls) × Fits out (literal_text l [])

  abbrev pub LiteralWritten : Output → Output → List ℕ → Type 0
  LiteralWritten out after rest =
      (l : Literal) (ls : List Literal) → LiteralsAt symbol_words cells (l ∷ ls) → Passed symbol_words cells (literal_text l []) ls out after rest

  abbrev pub LiteralsFit : (List Literal → List ℕ) → Output → Type 0
  LiteralsFit text out = (ls : List Literal) × LiteralsAt symbol_words cells ls × Fits out (text ls)

  abbrev pub LiteralsWritten : (List Literal → List ℕ) → Output → Output → Type 0
  LiteralsWritten text out after = (ls : List Literal) → LiteralsAt symbol_words cells ls → Adds out (text ls) after

  abbrev pub ClauseFits : Output → Type 0
  ClauseFits out = (c : Clause) × LiteralsAt symbol_words cells (clause_literals c) × Fits out (clause_text c [])

  abbrev pub ClauseWritten : Output → Output → Type 0
  ClauseWritten out after = (c : Clause) → LiteralsAt symbol_words cells (clause_literals c) → Adds out (clause_text c []) after
