-- The program's run from both inputs' words on.
use Rattle.std.specs.Prelude.{ℕ, List}
use Rattle.rules.specs.Terms.{Terms}
use Rattle.rules.specs.Cells.{read_row}
use Rattle.rules.specs.Refusals.{Checked, accepted, and_then as ◌>>=◌}
use Rattle.rules.specs.Decks.{open_deck}
use Rattle.rules.specs.Drill.{drill, joined}
use Rattle.rules.specs.DrillProgram.{row_terms}

unfoldable pub words_run : List ℕ → ℕ → List ℕ → Checked Terms
words_run deck_words n given = do
  deck ← open_deck deck_words
  terms ← drill deck_words n given 4096
  accepted (row_terms (read_row deck.symbols (joined terms)))
