-- The program's run, from both inputs' words on; nothing is barred.
use Rattle.std.specs.Prelude.{List, ℕ, length, replicate}
use Rattle.rules.specs.Refusals.{Checked, and_then as ◌>>=◌}
use Rattle.rules.specs.Decks.{open_deck}
use Rattle.rules.specs.Evaluation.{Outcome}
use Rattle.rules.specs.Run.{run}

unfoldable pub words_run : List ℕ → List ℕ → Checked Outcome
words_run deck_words query_words = do
  deck ← open_deck deck_words
  run deck_words query_words (replicate (length deck.symbols) 0) 100000 8192 16384 8192
