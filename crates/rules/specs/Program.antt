-- What the program prints for the bytes of its two inputs (document 01, "The printed listing").
use Rattle.std.specs.Prelude.{ℕ, ◌+◌, ◌*◌, ◌/◌, ◌%◌, Bool, ◌&&◌, List, [], ◌∷◌, length, replicate, leb, eqb}
use Rattle.std.proofs.Math.Option.{Option}
use Rattle.rules.specs.Refusals.{bad_header, long_query, bad_query, Checked, accepted, and_then as ◌>>=◌, require, obtain}
use Rattle.rules.specs.Decks.{open_deck}
use Rattle.rules.specs.Evaluation.{Outcome}
use Rattle.rules.specs.Run.{run}
use Rattle.rules.specs.Listing.{listing}

-- Words, low byte first.
unfoldable pub words_from : List ℕ → List ℕ
words_from [] = []
words_from (low ∷ []) = []
words_from (low ∷ high ∷ bytes) = (low + 256 * high) ∷ words_from bytes

-- The bytes of words, low byte first.
unfoldable pub bytes_from : List ℕ → List ℕ
bytes_from [] = []
bytes_from (word ∷ words) = (word % 256) ∷ (word / 256) ∷ bytes_from words

unfoldable pub even : List ℕ → Bool
even bytes = eqb (length bytes % 2) 0

-- A missing file, an odd byte count or more than 32,768 bytes is 1 for the deck.
unfoldable pub deck_file : Option (List ℕ) → Checked (List ℕ)
deck_file file = do
  bytes ← obtain bad_header file
  _ ← require bad_header (even bytes && leb (length bytes) 32768)
  accepted (words_from bytes)

-- For the query, more than 1,000 bytes is 6, then an odd count is 7.
unfoldable pub query_input : List ℕ → Checked (List ℕ)
query_input bytes = do
  _ ← require long_query (leb (length bytes) 1000)
  _ ← require bad_query (even bytes)
  accepted (words_from bytes)

-- Budget 100,000, answer list 8,192, store 16,384, scratch 8,192; nothing is barred. The deck is refused before anything is said of the query.
unfoldable pub program_run : Option (List ℕ) → List ℕ → Checked Outcome
program_run file input = do
  deck_words ← deck_file file
  deck ← open_deck deck_words
  query_words ← query_input input
  run deck_words query_words (replicate (length deck.symbols) 0) 100000 8192 16384 8192

-- The deck file's bytes, if there is one, and the bytes of standard input.
unfoldable pub program : Option (List ℕ) → List ℕ → List ℕ
program file input = listing (program_run file input)
