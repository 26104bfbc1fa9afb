-- What the program over a column's mean prints for the bytes of its two inputs (document 02, U10).
use Rattle.std.specs.Prelude.{ℕ, suc, List, [], ◌∷◌, ◌++◌, length, drop, replicate, ℤ, pos, negsuc}
use Rattle.std.proofs.Math.Option.{Option, none}
use Rattle.rules.specs.Refusals.{Checked, refused, accepted, and_then as ◌>>=◌}
use Rattle.rules.specs.Evaluation.{Outcome}
use Rattle.rules.specs.Run.{answers_after}
use Rattle.rules.specs.Listing.{decimal, verdict_text, listing}
use Rattle.rules.specs.Program.{query_input}
use Rattle.rules.specs.CarryProgram.{number_from, deck_input, open_words}
use Rattle.rules.specs.Column.{Mean, column}

-- What the program's run came to, and the mean of a column of its answers.
pub record MeanRun : Type 0 where
  pub outcome : Outcome
  pub mean : Mean

-- The program's run; the query's variables are the answer terms. The column is asked of the answer list as the run leaves it, with its number of answers.
unfoldable pub words_mean : ℕ → List ℕ → List ℕ → Checked MeanRun
words_mean place deck_words query_words = do
  kept ← open_words deck_words query_words none 100000
  mean ← column deck_words (answers_after kept.outcome (replicate 8192 0)) (length kept.outcome.answers) kept.terms place
  accepted (record { outcome = kept.outcome; mean = mean })

-- Standard input is words: the column's number, and the query. Of the number's bytes those that are missing are 0.
unfoldable pub mean_run : Option (List ℕ) → List ℕ → Checked MeanRun
mean_run file input = do
  deck_words ← deck_input file
  query_words ← query_input (drop 2 input)
  words_mean (number_from 2 input) deck_words query_words

-- A number in decimal digits, after its sign if it is negative: -(n + 1) is `negsuc n`.
unfoldable pub signed : ℤ → List ℕ → List ℕ
signed (pos n) rest = decimal n rest
signed (negsuc n) rest = 45 ∷ decimal (suc n) rest

-- One line: the verdict, the sum, the number of answers, the mean's whole part and its remainder, with a space between. The verdict is the first line of
-- the run's listing: with `open` the mean is only of the answers that were found.
unfoldable pub mean_line : List ℕ → ℕ → Mean → List ℕ
mean_line verdict n m = verdict ++ (32 ∷ signed m.sum (32 ∷ decimal n (32 ∷ signed m.whole (32 ∷ decimal m.remainder (10 ∷ [])))))

unfoldable pub mean_prints : Checked MeanRun → List ℕ
mean_prints (refused n) = listing (refused n)
mean_prints (accepted r) = mean_line (verdict_text r.outcome.stop r.outcome.parked r.outcome.answers) (length r.outcome.answers) r.mean

-- The deck file's bytes, if there is one, and the bytes of standard input.
unfoldable pub mean_program : Option (List ℕ) → List ℕ → List ℕ
mean_program file input = mean_prints (mean_run file input)
