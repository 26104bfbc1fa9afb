-- What the programs that keep open goals and carry on from them print and write, for the bytes of their input (document 02, U4), and for whom (U9).
use Rattle.std.specs.Prelude.{ℕ, zero, suc, ◌+◌, ◌-◌, ◌*◌, ◌/◌, ◌%◌, min, true, false, ◌&&◌, List, [], ◌∷◌, ◌++◌, length, drop, replicate, leb}
use Rattle.std.proofs.Math.Option.{Option, none, some}
use Rattle.rules.specs.Refusals.{bad_goals, Checked, refused, accepted, and_then as ◌>>=◌, require, obtain}
use Rattle.rules.specs.Decks.{open_deck, check_query}
use Rattle.rules.specs.Goals.{query_variables}
use Rattle.rules.specs.Evaluation.{Outcome}
use Rattle.rules.specs.Run.{run, carry, carry_on, store_start}
use Rattle.rules.specs.Listing.{listing}
use Rattle.rules.specs.Program.{words_from, even, deck_file, query_input}
use Rattle.rules.specs.Program.{bytes_from}

-- A budget is read as decimal digits, up to the first byte that is none, after the number n. At most 4,294,967,295.
unfoldable pub budget_after : ℕ → List ℕ → ℕ
budget_after n [] = n
budget_after n (byte ∷ bytes) =
    elim (leb 48 byte && leb byte 57) [
      | true ↦ budget_after (min (10 * n + (byte - 48)) 4294967295) bytes
      | false ↦ n
    ]

-- 100,000 where there is no file.
unfoldable pub budget_from : Option (List ℕ) → ℕ
budget_from none = 100000
budget_from (some bytes) = budget_after 0 bytes

-- A number as so many bytes, low byte first, and the number of so many bytes.
unfoldable pub number_bytes : ℕ → ℕ → List ℕ
number_bytes zero n = []
number_bytes (suc more) n = (n % 256) ∷ number_bytes more (n / 256)

unfoldable pub number_from : ℕ → List ℕ → ℕ
number_from zero bytes = 0
number_from (suc more) [] = 0
number_from (suc more) (byte ∷ bytes) = byte + 256 * number_from more bytes

-- What a run came to, and the number of answer terms of its goals.
pub record Kept : Type 0 where
  pub outcome : Outcome
  pub terms : ℕ

-- The words of a deck file that opens.
unfoldable pub deck_input : Option (List ℕ) → Checked (List ℕ)
deck_input file = do
  deck_words ← deck_file file
  _ ← open_deck deck_words
  accepted deck_words

-- The member's list for a deck of so many symbols, from the bytes of a file. Without a file nothing is barred. An odd byte count or more than 8,192
-- bytes are taken for an empty list, which is too short for every deck: so they are 15, after all other checks but 16.
unfoldable pub bars_from : ℕ → Option (List ℕ) → List ℕ
bars_from symbols none = replicate symbols 0
bars_from symbols (some bytes) = elim (even bytes && leb (length bytes) 8192) [ true ↦ words_from bytes | false ↦ [] ]

-- As the program, with a member's list and a budget; the query's variables are the answer terms.
unfoldable pub open_words : List ℕ → List ℕ → Option (List ℕ) → ℕ → Checked Kept
open_words deck_words query_words bars budget = do
  deck ← open_deck deck_words
  outcome ← run deck_words query_words (bars_from (length deck.symbols) bars) budget 8192 16384 8192
  query ← check_query deck_words query_words
  accepted (record { outcome = outcome; terms = length (query_variables query) })

unfoldable pub open_run : Option (List ℕ) → List ℕ → Option (List ℕ) → ℕ → Checked Kept
open_run file input bars budget = do
  deck_words ← deck_input file
  query_words ← query_input input
  open_words deck_words query_words bars budget

-- A missing file of goals, an odd byte count, fewer bytes than the three numbers take or more than fit the store are 12.
unfoldable pub goals_input : Option (List ℕ) → Checked (List ℕ)
goals_input file = do
  bytes ← obtain bad_goals file
  _ ← require bad_goals (even bytes && (leb 24 (length bytes) && leb (length bytes) 32792))
  accepted bytes

-- Words at the start of a store of 16,384 zeros.
unfoldable pub store_from : List ℕ → List ℕ
store_from words = words ++ drop (length words) (replicate 16384 0)

-- The file has the numbers of pending goals, of parked ones and of answer terms, each of 64 bits, and then the goals' words.
unfoldable pub carry_bytes : List ℕ → List ℕ → Option (List ℕ) → ℕ → Checked Kept
carry_bytes deck_words bytes bars budget = do
  deck ← open_deck deck_words
  let terms = number_from 8 (drop 16 bytes)
  let store = store_from (words_from (drop 24 bytes))
  let list = bars_from (length deck.symbols) bars
  outcome ← carry_on (carry deck_words (number_from 8 bytes) (number_from 8 (drop 8 bytes)) terms store 8192) list budget 8192 16384
  accepted (record { outcome = outcome; terms = terms })

unfoldable pub carry_run : Option (List ℕ) → Option (List ℕ) → Option (List ℕ) → ℕ → Checked Kept
carry_run file goals bars budget = do
  deck_words ← deck_input file
  bytes ← goals_input goals
  carry_bytes deck_words bytes bars budget

-- The listing of such a run.
unfoldable pub kept_listing : Checked Kept → List ℕ
kept_listing (refused n) = listing (refused n)
kept_listing (accepted k) = listing (accepted k.outcome)

-- The bytes of a file with the goals left; none after a refusal.
unfoldable pub kept_goals : Checked Kept → List ℕ
kept_goals (refused n) = []
kept_goals (accepted k) =
    number_bytes 8 (length k.outcome.pending)
    ++ number_bytes 8 (length k.outcome.parked)
    ++ number_bytes 8 k.terms
    ++ bytes_from (store_start k.outcome)
