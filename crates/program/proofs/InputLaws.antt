-- The deck file's words, opened, and the query's bytes.
use Rattle.std.proofs.Common.{◌≡◌, ℕ, ◌≤◌, ◌<◌, ◌%◌, List, length}
use borrow.Author.Tests.{le-leb, lt-leb, eq-eqb, ne_eqb}
use Rattle.std.proofs.Math.Option.{Option}
use Rattle.rules.specs.Syntax.{Deck}
use Rattle.rules.specs.Decks.{open_deck}
use Rattle.rules.specs.CarryProgram.{deck_input}
use Rattle.rules.specs.Refusals.{Refusal, long_query, bad_query, refused, accepted, and_then, require}
use Rattle.rules.specs.Program.{words_from, even, deck_file, query_input}

-- A deck file.
module _ (file : Option (List ℕ)) where
  pub deck_input-unread : (n : Refusal) → deck_file file ≡ refused n → deck_input file ≡ refused n
  unfolding deck_input and_then
  deck_input-unread n e = rw e

  module _ (words : List ℕ) (read : deck_file file ≡ accepted words) where
    pub deck_input-unopened : (n : Refusal) → open_deck words ≡ refused n → deck_input file ≡ refused n
    unfolding deck_input and_then
    deck_input-unopened n e = rw (read, e)

    pub deck_input-opened : (deck : Deck) → open_deck words ≡ accepted deck → deck_input file ≡ accepted words
    unfolding deck_input and_then
    deck_input-opened deck e = rw (read, e)

-- A query.
module _ (input : List ℕ) where
  pub query_input-long : 1000 < length input → query_input input ≡ refused long_query
  unfolding query_input and_then require
  query_input-long h = rw (lt-leb (length input) 1000 h)

  pub query_input-odd : length input ≤ 1000 → (length input % 2 ≡ 0 → ⊥) → query_input input ≡ refused bad_query
  unfolding query_input even and_then require
  query_input-odd h odd = rw (le-leb (length input) 1000 h, ne_eqb (length input % 2) 0 odd)

  pub query_input-words : length input ≤ 1000 → length input % 2 ≡ 0 → query_input input ≡ accepted (words_from input)
  unfolding query_input even and_then require
  query_input-words h e = rw (le-leb (length input) 1000 h, eq-eqb (length input % 2) 0 e)
