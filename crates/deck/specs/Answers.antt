-- The refusals of the code as those of the rules, and the numbers of the answers (document 01, "Who can make the engine refuse").
use Rattle.std.specs.Prelude.{ℕ, Bool, true, false, List, Result, Ok, Err}
use Rattle.std.proofs.Math.Option.{Option, none, some}
use Rattle.rules.specs.Syntax.{Literal}
use Rattle.rules.specs.Refusals as rules
use Rattle.rules.specs.Decks.{open_deck, read_query}
use Rattle.deck.specs.declared.Refusal.{Refusal}
use Rattle.deck.specs.declared.Refusal.TheVariants.{Header, Symbol, Starts, LongClause, Clause, LongQuery, Query, Store, Scratch, Text, Room, Goals, LooseClause, LooseQuery, Bars, Barred, Answers, NotNumber, Drill}

abbrev pub refusal_for : Refusal → rules.Refusal
refusal_for Header = rules.bad_header
refusal_for Symbol = rules.bad_symbol
refusal_for Starts = rules.bad_starts
refusal_for LongClause = rules.long_clause
refusal_for Clause = rules.bad_clause
refusal_for LongQuery = rules.long_query
refusal_for Query = rules.bad_query
refusal_for Store = rules.bad_store
refusal_for Scratch = rules.bad_scratch
refusal_for Text = rules.bad_text
refusal_for Room = rules.no_room
refusal_for Goals = rules.bad_goals
refusal_for LooseClause = rules.loose_clause
refusal_for LooseQuery = rules.loose_query
refusal_for Bars = rules.bad_bars
refusal_for Barred = rules.barred_reached
refusal_for Answers = rules.bad_answers
refusal_for NotNumber = rules.not_number
refusal_for Drill = rules.bad_drill

-- The number of an answer, whatever is handed on where nothing is refused.
abbrev pub answer_number : {A : Type 0} → Result A Refusal → ℕ
answer_number (Ok a) = 0
answer_number (Err why) = rules.refusal_number (refusal_for why)

abbrev pub number_of : Result (Unit {0}) Refusal → ℕ
number_of r = answer_number r

-- Whether something was read.
unfoldable pub found : {A : Type 0} → Option A → Bool
found none = false
found (some a) = true

-- Refusals 1 to 7: the words of a deck and of a query, whatever variables are loose.
unfoldable pub check_words : List ℕ → List ℕ → rules.Checked (List Literal)
check_words deck_words query_words = rules.and_then (open_deck deck_words) (λ deck. read_query deck query_words)
