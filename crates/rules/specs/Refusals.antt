-- Refusals and their numbers (document 01, "Who can make the engine refuse").
use Rattle.std.specs.Prelude.{ℕ, Bool, true, false}
use Rattle.std.proofs.Math.Option.{Option, none, some}

-- The deck's writer: header or length; a symbol word; clause starts; a clause over 256 cells; a clause that is not a head and literals, or misnumbered.
-- The query's writer: over 500 cells; not literals, or misnumbered. The caller: the store's size; the scratch's size.
-- A text: outside the grammar, or a name undeclared, declared twice or used with another arity; a result that does not fit.
-- Open goals that are not as they must be (U4). A loose variable: in a clause, in the query (U5).
-- A member's list of the wrong length or with other words; a barred predicate that is reached (U9).
-- A column: an answer list that is not as described, an entry that is not a number (U10).
-- Drill terms: over 8 cells, or a given term that is not of the list (U12).
pub data Refusal : Type 0 where
  bad_header bad_symbol bad_starts long_clause bad_clause long_query bad_query bad_store bad_scratch bad_text no_room bad_goals loose_clause loose_query bad_bars barred_reached bad_answers not_number bad_drill : Refusal

abbrev pub refusal_number : Refusal → ℕ
refusal_number bad_header = 1
refusal_number bad_symbol = 2
refusal_number bad_starts = 3
refusal_number long_clause = 4
refusal_number bad_clause = 5
refusal_number long_query = 6
refusal_number bad_query = 7
refusal_number bad_store = 8
refusal_number bad_scratch = 9
refusal_number bad_text = 10
refusal_number no_room = 11
refusal_number bad_goals = 12
refusal_number loose_clause = 13
refusal_number loose_query = 14
refusal_number bad_bars = 15
refusal_number barred_reached = 16
refusal_number bad_answers = 17
refusal_number not_number = 18
refusal_number bad_drill = 19

-- What checks come to: the first refusal, or what they let through.
pub data Checked (A : Type 0) : Type 0 where
  refused : Refusal → Checked A
  accepted : A → Checked A

-- Checks go in number order, each over everything before the next.
unfoldable pub and_then : {A B : Type 0} → Checked A → (A → Checked B) → Checked B
and_then (refused n) next = refused n
and_then (accepted a) next = next a

-- A refusal unless the test passes, or unless there is a value.
unfoldable pub require : Refusal → Bool → Checked (Unit {0})
require n true = accepted tt
require n false = refused n

unfoldable pub obtain : {A : Type 0} → Refusal → Option A → Checked A
obtain n none = refused n
obtain n (some a) = accepted a

-- The number that opening and checking return to a caller who asks for numbers: 0 where all is accepted, else the refusal's.
abbrev pub checked_number : {A : Type 0} → Checked A → ℕ
checked_number (refused n) = refusal_number n
checked_number (accepted a) = 0
