-- Demand 3 as a statement about the words in the slices (document 01, "What the completed deck says").
use Rattle.std.specs.Prelude.{ℕ, ◌+◌, ◌≡◌, ◌↔◌, List, [], ◌++◌, length}
use Rattle.std.proofs.Math.Option.{some}
use Rattle.rules.specs.Syntax.{Literal, Deck}
use Rattle.rules.specs.Refusals.{accepted}
use Rattle.rules.specs.Decks.{open_deck, read_query}
use Rattle.rules.specs.Goals.{Marked, unmarked, query_variables, read_goals}
use Rattle.rules.specs.Stored.{OpenGoals, read_open}
use Rattle.rules.specs.Run.{Report, Slices}
use Rattle.rules.specs.WellFormed.{All}
use Rattle.rules.specs.Meaning.{Inds, Interpretation, Satisfies, individuals, QueryHolds, SomeCovers}
use Rattle.rules.specs.ThreeValues.{◌≈◌, ◌⊑◌, Interpretation3, Satisfies3, query_value, goals_value}

-- The listed answers are the goals at the start of the answer list, as many as the returned number of answers; an answer has no literals.
-- The goals left open are those at the start of the store, as many as the returned numbers of pending and parked goals together.
pub record Read (deck : Deck) (r : Report) (exit : Slices) (listed left_open : List Marked) : Type 0 where
  pub answers : read_goals deck.symbols r.answers exit.answers ≡ some listed
  pub plain : All (λ m. m.goal.literals ≡ []) listed
  pub store : read_goals deck.symbols (r.pending + r.parked) exit.store ≡ some left_open

-- In each interpretation that satisfies the completed deck, for each choice, the query holds exactly when a listed answer or a goal
-- left open covers that choice.
abbrev pub Covered : Deck → List Literal → List Marked → List Marked → Type 1
Covered deck query listed left_open =
    (I : Interpretation) → Satisfies I deck → (choice : Inds) → individuals choice ≡ length (query_variables query)
    → QueryHolds I query choice ↔ SomeCovers I choice (listed ++ left_open)

-- The same in three values: in each interpretation of that kind, for each choice, the query's value equals the highest value that a listed answer or
-- a goal left open gives there. And, as far as it goes without excluded middle: what the query's value is known to be, theirs is.
abbrev pub Valued : Deck → List Literal → List Marked → List Marked → Type 1
Valued deck query listed left_open =
    (I : Interpretation3) → Satisfies3 I deck → (choice : Inds) → individuals choice ≡ length (query_variables query)
    → query_value I query choice ≈ goals_value I choice (listed ++ left_open)

abbrev pub Known : Deck → List Literal → List Marked → List Marked → Type 1
Known deck query listed left_open =
    (I : Interpretation3) → Satisfies3 I deck → (choice : Inds) → individuals choice ≡ length (query_variables query)
    → query_value I query choice ⊑ goals_value I choice (listed ++ left_open)

-- Such a statement, of a deck's and a query's words, what the run returned and the words that it left.
pub record Said (Statement : Deck → List Literal → List Marked → List Marked → Type 1) (deck_words query_words : List ℕ) (r : Report) (exit : Slices) : Type 1 where
  pub deck : Deck
  pub query : List Literal
  pub listed : List Marked
  pub left_open : List Marked
  pub opens : open_deck deck_words ≡ accepted deck
  pub asks : read_query deck query_words ≡ accepted query
  pub reads : Read deck r exit listed left_open
  pub covered : Statement deck query listed left_open

-- Demand 3.
abbrev pub Demand3 : List ℕ → List ℕ → Report → Slices → Type 1
Demand3 = Said Covered

-- The three statements of the goals before and after (U4): "holds" means that one of the goals before covers the choice.
abbrev pub CoveredFrom : Deck → List Marked → List Marked → Type 1
CoveredFrom deck before after =
    (I : Interpretation) → Satisfies I deck → (choice : Inds) → SomeCovers I choice before ↔ SomeCovers I choice after

abbrev pub ValuedFrom : Deck → List Marked → List Marked → Type 1
ValuedFrom deck before after =
    (I : Interpretation3) → Satisfies3 I deck → (choice : Inds) → goals_value I choice before ≈ goals_value I choice after

abbrev pub KnownFrom : Deck → List Marked → List Marked → Type 1
KnownFrom deck before after =
    (I : Interpretation3) → Satisfies3 I deck → (choice : Inds) → goals_value I choice before ⊑ goals_value I choice after

-- Such a statement of a run that carries on: the goals that the store began with stand in place of the query.
pub record SaidOn (Statement : Deck → List Marked → List Marked → Type 1) (deck_words : List ℕ) (pending parked terms : ℕ) (entry : Slices) (r : Report) (exit : Slices) : Type 1 where
  pub deck : Deck
  pub before : OpenGoals
  pub listed : List Marked
  pub left_open : List Marked
  pub opens : open_deck deck_words ≡ accepted deck
  pub carries : read_open deck.symbols pending parked terms entry.store ≡ some before
  pub reads : Read deck r exit listed left_open
  pub covered : Statement deck (unmarked before.pending ++ before.parked) (listed ++ left_open)

abbrev pub DemandOn : List ℕ → ℕ → ℕ → ℕ → Slices → Report → Slices → Type 1
DemandOn = SaidOn CoveredFrom
