-- A case of a table of runs: a deck, a query, the budget and the sizes, and what the run is to show.
use Prim.Native.Nat.{ℕ}
use mathlib.Core.List.{List, [], ◌∷◌}
use lib.ListN.{length, replicate}
use Rattle.rules.specs.Goals.{Mark, Marked}
use Rattle.rules.specs.Refusals.{Checked, refused, accepted}
use Rattle.rules.specs.Decks.{header}
use Rattle.rules.specs.Evaluation.{Stop, Outcome}
use Rattle.rules.specs.Run.{run}

-- What a run shows: stop, steps, numbers of answers and pending goals, the marks of the parked goals, and the cost.
pub record Line : Type 0 where
  pub stop : Stop
  pub steps : ℕ
  pub answers : ℕ
  pub pending : ℕ
  pub parked : List Mark
  pub cost : ℕ

abbrev pub shows : Stop → ℕ → ℕ → ℕ → List Mark → ℕ → Checked Line
shows s steps a p marks cost = accepted (record { stop = s; steps = steps; answers = a; pending = p; parked = marks; cost = cost })

abbrev pub marks : List Marked → List Mark
marks [] = []
marks (m ∷ ms) = m.mark ∷ marks ms

abbrev pub shown : Checked Outcome → Checked Line
shown (refused n) = refused n
shown (accepted o) = shows o.stop o.steps (length o.answers) (length o.pending) (marks o.parked) o.cost

-- A deck, a query, the budget, the lengths of the answer list and of the store, and what the run shows.
pub record Case : Type 0 where
  pub deck : List ℕ
  pub query : List ℕ
  pub budget : ℕ
  pub answer_room : ℕ
  pub store_size : ℕ
  pub expected : Checked Line

-- With the program's answer list and store.
abbrev pub case : List ℕ → List ℕ → ℕ → Checked Line → Case
case deck query total expected = record { deck = deck; query = query; budget = total; answer_room = 8192; store_size = 16384; expected = expected }

-- A member's list that bars nothing.
abbrev pub unbarred : List ℕ → List ℕ
unbarred deck_words = replicate (header deck_words 1) 0

-- What the run of a case comes to, with nothing barred; what it shows, and words of it.
abbrev pub outcome_of : Case → Checked Outcome
outcome_of c = run c.deck c.query (unbarred c.deck) c.budget c.answer_room c.store_size 8192

abbrev pub actual : Case → Checked Line
actual c = shown (outcome_of c)

abbrev pub words_of_run : (Outcome → List ℕ) → Checked Outcome → List ℕ
words_of_run words (refused n) = []
words_of_run words (accepted o) = words o
