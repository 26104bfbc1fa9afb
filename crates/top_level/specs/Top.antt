-- Level 0 in the store: the parked goals from its start, in order of parking, then the pending goals as a mirror image.
use Rattle.std.specs.Prelude.{ℕ, ◌+◌, ◌-◌, ◌≤◌, ◌<◌, ◌≡◌, List, [], ◌∷◌, ◌++◌, length, take, drop, Result, Ok, Err}
use Rattle.std.proofs.Math.Option.{some}
use Rattle.rules.specs.Syntax.{Symbol, Literal, Deck, Goal}
use Rattle.rules.specs.Cells.{write_literals}
use Rattle.rules.specs.Refusals.{accepted}
use Rattle.rules.specs.Decks.{open_deck, read_all, read_symbol}
use Rattle.rules.specs.Goals.{Marked, unmarked, goal_words, words_of, marked_words, write_goals}
use Rattle.rules.specs.WellFormed.{All, WfGoal, WfMarked, WfQuery}
use Rattle.rules.specs.Evaluation as rules
use Rattle.rules.specs.Evaluation.{Level, Ended, evaluate_level, zeroth, ended, stopped, with_parked}
use Rattle.rules.specs.Press.{one_step, press_level}
use Rattle.report.specs.Reports.{stop_of, ending_of}
use Rattle.report.specs.declared.Report.{Report}
use Rattle.report.specs.declared.Pressed.{Pressed}
use Rattle.report.specs.declared.Advance.{Advance}
use Rattle.report.specs.declared.Advance.TheVariants.{Stepped as Took, Prevented}
use Rattle.goals.specs.Store.{Holding, mark_of}
use Rattle.goals.specs.declared.Mark as declared
use Rattle.levels.specs.Levels.{account_of, Later}
use Rattle.levels.specs.declared.Account.{Account}
use Rattle.levels.specs.declared.Turn.{Turn}
use Rattle.levels.specs.declared.Turn.TheVariants.{Empty, Park, More}
use Rattle.levels.specs.declared.Halt.{Halt}
use Rattle.top_level.specs.declared.Counts.{Counts}
use Rattle.top_level.specs.declared.Start.{Start}
use Rattle.top_level.specs.declared.Totals.{Totals}
use Rattle.top_level.specs.declared.Progress.{Progress}
use Rattle.top_level.specs.declared.End.{End}

-- The store holds the goals of l: the parked ones in its first words, the pending ones after them.
pub record Stored (S : List Symbol) (store : List ℕ) (parked held : ℕ) (l : Level) : Type 0 where
  pub inside : parked ≤ length store
  pub first : take parked store ≡ write_goals l.parked
  pub parked_formed : All (WfMarked S) l.parked
  pub pending : Holding S (drop parked store) held l.pending

-- There is such a level: for a `requires`, which cannot quantify over what the rules have.
pub record SomeStored (store : List ℕ) (parked held : ℕ) : Type 0 where
  pub symbols : List Symbol
  pub level : Level
  pub stored : Stored symbols store parked held level

-- Whatever level is stored with a pending goal: its first goal, of n words, goes behind the parked ones.
abbrev pub ParksFirst : List ℕ → ℕ → ℕ → declared.Mark → List ℕ → ℕ → Type 0
ParksFirst store parked held mark store' n =
    (S : List Symbol) (l : Level) (g : Goal) (gs : List Goal) → l.pending ≡ g ∷ gs → Stored S store parked held l
    → (n ≡ goal_words g) × (n ≤ held) × Stored S store' (parked + n) (held - n) (with_parked (mark_of mark) g gs l)

-- The words are those of the goals ms.
pub record Written (S : List Symbol) (words : List ℕ) (ms : List Marked) : Type 0 where
  pub well_formed : All (WfMarked S) ms
  pub are : words ≡ write_goals ms

-- There are such goals: for a `requires`, which cannot quantify over what the rules have.
pub record SomeWritten (words : List ℕ) : Type 0 where
  pub symbols : List Symbol
  pub goals : List Marked
  pub written : Written symbols words goals

-- The words are those of the query q, over the symbols S whose words are `ar`.
pub record Queries (ar words : List ℕ) (S : List Symbol) (q : List Literal) : Type 0 where
  pub symbols : read_all read_symbol ar ≡ some S
  pub well_formed : WfQuery S q
  pub are : words ≡ write_literals q

-- There is such a query: for a `requires`, which cannot quantify over what the rules have.
pub record SomeQuery (words : List ℕ) : Type 0 where
  pub symbol_words : List ℕ
  pub symbols : List Symbol
  pub query : List Literal
  pub queries : Queries symbol_words words symbols query

-- The store begins with the pending goals of l in order, then the parked ones, and they are counted.
pub record Ordered (l : Level) (store : List ℕ) (c : Counts) : Type 0 where
  pub begins : take (length (write_goals (unmarked l.pending ++ l.parked))) store ≡ write_goals (unmarked l.pending ++ l.parked)
  pub pending : c.pending ≡ length l.pending
  pub parked : c.parked ≡ length l.parked

-- The store begins with goals in order, as a run leaves them: the pending ones up to `held`, the parked ones up to `end`.
pub record InOrder (S : List Symbol) (store : List ℕ) (held end : ℕ) (gs : List Goal) (ms : List Marked) : Type 0 where
  pub pending_formed : All (WfGoal S) gs
  pub parked_formed : All (WfMarked S) ms
  pub pending_words : held ≡ words_of gs
  pub parked_words : end ≡ held + marked_words ms
  pub inside : end ≤ length store
  pub begins : take end store ≡ write_goals (unmarked gs ++ ms)

-- What level 0 was started on, and what is to come of it.
pub record Started : Type 0 where
  pub deck : Deck
  pub answers : List ℕ
  pub store : List ℕ
  pub budget : ℕ
  pub ends : Ended

-- The level at its start, with the goals gs pending and ms parked.
abbrev pub opening : List Goal → List Marked → Level
opening gs ms = record { pending = gs; parked = ms; answers = [] }

-- There are an opened deck and goals stored over its symbols: for a `requires`, which cannot quantify over what the rules have.
pub record SomeOpening (deck_words store : List ℕ) (parked held : ℕ) : Type 0 where
  pub deck : Deck
  pub goals : List Goal
  pub parked_goals : List Marked
  pub opens : open_deck deck_words ≡ accepted deck
  pub stored : Stored deck.symbols store parked held (opening goals parked_goals)

-- What takes over from a level: the evaluation goes on from it, or a press goes on no further. And one step before that.
abbrev pub Again : Type 0
Again = Level → rules.Account → Ended

abbrev pub evaluates : Started → Again
evaluates s = evaluate_level s.deck.clauses (length s.answers) (length s.store) 32 zeroth

abbrev pub step_then : Started → Again → Again
step_then s again = one_step s.deck.clauses (length s.answers) (length s.store) 32 zeroth again

-- The answer list: the words of the answers of l, which are `count`; then what was there.
pub record Lists (l : Level) (answers₀ answers : List ℕ) (filled count : ℕ) : Type 0 where
  pub listed : answers ≡ write_goals (unmarked l.answers) ++ drop filled answers₀
  pub words : filled ≡ words_of l.answers
  pub counted : count ≡ length l.answers

-- The level between two steps, where `again` takes over; and at its end.
pub record Goes (s : Started) (again : Again) (answers store : List ℕ) (p : Progress) : Type 0 where
  pub level : Level
  pub same : s.ends ≡ again level (account_of p.account)
  pub stored : Stored s.deck.symbols store p.parts.parked p.parts.held level
  pub lists : Lists level s.answers answers p.filled p.listed
  pub size : length store ≡ length s.store
  pub room : length answers ≡ length s.answers
  pub inside : p.filled ≤ length answers
  pub paid : p.account.steps + p.account.left ≤ s.budget
  pub few : p.listed ≤ p.filled

-- There is such a level, on an opened deck, with a step to take: for a `requires`, which cannot quantify over what the rules have.
pub record SomeGoes (deck_words answers store : List ℕ) (p : Progress) : Type 0 where
  pub started : Started
  pub again : Again
  pub opens : open_deck deck_words ≡ accepted started.deck
  pub is : Goes started (step_then started again) answers store p

pub record Rests (s : Started) (ending : rules.Ending) (answers store : List ℕ) (p : Progress) : Type 0 where
  pub level : Level
  pub same : s.ends ≡ ended ending level (account_of p.account)
  pub stored : Stored s.deck.symbols store p.parts.parked p.parts.held level
  pub lists : Lists level s.answers answers p.filled p.listed
  pub size : length store ≡ length s.store
  pub room : length answers ≡ length s.answers
  pub paid : p.account.left ≤ s.budget

-- It stops.
abbrev pub Stops : Started → List ℕ → List ℕ → End → Type 0
Stops s answers store e = Rests s (stopped (stop_of e.stop)) answers store e.at

-- There is such a run: for a `requires`, which cannot quantify over what the rules have.
pub record SomeStops (store : List ℕ) (e : End) : Type 0 where
  pub started : Started
  pub answers : List ℕ
  pub is : Stops started answers store e

-- The first pending goal has no literals, and something is left of the budget.
pub record Bare (s : Started) (again : Again) (answers store : List ℕ) (p : Progress) : Type 0 where
  pub goes : Goes s (step_then s again) answers store p
  pub goal : Goal
  pub others : List Goal
  pub first : goes.level.pending ≡ goal ∷ others
  pub empty : goal.literals ≡ []
  pub pays : 0 < p.account.left

-- There is such a level: for a `requires`, which cannot quantify over what the rules have.
pub record SomeBare (answers store : List ℕ) (p : Progress) : Type 0 where
  pub started : Started
  pub again : Again
  pub is : Bare started again answers store p

-- The first pending goal is to be parked, and b is the account then.
pub record Waits (s : Started) (again : Again) (answers store : List ℕ) (p : Progress) (m : declared.Mark) (b : Account) : Type 0 where
  pub goes : Goes s (step_then s again) answers store p
  pub goal : Goal
  pub others : List Goal
  pub first : goes.level.pending ≡ goal ∷ others
  pub less : b.left < p.account.left
  pub later : Later p.account b
  pub same : step_then s again goes.level (account_of p.account) ≡ again (with_parked (mark_of m) goal others goes.level) (account_of b)

-- Where it starts.
abbrev pub begun : Start → Progress
begun start = record { parts = start.parts; account = record { left = start.budget; steps = 0 }; filled = 0; listed = 0 }

-- With h words pending, and the account b.
abbrev pub moved : Progress → ℕ → Account → Progress
moved p h b = record { parts = record { parked = p.parts.parked; held = h }; account = b; filled = p.filled; listed = p.listed }

-- The end, where a step halts.
abbrev pub end_of : Progress → Halt → End
end_of p halt = record { stop = halt.stop; at = moved p p.parts.held halt.account }

-- What a step came to at level 0.
abbrev pub Stepped : Started → Again → List ℕ → List ℕ → Progress → Result Turn Halt → Type 0
Stepped s again answers store p (Ok Empty) = Bare s again answers store p
Stepped s again answers store p (Ok (Park m b)) = Waits s again answers store p m b
Stepped s again answers store p (Ok (More h b)) = (b.left < p.account.left) × Goes s again answers store (moved p h b)
Stepped s again answers store p (Err halt) = Stops s answers store (end_of p halt)

-- There is such a level: for a `requires`, which cannot quantify over what the rules have.
pub record SomeStepped (answers store : List ℕ) (p : Progress) (t : Result Turn Halt) : Type 0 where
  pub started : Started
  pub again : Again
  pub is : Stepped started again answers store p t

-- Level 0 after that, with less than k left.
abbrev pub Follows : Started → Again → ℕ → List ℕ → List ℕ → Result Progress End → Type 0
Follows s again k answers store (Ok p) = (p.account.left < k) × Goes s again answers store p
Follows s again k answers store (Err e) = Stops s answers store e

-- The same, and where it goes on there is a goal to take a step on, and something is left.
abbrev pub Due : Started → Again → ℕ → List ℕ → List ℕ → Progress → Result (Unit {0}) End → Type 0
Due s again k answers store p (Ok u) = (p.account.left < k) × (0 < p.parts.held) × (0 < p.account.left) × Goes s again answers store p
Due s again k answers store p (Err e) = Stops s answers store e

-- Whether the step was taken, and level 0 as it is then.
abbrev pub advance_by : Result Progress End → Advance × Progress
advance_by (Ok p) = (Took, p)
advance_by (Err e) = (Prevented e.stop, e.at)

-- The numbers where level 0 stands at l, with the goals put in order.
pub record Totalled (p : Progress) (budget : ℕ) (l : Level) (store' : List ℕ) (t : Totals) : Type 0 where
  pub steps : t.steps ≡ p.account.steps
  pub cost : t.cost ≡ budget - p.account.left
  pub answers : t.answers ≡ p.listed
  pub ordered : Ordered l store' (record { pending = t.pending; parked = t.parked })

-- What is left where level 0 ends so.
pub record TopLevelEnds (total : Ended) (ending : rules.Ending) (answers : List ℕ) (budget : ℕ) (answers' store' : List ℕ) (t : Totals) : Type 0 where
  pub level : Level
  pub account : rules.Account
  pub ends : total ≡ ended ending level account
  pub steps : t.steps ≡ account.steps
  pub cost : t.cost ≡ budget - account.left
  pub listed : answers' ≡ write_goals (unmarked level.answers) ++ drop (words_of level.answers) answers
  pub answered : t.answers ≡ length level.answers
  pub ordered : Ordered level store' (record { pending = t.pending; parked = t.parked })

-- The numbers of a report, and of what a press returns.
abbrev pub of_report : Report → Totals
of_report r = record { steps = r.steps; cost = r.cost; answers = r.answers; pending = r.pending; parked = r.parked }

abbrev pub of_press : Pressed → Totals
of_press r = record { steps = r.steps; cost = r.cost; answers = r.answers; pending = r.pending; parked = r.parked }

-- Whatever deck opens and whatever goals are stored: what level 0's run from them leaves and reports.
abbrev pub RunsStored : List ℕ → List ℕ → List ℕ → ℕ → ℕ → ℕ → List ℕ → List ℕ → Report → Type 0
RunsStored deck_words answers store parked held budget answers' store' r =
    (d : Deck) (gs : List Goal) (ms : List Marked) → open_deck deck_words ≡ accepted d → Stored d.symbols store parked held (opening gs ms)
    → TopLevelEnds (evaluate_level d.clauses (length answers) (length store) 32 zeroth (opening gs ms) (rules.opening budget)) (stopped (stop_of r.stop)) answers budget answers' store' (of_report r)

-- The same of a press.
abbrev pub PressesStored : List ℕ → List ℕ → List ℕ → ℕ → ℕ → ℕ → List ℕ → List ℕ → Pressed → Type 0
PressesStored deck_words answers store parked held budget answers' store' r =
    (d : Deck) (gs : List Goal) (ms : List Marked) → open_deck deck_words ≡ accepted d → Stored d.symbols store parked held (opening gs ms)
    → TopLevelEnds (press_level d.clauses (length answers) (length store) (opening gs ms) (rules.opening budget)) (ending_of r.advance) answers budget answers' store' (of_press r)
