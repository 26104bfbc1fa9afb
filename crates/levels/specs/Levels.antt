-- What a step, a decision and a level say of the rules' evaluation.
use Rattle.std.specs.Prelude.{ℕ, suc, ◌+◌, ◌-◌, ◌≤◌, ◌<◌, ◌≡◌, Bool, true, false, List, [], ◌∷◌, length, take, drop, Option, Some, None, Result, Ok, Err}
use Rattle.rules.specs.Terms.{Terms, vars_terms}
use Rattle.rules.specs.Syntax.{Symbol, Literal, neg, Clause, Deck, Goal}
use Rattle.rules.specs.Cells.{write_literal}
use Rattle.rules.specs.Refusals.{accepted}
use Rattle.rules.specs.Decks.{open_deck}
use Rattle.rules.specs.Goals.{goal_cells, goal_words, marked_words}
use Rattle.rules.specs.Resolution.{negative, select}
use Rattle.rules.specs.WellFormed.{WfLiteral}
use Rattle.rules.specs.Evaluation as rules
use Rattle.rules.specs.Press.{one_step}
use Rattle.report.specs.Reports.{stop_of}
use Rattle.report.specs.declared.Stop.{Stop}
use Rattle.resolvents.specs.Selecting.{Spans}
use Rattle.goals.specs.Store.{Holding, atom_goal, mark_of}
use Rattle.goals.specs.declared.Mark.TheVariants as marks
use Rattle.derivation.specs.declared.Derived.{Derived}
use Rattle.levels.specs.declared.Account.{Account}
use Rattle.levels.specs.declared.Turn.{Turn}
use Rattle.levels.specs.declared.Turn.TheVariants.{Empty, Park, More}
use Rattle.levels.specs.declared.Halt.{Halt}
use Rattle.levels.specs.declared.Verdict.{Verdict}
use Rattle.levels.specs.declared.Verdict.TheVariants.{Succeeds, Fails, Unsettled}
use Rattle.levels.specs.declared.Reply.{Reply}

abbrev pub account_of : Account → rules.Account
account_of a = record { left = a.left; steps = a.steps }

-- The account after a step that leaves `left`, and after one that costs 1.
abbrev pub paid : Account → ℕ → Account
paid a left = record { left = left; steps = a.steps + 1 }

abbrev pub paid_one : Account → Account
paid_one a = paid a (a.left - 1)

-- An account later than another: no more is left, and each step between them has cost 1 at least.
abbrev pub Later : Account → Account → Type 0
Later a b = (b.left ≤ a.left) × (b.steps + b.left ≤ a.steps + a.left)

-- The words held outside a level's pending goals.
abbrev pub outside : rules.Place → rules.Level → ℕ
outside rules.zeroth l = marked_words l.parked
outside (rules.deeper outer) l = outer

-- A level with the pending goals gs that has `words` words for pending goals, in a store of `store_size` words.
pub record LevelHolds (at : rules.Place) (l : rules.Level) (gs : List Goal) (words store_size : ℕ) : Type 0 where
  pub pending : l.pending ≡ gs
  pub room : outside at l + words ≡ store_size

-- Whatever the level, its place and the sizes, and whatever takes over: it takes over from the changed level, one step on.
abbrev pub Onward : List Clause → ℕ → ℕ → List Goal → rules.Account → (rules.Level → rules.Level) → rules.Account → Type 0
Onward clauses below room gs a change b =
    (answer_room store_size : ℕ) (at : rules.Place) (again : rules.Level → rules.Account → rules.Ended) (l : rules.Level) → LevelHolds at l gs room store_size
    → one_step clauses answer_room store_size below at again l a ≡ again (change l) b

-- Whatever they are: the step is not taken, or is cut short, and the level stops as it stands.
abbrev pub Halts : List Clause → ℕ → ℕ → List Goal → rules.Account → rules.Stop → rules.Account → Type 0
Halts clauses below room gs a stop b =
    (answer_room store_size : ℕ) (at : rules.Place) (again : rules.Level → rules.Account → rules.Ended) (l : rules.Level) → LevelHolds at l gs room store_size
    → one_step clauses answer_room store_size below at again l a ≡ rules.ended (rules.stopped stop) l b

-- What a step on g, with gs after it, came to. The first `held` words of the store are as they were unless it goes on with other goals.
abbrev pub Turned : Deck → ℕ → List ℕ → ℕ → Account → Goal → List Goal → List ℕ → Result Turn Halt → Type 0
Turned d below store held a g gs store' (Ok Empty) = (g.literals ≡ []) × (take held store' ≡ take held store)
Turned d below store held a g gs store' (Ok (Park m b)) =
    (b.left < a.left) × Later a b × (take held store' ≡ take held store)
    × Onward d.clauses below (length store) (g ∷ gs) (account_of a) (rules.with_parked (mark_of m) g gs) (account_of b)
Turned d below store held a g gs store' (Ok (More h b)) =
    (b.left < a.left) × Later a b
    × ((hs : List Goal) × Holding d.symbols store' h hs × Onward d.clauses below (length store) (g ∷ gs) (account_of a) (rules.with_pending hs) (account_of b))
Turned d below store held a g gs store' (Err halt) =
    Later a halt.account × (take held store' ≡ take held store)
    × Halts d.clauses below (length store) (g ∷ gs) (account_of a) (stop_of halt.stop) (account_of halt.account)

-- Whatever deck opens and whatever goals are held: what a step on the first of them comes to.
abbrev pub TurnsFirst : List ℕ → ℕ → List ℕ → ℕ → Account → List ℕ → Result Turn Halt → Type 0
TurnsFirst deck_words below store held a store' r =
    (d : Deck) (g : Goal) (gs : List Goal) → open_deck deck_words ≡ accepted d → Holding d.symbols store held (g ∷ gs)
    → Turned d below store held a g gs store' r

abbrev pub verdict_for : Verdict → rules.Verdict
verdict_for Succeeds = rules.succeeds
verdict_for Fails = rules.fails
verdict_for Unsettled = rules.unsettled

-- What a level's run says, and the account after it.
abbrev pub said_by : Result Reply Halt → rules.Verdict
said_by (Ok r) = verdict_for r.verdict
said_by (Err halt) = rules.interrupted (stop_of halt.stop)

abbrev pub account_after : Result Reply Halt → Account
account_after (Ok r) = r.account
account_after (Err halt) = halt.account

-- What a finished level says, by whether something is parked.
abbrev pub finished_by : Bool → rules.Verdict
finished_by true = rules.unsettled
finished_by false = rules.fails

-- A deeper level on the goals gs with `room` words of the store, whatever is held outside it.
abbrev pub Decides : List Clause → ℕ → ℕ → List Goal → rules.Account → rules.Verdict → rules.Account → Type 0
Decides clauses below room gs a verdict b =
    (answer_room store_size outer : ℕ) → outer + room ≡ store_size
    → rules.reply_of (rules.evaluate_level clauses answer_room store_size below (rules.deeper outer) (record { pending = gs; parked = []; answers = [] }) a)
    ≡ rules.reply verdict b

pub record Replied (d : Deck) (below room : ℕ) (gs : List Goal) (a : Account) (r : Result Reply Halt) : Type 0 where
  pub later : Later a (account_after r)
  pub decides : Decides d.clauses below room gs (account_of a) (said_by r) (account_of (account_after r))

-- The cells from s up to e are those of the negative literal not p(ts), which has no variables.
pub record Asking (row : List ℕ) (s e : ℕ) (S : List Symbol) (p : ℕ) (ts : Terms) : Type 0 where
  pub order : s ≤ e
  pub inside : e ≤ length row
  pub literal : WfLiteral S (neg p ts)
  pub ground : vars_terms ts [] ≡ []
  pub cells : take (e - s) (drop s row) ≡ write_literal (neg p ts) []
  pub short : goal_words (atom_goal p ts) ≤ 1024

-- There are such a deck and such a literal: for a `requires`, which cannot quantify over what the rules have.
pub record SomeDecision (deck_words cells : List ℕ) (s e : ℕ) : Type 0 where
  pub deck : Deck
  pub predicate : ℕ
  pub terms : Terms
  pub opens : open_deck deck_words ≡ accepted deck
  pub asking : Asking cells s e deck.symbols predicate terms

-- Whatever deck opens and whatever negative literal these cells are: what a deeper level says of its atom.
abbrev pub DecidesAtom : List ℕ → List ℕ → ℕ → ℕ → ℕ → ℕ → Account → Result Reply Halt → Type 0
DecidesAtom deck_words row s e below room a r =
    (d : Deck) (p : ℕ) (ts : Terms) → open_deck deck_words ≡ accepted d → Asking row s e d.symbols p ts
    → Replied d below room (atom_goal p ts ∷ []) a r

-- The first goal held is g, and not p(ts), which is selected in it, stands from s up to e of its cells.
pub record Negates (S : List Symbol) (store : List ℕ) (held s e : ℕ) (g : Goal) (gs : List Goal) (before : List Literal) (p : ℕ) (ts : Terms) (after : List Literal) : Type 0 where
  pub holding : Holding S store held (g ∷ gs)
  pub selects : select g.literals ≡ negative before p ts after
  pub span : Spans g.answer_terms before (neg p ts) s e

-- There are such goals and such a literal: for a `requires`, which cannot quantify over what the rules have.
pub record SomeNegates (store : List ℕ) (held s e : ℕ) : Type 0 where
  pub symbols : List Symbol
  pub first : Goal
  pub goals : List Goal
  pub before : List Literal
  pub predicate : ℕ
  pub terms : Terms
  pub after : List Literal
  pub negates : Negates symbols store held s e first goals before predicate terms after

-- The same, with the deck opened, and g's cells at the start of `row`.
pub record Negating (deck_words store row : List ℕ) (held s e : ℕ) (d : Deck) (g : Goal) (gs : List Goal) (before : List Literal) (p : ℕ) (ts : Terms) (after : List Literal) : Type 0 where
  pub opens : open_deck deck_words ≡ accepted d
  pub negates : Negates d.symbols store held s e g gs before p ts after
  pub cells : take (length (goal_cells g)) row ≡ goal_cells g

-- There are such a deck, such goals and such a literal: for a `requires`, which cannot quantify over what the rules have.
pub record SomeNegating (deck_words store row : List ℕ) (held s e : ℕ) : Type 0 where
  pub deck : Deck
  pub first : Goal
  pub goals : List Goal
  pub before : List Literal
  pub predicate : ℕ
  pub terms : Terms
  pub after : List Literal
  pub is : Negating deck_words store row held s e deck first goals before predicate terms after

-- With a step paid, a new level past the words held, which has room for the goal of p(ts), gave the reply.
pub record Asked (d : Deck) (below : ℕ) (store : List ℕ) (held : ℕ) (a : Account) (p : ℕ) (ts : Terms) (r : Result Reply Halt) : Type 0 where
  pub pays : 0 < a.left
  pub fits : held + goal_words (atom_goal p ts) ≤ length store
  pub replied : Replied d below (length store - held) (atom_goal p ts ∷ []) (paid_one a) r

-- Whatever deck opens and whatever negative literal is selected: what the step on it comes to.
abbrev pub TurnsNegative : List ℕ → ℕ → List ℕ → List ℕ → ℕ → ℕ → ℕ → Account → List ℕ → Result Turn Halt → Type 0
TurnsNegative deck_words below store row held s e a store' r =
    (d : Deck) (g : Goal) (gs : List Goal) (before : List Literal) (p : ℕ) (ts : Terms) (after : List Literal)
    → Negating deck_words store row held s e d g gs before p ts after → Turned d below store held a g gs store' r

-- The same by the reply of the new level, whatever deck, level and account it was asked with.
abbrev pub SettlesNegative : List ℕ → ℕ → ℕ → ℕ → Result Reply Halt → List ℕ → Result Turn Halt → Type 0
SettlesNegative store held s e reply store' r =
    (d : Deck) (g : Goal) (gs : List Goal) (before : List Literal) (p : ℕ) (ts : Terms) (after : List Literal) (below : ℕ) (a : Account)
    → Negates d.symbols store held s e g gs before p ts after → Asked d below store held a p ts reply → Turned d (suc below) store held a g gs store' r

-- A step on a positive literal, by what became of the derived goals.
abbrev pub turn_of : Option ℕ → Account → Turn
turn_of (Some held) b = More held b
turn_of None b = Park marks.Oversized b

abbrev pub expanded_to : Result Derived Stop → Account → Result Turn Halt
expanded_to (Ok r) a = Ok (turn_of r.held (paid a r.left))
expanded_to (Err stop) a = Err (record { stop = stop; account = a })
