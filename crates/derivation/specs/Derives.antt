-- The step on a selected positive literal.
use Rattle.std.specs.Prelude.{ℕ, ◌+◌, ◌≤◌, ◌<◌, ◌≡◌, ◌⊎◌, true, false, Option, Some, None, Result, Ok, Err, List, ◌∷◌, ◌++◌, length, take}
use Rattle.std.proofs.lemmas.List.Edits.{sets}
use Rattle.rules.specs.Terms.{Terms}
use Rattle.rules.specs.Syntax.{Symbol, Literal, Clause, Deck, Goal, top_goal}
use Rattle.rules.specs.Refusals.{accepted}
use Rattle.rules.specs.Decks.{open_deck, symbol_words}
use Rattle.rules.specs.Goals.{unmarked, goal_words, words_of, write_goals}
use Rattle.rules.specs.Resolution.{positive, clauses_about, resolvent, resolvents, any_oversized, tried, matchings, selected_cost}
use Rattle.resolvents.specs.Deriving.{Calls, leading_symbol, equations_of, IsAttempt}
use Rattle.resolvents.specs.declared.resolve.Resolved as resolved
use Rattle.resolvents.specs.declared.resolve.Resolved.TheVariants as gives
use Rattle.goals.specs.Store.{Holding}
use Rattle.clauses.specs.Clauses.{ClauseAt}
use Rattle.clauses.specs.Tried.{left}
use Rattle.clauses.specs.declared.rows.Row.{Row}
use Rattle.clauses.specs.declared.tried.Tried.{Tried}
use Rattle.report.specs.declared.Stop.{Stop}
use Rattle.report.specs.declared.Stop.TheVariants as stops
use Rattle.derivation.specs.declared.Attempt.{Attempt}
use Rattle.derivation.specs.declared.Derived.{Derived}

-- The deck opens, and the attempt is of a call whose goal g stands first in the cells, in which p(ts) is selected, with `before` and `after`
-- around it.
pub record Tries (deck_words cells : List ℕ) (a : Attempt) (d : Deck) (g : Goal) (before : List Literal) (p : ℕ) (ts : Terms) (after : List Literal) : Type 0 where
  pub opens : open_deck deck_words ≡ accepted d
  pub calls : Calls (symbol_words deck_words) cells a.call a.offset d.symbols g before p ts after
  pub first : a.first ≡ leading_symbol ts

-- There are such a deck, goal and literal: for a `requires`, which cannot quantify over what the rules have.
pub record SomeTries (deck_words cells : List ℕ) (a : Attempt) : Type 0 where
  pub deck : Deck
  pub goal : Goal
  pub before : List Literal
  pub predicate : ℕ
  pub terms : Terms
  pub after : List Literal
  pub is : Tries deck_words cells a deck goal before predicate terms after

-- Clause i is about the literal's predicate.
abbrev pub AboutCall : List ℕ → List ℕ → Attempt → ℕ → Type 0
AboutCall deck_words cells a i =
    (d : Deck) (g : Goal) (before : List Literal) (p : ℕ) (ts : Terms) (after : List Literal) (c : Clause)
    → Tries deck_words cells a d g before p ts after → ClauseAt d.clauses i c → c.predicate ≡ p

-- Whatever call the attempt is of, and whatever clause i is: the answer is the derived goal of the literal and the clause.
abbrev pub AttemptsClause : List ℕ → List ℕ → Attempt → ℕ → ℕ → List ℕ → Option (resolved.Resolved × ℕ) → Type 0
AttemptsClause deck_words cells a i left child r =
    (d : Deck) (g : Goal) (before : List Literal) (p : ℕ) (ts : Terms) (after : List Literal) (c : Clause)
    → Tries deck_words cells a d g before p ts after → ClauseAt d.clauses i c
    → IsAttempt (resolvent a.offset g.answer_terms before ts after c) (equations_of a.offset ts c) left child r

-- The equations that the clauses take that the literal tries.
abbrev pub sum_of : Deck → Goal → ℕ → Terms → ℕ
sum_of d g p ts = matchings (top_goal g) ts (tried ts (clauses_about p d.clauses))

-- The literal's row has more clauses than what is left.
pub record OverRow (t : Tried) (budget : ℕ) : Type 0 where
  pub row : Row
  pub is : t.row ≡ Some row
  pub over : (d : Deck) → open_deck t.clauses.deck.words.now ≡ accepted d → budget < length (left d t)

-- What a clause gives has at most 1,024 words, and its end is a place.
abbrev pub Fitting : resolved.Resolved → Option ℕ → Type 0
Fitting (gives.Child w) (Some end) = (w ≤ 1024) × (end + w < 18446744073709551616)
Fitting (gives.Child w) None = Unit {0}
Fitting gives.Nothing end = Unit {0}
Fitting gives.Oversized end = Unit {0}

-- What becomes of the store, and the place after the goals: a goal is copied where there is room for it, and counted. Once a goal is
-- oversized there is no place.
abbrev pub Copied : List ℕ → ℕ → List ℕ → ℕ → List ℕ → Type 0
Copied store end child w store' = ((end + w ≤ length store) × (store' ≡ sets store end (take w child))) ⊎ ((length store < end + w) × (store' ≡ store))

abbrev pub Placed : List ℕ → Option ℕ → List ℕ → resolved.Resolved → List ℕ → Option ℕ → Type 0
Placed store None child given store' end' = (store' ≡ store) × (end' ≡ None)
Placed store (Some end) child gives.Nothing store' end' = (store' ≡ store) × (end' ≡ Some end)
Placed store (Some end) child (gives.Child w) store' end' = Copied store end child w store' × (end' ≡ Some (end + w))
Placed store (Some end) child gives.Oversized store' end' = (store' ≡ store) × (end' ≡ None)

-- The goals ds end at a place; where the store reaches that far they stand in it from base on. Or one of them is oversized.
abbrev pub WritesTo : List ℕ → ℕ → List Goal → List ℕ → Option ℕ → Type 0
WritesTo store base ds store' (Some end) =
    (any_oversized ds ≡ false) × (end ≡ base + words_of ds) × (end ≤ length store → take end store' ≡ take base store ++ write_goals (unmarked ds))
WritesTo store base ds store' None = any_oversized ds ≡ true

-- The clauses of the goals ds took `sum` equations of what was left; or that is more than was left. The words before base are as they were.
abbrev pub Writes : List ℕ → ℕ → List Goal → ℕ → ℕ → List ℕ → Option Derived → Type 0
Writes store base ds sum left store' (Some r) = WritesTo store base ds store' r.held × (take base store' ≡ take base store) × (sum + r.left ≡ left)
Writes store base ds sum left store' None = (left < sum) × (take base store' ≡ take base store)

-- Whatever call the attempt is of: its derived goals are written from base on.
abbrev pub WritesChildren : List ℕ → List ℕ → Attempt → List ℕ → ℕ → ℕ → List ℕ → Option Derived → Type 0
WritesChildren deck_words cells a store base left store' r =
    (d : Deck) (g : Goal) (before : List Literal) (p : ℕ) (ts : Terms) (after : List Literal) → Tries deck_words cells a d g before p ts after
    → Writes store base (resolvents d.clauses g before p ts after) (sum_of d g p ts) left store' r

-- The first goal held is g, and its `size` cells stand at the start of `cells`.
pub record Deriving (deck_words store cells : List ℕ) (held size answer_cells s e : ℕ) (d : Deck) (g : Goal) (gs : List Goal) (before : List Literal) (p : ℕ) (ts : Terms) (after : List Literal) : Type 0 where
  pub opens : open_deck deck_words ≡ accepted d
  pub holding : Holding d.symbols store held (g ∷ gs)
  pub sized : goal_words g ≡ size + 2
  pub calls : Calls (symbol_words deck_words) cells (record { len = size; answer_cells = answer_cells; s = s; e = e }) (top_goal g) d.symbols g before p ts after

-- There are such a deck, such goals and such a literal: for a `requires`, which cannot quantify over what the rules have.
pub record SomeDeriving (deck_words store cells : List ℕ) (held size answer_cells s e : ℕ) : Type 0 where
  pub deck : Deck
  pub first : Goal
  pub goals : List Goal
  pub before : List Literal
  pub predicate : ℕ
  pub terms : Terms
  pub after : List Literal
  pub is : Deriving deck_words store cells held size answer_cells s e deck first goals before predicate terms after

-- With the derived goals ds: they replace the goal; or one is oversized, and the store's goals are as they were.
abbrev pub DerivesTo : List Symbol → List ℕ → ℕ → List Goal → List Goal → List ℕ → Option ℕ → Type 0
DerivesTo S store held gs ds store' (Some end) = (any_oversized ds ≡ false) × Holding S store' end (ds ++ gs)
DerivesTo S store held gs ds store' None = (any_oversized ds ≡ true) × (take held store' ≡ take held store)

-- A step that is taken is paid. Or there is no room for the goals, or the step's cost is not left, and the store's goals are as they were;
-- a step that has no room could be paid.
abbrev pub Derives : List Symbol → List ℕ → ℕ → List Goal → List Goal → ℕ → ℕ → List ℕ → Result Derived Stop → Type 0
Derives S store held gs ds cost left store' (Ok r) = DerivesTo S store held gs ds store' r.held × (cost + r.left ≡ left)
Derives S store held gs ds cost left store' (Err stops.Store) = (any_oversized ds ≡ false) × (length store < words_of (ds ++ gs)) × (take held store' ≡ take held store) × (cost ≤ left)
Derives S store held gs ds cost left store' (Err stops.Budget) = (left < cost) × (take held store' ≡ take held store)
Derives S store held gs ds cost left store' (Err stops.Answers) = ⊥
Derives S store held gs ds cost left store' (Err stops.Finished) = ⊥

-- Whatever goal is held first, and whatever literal of it the numbers are of: the step on that literal.
abbrev pub DerivesCall : List ℕ → List ℕ → List ℕ → ℕ → ℕ → ℕ → ℕ → ℕ → ℕ → List ℕ → Result Derived Stop → Type 0
DerivesCall deck_words store cells held size answer_cells s e left store' r =
    (d : Deck) (g : Goal) (gs : List Goal) (before : List Literal) (p : ℕ) (ts : Terms) (after : List Literal)
    → Deriving deck_words store cells held size answer_cells s e d g gs before p ts after
    → Derives d.symbols store held gs (resolvents d.clauses g before p ts after) (selected_cost d.clauses g (positive before p ts after)) left store' r
