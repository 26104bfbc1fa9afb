-- A run looks at the symbols and the clauses of a deck alone (document 02, U10: "In terms and in matching a number is a functor like any other"). So over two decks
-- that differ in the format of their words, or in the values of their numbers, and in nothing else, all runs are the same, fresh and carrying on.
use Prim.Native.Nat.{ℕ}
use mathlib.Core.Path.{◌≡◌, refl, ◌∙◌, ap₂}
use mathlib.Core.List.{List, [], ◌∷◌}
use lib.ListN.{length}
use Rattle.rules.specs.Syntax.{Symbol, Clause, Format, Deck}
use Rattle.rules.specs.Refusals.{bad_goals, Checked, refused, accepted, and_then, obtain}
use Rattle.rules.specs.Decks.{open_deck, read_query}
use Rattle.rules.specs.Goals.{first_goal}
use Rattle.rules.specs.Rights.{check_rights}
use Rattle.rules.specs.Stored.{OpenGoals, read_open}
use Rattle.rules.specs.Loose.{check_tight, check_tight_query}
use Rattle.rules.specs.Evaluation.{Outcome, evaluate}
use Rattle.rules.specs.Run.{check_sizes, run_from, run, carry, carry_on}

-- What asks a deck for its symbols and clauses alone is the same for both formats and all values.
module _ {A : Type 0} (ask : Deck → A) (either : (F G : Format) (ss : List Symbol) (cs : List Clause) → ask (record { format = F; symbols = ss; clauses = cs }) ≡ ask (record { format = G; symbols = ss; clauses = cs })) where
  asked-same : (d e : Deck) → d.symbols ≡ e.symbols → d.clauses ≡ e.clauses → ask d ≡ ask e
  asked-same d e s c = either d.format e.format d.symbols d.clauses ∙ ap₂ (λ (ss : List Symbol) (cs : List Clause). ask (record { format = e.format; symbols = ss; clauses = cs })) s c

module _ (query_words bars : List ℕ) (budget answer_room store_size scratch_size : ℕ) where
  -- A fresh run from the deck on.
  abbrev from_deck : Deck → Checked Outcome
  from_deck d =
      and_then (read_query d query_words) (λ query. and_then (check_sizes store_size scratch_size) (λ _. and_then (check_tight_query d query)
      (λ _. run_from d bars (first_goal query ∷ []) [] budget answer_room store_size)))

  either-fresh : (F G : Format) (ss : List Symbol) (cs : List Clause)
      → from_deck (record { format = F; symbols = ss; clauses = cs }) ≡ from_deck (record { format = G; symbols = ss; clauses = cs })
  unfolding read_query check_tight_query check_tight run_from check_rights evaluate
  either-fresh F G ss cs = refl

  pub run-of-either : (deck_words other_words : List ℕ) (d e : Deck) → open_deck deck_words ≡ accepted d → open_deck other_words ≡ accepted e → d.symbols ≡ e.symbols → d.clauses ≡ e.clauses
      → run deck_words query_words bars budget answer_room store_size scratch_size ≡ run other_words query_words bars budget answer_room store_size scratch_size
  unfolding run and_then
  run-of-either deck_words other_words d e o p s c = rw (o, p) (asked-same from_deck either-fresh d e s c)

-- A run that carries on.
module _ (pending parked terms : ℕ) (store_words bars : List ℕ) (budget answer_room scratch_size : ℕ) where
  -- What the checks before it come to, and then the run from these goals.
  abbrev on_checks : Checked (Unit {0}) → Checked OpenGoals → Checked (Unit {0}) → Deck → Checked Outcome
  on_checks sizes goals tight d =
      carry_on (and_then sizes (λ _. and_then goals (λ g. and_then tight (λ _. accepted (record { deck = d; goals = g }))))) bars budget answer_room (length store_words)

  abbrev on_deck : Deck → Checked Outcome
  on_deck d = on_checks (check_sizes (length store_words) scratch_size) (obtain bad_goals (read_open d.symbols pending parked terms store_words)) (check_tight d) d

  either-checked : (F G : Format) (ss : List Symbol) (cs : List Clause) (sizes : Checked (Unit {0})) (goals : Checked OpenGoals) (tight : Checked (Unit {0}))
      → on_checks sizes goals tight (record { format = F; symbols = ss; clauses = cs }) ≡ on_checks sizes goals tight (record { format = G; symbols = ss; clauses = cs })
  unfolding carry_on and_then run_from check_rights evaluate
  either-checked F G ss cs (refused n) goals tight = refl
  either-checked F G ss cs (accepted u) (refused n) tight = refl
  either-checked F G ss cs (accepted u) (accepted g) (refused n) = refl
  either-checked F G ss cs (accepted u) (accepted g) (accepted v) = refl

  either-on : (F G : Format) (ss : List Symbol) (cs : List Clause)
      → on_deck (record { format = F; symbols = ss; clauses = cs }) ≡ on_deck (record { format = G; symbols = ss; clauses = cs })
  unfolding check_tight
  either-on F G ss cs = either-checked F G ss cs (check_sizes (length store_words) scratch_size) (obtain bad_goals (read_open ss pending parked terms store_words)) _

  pub carry-of-either : (deck_words other_words : List ℕ) (d e : Deck) → open_deck deck_words ≡ accepted d → open_deck other_words ≡ accepted e → d.symbols ≡ e.symbols → d.clauses ≡ e.clauses
      → carry_on (carry deck_words pending parked terms store_words scratch_size) bars budget answer_room (length store_words)
      ≡ carry_on (carry other_words pending parked terms store_words scratch_size) bars budget answer_room (length store_words)
  unfolding carry and_then
  carry-of-either deck_words other_words d e o p s c = rw (o, p) (asked-same on_deck either-on d e s c)
