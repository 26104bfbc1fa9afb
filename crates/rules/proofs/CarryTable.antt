-- Runs that carry on (document 02, U4), shown about the written rules by computing them.
use Prim.Native.Nat.{ℕ, ◌-◌}
use mathlib.Core.Path.{◌≡◌, refl}
use mathlib.Core.List.{List, [], ◌∷◌, ◌++◌, map}
use lib.ListN.{length, replicate}
use Rattle.rules.specs.Refusals.{Checked, refused, bad_store, bad_scratch, bad_goals, loose_clause}
use Rattle.rules.specs.Goals.{floundered, undecided}
use Rattle.rules.specs.Evaluation.{Outcome, finished, budget}
use Rattle.rules.specs.Run.{carry, carry_on, store_start}
use Rattle.rules.specs.All.{rules}
use Rattle.rules.proofs.Cases.{Line, shows, shown, unbarred, words_of_run}
use Rattle.rules.proofs.Table.{deck_l, deck_q}
use Rattle.rules.proofs.MoreRuns.{deck_n}

-- A deck, the numbers of pending and parked goals and of answer terms, the words at the start of a store of 1,024, the budget, and what the run shows.
pub record Carry : Type 0 where
  pub deck : List ℕ
  pub pending : ℕ
  pub parked : ℕ
  pub terms : ℕ
  pub words : List ℕ
  pub budget : ℕ
  pub expected : Checked Line

abbrev carry-on : List ℕ → ℕ → ℕ → ℕ → List ℕ → ℕ → Checked Line → Carry
carry-on deck pending parked terms words total expected =
    record { deck = deck; pending = pending; parked = parked; terms = terms; words = words; budget = total; expected = expected }

abbrev carried_on : Carry → Checked Outcome
carried_on c =
    carry_on (carry c.deck c.pending c.parked c.terms (c.words ++ replicate (1024 - length c.words) 7) 8192)
    (unbarred c.deck) c.budget 8192 1024

abbrev carried : Carry → Checked Line
carried c = shown (carried_on c)

-- a if not b, b if not c, c: the goal "not b" that a run of the query a has left is done to its end, or is cut short again; with budget 0 it stays.
-- The goal c, pending, and "not b", parked as undecided, which remains parked. No goals at all, with any number of answer terms and budget 0.
-- Refused: a pending goal marked 1; a parked goal marked 0; mark 5; a word too few; another number of answer terms; a count too many; as great a count
-- as there is.
-- Deck L: the goal "x such that x is an end", and the same with its variable misnumbered.
-- Deck L: the goal "x such that x is not drawn", filled in by hand, is parked as floundered.
-- The q(x, f(x)) deck, whose variable is loose: with no goals, and with a word too few.
abbrev pub carries : List Carry
carries =
    carry-on deck_n 1 0 0 (3 ∷ 0 ∷ 16385 ∷ []) 6 (shows finished 6 1 0 [] 6)
    ∷ carry-on deck_n 1 0 0 (3 ∷ 0 ∷ 16385 ∷ []) 5 (shows budget 5 0 1 [] 5)
    ∷ carry-on deck_n 1 0 0 (3 ∷ 0 ∷ 16385 ∷ []) 0 (shows budget 0 0 1 [] 0)
    ∷ carry-on deck_n 1 1 0 (3 ∷ 0 ∷ 2 ∷ 8195 ∷ 0 ∷ 16385 ∷ []) 9 (shows finished 2 1 0 (undecided ∷ []) 2)
    ∷ carry-on deck_n 0 0 9 [] 0 (shows finished 0 0 0 [] 0)
    ∷ carry-on deck_n 1 0 0 (4099 ∷ 0 ∷ 16385 ∷ []) 9 (refused bad_goals)
    ∷ carry-on deck_n 0 1 0 (3 ∷ 0 ∷ 16385 ∷ []) 9 (refused bad_goals)
    ∷ carry-on deck_n 0 1 0 (20483 ∷ 0 ∷ 16385 ∷ []) 9 (refused bad_goals)
    ∷ carry-on deck_n 1 0 0 (4 ∷ 0 ∷ 16385 ∷ []) 9 (refused bad_goals)
    ∷ carry-on deck_n 1 0 1 (3 ∷ 0 ∷ 16385 ∷ []) 9 (refused bad_goals)
    ∷ carry-on deck_n 2 0 0 (3 ∷ 0 ∷ 16385 ∷ []) 9 (refused bad_goals)
    ∷ carry-on deck_n 18446744073709551615 0 0 (3 ∷ 0 ∷ 16385 ∷ []) 9 (refused bad_goals)
    ∷ carry-on deck_l 1 0 1 (5 ∷ 1 ∷ 32768 ∷ 2 ∷ 32768 ∷ []) 9 (shows finished 3 2 0 [] 5)
    ∷ carry-on deck_l 1 0 1 (5 ∷ 1 ∷ 32769 ∷ 2 ∷ 32769 ∷ []) 9 (refused bad_goals)
    ∷ carry-on deck_l 1 0 1 (5 ∷ 1 ∷ 32768 ∷ 16387 ∷ 32768 ∷ []) 9 (shows finished 1 0 0 (floundered ∷ []) 1)
    ∷ carry-on deck_q 0 0 0 [] 9 (refused loose_clause)
    ∷ carry-on deck_q 1 0 0 (3 ∷ []) 9 (refused bad_goals)
    ∷ []

pub carries-show : map carried carries ≡ map (λ c. c.expected) carries
unfolding rules
carries-show = refl

-- The order of the checks, where the store's words are no goals: 8, then 9, then 12.
pub carries-order :
    (carry deck_n 1 0 0 (replicate 1023 7) 8191 ≡ refused bad_store)
    × (carry deck_n 1 0 0 (replicate 1024 7) 8191 ≡ refused bad_scratch)
    × (carry deck_n 1 0 0 (replicate 1024 7) 8192 ≡ refused bad_goals)
unfolding rules
carries-order = (refl, refl, refl)

-- The words of the floundered goal.
pub floundered-words :
    words_of_run store_start (carried_on (carry-on deck_l 1 0 1 (5 ∷ 1 ∷ 32768 ∷ 16387 ∷ 32768 ∷ []) 9 (shows finished 1 0 0 (floundered ∷ []) 1)))
    ≡ 4101 ∷ 1 ∷ 32768 ∷ 16387 ∷ 32768 ∷ []
unfolding rules
floundered-words = refl
