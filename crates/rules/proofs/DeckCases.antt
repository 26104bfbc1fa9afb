-- Decks and queries of document 01 and of the tables under the tests of document 02: loose variables (U5), by computing them.
use Prim.Native.Nat.{ℕ}
use mathlib.Core.Path.{◌≡◌, refl}
use mathlib.Core.Bool.{true, false}
use mathlib.Core.List.{List, [], ◌∷◌, map}
use lib.ListN.{replicate}
use Rattle.rules.specs.Syntax.{Literal, Clause}
use Rattle.rules.specs.Refusals.{refused, accepted, checked_number}
use Rattle.rules.specs.Loose.{tight_query, tight_clauses}
use Rattle.rules.specs.Decks.{open_deck, read_query, check_query}
use Rattle.rules.specs.Run.{carry}
use Rattle.rules.specs.All.{rules}
use Rattle.rules.proofs.Table.{deck_l, deck_q}
use Rattle.rules.proofs.MoreRuns.{deck_p, deck_n, deck_c, deck_f}

abbrev pub clauses_of : List ℕ → List Clause
clauses_of ws = elim (open_deck ws) [ refused n ↦ [] | accepted d ↦ d.clauses ]

abbrev query_of : List ℕ → List ℕ → List Literal
query_of ws qs = elim (open_deck ws) [ refused n ↦ [] | accepted d ↦ elim (read_query d qs) [ refused n ↦ [] | accepted q ↦ q ] ]

-- The q(x, f(x)) deck and Clark's have a loose variable, and so has the floundering query; the others have none.
pub loose-decks : map (λ ws. tight_clauses (clauses_of ws)) (deck_l ∷ deck_p ∷ deck_n ∷ deck_f ∷ deck_q ∷ deck_c ∷ []) ≡ true ∷ true ∷ true ∷ true ∷ false ∷ false ∷ []
unfolding rules
loose-decks = refl

pub loose-queries : map (λ qs. tight_query (query_of deck_l qs)) ((4 ∷ 32768 ∷ []) ∷ [] ∷ (3 ∷ 1 ∷ []) ∷ (16387 ∷ 32768 ∷ []) ∷ []) ≡ true ∷ true ∷ true ∷ false ∷ []
unfolding rules
loose-queries = refl

-- The decks are opened; with the empty query all but the loose ones are let through, and so are they with no open goals.
pub open-decks : map (λ ws. checked_number (open_deck ws)) (deck_l ∷ deck_p ∷ deck_n ∷ deck_f ∷ deck_q ∷ deck_c ∷ []) ≡ 0 ∷ 0 ∷ 0 ∷ 0 ∷ 0 ∷ 0 ∷ []
unfolding rules
open-decks = refl

pub queries-checked : map (λ ws. checked_number (check_query ws [])) (deck_l ∷ deck_p ∷ deck_n ∷ deck_f ∷ deck_q ∷ deck_c ∷ []) ≡ 0 ∷ 0 ∷ 0 ∷ 0 ∷ 13 ∷ 13 ∷ []
unfolding rules
queries-checked = refl

pub flounders-checked : map (λ qs. checked_number (check_query deck_l qs)) ((4 ∷ 32768 ∷ []) ∷ (16387 ∷ 32768 ∷ []) ∷ (0 ∷ []) ∷ []) ≡ 0 ∷ 14 ∷ 7 ∷ []
unfolding rules
flounders-checked = refl

pub stores-checked : map (λ ws. checked_number (carry ws 0 0 0 (replicate 1024 0) 8192)) (deck_l ∷ deck_p ∷ deck_q ∷ deck_c ∷ []) ≡ 0 ∷ 0 ∷ 13 ∷ 13 ∷ []
unfolding rules
stores-checked = refl
