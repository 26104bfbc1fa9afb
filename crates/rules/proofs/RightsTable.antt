-- Runs for members (document 02, U9), shown about the written rules by computing them.
use Prim.Native.Nat.{ℕ}
use mathlib.Core.Path.{◌≡◌, refl}
use mathlib.Core.List.{List, [], ◌∷◌, ◌++◌, map}
use mathlib.Core.Option.{Option, none, some}
use lib.ListN.{length, replicate}
use Rattle.rules.specs.Refusals.{Checked, refused, bad_bars, barred_reached, checked_number}
use Rattle.rules.specs.Evaluation.{finished}
use Rattle.rules.specs.Terms.{nil}
use Rattle.rules.specs.Syntax.{predicate, neg, format1}
use Rattle.rules.specs.Goals.{undecided, marked}
use Rattle.rules.specs.Run.{run_from, run, carry, carry_on}
use Rattle.rules.specs.CarryProgram.{bars_from, open_run, carry_run, kept_listing}
use Rattle.rules.specs.All.{rules}
use Rattle.rules.proofs.Cases.{Line, shows, shown}
use Rattle.rules.proofs.Table.{deck_l, deck_q, bytes_l}
use Rattle.rules.proofs.MoreRuns.{deck_n}
use Rattle.rules.proofs.ListingRuns.{text}

-- A deck, a query, a member's list, and what the run shows.
pub record Visit : Type 0 where
  pub deck : List ℕ
  pub query : List ℕ
  pub bars : List ℕ
  pub expected : Checked Line

abbrev visit : List ℕ → List ℕ → List ℕ → Checked Line → Visit
visit deck query bars expected = record { deck = deck; query = query; bars = bars; expected = expected }

-- Clauses b if c; a if b. Symbols: a, b, c.
abbrev pub deck_i : List ℕ
deck_i = 1 ∷ 3 ∷ 8 ∷ 2 ∷ 11 ∷ 4 ∷ 13 ∷ 17 ∷ 256 ∷ 256 ∷ 256 ∷ 0 ∷ 2 ∷ 1 ∷ 2 ∷ 0 ∷ 1 ∷ []

-- Clause q(a) if r. Symbols: a, b, q, r.
abbrev pub deck_j : List ℕ
deck_j = 1 ∷ 4 ∷ 8 ∷ 1 ∷ 12 ∷ 3 ∷ 13 ∷ 16 ∷ 0 ∷ 0 ∷ 257 ∷ 256 ∷ 0 ∷ 2 ∷ 0 ∷ 3 ∷ []

-- Deck L: symbols a, b, end, drawn, lead. A list too short, too long, with a 2, with a functor's 1.
-- Barred: lead, which the query names; end, in a body; drawn, negated in a body; drawn, negated in the query; lead, which "end" does not reach.
-- a if not b, b if not c, c: c is barred, two bodies away, and then a, which c does not reach.
-- b if c, a if b: c is barred, two bodies away against deck order; nothing is barred.
-- q(a) if r, and r is barred: q(b) reaches it, though no clause matches.
-- The empty query: a list too short; one that bars everything.
abbrev pub visits : List Visit
visits =
    visit deck_l (4 ∷ 32768 ∷ []) (0 ∷ 0 ∷ 0 ∷ 0 ∷ []) (refused bad_bars)
    ∷ visit deck_l (4 ∷ 32768 ∷ []) (0 ∷ 0 ∷ 0 ∷ 0 ∷ 0 ∷ 0 ∷ []) (refused bad_bars)
    ∷ visit deck_l (4 ∷ 32768 ∷ []) (0 ∷ 0 ∷ 0 ∷ 0 ∷ 2 ∷ []) (refused bad_bars)
    ∷ visit deck_l (4 ∷ 32768 ∷ []) (0 ∷ 1 ∷ 0 ∷ 0 ∷ 0 ∷ []) (refused bad_bars)
    ∷ visit deck_l (4 ∷ 32768 ∷ []) (0 ∷ 0 ∷ 0 ∷ 0 ∷ 1 ∷ []) (refused barred_reached)
    ∷ visit deck_l (4 ∷ 32768 ∷ []) (0 ∷ 0 ∷ 1 ∷ 0 ∷ 0 ∷ []) (refused barred_reached)
    ∷ visit deck_l (4 ∷ 32768 ∷ []) (0 ∷ 0 ∷ 0 ∷ 1 ∷ 0 ∷ []) (refused barred_reached)
    ∷ visit deck_l (16387 ∷ 0 ∷ []) (0 ∷ 0 ∷ 0 ∷ 1 ∷ 0 ∷ []) (refused barred_reached)
    ∷ visit deck_l (2 ∷ 0 ∷ []) (0 ∷ 0 ∷ 0 ∷ 0 ∷ 1 ∷ []) (shows finished 2 1 0 [] 4)
    ∷ visit deck_n (0 ∷ []) (0 ∷ 0 ∷ 1 ∷ []) (refused barred_reached)
    ∷ visit deck_n (2 ∷ []) (1 ∷ 1 ∷ 0 ∷ []) (shows finished 2 1 0 [] 2)
    ∷ visit deck_i (0 ∷ []) (0 ∷ 0 ∷ 1 ∷ []) (refused barred_reached)
    ∷ visit deck_i (0 ∷ []) (0 ∷ 0 ∷ 0 ∷ []) (shows finished 3 0 0 [] 3)
    ∷ visit deck_j (2 ∷ 1 ∷ []) (0 ∷ 0 ∷ 0 ∷ 1 ∷ []) (refused barred_reached)
    ∷ visit deck_l [] (0 ∷ 0 ∷ 0 ∷ 0 ∷ []) (refused bad_bars)
    ∷ visit deck_l [] (0 ∷ 0 ∷ 1 ∷ 1 ∷ 1 ∷ []) (shows finished 1 1 0 [] 1)
    ∷ []

pub visits-show : map (λ v. shown (run v.deck v.query v.bars 100 8192 16384 8192)) visits ≡ map (λ v. v.expected) visits
unfolding rules
visits-show = refl

-- Runs that carry on, over a if not b, b if not c, c: the pending goal "not b" with a list too short, with c barred, with a barred; no goals and a
-- list too short, and one that bars everything; the parked goal "not b" with c barred; a bad goal and a list too short. Then a deck with a loose
-- variable and a list too short.
abbrev onward : List ℕ → ℕ → ℕ → List ℕ → List ℕ → ℕ
onward deck pending parked goals bars = checked_number (carry_on (carry deck pending parked 0 (goals ++ replicate 1024 7) 8192) bars 9 8192 1024)

pub carried-rights :
    onward deck_n 1 0 (3 ∷ 0 ∷ 16385 ∷ []) (0 ∷ 0 ∷ [])
    ∷ onward deck_n 1 0 (3 ∷ 0 ∷ 16385 ∷ []) (0 ∷ 0 ∷ 1 ∷ [])
    ∷ onward deck_n 1 0 (3 ∷ 0 ∷ 16385 ∷ []) (1 ∷ 0 ∷ 0 ∷ [])
    ∷ onward deck_n 0 0 [] (0 ∷ 0 ∷ [])
    ∷ onward deck_n 0 0 [] (1 ∷ 1 ∷ 1 ∷ [])
    ∷ onward deck_n 0 1 (8195 ∷ 0 ∷ 16385 ∷ []) (0 ∷ 0 ∷ 1 ∷ [])
    ∷ onward deck_n 1 0 (4 ∷ 0 ∷ 16385 ∷ []) (0 ∷ 0 ∷ [])
    ∷ onward deck_q 0 0 [] (0 ∷ [])
    ∷ []
    ≡ 15 ∷ 16 ∷ 0 ∷ 15 ∷ 0 ∷ 16 ∷ 12 ∷ 13 ∷ []
unfolding rules
carried-rights = refl

-- A parked goal's literals are starting points too, also where no clause is.
pub parked-start :
    run_from (record { format = format1; symbols = predicate 0 ∷ []; clauses = [] }) (1 ∷ []) [] (marked undecided (record { answer_terms = nil; literals = neg 0 nil ∷ [] }) ∷ []) 9 9 1024
    ≡ refused barred_reached
unfolding rules
parked-start = refl

-- THE PROGRAMS. The lists for a deck of two symbols: without a file, from one of four bytes, of three, of 8,194; and the length of one from 8,192 bytes.
pub list-words :
    map (bars_from 2) (none ∷ some (0 ∷ 0 ∷ 1 ∷ 2 ∷ []) ∷ some (1 ∷ 0 ∷ 0 ∷ []) ∷ some (replicate 8194 0) ∷ [])
    ≡ (0 ∷ 0 ∷ []) ∷ (0 ∷ 513 ∷ []) ∷ [] ∷ [] ∷ []
unfolding rules
list-words = refl

pub list-longest : length (bars_from 2 (some (replicate 8192 0))) ≡ 4096
unfolding rules
list-longest = refl

-- The bytes of lists for deck L: nothing, "drawn" and "lead" are barred; a word short; a byte over.
abbrev pub lists_l : List (Option (List ℕ))
lists_l =
    none
    ∷ some (0 ∷ 0 ∷ 0 ∷ 0 ∷ 0 ∷ 0 ∷ 0 ∷ 0 ∷ 0 ∷ 0 ∷ [])
    ∷ some (0 ∷ 0 ∷ 0 ∷ 0 ∷ 0 ∷ 0 ∷ 1 ∷ 0 ∷ 0 ∷ 0 ∷ [])
    ∷ some (0 ∷ 0 ∷ 0 ∷ 0 ∷ 0 ∷ 0 ∷ 0 ∷ 0 ∷ 1 ∷ 0 ∷ [])
    ∷ some (0 ∷ 0 ∷ 0 ∷ 0 ∷ 0 ∷ 0 ∷ 0 ∷ 0 ∷ [])
    ∷ some (0 ∷ 0 ∷ 0 ∷ 0 ∷ 0 ∷ 0 ∷ 0 ∷ 0 ∷ 0 ∷ 0 ∷ 0 ∷ [])
    ∷ []

-- Which ends are there? Only "end" is reached, so that a member for whom "lead" is barred is told too. Then the leads.
pub asked-lists :
    map (λ bars. kept_listing (open_run (some bytes_l) (2 ∷ 0 ∷ 0 ∷ 128 ∷ []) bars 9)) lists_l
    ++ map (λ bars. kept_listing (open_run (some bytes_l) (4 ∷ 0 ∷ 0 ∷ 128 ∷ []) bars 20)) lists_l
    ≡ text "all\nfinished 3 2 0 0 5\ns0\ns1\n" ∷ text "all\nfinished 3 2 0 0 5\ns0\ns1\n" ∷ text "all\nfinished 3 2 0 0 5\ns0\ns1\n"
    ∷ text "all\nfinished 3 2 0 0 5\ns0\ns1\n" ∷ text "refused 15\n" ∷ text "refused 15\n"
    ∷ text "all\nfinished 8 1 0 0 13\ns1\n" ∷ text "all\nfinished 8 1 0 0 13\ns1\n" ∷ text "refused 16\n" ∷ text "refused 16\n" ∷ text "refused 15\n" ∷ text "refused 15\n" ∷ []
unfolding rules
asked-lists = refl

-- Carrying on from the goal "x such that x is an end", of one answer term.
abbrev pub end_goal : List ℕ
end_goal = (1 ∷ replicate 15 0) ++ (1 ∷ replicate 7 0) ++ (5 ∷ 0 ∷ 1 ∷ 0 ∷ 0 ∷ 128 ∷ 2 ∷ 0 ∷ 0 ∷ 128 ∷ [])

pub carried-lists :
    map (λ bars. kept_listing (carry_run (some bytes_l) (some end_goal) bars 9))
    (none ∷ some (0 ∷ 0 ∷ 0 ∷ 0 ∷ 0 ∷ 0 ∷ 1 ∷ 0 ∷ 1 ∷ 0 ∷ []) ∷ some (0 ∷ 0 ∷ 0 ∷ 0 ∷ 1 ∷ 0 ∷ 0 ∷ 0 ∷ 0 ∷ 0 ∷ []) ∷ some (7 ∷ []) ∷ [])
    ≡ text "all\nfinished 3 2 0 0 5\ns0\ns1\n" ∷ text "all\nfinished 3 2 0 0 5\ns0\ns1\n" ∷ text "refused 16\n" ∷ text "refused 15\n" ∷ []
unfolding rules
carried-lists = refl
