-- Presses, shown about the written rules by computing them.
use Prim.Native.Nat.{ℕ}
use mathlib.Core.Path.{◌≡◌, refl}
use mathlib.Core.List.{List, [], ◌∷◌, map}
use Rattle.std.specs.Prelude.{replicate}
use Rattle.rules.specs.Terms.{var, app, nil, cons}
use Rattle.rules.specs.Syntax.{pos, format1, Deck}
use Rattle.rules.specs.Refusals.{bad_goals, bad_bars, barred_reached, Checked, refused, accepted}
use Rattle.rules.specs.Decks.{open_deck}
use Rattle.rules.specs.Goals.{first_goal}
use Rattle.rules.specs.Evaluation.{finished, budget, answers, Level, start_level}
use Rattle.rules.specs.Press.{Advance, stepped, prevented, press_from, counts}
use Rattle.rules.specs.Run.{Slices}
use Rattle.rules.specs.All.{rules}
use Rattle.rules.proofs.Table.{deck_l}
use Rattle.rules.proofs.MoreRuns.{deck_p}
use Rattle.rules.proofs.LevelSound.{level}
use Rattle.rules.proofs.Continued.{Lent}
use Rattle.rules.proofs.PressList.{press_on, after_press, summed, taken, taken_cost, displays}

abbrev deck_of : Checked Deck → Deck
deck_of (refused n) = record { format = format1; symbols = []; clauses = [] }
deck_of (accepted d) = d

abbrev lead : Level
lead = start_level (first_goal (pos 4 (cons (var 0) nil) ∷ []))

abbrev within : ℕ → Lent
within n = record { budget = n; answer_room = 3; store_size = 1024 }

-- What each press returns.
abbrev returns : Deck → List Lent → Level → List Advance
returns deck [] l = []
returns deck (b ∷ bs) l = (press_on deck b l).advance ∷ returns deck bs (after_press l (press_on deck b l))

-- Query lead(x) of deck L: its clause, at cost 2; two ends, at cost 3, where 2 is too little; "not drawn(a)" cut short after the "not", then in
-- 3 steps at cost 4, which drops the goal; "not drawn(b)" cut short with a budget of 2, then in 2 steps at cost 3; the answer b; and nothing more.
abbrev presses : List Lent
presses = map within (9 ∷ 2 ∷ 3 ∷ 2 ∷ 4 ∷ 2 ∷ 3 ∷ 9 ∷ 9 ∷ [])

pub press-returns :
    returns (deck_of (open_deck deck_l)) presses lead
    ≡ stepped ∷ prevented budget ∷ stepped ∷ prevented budget ∷ stepped ∷ prevented budget ∷ stepped ∷ stepped ∷ prevented finished ∷ []
unfolding rules
press-returns = refl

pub press-displays :
    displays (deck_of (open_deck deck_l)) presses lead (record { steps = 0; cost = 0; answers = 0; pending = 1; parked = 0 })
    ≡ record { steps = 10; cost = 15; answers = 1; pending = 0; parked = 0 }
unfolding rules displays
press-displays = refl

pub press-steps : taken (deck_of (open_deck deck_l)) presses lead ≡ 8
unfolding rules summed
press-steps = refl

pub press-cost : taken_cost (deck_of (open_deck deck_l)) presses lead ≡ 13
unfolding rules summed
press-cost = refl

-- p if not p: the second press has 31 levels below its own, and parks the goal where the deepest of them may not ask.
abbrev asks_p : Level
asks_p = start_level (first_goal (pos 0 nil ∷ []))

pub press-deep :
    displays (deck_of (open_deck deck_p)) (within 99 ∷ within 99 ∷ []) asks_p (record { steps = 0; cost = 0; answers = 0; pending = 1; parked = 0 })
    ≡ record { steps = 66; cost = 66; answers = 0; pending = 0; parked = 1 }
unfolding rules displays
press-deep = refl

-- Counts stay at their greatest value.
pub press-greatest :
    displays (deck_of (open_deck deck_l)) (within 9 ∷ []) lead (record { steps = 18446744073709551615; cost = 18446744073709551614; answers = 7; pending = 1; parked = 0 })
    ≡ record { steps = 18446744073709551615; cost = 18446744073709551615; answers = 7; pending = 1; parked = 0 }
unfolding rules displays
press-greatest = refl

-- A press that is cut short by its answer list leaves the answer pending, and adds nothing; the next one lists it at the start of its own list.
abbrev room_for : ℕ → Lent
room_for n = record { budget = 9; answer_room = n; store_size = 1024 }

abbrev answer_b : Level
answer_b = level (record { answer_terms = cons (app 1 nil) nil; literals = [] } ∷ []) [] []

pub press-answers :
    (returns (deck_of (open_deck deck_l)) (room_for 2 ∷ room_for 3 ∷ []) answer_b ≡ prevented answers ∷ stepped ∷ [])
    × (displays (deck_of (open_deck deck_l)) (room_for 2 ∷ room_for 3 ∷ []) answer_b (record { steps = 0; cost = 0; answers = 0; pending = 1; parked = 0 })
    ≡ record { steps = 1; cost = 1; answers = 1; pending = 0; parked = 0 })
unfolding rules displays
press-answers = (refl, refl)

-- On words: "not drawn(b)" of deck L with a budget of 2 is cut short after the "not", and its goal is as it was found; with 3 it has lost its literal, and that is
-- one press, in 2 steps.
abbrev not_drawn : Slices
not_drawn = record { answers = replicate 5 7; store = 5 ∷ 1 ∷ 1 ∷ 16387 ∷ 1 ∷ replicate 1019 9; scratch = replicate 8192 0 }

abbrev no_bars : List ℕ
no_bars = replicate 5 0

pub press-words :
    (counts (press_from deck_l 1 0 1 no_bars 2 not_drawn) ≡ accepted (record { advance = prevented budget; steps = 1; cost = 1; answers = 0; pending = 1; parked = 0 }))
    × (counts (press_from deck_l 1 0 1 no_bars 3 not_drawn) ≡ accepted (record { advance = stepped; steps = 2; cost = 3; answers = 0; pending = 1; parked = 0 }))
    × (counts (press_from deck_l 0 0 1 no_bars 3 not_drawn) ≡ accepted (record { advance = prevented finished; steps = 0; cost = 0; answers = 0; pending = 0; parked = 0 }))
    × (counts (press_from deck_l 2 0 1 no_bars 3 not_drawn) ≡ refused bad_goals)
unfolding rules
press-words = (refl, refl, refl, refl)

-- 15 and 16, after 12 and where nothing is pending too: a list too short; "drawn" is barred, which the goal names; a list too short for no goals, and
-- one that bars what they do not reach; the goal parked, and "drawn" is barred.
abbrev not_drawn_parked : Slices
not_drawn_parked = record { answers = replicate 5 7; store = 8197 ∷ 1 ∷ 1 ∷ 16387 ∷ 1 ∷ replicate 1019 9; scratch = replicate 8192 0 }

pub press-rights :
    (counts (press_from deck_l 1 0 1 (replicate 4 0) 3 not_drawn) ≡ refused bad_bars)
    × (counts (press_from deck_l 1 0 1 (0 ∷ 0 ∷ 0 ∷ 1 ∷ 0 ∷ []) 3 not_drawn) ≡ refused barred_reached)
    × (counts (press_from deck_l 2 0 1 (replicate 4 0) 3 not_drawn) ≡ refused bad_goals)
    × (counts (press_from deck_l 0 0 1 (replicate 4 0) 3 not_drawn) ≡ refused bad_bars)
    × (counts (press_from deck_l 0 0 1 (0 ∷ 0 ∷ 0 ∷ 1 ∷ 0 ∷ []) 3 not_drawn) ≡ accepted (record { advance = prevented finished; steps = 0; cost = 0; answers = 0; pending = 0; parked = 0 }))
    × (counts (press_from deck_l 0 1 1 (0 ∷ 0 ∷ 0 ∷ 1 ∷ 0 ∷ []) 3 not_drawn_parked) ≡ refused barred_reached)
unfolding rules
press-rights = (refl, refl, refl, refl, refl, refl)
