-- Presses one after another (document 02, U14), each with its own budget and lists: what they come to, and what a display shows of them.
use Prim.Native.Nat.{ℕ, ◌+◌}
use mathlib.Core.List.{List, [], ◌∷◌, ◌++◌}
use Rattle.rules.specs.Syntax.{Deck}
use Rattle.rules.specs.Evaluation.{Level}
use Rattle.rules.specs.Press.{stepped, prevented, Pressed, press, counted, Display, displayed}
use Rattle.rules.proofs.Continued.{Lent}

-- A press from the goals of a level; the level after it, with the answers of all presses so far; and so on.
abbrev pub press_on : Deck → Lent → Level → Pressed
press_on deck b l = press deck b.answer_room b.store_size l.pending l.parked b.budget

abbrev pub after_press : Level → Pressed → Level
after_press l p = record { pending = p.pending; parked = p.parked; answers = l.answers ++ p.answers }

unfoldable pub press_all : Deck → List Lent → Level → Level
press_all deck [] l = l
press_all deck (b ∷ bs) l = press_all deck bs (after_press l (press_on deck b l))

-- The steps of the presses that were not cut short, and their cost.
abbrev pub steps_taken : Pressed → ℕ
steps_taken p = elim p.advance [ stepped ↦ p.steps | prevented s ↦ 0 ]

abbrev pub cost_taken : Pressed → ℕ
cost_taken p = elim p.advance [ stepped ↦ p.cost | prevented s ↦ 0 ]

-- Over all presses, for a number that each of them has.
unfoldable pub summed : (Pressed → ℕ) → Deck → List Lent → Level → ℕ
summed number deck [] l = 0
summed number deck (b ∷ bs) l = number (press_on deck b l) + summed number deck bs (after_press l (press_on deck b l))

abbrev pub taken : Deck → List Lent → Level → ℕ
taken = summed steps_taken

abbrev pub taken_cost : Deck → List Lent → Level → ℕ
taken_cost = summed cost_taken

-- The answer lists of all presses together.
abbrev pub rooms : List Lent → ℕ
rooms [] = 0
rooms (b ∷ bs) = b.answer_room + rooms bs

-- A display over all presses, those cut short included.
unfoldable pub displays : Deck → List Lent → Level → Display → Display
displays deck [] l d = d
displays deck (b ∷ bs) l d = displays deck bs (after_press l (press_on deck b l)) (displayed d (counted (press_on deck b l)))

abbrev pub steps_of : Deck → List Lent → Level → ℕ
steps_of = summed (λ p. p.steps)

abbrev pub cost_of_all : Deck → List Lent → Level → ℕ
cost_of_all = summed (λ p. p.cost)
