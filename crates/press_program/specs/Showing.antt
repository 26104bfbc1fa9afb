-- A press that was not refused, as what it returned and what it left.
use Rattle.std.specs.Prelude.{ℕ, ◌≡◌, List, length}
use Rattle.rules.specs.Refusals.{Checked, accepted}
use Rattle.rules.specs.Press.{Advance, Pressed, left_by, Display}
use Rattle.listing.specs.Printed.{Printed}
use Rattle.carry_program.specs.Finished.{LeftOpen}
use Rattle.press_program.specs.PressProgram.{Shown, press_text}

-- A press that came to c: it returned this, and left this display and a store that begins with its goals.
pub record Showing (deck_words : List ℕ) (terms : ℕ) (store : List ℕ) (advance : Advance) (display : Display) (c : Checked Shown) : Type 0 where
  pub pressed : Pressed
  pub comes : c ≡ accepted (record { pressed = pressed; display = display; terms = terms })
  pub advances : pressed.advance ≡ advance
  pub pending : length pressed.pending ≡ display.pending
  pub parked : length pressed.parked ≡ display.parked
  pub left : LeftOpen (left_by pressed) deck_words terms store

-- There is such a press, and whatever it came to is printed.
module _ (deck_words : List ℕ) (terms : ℕ) (store : List ℕ) (advance : Advance) (display : Display) where
  abbrev pub SomeShowing : Type 0
  SomeShowing = (c : Checked Shown) × Showing deck_words terms store advance display c

  abbrev pub ShowingPrinted : List ℕ → ℕ → List ℕ → Type 0
  ShowingPrinted before n after = (c : Checked Shown) → Showing deck_words terms store advance display c → Printed (press_text c) before n after
