-- A run that was not refused, as its report and what it leaves of the lists that it was lent.
use Rattle.std.specs.Prelude.{ℕ, ◌≡◌, List, length, Option, Some, None}
use Rattle.std.proofs.Math.Option.{some}
use Rattle.rules.specs.Syntax.{Deck}
use Rattle.rules.specs.Refusals.{Refusal, Checked, refused, accepted}
use Rattle.rules.specs.Decks.{symbol_words, open_deck}
use Rattle.rules.specs.Stored.{read_open}
use Rattle.rules.specs.Evaluation.{Outcome}
use Rattle.rules.specs.CarryProgram.{Kept, kept_goals, kept_listing}
use Rattle.report.specs.declared.Report.{Report}
use Rattle.listing.specs.Printed.{Printed}
use Rattle.listing.specs.Shown.{Shown}

-- The goals that a run leaves stand at the start of the output, m bytes of them; after a refusal there are none.
abbrev pub Keeps : Checked Kept → List ℕ → Option ℕ → List ℕ → Type 0
Keeps c left (Some m) left' = ((k : Kept) × (c ≡ accepted k)) × Printed (kept_goals c) left m left'
Keeps c left None left' = ((n : Refusal) × (c ≡ refused n)) × (left' ≡ left)

-- The listing and the goals left stand at the start of the two outputs.
pub record Both (c : Checked Kept) (out left : List ℕ) (n : ℕ) (m : Option ℕ) (out' left' : List ℕ) : Type 0 where
  pub listing : Printed (kept_listing c) out n out'
  pub goals : Keeps c left m left'

-- The bytes of the goals that an outcome leaves.
abbrev pub goals_bytes : Outcome → ℕ → List ℕ
goals_bytes o terms = kept_goals (accepted (record { outcome = o; terms = terms }))

-- The store begins with the goals that an outcome leaves open.
pub record LeftOpen (o : Outcome) (deck_words : List ℕ) (terms : ℕ) (store : List ℕ) : Type 0 where
  pub deck : Deck
  pub opens : open_deck deck_words ≡ accepted deck
  pub reads : read_open deck.symbols (length o.pending) (length o.parked) terms store ≡ some (record { pending = o.pending; parked = o.parked })

abbrev pub Counted : Outcome → ℕ → ℕ → List ℕ → ℕ → List ℕ → Type 0
Counted o pending parked deck_words terms store = (length o.pending ≡ pending) × (length o.parked ≡ parked) × LeftOpen o deck_words terms store

-- A run that came to c was not refused, and left these answers and this store.
pub record Finished (c : Checked Kept) (deck_words : List ℕ) (terms : ℕ) (answers store : List ℕ) (r : Report) : Type 0 where
  pub outcome : Outcome
  pub comes : c ≡ accepted (record { outcome = outcome; terms = terms })
  pub shown : Shown outcome r answers (symbol_words deck_words)
  pub left : LeftOpen outcome deck_words terms store

-- The promises of the functions that print such a run, whatever it came to.
module _ (deck_words : List ℕ) (terms : ℕ) (answers store : List ℕ) (r : Report) where
  -- There is such a run: for a `requires`, which cannot quantify over what the rules have.
  abbrev pub SomeFinished : Type 0
  SomeFinished = (c : Checked Kept) × Finished c deck_words terms answers store r

  abbrev pub FinishedPrinted : List ℕ → List ℕ → ℕ → Option ℕ → List ℕ → List ℕ → Type 0
  FinishedPrinted out left n m out' left' = (c : Checked Kept) → Finished c deck_words terms answers store r → Both c out left n m out' left'

  abbrev pub FinishedKept : List ℕ → Option ℕ → List ℕ → Type 0
  FinishedKept left m left' = (c : Checked Kept) → Finished c deck_words terms answers store r → Keeps c left m left'
