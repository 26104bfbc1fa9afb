-- What a press on the program's buffers comes to and leaves.
use Prim.Native.Nat.{ℕ}
use mathlib.Core.Path.{◌≡◌, refl, ap, sym, ◌∙◌, subst}
use mathlib.Core.Option.{Option, some}
use mathlib.Core.List.{List}
use native.Mathlib.Omega.{arith}
use lib.ListN.{length, drop}
use Rattle.rules.specs.Syntax.{Deck}
use Rattle.rules.specs.Refusals.{Refusal, Checked, refused, accepted}
use Rattle.rules.specs.Decks.{open_deck}
use Rattle.rules.specs.Stored.{OpenGoals, read_open}
use Rattle.rules.specs.Rights.{check_rights}
use Rattle.rules.specs.Run.{carry, Slices}
use Rattle.rules.specs.Press.{Advance, Pressed, press, press_once, press_from, counted, counts, Display, displayed, display_after, advanced, press_with, PressedWith}
use Rattle.rules.specs.Program.{words_from}
use Rattle.rules.specs.CarryProgram.{number_from, deck_input, bars_from, store_from}
use Rattle.rules.proofs.Demand3.{passed}
use Rattle.rules.proofs.Carried.{carry-parts}
use Rattle.rules.proofs.PressWords.{press-does}
use Rattle.program.proofs.PartLaws.{Buffers, and_then-refused, and_then-accepted}
use Rattle.press_program.specs.PressProgram.{Shown, display_input, display_from, press_bytes, press_run}
use Rattle.press_program.specs.Showing.{Showing}

-- THE CALL with a display
module _ (deck_words : List ℕ) (terms : ℕ) (bars : List ℕ) (budget : ℕ) (entry : Slices) (d : Display) where
  -- An accepted press is one on the open goals that were read, over the deck that was opened.
  record Came (p : Pressed) : Type 0 where
    deck : Deck
    goals : OpenGoals
    opens : open_deck deck_words ≡ accepted deck
    carries : read_open deck.symbols d.pending d.parked terms entry.store ≡ some goals
    presses : press deck (length entry.answers) (length entry.store) goals.pending goals.parked budget ≡ p

  came : (p : Pressed) → press_with deck_words terms bars budget d entry ≡ accepted p → Came p
  unfolding press_with press_from press_once
  came p e =
      let c = passed (carry deck_words d.pending d.parked terms entry.store (length entry.scratch)) _ e in
      let parts = carry-parts deck_words d.pending d.parked terms entry.store (length entry.scratch) c.0 c.1 in
      let r = passed (check_rights c.0.deck bars _) _ c.2 in
      record { deck = c.0.deck; goals = c.0.goals; opens = parts.0; carries = parts.1; presses = cc }

  module _ (exit : Slices) (d' : Display) where
    with-refused : (n : Refusal) → PressedWith deck_words terms bars budget entry d (refused n) exit d' → press_with deck_words terms bars budget d entry ≡ refused n
    unfolding advanced counts
    with-refused n ran = go (press_with deck_words terms bars budget d entry) ran.returns
      where
        go : (c : Checked Pressed) → refused n ≡ advanced (counts c) → c ≡ refused n
        go (refused m) e = let q : m ≡ n = cc in ap refused q
        go (accepted p) e = absurd (let z : ◌≡◌ {A = ℕ} 0 1 = cc in omega arith)

    -- What it returned and left, with the press that it was.
    with-done : (a : Advance) → PressedWith deck_words terms bars budget entry d (accepted a) exit d' → (c : Checked Shown)
        → ((p : Pressed) → press_with deck_words terms bars budget d entry ≡ accepted p → c ≡ accepted (record { pressed = p; display = displayed d (counted p); terms = terms }))
        → Showing deck_words terms exit.store a d' c
    unfolding advanced counts counted displayed display_after
    with-done a ran c is = go (press_with deck_words terms bars budget d entry) refl ran.returns ran.display
      where
        go : (x : Checked Pressed) → press_with deck_words terms bars budget d entry ≡ x → accepted a ≡ advanced (counts x) → d' ≡ display_after d (counts x) → Showing deck_words terms exit.store a d' c
        go (refused m) e back shown = absurd (let z : ◌≡◌ {A = ℕ} 0 1 = cc in omega arith)
        go (accepted p) e back shown =
            let k = came p e in
            let does = press-does deck_words terms bars budget entry exit d d' a ran k.deck k.opens k.goals k.carries in
            let pending : length p.pending ≡ d'.pending = ap (λ (x : Display). x.pending) (sym shown) in
            let parked : length p.parked ≡ d'.parked = ap (λ (x : Display). x.parked) (sym shown) in
            record {
              pressed = p;
              comes = is p e ∙ ap (λ (x : Display). accepted (record { pressed = p; display = x; terms = terms })) (sym shown);
              advances = let q : p.advance ≡ a = cc in q;
              pending = pending;
              parked = parked;
              left = record {
                deck = k.deck;
                opens = k.opens;
                reads =
                    subst (λ (n : ℕ). read_open k.deck.symbols n (length p.parked) terms exit.store ≡ some (record { pending = p.pending; parked = p.parked })) (sym pending)
                    (subst (λ (n : ℕ). read_open k.deck.symbols d'.pending n terms exit.store ≡ some (record { pending = p.pending; parked = p.parked })) (sym parked)
                    (subst (λ (x : Pressed). read_open k.deck.symbols d'.pending d'.parked terms exit.store ≡ some (record { pending = x.pending; parked = x.parked })) k.presses does.opens));
              };
            }

-- ON THE PROGRAM'S BUFFERS, from the bytes of a display's file
pub press-deck : (deck_words bytes : List ℕ) (file : Option (List ℕ)) (budget : ℕ) (n : Refusal) → open_deck deck_words ≡ refused n → press_bytes deck_words bytes file budget ≡ refused n
unfolding press_bytes
press-deck deck_words bytes file budget n e = and_then-refused (open_deck deck_words) _ n e

module _ (deck_words bytes bars : List ℕ) (k : Deck) (opens : open_deck deck_words ≡ accepted k) (file : Option (List ℕ)) (list : bars ≡ bars_from (length k.symbols) file) (budget terms : ℕ)
    (d d' : Display) (from : d ≡ display_from bytes) (many : terms ≡ number_from 8 (drop 40 bytes))
    (entry exit : Slices) (b : Buffers entry) (s : entry.store ≡ store_from (words_from (drop 48 bytes))) where
  abbrev once : Checked Pressed
  once =
      press_once (carry deck_words (display_from bytes).pending (display_from bytes).parked (number_from 8 (drop 40 bytes)) (store_from (words_from (drop 48 bytes))) 8192)
      (bars_from (length k.symbols) file) budget 8192 16384

  same-press : once ≡ press_with deck_words terms bars budget d entry
  unfolding press_with press_from
  same-press = rw (from, many, list, b.answers, b.store, b.scratch, s)

  pub press-refused : (n : Refusal) → PressedWith deck_words terms bars budget entry d (refused n) exit d' → press_bytes deck_words bytes file budget ≡ refused n
  unfolding press_bytes
  press-refused n ran =
      and_then-accepted (open_deck deck_words) _ k opens ∙ and_then-refused once _ n (same-press ∙ with-refused deck_words terms bars budget entry d exit d' n ran)

  pub press-done : (a : Advance) → PressedWith deck_words terms bars budget entry d (accepted a) exit d' → Showing deck_words terms exit.store a d' (press_bytes deck_words bytes file budget)
  unfolding press_bytes
  press-done a ran = with-done deck_words terms bars budget entry d exit d' a ran (press_bytes deck_words bytes file budget) (λ p e.
      and_then-accepted (open_deck deck_words) _ k opens ∙ and_then-accepted once _ p (same-press ∙ e)
      ∙ ap (λ (x : Display). accepted (record { pressed = p; display = displayed x (counted p); terms = number_from 8 (drop 40 bytes) })) (sym from)
      ∙ ap (λ (n : ℕ). accepted (record { pressed = p; display = displayed d (counted p); terms = n })) (sym many))

-- THE PROGRAM, test by test
module _ (file bars : Option (List ℕ)) (budget : ℕ) where
  pub press_run-deck : (display : Option (List ℕ)) (n : Refusal) → deck_input file ≡ refused n → press_run file display bars budget ≡ refused n
  unfolding press_run
  press_run-deck display n e = and_then-refused (deck_input file) _ n e

  module _ (deck_words : List ℕ) (d : deck_input file ≡ accepted deck_words) where
    pub press_run-display : (display : Option (List ℕ)) (n : Refusal) → display_input display ≡ refused n → press_run file display bars budget ≡ refused n
    unfolding press_run
    press_run-display display n e = and_then-accepted (deck_input file) _ deck_words d ∙ and_then-refused (display_input display) _ n e

    pub press_run-bytes : (display : Option (List ℕ)) (bytes : List ℕ) → display_input display ≡ accepted bytes → press_run file display bars budget ≡ press_bytes deck_words bytes bars budget
    unfolding press_run
    press_run-bytes display bytes e = and_then-accepted (deck_input file) _ deck_words d ∙ and_then-accepted (display_input display) _ bytes e
