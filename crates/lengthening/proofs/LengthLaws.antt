-- The copy of a deck in the order in which it is written.
use Prim.Native.Nat.{ℕ, ◌+◌, ◌-◌, ◌≤◌}
use mathlib.Core.Path.{◌≡◌, refl, ap, sym, ◌∙◌}
use mathlib.Core.Bool.{Bool, true, false, true≢false}
use mathlib.Core.Option.{Option, none, some}
use mathlib.Core.List.{List, [], ◌∷◌, ◌++◌, append_assoc}
use native.Mathlib.Omega.{arith}
use lib.ListN.{length, take, drop, set, length-drop}
use lib.Seq.{take_all, take-add, drop-drop}
use Rattle.rules.specs.Syntax.{Clause, Deck}
use Rattle.rules.specs.Refusals.{Checked, refused, accepted, and_then, checked_number}
use Rattle.rules.specs.Decks.{header_words, header, header_fits, symbol_room, symbol_part, symbol_words, clause_words, term_cells, read_clause, open_deck}
use Rattle.rules.specs.Preview.{lengthened, open_copy, add_clause}
use Rattle.rules.proofs.DeckLaws.{fit-facts, steps-open}
use Rattle.rules.proofs.CopyLaws.{copy-checked, copy-accepted}
use Rattle.deck.specs.Answers.{found}
use Rattle.deck.specs.Kinds.{symbols_of}
use Rattle.deck.proofs.RefusalLaws.{number-positive}
use Rattle.deck.proofs.OpenLaws.{accepted-symbols}

-- One word, written.
pub one_set : (xs : List ℕ) (w : ℕ) → length xs ≡ 1 → set xs 0 w ≡ w ∷ []
one_set [] w e = absurd (omega arith)
one_set (x ∷ []) w e = refl
one_set (x ∷ y ∷ xs) w e = absurd (omega arith)

-- The deck's words with another header, the clause's start put in front of the cells, and the clause's cells at the end.
pub copy_words :
    (ws cells : List ℕ) → header_fits ws ≡ true
    → lengthened ws cells
    ≡ header_words (header ws 0) (header ws 1) (header ws 3 + 1) (header ws 5 + length cells)
    ++ (take (header ws 6 - 8) (drop 8 ws) ++ (header ws 5 ∷ (drop (header ws 6) ws ++ cells)))
unfolding lengthened symbol_part clause_words term_cells
copy_words ws cells fits =
    let h = fit-facts ws fits in
    let room = symbol_room (header ws 0) (header ws 1) in
    let front = header_words (header ws 0) (header ws 1) (header ws 3 + 1) (header ws 5 + length cells) in
    let names = take room (drop 8 ws) in
    let starts = take (header ws 3) (drop (header ws 4) ws) in
    let after = drop (header ws 6) ws ++ cells in
    let k : 8 + room ≡ header ws 4 = omega arith in
    let n : room + header ws 3 ≡ header ws 6 - 8 = omega arith in
    let joined : names ++ starts ≡ take (header ws 6 - 8) (drop 8 ws) =
    ap (λ x. names ++ take (header ws 3) x) (sym (drop-drop room 8 ws ∙ ap (λ i. drop i ws) k))
    ∙ sym (take-add room (header ws 3) (drop 8 ws))
    ∙ ap (λ i. take i (drop 8 ws)) n in
    ap (front ++◌)
    (ap (names ++◌) (append_assoc starts (header ws 5 ∷ []) after) ∙ sym (append_assoc names starts (header ws 5 ∷ after)) ∙ ap (◌++ (header ws 5 ∷ after)) joined)

-- So put together from parts that hold these.
pub copy-put :
    (ws cells front before start after added : List ℕ) (first : ℕ) → header_fits ws ≡ true → first ≡ header ws 6
    → front ≡ header_words (header ws 0) (header ws 1) (header ws 3 + 1) (header ws 5 + length cells) → before ≡ take (first - 8) (drop 8 ws)
    → start ≡ header ws 5 ∷ [] → after ≡ take (length ws - first) (drop first ws) → added ≡ cells → front ++ (before ++ (start ++ (after ++ added))) ≡ lengthened ws cells
copy-put ws cells front before start after added first fits at a b s c d =
    let all : take (length ws - first) (drop first ws) ≡ drop first ws = take_all (length ws - first) (drop first ws) (omega (arith, length-drop first ws)) in
    rw (a, b, s, c, d, all, at) (sym (copy_words ws cells fits))

-- What the test of the clause comes to, over the symbols that were read.
no-clause-found : (o : Option Clause) → found o ≡ false → o ≡ none
unfolding found
no-clause-found none e = refl
no-clause-found (some c) e = absurd (true≢false e)

a-clause-found : (o : Option Clause) → found o ≡ true → (c : Clause) × (o ≡ some c)
unfolding found
a-clause-found none e = absurd (true≢false (sym e))
a-clause-found (some c) e = (c, refl)

module _ (ws symbols cells : List ℕ) (d : Deck) (r : Bool) (opens : open_deck ws ≡ accepted d) (words : symbols ≡ symbol_words ws)
    (test : r ≡ found (read_clause (symbols_of symbols) cells)) where
  over-symbols : found (read_clause d.symbols cells) ≡ r
  over-symbols = ap (λ S. found (read_clause S cells)) (accepted-symbols ws d opens ∙ ap symbols_of (sym words)) ∙ sym test

  pub not-read : r ≡ false → read_clause d.symbols cells ≡ none
  not-read e = no-clause-found (read_clause d.symbols cells) (over-symbols ∙ e)

  pub a-clause-read : r ≡ true → (c : Clause) × (read_clause d.symbols cells ≡ some c)
  a-clause-read e = a-clause-found (read_clause d.symbols cells) (over-symbols ∙ e)

-- A deck that is refused is refused with any clause; over one that opens the clause's number is the answer.
pub refused-copy : (ws cells : List ℕ) (n : ℕ) → checked_number (open_deck ws) ≡ n → (n ≡ 0 → ⊥) → checked_number (open_copy ws cells) ≡ n
unfolding open_copy and_then
refused-copy ws cells n e h = go (open_deck ws) refl e
  where
    go : (o : Checked Deck) → open_deck ws ≡ o → checked_number o ≡ n → checked_number (open_copy ws cells) ≡ n
    go (refused r) p q = rw p q
    go (accepted d) p q = absurd (h (sym q))

pub added-number : (ws cells : List ℕ) (d : Deck) → open_deck ws ≡ accepted d → checked_number (open_copy ws cells) ≡ checked_number (add_clause (length ws) d cells)
unfolding and_then
added-number ws cells d e = ap checked_number (copy-checked ws cells ∙ ap (λ o. and_then o (λ d. add_clause (length ws) d cells)) e)

-- What the number 0 says: the deck's header fits, the copy has room, and it opens.
pub record Copied (ws cells : List ℕ) : Type 0 where
  pub header : header_fits ws ≡ true
  pub room : length ws + 1 + length cells ≤ 16384
  pub opens : checked_number (open_deck (lengthened ws cells)) ≡ 0

pub copied : (ws cells : List ℕ) → checked_number (open_copy ws cells) ≡ 0 → Copied ws cells
unfolding open_copy and_then
copied ws cells e = go (open_deck ws) (open_deck (lengthened ws cells)) refl refl e
  where
    go : (o p : Checked Deck) → open_deck ws ≡ o → open_deck (lengthened ws cells) ≡ p → checked_number (open_copy ws cells) ≡ 0 → Copied ws cells
    go (refused r) p q k z = absurd (omega (arith, number-positive r, rw q at z))
    go (accepted d) (refused r) q k z = absurd (omega (arith, number-positive r, rw (q, k) at z))
    go (accepted d) (accepted d') q k z =
        let a = (copy-accepted ws d cells q).1 d' k in
        record { header = (steps-open ws d q).fits; room = a.1.fits; opens = rw k refl }
