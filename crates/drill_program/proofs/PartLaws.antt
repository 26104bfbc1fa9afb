-- What the program's run comes to, test by test.
use Rattle.std.proofs.Common.{◌≡◌, ℕ, ◌-◌, ◌≤◌, List, [], ◌∷◌, length, take, drop, get_or, refl, sym, ap, ap₂, ◌∙◌, arith}
use Rattle.std.proofs.Math.Option.{Option}
use lib.Seq.{take-length}
use mathlib.Core.Bool.{true, false, ◌&&◌}
use lib.Dec.{leb}
use Rattle.rules.specs.Syntax.{Deck}
use Rattle.rules.specs.Refusals.{Refusal, bad_drill, Checked, refused, accepted, and_then, require}
use Rattle.rules.specs.Decks.{open_deck}
use Rattle.rules.specs.Program.{words_from, even, deck_file}
use Rattle.rules.specs.Drill.{drill}
use Rattle.rules.specs.DrillProgram.{drill_input, drill_run}
use Rattle.drill.proofs.PublicDrill.{drill-unopened}
use Rattle.drill_program.specs.Runs.{words_run}

-- The deck file, the deck's words, and the input.
module _ (file : Option (List ℕ)) (input : List ℕ) where
  pub drill_run-unread : (n : Refusal) → deck_file file ≡ refused n → drill_run file input ≡ refused n
  unfolding drill_run and_then
  drill_run-unread n e = rw e

  module _ (deck_words : List ℕ) (read : deck_file file ≡ accepted deck_words) where
    pub drill_run-unopened : (n : Refusal) → open_deck deck_words ≡ refused n → drill_run file input ≡ refused n
    unfolding drill_run and_then
    drill_run-unopened n e = rw (read, e)

    module _ (deck : Deck) (opens : open_deck deck_words ≡ accepted deck) where
      pub drill_run-unasked : (n : Refusal) → drill_input input ≡ refused n → drill_run file input ≡ refused n
      unfolding drill_run and_then
      drill_run-unasked n e = rw (read, opens, e)

      pub drill_run-words : (asked : List ℕ) → drill_input input ≡ accepted asked → drill_run file input ≡ words_run deck_words (get_or asked 0 0) (drop 1 asked)
      unfolding drill_run words_run and_then
      drill_run-words asked e = rw (read, opens, e)

-- The input's bytes.
module _ (input : List ℕ) where
  pub drill_input-refused : (even input && (leb 2 (length input) && leb (length input) 18)) ≡ false → drill_input input ≡ refused bad_drill
  unfolding drill_input and_then require
  drill_input-refused e = rw e refl

  pub drill_input-words : (even input && (leb 2 (length input) && leb (length input) 18)) ≡ true → drill_input input ≡ accepted (words_from input)
  unfolding drill_input and_then require
  drill_input-words e = rw e refl

pub some_word : (input : List ℕ) → 2 ≤ length input → 1 ≤ length (words_from input)
unfolding words_from
some_word [] h = absurd (omega arith)
some_word (low ∷ []) h = absurd (omega arith)
some_word (low ∷ high ∷ bytes) h = omega arith

-- N and the cells after it.
pub words_run-split : (ws input : List ℕ) (n : ℕ) → n ≡ get_or input 0 0 → 1 ≤ length input
    → words_run ws (get_or input 0 0) (drop 1 input) ≡ words_run ws n (take (length input - 1) (drop 1 input))
words_run-split ws [] n e h = absurd (omega arith)
words_run-split ws (w ∷ rest) n e h =
    let size : length (w ∷ rest) - 1 ≡ length rest = omega arith in
    ap₂ (words_run ws) (sym e) (sym (ap (λ k. take k rest) size ∙ take-length rest))

-- The call was refused.
pub words_run-refused : (ws : List ℕ) (n : ℕ) (given : List ℕ) (r : Refusal) → drill ws n given 4096 ≡ refused r → words_run ws n given ≡ refused r
unfolding words_run and_then
words_run-refused ws n given r e = go (open_deck ws) refl
  where
    go : (o : Checked Deck) → open_deck ws ≡ o → words_run ws n given ≡ refused r
    go (accepted d) q = rw (q, e)
    go (refused k) q =
        let s : refused k ≡ refused r = sym (drill-unopened ws n given 4096 k q) ∙ e in
        let z : k ≡ r = cc in
        rw q (ap refused z)
