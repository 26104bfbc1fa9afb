-- What reading a text as a deck's words promises (document 02, U1).
use Rattle.std.specs.Prelude.{ℕ, ◌≤◌, ◌≡◌, List, ◌++◌, length, drop, Result, Ok, Err}
use Rattle.std.proofs.Math.Option.{Option, none, some}
use Rattle.rules.specs.Refusals.{Refusal, bad_text, refusal_number, Checked, refused, accepted}
use Rattle.text_rules.specs.Text.{bad_place, read_text}
use Rattle.deck.specs.Answers.{refusal_for}
use Rattle.reading.specs.declared.ReadError.{ReadError}
use Rattle.reading.specs.declared.ReadError.TheVariants.{Unreadable, Refused}

-- What the call returns, in the rules' words; and the number of words that the rules say.
abbrev pub result_of : Result ℕ ReadError → Checked ℕ
result_of (Ok n) = accepted n
result_of (Err (Unreadable place)) = refused bad_text
result_of (Err (Refused why)) = refused (refusal_for why)

unfoldable pub count_of : Checked (List ℕ) → Checked ℕ
count_of (refused n) = refused n
count_of (accepted words) = accepted (length words)

-- The place of refusal 10.
abbrev pub place_in : Result ℕ ReadError → Option ℕ
place_in (Ok n) = none
place_in (Err (Unreadable place)) = some place
place_in (Err (Refused why)) = none

-- THE CONTRACT of the public call: what it returns is what the rules say, for every text and every length of the lent list. Afterwards the list
-- begins with the words, and the rest is as it was; it is untouched on 10 and 11, and after 1 to 5 it is free.
pub record DidRead (text before : List ℕ) (r : Result ℕ ReadError) (after : List ℕ) : Type 0 where
  pub returns : result_of r ≡ count_of (read_text text (length before))
  pub place : place_in r ≡ bad_place text
  pub size : length after ≡ length before
  pub written : (words : List ℕ) → read_text text (length before) ≡ accepted words → after ≡ words ++ drop (length words) before
  pub untouched : (n : Refusal) → read_text text (length before) ≡ refused n → 10 ≤ refusal_number n → after ≡ before
