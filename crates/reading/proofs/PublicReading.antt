-- What the contract of `read_text` says: what is read opens, with what number a list is refused, and that reading what was written gives the words again.
use Prim.Native.Nat.{ℕ, ◌≤◌, ◌<◌}
use mathlib.Core.Path.{◌≡◌, refl, ap, sym, ◌∙◌, subst}
use mathlib.Core.Bool.{Bool, true, false}
use mathlib.Core.List.{List, ◌++◌}
use native.Mathlib.Omega.{arith}
use lib.ListN.{length, take, drop}
use lib.Seq.{take-append_seam, drop-append_seam}
use contract.Lifetimes.{Lfts}
use denote.Triple.Clauses.{AtExit}
use borrow.Fn.World.{ArgsD}
use Rattle.rules.specs.Syntax.{Deck}
use Rattle.rules.specs.Refusals.{bad_text, no_room, refusal_number, Checked, refused, accepted, and_then, require, checked_number}
use Rattle.rules.specs.WellFormed.{All}
use Rattle.rules.specs.Decks.{open_deck}
use Rattle.text_rules.specs.TextWriter.{deck_text}
use Rattle.text_rules.specs.Text.{text_words, bad_place, absent, read_text}
use Rattle.text_rules.proofs.TextRead.{text-again}
use Rattle.deck.specs.declared.Refusal.{Refusal as Why}
use Rattle.deck.specs.Answers.{number_of, refusal_for}
use Rattle.std.specs.Prelude.{Result, Ok, Err}
use Rattle.reading.specs.declared.ReadError.{ReadError}
use Rattle.reading.specs.declared.ReadError.TheVariants.{Unreadable, Refused}
use Rattle.reading.specs.Reads.{result_of, count_of, DidRead}
use Rattle.reading.proofs.ResultLaws.{fitting}
use Rattle.reading.specs.contracts.read_text.{signature, ended}
use Rattle.reading.proofs.read_text.Reads.{Post}

-- What the rules' reading says of opening the words that the text stands for.
abbrev Says : List ℕ → Checked (List ℕ) → Type 0
Says text (accepted words) = (words ≡ text_words text) × ((d : Deck) × (open_deck words ≡ accepted d))
Says text (refused n) = refusal_number n ≤ 5 → open_deck (text_words text) ≡ refused n

reading-says : (text : List ℕ) (room : ℕ) → Says text (read_text text room)
unfolding read_text and_then require
reading-says text room = go (absent (bad_place text)) (fitting text room) (open_deck (text_words text)) refl
  where
    go :
        (a b : Bool) (o : Checked Deck) → open_deck (text_words text) ≡ o
        → Says text (and_then (require bad_text a) (λ _. and_then (require no_room b) (λ _. and_then o (λ _. accepted (text_words text)))))
    go false b o e = λ l. absurd (omega arith)
    go true false o e = λ l. absurd (omega arith)
    go true true (refused n) e = λ l. e
    go true true (accepted d) e = (refl, (d, e))

module _ (text before : List ℕ) (r : Result ℕ ReadError) (after : List ℕ) (did : DidRead text before r after) where
  abbrev rule : Checked (List ℕ)
  rule = read_text text (length before)

  -- WHAT IS READ OPENS: the words at the start of the list are an openable deck, those that the text stands for; the words after them are as they were.
  counted : (n : ℕ) (o : Checked (List ℕ)) → rule ≡ o → accepted n ≡ count_of o → (words : List ℕ) × (rule ≡ accepted words) × (n ≡ length words)
  unfolding count_of
  counted n (refused m) e q = let z : ◌≡◌ {A = ℕ} 0 1 = cc in absurd (omega arith)
  counted n (accepted words) e q = (words, e, cc)

  module _ (n : ℕ) (e : r ≡ Ok n) where
    its : (words : List ℕ) × (rule ≡ accepted words) × (n ≡ length words)
    its = counted n rule refl (sym (ap result_of e) ∙ did.returns)

    front : take n after ≡ its.0
    front = ap (λ k. take k after) its.2 ∙ ap (take (length its.0)) (did.written its.0 its.1) ∙ take-append_seam its.0 (drop (length its.0) before)

    pub read-opens : (d : Deck) × (open_deck (take n after) ≡ accepted d)
    read-opens = let s = subst (Says text) its.1 (reading-says text (length before)) in (s.1.0, ap open_deck front ∙ s.1.1)

    pub read-words : take n after ≡ text_words text
    read-words = front ∙ (subst (Says text) its.1 (reading-says text (length before))).0

    pub read-untouched : drop n after ≡ drop n before
    read-untouched =
        ap (λ k. drop k after) its.2
        ∙ ap (drop (length its.0)) (did.written its.0 its.1)
        ∙ drop-append_seam its.0 (drop (length its.0) before)
        ∙ ap (λ k. drop k before) (sym its.2)

  -- A refusal with 1 to 5 is the one with which those words are refused by opening them.
  refusing : (why : Why) (o : Checked (List ℕ)) → refused (refusal_for why) ≡ count_of o → o ≡ refused (refusal_for why)
  unfolding count_of
  refusing why (refused m) q = cc
  refusing why (accepted words) q = let z : ◌≡◌ {A = ℕ} 0 1 = cc in absurd (omega arith)

  pub read-refusal : (why : Why) → r ≡ Err (Refused why) → number_of (Err why) ≤ 5 → checked_number (open_deck (text_words text)) ≡ number_of (Err why)
  read-refusal why e l =
      let o = refusing why rule (sym (ap result_of e) ∙ did.returns) in
      ap checked_number (subst (Says text) o (reading-says text (length before)) (omega arith))

  -- READING WHAT WAS WRITTEN: of a text that is an openable deck's, the words come back, in any list with room for them.
  is-words : (n : ℕ) (s : Result ℕ ReadError) → result_of s ≡ accepted n → s ≡ Ok n
  is-words n (Ok m) q = cc
  is-words n (Err (Unreadable p)) q = let z : ◌≡◌ {A = ℕ} 0 1 = cc in absurd (omega arith)
  is-words n (Err (Refused why)) q = let z : ◌≡◌ {A = ℕ} 0 1 = cc in absurd (omega arith)

  pub read_again :
      (words : List ℕ) (d : Deck) → open_deck words ≡ accepted d → All (λ w. w < 65536) words → text ≡ deck_text d → length words ≤ length before
      → (r ≡ Ok (length words)) × (after ≡ words ++ drop (length words) before)
  unfolding count_of
  read_again words d o a t l =
      let again : rule ≡ accepted words = ap (λ bs. read_text bs (length before)) t ∙ (text-again words d o a (length (deck_text d)) (length before) (omega arith) l).1 in
      (is-words (length words) r (did.returns ∙ ap count_of again), did.written words again)

-- The same of the generated reading of the contract (`Post`).
module _ (κs : Lfts 2) (entry : ArgsD signature κs) (exit : AtExit ended κs) where
  pub public-opens : (n : ℕ) → Post κs entry (Ok n) exit → (d : Deck) × (open_deck (take n exit.1.0.now) ≡ accepted d)
  public-opens n post = read-opens entry.0.now entry.1.0.now (Ok n) exit.1.0.now post n refl

  pub public-refusal :
      (why : Why) → Post κs entry (Err (Refused why)) exit → number_of (Err why) ≤ 5
      → checked_number (open_deck (text_words entry.0.now)) ≡ number_of (Err why)
  public-refusal why post = read-refusal entry.0.now entry.1.0.now (Err (Refused why)) exit.1.0.now post why refl

  pub public-again :
      (r : Result ℕ ReadError) → Post κs entry r exit → (words : List ℕ) (d : Deck) → open_deck words ≡ accepted d → All (λ w. w < 65536) words → entry.0.now ≡ deck_text d
      → length words ≤ length entry.1.0.now → (r ≡ Ok (length words)) × (exit.1.0.now ≡ words ++ drop (length words) entry.1.0.now)
  public-again r post = read_again entry.0.now entry.1.0.now r exit.1.0.now post
