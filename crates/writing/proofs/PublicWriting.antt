-- What the contract of `write_text` says: the text can be read as the deck's words again, so that two decks have two texts.
use Prim.Native.Nat.{ℕ, ◌+◌, ◌≤◌, ◌<◌}
use mathlib.Core.Path.{◌≡◌, refl, ap, sym, ◌∙◌, subst}
use mathlib.Core.Bool.{Bool, true, false, ◌&&◌}
use mathlib.Core.List.{List, ◌++◌}
use native.Mathlib.Omega.{arith}
use lib.ListN.{length, take, drop}
use lib.Seq.{take_at, drop_at}
use lib.Dec.{leb}
use borrow.Author.Tests.{lt-leb}
use contract.Lifetimes.{Lfts}
use denote.Triple.Clauses.{AtExit}
use borrow.Fn.World.{ArgsD}
use Rattle.rules.specs.Syntax.{Deck}
use Rattle.rules.specs.Refusals.{Refusal, no_room, Checked, refused, accepted, and_then, require}
use Rattle.rules.specs.Decks.{open_deck}
use Rattle.rules.specs.WellFormed.{All}
use Rattle.text_rules.specs.TextWriter.{deck_text}
use Rattle.text_rules.specs.Text.{absent, read_text, write_text}
use Rattle.rules.proofs.DeckLaws.{opened-written}
use Rattle.text_rules.proofs.TextRead.{text-again, deck-small, text-readable, text-words}
use Rattle.deck.specs.Answers.{refusal_for}
use Rattle.deck.specs.declared.Refusal.{Refusal as Why}
use Rattle.std.specs.Prelude.{Ok, Err}
use Rattle.writing.specs.Writes.{bytes_of, text_after, Wrote}
use Rattle.writing.specs.contracts.write_text.{signature, ended}
use Rattle.writing.proofs.write_text.Reads.{Post}

refused-accepted : {A : Type 0} {n : Refusal} {a : A} → refused n ≡ accepted a → ⊥
refused-accepted e = absurd (let z : ◌≡◌ {A = ℕ} 0 1 = cc in omega arith)

accepted-same : {A : Type 0} {a b : A} → accepted a ≡ accepted b → a ≡ b
accepted-same e = cc

-- Where writing gives a number of bytes, the words are a deck's, and its text is in front of the bytes as they were.
pub record Text (words before : List ℕ) (n : ℕ) (after : List ℕ) : Type 0 where
  pub deck : Deck
  pub opens : open_deck words ≡ accepted deck
  pub bytes : length (deck_text deck) ≡ n
  pub whole : after ≡ deck_text deck ++ drop n before

pub text-written : (words before : List ℕ) (n : ℕ) (after : List ℕ) → Wrote words before (accepted n) after → Text words before n after
unfolding write_text and_then require bytes_of text_after
text-written words before n after w = opened (open_deck words) refl
  where
    fitting : (d : Deck) → open_deck words ≡ accepted d → (b : Bool) → leb (length (deck_text d)) (length before) ≡ b → Text words before n after
    fitting d e false t = absurd (refused-accepted (sym (rw (e, t) at w.returns)))
    fitting d e true t =
        let many : n ≡ length (deck_text d) = accepted-same (rw (e, t) at w.returns) in
        record { deck = d; opens = e; bytes = sym many; whole = rw many (rw (e, t) at w.leaves) }

    opened : (o : Checked Deck) → open_deck words ≡ o → Text words before n after
    opened (refused r) e = absurd (refused-accepted (sym (rw e at w.returns)))
    opened (accepted d) e = fitting d e (leb (length (deck_text d)) (length before)) refl

-- A refusal leaves the list untouched.
pub refused-untouched : (words before : List ℕ) (n : Refusal) (after : List ℕ) → Wrote words before (refused n) after → after ≡ before
unfolding bytes_of text_after
refused-untouched words before n after w = go (write_text words (length before)) w.returns w.leaves
  where
    go : (x : Checked (List ℕ)) → refused n ≡ bytes_of x → after ≡ text_after x before → after ≡ before
    go (refused m) e f = f
    go (accepted text) e f = absurd (refused-accepted e)

module _ (words before : List ℕ) (n : ℕ) (after : List ℕ) (w : Wrote words before (accepted n) after) where
  pub front : take n after ≡ deck_text (text-written words before n after w).deck
  front =
      let t = text-written words before n after w in
      ap (take n) t.whole ∙ take_at (deck_text t.deck) (drop n before) n t.bytes

  -- Past the text the bytes are as they were.
  pub behind : drop n after ≡ drop n before
  behind =
      let t = text-written words before n after w in
      ap (drop n) t.whole ∙ drop_at (deck_text t.deck) (drop n before) n t.bytes

  -- READING WHAT WAS WRITTEN gives the deck's words again, in any list with room for them; in a shorter one it is refused with 11.
  pub read_again : All (λ w. w < 65536) words → (room : ℕ) → length words ≤ room → read_text (take n after) room ≡ accepted words
  read_again a room h =
      let t = text-written words before n after w in
      ap (λ (x : List ℕ). read_text x room) front ∙ (text-again words t.deck t.opens a (length (deck_text t.deck)) room (omega arith) h).1

  pub read_short : All (λ w. w < 65536) words → (room : ℕ) → room < length words → read_text (take n after) room ≡ refused no_room
  unfolding read_text and_then require absent
  read_short a room h =
      let t = text-written words before n after w in
      let d = t.deck in
      let o = opened-written words d t.opens in
      let few : (leb (length words) room && leb (length words) 16384) ≡ false = ap (◌&& leb (length words) 16384) (lt-leb (length words) room h) in
      ap (λ (x : List ℕ). read_text x room) front ∙ (let small = deck-small d o.1 (subst (All (λ w. w < 65536)) o.0 a) in rw (text-readable d o.1 small, text-words d o.1 small, ← o.0, few) refl)

-- TWO DECKS HAVE TWO TEXTS: where the bytes are the same, so are the words.
pub same-text-same-deck :
    (words before : List ℕ) (n : ℕ) (after : List ℕ) → Wrote words before (accepted n) after → All (λ w. w < 65536) words
    → (words' before' : List ℕ) (n' : ℕ) (after' : List ℕ) → Wrote words' before' (accepted n') after' → All (λ w. w < 65536) words' → take n after ≡ take n' after' → words ≡ words'
same-text-same-deck words before n after w a words' before' n' after' w' a' e =
    let room = length words + length words' in
    accepted-same (sym (read_again words before n after w a room (omega arith)) ∙ ap (λ (x : List ℕ). read_text x room) e ∙ read_again words' before' n' after' w' a' room (omega arith))

-- Openable decks, without the call.
pub decks-apart : (words words' : List ℕ) (d d' : Deck) → open_deck words ≡ accepted d → open_deck words' ≡ accepted d' → All (λ w. w < 65536) words → All (λ w. w < 65536) words' → deck_text d ≡ deck_text d' → words ≡ words'
decks-apart words words' d d' o o' s s' e =
    let room = length words + length words' in
    let a = (text-again words d o s (length (deck_text d)) room (omega arith) (omega arith)).1 in
    let b = (text-again words' d' o' s' (length (deck_text d')) room (omega arith) (omega arith)).1 in
    accepted-same (sym a ∙ ap (λ (x : List ℕ). read_text x room) e ∙ b)

-- The same of the generated reading of the contract (`Post`).
module _ (κs : Lfts 2) (entry : ArgsD signature κs) (exit : AtExit ended κs) where
  pub public-refused-untouched : (why : Why) → Post κs entry (Err why) exit → exit.1.0.now ≡ entry.1.0.now
  public-refused-untouched why post = refused-untouched entry.0.now entry.1.0.now (refusal_for why) exit.1.0.now post

  pub public-read-again : (n : ℕ) → Post κs entry (Ok n) exit → All (λ w. w < 65536) entry.0.now → (room : ℕ) → length entry.0.now ≤ room → read_text (take n exit.1.0.now) room ≡ accepted entry.0.now
  public-read-again n post = read_again entry.0.now entry.1.0.now n exit.1.0.now post

  pub public-untouched : (n : ℕ) → Post κs entry (Ok n) exit → drop n exit.1.0.now ≡ drop n entry.1.0.now
  public-untouched n post = behind entry.0.now entry.1.0.now n exit.1.0.now post
