-- What reading comes to, test by test.
use Prim.Native.Nat.{ℕ, ◌≤◌, ◌<◌}
use mathlib.Core.Path.{◌≡◌, refl, ap, sym, ◌∙◌}
use mathlib.Core.Bool.{Bool, true, false, ◌&&◌, and-eq-true_iff}
use mathlib.Core.Option.{Option, none, some}
use mathlib.Core.List.{List, ◌++◌}
use native.Mathlib.Omega.{arith}
use lib.ListN.{length, take, drop, length-append, length-drop}
use lib.Seq.{take-append_seam}
use lib.Dec.{leb}
use borrow.Author.Tests.{leb-true}
use Rattle.rules.specs.Syntax.{Deck}
use Rattle.rules.specs.Refusals.{Refusal, bad_text, no_room, refusal_number, Checked, refused, accepted, and_then, require, checked_number}
use Rattle.rules.specs.Decks.{header_words, header, header_fits, symbol_words, clause_words, term_cells, read_symbol, read_format, read_clause, read_all, starts_fit, clause_rows, rows_short, open_deck}
use Rattle.text_rules.specs.TextWords.{declared_twice, misused, deck_from}
use Rattle.text_rules.specs.Text.{text_declarations, text_entries, text_unread, text_words, or_else, bad_left, place_of, bad_place, absent, read_text}
use Rattle.deck.specs.declared.Refusal.{Refusal as Why}
use Rattle.deck.specs.declared.Refusal.TheVariants.{Room}
use Rattle.deck.specs.Answers.{number_of, refusal_for}
use Rattle.deck.specs.Answers.{found}
use Rattle.deck.specs.Kinds.{symbols_of}
use Rattle.deck.proofs.OpenLaws.{unless, fails, clauses_number, short_number, starts_number, symbols_number, open-number}
use Rattle.deck.proofs.RefusalLaws.{number-accepts, number-refuses}
use Rattle.rules.proofs.DeckLaws.{fit-facts}
use Rattle.naming.specs.declared.table.DeclaredNames.{DeclaredNames}
use Rattle.encoding.specs.declared.sizes.Sizes.{Sizes}
use Rattle.encoding.specs.Walk.{Sized}
use Rattle.encoding.specs.Encoding.{total}
use Rattle.encoding.proofs.EncodeLaws.{words-length}
use Rattle.std.specs.Prelude.{Ok, Err}
use Rattle.reading.specs.declared.ReadError.TheVariants.{Unreadable, Refused}
use Rattle.reading.specs.Reads.{count_of, DidRead}

-- Refusal 10 and its place.
place_none : (text : List ℕ) (o : Option ℕ) → place_of text o ≡ none → o ≡ none
unfolding place_of
place_none text none e = refl
place_none text (some n) e = let z : ◌≡◌ {A = ℕ} 0 1 = cc in absurd (omega arith)

place-some : (text : List ℕ) (o other : Option ℕ) (p : ℕ) → place_of text o ≡ some p → place_of text (or_else o other) ≡ some p
unfolding place_of or_else
place-some text none other p e = let z : ◌≡◌ {A = ℕ} 0 1 = cc in absurd (omega arith)
place-some text (some n) other p e = e

module _ (text : List ℕ) where
  abbrev pub grammar : Option ℕ
  grammar = text_unread text

  abbrev pub twice : Option ℕ
  twice = declared_twice (text_declarations text) 0 (text_declarations text)

  abbrev pub uses : Option ℕ
  uses = misused (text_declarations text) (text_entries text)

  pub grammar-none : place_of text grammar ≡ none → grammar ≡ none
  grammar-none e = place_none text grammar e

  pub twice-none : place_of text twice ≡ none → twice ≡ none
  twice-none e = place_none text twice e

  pub uses-none : place_of text uses ≡ none → uses ≡ none
  uses-none e = place_none text uses e

  pub bad-grammar : (p : ℕ) → place_of text grammar ≡ some p → bad_place text ≡ some p
  unfolding bad_place bad_left
  bad-grammar p e = place-some text grammar (or_else twice uses) p e

  module _ (g : grammar ≡ none) where
    pub bad-twice : (p : ℕ) → place_of text twice ≡ some p → bad_place text ≡ some p
    unfolding bad_place bad_left or_else
    bad-twice p e = ap (λ o. place_of text (or_else o (or_else twice uses))) g ∙ place-some text twice uses p e

    pub bad-use : twice ≡ none → (p : ℕ) → place_of text uses ≡ some p → bad_place text ≡ some p
    unfolding bad_place bad_left or_else
    bad-use t p e = ap (λ o. place_of text (or_else o (or_else twice uses))) g ∙ ap (λ o. place_of text (or_else o uses)) t ∙ e

    pub readable : twice ≡ none → uses ≡ none → bad_place text ≡ none
    unfolding bad_place bad_left or_else place_of
    readable t u = ap (λ o. place_of text (or_else o (or_else twice uses))) g ∙ ap (λ o. place_of text (or_else o uses)) t ∙ ap (place_of text) u

-- The names in a table are declared once each.
pub once : (d : DeclaredNames) → twice d.all.text.text.now ≡ none
once d = rw (sym d.same) d.declared.distinct

-- The rules' answer.
abbrev pub fitting : List ℕ → ℕ → Bool
fitting text room = leb (length (text_words text)) room && leb (length (text_words text)) 16384

module _ (text : List ℕ) (room : ℕ) where
  read-bad : (p : ℕ) → bad_place text ≡ some p → read_text text room ≡ refused bad_text
  unfolding read_text and_then require absent
  read-bad p e = rw e refl

  read-full : bad_place text ≡ none → fitting text room ≡ false → read_text text room ≡ refused no_room
  unfolding read_text and_then require absent
  read-full e f = rw (e, f) refl

  read-refused : bad_place text ≡ none → fitting text room ≡ true → (n : Refusal) → open_deck (text_words text) ≡ refused n → read_text text room ≡ refused n
  unfolding read_text and_then require absent
  read-refused e f n o = rw (e, f, o) refl

  read-accepted : bad_place text ≡ none → fitting text room ≡ true → (d : Deck) → open_deck (text_words text) ≡ accepted d → read_text text room ≡ accepted (text_words text)
  unfolding read_text and_then require absent
  read-accepted e f d o = rw (e, f, o) refl

-- Opening refuses with 1 to 5.
unless-most : (b : Bool) (n others k : ℕ) → n ≤ k → others ≤ k → unless b n others ≤ k
unless-most true n others k h l = l
unless-most false n others k h l = h

open-most : (ws : List ℕ) → checked_number (open_deck ws) ≤ 5
open-most ws =
    let rows = clause_rows (term_cells ws) (clause_words ws) in
    rw (open-number ws)
    (unless-most (header_fits ws) 1 (symbols_number ws) 5 (omega arith)
    (unless-most (found (read_all read_symbol (symbol_words ws))) 2 (unless (found (read_format ws)) 2 (starts_number ws)) 5 (omega arith)
    (unless-most (found (read_format ws)) 2 (starts_number ws) 5 (omega arith)
    (unless-most (starts_fit (length (term_cells ws)) (clause_words ws)) 3 (short_number ws) 5 (omega arith)
    (unless-most (rows_short rows) 4 (clauses_number ws) 5 (omega arith)
    (unless-most (found (read_all (read_clause (symbols_of (symbol_words ws))) rows)) 5 0 5 (omega arith) (omega arith)))))))

-- The call's answer.
not-accepted : {A : Type 0} {n : Refusal} {a : A} → refused n ≡ accepted a → ⊥
not-accepted e = let z : ◌≡◌ {A = ℕ} 0 1 = cc in omega arith

refused-same : {A : Type 0} {m n : Refusal} → ◌≡◌ {A = Checked A} (refused m) (refused n) → m ≡ n
refused-same e = cc

accepted-same : {A : Type 0} {a b : A} → accepted a ≡ accepted b → a ≡ b
accepted-same e = cc

module _ (text before : List ℕ) where
  pub did-bad : (p : ℕ) → bad_place text ≡ some p → DidRead text before (Err (Unreadable p)) before
  unfolding count_of
  did-bad p e =
      let r = read-bad text (length before) p e in
      record {
        returns = sym (ap count_of r);
        place = sym e;
        size = refl;
        written = λ ws q. absurd (not-accepted (sym r ∙ q));
        untouched = λ n q l. refl;
      }

  module _ (e : bad_place text ≡ none) where
    pub did-full : fitting text (length before) ≡ false → DidRead text before (Err (Refused Room)) before
    unfolding count_of
    did-full f =
        let r = read-full text (length before) e f in
        record {
          returns = sym (ap count_of r);
          place = sym e;
          size = refl;
          written = λ ws q. absurd (not-accepted (sym r ∙ q));
          untouched = λ n q l. refl;
        }

    module _ (f : fitting text (length before) ≡ true) (after : List ℕ) where
      pub did-refuse :
          (why : Why) → number_of (Err why) ≡ checked_number (open_deck (text_words text)) → length after ≡ length before
          → DidRead text before (Err (Refused why)) after
      unfolding count_of
      did-refuse why o l =
          let r = read-refused text (length before) e f (refusal_for why) (number-refuses why (open_deck (text_words text)) o) in
          record {
            returns = sym (ap count_of r);
            place = sym e;
            size = l;
            written = λ ws q. absurd (not-accepted (sym r ∙ q));
            untouched = λ n q m. let s : n ≡ refusal_for why = refused-same (sym q ∙ r) in absurd (omega (arith, ap refusal_number s, o, open-most (text_words text)));
          }

      pub did_read : 0 ≡ checked_number (open_deck (text_words text)) → after ≡ text_words text ++ drop (length (text_words text)) before → DidRead text before (Ok (length (text_words text))) after
      unfolding count_of
      did_read o w =
          let d = number-accepts (open_deck (text_words text)) o in
          let r = read-accepted text (length before) e f d.0 d.1 in
          let fits : length (text_words text) ≤ length before = leb-true (length (text_words text)) (length before) ((and-eq-true_iff (leb (length (text_words text)) (length before)) (leb (length (text_words text)) 16384)).0 f).0 in
          record {
            returns = sym (ap count_of r);
            place = sym e;
            size = ap length w ∙ simp (length-append, length-drop) (omega arith);
            written = λ ws q. w ∙ ap (λ ws. ws ++ drop (length ws) before) (accepted-same (sym r ∙ q));
            untouched = λ n q m. absurd (not-accepted (sym q ∙ r));
          }

-- Over 4,096 symbols are refusal 1.
symbol-count : (text : List ℕ) → header (text_words text) 1 ≡ length (text_declarations text)
unfolding text_words deck_from header_words
symbol-count text = refl

pub many-symbols : (text : List ℕ) → 4096 < length (text_declarations text) → 1 ≡ checked_number (open_deck (text_words text))
many-symbols text l = sym (open-number (text_words text) ∙ fails (header_fits (text_words text)) 1 (symbols_number (text_words text)) (go (header_fits (text_words text)) refl))
  where
    go : (b : Bool) → header_fits (text_words text) ≡ b → header_fits (text_words text) ≡ false
    go true e = absurd (omega (arith, symbol-count text, (fit-facts (text_words text) e).few_symbols))
    go false e = e

-- The sizes that the code counts.
module _ (text : List ℕ) (s : Sizes) (z : Sized (text_entries text) s) where
  pub size-total : total text s ≡ length (text_words text)
  size-total = omega (arith, words-length text, z.clauses, z.cells)

  pub fits-fitting : (room : ℕ) (b : Bool) → b ≡ (leb (total text s) room && leb (total text s) 16384) → fitting text room ≡ b
  fits-fitting room b e = sym (e ∙ ap (λ k. leb k room && leb k 16384) size-total)

  -- They fit.
  module _ (room : ℕ) (f : fitting text room ≡ true) where
    within : (leb (length (text_words text)) room ≡ true) × (leb (length (text_words text)) 16384 ≡ true)
    within = (and-eq-true_iff (leb (length (text_words text)) room) (leb (length (text_words text)) 16384)).0 f

    pub total-room : total text s ≤ room
    total-room = omega (arith, size-total, leb-true (length (text_words text)) room within.0)

    pub total-most : total text s ≤ 16384
    total-most = omega (arith, size-total, leb-true (length (text_words text)) 16384 within.1)

-- The words in front of a list.
pub front-words : (ws rest after : List ℕ) (k : ℕ) → after ≡ ws ++ rest → k ≡ length ws → take k after ≡ ws
front-words ws rest after k e f = rw (f, e) (take-append_seam ws rest)
