-- The parts of the deck's words, one after the other.
use Prim.Native.Nat.{ℕ, zero, suc, ◌+◌, ◌*◌, ◌≤◌, ◌<◌}
use mathlib.Core.Bool.{Bool, true, false}
use lib.Dec.{eqb}
use mathlib.Core.Path.{◌≡◌, refl, ap, ap₂, sym, ◌∙◌}
use mathlib.Core.List.{List, [], ◌∷◌, ◌++◌, map, append_assoc}
use native.Mathlib.Omega.{arith}
use lib.ListN.{length, take, drop, set, get_or, length-append, length-map}
use lib.Seq.{sets, sets-eq, drop-drop, take_all}
use mathlib.Core.Option.{none-ne-some, some-injective}
use Rattle.std.specs.Prelude.{Option, Some, None}
use Rattle.std.specs.Option.{unwrap_or}
use Rattle.text.specs.Steps.{option_of}
use Rattle.rules.specs.Syntax.{functor, predicate, format1, format2}
use Rattle.rules.specs.Decks.{write_symbol, write_pairs, write_symbols, format_number, symbol_room, header_words}
use Rattle.rules.proofs.SymbolLaws.{symbols-length as written-length}
use Rattle.text_rules.specs.TextWords.{Declaration, arity, entry_cell, starts_from, format_from, deck_from}
use Rattle.text_rules.specs.Text.{numbers_in, text_declarations, text_entries, text_format, text_words}
use Rattle.text.specs.declared.names.Entry.{Entry}
use Rattle.naming.specs.declared.declarations.Symbol.{Symbol}
use Rattle.naming.specs.declared.declarations.Symbol.TheVariants.{Function, Predicate, Number}
use Rattle.naming.specs.Walks.{symbol_of, value_of}
use Rattle.naming.specs.Table.{no_symbol}
use Rattle.naming.specs.declared.table.DeclaredNames.{DeclaredNames}
use Rattle.naming.proofs.UseLaws.{symbols-taken, values-taken, small-taken}
use Rattle.encoding.specs.declared.sizes.Sizes.{Sizes}
use Rattle.encoding.specs.Encoding.{room_of, total, Encodable}
use Rattle.encoding.specs.Symbols.{first_word, second_word, pair_words}

drop-past : (xs : List ℕ) (k : ℕ) → length xs ≤ k → drop k xs ≡ []
drop-past [] zero h = refl
drop-past [] (suc k) h = refl
drop-past (x ∷ xs) zero h = absurd (omega (arith, h))
drop-past (x ∷ xs) (suc k) h = drop-past xs k (omega (arith, h))

append_nil : (xs : List ℕ) → xs ++ [] ≡ xs
append_nil [] = refl
append_nil (x ∷ xs) = ap (x ∷◌) (append_nil xs)

-- The words of the symbols, one after the other.
pub word-more : (xs : List (Entry Symbol)) (words : List ℕ) (j : ℕ) → j < length xs → length words ≡ length xs
    → set (take j (map (λ (e : Entry Symbol). write_symbol (symbol_of e.value)) xs) ++ drop j words) j (write_symbol (symbol_of (get_or xs j no_symbol).value))
    ≡ take (j + 1) (map (λ (e : Entry Symbol). write_symbol (symbol_of e.value)) xs) ++ drop (j + 1) words
word-more [] words j h l = absurd (omega (arith, h))
word-more (x ∷ xs) [] j h l = absurd (omega (arith, l))
word-more (x ∷ xs) (w ∷ words) zero h l = refl
word-more (x ∷ xs) (w ∷ words) (suc j) h l = let one : suc j + 1 ≡ suc (j + 1) = omega arith in rw one (ap (write_symbol (symbol_of x.value) ∷◌) (word-more xs words j (omega arith) (omega (arith, l))))

pub pair-more : (xs : List (Entry Symbol)) (words : List ℕ) (j : ℕ) → j < length xs → length words ≡ 2 * length xs
    → set (set (take (2 * j) (pair_words xs) ++ drop (2 * j) words) (2 * j) (first_word (get_or xs j no_symbol).value)) (2 * j + 1) (second_word (get_or xs j no_symbol).value)
    ≡ take (2 * (j + 1)) (pair_words xs) ++ drop (2 * (j + 1)) words
pair-more [] words j h l = absurd (omega (arith, h))
pair-more (x ∷ xs) [] j h l = absurd (omega (arith, l))
pair-more (x ∷ xs) (w ∷ []) j h l = absurd (omega (arith, l))
pair-more (x ∷ xs) (w ∷ v ∷ words) zero h l = refl
pair-more (x ∷ xs) (w ∷ v ∷ words) (suc j) h l =
    let a : 2 * suc j ≡ suc (suc (2 * j)) = omega arith in
    let b : 2 * suc j + 1 ≡ suc (suc (2 * j + 1)) = omega arith in
    let c : 2 * (suc j + 1) ≡ suc (suc (2 * (j + 1))) = omega arith in
    rw (b, a, c) (ap (λ l. first_word x.value ∷ second_word x.value ∷ l) (pair-more xs words j (omega arith) (omega (arith, l))))

pub pair-put : (xs : List (Entry Symbol)) (words : List ℕ) (j : ℕ) → j < length xs → length words ≡ 2 * length xs
    → (now : List ℕ) → now ≡ take (2 * j) (pair_words xs) ++ drop (2 * j) words
    → (a b : ℕ) → a ≡ first_word (get_or xs j no_symbol).value → b ≡ second_word (get_or xs j no_symbol).value
    → set (set now (2 * j) a) (2 * j + 1) b ≡ take (2 * (j + 1)) (pair_words xs) ++ drop (2 * (j + 1)) words
pair-put xs words j h l now e a b p q = rw (e, p, q) (pair-more xs words j h l)

pub pairs-long : (xs : List (Entry Symbol)) → length (pair_words xs) ≡ 2 * length xs
pairs-long [] = refl
pairs-long (x ∷ xs) = omega (arith, pairs-long xs)

pub pairs-all : (xs : List (Entry Symbol)) (words : List ℕ) (j : ℕ) → length xs ≤ j → length words ≡ 2 * length xs → take (2 * j) (pair_words xs) ++ drop (2 * j) words ≡ pair_words xs
pairs-all xs words j h l =
    ap₂ ◌++◌ (take_all (2 * j) (pair_words xs) (omega (arith, pairs-long xs, h))) (drop-past words (2 * j) (omega (arith, l, h))) ∙ append_nil (pair_words xs)

pub second-of : (s : Symbol) (r : Option ℕ) (n : ℕ) → value_of s ≡ option_of r → n ≡ unwrap_or r 0 → n ≡ second_word s
second-of (Function k) None n e q = q
second-of (Predicate k) None n e q = q
second-of (Number w) None n e q = absurd (none-ne-some w (sym e))
second-of (Function k) (Some m) n e q = absurd (none-ne-some m e)
second-of (Predicate k) (Some m) n e q = absurd (none-ne-some m e)
second-of (Number w) (Some m) n e q = q ∙ sym (some-injective w m e)

-- They are the rules' words of the symbols.
pub pairs-written :
    (xs : List (Entry Symbol)) → write_pairs (map (λ (e : Entry Symbol). symbol_of e.value) xs) (map (λ (e : Entry Symbol). value_of e.value) xs) ≡ pair_words xs
unfolding write_pairs
pairs-written [] = refl
pairs-written (x ∷ xs) = one x.value (pairs-written xs)
  where
    Rest : Type 0
    Rest = write_pairs (map (λ (e : Entry Symbol). symbol_of e.value) xs) (map (λ (e : Entry Symbol). value_of e.value) xs) ≡ pair_words xs

    one :
        (s : Symbol) → Rest
        → write_pairs (symbol_of s ∷ map (λ (e : Entry Symbol). symbol_of e.value) xs) (value_of s ∷ map (λ (e : Entry Symbol). value_of e.value) xs)
        ≡ first_word s ∷ second_word s ∷ pair_words xs
    one (Function k) r = ap {B = List ℕ} (λ l. write_symbol (functor k) ∷ 0 ∷ l) r
    one (Predicate k) r = ap {B = List ℕ} (λ l. write_symbol (predicate k) ∷ 0 ∷ l) r
    one (Number w) r = ap {B = List ℕ} (λ l. 512 ∷ w ∷ l) r

words-mapped : (xs : List (Entry Symbol)) → map write_symbol (map (λ (e : Entry Symbol). symbol_of e.value) xs) ≡ map (λ (e : Entry Symbol). write_symbol (symbol_of e.value)) xs
words-mapped [] = refl
words-mapped (x ∷ xs) = ap (write_symbol (symbol_of x.value) ∷◌) (words-mapped xs)

abbrev symbols_of : List ℕ → List ℕ
symbols_of text = write_symbols (text_format text) (map (λ (d : Declaration). d.symbol) (text_declarations text))

abbrev cells_of : List ℕ → List ℕ
cells_of text = map (entry_cell (text_declarations text)) (text_entries text)

-- The words, and their length.
header-length : (f S C T : ℕ) → length (header_words f S C T) ≡ 8
unfolding header_words
header-length f S C T = refl

module _ (text : List ℕ) where
  abbrev starts_of : List ℕ
  starts_of = starts_from 0 (text_entries text)

  abbrev header_of : List ℕ
  header_of = header_words (format_number (text_format text)) (length (text_declarations text)) (length starts_of) (length (text_entries text))

  parts : text_words text ≡ header_of ++ (symbols_of text ++ (starts_of ++ cells_of text))
  unfolding text_words deck_from
  parts = refl

  symbols-length : length (symbols_of text) ≡ room_of text
  symbols-length =
      written-length (text_format text) (map (λ (d : Declaration). d.symbol) (text_declarations text))
      ∙ ap (symbol_room (format_number (text_format text))) (length-map (text_declarations text) (λ (d : Declaration). d.symbol))

  pub words-length : length (text_words text) ≡ 8 + room_of text + length starts_of + length (text_entries text)
  words-length =
      omega
      (arith, ap length parts, length-append header_of (symbols_of text ++ (starts_of ++ cells_of text)), length-append (symbols_of text) (starts_of ++ cells_of text), length-append starts_of (cells_of text), symbols-length, length-map (text_entries text) (entry_cell (text_declarations text)), header-length (format_number (text_format text)) (length (text_declarations text)) (length starts_of) (length (text_entries text)))

module _ (d : DeclaredNames) (s : Sizes) (room : ℕ) (e : Encodable d s room) where
  abbrev text : List ℕ
  text = d.all.text.text.now

  abbrev n : ℕ
  n = length (text_declarations text)

  abbrev r : ℕ
  r = room_of text

  -- The sizes are those of the rules.
  pub encoded-length : length (text_words text) ≡ total text s
  encoded-length = omega (arith, words-length text, e.sized.clauses, e.sized.cells)

  header-same : header_words (format_number (text_format text)) n s.clauses s.cells ≡ header_of text
  header-same = rw (e.sized.clauses, e.sized.cells) refl

  pub encoded-all :
      (first starts rest : List ℕ) → length starts ≡ s.clauses → rest ≡ drop s.clauses (drop r (drop 8 first)) → length (cells_of text) ≤ length rest
      → header_words (format_number (text_format text)) n s.clauses s.cells ++ (symbols_of text ++ (sets starts 0 (starts_of text) ++ sets rest 0 (cells_of text)))
      ≡ text_words text ++ drop (length (text_words text)) first
  encoded-all first starts rest l q m =
      let begun : sets starts 0 (starts_of text) ≡ starts_of text =
      sets-eq (starts_of text) starts 0 (omega (arith, l, e.sized.clauses)) ∙ ap (starts_of text ++◌) (drop-past starts (0 + length (starts_of text)) (omega (arith, l, e.sized.clauses))) ∙ append_nil (starts_of text) in
      let put : sets rest 0 (cells_of text) ≡ cells_of text ++ drop (0 + length (cells_of text)) rest = sets-eq (cells_of text) rest 0 (omega arith) in
      let size : 8 + r + s.clauses + (0 + length (cells_of text)) ≡ length (text_words text) = omega (arith, encoded-length, e.sized.cells, length-map (text_entries text) (entry_cell (text_declarations text))) in
      let after : drop (0 + length (cells_of text)) rest ≡ drop (length (text_words text)) first =
      ap (drop (0 + length (cells_of text))) (q ∙ ap (drop s.clauses) (drop-drop r 8 first) ∙ drop-drop s.clauses (8 + r) first) ∙ drop-drop (0 + length (cells_of text)) (8 + r + s.clauses) first ∙ ap (λ k. drop k first) size in
      let all : header_of text ++ (symbols_of text ++ (starts_of text ++ (cells_of text ++ drop (length (text_words text)) first)))
      ≡ (header_of text ++ (symbols_of text ++ (starts_of text ++ cells_of text))) ++ drop (length (text_words text)) first = simp append_assoc in
      rw (header-same, begun, put, after) (all ∙ ap (◌++ drop (length (text_words text)) first) (sym (parts text)))

-- The symbols of a table, in either format.
module _ (d : DeclaredNames) where
  abbrev entries : List (Entry Symbol)
  entries = d.names.now.entries

  abbrev given : List ℕ
  given = d.all.text.text.now

  kinds-same : map (λ (x : Declaration). x.symbol) (text_declarations given) ≡ map (λ (x : Entry Symbol). symbol_of x.value) entries
  kinds-same = ap (λ t. map (λ (x : Declaration). x.symbol) (text_declarations t)) (sym d.same) ∙ symbols-taken d.names.now d.declared

  values-same : map (λ (x : Declaration). x.value) (text_declarations given) ≡ map (λ (x : Entry Symbol). value_of x.value) entries
  values-same = ap (λ t. map (λ (x : Declaration). x.value) (text_declarations t)) (sym d.same) ∙ values-taken d.names.now d.declared

  pub count-same : length (text_declarations given) ≡ length entries
  count-same = ap (λ t. length (text_declarations t)) (sym d.same) ∙ d.declared.count

  pub arity-fits : (j : ℕ) → j < length entries → arity (symbol_of (get_or entries j no_symbol).value) ≤ 15
  arity-fits j l = small-taken d.names.now d.declared (rw (sym d.same) at d.all.text.in_grammar) j l

  pub words-same : d.all.text.start.numbers ≡ false → (text_format given ≡ format1) × (map (λ (x : Entry Symbol). write_symbol (symbol_of x.value)) entries ≡ symbols_of given)
  unfolding text_format format_from write_symbols
  words-same e =
      let m : numbers_in given ≡ false = sym d.all.text.starts.numbers ∙ e in
      let f : text_format given ≡ format1 = rw (m, text_format, format_from) refl in
      (f, sym (words-mapped entries) ∙ ap (map write_symbol) (sym kinds-same) ∙ ap (λ F. write_symbols F (map (λ (x : Declaration). x.symbol) (text_declarations given))) (sym f))

  pub pairs-same : d.all.text.start.numbers ≡ true → (format_number (text_format given) ≡ 2) × (pair_words entries ≡ symbols_of given)
  unfolding text_format format_from write_symbols
  pairs-same e =
      let m : numbers_in given ≡ true = sym d.all.text.starts.numbers ∙ e in
      let f : text_format given ≡ format2 (map (λ (x : Declaration). x.value) (text_declarations given)) = rw (m, text_format, format_from) refl in (
        ap format_number f,
        sym (pairs-written entries) ∙ ap₂ write_pairs (sym kinds-same) (sym values-same) ∙ ap (λ F. write_symbols F (map (λ (x : Declaration). x.symbol) (text_declarations given))) (sym f),
      )

-- How many words the symbols take.
pub one-word : (f S : ℕ) → f ≡ 1 → symbol_room f S ≡ S
unfolding symbol_room
one-word f S e = rw e refl

pub two-words : (f S : ℕ) → f ≡ 2 → symbol_room f S ≡ 2 * S
unfolding symbol_room
two-words f S e = rw e refl

pub few-words : (f S : ℕ) → S ≤ symbol_room f S
unfolding symbol_room
few-words f S = go (eqb f 2) refl
  where
    go : (b : Bool) → eqb f 2 ≡ b → S ≤ symbol_room f S
    go true e = rw (e, symbol_room) (omega arith)
    go false e = rw (e, symbol_room) (omega arith)
