-- The number that opening a deck and checking a query come to, as the tests that the code makes, one after the other.
use Prim.Native.Nat.{ℕ}
use mathlib.Core.Path.{◌≡◌, refl, ap, sym, ◌∙◌}
use mathlib.Core.Bool.{Bool, true, false}
use mathlib.Core.Option.{Option, none, some, some-injective}
use mathlib.Core.List.{List}
use native.Mathlib.Omega.{arith}
use lib.ListN.{length}
use lib.Dec.{leb}
use Rattle.rules.specs.Syntax.{Symbol, Deck}
use Rattle.rules.specs.Cells.{read_literals}
use Rattle.rules.specs.Refusals.{Refusal, bad_header, bad_symbol, bad_starts, long_clause, bad_clause, long_query, bad_query, refusal_number, Checked, refused, accepted, and_then, require, obtain, checked_number}
use Rattle.rules.specs.Decks.{header_fits, symbol_words, clause_words, term_cells, read_symbol, read_clause, read_all, read_format, starts_fit, clause_rows, rows_short, open_deck, read_query}
use Rattle.rules.proofs.DeckLaws.{steps-open}
use Rattle.deck.specs.Answers.{found, check_words}
use Rattle.deck.specs.Kinds.{symbols_of}
use Rattle.deck.proofs.RefusalLaws.{number-positive}
use Rattle.deck.proofs.SymbolLaws.{found-symbols}

-- The first number whose test fails.
abbrev pub unless : Bool → ℕ → ℕ → ℕ
unless true n others = others
unless false n others = n

pub passes : (b : Bool) (n others : ℕ) → b ≡ true → unless b n others ≡ others
passes b n others e = ap (λ t. unless t n others) e

pub fails : (b : Bool) (n others : ℕ) → b ≡ false → unless b n others ≡ n
fails b n others e = ap (λ t. unless t n others) e

-- The number from each test on.
abbrev pub clauses_number : List ℕ → ℕ
clauses_number ws = unless (found (read_all (read_clause (symbols_of (symbol_words ws))) (clause_rows (term_cells ws) (clause_words ws)))) 5 0

abbrev pub short_number : List ℕ → ℕ
short_number ws = unless (rows_short (clause_rows (term_cells ws) (clause_words ws))) 4 (clauses_number ws)

abbrev pub starts_number : List ℕ → ℕ
starts_number ws = unless (starts_fit (length (term_cells ws)) (clause_words ws)) 3 (short_number ws)

abbrev pub values_number : List ℕ → ℕ
values_number ws = unless (found (read_format ws)) 2 (starts_number ws)

abbrev pub symbols_number : List ℕ → ℕ
symbols_number ws = unless (found (read_all read_symbol (symbol_words ws))) 2 (values_number ws)

abbrev pub open_number : List ℕ → ℕ
open_number ws = unless (header_fits ws) 1 (symbols_number ws)

required : {A : Type 0} (n : Refusal) (b : Bool) (next : Unit {0} → Checked A) → checked_number (and_then (require n b) next) ≡ unless b (refusal_number n) (checked_number (next tt))
unfolding and_then require
required n true next = refl
required n false next = refl

obtained :
    {A B : Type 0} (n : Refusal) (o : Option B) (next : B → Checked A) (k : ℕ) → ((b : B) → o ≡ some b → checked_number (next b) ≡ k)
    → checked_number (and_then (obtain n o) next) ≡ unless (found o) (refusal_number n) k
unfolding and_then obtain found
obtained n none next k h = refl
obtained n (some b) next k h = h b refl

found_some : {A : Type 0} (o : Option A) (a : A) → o ≡ some a → found o ≡ true
unfolding found
found_some o a e = ap found e

-- What is read of symbol words is what the code takes them for.
symbols-read : (ws : List ℕ) (S : List Symbol) → read_all read_symbol ws ≡ some S → S ≡ symbols_of ws
symbols-read ws S e = some-injective S (symbols_of ws) (sym e ∙ found-symbols ws (found_some (read_all read_symbol ws) S e))

pub open-number : (ws : List ℕ) → checked_number (open_deck ws) ≡ open_number ws
unfolding open_deck
open-number ws =
    required bad_header (header_fits ws) _
    ∙ ap (unless (header_fits ws) 1)
    (obtained bad_symbol (read_all read_symbol (symbol_words ws)) _ _ λ S e.
    obtained bad_symbol (read_format ws) _ _ λ F q.
    required bad_starts (starts_fit (length (term_cells ws)) (clause_words ws)) _
    ∙ ap (unless (starts_fit (length (term_cells ws)) (clause_words ws)) 3)
    (required long_clause (rows_short (clause_rows (term_cells ws) (clause_words ws))) _
    ∙ ap (unless (rows_short (clause_rows (term_cells ws) (clause_words ws))) 4)
    (rw (← symbols-read (symbol_words ws) S e)
    (obtained bad_clause (read_all (read_clause S) (clause_rows (term_cells ws) (clause_words ws))) _ 0 λ cs r. refl))))

-- Checking a query.
obtained-last : {A : Type 0} (n : Refusal) (o : Option A) → checked_number (obtain n o) ≡ unless (found o) (refusal_number n) 0
unfolding obtain found
obtained-last n none = refl
obtained-last n (some a) = refl

abbrev pub literals_number : List ℕ → List ℕ → ℕ
literals_number ws qs = unless (found (read_literals (symbols_of (symbol_words ws)) qs)) 7 0

abbrev pub query_number : List ℕ → List ℕ → ℕ
query_number ws qs = unless (leb (length qs) 500) 6 (literals_number ws qs)

-- A deck that is refused is refused with any query.
pub refused-query : (ws qs : List ℕ) (n : ℕ) → checked_number (open_deck ws) ≡ n → (n ≡ 0 → ⊥) → checked_number (check_words ws qs) ≡ n
unfolding check_words and_then
refused-query ws qs n e h = go (open_deck ws) e
  where
    go : (o : Checked Deck) → checked_number o ≡ n → checked_number (and_then o (λ d. read_query d qs)) ≡ n
    go (refused r) q = q
    go (accepted d) q = absurd (h (sym q))

-- The number 0 says that the deck is accepted, with the symbols that the code takes its words for.
pub accepted-deck : (ws : List ℕ) → checked_number (open_deck ws) ≡ 0 → (d : Deck) × (open_deck ws ≡ accepted d)
accepted-deck ws e = go (open_deck ws) refl e
  where
    go : (o : Checked Deck) → open_deck ws ≡ o → checked_number o ≡ 0 → (d : Deck) × (open_deck ws ≡ accepted d)
    go (refused r) p q = absurd (omega (arith, number-positive r))
    go (accepted d) p q = (d, p)

pub accepted-symbols : (ws : List ℕ) (d : Deck) → open_deck ws ≡ accepted d → d.symbols ≡ symbols_of (symbol_words ws)
accepted-symbols ws d e = symbols-read (symbol_words ws) d.symbols (steps-open ws d e).symbols

pub accepted-header : (ws : List ℕ) → checked_number (open_deck ws) ≡ 0 → header_fits ws ≡ true
accepted-header ws e = let d = accepted-deck ws e in (steps-open ws d.0 d.1).fits

pub accepted-starts : (ws : List ℕ) → checked_number (open_deck ws) ≡ 0 → starts_fit (length (term_cells ws)) (clause_words ws) ≡ true
accepted-starts ws e = let d = accepted-deck ws e in (steps-open ws d.0 d.1).starts

-- On such a deck the query's number is the answer.
module _ (ws qs : List ℕ) (d : Deck) (opens : open_deck ws ≡ accepted d) where
  pub accepted-query : checked_number (check_words ws qs) ≡ checked_number (read_query d qs)
  unfolding check_words and_then
  accepted-query = rw opens refl

  pub read-number : checked_number (read_query d qs) ≡ query_number ws qs
  unfolding read_query
  read-number =
      required long_query (leb (length qs) 500) _
      ∙ ap (unless (leb (length qs) 500) 6) (rw (← accepted-symbols ws d opens) (obtained-last bad_query (read_literals d.symbols qs)))
