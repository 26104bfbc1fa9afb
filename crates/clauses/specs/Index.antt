-- The index of a deck's clauses.
use Rattle.std.specs.Prelude.{ℕ, ◌+◌, ◌-◌, ◌/◌, ◌%◌, ◌≤◌, ◌<◌, ◌≡◌, Option, Some, None, List, length, get_or, take, drop}
use Rattle.rules.specs.Syntax.{Clause, Deck}
use Rattle.rules.specs.Refusals.{accepted}
use Rattle.rules.specs.Decks.{symbol_words, open_deck}
use Rattle.rules.specs.Resolution.{clauses_about}
use Rattle.signature.specs.Symbols.{arity_at}
use Rattle.clauses.specs.Groups.{before, Grouped, Uncounted}
use Rattle.clauses.specs.Rows.{row_words, RowsOf}
use Rattle.clauses.specs.declared.by_predicate.Index.{Index}
use Rattle.clauses.specs.declared.rows.Row.{Row}

-- The words from half of b on that the rows of n clauses take.
abbrev pub rows_at : List ℕ → ℕ → ℕ → List ℕ
rows_at rows b n = take (row_words n) (drop (b / 2) rows)

-- If p has arguments and over 64 clauses, its rows are among the words, by the number of the clauses before those about p.
abbrev pub Rowed : List ℕ → List Clause → ℕ → List ℕ → Type 0
Rowed symbols cs p rows =
    0 < arity_at symbols p → 64 < length (clauses_about p cs) → RowsOf (clauses_about p cs) (rows_at rows (before p cs) (length (clauses_about p cs)))

-- The clauses by predicate, and the rows.
pub record Indexes (symbols : List ℕ) (cs : List Clause) (index : Index) : Type 0 where
  pub groups : Grouped (length symbols) cs index.groups.begins index.groups.numbers
  pub rows : (p : ℕ) → p < length symbols → Rowed symbols cs p index.rows

abbrev pub Indexed : List ℕ → Index → Type 0
Indexed deck_words index = (d : Deck) → open_deck deck_words ≡ accepted d → Indexes (symbol_words deck_words) d.clauses index

-- An index of no clause.
pub record EmptyIndex (index : Index) : Type 0 where
  pub uncounted : Uncounted index.groups.begins
  pub unset : (w : ℕ) → get_or index.rows w 0 ≡ 0

-- The clauses by predicate, and the rows of the predicates below p; the words behind those are unset.
pub record Fills (symbols : List ℕ) (cs : List Clause) (p : ℕ) (index : Index) : Type 0 where
  pub groups : Grouped (length symbols) cs index.groups.begins index.groups.numbers
  pub rows : (q : ℕ) → q < p → Rowed symbols cs q index.rows
  pub unset : (w : ℕ) → before p cs / 2 ≤ w → get_or index.rows w 0 ≡ 0

abbrev pub FilledBelow : List ℕ → ℕ → Index → Type 0
FilledBelow deck_words p index = (d : Deck) → open_deck deck_words ≡ accepted d → Fills (symbol_words deck_words) d.clauses p index

-- How many clauses stand before those about p, and how many are about p.
abbrev pub begin_of : Index → ℕ → ℕ
begin_of index p = get_or index.groups.begins p 0

abbrev pub size_of : Index → ℕ → ℕ
size_of index p = get_or index.groups.begins (p + 1) 0 - begin_of index p

-- What is read of p stands in the index.
pub record Places (index : Index) (p : ℕ) : Type 0 where
  pub p_in : p < 4096
  pub in_order : begin_of index p ≤ get_or index.groups.begins (p + 1) 0
  pub within : get_or index.groups.begins (p + 1) 0 ≤ 8192

-- The numbers of the clauses about p.
abbrev pub numbers_at : Index → ℕ → List ℕ
numbers_at index p = take (size_of index p) (drop (begin_of index p) index.groups.numbers)

-- The row of p for a first argument that begins with the symbol f, if there are rows.
abbrev pub RowFor : Index → ℕ → Option ℕ → Option Row → Type 0
RowFor index p None None = Unit {0}
RowFor index p None (Some row) = ⊥
RowFor index p (Some f) None = size_of index p ≤ 64
RowFor index p (Some f) (Some row) = (64 < size_of index p) × (row.number ≡ f % 16) × (row.words.now ≡ rows_at index.rows (begin_of index p) (size_of index p))
