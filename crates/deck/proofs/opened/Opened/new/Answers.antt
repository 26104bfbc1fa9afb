-- `new`: the answer's number is that of the first test that fails, and each test is the rules' test of the same part.
use mathlib.Core.Path.{◌≡◌, sym, ◌∙◌}
use mathlib.Core.Bool.{Bool, true}
use mathlib.Core.List.{List}
use Prim.Native.Nat.{ℕ}
use lib.ListN.{length}
use Rattle.std.specs.List.{list_all}
use Rattle.rules.specs.Refusals.{checked_number}
use Rattle.rules.specs.Decks.{header_fits, symbol_words, clause_words, term_cells, read_symbol, read_all, starts_fit, clause_rows, rows_short, read_clause, open_deck}
use Rattle.deck.specs.Answers.{found}
use Rattle.deck.specs.Kinds.{symbols_of}
use Rattle.deck.proofs.BoolLaws.{found_all}
use Rattle.deck.proofs.OpenLaws.{passes, fails, symbols_number, values_number, starts_number, short_number, clauses_number, open-number}
use Rattle.deck.proofs.opened.Opened.new.Goals as goal
use Rattle.deck.proofs.opened.Opened.new.Goals.{Else-not-fit, Else-not-fit-2, Else-not-values_fit, Else-not-fit-3, Else-not-fit-4}

-- What each test came to, in the rules' words.
symbols-test : (ws words : List ℕ) (r : Bool) → words ≡ symbol_words ws → r ≡ list_all (λ word. found (read_symbol word)) words
    → found (read_all read_symbol (symbol_words ws)) ≡ r
symbols-test ws words r w e = rw (← w) (found_all read_symbol words ∙ sym e)

starts_test :
    (ws places cells : List ℕ) (r : Bool) → places ≡ clause_words ws → cells ≡ term_cells ws → r ≡ starts_fit (length cells) places
    → starts_fit (length (term_cells ws)) (clause_words ws) ≡ r
starts_test ws places cells r p l e = rw (← l, ← p) (sym e)

short-test :
    (ws places cells : List ℕ) (r : Bool) → places ≡ clause_words ws → cells ≡ term_cells ws → r ≡ rows_short (clause_rows cells places)
    → rows_short (clause_rows (term_cells ws) (clause_words ws)) ≡ r
short-test ws places cells r p l e = rw (← l, ← p) (sym e)

clauses-test :
    (ws words places cells : List ℕ) (r : Bool) → words ≡ symbol_words ws → places ≡ clause_words ws → cells ≡ term_cells ws
    → r ≡ found (read_all (read_clause (symbols_of words)) (clause_rows cells places))
    → found (read_all (read_clause (symbols_of (symbol_words ws))) (clause_rows (term_cells ws) (clause_words ws))) ≡ r
clauses-test ws words places cells r w p l e = rw (← l, ← p, ← w) (sym e)

-- The tests that passed leave the number from the next one on.
header-passed : (c : goal.Else-not-fit) → header_fits c.args.words.now ≡ true
header-passed c = sym c.fit.ensures ∙ c.if-not-fit.false

after-header : (c : goal.Else-not-fit) → let ws = c.args.words.now in checked_number (open_deck ws) ≡ symbols_number ws
after-header c = open-number _ ∙ passes _ 1 _ (header-passed c)

after-symbols : (c : goal.Else-not-fit-2) → let ws = c.args.words.now in checked_number (open_deck ws) ≡ symbols_number ws → checked_number (open_deck ws) ≡ values_number ws
after-symbols c h = h ∙ passes _ 2 _ (symbols-test _ _ _ c.symbols-symbols.ensures c.fit-2.ensures ∙ c.if-not-fit-2.false)

after-values : (c : goal.Else-not-values_fit) → let ws = c.args.words.now in checked_number (open_deck ws) ≡ values_number ws → checked_number (open_deck ws) ≡ starts_number ws
after-values c h = h ∙ passes _ 2 _ (sym c.values_fit.ensures ∙ c.if-not-values_fit.false)

after-starts : (c : goal.Else-not-fit-3) → let ws = c.args.words.now in checked_number (open_deck ws) ≡ starts_number ws → checked_number (open_deck ws) ≡ short_number ws
after-starts c h = h ∙ passes _ 3 _ (starts_test _ _ _ _ c.starts-starts.ensures c.cells-cells.ensures c.fit-3.ensures ∙ c.if-not-fit-3.false)

after-short : (c : goal.Else-not-fit-4) → let ws = c.args.words.now in checked_number (open_deck ws) ≡ short_number ws → checked_number (open_deck ws) ≡ clauses_number ws
after-short c h = h ∙ passes _ 4 _ (short-test _ _ _ _ c.starts-starts.ensures c.cells-cells.ensures c.fit-4.ensures ∙ c.if-not-fit-4.false)

pub returns-then-not-fit-clause-number : goal.returns-then-not-fit-clause-number
returns-then-not-fit-clause-number c = sym (open-number _ ∙ fails _ 1 _ (sym c.fit.ensures ∙ c.if-not-fit.true))

pub returns-then-not-fit-2-clause-number : goal.returns-then-not-fit-2-clause-number
returns-then-not-fit-2-clause-number c =
    let h = after-header (goal.at.returns-then-not-fit-2-clause-number c).Else-not-fit in
    sym (h ∙ fails _ 2 _ (symbols-test _ _ _ c.symbols-symbols.ensures c.fit-2.ensures ∙ c.if-not-fit-2.true))

pub returns-then-not-values_fit-clause-number : goal.returns-then-not-values_fit-clause-number
returns-then-not-values_fit-clause-number c =
    let a = goal.at.returns-then-not-values_fit-clause-number c in
    let h = after-symbols a.Else-not-fit-2 (after-header a.Else-not-fit) in
    sym (h ∙ fails _ 2 _ (sym c.values_fit.ensures ∙ c.if-not-values_fit.true))

pub returns-then-not-fit-3-clause-number : goal.returns-then-not-fit-3-clause-number
returns-then-not-fit-3-clause-number c =
    let a = goal.at.returns-then-not-fit-3-clause-number c in
    let h = after-values a.Else-not-values_fit (after-symbols a.Else-not-fit-2 (after-header a.Else-not-fit)) in
    sym (h ∙ fails _ 3 _ (starts_test _ _ _ _ c.starts-starts.ensures c.cells-cells.ensures c.fit-3.ensures ∙ c.if-not-fit-3.true))

pub returns-then-not-fit-4-clause-number : goal.returns-then-not-fit-4-clause-number
returns-then-not-fit-4-clause-number c =
    let a = goal.at.returns-then-not-fit-4-clause-number c in
    let h = after-starts a.Else-not-fit-3 (after-values a.Else-not-values_fit (after-symbols a.Else-not-fit-2 (after-header a.Else-not-fit))) in
    sym (h ∙ fails _ 4 _ (short-test _ _ _ _ c.starts-starts.ensures c.cells-cells.ensures c.fit-4.ensures ∙ c.if-not-fit-4.true))

pub returns-then-not-fit-5-clause-number : goal.returns-then-not-fit-5-clause-number
returns-then-not-fit-5-clause-number c =
    let a = goal.at.returns-then-not-fit-5-clause-number c in
    let h = after-short a.Else-not-fit-4 (after-starts a.Else-not-fit-3 (after-values a.Else-not-values_fit (after-symbols a.Else-not-fit-2 (after-header a.Else-not-fit)))) in
    sym (h ∙ fails _ 5 _ (clauses-test _ _ _ _ _ c.symbols-symbols.ensures c.starts-starts.ensures c.cells-cells.ensures c.fit-5.ensures ∙ c.if-not-fit-5.true))

pub invariant_of-result : goal.invariant_of-result
invariant_of-result c =
    let a = goal.at.invariant_of-result c in
    let h = after-short a.Else-not-fit-4 (after-starts a.Else-not-fit-3 (after-values a.Else-not-values_fit (after-symbols a.Else-not-fit-2 (after-header a.Else-not-fit)))) in
    record {
      opens = h ∙ passes _ 5 _ (clauses-test _ _ _ _ _ c.symbols-symbols.ensures c.starts-starts.ensures c.cells-cells.ensures c.fit-5.ensures ∙ c.if-not-fit-5.false);
      symbol_part = c.symbols-symbols.ensures;
      start_part = c.starts-starts.ensures;
      cell_part = c.cells-cells.ensures;
    }
