-- On an accepted deck: how many clause words there are, and that a clause's row is the clause, written.
use Prim.Native.Nat.{ℕ, ◌+◌, ◌-◌, ◌<◌}
use mathlib.Core.Path.{◌≡◌, refl, ap, ap₂, ◌∙◌}
use mathlib.Core.Bool.{Bool, true, false}
use mathlib.Core.List.{List}
use native.Mathlib.Omega.{arith}
use lib.ListN.{length, get_or, take, drop, length-take, length-drop, get_or-eq_default}
use lib.Seq.{get_or-take, get_or-drop, drop-drop}
use lib.Dec.{ltb}
use borrow.Author.Tests.{ltb-true, ltb-false}
use Rattle.rules.specs.Syntax.{Deck}
use Rattle.rules.specs.Refusals.{accepted}
use Rattle.rules.specs.Decks.{header, header_fits, clause_words, term_cells, write_clause, open_deck}
use Rattle.rules.proofs.DeckLaws.{fit-facts, steps-open}
use Rattle.rules.proofs.DeckWords.{clause_start, clause_from, clause_to, opened-words, clause-at, clause-slice}
use Rattle.deck.specs.Rows.{row_at}
use Rattle.deck.proofs.RowLaws.{get_or-any}

module _ (ws : List ℕ) (fits : header_fits ws ≡ true) where
  pub clause-count : length (clause_words ws) ≡ header ws 3
  unfolding clause_words
  clause-count = let h = fit-facts ws fits in simp (length-take, length-drop) (omega arith)

  pub cell-count : length (term_cells ws) ≡ header ws 5
  unfolding term_cells
  cell-count = let h = fit-facts ws fits in simp length-drop (omega arith)

  module _ (i : ℕ) (h : i < header ws 3) where
    start_word : (e : ℕ) → get_or (clause_words ws) i e ≡ clause_start ws i
    unfolding clause_words
    start_word e =
        let n : i < length (clause_words ws) = omega (arith, clause-count) in
        get_or-any (clause_words ws) i e 0 n ∙ get_or-take (header ws 3) (drop (header ws 4) ws) i 0 h ∙ get_or-drop (header ws 4) ws i 0

  end-word : (i : ℕ) → header ws 6 + get_or (clause_words ws) (i + 1) (length (term_cells ws)) ≡ clause_to ws i
  unfolding clause_to
  end-word i = go (ltb (i + 1) (header ws 3)) refl
    where
      go : (b : Bool) → ltb (i + 1) (header ws 3) ≡ b → header ws 6 + get_or (clause_words ws) (i + 1) (length (term_cells ws)) ≡ clause_to ws i
      go true e = rw (e, clause_to) (ap (header ws 6 +◌) (start_word (i + 1) (ltb-true (i + 1) (header ws 3) e) (length (term_cells ws))))
      go false e =
          let l = ltb-false (i + 1) (header ws 3) e in
          rw (e, clause_to) (ap (header ws 6 +◌) (get_or-eq_default (clause_words ws) (length (term_cells ws)) {n = i + 1} (omega (arith, clause-count)) ∙ cell-count))

  row_words : (i : ℕ) → i < header ws 3 → row_at (term_cells ws) (clause_words ws) i ≡ take (clause_to ws i - clause_from ws i) (drop (clause_from ws i) ws)
  unfolding term_cells
  row_words i h =
      let s = start_word i h 0 in
      let e = end-word i in
      let n : get_or (clause_words ws) (i + 1) (length (term_cells ws)) - get_or (clause_words ws) i 0 ≡ clause_to ws i - clause_from ws i = omega arith in
      ap₂ take n (drop-drop (get_or (clause_words ws) i 0) (header ws 6) ws ∙ ap (λ k. drop (header ws 6 + k) ws) s)

pub clause-row :
    (ws : List ℕ) (d : Deck) (e : open_deck ws ≡ accepted d) (i : ℕ) (h : i < length d.clauses)
    → row_at (term_cells ws) (clause_words ws) i ≡ write_clause (clause-at ws d e i h).clause
clause-row ws d e i h =
    row_words ws (steps-open ws d e).fits i (omega (arith, (opened-words ws d e).clause_count)) ∙ clause-slice ws d i (clause-at ws d e i h)
