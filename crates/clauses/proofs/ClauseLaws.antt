-- Clause i of an opened deck in the deck's cells. Assumes nothing.
use Prim.Native.Nat.{ℕ, zero, suc, ◌+◌, ◌-◌, ◌≤◌, ◌<◌}
use mathlib.Core.Path.{◌≡◌, refl, ap, sym, ◌∙◌, subst}
use mathlib.Core.List.{List, [], ◌∷◌, ◌++◌, append-nil}
use native.Mathlib.Omega.{arith}
use lib.ListN.{length, get_or, take, drop, length-append, length-drop}
use lib.Seq.{take_at, drop_at, drop-drop}
use Rattle.rules.specs.Syntax.{Symbol, Clause, Deck}
use Rattle.rules.specs.Refusals.{accepted}
use Rattle.rules.specs.Decks.{write_clause, clauses_cells, clause_starts, clause_words, term_cells, open_deck}
use Rattle.rules.specs.WellFormed.{All, WfClause}
use Rattle.rules.proofs.DeckLaws.{starts-length, clauses-part, cells-part, opened-written}

-- Clause i, whose cells are those of the row from a place up to another.
pub record ClauseCells (S : List Symbol) (clauses : List Clause) (row : List ℕ) (i from to : ℕ) : Type 0 where
  pub clause : Clause
  pub place : drop i clauses ≡ clause ∷ drop (i + 1) clauses
  pub well_formed : WfClause S clause
  pub ends : from + length (write_clause clause) ≡ to
  pub inside : to ≤ length row
  pub cells : take (to - from) (drop from row) ≡ write_clause clause

-- The places of clause i where the first clause starts at `at`.
abbrev start_in : ℕ → List Clause → ℕ → ℕ
start_in at cs i = get_or (clause_starts at cs) i 0

abbrev end_in : ℕ → List Clause → ℕ → ℕ
end_in at cs i = get_or (clause_starts at cs) (i + 1) (at + length (clauses_cells cs))

first-end : (at : ℕ) (c : Clause) (cs : List Clause) → end_in at (c ∷ cs) 0 ≡ at + length (write_clause c)
unfolding clause_starts clauses_cells
first-end at c [] = ap (λ (r : List ℕ). at + length r) (append-nil (write_clause c))
first-end at c (c' ∷ cs) = refl

later-end : (at : ℕ) (c : Clause) (cs : List Clause) (i : ℕ) → end_in at (c ∷ cs) (suc i) ≡ end_in (at + length (write_clause c)) cs i
unfolding clause_starts clauses_cells
later-end at c cs i =
    let k : suc i + 1 ≡ suc (i + 1) = omega arith in
    let m : at + length (write_clause c ++ clauses_cells cs) ≡ at + length (write_clause c) + length (clauses_cells cs) = omega (arith, length-append (write_clause c) (clauses_cells cs)) in
    rw (k, m)

clause-in :
    (S : List Symbol) (at : ℕ) (cs : List Clause) (row : List ℕ) (i : ℕ) → All (WfClause S) cs → i < length cs → at ≤ length row → drop at row ≡ clauses_cells cs
    → ClauseCells S cs row i (start_in at cs i) (end_in at cs i)
unfolding clause_starts clauses_cells
clause-in S at [] row i w h b e = absurd (omega arith)
clause-in S at (c ∷ cs) row zero w h b e =
    let n = length (write_clause c) in
    let ends = first-end at c cs in
    let m : at + n - at ≡ n = omega arith in
    record {
      clause = c;
      place = refl;
      well_formed = w.0;
      ends = sym ends;
      inside = omega (arith, ends, ap length e, length-drop at row, length-append (write_clause c) (clauses_cells cs));
      cells = rw (ends, m, e) (take_at (write_clause c) (clauses_cells cs) n refl);
    }
clause-in S at (c ∷ cs) row (suc i) w h b e =
    let n = length (write_clause c) in
    let within : at + n ≤ length row = omega (arith, ap length e, length-drop at row, length-append (write_clause c) (clauses_cells cs)) in
    let next : drop (at + n) row ≡ clauses_cells cs = sym (drop-drop n at row) ∙ ap (drop n) e ∙ drop_at (write_clause c) (clauses_cells cs) n refl in
    let r = clause-in S (at + n) cs row i w.1 (omega arith) within next in
    let k : suc i + 1 ≡ suc (i + 1) = omega arith in
    rw (later-end at c cs i)
    record {
      clause = r.clause;
      place = rw k r.place;
      well_formed = r.well_formed;
      ends = r.ends;
      inside = r.inside;
      cells = r.cells;
    }

pub clause-cells :
    (ws : List ℕ) (d : Deck) (row : List ℕ) (i from to : ℕ) → open_deck ws ≡ accepted d → i < length (clause_words ws) → row ≡ term_cells ws
    → from ≡ get_or (clause_words ws) i 0 → to ≡ get_or (clause_words ws) (i + 1) (length (term_cells ws)) → ClauseCells d.symbols d.clauses row i from to
clause-cells ws d row i from to e h er ef et =
    let o = opened-written ws d e in
    let starts : clause_words ws ≡ clause_starts 0 d.clauses = ap clause_words o.0 ∙ clauses-part d in
    let cells : term_cells ws ≡ clauses_cells d.clauses = ap term_cells o.0 ∙ cells-part d in
    let k : i < length d.clauses = omega (arith, ap length starts, starts-length 0 d.clauses) in
    let all : 0 + length (clauses_cells d.clauses) ≡ length (clauses_cells d.clauses) = omega arith in
    rw (er, ef, et, starts, cells, ← all) (clause-in d.symbols 0 d.clauses (clauses_cells d.clauses) i o.1.clauses k (omega arith) refl)

-- A clause of the list is well formed as all are.
pub clause-at : (S : List Symbol) (cs : List Clause) (i : ℕ) (c : Clause) → All (WfClause S) cs → drop i cs ≡ c ∷ drop (i + 1) cs → WfClause S c
clause-at S [] i c w e = absurd (omega (arith, ap length e, length-drop {A = Clause} i []))
clause-at S (c' ∷ cs) zero c w e = let same : c' ≡ c = cc in subst (WfClause S) same w.0
clause-at S (c' ∷ cs) (suc i) c w e =
    let k : suc i + 1 ≡ suc (i + 1) = omega arith in
    clause-at S cs i c w.1 (rw k at e)

-- There are as many clauses as starts, and so there is a clause i.
pub clause-count : (ws : List ℕ) (d : Deck) → open_deck ws ≡ accepted d → length (clause_words ws) ≡ length d.clauses
clause-count ws d e = ap (λ (l : List ℕ). length (clause_words l)) (opened-written ws d e).0 ∙ ap length (clauses-part d) ∙ starts-length 0 d.clauses

pub few-clauses : (ws : List ℕ) (d : Deck) → open_deck ws ≡ accepted d → length (clause_words ws) ≤ 16384
few-clauses ws d e = omega (arith, clause-count ws d e, (opened-written ws d e).1.total)

pub clause-of :
    (ws : List ℕ) (d : Deck) (i : ℕ) → open_deck ws ≡ accepted d → i < length (clause_words ws)
    → ClauseCells d.symbols d.clauses (term_cells ws) i (get_or (clause_words ws) i 0) (get_or (clause_words ws) (i + 1) (length (term_cells ws)))
clause-of ws d i e h = clause-cells ws d (term_cells ws) i _ _ e h refl refl refl

-- The first cell of a clause is its predicate.
pub first_cell : (l : List ℕ) (c : Clause) → l ≡ write_clause c → (0 < length l) × (get_or l 0 0 ≡ c.predicate)
unfolding write_clause
first_cell l c e = rw e (omega arith, refl)
