-- From rows to clauses and queries, and the numbers of the checks.
use Prim.Native.Nat.{ℕ, zero, suc, ◌+◌, ◌-◌, ◌≤◌, ◌<◌}
use mathlib.Core.Path.{◌≡◌, refl, sym, ◌∙◌}
use mathlib.Core.Bool.{Bool, true, false, ◌&&◌}
use mathlib.Core.List.{List}
use native.Mathlib.Omega.{arith}
use lib.ListN.{length, get_or, take, drop, replicate, length-drop, length-replicate, drop_of_length-le}
use lib.Seq.{take_all}
use Rattle.rules.specs.Syntax.{Symbol, Literal, Clause, Deck, vars_literals}
use Rattle.rules.specs.Terms.{nil}
use Rattle.rules.specs.Cells.{write_literals}
use Rattle.rules.specs.WellFormed.{All, InOrder, clause_literals, WfClause, WfQuery}
use Rattle.rules.specs.Refusals.{Checked, refused, accepted, and_then, require, checked_number}
use Rattle.rules.specs.Loose.{tight_clause, tight_clauses, tight_query, check_tight, check_tight_query}
use Rattle.rules.specs.Decks.{write_clause, symbol_words, open_deck, read_query, check_query}
use Rattle.rules.proofs.CellLaws.{Small, literals-vars, literals-length, in_order-small}
use Rattle.rules.proofs.FlatLaws.{tight-flat}
use Rattle.rules.proofs.DeckLaws.{opened-written, query-reads}
use Rattle.deck.specs.Answers.{check_words}
use Rattle.deck.specs.Kinds.{symbols_of}
use Rattle.deck.proofs.OpenLaws.{accepted-symbols}
use Rattle.deck.proofs.RefusalLaws.{number-positive}
use Rattle.clauses.specs.Clauses.{ClauseAt}
use Rattle.clauses.proofs.ClauseLaws.{clause-at}
use Rattle.loose.specs.Marks.{row_tight, Below}

-- ROWS
few-small : (ls : List Literal) → InOrder (vars_literals ls) → length (write_literals ls) ≤ 1024 → All Small (vars_literals ls)
few-small ls e h = in_order-small (vars_literals ls) e (omega (arith, literals-vars ls, literals-length ls))

pub clause-row : (S : List Symbol) (c : Clause) → WfClause S c → row_tight S (drop 1 (write_clause c)) ≡ tight_clause c
unfolding row_tight tight_clause write_clause
clause-row S c w = sym (tight-flat S c.arguments c.body w.literals.0.1 w.literals.1 (few-small (clause_literals c) w.in_order (omega (arith, w.short))))

pub query-row : (S : List Symbol) (q : List Literal) → WfQuery S q → row_tight S (write_literals q) ≡ tight_query q
unfolding row_tight tight_query
query-row S q w = sym (tight-flat S nil q tt w.literals (few-small q w.in_order (omega (arith, w.short))))

-- On the words of an opened deck.
module _ (ws : List ℕ) (d : Deck) (o : open_deck ws ≡ accepted d) where
  pub clause-result :
      (i : ℕ) (c : Clause) (symbols cells : List ℕ) (b : Bool) → ClauseAt d.clauses i c → symbols ≡ symbol_words ws → cells ≡ write_clause c
      → b ≡ row_tight (symbols_of symbols) (take (length cells - 1) (drop 1 cells)) → b ≡ tight_clause c
  clause-result i c symbols cells b place es ec e =
      e ∙ rw (take_all (length cells - 1) (drop 1 cells) (simp length-drop (omega arith)), es, ← accepted-symbols ws d o, ec)
      (clause-row d.symbols c (clause-at d.symbols d.clauses i c (opened-written ws d o).1.clauses place))

  pub query-result : (q : List Literal) (symbols qs : List ℕ) (b : Bool) → read_query d qs ≡ accepted q → symbols ≡ symbol_words ws → b ≡ row_tight (symbols_of symbols) qs → b ≡ tight_query q
  query-result q symbols qs b r es e =
      let w = query-reads d qs q r in
      e ∙ rw (es, ← accepted-symbols ws d o, w.0) (query-row d.symbols q w.1)

-- CLAUSES, from one on.
clauses-from : (cs : List Clause) (i : ℕ) (c : Clause) → ClauseAt cs i c → tight_clauses (drop i cs) ≡ tight_clause c && tight_clauses (drop (i + 1) cs)
unfolding tight_clauses
clauses-from cs i c e = rw e

pub clauses-next : (cs : List Clause) (i : ℕ) (c : Clause) → ClauseAt cs i c → tight_clause c ≡ true → tight_clauses (drop i cs) ≡ tight_clauses (drop (i + 1) cs)
clauses-next cs i c e t = clauses-from cs i c e ∙ rw t

pub clauses-fail : (cs : List Clause) (i : ℕ) (c : Clause) → ClauseAt cs i c → tight_clause c ≡ false → tight_clauses (drop i cs) ≡ false
clauses-fail cs i c e t = clauses-from cs i c e ∙ rw t

pub clauses-end : (cs : List Clause) (i : ℕ) → length cs ≤ i → tight_clauses (drop i cs) ≡ true
unfolding tight_clauses
clauses-end cs i h = rw (drop_of_length-le cs h)

-- MARKS before the first row.
zeros : (n v : ℕ) → get_or (replicate n 0) v 0 < 1
zeros zero v = omega arith
zeros (suc n) zero = omega arith
zeros (suc n) (suc v) = zeros n v

pub blank-marks : (n : ℕ) → n ≡ 1024 → Below 1 (replicate n 0)
blank-marks n e = record { size = length-replicate {A = ℕ} n 0 ∙ e; below = zeros n }

-- NUMBERS of a deck and a query, test by test.
module _ (d : Deck) (q : List Literal) (clauses query : Bool) (e : clauses ≡ tight_clauses d.clauses) (f : query ≡ tight_query q) where
  pub loose-clause : clauses ≡ false → 13 ≡ checked_number (check_tight_query d q)
  unfolding check_tight_query check_tight and_then require
  loose-clause x = let c : tight_clauses d.clauses ≡ false = sym e ∙ x in rw c

  pub loose-query : clauses ≡ true → query ≡ false → 14 ≡ checked_number (check_tight_query d q)
  unfolding check_tight_query check_tight and_then require
  loose-query x y =
      let c : tight_clauses d.clauses ≡ true = sym e ∙ x in
      let t : tight_query q ≡ false = sym f ∙ y in
      rw (c, t)

  pub none-loose : clauses ≡ true → query ≡ true → 0 ≡ checked_number (check_tight_query d q)
  unfolding check_tight_query check_tight and_then require
  none-loose x y =
      let c : tight_clauses d.clauses ≡ true = sym e ∙ x in
      let t : tight_query q ≡ true = sym f ∙ y in
      rw (c, t)

-- THE WHOLE CHECK: where the words are refused, the check is; where they are accepted, loose variables are left.
pub record Read (ws qs : List ℕ) : Type 0 where
  pub deck : Deck
  pub query : List Literal
  pub opens : open_deck ws ≡ accepted deck
  pub reads : read_query deck qs ≡ accepted query
  pub checks : checked_number (check_query ws qs) ≡ checked_number (check_tight_query deck query)

kept-number : {A B : Type 0} (c : Checked A) (b : B) → checked_number (and_then c (λ _. accepted b)) ≡ checked_number c
unfolding and_then
kept-number (refused n) b = refl
kept-number (accepted a) b = refl

module _ (ws qs : List ℕ) where
  pub words-refused : (n : ℕ) → checked_number (check_words ws qs) ≡ n → (n ≡ 0 → ⊥) → checked_number (check_query ws qs) ≡ n
  unfolding check_words check_query and_then
  words-refused n e h = deck (open_deck ws) e
    where
      query : (d : Deck) (r : Checked (List Literal)) → checked_number r ≡ n → checked_number (and_then r (λ q. and_then (check_tight_query d q) (λ _. accepted q))) ≡ n
      query d (refused m) q = q
      query d (accepted l) q = absurd (h (sym q))

      deck : (o : Checked Deck) → checked_number (and_then o (λ d. read_query d qs)) ≡ n
          → checked_number (and_then o (λ d. and_then (read_query d qs) (λ q. and_then (check_tight_query d q) (λ _. accepted q)))) ≡ n
      deck (refused m) q = q
      deck (accepted d) q = query d (read_query d qs) q

  pub words-read : checked_number (check_words ws qs) ≡ 0 → Read ws qs
  unfolding check_words check_query and_then
  words-read e = deck (open_deck ws) refl e
    where
      query : (d : Deck) → open_deck ws ≡ accepted d → (r : Checked (List Literal)) → read_query d qs ≡ r → checked_number r ≡ 0 → Read ws qs
      query d o (refused m) p z = absurd (omega (arith, number-positive m))
      query d o (accepted q) p z = record { deck = d; query = q; opens = o; reads = p; checks = rw (o, p) (kept-number (check_tight_query d q) q) }

      deck : (o : Checked Deck) → open_deck ws ≡ o → checked_number (and_then o (λ d. read_query d qs)) ≡ 0 → Read ws qs
      deck (refused m) o z = absurd (omega (arith, number-positive m))
      deck (accepted d) o z = query d o (read_query d qs) refl z
