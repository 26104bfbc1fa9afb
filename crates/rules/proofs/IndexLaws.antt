-- The index: the derived goals are as without it, since a clause that is not tried has a head that does not match; and it fits
-- 4,096 words.
use Prim.Native.Nat.{ℕ, zero, suc, ◌+◌, ◌*◌, ◌/◌, ◌%◌, ◌≤◌, ◌<◌}
use mathlib.Core.Path.{◌≡◌, refl, sym, ◌∙◌, ap}
use mathlib.Core.Bool.{Bool, true, false}
use mathlib.Core.Option.{Option, none, some}
use mathlib.Core.List.{List, [], ◌∷◌}
use native.Mathlib.Nat.{div-add-mod'}
use native.Mathlib.Omega.{arith}
use lib.ListN.{length, length-append}
use lib.Dec.{ltb, eqb}
use borrow.Author.Tests.{ltb-true, eqb-true, eqb-false, ne_eqb, le-ltb}
use Rattle.rules.specs.Terms.{var, app, Terms, nil, cons}
use Rattle.rules.specs.Syntax.{Symbol, functor, predicate, Literal, Clause, Deck, Goal, top_goal}
use Rattle.rules.specs.Unification.{fails, unify}
use Rattle.rules.specs.Resolution.{clauses_about, fresh, resolved, resolvent, keep_some, collect, resolvents, row_of, in_row, row_clauses, has_rows, tried_by, tried, rows_words, rows_of, index_words, matchings}
use Rattle.rules.specs.Decks.{write_clause, clauses_cells}
use Rattle.rules.specs.WellFormed.{WfDeck}
use Rattle.rules.proofs.NextLaws.{either}
use Rattle.rules.proofs.UnifyLaws.{unify-differ}

-- Fresh variables leave the row as it is.
row-fresh : (N : ℕ) (ts : Terms) → row_of (fresh N ts) ≡ row_of ts
unfolding row_of
row-fresh N nil = refl
row-fresh N (cons (var v) ts) = refl
row-fresh N (cons (app f us) ts) = refl

-- A head of another row does not match: the first equation fails.
other-row : (r : ℕ) (ts us : Terms) → row_of ts ≡ some r → in_row r (row_of us) ≡ false → unify ts us ≡ fails 1
unfolding row_of in_row
other-row r nil us e n = let z : ◌≡◌ {A = ℕ} 0 1 = cc in absurd (omega arith)
other-row r (cons (var v) ts) us e n = let z : ◌≡◌ {A = ℕ} 0 1 = cc in absurd (omega arith)
other-row r (cons (app f vs) ts) nil e n = let z : ◌≡◌ {A = ℕ} 0 1 = cc in absurd (omega arith)
other-row r (cons (app f vs) ts) (cons (var v) us) e n = let z : ◌≡◌ {A = ℕ} 0 1 = cc in absurd (omega arith)
other-row r (cons (app f vs) ts) (cons (app g ws) us) e n =
    let same : f % 16 ≡ r = cc in
    unify-differ ts us f g vs ws (λ q. eqb-false r (g % 16) n (sym same ∙ ap (λ x. x % 16) q))

-- The clauses of a row, and the others, where each of the others comes to nothing.
module _ (r : ℕ) where
  row-taken : (c : Clause) (cs : List Clause) → in_row r (row_of c.arguments) ≡ true → row_clauses r (c ∷ cs) ≡ c ∷ row_clauses r cs
  unfolding row_clauses
  row-taken c cs e = rw (e, row_clauses)

  row-passed : (c : Clause) (cs : List Clause) → in_row r (row_of c.arguments) ≡ false → row_clauses r (c ∷ cs) ≡ row_clauses r cs
  unfolding row_clauses
  row-passed c cs e = rw (e, row_clauses)

  row-collect : (by : Clause → Option Goal) → ((c : Clause) → in_row r (row_of c.arguments) ≡ false → by c ≡ none) → (cs : List Clause)
      → collect by (row_clauses r cs) ≡ collect by cs
  unfolding row_clauses collect keep_some
  row-collect by h [] = refl
  row-collect by h (c ∷ cs) = go (in_row r (row_of c.arguments)) refl (row-collect by h cs)
    where
      go : (b : Bool) → in_row r (row_of c.arguments) ≡ b → collect by (row_clauses r cs) ≡ collect by cs → collect by (row_clauses r (c ∷ cs)) ≡ collect by (c ∷ cs)
      go true e k = rw (row-taken c cs e) (ap (keep_some (by c)) k)
      go false e k = rw (row-passed c cs e, h c e) k

  row-matchings : (N : ℕ) (ts : Terms) → row_of ts ≡ some r → (cs : List Clause)
      → matchings N ts cs + length (row_clauses r cs) ≡ matchings N ts (row_clauses r cs) + length cs
  unfolding row_clauses matchings
  row-matchings N ts w [] = refl
  row-matchings N ts w (c ∷ cs) = go (in_row r (row_of c.arguments)) refl (row-matchings N ts w cs)
    where
      go : (b : Bool) → in_row r (row_of c.arguments) ≡ b → matchings N ts cs + length (row_clauses r cs) ≡ matchings N ts (row_clauses r cs) + length cs
          → matchings N ts (c ∷ cs) + length (row_clauses r (c ∷ cs)) ≡ matchings N ts (row_clauses r (c ∷ cs)) + length (c ∷ cs)
      go true e k = rw (row-taken c cs e) (omega arith)
      go false e k = rw (row-passed c cs e, other-row r ts (fresh N c.arguments) w (rw (row-fresh N c.arguments) e)) (omega arith)

-- What is tried: all, or the clauses of the literal's row.
tried-cases : (P : List Clause → Type 0) (ts : Terms) (cs : List Clause) → P cs → ((r : ℕ) → row_of ts ≡ some r → P (row_clauses r cs)) → P (tried ts cs)
unfolding tried tried_by
tried-cases P ts cs all row = go (has_rows cs) (row_of ts) refl
  where
    go : (b : Bool) (o : Option ℕ) → row_of ts ≡ o → P (tried_by b o cs)
    go false o e = all
    go true none e = all
    go true (some r) e = row r e

-- THE DERIVED GOALS ARE AS WITHOUT THE INDEX.
tried-collect : (N : ℕ) (ans : Terms) (before : List Literal) (ts : Terms) (after : List Literal) (cs : List Clause)
    → collect (resolvent N ans before ts after) (tried ts cs) ≡ collect (resolvent N ans before ts after) cs
unfolding resolvent resolved
tried-collect N ans before ts after cs = tried-cases (λ ds. collect (resolvent N ans before ts after) ds ≡ collect (resolvent N ans before ts after) cs) ts cs refl
    (λ r e. row-collect r (resolvent N ans before ts after) (λ c n. rw (other-row r ts (fresh N c.arguments) e (rw (row-fresh N c.arguments) n))) cs)

pub tried-resolvents : (clauses : List Clause) (g : Goal) (before : List Literal) (p : ℕ) (ts : Terms) (after : List Literal)
    → resolvents clauses g before p ts after ≡ collect (resolvent (top_goal g) g.answer_terms before ts after) (tried ts (clauses_about p clauses))
unfolding resolvents
tried-resolvents clauses g before p ts after = sym (tried-collect (top_goal g) g.answer_terms before ts after (clauses_about p clauses))

-- The cost: each clause that is not tried would have cost 1.
pub tried-matchings : (N : ℕ) (ts : Terms) (cs : List Clause) → matchings N ts cs + length (tried ts cs) ≡ matchings N ts (tried ts cs) + length cs
tried-matchings N ts cs = tried-cases (λ ds. matchings N ts cs + length ds ≡ matchings N ts ds + length cs) ts cs refl (λ r e. row-matchings r N ts e cs)

row-length : (r : ℕ) (cs : List Clause) → length (row_clauses r cs) ≤ length cs
unfolding row_clauses
row-length r [] = omega arith
row-length r (c ∷ cs) = go (in_row r (row_of c.arguments)) refl (row-length r cs)
  where
    go : (b : Bool) → in_row r (row_of c.arguments) ≡ b → length (row_clauses r cs) ≤ length cs → length (row_clauses r (c ∷ cs)) ≤ length (c ∷ cs)
    go true e k = rw (row-taken r c cs e) (omega arith)
    go false e k = rw (row-passed r c cs e) (omega arith)

pub tried-length : (ts : Terms) (cs : List Clause) → length (tried ts cs) ≤ length cs
tried-length ts cs = tried-cases (λ ds. length ds ≤ length cs) ts cs (omega arith) (λ r e. row-length r cs)

-- With 64 clauses or fewer all are tried.
pub tried-few : (ts : Terms) (cs : List Clause) → length cs ≤ 64 → tried ts cs ≡ cs
unfolding tried has_rows tried_by
tried-few ts cs h = rw (le-ltb 64 (length cs) h)

-- THE INDEX FITS 4,096 WORDS, for every deck that opens. A predicate's rows take at most half as many words as it has clauses,
rows-half : (n : ℕ) → 2 * rows_words n ≤ n
unfolding rows_words
rows-half n = either (λ w. 2 * w ≤ n) (ltb 64 n) (16 * ((n + 63) / 64)) 0
    (λ e. omega (arith, ltb-true 64 n e, div-add-mod' (n + 63) 64)) (λ e. omega arith)

symbol-half : (s : Symbol) (n : ℕ) → 2 * rows_of s n ≤ n
unfolding rows_of
symbol-half (functor k) n = omega arith
symbol-half (predicate zero) n = omega arith
symbol-half (predicate (suc k)) n = rows-half n

-- each clause is about one predicate,
abbrev hits : ℕ → ℕ → List Symbol → ℕ
hits q p [] = 0
hits q p (s ∷ symbols) = (elim (eqb q p) as (λ _. ℕ) [ true ↦ 1 | false ↦ 0 ]) + hits q (suc p) symbols

abbrev abouts : List Clause → ℕ → List Symbol → ℕ
abouts cs p [] = 0
abouts cs p (s ∷ symbols) = length (clauses_about p cs) + abouts cs (suc p) symbols

hits-later : (q p : ℕ) (symbols : List Symbol) → q < p → hits q p symbols ≡ 0
hits-later q p [] h = refl
hits-later q p (s ∷ symbols) h = rw (ne_eqb q p (λ e. omega arith), hits-later q (suc p) symbols (omega arith))

hits-once : (q p : ℕ) (symbols : List Symbol) → hits q p symbols ≤ 1
hits-once q p [] = omega arith
hits-once q p (s ∷ symbols) = go (eqb q p) refl (hits-once q (suc p) symbols)
  where
    go : (b : Bool) → eqb q p ≡ b → hits q (suc p) symbols ≤ 1 → (elim b as (λ _. ℕ) [ true ↦ 1 | false ↦ 0 ]) + hits q (suc p) symbols ≤ 1
    go true e h = omega (arith, eqb-true q p e, hits-later q (suc p) symbols (omega (arith, eqb-true q p e)))
    go false e h = omega arith

about-one : (c : Clause) (cs : List Clause) (p : ℕ)
    → length (clauses_about p (c ∷ cs)) ≡ (elim (eqb c.predicate p) as (λ _. ℕ) [ true ↦ 1 | false ↦ 0 ]) + length (clauses_about p cs)
unfolding clauses_about
about-one c cs p = go (eqb c.predicate p)
  where
    go : (b : Bool) → length {A = Clause} (elim b as (λ _. List Clause) [ true ↦ c ∷ clauses_about p cs | false ↦ clauses_about p cs ])
        ≡ (elim b as (λ _. ℕ) [ true ↦ 1 | false ↦ 0 ]) + length (clauses_about p cs)
    go true = omega arith
    go false = omega arith

abouts-none : (p : ℕ) (symbols : List Symbol) → abouts [] p symbols ≡ 0
unfolding clauses_about
abouts-none p [] = refl
abouts-none p (s ∷ symbols) = omega (arith, abouts-none (suc p) symbols)

abouts-one : (c : Clause) (cs : List Clause) (p : ℕ) (symbols : List Symbol) → abouts (c ∷ cs) p symbols ≡ hits c.predicate p symbols + abouts cs p symbols
abouts-one c cs p [] = refl
abouts-one c cs p (s ∷ symbols) = omega (arith, about-one c cs p, abouts-one c cs (suc p) symbols)

abouts-all : (cs : List Clause) (p : ℕ) (symbols : List Symbol) → abouts cs p symbols ≤ length cs
abouts-all [] p symbols = omega (arith, abouts-none p symbols)
abouts-all (c ∷ cs) p symbols = omega (arith, abouts-one c cs p symbols, hits-once c.predicate p symbols, abouts-all cs p symbols)

-- and takes a clause word and a cell at least.
cells-some : (cs : List Clause) → length cs ≤ length (clauses_cells cs)
unfolding clauses_cells write_clause
cells-some [] = omega arith
cells-some (c ∷ cs) = omega (arith, length-append (write_clause c) (clauses_cells cs), cells-some cs)

index-half : (cs : List Clause) (p : ℕ) (symbols : List Symbol) → 2 * index_words cs p symbols ≤ abouts cs p symbols
unfolding index_words
index-half cs p [] = omega arith
index-half cs p (s ∷ symbols) = omega (arith, symbol-half s (length (clauses_about p cs)), index-half cs (suc p) symbols)

pub index-fits : (deck : Deck) → WfDeck deck → index_words deck.clauses 0 deck.symbols ≤ 4096
index-fits deck w = omega (arith, w.total, cells-some deck.clauses, index-half deck.clauses 0 deck.symbols, abouts-all deck.clauses 0 deck.symbols)
