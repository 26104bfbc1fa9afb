-- Literals and symbols as the code reads them: a literal is a term whose first cell is its predicate, and the symbol words say
-- how many terms follow a cell. So the cells of goals and clauses are those of a list of terms, and are read as it.
use Prim.Native.Nat.{ℕ, suc, ◌+◌, ◌-◌, ◌%◌, ◌<◌}
use mathlib.Core.Path.{◌≡◌, refl, sym, ◌∙◌, ap}
use mathlib.Core.Option.{Option, none, some}
use mathlib.Core.List.{List, [], ◌∷◌, ◌++◌}
use native.Mathlib.Omega.{arith}
use lib.ListN.{length, get_or, get_elem?}
use Rattle.rules.specs.Terms.{Term, var, app, Terms, nil, cons, ◌+++◌, count, sizes, vars_terms, renames}
use Rattle.rules.specs.Syntax.{Symbol, functor, predicate, Literal, pos, neg, Clause, Goal, map_literals, map_goal, vars_literals, vars_goal}
use Rattle.rules.specs.Cells.{write_terms, write_literals, function, positive, negative, symbol_cell, negated_cell, read_cell}
use Rattle.rules.specs.Unification.{Substitution, applys}
use Rattle.rules.specs.Decks.{read_symbol, read_all, write_clause}
use Rattle.rules.specs.Goals.{goal_cells}
use Rattle.rules.specs.WellFormed.{WfTerm, WfTerms, WfLiterals, clause_literals}
use Rattle.rules.proofs.TermLaws.{applys-nil, applys-cons, apply-app}
use Rattle.rules.proofs.CellLaws.{literal_sizes, cell-symbol, cell-negated, written_as, write-join, vars-join}
use Rattle.signature.proofs.SymbolLaws.{arity, symbol-known}
use Rattle.matching.specs.Written.{Fit, Fits}

-- LITERALS AS TERMS
abbrev pub lit_term : Literal → Term
lit_term (pos p ts) = app p ts
lit_term (neg p ts) = app (16384 + p) ts

abbrev pub lit_terms : List Literal → Terms
lit_terms [] = nil
lit_terms (l ∷ ls) = cons (lit_term l) (lit_terms ls)

pub lits-append : (ls ms : List Literal) → lit_terms (ls ++ ms) ≡ lit_terms ls +++ lit_terms ms
lits-append [] ms = refl
lits-append (l ∷ ls) ms = ap (cons (lit_term l)) (lits-append ls ms)

lits-cells : (ls : List Literal) → write_terms (lit_terms ls) [] ≡ write_literals ls
lits-cells [] = refl
lits-cells (pos p ts ∷ ls) = ap (λ cs. p ∷ write_terms ts cs) (lits-cells ls)
lits-cells (neg p ts ∷ ls) = ap (λ cs. (16384 + p) ∷ write_terms ts cs) (lits-cells ls)

pub lits-sizes : (ls : List Literal) → sizes (lit_terms ls) ≡ literal_sizes ls
lits-sizes [] = refl
lits-sizes (pos p ts ∷ ls) = ap (suc (sizes ts) +◌) (lits-sizes ls)
lits-sizes (neg p ts ∷ ls) = ap (suc (sizes ts) +◌) (lits-sizes ls)

pub lits-vars : (ls : List Literal) → vars_terms (lit_terms ls) [] ≡ vars_literals ls
lits-vars [] = refl
lits-vars (pos p ts ∷ ls) = ap (vars_terms ts) (lits-vars ls)
lits-vars (neg p ts ∷ ls) = ap (vars_terms ts) (lits-vars ls)

lits-applys : (es : Substitution) (ls : List Literal) → lit_terms (map_literals (applys es) ls) ≡ applys es (lit_terms ls)
lits-applys es [] = sym (applys-nil es)
lits-applys es (pos p ts ∷ ls) = rw (applys-cons, apply-app, lits-applys es ls)
lits-applys es (neg p ts ∷ ls) = rw (applys-cons, apply-app, lits-applys es ls)

pub lits-renames : (ρ : ℕ → ℕ) (ls : List Literal) → lit_terms (map_literals (renames ρ) ls) ≡ renames ρ (lit_terms ls)
lits-renames ρ [] = refl
lits-renames ρ (pos p ts ∷ ls) = ap (cons (app p (renames ρ ts))) (lits-renames ρ ls)
lits-renames ρ (neg p ts ∷ ls) = ap (cons (app (16384 + p) (renames ρ ts))) (lits-renames ρ ls)

pub join-fits : (ar : List ℕ) (ts us : Terms) → Fits ar ts → Fits ar us → Fits ar (ts +++ us)
join-fits ar nil us f g = g
join-fits ar (cons t ts) us f g = (f.0, join-fits ar ts us f.1 g)

pub split-fits : (ar : List ℕ) (ts us : Terms) → Fits ar (ts +++ us) → Fits ar ts × Fits ar us
split-fits ar nil us f = (tt, f)
split-fits ar (cons t ts) us f = let r = split-fits ar ts us f.1 in ((f.0, r.0), r.1)

-- A goal's terms: the answer terms, and then the literals.
abbrev pub goal_terms : Goal → Terms
goal_terms g = g.answer_terms +++ lit_terms g.literals

pub goal-cells : (g : Goal) → goal_cells g ≡ write_terms (goal_terms g) []
unfolding goal_cells
goal-cells g = ap (write_terms g.answer_terms) (sym (lits-cells g.literals)) ∙ sym (write-join g.answer_terms (lit_terms g.literals) [])

pub goal-vars : (g : Goal) → vars_terms (goal_terms g) [] ≡ vars_goal g
goal-vars g = vars-join g.answer_terms (lit_terms g.literals) [] ∙ ap (vars_terms g.answer_terms) (lits-vars g.literals)

pub goal-applys : (es : Substitution) (g : Goal) → goal_terms (map_goal (applys es) g) ≡ applys es g.answer_terms +++ applys es (lit_terms g.literals)
goal-applys es g = ap (applys es g.answer_terms +++◌) (lits-applys es g.literals)

-- A clause's literals as terms.
abbrev pub clause_terms : Clause → Terms
clause_terms c = lit_terms (clause_literals c)

pub clause-cells : (c : Clause) → write_clause c ≡ write_terms (clause_terms c) []
unfolding write_clause
clause-cells c = ap (λ cs. c.predicate ∷ write_terms c.arguments cs) (sym (lits-cells c.body))

-- WELL-FORMED TREES FIT THE SYMBOL WORDS
-- A cell of a symbol with so many terms.
abbrev pub Known : List ℕ → ℕ → ℕ → Type 0
Known ar c k = (c < 32768) × (c % 16384 < length ar) × (get_or ar (c % 16384) 0 % 256 ≡ k)

-- The symbol that a cell stands for.
functor-read : (f k : ℕ) (o : Option Symbol) → symbol_cell f o ≡ function f k → o ≡ some (functor k)
unfolding symbol_cell
functor-read f k none z = cc
functor-read f k (some (functor j)) z = cc
functor-read f k (some (predicate j)) z = cc

predicate-read : (p k : ℕ) (o : Option Symbol) → symbol_cell p o ≡ positive p k → o ≡ some (predicate k)
unfolding symbol_cell
predicate-read p k none z = cc
predicate-read p k (some (functor j)) z = cc
predicate-read p k (some (predicate j)) z = cc

negated-read : (p k : ℕ) (o : Option Symbol) → negated_cell p o ≡ negative p k → o ≡ some (predicate k)
unfolding negated_cell
negated-read p k none z = cc
negated-read p k (some (functor j)) z = cc
negated-read p k (some (predicate j)) z = cc

module _ (ar : List ℕ) (S : List Symbol) (e : read_all read_symbol ar ≡ some S) where
  known_at : (c f : ℕ) (s : Symbol) → c < 32768 → c % 16384 ≡ f → get_elem? S f ≡ some s → Known ar c (arity s)
  known_at c f s l q h = let r = symbol-known ar S e f s h in rw q (l, r.0, r.1)

  function-known : (f k : ℕ) → read_cell S f ≡ function f k → Known ar f k
  function-known f k h =
      let l : f < 16384 = (written_as S f (function f k) h).1 in
      known_at f f (functor k) (omega arith) (omega arith) (functor-read f k (get_elem? S f) (sym (cell-symbol S f l) ∙ h))

  pub positive-known : (p k : ℕ) → read_cell S p ≡ positive p k → Known ar p k
  positive-known p k h =
      let l : p < 16384 = (written_as S p (positive p k) h).1 in
      known_at p p (predicate k) (omega arith) (omega arith) (predicate-read p k (get_elem? S p) (sym (cell-symbol S p l) ∙ h))

  negative-known : (p k : ℕ) → read_cell S (16384 + p) ≡ negative p k → Known ar (16384 + p) k
  negative-known p k h =
      let l : 16384 + p < 32768 = (written_as S (16384 + p) (negative p k) h).1 in
      let m : 16384 + p - 16384 ≡ p = omega arith in
      known_at (16384 + p) p (predicate k) l (omega arith)
      (negated-read p k (get_elem? S p) (ap (λ f. negated_cell f (get_elem? S f)) (sym m) ∙ sym (cell-negated S (16384 + p) (omega arith) l) ∙ h))

  mutual
    term_fits : (t : Term) → WfTerm S t → Fit ar t
    term_fits (var v) w = tt
    term_fits (app f ts) w = let r = function-known f (count ts) w.0 in (r.0, r.1, r.2, terms-fit ts w.1)

    pub terms-fit : (ts : Terms) → WfTerms S ts → Fits ar ts
    terms-fit nil w = tt
    terms-fit (cons t ts) w = (term_fits t w.0, terms-fit ts w.1)

  pub literals-fit : (ls : List Literal) → WfLiterals S ls → Fits ar (lit_terms ls)
  literals-fit [] w = tt
  literals-fit (pos p ts ∷ ls) w = let r = positive-known p (count ts) w.0.0 in ((r.0, r.1, r.2, terms-fit ts w.0.1), literals-fit ls w.1)
  literals-fit (neg p ts ∷ ls) w = let r = negative-known p (count ts) w.0.0 in ((r.0, r.1, r.2, terms-fit ts w.0.1), literals-fit ls w.1)
