-- The tests of document 02 on cells, for code that goes over a row once and counts no arities: which variables stand in positive literals (U5), and
-- which predicates begin the literals (U8).
use Prim.Native.Nat.{ℕ, ◌+◌, ◌-◌}
use mathlib.Core.Path.{◌≡◌, refl, ap, ap₂, ◌∙◌, sym}
use mathlib.Core.Bool.{Bool, true, false}
use mathlib.Core.List.{List, [], ◌∷◌}
use native.Mathlib.Omega.{arith}
use lib.Dec.{leb}
use borrow.Author.Tests.{le-leb}
use Rattle.rules.specs.Terms.{Term, var, app, Terms, nil, cons, vars_term, vars_terms}
use Rattle.rules.specs.Syntax.{Symbol, Literal, pos, neg, Clause, Goal, map_literals, vars_literals}
use Rattle.rules.specs.Cells.{write_term, write_terms, write_literals, Cell, variable, function, positive, negative, invalid, variable_cell, read_cell}
use Rattle.rules.specs.Decks.{write_clause}
use Rattle.rules.specs.Goals.{goal_cells}
use Rattle.rules.specs.Rights.{predicates}
use Rattle.rules.specs.WellFormed.{All, WfTerm, WfTerms, WfLiterals, WfClause}
use Rattle.rules.specs.Loose.{positives, among, tight}
use Rattle.rules.proofs.NextLaws.{either}
unfoldable pub use Rattle.rules.specs.Loose.{standing_at, standing}
use Rattle.rules.proofs.CellLaws.{Small, read_cell-var, after-term, after-terms}

-- VARIABLES
-- What terms add to the variables that follow, and what literals come to.
abbrev term_adds : Bool → Term → List ℕ → List ℕ
term_adds true t rest = vars_term t rest
term_adds false t rest = rest

abbrev terms_add : Bool → Terms → List ℕ → List ℕ
terms_add true ts rest = vars_terms ts rest
terms_add false ts rest = rest

abbrev kept : Bool → List Literal → List ℕ
kept true ls = vars_literals ls
kept false ls = vars_literals (positives ls)

nil-adds : (b : Bool) (rest : List ℕ) → terms_add b nil rest ≡ rest
nil-adds true rest = refl
nil-adds false rest = refl

cons-adds : (b : Bool) (t : Term) (ts : Terms) (rest : List ℕ) → term_adds b t (terms_add b ts rest) ≡ terms_add b (cons t ts) rest
cons-adds true t ts rest = refl
cons-adds false t ts rest = refl

app-adds : (b : Bool) (f : ℕ) (ts : Terms) (rest : List ℕ) → terms_add b ts rest ≡ term_adds b (app f ts) rest
app-adds true f ts rest = refl
app-adds false f ts rest = refl

pos-adds : (b : Bool) (p : ℕ) (ts : Terms) (ls : List Literal) → vars_terms ts (kept b ls) ≡ kept b (pos p ts ∷ ls)
pos-adds true p ts ls = refl
pos-adds false p ts ls = refl

neg-adds : (b : Bool) (p : ℕ) (ts : Terms) (ls : List Literal) → terms_add b ts (kept b ls) ≡ kept b (neg p ts ∷ ls)
neg-adds true p ts ls = refl
neg-adds false p ts ls = refl

module _ (S : List Symbol) (keep : Bool) where
  variable-stands : (b : Bool) (v : ℕ) (rest : List ℕ) → Small v → standing S keep b ((32768 + v) ∷ rest) ≡ term_adds b (var v) (standing S keep b rest)
  unfolding standing standing_at
  variable-stands true v rest s = ap (λ c. standing_at keep c true (λ b. standing S keep b rest)) (read_cell-var S v s)
  variable-stands false v rest s = ap (λ c. standing_at keep c false (λ b. standing S keep b rest)) (read_cell-var S v s)

  mutual
    unfolding standing standing_at

    term-stands : (t : Term) (b : Bool) (vs rest : List ℕ) → WfTerm S t → All Small (vars_term t vs)
        → standing S keep b (write_term t rest) ≡ term_adds b t (standing S keep b rest)
    term-stands (var v) b vs rest w s = variable-stands b v rest s.0
    term-stands (app f ts) b vs rest w s =
        ap (λ c. standing_at keep c b (λ b. standing S keep b (write_terms ts rest))) w.0
        ∙ terms-stand ts b vs rest w.1 s ∙ app-adds b f ts (standing S keep b rest)

    terms-stand : (ts : Terms) (b : Bool) (vs rest : List ℕ) → WfTerms S ts → All Small (vars_terms ts vs)
        → standing S keep b (write_terms ts rest) ≡ terms_add b ts (standing S keep b rest)
    terms-stand nil b vs rest w s = sym (nil-adds b (standing S keep b rest))
    terms-stand (cons t ts) b vs rest w s =
        term-stands t b (vars_terms ts vs) (write_terms ts rest) w.0 s
        ∙ ap (term_adds b t) (terms-stand ts b vs rest w.1 (after-term Small t (vars_terms ts vs) s)) ∙ cons-adds b t ts (standing S keep b rest)

  literals-stand : (ls : List Literal) (b : Bool) → WfLiterals S ls → All Small (vars_literals ls) → standing S keep b (write_literals ls) ≡ kept keep ls
  unfolding standing standing_at
  literals-stand [] b w s = none keep
    where
      none : (k : Bool) → [] ≡ kept k []
      none true = refl
      none false = refl
  literals-stand (pos p ts ∷ ls) b w s =
      ap (λ c. standing_at keep c b (λ b. standing S keep b (write_terms ts (write_literals ls)))) w.0.0
      ∙ terms-stand ts true (vars_literals ls) (write_literals ls) w.0.1 s
      ∙ ap (vars_terms ts) (literals-stand ls true w.1 (after-terms Small ts (vars_literals ls) s)) ∙ pos-adds keep p ts ls
  literals-stand (neg p ts ∷ ls) b w s =
      ap (λ c. standing_at keep c b (λ b. standing S keep b (write_terms ts (write_literals ls)))) w.0.0
      ∙ terms-stand ts keep (vars_literals ls) (write_literals ls) w.0.1 s
      ∙ ap (terms_add keep ts) (literals-stand ls keep w.1 (after-terms Small ts (vars_literals ls) s)) ∙ neg-adds keep p ts ls

-- THE TEST FOR LOOSE VARIABLES on the cells of a clause after its first, or of a query (with no terms).
pub tight-flat : (S : List Symbol) (ts : Terms) (ls : List Literal) → WfTerms S ts → WfLiterals S ls → All Small (vars_terms ts (vars_literals ls))
    → let cells = write_terms ts (write_literals ls) in tight ts ls ≡ among (standing S true true cells) (standing S false false cells)
unfolding tight
tight-flat S ts ls w v s =
    let r : All Small (vars_literals ls) = after-terms Small ts (vars_literals ls) s in
    ap₂ among
    (sym (terms-stand S true ts true (vars_literals ls) (write_literals ls) w s ∙ ap (vars_terms ts) (literals-stand S true ls true v r)))
    (sym (terms-stand S false ts false (vars_literals ls) (write_literals ls) w s ∙ literals-stand S false ls false v r))

-- PREDICATES
-- The literals that begin in cells, without their terms.
unfoldable pub beginning_at : Cell → List Literal → List Literal
beginning_at (variable v) ls = ls
beginning_at (function f k) ls = ls
beginning_at (positive p k) ls = pos p nil ∷ ls
beginning_at (negative p k) ls = neg p nil ∷ ls
beginning_at invalid ls = ls

unfoldable pub beginning : List Symbol → List ℕ → List Literal
beginning S [] = []
beginning S (c ∷ cs) = beginning_at (read_cell S c) (beginning S cs)

module _ (S : List Symbol) where
  variable-begins : (v : ℕ) (ls : List Literal) → beginning_at (read_cell S (32768 + v)) ls ≡ ls
  unfolding beginning_at read_cell variable_cell
  variable-begins v ls =
      rw (le-leb 32768 (32768 + v) (omega arith), read_cell)
      (either (λ c. beginning_at c ls ≡ ls) (leb (32768 + v - 32768) 1023) (variable (32768 + v - 32768)) invalid (λ e. refl) (λ e. refl))

  mutual
    unfolding beginning beginning_at

    term-begins : (t : Term) (rest : List ℕ) → WfTerm S t → beginning S (write_term t rest) ≡ beginning S rest
    term-begins (var v) rest w = variable-begins v (beginning S rest)
    term-begins (app f ts) rest w = ap (λ c. beginning_at c (beginning S (write_terms ts rest))) w.0 ∙ terms-begin ts rest w.1

    pub terms-begin : (ts : Terms) (rest : List ℕ) → WfTerms S ts → beginning S (write_terms ts rest) ≡ beginning S rest
    terms-begin nil rest w = refl
    terms-begin (cons t ts) rest w = term-begins t (write_terms ts rest) w.0 ∙ terms-begin ts rest w.1

  -- They are the literals, whose ranks do not depend on their terms (`highest-map`), nor do the predicates that they name.
  pub literals-begin : (ls : List Literal) → WfLiterals S ls → beginning S (write_literals ls) ≡ map_literals (λ ts. nil) ls
  unfolding beginning beginning_at
  literals-begin [] w = refl
  literals-begin (pos p ts ∷ ls) w =
      ap (λ c. beginning_at c (beginning S (write_terms ts (write_literals ls)))) w.0.0
      ∙ ap (◌∷◌ (pos p nil)) (terms-begin ts (write_literals ls) w.0.1 ∙ literals-begin ls w.1)
  literals-begin (neg p ts ∷ ls) w =
      ap (λ c. beginning_at c (beginning S (write_terms ts (write_literals ls)))) w.0.0
      ∙ ap (◌∷◌ (neg p nil)) (terms-begin ts (write_literals ls) w.0.1 ∙ literals-begin ls w.1)

-- The predicates that cells name, in order. Of a clause: its head's, and then those of its body. Of a goal: those of its literals.
abbrev pub named_cells : List Symbol → List ℕ → List ℕ
named_cells S cells = predicates (beginning S cells)

bare-predicates : (ls : List Literal) → predicates (map_literals (λ ts. nil) ls) ≡ predicates ls
bare-predicates [] = refl
bare-predicates (pos p ts ∷ ls) = ap (◌∷◌ p) (bare-predicates ls)
bare-predicates (neg p ts ∷ ls) = ap (◌∷◌ p) (bare-predicates ls)

pub literals-name : (S : List Symbol) (ls : List Literal) → WfLiterals S ls → named_cells S (write_literals ls) ≡ predicates ls
literals-name S ls w = ap predicates (literals-begin S ls w) ∙ bare-predicates ls

pub clause-names : (S : List Symbol) (c : Clause) → WfClause S c → named_cells S (write_clause c) ≡ c.predicate ∷ predicates c.body
unfolding write_clause
clause-names S c w = literals-name S (pos c.predicate c.arguments ∷ c.body) w.literals

pub goal-names : (S : List Symbol) (g : Goal) → WfTerms S g.answer_terms → WfLiterals S g.literals → named_cells S (goal_cells g) ≡ predicates g.literals
unfolding goal_cells
goal-names S g a l = ap predicates (terms-begin S g.answer_terms (write_literals g.literals) a) ∙ literals-name S g.literals l
