-- A reader that goes forward over the cells, as code does, reads what the written rules read.
use Prim.Native.Nat.{ℕ, zero, suc, ◌+◌, ◌<◌}
use mathlib.Core.Path.{◌≡◌, refl, ap, ap₂, sym, ◌∙◌}
use mathlib.Core.Option.{Option, none, some}
use mathlib.Core.List.{List, [], ◌∷◌}
use native.Mathlib.Omega.{arith}
use lib.ListN.{length}
use Rattle.rules.specs.Terms.{Term, var, app, Terms, nil, cons, count, vars_terms}
use Rattle.rules.specs.Syntax.{Symbol, Literal, pos, neg, vars_literals}
use Rattle.rules.specs.Cells.{write_terms, write_literals, Cell, variable, function, positive, negative, invalid, read_cell, Row, row, read_row, only_literals}
use Rattle.rules.specs.WellFormed.{All, WfTerms, WfLiterals}
use Rattle.rules.proofs.CellLaws.{Small, terms-length, after-terms, other-terms, read_cell-var, read-literals, written_as, Reads, positive-reads, negative-reads, row_reads}

-- Terms read, and the cells left.
pub data Got : Type 0 where
  got : Terms → List ℕ → Got

unfoldable pub with_term : Term → Option Got → Option Got
with_term t none = none
with_term t (some (got ts rest)) = some (got (cons t ts) rest)

unfoldable pub with_arguments : ℕ → (List ℕ → Option Got) → Option Got → Option Got
with_arguments f more none = none
with_arguments f more (some (got ts rest)) = with_term (app f ts) (more rest)

-- The term that begins with a cell, and then the others. `given` reads as many terms as it is told after the cell, `more` the others.
unfoldable pub on_cell : (ℕ → Option Got) → (List ℕ → Option Got) → List ℕ → Cell → Option Got
on_cell given more cs (variable v) = with_term (var v) (more cs)
on_cell given more cs (function f k) = with_arguments f more (given k)
on_cell given more cs (positive p k) = none
on_cell given more cs (negative p k) = none
on_cell given more cs invalid = none

-- k terms from the front of the cells; the first number is greater than the number of cells.
unfoldable pub forward : ℕ → List Symbol → ℕ → List ℕ → Option Got
forward zero S k cs = none
forward (suc n) S zero cs = some (got nil cs)
forward (suc n) S (suc k) [] = none
forward (suc n) S (suc k) (c ∷ cs) = on_cell (λ m. forward n S m cs) (λ rest. forward n S k rest) cs (read_cell S c)

-- What is written is read.
pub forward-complete :
    (n : ℕ) (S : List Symbol) (ts : Terms) (vs rest : List ℕ) → WfTerms S ts → All Small (vars_terms ts vs) → length (write_terms ts rest) < n
    → forward n S (count ts) (write_terms ts rest) ≡ some (got ts rest)
unfolding forward on_cell with_term with_arguments
forward-complete zero S ts vs rest w s l = absurd (omega arith)
forward-complete (suc n) S nil vs rest w s l = refl
forward-complete (suc n) S (cons (var v) ts) vs rest w s l =
    ap (on_cell (λ m. forward n S m (write_terms ts rest)) (λ r. forward n S (count ts) r) (write_terms ts rest)) (read_cell-var S v s.0)
    ∙ ap (with_term (var v)) (forward-complete n S ts vs rest w.1 s.1 (omega arith))
forward-complete (suc n) S (cons (app f us) ts) vs rest w s l =
    ap (on_cell (λ m. forward n S m (write_terms us (write_terms ts rest))) (λ r. forward n S (count ts) r) (write_terms us (write_terms ts rest))) w.0.0
    ∙ ap (with_arguments f (λ r. forward n S (count ts) r)) (forward-complete n S us (vars_terms ts vs) (write_terms ts rest) w.0.1 s (omega arith))
    ∙ ap (with_term (app f us))
    (forward-complete n S ts vs rest w.1 (after-terms Small us (vars_terms ts vs) s) (omega (arith, terms-length us (write_terms ts rest))))

-- What is read was written.
pub record Forward (S : List Symbol) (k : ℕ) (cs : List ℕ) (ts : Terms) (rest : List ℕ) : Type 0 where
  pub written : cs ≡ write_terms ts rest
  pub terms : WfTerms S ts
  pub small : All Small (vars_terms ts [])
  pub many : count ts ≡ k

abbrev ForwardSound : List Symbol → ℕ → List ℕ → Option Got → Type 0
ForwardSound S k cs none = Unit {0}
ForwardSound S k cs (some (got ts rest)) = Forward S k cs ts rest

-- A variable, or a functor and its arguments, in front of terms.
module _ (S : List Symbol) (c : ℕ) (cs : List ℕ) where
  pub variable-forward : (k v : ℕ) (rest : List ℕ) (ts : Terms) → read_cell S c ≡ variable v → Forward S k cs ts rest → Forward S (suc k) (c ∷ cs) (cons (var v) ts) rest
  variable-forward k v rest ts e h =
      let w = written_as S c (variable v) e in
      record { written = ap₂ ◌∷◌ w.0 h.written; terms = (tt, h.terms); small = (w.1, h.small); many = ap suc h.many }

  pub functor-forward :
      (k m f : ℕ) (after rest : List ℕ) (us ts : Terms) → read_cell S c ≡ function f m → Forward S m cs us after → Forward S k after ts rest
      → Forward S (suc k) (c ∷ cs) (cons (app f us) ts) rest
  functor-forward k m f after rest us ts e a h =
      let same : c ≡ f = (written_as S c (function f m) e).0 in
      record {
        written = ap₂ ◌∷◌ same (a.written ∙ ap (write_terms us) h.written);
        terms = ((ap (read_cell S) (sym same) ∙ e ∙ ap (function f) (sym a.many), a.terms), h.terms);
        small = other-terms Small us [] (vars_terms ts []) a.small h.small;
        many = ap suc h.many;
      }

  with_variable-sound : (k v : ℕ) (o : Option Got) → read_cell S c ≡ variable v → ForwardSound S k cs o → ForwardSound S (suc k) (c ∷ cs) (with_term (var v) o)
  unfolding with_term
  with_variable-sound k v none e h = tt
  with_variable-sound k v (some (got ts rest)) e h = variable-forward k v rest ts e h

  with_functor-sound :
      (k m f : ℕ) (after : List ℕ) (us : Terms) (o : Option Got) → read_cell S c ≡ function f m → Forward S m cs us after → ForwardSound S k after o
      → ForwardSound S (suc k) (c ∷ cs) (with_term (app f us) o)
  unfolding with_term
  with_functor-sound k m f after us none e a h = tt
  with_functor-sound k m f after us (some (got ts rest)) e a h = functor-forward k m f after rest us ts e a h

  with_arguments-sound :
      (k m f : ℕ) (more : List ℕ → Option Got) (o : Option Got) → read_cell S c ≡ function f m → ((rest : List ℕ) → ForwardSound S k rest (more rest))
      → ForwardSound S m cs o → ForwardSound S (suc k) (c ∷ cs) (with_arguments f more o)
  unfolding with_arguments
  with_arguments-sound k m f more none e b a = tt
  with_arguments-sound k m f more (some (got us rest)) e b a = with_functor-sound k m f rest us (more rest) e a (b rest)

  on_cell-sound :
      (k : ℕ) (given : ℕ → Option Got) (more : List ℕ → Option Got) (cell : Cell) → read_cell S c ≡ cell → ((m : ℕ) → ForwardSound S m cs (given m))
      → ((rest : List ℕ) → ForwardSound S k rest (more rest)) → ForwardSound S (suc k) (c ∷ cs) (on_cell given more cs cell)
  unfolding on_cell
  on_cell-sound k given more (variable v) e a b = with_variable-sound k v (more cs) e (b cs)
  on_cell-sound k given more (function f m) e a b = with_arguments-sound k m f more (given m) e b (a m)
  on_cell-sound k given more (positive p m) e a b = tt
  on_cell-sound k given more (negative p m) e a b = tt
  on_cell-sound k given more invalid e a b = tt

forward-sound : (n : ℕ) (S : List Symbol) (k : ℕ) (cs : List ℕ) → ForwardSound S k cs (forward n S k cs)
unfolding forward
forward-sound zero S k cs = tt
forward-sound (suc n) S zero cs = record { written = refl; terms = tt; small = tt; many = refl }
forward-sound (suc n) S (suc k) [] = tt
forward-sound (suc n) S (suc k) (c ∷ cs) =
    on_cell-sound S c cs k (λ m. forward n S m cs) (λ rest. forward n S k rest) (read_cell S c) refl (λ m. forward-sound n S m cs) (λ rest. forward-sound n S k rest)

-- Literals.
unfoldable pub with_literal : Literal → Option (List Literal) → Option (List Literal)
with_literal l none = none
with_literal l (some ls) = some (l ∷ ls)

unfoldable pub on_head : (Terms → Literal) → (List ℕ → Option (List Literal)) → Option Got → Option (List Literal)
on_head make more none = none
on_head make more (some (got ts rest)) = with_literal (make ts) (more rest)

unfoldable pub on_first : (ℕ → Option Got) → (List ℕ → Option (List Literal)) → Cell → Option (List Literal)
on_first given more (variable v) = none
on_first given more (function f k) = none
on_first given more (positive p k) = on_head (pos p) more (given k)
on_first given more (negative p k) = on_head (neg p) more (given k)
on_first given more invalid = none

-- Literal by literal to the end; the number is greater than the number of cells.
unfoldable pub forward_literals : ℕ → List Symbol → List ℕ → Option (List Literal)
forward_literals zero S cs = none
forward_literals (suc n) S [] = some []
forward_literals (suc n) S (c ∷ cs) = on_first (λ k. forward (suc (length cs)) S k cs) (λ rest. forward_literals n S rest) (read_cell S c)

literal-complete :
    (n : ℕ) (S : List Symbol) (c : ℕ) (make : Terms → Literal) (cell : Cell) (ts : Terms) (ls : List Literal)
    → ((given : ℕ → Option Got) (more : List ℕ → Option (List Literal)) → on_first given more cell ≡ on_head make more (given (count ts))) → read_cell S c ≡ cell → WfTerms S ts
    → All Small (vars_terms ts (vars_literals ls)) → forward_literals n S (write_literals ls) ≡ some ls
    → forward_literals (suc n) S (c ∷ write_terms ts (write_literals ls)) ≡ some (make ts ∷ ls)
unfolding forward_literals on_head with_literal
literal-complete n S c make cell ts ls first e w s h =
    let cs = write_terms ts (write_literals ls) in
    ap (on_first (λ k. forward (suc (length cs)) S k cs) (λ rest. forward_literals n S rest)) e
    ∙ first (λ k. forward (suc (length cs)) S k cs) (λ rest. forward_literals n S rest)
    ∙ ap (on_head make (λ rest. forward_literals n S rest)) (forward-complete (suc (length cs)) S ts (vars_literals ls) (write_literals ls) w s (omega arith))
    ∙ ap (with_literal (make ts)) h

literals-complete :
    (n : ℕ) (S : List Symbol) (ls : List Literal) → WfLiterals S ls → All Small (vars_literals ls) → length (write_literals ls) < n → forward_literals n S (write_literals ls) ≡ some ls
unfolding forward_literals on_first
literals-complete zero S ls w s l = absurd (omega arith)
literals-complete (suc n) S [] w s l = refl
literals-complete (suc n) S (pos p ts ∷ ls) w s l =
    literal-complete n S p (pos p) (positive p (count ts)) ts ls (λ given more. refl) w.0.0 w.0.1 s
    (literals-complete n S ls w.1 (after-terms Small ts (vars_literals ls) s) (omega (arith, terms-length ts (write_literals ls))))
literals-complete (suc n) S (neg p ts ∷ ls) w s l =
    literal-complete n S (16384 + p) (neg p) (negative p (count ts)) ts ls (λ given more. refl) w.0.0 w.0.1 s
    (literals-complete n S ls w.1 (after-terms Small ts (vars_literals ls) s) (omega (arith, terms-length ts (write_literals ls))))

abbrev LiteralsSound : List Symbol → List ℕ → Option (List Literal) → Type 0
LiteralsSound S cs none = Unit {0}
LiteralsSound S cs (some ls) = Reads S cs nil ls

-- Terms and then literals are a row.
pub forward-row : (S : List Symbol) (k : ℕ) (cs after : List ℕ) (ts : Terms) (ls : List Literal) → Forward S k cs ts after → Reads S after nil ls → Reads S cs ts ls
forward-row S k cs after ts ls a h =
    record {
      written = a.written ∙ ap (write_terms ts) h.written;
      terms = a.terms;
      literals = h.literals;
      small = other-terms Small ts [] (vars_literals ls) a.small h.small;
    }

on_head-sound :
    (S : List Symbol) (c : ℕ) (cs : List ℕ) (make : Terms → Literal) (k : ℕ) (more : List ℕ → Option (List Literal)) (o : Option Got)
    → ((ts : Terms) (ls : List Literal) → count ts ≡ k → Reads S cs ts ls → Reads S (c ∷ cs) nil (make ts ∷ ls))
    → ((rest : List ℕ) → LiteralsSound S rest (more rest)) → ForwardSound S k cs o → LiteralsSound S (c ∷ cs) (on_head make more o)
unfolding on_head with_literal
on_head-sound S c cs make k more none next b a = tt
on_head-sound S c cs make k more (some (got ts rest)) next b a = go (more rest) (b rest)
  where
    go : (o : Option (List Literal)) → LiteralsSound S rest o → LiteralsSound S (c ∷ cs) (with_literal (make ts) o)
    go none m = tt
    go (some ls) m = next ts ls a.many (forward-row S k cs rest ts ls a m)

on_first-sound :
    (S : List Symbol) (c : ℕ) (cs : List ℕ) (given : ℕ → Option Got) (more : List ℕ → Option (List Literal)) (cell : Cell) → read_cell S c ≡ cell
    → ((m : ℕ) → ForwardSound S m cs (given m)) → ((rest : List ℕ) → LiteralsSound S rest (more rest)) → LiteralsSound S (c ∷ cs) (on_first given more cell)
unfolding on_first
on_first-sound S c cs given more (variable v) e a b = tt
on_first-sound S c cs given more (function f k) e a b = tt
on_first-sound S c cs given more (positive p k) e a b = on_head-sound S c cs (pos p) k more (given k) (λ ts ls. positive-reads S c cs ls p k ts e) b (a k)
on_first-sound S c cs given more (negative p k) e a b = on_head-sound S c cs (neg p) k more (given k) (λ ts ls. negative-reads S c cs ls p k ts e) b (a k)
on_first-sound S c cs given more invalid e a b = tt

literals-sound : (n : ℕ) (S : List Symbol) (cs : List ℕ) → LiteralsSound S cs (forward_literals n S cs)
unfolding forward_literals
literals-sound zero S cs = tt
literals-sound (suc n) S [] = record { written = refl; terms = tt; literals = tt; small = tt }
literals-sound (suc n) S (c ∷ cs) =
    on_first-sound S c cs (λ k. forward (suc (length cs)) S k cs) (λ rest. forward_literals n S rest) (read_cell S c) refl
    (λ k. forward-sound (suc (length cs)) S k cs) (λ rest. literals-sound n S rest)

-- The forward reader and the written rules agree on every row of cells.
pub forward-agrees : (S : List Symbol) (cs : List ℕ) → forward_literals (suc (length cs)) S cs ≡ only_literals (read_row S cs)
unfolding only_literals
forward-agrees S cs = go (forward_literals (suc (length cs)) S cs) refl (literals-sound (suc (length cs)) S cs) (read_row S cs) refl
  where
    go : (o : Option (List Literal)) → forward_literals (suc (length cs)) S cs ≡ o → LiteralsSound S cs o → (r : Option Row) → read_row S cs ≡ r → o ≡ only_literals r
    go (some ls) e h r er = ap only_literals (sym (ap (read_row S) h.written ∙ read-literals S ls h.literals h.small) ∙ er)
    go none e h none er = refl
    go none e h (some (row nil ls)) er =
        let k = row_reads S cs nil ls er in
        sym e
        ∙ ap (λ x. forward_literals (suc (length cs)) S x) k.written
        ∙ literals-complete (suc (length cs)) S ls k.literals k.small (omega (arith, ap length k.written))
    go none e h (some (row (cons t ts) ls)) er = refl
