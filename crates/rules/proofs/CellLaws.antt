-- Writing and reading cells: the lengths of what is written; well-formed terms and literals, once written, are read as themselves;
-- and whatever is read is well formed and written as the cells that it was read from.
use Prim.Native.Nat.{ℕ, zero, suc, ◌+◌, ◌-◌, ◌≤◌, ◌<◌, max}
use mathlib.Core.Path.{◌≡◌, refl, ap, ap₂, sym, ◌∙◌, subst}
use mathlib.Core.Bool.{Bool, true, false, and-eq-true_iff}
use mathlib.Core.Option.{Option, none, some, none-ne-some}
use mathlib.Core.List.{List, [], ◌∷◌, ◌++◌, append_assoc}
use native.Mathlib.Omega.{arith}
use native.Mathlib.Decide.{dec_lt}
use lib.ListN.{length, drop, get_elem?}
use lib.Seq.{drop_at}
use lib.Dec.{leb}
use borrow.Author.Tests.{le-leb, lt-leb, leb-true}
use Rattle.rules.specs.Terms.{Term, var, app, Terms, nil, cons, ◌+++◌, count, size, sizes, vars_term, vars_terms}
use Rattle.rules.specs.Syntax.{Symbol, functor, predicate, Literal, pos, neg, arguments, vars_literals}
use Rattle.rules.specs.Cells.{write_term, write_terms, write_literals, Cell, variable, function, positive, negative, invalid, symbol_cell, negated_cell, variable_cell, read_cell, Taken, taken, take_one, take_terms, Row, row, put_term, put_literal, put_cell, read_row, only_literals, numbered, keep_numbered, read_literals}
pub use Rattle.rules.specs.Cells.{literal_sizes}
use Rattle.rules.specs.WellFormed.{All, WfTerm, WfTerms, WfLiterals, InOrder}
use Rattle.rules.proofs.ListLaws.{all-weaken}
use Rattle.rules.proofs.TermLaws.{join-nil}

-- A variable's number that a cell can hold.
abbrev pub Small : ℕ → Type 0
Small v = v ≤ 1023

-- Lengths.
mutual
  pub term-length : (t : Term) (rest : List ℕ) → length (write_term t rest) ≡ size t + length rest
  term-length (var v) rest = omega arith
  term-length (app f ts) rest = omega (arith, terms-length ts rest)

  pub terms-length : (ts : Terms) (rest : List ℕ) → length (write_terms ts rest) ≡ sizes ts + length rest
  terms-length nil rest = omega arith
  terms-length (cons t ts) rest = omega (arith, term-length t (write_terms ts rest), terms-length ts rest)

pub literals-length : (ls : List Literal) → length (write_literals ls) ≡ literal_sizes ls
literals-length [] = refl
literals-length (pos p ts ∷ ls) = omega (arith, terms-length ts (write_literals ls), literals-length ls)
literals-length (neg p ts ∷ ls) = omega (arith, terms-length ts (write_literals ls), literals-length ls)

pub row-length : (ts : Terms) (ls : List Literal) → length (write_terms ts (write_literals ls)) ≡ sizes ts + literal_sizes ls
row-length ts ls = omega (arith, terms-length ts (write_literals ls), literals-length ls)

-- What follows is put behind.
mutual
  write-term-append : (t : Term) (rest : List ℕ) → write_term t rest ≡ write_term t [] ++ rest
  write-term-append (var v) rest = refl
  write-term-append (app f ts) rest = ap {B = List ℕ} (λ x. f ∷ x) (write-append ts rest)

  pub write-append : (ts : Terms) (rest : List ℕ) → write_terms ts rest ≡ write_terms ts [] ++ rest
  write-append nil rest = refl
  write-append (cons t ts) rest =
      write-term-append t (write_terms ts rest)
      ∙ ap (write_term t [] ++◌) (write-append ts rest)
      ∙ sym (append_assoc (write_term t []) (write_terms ts []) rest)
      ∙ ap (◌++ rest) (sym (write-term-append t (write_terms ts [])))

literal-append :
    (ts : Terms) (ls ms : List Literal) → write_literals (ls ++ ms) ≡ write_literals ls ++ write_literals ms
    → write_terms ts (write_literals (ls ++ ms)) ≡ write_terms ts (write_literals ls) ++ write_literals ms
literal-append ts ls ms e =
    ap (write_terms ts) e
    ∙ write-append ts (write_literals ls ++ write_literals ms)
    ∙ sym (append_assoc (write_terms ts []) (write_literals ls) (write_literals ms))
    ∙ ap (◌++ write_literals ms) (sym (write-append ts (write_literals ls)))

pub write_literals-append : (ls ms : List Literal) → write_literals (ls ++ ms) ≡ write_literals ls ++ write_literals ms
write_literals-append [] ms = refl
write_literals-append (pos p ts ∷ ls) ms = ap {B = List ℕ} (λ x. p ∷ x) (literal-append ts ls ms (write_literals-append ls ms))
write_literals-append (neg p ts ∷ ls) ms = ap {B = List ℕ} (λ x. (16384 + p) ∷ x) (literal-append ts ls ms (write_literals-append ls ms))

pub drop-terms : (ts : Terms) (rest : List ℕ) → drop (sizes ts) (write_terms ts rest) ≡ rest
drop-terms ts rest = ap (drop (sizes ts)) (write-append ts rest) ∙ drop_at (write_terms ts []) rest (sizes ts) (omega (arith, terms-length ts []))

-- There are no more variables than cells.
mutual
  term-vars : (t : Term) (vs : List ℕ) → length (vars_term t vs) ≤ size t + length vs
  term-vars (var v) vs = omega arith
  term-vars (app f ts) vs = omega (arith, terms-vars ts vs)

  pub terms-vars : (ts : Terms) (vs : List ℕ) → length (vars_terms ts vs) ≤ sizes ts + length vs
  terms-vars nil vs = omega arith
  terms-vars (cons t ts) vs = omega (arith, term-vars t (vars_terms ts vs), terms-vars ts vs)

pub literals-vars : (ls : List Literal) → length (vars_literals ls) ≤ literal_sizes ls
literals-vars [] = omega arith
literals-vars (l ∷ ls) = omega (arith, terms-vars (arguments l) (vars_literals ls), literals-vars ls)

-- Variables in order are below their number.
pub numbered_below : (bound next : ℕ) (vs : List ℕ) → numbered next vs ≡ true → next + length vs ≤ bound → All (λ v. v < bound) vs
unfolding numbered
numbered_below bound next [] e h = tt
numbered_below bound next (v ∷ vs) e h =
    let b = (and-eq-true_iff (leb v next) (numbered (max next (suc v)) vs)).0 e in
    let l : v ≤ next = leb-true v next b.0 in
    (omega arith, numbered_below bound (max next (suc v)) vs b.1 (omega arith))

-- Of variables in order, at most 1,024 of them, each can be held.
pub in_order-small : (vs : List ℕ) → InOrder vs → length vs ≤ 1024 → All Small vs
in_order-small vs e h = all-weaken (λ v. v < 1024) Small (λ v l. omega arith) vs (numbered_below 1024 0 vs e (omega arith))

-- One list of terms and then another.
pub write-join : (ts us : Terms) (rest : List ℕ) → write_terms (ts +++ us) rest ≡ write_terms ts (write_terms us rest)
write-join nil us rest = refl
write-join (cons t ts) us rest = ap (write_term t) (write-join ts us rest)

pub vars-join : (ts us : Terms) (vs : List ℕ) → vars_terms (ts +++ us) vs ≡ vars_terms ts (vars_terms us vs)
vars-join nil us vs = refl
vars-join (cons t ts) us vs = ap (vars_term t) (vars-join ts us vs)

pub wf-split : (S : List Symbol) (ts us : Terms) → WfTerms S (ts +++ us) → WfTerms S ts × WfTerms S us
wf-split S nil us w = (tt, w)
wf-split S (cons t ts) us w = let r = wf-split S ts us w.1 in ((w.0, r.0), r.1)

mutual
  pub after-term : (P : ℕ → Type 0) (t : Term) (vs : List ℕ) → All P (vars_term t vs) → All P vs
  after-term P (var v) vs h = h.1
  after-term P (app f ts) vs h = after-terms P ts vs h

  -- What holds of the variables of terms and of others holds of the others.
  pub after-terms : (P : ℕ → Type 0) (ts : Terms) (vs : List ℕ) → All P (vars_terms ts vs) → All P vs
  after-terms P nil vs h = h
  after-terms P (cons t ts) vs h = after-terms P ts vs (after-term P t (vars_terms ts vs) h)

mutual
  other-term : (P : ℕ → Type 0) (t : Term) (us vs : List ℕ) → All P (vars_term t us) → All P vs → All P (vars_term t vs)
  other-term P (var v) us vs h k = (h.0, k)
  other-term P (app f ts) us vs h k = other-terms P ts us vs h k

  -- It holds of them with other variables after them.
  pub other-terms : (P : ℕ → Type 0) (ts : Terms) (us vs : List ℕ) → All P (vars_terms ts us) → All P vs → All P (vars_terms ts vs)
  other-terms P nil us vs h k = k
  other-terms P (cons t ts) us vs h k =
      other-term P t (vars_terms ts us) (vars_terms ts vs) h (other-terms P ts us vs (after-term P t (vars_terms ts us) h) k)

-- A term, terms in front of what is read.
unfoldable pub push_term : Term → Option Row → Option Row
push_term t none = none
push_term t (some (row ts ls)) = some (row (cons t ts) ls)

unfoldable pub push_terms : Terms → Option Row → Option Row
push_terms nil r = r
push_terms (cons t ts) r = push_term t (push_terms ts r)

push_terms-none : (ts : Terms) → push_terms ts none ≡ none
unfolding push_terms push_term
push_terms-none nil = refl
push_terms-none (cons t ts) = ap (push_term t) (push_terms-none ts)

pub push_terms-some : (ts us : Terms) (ls : List Literal) → push_terms ts (some (row us ls)) ≡ some (row (ts +++ us) ls)
unfolding push_terms push_term
push_terms-some nil us ls = refl
push_terms-some (cons t ts) us ls = ap (push_term t) (push_terms-some ts us ls)

pub take-join : (ts us : Terms) → take_terms (count ts) (ts +++ us) ≡ some (taken ts us)
unfolding take_terms take_one
take-join nil us = refl
take-join (cons t ts) us = ap (take_one t) (take-join ts us)

put_function : (f : ℕ) (ts : Terms) (r : Option Row) → put_cell (function f (count ts)) (push_terms ts r) ≡ push_term (app f ts) r
unfolding put_cell push_term put_term
put_function f ts none = ap (put_cell (function f (count ts))) (push_terms-none ts)
put_function f ts (some (row us ls)) = ap (put_cell (function f (count ts))) (push_terms-some ts us ls) ∙ ap (put_term f ls) (take-join ts us)

put-var : (v : ℕ) (r : Option Row) → put_cell (variable v) r ≡ push_term (var v) r
unfolding put_cell push_term
put-var v none = refl
put-var v (some (row ts ls)) = refl

-- What a cell stands for goes by its range.
pub cell-symbol : (S : List Symbol) (c : ℕ) → c < 16384 → read_cell S c ≡ symbol_cell c (get_elem? S c)
unfolding read_cell
cell-symbol S c h = rw (lt-leb 32768 c (omega arith), lt-leb 16384 c h, read_cell)

pub cell-negated : (S : List Symbol) (c : ℕ) → 16384 ≤ c → c < 32768 → read_cell S c ≡ negated_cell (c - 16384) (get_elem? S (c - 16384))
unfolding read_cell
cell-negated S c l h = rw (lt-leb 32768 c h, le-leb 16384 c l, read_cell)

pub cell-variable : (S : List Symbol) (c : ℕ) → 32768 ≤ c → read_cell S c ≡ variable_cell (c - 32768)
unfolding read_cell
cell-variable S c l = rw (le-leb 32768 c l, read_cell)

pub read_cell-var : (S : List Symbol) (v : ℕ) → Small v → read_cell S (32768 + v) ≡ variable v
unfolding variable_cell
read_cell-var S v h =
    let n : 32768 + v - 32768 ≡ v = omega arith in
    cell-variable S (32768 + v) (omega arith) ∙ ap variable_cell n ∙ rw (le-leb v 1023 h, variable_cell)

-- What is written is read.
mutual
  unfolding read_row push_terms

  pub read-term : (S : List Symbol) (t : Term) (vs rest : List ℕ) → WfTerm S t → All Small (vars_term t vs) → read_row S (write_term t rest) ≡ push_term t (read_row S rest)
  read-term S (var v) vs rest w h = ap (λ c. put_cell c (read_row S rest)) (read_cell-var S v h.0) ∙ put-var v (read_row S rest)
  read-term S (app f ts) vs rest w h = ap₂ put_cell w.0 (read-terms S ts vs rest w.1 h) ∙ put_function f ts (read_row S rest)

  pub read-terms : (S : List Symbol) (ts : Terms) (vs rest : List ℕ) → WfTerms S ts → All Small (vars_terms ts vs) → read_row S (write_terms ts rest) ≡ push_terms ts (read_row S rest)
  read-terms S nil vs rest w h = refl
  read-terms S (cons t ts) vs rest w h =
      read-term S t (vars_terms ts vs) (write_terms ts rest) w.0 h
      ∙ ap (push_term t) (read-terms S ts vs rest w.1 (after-term Small t (vars_terms ts vs) h))

read-literal :
    (S : List Symbol) (c : ℕ) (make : Terms → Literal) (cell : Cell) (ts : Terms) (ls : List Literal)
    → ((r : Terms) → put_cell cell (some (row r ls)) ≡ put_literal make ls (take_terms (count ts) r)) → read_cell S c ≡ cell → WfTerms S ts
    → All Small (vars_terms ts (vars_literals ls)) → read_row S (write_literals ls) ≡ some (row nil ls)
    → read_row S (c ∷ write_terms ts (write_literals ls)) ≡ some (row nil (make ts ∷ ls))
unfolding read_row put_literal
read-literal S c make cell ts ls put e w s h =
    ap₂ put_cell e (read-terms S ts (vars_literals ls) (write_literals ls) w s ∙ ap (push_terms ts) h ∙ push_terms-some ts nil ls)
    ∙ put (ts +++ nil)
    ∙ ap (put_literal make ls) (take-join ts nil)

pub read-literals : (S : List Symbol) (ls : List Literal) → WfLiterals S ls → All Small (vars_literals ls) → read_row S (write_literals ls) ≡ some (row nil ls)
unfolding read_row put_cell
read-literals S [] w s = refl
read-literals S (pos p ts ∷ ls) w s =
    read-literal S p (pos p) (positive p (count ts)) ts ls (λ r. refl) w.0.0 w.0.1 s (read-literals S ls w.1 (after-terms Small ts (vars_literals ls) s))
read-literals S (neg p ts ∷ ls) w s =
    read-literal S (16384 + p) (neg p) (negative p (count ts)) ts ls (λ r. refl) w.0.0 w.0.1 s
    (read-literals S ls w.1 (after-terms Small ts (vars_literals ls) s))

pub read-row :
    (S : List Symbol) (ts : Terms) (ls : List Literal) → WfTerms S ts → WfLiterals S ls → All Small (vars_terms ts (vars_literals ls))
    → read_row S (write_terms ts (write_literals ls)) ≡ some (row ts ls)
read-row S ts ls w v s =
    read-terms S ts (vars_literals ls) (write_literals ls) w s
    ∙ ap (push_terms ts) (read-literals S ls v (after-terms Small ts (vars_literals ls) s))
    ∙ push_terms-some ts nil ls
    ∙ ap (λ us. some (row us ls)) (join-nil ts)

-- Literals in order.
pub read-in_order :
    (S : List Symbol) (ls : List Literal) → WfLiterals S ls → InOrder (vars_literals ls) → length (write_literals ls) ≤ 1024 → read_literals S (write_literals ls) ≡ some ls
unfolding read_literals only_literals keep_numbered
read-in_order S ls w e h =
    let few : length (vars_literals ls) ≤ 1024 = omega (arith, literals-vars ls, literals-length ls) in
    rw (read-literals S ls w (in_order-small (vars_literals ls) e few)) (rw (e, keep_numbered))

-- What is read was written. The cell that stands for a variable or a symbol.
abbrev pub Written : Cell → ℕ → Type 0
Written (variable v) c = (c ≡ 32768 + v) × Small v
Written (function f k) c = (c ≡ f) × (c < 16384)
Written (positive p k) c = (c ≡ p) × (c < 16384)
Written (negative p k) c = (c ≡ 16384 + p) × (c < 32768)
Written invalid c = Unit {0}

symbol-written : (c : ℕ) (o : Option Symbol) → c < 16384 → Written (symbol_cell c o) c
unfolding symbol_cell
symbol-written c none h = tt
symbol-written c (some (functor k)) h = (refl, h)
symbol-written c (some (predicate k)) h = (refl, h)

negated-written : (c n : ℕ) (o : Option Symbol) → c ≡ 16384 + n → c < 32768 → Written (negated_cell n o) c
unfolding negated_cell
negated-written c n none e h = tt
negated-written c n (some (functor k)) e h = tt
negated-written c n (some (predicate k)) e h = (e, h)

variable-written : (c v : ℕ) → c ≡ 32768 + v → Written (variable_cell v) c
unfolding variable_cell
variable-written c v e = go (leb v 1023) refl
  where
    go : (b : Bool) → leb v 1023 ≡ b → Written (variable_cell v) c
    go true q = rw (q, variable_cell) (e, leb-true v 1023 q)
    go false q = rw (q, variable_cell) tt

pub cell-written : (S : List Symbol) (c : ℕ) → Written (read_cell S c) c
cell-written S c = go (dec_lt c 16384) (dec_lt c 32768)
  where
    go : Dec (c < 16384) → Dec (c < 32768) → Written (read_cell S c) c
    go (yes a) d = rw (cell-symbol S c a) (symbol-written c (get_elem? S c) a)
    go (no a) (yes b) = rw (cell-negated S c (omega arith) b) (negated-written c (c - 16384) (get_elem? S (c - 16384)) (omega arith) b)
    go (no a) (no b) = rw (cell-variable S c (omega arith)) (variable-written c (c - 32768) (omega arith))

pub written_as : (S : List Symbol) (c : ℕ) (cell : Cell) → read_cell S c ≡ cell → Written cell c
written_as S c cell e = subst (λ x. Written x c) e (cell-written S c)

-- A predicate is one of the symbols.
pub elem_below : (S : List Symbol) (i : ℕ) (s : Symbol) → get_elem? S i ≡ some s → i < length S
elem_below [] i s e = absurd (none-ne-some s e)
elem_below (t ∷ S) zero s e = omega arith
elem_below (t ∷ S) (suc i) s e = omega (arith, elem_below S i s e)

pub positive-below : (S : List Symbol) (p k : ℕ) → read_cell S p ≡ positive p k → p < length S
unfolding symbol_cell
positive-below S p k e = go (get_elem? S p) refl (sym (cell-symbol S p (written_as S p (positive p k) e).1) ∙ e)
  where
    go : (o : Option Symbol) → get_elem? S p ≡ o → symbol_cell p o ≡ positive p k → p < length S
    go none q z = let n : ◌≡◌ {A = ℕ} 0 1 = cc in omega arith
    go (some s) q z = elem_below S p s q

-- The row that cells are the writing of.
pub record Reads (S : List Symbol) (cs : List ℕ) (ts : Terms) (ls : List Literal) : Type 0 where
  pub written : cs ≡ write_terms ts (write_literals ls)
  pub terms : WfTerms S ts
  pub literals : WfLiterals S ls
  pub small : All Small (vars_terms ts (vars_literals ls))

-- A cell in front of the terms that it takes.
module _ (S : List Symbol) (c : ℕ) (cs : List ℕ) (ls : List Literal) where
  pub variable-reads : (v : ℕ) (ts : Terms) → read_cell S c ≡ variable v → Reads S cs ts ls → Reads S (c ∷ cs) (cons (var v) ts) ls
  variable-reads v ts e r =
      let w = written_as S c (variable v) e in
      record { written = ap₂ ◌∷◌ w.0 r.written; terms = (tt, r.terms); literals = r.literals; small = (w.1, r.small) }

  pub functor-reads :
      (f k : ℕ) (front others : Terms) → read_cell S c ≡ function f k → count front ≡ k → Reads S cs (front +++ others) ls → Reads S (c ∷ cs) (cons (app f front) others) ls
  functor-reads f k front others e n r =
      let w = wf-split S front others r.terms in
      let same : c ≡ f = (written_as S c (function f k) e).0 in
      record {
        written = ap₂ ◌∷◌ same (r.written ∙ write-join front others (write_literals ls));
        terms = ((ap (read_cell S) (sym same) ∙ e ∙ ap (function f) (sym n), w.0), w.1);
        literals = r.literals;
        small = rw vars-join at r.small;
      }

  pub positive-reads : (p k : ℕ) (ts : Terms) → read_cell S c ≡ positive p k → count ts ≡ k → Reads S cs ts ls → Reads S (c ∷ cs) nil (pos p ts ∷ ls)
  positive-reads p k ts e n r =
      let same : c ≡ p = (written_as S c (positive p k) e).0 in
      record {
        written = ap₂ ◌∷◌ same r.written;
        terms = tt;
        literals = ((ap (read_cell S) (sym same) ∙ e ∙ ap (positive p) (sym n), r.terms), r.literals);
        small = r.small;
      }

  pub negative-reads : (p k : ℕ) (ts : Terms) → read_cell S c ≡ negative p k → count ts ≡ k → Reads S cs ts ls → Reads S (c ∷ cs) nil (neg p ts ∷ ls)
  negative-reads p k ts e n r =
      let same : c ≡ 16384 + p = (written_as S c (negative p k) e).0 in
      record {
        written = ap₂ ◌∷◌ same r.written;
        terms = tt;
        literals = ((ap (read_cell S) (sym same) ∙ e ∙ ap (negative p) (sym n), r.terms), r.literals);
        small = r.small;
      }

-- What is read of cells, if anything, is their row.
abbrev Sound : List Symbol → List ℕ → Option Row → Type 0
Sound S cs none = Unit {0}
Sound S cs (some (row ts ls)) = Reads S cs ts ls

abbrev Takes : ℕ → Terms → Option Taken → Type 0
Takes k ts none = Unit {0}
Takes k ts (some (taken front others)) = (ts ≡ front +++ others) × (count front ≡ k)

take_one-takes : (k : ℕ) (t : Term) (ts : Terms) (o : Option Taken) → Takes k ts o → Takes (suc k) (cons t ts) (take_one t o)
unfolding take_one
take_one-takes k t ts none h = tt
take_one-takes k t ts (some (taken front others)) h = (ap (cons t) h.0, ap suc h.1)

takes : (k : ℕ) (ts : Terms) → Takes k ts (take_terms k ts)
unfolding take_terms
takes zero ts = (refl, refl)
takes (suc k) nil = tt
takes (suc k) (cons t ts) = take_one-takes k t ts (take_terms k ts) (takes k ts)

put_term-sound :
    (S : List Symbol) (c : ℕ) (cs : List ℕ) (f k : ℕ) (ts : Terms) (ls : List Literal) (o : Option Taken) → read_cell S c ≡ function f k → Takes k ts o
    → Reads S cs ts ls → Sound S (c ∷ cs) (put_term f ls o)
unfolding put_term
put_term-sound S c cs f k ts ls none e h r = tt
put_term-sound S c cs f k ts ls (some (taken front others)) e h r = functor-reads S c cs ls f k front others e h.1 (rw h.0 at r)

put_literal-sound :
    (S : List Symbol) (c : ℕ) (cs : List ℕ) (make : Terms → Literal) (k : ℕ) (ts : Terms) (ls : List Literal) (o : Option Taken)
    → ((us : Terms) → count us ≡ k → Reads S cs us ls → Reads S (c ∷ cs) nil (make us ∷ ls)) → Takes k ts o → Reads S cs ts ls
    → Sound S (c ∷ cs) (put_literal make ls o)
unfolding put_literal
put_literal-sound S c cs make k ts ls none next h r = tt
put_literal-sound S c cs make k ts ls (some (taken front nil)) next h r = next front h.1 (rw (h.0 ∙ join-nil front) at r)
put_literal-sound S c cs make k ts ls (some (taken front (cons u us))) next h r = tt

put-sound : (S : List Symbol) (c : ℕ) (cs : List ℕ) (cell : Cell) (o : Option Row) → read_cell S c ≡ cell → Sound S cs o → Sound S (c ∷ cs) (put_cell cell o)
unfolding put_cell
put-sound S c cs cell none e r = tt
put-sound S c cs (variable v) (some (row ts ls)) e r = variable-reads S c cs ls v ts e r
put-sound S c cs (function f k) (some (row ts ls)) e r = put_term-sound S c cs f k ts ls (take_terms k ts) e (takes k ts) r
put-sound S c cs (positive p k) (some (row ts ls)) e r =
    put_literal-sound S c cs (pos p) k ts ls (take_terms k ts) (λ us. positive-reads S c cs ls p k us e) (takes k ts) r
put-sound S c cs (negative p k) (some (row ts ls)) e r =
    put_literal-sound S c cs (neg p) k ts ls (take_terms k ts) (λ us. negative-reads S c cs ls p k us e) (takes k ts) r
put-sound S c cs invalid (some (row ts ls)) e r = tt

row-sound : (S : List Symbol) (cs : List ℕ) → Sound S cs (read_row S cs)
unfolding read_row
row-sound S [] = record { written = refl; terms = tt; literals = tt; small = tt }
row-sound S (c ∷ cs) = put-sound S c cs (read_cell S c) (read_row S cs) refl (row-sound S cs)

pub row_reads : (S : List Symbol) (cs : List ℕ) (ts : Terms) (ls : List Literal) → read_row S cs ≡ some (row ts ls) → Reads S cs ts ls
row_reads S cs ts ls e = subst (Sound S cs) e (row-sound S cs)

-- The same where only literals are to be read, and where they are to be in order.
pub literals-reads : (S : List Symbol) (cs : List ℕ) (ls : List Literal) → only_literals (read_row S cs) ≡ some ls → Reads S cs nil ls
unfolding only_literals
literals-reads S cs ls e = go (read_row S cs) (row-sound S cs) e
  where
    go : (o : Option Row) → Sound S cs o → only_literals o ≡ some ls → Reads S cs nil ls
    go none r q = absurd (none-ne-some ls q)
    go (some (row nil ls')) r q = let l : ls' ≡ ls = cc in rw l at r
    go (some (row (cons t ts) ls')) r q = absurd (none-ne-some ls q)

pub in_order-reads : (S : List Symbol) (cs : List ℕ) (ls : List Literal) → read_literals S cs ≡ some ls → Reads S cs nil ls × InOrder (vars_literals ls)
unfolding read_literals keep_numbered
in_order-reads S cs ls e = go (only_literals (read_row S cs)) refl e
  where
    kept : (ls' : List Literal) (b : Bool) → numbered 0 (vars_literals ls') ≡ b → keep_numbered (some ls') ≡ some ls → (ls' ≡ ls) × InOrder (vars_literals ls)
    kept ls' true n q =
        let k : keep_numbered (some ls') ≡ some ls' = rw (n, keep_numbered) in
        let l : ls' ≡ ls = cc in
        (l, rw l at n)
    kept ls' false n q =
        let k : keep_numbered (some ls') ≡ none = rw (n, keep_numbered) in
        absurd (none-ne-some ls (sym k ∙ q))

    go : (o : Option (List Literal)) → only_literals (read_row S cs) ≡ o → keep_numbered o ≡ some ls → Reads S cs nil ls × InOrder (vars_literals ls)
    go none r q = absurd (none-ne-some ls q)
    go (some ls') r q = let k = kept ls' (numbered 0 (vars_literals ls')) refl q in (literals-reads S cs ls (r ∙ ap some k.0), k.1)
