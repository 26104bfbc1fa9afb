-- Cells scanned forward pass exactly if they are read as literals whose variables are numbered in order, and for a clause if the first is a head besides.
use Prim.Native.Nat.{ℕ, zero, suc, ◌+◌, ◌<◌, max}
use mathlib.Core.Path.{◌≡◌, refl, ap, sym, ◌∙◌}
use mathlib.Core.Bool.{Bool, true, false, ◌&&◌, and-false}
use mathlib.Core.Option.{Option, none, some}
use mathlib.Core.List.{List, [], ◌∷◌}
use native.Mathlib.Omega.{arith}
use lib.ListN.{length, get_or}
use lib.Dec.{leb, eqb, eqb-suc-suc}
use borrow.Author.Tests.{eq-eqb, ne_eqb}
use Rattle.rules.specs.Terms.{Terms, nil, cons, ◌+++◌, count, vars_terms}
use Rattle.rules.specs.Syntax.{Symbol, Literal, pos, neg, arguments, vars_literals}
use Rattle.rules.specs.Cells.{Cell, variable, function, positive, negative, invalid, read_cell, Taken, taken, take_one, take_terms, Row, row, put_term, put_literal, put_cell, read_row, only_literals, numbered, keep_numbered, read_literals}
use Rattle.rules.specs.Decks.{head_and_body, read_clause}
use Rattle.rules.proofs.TermLaws.{count-join}
use Rattle.rules.proofs.CellLaws.{vars-join}
use Rattle.deck.specs.declared.kinds.Kind.{Kind}
use Rattle.deck.specs.declared.kinds.Kind.TheVariants.{Variable, Function, Positive, Negative, Invalid}
use Rattle.deck.specs.Answers.{found}
use Rattle.deck.specs.Kinds.{kind_of}
use Rattle.deck.specs.Scan.{scan_cell, scan}
use Rattle.deck.proofs.BoolLaws.{and-swap, eqb_same}
use Rattle.deck.proofs.KindLaws.{if_positive}

-- What the scan says of a row that is read: its terms are those to come, and its variables are in order.
abbrev pub scan_row : Option Row → ℕ → ℕ → Bool
scan_row none todo next = false
scan_row (some (row ts ls)) todo next = eqb (count ts) todo && numbered next (vars_terms ts (vars_literals ls))

-- The first k terms and the others, or that there are fewer.
abbrev Split : ℕ → Terms → Option Taken → Type 0
Split k ts none = count ts < k
Split k ts (some (taken front others)) = (ts ≡ front +++ others) × (count front ≡ k)

split_one : (k : ℕ) (t : _) (ts : Terms) (o : Option Taken) → Split k ts o → Split (suc k) (cons t ts) (take_one t o)
unfolding take_one
split_one k t ts none h = omega arith
split_one k t ts (some (taken front others)) h = (ap (cons t) h.0, ap suc h.1)

split : (k : ℕ) (ts : Terms) → Split k ts (take_terms k ts)
unfolding take_terms
split zero ts = (refl, refl)
split (suc k) nil = omega arith
split (suc k) (cons t ts) = split_one k t ts (take_terms k ts) (split k ts)

-- Nothing passes in front of what does not pass.
scan-none : (k : Kind) (todo next : ℕ) (go : ℕ → ℕ → Bool) → ((t n : ℕ) → go t n ≡ false) → scan_cell k todo next go ≡ false
unfolding scan_cell
scan-none (Variable v) zero next go h = refl
scan-none (Variable v) (suc todo) next go h = rw (h todo (max next (suc v)), and-false)
scan-none (Function k) zero next go h = refl
scan-none (Function k) (suc todo) next go h = h (k + todo) next
scan-none (Positive k) zero next go h = h k next
scan-none (Positive k) (suc todo) next go h = refl
scan-none (Negative k) zero next go h = h k next
scan-none (Negative k) (suc todo) next go h = refl
scan-none Invalid todo next go h = refl

-- A functor in front of its terms.
scan-term :
    (f k todo next : ℕ) (ts : Terms) (ls : List Literal) (o : Option Taken) → Split k ts o
    → scan_row (some (row ts ls)) (k + todo) next ≡ scan_row (put_term f ls o) (suc todo) next
unfolding put_term
scan-term f k todo next ts ls none h = rw (ne_eqb (count ts) (k + todo) (λ e. omega arith))
scan-term f k todo next ts ls (some (taken front others)) h =
    let n = count-join front others in
    let e : eqb (count (front +++ others)) (k + todo) ≡ eqb (suc (count others)) (suc todo) =
    eqb_same (count (front +++ others)) (k + todo) (suc (count others)) (suc todo) (λ q. omega (arith, h.1)) (λ q. omega (arith, h.1)) in
    rw (h.0, e, vars-join)

no-term : (f next : ℕ) (ls : List Literal) (o : Option Taken) → false ≡ scan_row (put_term f ls o) 0 next
unfolding put_term
no-term f next ls none = refl
no-term f next ls (some (taken front others)) = rw (ne_eqb (suc (count others)) 0 (λ e. omega arith))

-- A predicate in front of its terms, which are all of those in front of the next literal.
module _ (make : Terms → Literal) (same : (ts : Terms) → arguments (make ts) ≡ ts) where
  scan-literal :
      (k next : ℕ) (ts : Terms) (ls : List Literal) (o : Option Taken) → Split k ts o
      → scan_row (some (row ts ls)) k next ≡ scan_row (put_literal make ls o) 0 next
  unfolding put_literal
  scan-literal k next ts ls none h = rw (ne_eqb (count ts) k (λ e. omega arith))
  scan-literal k next ts ls (some (taken front nil)) h =
      let n = count-join front nil in
      rw (h.0, eq-eqb (count (front +++ nil)) k (omega (arith, h.1)), same, vars-join)
  scan-literal k next ts ls (some (taken front (cons u us))) h =
      let n = count-join front (cons u us) in
      rw (h.0, ne_eqb (count (front +++ cons u us)) k (λ e. omega (arith, h.1)))

  no-literal : (todo next : ℕ) (ls : List Literal) (o : Option Taken) → false ≡ scan_row (put_literal make ls o) (suc todo) next
  unfolding put_literal
  no-literal todo next ls none = refl
  no-literal todo next ls (some (taken front nil)) = rw (ne_eqb 0 (suc todo) (λ e. omega arith))
  no-literal todo next ls (some (taken front (cons u us))) = refl

scan-put : (cell : Cell) (o : Option Row) (todo next : ℕ) (go : ℕ → ℕ → Bool) → ((t n : ℕ) → go t n ≡ scan_row o t n) → scan_cell (kind_of cell) todo next go ≡ scan_row (put_cell cell o) todo next
unfolding scan_cell put_cell numbered
scan-put cell none todo next go h = scan-none (kind_of cell) todo next go h
scan-put (variable v) (some (row ts ls)) zero next go h = rw (ne_eqb (suc (count ts)) 0 (λ e. omega arith))
scan-put (variable v) (some (row ts ls)) (suc todo) next go h = rw (h todo (max next (suc v)), eqb-suc-suc)
    (and-swap (leb v next) (eqb (count ts) todo) (numbered (max next (suc v)) (vars_terms ts (vars_literals ls))))
scan-put (function f k) (some (row ts ls)) zero next go h = no-term f next ls (take_terms k ts)
scan-put (function f k) (some (row ts ls)) (suc todo) next go h = h (k + todo) next ∙ scan-term f k todo next ts ls (take_terms k ts) (split k ts)
scan-put (positive p k) (some (row ts ls)) zero next go h = h k next ∙ scan-literal (pos p) (λ us. refl) k next ts ls (take_terms k ts) (split k ts)
scan-put (positive p k) (some (row ts ls)) (suc todo) next go h = no-literal (pos p) (λ us. refl) todo next ls (take_terms k ts)
scan-put (negative p k) (some (row ts ls)) zero next go h = h k next ∙ scan-literal (neg p) (λ us. refl) k next ts ls (take_terms k ts) (split k ts)
scan-put (negative p k) (some (row ts ls)) (suc todo) next go h = no-literal (neg p) (λ us. refl) todo next ls (take_terms k ts)
scan-put invalid (some (row ts ls)) todo next go h = refl

pub scan-row : (S : List Symbol) (cs : List ℕ) (todo next : ℕ) → scan S cs todo next ≡ scan_row (read_row S cs) todo next
unfolding scan read_row numbered
scan-row S [] zero next = refl
scan-row S [] (suc todo) next = rw (ne_eqb 0 (suc todo) (λ e. omega arith))
scan-row S (c ∷ cs) todo next = scan-put (read_cell S c) (read_row S cs) todo next (scan S cs) (λ t n. scan-row S cs t n)

-- Literals.
kept : (ls : List Literal) (b : Bool) → numbered 0 (vars_literals ls) ≡ b → numbered 0 (vars_literals ls) ≡ found (keep_numbered (some ls))
unfolding keep_numbered found
kept ls true e = rw (e, keep_numbered) refl
kept ls false e = rw (e, keep_numbered) refl

row-found : (o : Option Row) → scan_row o 0 0 ≡ found (keep_numbered (only_literals o))
unfolding only_literals keep_numbered found
row-found none = refl
row-found (some (row nil ls)) = kept ls _ refl
row-found (some (row (cons t ts) ls)) = rw (ne_eqb (suc (count ts)) 0 (λ e. omega arith))

pub scan-literals : (S : List Symbol) (cs : List ℕ) → found (read_literals S cs) ≡ scan S cs 0 0
unfolding read_literals
scan-literals S cs = sym (scan-row S cs 0 0 ∙ row-found (read_row S cs))

-- Clauses: literals whose first cell is a predicate that is not negated.
abbrev pub heads : Kind → Bool
heads k = if_positive (λ n. true) false k

head-only : (p : ℕ) (ts : Terms) (ls : List Literal) (b : Bool) → numbered 0 (vars_terms ts (vars_literals ls)) ≡ b
    → found (head_and_body (keep_numbered (some (pos p ts ∷ ls)))) ≡ found (keep_numbered (some (pos p ts ∷ ls)))
unfolding keep_numbered head_and_body found
head-only p ts ls true e = rw (e, keep_numbered) refl
head-only p ts ls false e = rw (e, keep_numbered) refl

no-head : (p : ℕ) (ts : Terms) (ls : List Literal) (b : Bool) → numbered 0 (vars_terms ts (vars_literals ls)) ≡ b
    → found (head_and_body (keep_numbered (some (neg p ts ∷ ls)))) ≡ false
unfolding keep_numbered head_and_body found
no-head p ts ls true e = rw (e, keep_numbered) refl
no-head p ts ls false e = rw (e, keep_numbered) refl

abbrev as_clause : Option Row → Bool
as_clause o = found (head_and_body (keep_numbered (only_literals o)))

abbrev as_literals : Option Row → Bool
as_literals o = found (keep_numbered (only_literals o))

term-head : (f : ℕ) (ls : List Literal) (o : Option Taken) → as_clause (put_term f ls o) ≡ false
unfolding put_term only_literals keep_numbered head_and_body found
term-head f ls none = refl
term-head f ls (some (taken front others)) = refl

pos-head : (p : ℕ) (ls : List Literal) (o : Option Taken) → as_clause (put_literal (pos p) ls o) ≡ as_literals (put_literal (pos p) ls o)
unfolding put_literal only_literals
pos-head p ls none = unfold keep_numbered head_and_body found in refl
pos-head p ls (some (taken front nil)) = head-only p front ls _ refl
pos-head p ls (some (taken front (cons u us))) = unfold keep_numbered head_and_body found in refl

neg-head : (p : ℕ) (ls : List Literal) (o : Option Taken) → as_clause (put_literal (neg p) ls o) ≡ false
unfolding put_literal only_literals
neg-head p ls none = unfold keep_numbered head_and_body found in refl
neg-head p ls (some (taken front nil)) = no-head p front ls _ refl
neg-head p ls (some (taken front (cons u us))) = unfold keep_numbered head_and_body found in refl

head-put : (cell : Cell) (o : Option Row) → as_clause (put_cell cell o) ≡ heads (kind_of cell) && as_literals (put_cell cell o)
unfolding put_cell only_literals keep_numbered head_and_body found
head-put cell none = sym (and-false (heads (kind_of cell)))
head-put (variable v) (some (row ts ls)) = refl
head-put (function f k) (some (row ts ls)) = term-head f ls (take_terms k ts)
head-put (positive p k) (some (row ts ls)) = pos-head p ls (take_terms k ts)
head-put (negative p k) (some (row ts ls)) = neg-head p ls (take_terms k ts)
head-put invalid (some (row ts ls)) = refl

-- No cells are no clause; others are one if they are literals and the first cell is a head's.
pub empty-clause : (S : List Symbol) (cs : List ℕ) → length cs ≡ 0 → found (read_clause S cs) ≡ false
unfolding read_clause read_literals read_row only_literals keep_numbered numbered head_and_body found
empty-clause S [] e = refl
empty-clause S (c ∷ cs) e = absurd (omega arith)

pub head-clause :
    (S : List Symbol) (cs : List ℕ) → (length cs ≡ 0 → ⊥) → found (read_clause S cs) ≡ heads (kind_of (read_cell S (get_or cs 0 0))) && found (read_literals S cs)
unfolding read_clause read_literals read_row
head-clause S [] h = absurd (h refl)
head-clause S (c ∷ cs) h = head-put (read_cell S c) (read_row S cs)
