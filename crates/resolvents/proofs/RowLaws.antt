-- Rows of cells that are the cells of terms: what stands at a place, the variables in them, and the cells with fresh variables.
use Prim.Native.Nat.{ℕ, zero, suc, ◌+◌, ◌-◌, ◌≤◌, ◌<◌}
use mathlib.Core.Path.{◌≡◌, refl, sym, ◌∙◌, ap, ap₂}
use mathlib.Core.List.{List, [], ◌∷◌, map}
use native.Mathlib.Decide.{dec_lt}
use native.Mathlib.Omega.{arith}
use lib.ListN.{length, get_or, take, drop, length-drop}
use lib.Seq.{slice, length-take-le, take_at, drop_at, take-add, drop-drop, get_or-drop}
use Rattle.rules.specs.Terms.{Term, var, app, Terms, nil, cons, ◌+++◌, count, size, sizes, vars_term, vars_terms, top, tops, rename, renames}
use Rattle.rules.specs.Syntax.{Symbol, Goal}
use Rattle.rules.specs.Cells.{write_term, write_terms}
use Rattle.rules.specs.Goals.{goal_words}
use Rattle.rules.specs.Resolution.{fresh}
use Rattle.rules.proofs.TermLaws.{ite-yes, ite-no, join-nil}
use Rattle.rules.proofs.CellLaws.{terms-length, write-append, write-join, drop-terms}
use Rattle.rules.proofs.NumberingLaws.{above, tops_above}
use Rattle.rules.proofs.FormedLaws.{renames-count}
use Rattle.matching.specs.Taking.{take_t, drop_t}
use Rattle.matching.specs.Cells.{args_of, reads, from, Formed}
use Rattle.matching.specs.Written.{Fit, Fits}
use Rattle.matching.proofs.CellLaws.{args-var, made-functor, made-var}
use Rattle.matching.proofs.WrittenLaws.{whole-writes, whole-formed, writes-terms, reads-terms}
use Rattle.resolvents.specs.Naming.{within}
use Rattle.resolvents.specs.Variables.{variables_in, fresh_cell}
use Rattle.resolvents.specs.Selecting.{GoalCells}
use Rattle.resolvents.proofs.CellTrees.{lit_terms, join-fits, goal_terms, goal-cells, terms-fit, literals-fit}

-- SIZES
sizes-cut : (k : ℕ) (ts : Terms) → sizes (take_t k ts) + sizes (drop_t k ts) ≡ sizes ts
sizes-cut zero ts = omega arith
sizes-cut (suc k) nil = refl
sizes-cut (suc k) (cons t ts) = omega (arith, sizes-cut k ts)

-- Each cell is in one term.
reads-sizes : (ar cs : List ℕ) → sizes (reads ar cs) ≡ length cs
unfolding reads
reads-sizes ar [] = refl
reads-sizes ar (c ∷ cs) = go (dec_lt c 32768) (reads-sizes ar cs)
  where
    go : Dec (c < 32768) → sizes (reads ar cs) ≡ length cs → sizes (reads ar (c ∷ cs)) ≡ suc (length cs)
    go (yes l) h = rw (made-functor c _ l) (omega (arith, sizes-cut (args_of ar c) (reads ar cs)))
    go (no q) h = rw (made-var c _ (omega arith), args-var ar c (omega arith)) (omega arith)

place-sizes : (ar cells : List ℕ) (p : ℕ) → p ≤ length cells → p + sizes (from ar cells p) ≡ length cells
place-sizes ar cells p h = omega (arith, reads-sizes ar (drop p cells), length-drop p cells)

-- The place after the term at p.
pub skipped : (ar cells : List ℕ) (p r : ℕ) (t : Term) (ts : Terms) → p ≤ length cells → r ≤ length cells → from ar cells p ≡ cons t ts → from ar cells r ≡ drop_t 1 (from ar cells p) → r ≡ p + size t
skipped ar cells p r t ts h k e d = omega (arith, place-sizes ar cells p h, place-sizes ar cells r k, ap sizes e, ap sizes (d ∙ ap (drop_t 1) e))

take_count : (ts us : Terms) → take_t (count ts) (ts +++ us) ≡ ts
take_count nil us = refl
take_count (cons t ts) us = ap (cons t) (take_count ts us)

-- PLACES
-- The cells of the terms us, and then others, stand from p on.
pub record TermsStand (cells : List ℕ) (p : ℕ) (us : Terms) (rest : List ℕ) : Type 0 where
  pub inside : p ≤ length cells
  pub there : drop p cells ≡ write_terms us rest

stands-start : {cells : List ℕ} {ts : Terms} → cells ≡ write_terms ts [] → TermsStand cells 0 ts []
stands-start e = record { inside = omega arith; there = e }

module _ {cells : List ℕ} {p : ℕ} {us : Terms} {rest : List ℕ} (s : TermsStand cells p us rest) where
  pub stands-head : get_or cells p 0 ≡ get_or (write_terms us rest) 0 0
  stands-head = let e : p + 0 ≡ p = omega arith in ap (λ n. get_or cells n 0) (sym e) ∙ sym (get_or-drop p cells 0 0) ∙ ap (λ l. get_or l 0 0) s.there

  pub stands-room : p + sizes us + length rest ≡ length cells
  stands-room = omega (arith, s.inside, length-drop p cells, ap length s.there, terms-length us rest)

  -- Read as terms: from there on, and up to the place after them.
  pub stands_from : (ar : List ℕ) → Fits ar us → from ar cells p ≡ us +++ reads ar rest
  stands_from ar f = ap (reads ar) s.there ∙ reads-terms ar us f rest

  pub stands-taken : (ar : List ℕ) (k : ℕ) → Fits ar us → k ≡ count us → take_t k (from ar cells p) ≡ us
  stands-taken ar k f e = ap₂ take_t e (stands_from ar f) ∙ take_count us (reads ar rest)

  pub stands-slice : slice p (p + sizes us) cells ≡ write_terms us []
  stands-slice =
      ap (drop p) (take-add p (sizes us) cells)
      ∙ drop_at (take p cells) (take (sizes us) (drop p cells)) p (length-take-le p cells s.inside)
      ∙ ap (take (sizes us)) (s.there ∙ write-append us rest)
      ∙ take_at (write_terms us []) rest (sizes us) (omega (arith, terms-length us []))

  pub stands-within : (ar : List ℕ) (q : ℕ) → Fits ar us → q ≡ p + sizes us → within ar cells p q ≡ us
  unfolding reads
  stands-within ar q f e = ap (λ n. within ar cells p n) e ∙ ap (reads ar) stands-slice ∙ reads-terms ar us f [] ∙ join-nil us

  -- What is after them.
  pub stands_after : (vs : Terms) (rest' : List ℕ) (q : ℕ) → rest ≡ write_terms vs rest' → q ≡ p + sizes us → TermsStand cells q vs rest'
  stands_after vs rest' q e h = record {
    inside = omega (arith, stands-room);
    there = ap (λ n. drop n cells) h ∙ sym (drop-drop (sizes us) p cells) ∙ ap (drop (sizes us)) s.there ∙ drop-terms us rest ∙ e;
  }

-- Of two lists, the first; then the second.
module _ {cells : List ℕ} {p : ℕ} (us vs : Terms) {rest : List ℕ} (s : TermsStand cells p (us +++ vs) rest) where
  pub stands-first : TermsStand cells p us (write_terms vs rest)
  stands-first = record { inside = s.inside; there = s.there ∙ write-join us vs rest }

  pub stands-second : (q : ℕ) → q ≡ p + sizes us → TermsStand cells q vs rest
  stands-second q e = stands_after stands-first vs rest q refl e

-- A functor, and then its arguments.
module _ {cells : List ℕ} {p f : ℕ} {ts us : Terms} {rest : List ℕ} (s : TermsStand cells p (cons (app f ts) us) rest) where
  stands-inside : p < length cells
  stands-inside = omega (arith, stands-room s)

  pub stands-cell : get_or cells p 0 ≡ f
  stands-cell = stands-head s

  pub stands-arguments : TermsStand cells (p + 1) ts (write_terms us rest)
  stands-arguments = record { inside = omega (arith, stands-inside); there = sym (drop-drop 1 p cells) ∙ ap (drop 1) s.there }

-- All cells of terms are in order.
pub terms-formed : (ar : List ℕ) (ts : Terms) → Fits ar ts → length (write_terms ts []) < 65536 → Formed ar (write_terms ts [])
terms-formed ar ts f h = whole-formed (rw writes-terms at (whole-writes ar ts f [] tt)) h

-- VARIABLES
pub variables-none : variables_in [] ≡ []
unfolding variables_in
variables-none = refl

pub variable-none : (c : ℕ) (cs : List ℕ) → c < 32768 → variables_in (c ∷ cs) ≡ variables_in cs
unfolding variables_in
variable-none c cs l = ite-yes (dec_lt c 32768) _ _ l

pub variable-one : (c : ℕ) (cs : List ℕ) → 32768 ≤ c → variables_in (c ∷ cs) ≡ (c - 32768) ∷ variables_in cs
unfolding variables_in
variable-one c cs l = ite-no (dec_lt c 32768) _ _ (λ h. omega arith)

mutual
  term-variables : (ar : List ℕ) (t : Term) → Fit ar t → (rest : List ℕ) → variables_in (write_term t rest) ≡ vars_term t (variables_in rest)
  term-variables ar (var v) f rest = variable-one (32768 + v) rest (omega arith) ∙ ap (◌∷ variables_in rest) (omega arith)
  term-variables ar (app g ts) f rest = variable-none g (write_terms ts rest) f.0 ∙ terms-variables ar ts f.3 rest

  pub terms-variables : (ar : List ℕ) (ts : Terms) → Fits ar ts → (rest : List ℕ) → variables_in (write_terms ts rest) ≡ vars_terms ts (variables_in rest)
  terms-variables ar nil f rest = refl
  terms-variables ar (cons t ts) f rest = term-variables ar t f.0 (write_terms ts rest) ∙ ap (vars_term t) (terms-variables ar ts f.1 rest)

-- FRESH VARIABLES
pub fresh-symbol : (n c : ℕ) → c < 32768 → fresh_cell n c ≡ c
unfolding fresh_cell
fresh-symbol n c l = ite-yes (dec_lt c 32768) _ _ l

pub fresh-variable : (n c : ℕ) → 32768 ≤ c → fresh_cell n c ≡ c + n
unfolding fresh_cell
fresh-variable n c l = ite-no (dec_lt c 32768) _ _ (λ h. omega arith)

mutual
  term_fresh : (ar : List ℕ) (n : ℕ) (t : Term) → Fit ar t → (rest : List ℕ) → map (fresh_cell n) (write_terms (cons t nil) rest) ≡ write_terms (fresh n (cons t nil)) (map (fresh_cell n) rest)
  term_fresh ar n (var v) f rest = ap (◌∷ map (fresh_cell n) rest) (fresh-variable n (32768 + v) (omega arith) ∙ omega arith)
  term_fresh ar n (app g ts) f rest = ap₂ ◌∷◌ (fresh-symbol n g f.0) (terms-fresh ar n ts f.3 rest)

  pub terms-fresh : (ar : List ℕ) (n : ℕ) (ts : Terms) → Fits ar ts → (rest : List ℕ) → map (fresh_cell n) (write_terms ts rest) ≡ write_terms (fresh n ts) (map (fresh_cell n) rest)
  terms-fresh ar n nil f rest = refl
  terms-fresh ar n (cons t ts) f rest = term_fresh ar n t f.0 (write_terms ts rest) ∙ ap (λ cs. write_terms (fresh n (cons t nil)) cs) (terms-fresh ar n ts f.1 rest)

-- Terms with other variables fit too, and their variables are less than n above the others.
mutual
  rename-fits : (ar : List ℕ) (ρ : ℕ → ℕ) (t : Term) → Fit ar t → Fit ar (rename ρ t)
  rename-fits ar ρ (var v) f = tt
  rename-fits ar ρ (app g ts) f = (f.0, f.1, f.2 ∙ sym (renames-count ρ ts), renames-fit ar ρ ts f.3)

  pub renames-fit : (ar : List ℕ) (ρ : ℕ → ℕ) (ts : Terms) → Fits ar ts → Fits ar (renames ρ ts)
  renames-fit ar ρ nil f = tt
  renames-fit ar ρ (cons t ts) f = (rename-fits ar ρ t f.0, renames-fit ar ρ ts f.1)

mutual
  fresh-top : (n : ℕ) (t : Term) → top (rename (λ v. n + v) t) ≤ n + top t
  fresh-top n (var v) = omega arith
  fresh-top n (app f ts) = fresh-tops n ts

  pub fresh-tops : (n : ℕ) (ts : Terms) → tops (fresh n ts) ≤ n + tops ts
  fresh-tops n nil = omega arith
  fresh-tops n (cons t ts) = omega (arith, fresh-top n t, fresh-tops n ts)

-- A variable in the cells of terms is below `tops`.
in-variables : (cs : List ℕ) (p : ℕ) → p < length cs → 32768 ≤ get_or cs p 0 → get_or cs p 0 - 32768 < above (variables_in cs)
in-variables [] p l h = absurd (omega arith)
in-variables (c ∷ cs) zero l h = omega (arith, ap above (variable-one c cs h))
in-variables (c ∷ cs) (suc p) l h = go (dec_lt c 32768) (in-variables cs p (omega arith) h)
  where
    go : Dec (c < 32768) → get_or cs p 0 - 32768 < above (variables_in cs) → get_or cs p 0 - 32768 < above (variables_in (c ∷ cs))
    go (yes k) i = omega (arith, ap above (variable-none c cs k))
    go (no k) i = omega (arith, ap above (variable-one c cs (omega arith)))

pub cells-below : (ar : List ℕ) (ts : Terms) → Fits ar ts → (p : ℕ) → p < length (write_terms ts []) → 32768 ≤ get_or (write_terms ts []) p 0 → get_or (write_terms ts []) p 0 - 32768 < tops ts
cells-below ar ts f p l h =
    omega (arith, in-variables (write_terms ts []) p l h, ap above (terms-variables ar ts f [] ∙ ap (vars_terms ts) variables-none), tops_above ts [])

-- GOALS
-- A goal's cells are those of its terms.
module _ {ar cells : List ℕ} {answer_cells : ℕ} {S : List Symbol} {g : Goal} (h : GoalCells ar cells answer_cells S g) where
  pub goal-fits : Fits ar (goal_terms g)
  goal-fits =
      join-fits ar g.answer_terms (lit_terms g.literals) (terms-fit ar S h.symbols g.answer_terms h.well_formed.answer_terms)
      (literals-fit ar S h.symbols g.literals h.well_formed.literals)

  pub goal-stands : TermsStand cells 0 (goal_terms g) []
  goal-stands = stands-start (h.goal ∙ goal-cells g)

  pub goal-few : length cells ≤ 1022
  unfolding goal_words
  goal-few = omega (arith, ap length h.goal, h.well_formed.short)

  pub goal-formed : Formed ar cells
  goal-formed = let e = h.goal ∙ goal-cells g in rw e (terms-formed ar (goal_terms g) goal-fits (omega (arith, ap length e, goal-few)))
