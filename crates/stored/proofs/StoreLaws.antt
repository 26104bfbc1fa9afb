-- Goals in a store: what the code's tests say of the goal that words begin with, and goals passed one after another. Assumes nothing.
use Prim.Native.Nat.{ℕ, zero, suc, ◌+◌, ◌-◌, ◌*◌, ◌/◌, ◌%◌, ◌≤◌, ◌<◌}
use mathlib.Core.Path.{◌≡◌, refl, ap, ap₂, sym, ◌∙◌, subst}
use mathlib.Core.Bool.{Bool, true, false, not, ◌&&◌, and-eq-true_iff, false≢true}
use mathlib.Core.Option.{Option, none, some, none-ne-some, some-injective}
use mathlib.Core.List.{List, [], ◌∷◌, ◌++◌, map, append_assoc, append-nil}
use native.Mathlib.Omega.{arith}
use lib.ListN.{length, get_or, take, drop, length-append, length-drop, take-append-drop}
use lib.Seq.{take_at, drop_at, get_or-drop, drop-drop, length-take-le}
use lib.Dec.{leb, eqb}
use borrow.Author.Tests.{le-leb, leb-true, eq-eqb, eqb-true}
use Rattle.rules.specs.Terms.{Term, var, app, Terms, nil, cons, count, sizes, size}
use Rattle.rules.specs.Syntax.{Symbol, Literal, pos, neg, Goal, Deck, vars_goal}
use Rattle.rules.specs.Refusals.{accepted}
use Rattle.rules.specs.Decks.{open_deck, symbol_words}
use Rattle.rules.specs.Cells.{write_term, write_terms, write_literals, variable, invalid, variable_cell, read_cell, Row, row, read_row, numbered}
use Rattle.rules.specs.Goals.{Mark, pending, floundered, undecided, oversized, deep, mark_number, Marked, marked, goal_cells, goal_words, words_of, marked_words, write_goal, GoalRead, goal_read, read_goal, with_goal, goals_after, read_goals}
use Rattle.rules.specs.WellFormed.{WfTerm, WfTerms, WfLiterals, WfMarked}
use Rattle.rules.specs.Stored.{goal_fits, pending_fits, parked_fits, every, as_open, read_open}
use Rattle.rules.proofs.NextLaws.{either}
use Rattle.rules.proofs.CellLaws.{read-row, Reads, row_reads}
use Rattle.rules.proofs.GoalLaws.{goal-small, read-goal, goal-reads}
use Rattle.deck.specs.Kinds.{kind_of, symbols_of, begins_literal}
use Rattle.deck.specs.Scan.{scan}
use Rattle.deck.proofs.ScanLaws.{scan_row, scan-row}
use Rattle.deck.proofs.OpenLaws.{accepted-symbols}
use Rattle.std.specs.Prelude.{Some, None}
use Rattle.stored.specs.Passing.{leads, lead, mark_fits, fits_as, GoalAt, GoalFound, Passed, GoalsFound, OpenFound}
use Rattle.stored.specs.Before.{before}

-- MARKS
mark-few : (m : Mark) → leb (mark_number m) 4 ≡ true
unfolding mark_number
mark-few pending = refl
mark-few floundered = refl
mark-few undecided = refl
mark-few oversized = refl
mark-few deep = refl

mark_of : (k : ℕ) → k ≤ 4 → (m : Mark) × (mark_number m ≡ k)
unfolding mark_number
mark_of zero h = (pending, refl)
mark_of (suc zero) h = (floundered, refl)
mark_of (suc (suc zero)) h = (undecided, refl)
mark_of (suc (suc (suc zero))) h = (oversized, refl)
mark_of (suc (suc (suc (suc zero)))) h = (deep, refl)
mark_of (suc (suc (suc (suc (suc k))))) h = absurd (omega arith)

small-mark : (parked : Bool) (k : ℕ) → mark_fits parked k ≡ true → k ≤ 4
small-mark false k e = omega (arith, eqb-true k 0 e)
small-mark true k e = leb-true k 4 ((and-eq-true_iff (leb 1 k) (leb k 4)).0 e).1

-- A GOAL THAT FITS
record Fitting (parked : Bool) (terms : ℕ) (m : Marked) : Type 0 where
  mark : mark_fits parked (mark_number m.mark) ≡ true
  many : count m.goal.answer_terms ≡ terms
  short : goal_words m.goal ≤ 1024
  in_order : numbered 0 (vars_goal m.goal) ≡ true

module _ (terms : ℕ) (m : Marked) where
  goal-parts : goal_fits terms m.goal ≡ true → (parked : Bool) → mark_fits parked (mark_number m.mark) ≡ true → Fitting parked terms m
  unfolding goal_fits
  goal-parts e parked k =
      let r = (and-eq-true_iff (eqb (count m.goal.answer_terms) terms) _).0 e in
      let s = (and-eq-true_iff (leb (goal_words m.goal) 1024) _).0 r.1 in
      record { mark = k; many = eqb-true (count m.goal.answer_terms) terms r.0; short = leb-true (goal_words m.goal) 1024 s.0; in_order = s.1 }

  fits-parts : (parked : Bool) → fits_as parked terms m ≡ true → Fitting parked terms m
  unfolding pending_fits parked_fits
  fits-parts false e = let r = (and-eq-true_iff (eqb (mark_number m.mark) 0) _).0 e in goal-parts r.1 false r.0
  fits-parts true e = let r = (and-eq-true_iff (leb 1 (mark_number m.mark)) _).0 e in goal-parts r.1 true (rw r.0 (mark-few m.mark))

  parts-goal : (parked : Bool) → Fitting parked terms m → goal_fits terms m.goal ≡ true
  unfolding goal_fits
  parts-goal parked f = rw (eq-eqb (count m.goal.answer_terms) terms f.many, le-leb (goal_words m.goal) 1024 f.short) f.in_order

  parts-fit : (parked : Bool) → Fitting parked terms m → fits_as parked terms m ≡ true
  unfolding pending_fits parked_fits
  parts-fit false f = rw f.mark (parts-goal false f)
  parts-fit true f = rw ((and-eq-true_iff (leb 1 (mark_number m.mark)) _).0 f.mark).0 (parts-goal true f)

-- THE CELLS IN FRONT OF THE FIRST LITERAL are the answer terms'.
variable-leads : (S : List Symbol) (v : ℕ) → leads S (32768 + v) ≡ true
unfolding read_cell variable_cell
variable-leads S v =
    rw (le-leb 32768 (32768 + v) (omega arith), read_cell)
    (either (λ c. not (begins_literal (kind_of c)) ≡ true) (leb (32768 + v - 32768) 1023) (variable (32768 + v - 32768)) invalid (λ e. refl) (λ e. refl))

mutual
  unfolding lead

  term-leads : (S : List Symbol) (t : Term) (rest : List ℕ) → WfTerm S t → lead S (write_term t rest) ≡ size t + lead S rest
  term-leads S (var v) rest w = rw (variable-leads S v) (omega arith)
  term-leads S (app f ts) rest w = rw w.0 (omega (arith, terms-lead S ts rest w.1))

  terms-lead : (S : List Symbol) (ts : Terms) (rest : List ℕ) → WfTerms S ts → lead S (write_terms ts rest) ≡ sizes ts + lead S rest
  terms-lead S nil rest w = omega arith
  terms-lead S (cons t ts) rest w = omega (arith, term-leads S t (write_terms ts rest) w.0, terms-lead S ts rest w.1)

literals-lead : (S : List Symbol) (ls : List Literal) → WfLiterals S ls → lead S (write_literals ls) ≡ 0
unfolding lead
literals-lead S [] w = refl
literals-lead S (pos p ts ∷ ls) w = rw w.0.0
literals-lead S (neg p ts ∷ ls) w = rw w.0.0

row-leads : (S : List Symbol) (ts : Terms) (ls : List Literal) → WfTerms S ts → WfLiterals S ls → lead S (write_terms ts (write_literals ls)) ≡ sizes ts
row-leads S ts ls w v = omega (arith, terms-lead S ts (write_literals ls) w, literals-lead S ls v)

-- THE CODE'S TESTS of the words that a goal may begin, of n words.
abbrev pub cells_test : List Symbol → ℕ → List ℕ → ℕ → Bool
cells_test S terms cells a = scan S cells terms 0 && eqb (lead S cells) a

pub record Tested (S : List Symbol) (parked : Bool) (terms : ℕ) (ws : List ℕ) (w a n : ℕ) : Type 0 where
  pub long : 2 ≤ length ws
  pub mark : mark_fits parked (w / 4096) ≡ true
  pub least : 2 ≤ n
  pub short : n ≤ 1024
  pub fits : n ≤ length ws
  pub cells : cells_test S terms (take (n - 2) (drop 2 ws)) a ≡ true

module _ (S : List Symbol) (parked : Bool) (terms : ℕ) where
  -- Every goal that fits passes them.
  cells-pass : (m : Marked) → WfMarked S m → Fitting parked terms m → cells_test S terms (goal_cells m.goal) (sizes m.goal.answer_terms) ≡ true
  unfolding goal_cells
  cells-pass m w f =
      let g = m.goal in
      let c : List ℕ = write_terms g.answer_terms (write_literals g.literals) in
      let s : scan S c terms 0 ≡ true =
      scan-row S c terms 0 ∙ ap (λ o. scan_row o terms 0) (read-row S g.answer_terms g.literals w.answer_terms w.literals (goal-small S g w))
      ∙ rw (eq-eqb (count g.answer_terms) terms f.many) f.in_order in
      (and-eq-true_iff (scan S c terms 0) _).1 (s, eq-eqb (lead S c) (sizes g.answer_terms) (row-leads S g.answer_terms g.literals w.answer_terms w.literals))

  written-tested : (m : Marked) (rest : List ℕ) → WfMarked S m → Fitting parked terms m
      → Tested S parked terms (write_goal m ++ rest) (goal_words m.goal + 4096 * mark_number m.mark) (sizes m.goal.answer_terms) ((goal_words m.goal + 4096 * mark_number m.mark) % 4096)
  unfolding write_goal goal_words
  written-tested m rest w f =
      let c = goal_cells m.goal in
      let short : 2 + length c ≤ 1024 = f.short in
      let d : (2 + length c + 4096 * mark_number m.mark) / 4096 ≡ mark_number m.mark = omega arith in
      let r : (2 + length c + 4096 * mark_number m.mark) % 4096 ≡ 2 + length c = omega arith in
      let s : 2 + length c - 2 ≡ length c = omega arith in
      record {
        long = omega arith;
        mark = rw d f.mark;
        least = omega arith;
        short = omega arith;
        fits = omega (arith, length-append c rest);
        cells = rw (r, s, take_at c rest (length c) refl) (cells-pass m w f);
      }

  pub goal-tested : (ws : List ℕ) (m : Marked) (rest : List ℕ) → read_goal S ws ≡ some (goal_read m rest) → fits_as parked terms m ≡ true
      → Tested S parked terms ws (get_or ws 0 0) (get_or ws 1 0) (get_or ws 0 0 % 4096)
  goal-tested ws m rest e t =
      let r = goal-reads S ws m rest e in
      let f = fits-parts terms m parked t in
      let w : WfMarked S m = record { answer_terms = r.answer_terms; literals = r.literals; in_order = f.in_order; short = f.short } in
      rw r.written (unfold write_goal in written-tested m rest w f)

  -- Whatever passes them is such a goal.
  pub record Goals (ws : List ℕ) (n : ℕ) : Type 0 where
    pub goal : Marked
    pub reads : read_goal S ws ≡ some (goal_read goal (drop n ws))
    pub passes : fits_as parked terms goal ≡ true
    pub words : goal_words goal.goal ≡ n

  row-goal : (w n : ℕ) (us : List ℕ) → w % 4096 ≡ 2 + n → n ≤ 1022 → n ≤ length us → mark_fits parked (w / 4096) ≡ true
      → (ts : Terms) (ls : List Literal) → Reads S (take n us) ts ls → count ts ≡ terms → numbered 0 (vars_goal (record { answer_terms = ts; literals = ls })) ≡ true
      → (k : (m : Mark) × (mark_number m ≡ w / 4096)) → (rest : List ℕ) → drop n us ≡ rest
      → (m : Marked) × (w ∷ sizes ts ∷ us ≡ write_goal m ++ rest) × WfMarked S m × Fitting parked terms m × (goal_words m.goal ≡ 2 + n)
  unfolding write_goal goal_words goal_cells
  row-goal w n us e small fits mk ts ls r many in_order k rest d =
      let g : Goal = record { answer_terms = ts; literals = ls } in
      let l : length (goal_cells g) ≡ n = ap length (sym r.written) ∙ length-take-le n us fits in
      let first : w ≡ goal_words g + 4096 * mark_number k.0 = omega (arith, k.1) in
      let after : us ≡ goal_cells g ++ rest = sym (take-append-drop n us) ∙ ap₂ ◌++◌ r.written d in (
        marked k.0 g,
        ap₂ ◌∷◌ first (ap (◌∷◌ (sizes ts)) after),
        record { answer_terms = r.terms; literals = r.literals; in_order = in_order; short = omega arith },
        record { mark = rw k.1 mk; many = many; short = omega arith; in_order = in_order },
        omega arith,
      )

  pub tested-goal : (ws : List ℕ) (w a n : ℕ) → Tested S parked terms ws w a n → w ≡ get_or ws 0 0 → a ≡ get_or ws 1 0 → n ≡ w % 4096 → Goals ws n
  tested-goal [] w a n t ew ea en = absurd (omega (arith, t.long))
  tested-goal (x ∷ []) w a n t ew ea en = absurd (omega (arith, t.long))
  tested-goal (x ∷ y ∷ us) w a n t ew ea en =
      let b = (and-eq-true_iff (scan S (take (n - 2) us) terms 0) _).0 t.cells in
      go (read_row S (take (n - 2) us)) refl (sym (scan-row S (take (n - 2) us) terms 0) ∙ b.0) (eqb-true (lead S (take (n - 2) us)) a b.1)
    where
      go : (o : Option Row) → read_row S (take (n - 2) us) ≡ o → scan_row o terms 0 ≡ true → lead S (take (n - 2) us) ≡ a → Goals (x ∷ y ∷ us) n
      go none q s l = absurd (false≢true s)
      go (some (row ts ls)) q s l =
          let r = row_reads S (take (n - 2) us) ts ls q in
          let b = (and-eq-true_iff (eqb (count ts) terms) _).0 s in
          let size : sizes ts ≡ y = sym (row-leads S ts ls r.terms r.literals) ∙ ap (lead S) (sym r.written) ∙ l ∙ ea in
          let k = mark_of (w / 4096) (small-mark parked (w / 4096) t.mark) in
          let two : n ≡ 2 + (n - 2) = omega (arith, t.least) in
          let f = row-goal w (n - 2) us (omega (arith, t.least)) (omega (arith, t.short)) (omega (arith, t.fits)) t.mark ts ls r (eqb-true (count ts) terms b.0) b.1 k (drop (n - 2) us) refl in
          let rest : drop n (x ∷ y ∷ us) ≡ drop (n - 2) us = ap (λ i. drop i (x ∷ y ∷ us)) two ∙ sym (drop-drop (n - 2) 2 (x ∷ y ∷ us)) in
          let same : x ∷ y ∷ us ≡ write_goal f.0 ++ drop (n - 2) us = ap₂ ◌∷◌ (sym ew) (ap (λ i. i ∷ us) (sym size)) ∙ f.1 in
          record {
            goal = f.0;
            reads = ap (read_goal S) same ∙ read-goal S f.0 (drop (n - 2) us) f.2 ∙ ap (λ i. some (goal_read f.0 i)) (sym rest);
            passes = parts-fit terms f.0 parked f.3;
            words = f.4 ∙ sym two;
          }

-- THE GOAL AT A PLACE OF THE STORE
module _ (S : List Symbol) (parked : Bool) (terms : ℕ) (store : List ℕ) (at w : ℕ) (ew : w ≡ get_or store at 0) where
  here : get_or (drop at store) 0 0 ≡ w
  here = get_or-drop at store 0 0 ∙ ap (λ i. get_or store i 0) (let z : at + 0 ≡ at = omega arith in z) ∙ sym ew

  pub no-goal : (a : ℕ) → a ≡ get_or store (at + 1) 0 → (Tested S parked terms (drop at store) w a (w % 4096) → ⊥) → GoalFound S (fits_as parked terms) store at None
  no-goal a ea h m rest e t =
      let second : get_or (drop at store) 1 0 ≡ a = get_or-drop at store 1 0 ∙ sym ea in
      h (subst (λ x. Tested S parked terms (drop at store) x a (x % 4096)) here
      (subst (λ y. Tested S parked terms (drop at store) (get_or (drop at store) 0 0) y (get_or (drop at store) 0 0 % 4096)) second (goal-tested S parked terms (drop at store) m rest e t)))

  module _ (a n : ℕ) (ea : a ≡ get_or store (at + 1) 0) (en : n ≡ w % 4096) (least : 2 ≤ n) where
    same-cells : take (at + n - (at + 2)) (drop (at + 2) store) ≡ take (n - 2) (drop 2 (drop at store))
    same-cells = let z : at + n - (at + 2) ≡ n - 2 = omega arith in ap₂ take z (sym (drop-drop 2 at store))

    pub no_cells : cells_test S terms (take (at + n - (at + 2)) (drop (at + 2) store)) a ≡ false → GoalFound S (fits_as parked terms) store at None
    no_cells f = no-goal a ea (λ t.
        let p : cells_test S terms (take (n - 2) (drop 2 (drop at store))) a ≡ true = subst (λ k. cells_test S terms (take (k - 2) (drop 2 (drop at store))) a ≡ true) (sym en) t.cells in
        false≢true (sym f ∙ ap (λ c. cells_test S terms c a) same-cells ∙ p))

    pub goal-there : 2 ≤ length store - at → mark_fits parked (w / 4096) ≡ true → n ≤ 1024 → n ≤ length store - at
        → cells_test S terms (take (at + n - (at + 2)) (drop (at + 2) store)) a ≡ true → GoalAt S (fits_as parked terms) store at (at + n)
    goal-there long mark short fits cells =
        let l = length-drop at store in
        let t : Tested S parked terms (drop at store) w a n = record {
          long = omega arith;
          mark = mark;
          least = least;
          short = short;
          fits = omega arith;
          cells = ap (λ c. cells_test S terms c a) (sym same-cells) ∙ cells;
        } in
        let g = tested-goal S parked terms (drop at store) w a n t (sym here) (ea ∙ sym (get_or-drop at store 1 0)) en in
        record {
          goal = g.goal;
          reads = g.reads ∙ ap (λ r. some (goal_read g.goal r)) (drop-drop n at store);
          passes = g.passes;
          words = ap (λ k. at + k) (sym g.words);
          inside = omega arith;
          later = omega arith;
        }

-- GOALS ONE AFTER ANOTHER
before-goal : (gs : List Marked) (m : Marked) (o : Option (List Marked)) → before gs (with_goal m o) ≡ before (gs ++ (m ∷ [])) o
unfolding before with_goal
before-goal gs m none = refl
before-goal gs m (some ns) = ap some (sym (append_assoc gs (m ∷ []) ns))

before-none : (o : Option (List Marked)) → o ≡ before [] o
unfolding before
before-none none = refl
before-none (some ns) = refl

every_more : (test : Marked → Bool) (gs : List Marked) (m : Marked) → every test gs ≡ true → test m ≡ true → every test (gs ++ (m ∷ [])) ≡ true
unfolding every
every_more test [] m e t = rw t
every_more test (g ∷ gs) m e t = let r = (and-eq-true_iff (test g) (every test gs)).0 e in rw r.0 (every_more test gs m r.1 t)

every-at : (test : Marked → Bool) (gs : List Marked) (m : Marked) (ns : List Marked) (n : ℕ) → length gs < n → every test (take n (gs ++ (m ∷ ns))) ≡ true → test m ≡ true
unfolding every
every-at test gs m ns zero h e = absurd (omega arith)
every-at test [] m ns (suc n) h e = ((and-eq-true_iff (test m) (every test (take n ns))).0 e).0
every-at test (g ∷ gs) m ns (suc n) h e = every-at test gs m ns n (omega arith) ((and-eq-true_iff (test g) (every test (take n (gs ++ (m ∷ ns))))).0 e).1

every_take : (test : Marked → Bool) (n : ℕ) (gs : List Marked) → every test gs ≡ true → every test (take n gs) ≡ true
unfolding every
every_take test zero gs e = refl
every_take test (suc n) [] e = refl
every_take test (suc n) (g ∷ gs) e = let r = (and-eq-true_iff (test g) (every test gs)).0 e in rw r.0 (every_take test n gs r.1)

words_more : (gs : List Marked) (m : Marked) → marked_words (gs ++ (m ∷ [])) ≡ marked_words gs + goal_words m.goal
words_more [] m = omega arith
words_more (g ∷ gs) m = omega (arith, words_more gs m)

module _ (S : List Symbol) (test : Marked → Bool) (store : List ℕ) where
  pub pass-start : (at : ℕ) → at ≤ length store → (q : Passed S test store at at) × (length q.goals ≡ 0)
  unfolding every
  pass-start at h = (
    record {
      goals = [];
      reads = λ k. let z : 0 + k ≡ k = omega arith in ap (λ i. read_goals S i (drop at store)) z ∙ before-none (read_goals S k (drop at store));
      passes = refl;
      words = omega arith;
      inside = h;
    },
    refl,
  )

  module _ (at place passed : ℕ) (p : Passed S test store at place) (e : length p.goals ≡ passed) where
    pub pass-more : (end : ℕ) → GoalAt S test store place end → (q : Passed S test store at end) × (length q.goals ≡ passed + 1)
    unfolding read_goals goals_after
    pass-more end g = (
      record {
        goals = p.goals ++ (g.goal ∷ []);
        reads = λ k.
            let z : length (p.goals ++ (g.goal ∷ [])) + k ≡ length p.goals + suc k = omega (arith, length-append p.goals (g.goal ∷ [])) in
            ap (λ i. read_goals S i (drop at store)) z ∙ p.reads (suc k)
            ∙ ap (λ o. before p.goals (goals_after (λ rest. read_goals S k rest) o)) g.reads
            ∙ before-goal p.goals g.goal (read_goals S k (drop end store));
        passes = every_more test p.goals g.goal p.passes g.passes;
        words = omega (arith, p.words, g.words, words_more p.goals g.goal);
        inside = g.inside;
      },
      omega (arith, length-append p.goals (g.goal ∷ [])),
    )

    pub pass-none : (many : ℕ) → passed < many → GoalFound S test store place None → GoalsFound S test store at many None
    unfolding read_goals goals_after with_goal before
    pass-none many h never k ms r t =
        let z : many + k ≡ length p.goals + suc (left + k) = omega arith in
        go (read_goal S (drop place store)) refl (sym (ap (λ i. read_goals S i (drop at store)) z ∙ p.reads (suc (left + k))) ∙ r)
      where
        left : ℕ
        left = many - passed - 1

        others : (m : Marked) → test m ≡ false → (o : Option (List Marked)) → before p.goals (with_goal m o) ≡ some ms → ⊥
        others m f none q = none-ne-some ms q
        others m f (some ns) q =
            false≢true (sym f ∙ every-at test p.goals m ns many (omega arith) (subst (λ x. every test (take many x) ≡ true) (sym (some-injective _ ms q)) t))

        tested : (m : Marked) (rest : List ℕ) → read_goal S (drop place store) ≡ some (goal_read m rest) → (b : Bool) → test m ≡ b → before p.goals (with_goal m (read_goals S (left + k) rest)) ≡ some ms → ⊥
        tested m rest a true b q = never m rest a b
        tested m rest a false b q = others m b (read_goals S (left + k) rest) q

        go : (o : Option GoalRead) → read_goal S (drop place store) ≡ o → before p.goals (goals_after (λ rest. read_goals S (left + k) rest) o) ≡ some ms → ⊥
        go none a q = none-ne-some ms q
        go (some (goal_read m rest)) a q = tested m rest a (test m) refl q

-- ALL OPEN GOALS
map-words : (gs : List Marked) → words_of (map (λ m. m.goal) gs) ≡ marked_words gs
map-words [] = refl
map-words (g ∷ gs) = ap (λ k. goal_words g.goal + k) (map-words gs)

module _ (S : List Symbol) (store : List ℕ) (n k terms : ℕ) where
  open-parts : (gs ps : List Marked) → length gs ≡ n → every (pending_fits terms) gs ≡ true → every (parked_fits terms) ps ≡ true
      → as_open n terms (some (gs ++ ps)) ≡ some (record { pending = map (λ m. m.goal) gs; parked = ps })
  unfolding as_open
  open-parts gs ps e p q =
      let first = take_at gs ps n e in
      let last = drop_at gs ps n e in
      let tp = ap (every (pending_fits terms)) first ∙ p in
      let tq = ap (every (parked_fits terms)) last ∙ q in
      rw (tp, tq, as_open) (λ i. some (record { pending = map (λ m. m.goal) (first i); parked = last i }))

  not-open : ((ms : List Marked) → read_goals S (n + k) store ≡ some ms → every (pending_fits terms) (take n ms) ≡ true → every (parked_fits terms) (drop n ms) ≡ true → ⊥)
      → read_open S n k terms store ≡ none
  unfolding read_open as_open
  not-open h = go (read_goals S (n + k) store) refl
    where
      tested : (ms : List Marked) → read_goals S (n + k) store ≡ some ms → (b : Bool) → (every (pending_fits terms) (take n ms) && every (parked_fits terms) (drop n ms)) ≡ b
          → as_open n terms (some ms) ≡ none
      tested ms r true t = let s = (and-eq-true_iff (every (pending_fits terms) (take n ms)) _).0 t in absurd (h ms r s.0 s.1)
      tested ms r false t = rw (t, as_open)

      go : (o : Option (List Marked)) → read_goals S (n + k) store ≡ o → as_open n terms o ≡ none
      go none r = refl
      go (some ms) r = tested ms r _ refl

  pub none-pending : GoalsFound S (fits_as false terms) store 0 n None → OpenFound S store n k terms None
  none-pending h = not-open (λ ms r p q. h k ms r p)

  module _ (middle : ℕ) (f : GoalsFound S (fits_as false terms) store 0 n (Some middle)) where
    first_part : read_goals S (n + k) store ≡ before f.0.goals (read_goals S k (drop middle store))
    first_part = ap (λ i. read_goals S (i + k) store) (sym f.1) ∙ f.0.reads k

    zero_more : k ≡ k + 0
    zero_more = omega arith

    pub all-open : (end : ℕ) → GoalsFound S (fits_as true terms) store middle k (Some end) → OpenFound S store n k terms (Some (middle, end))
    unfolding read_open read_goals before
    all-open end g =
        let gs = f.0.goals in
        let ps = g.0.goals in
        let r : read_goals S k (drop middle store) ≡ some (ps ++ []) =
        ap (λ i. read_goals S i (drop middle store)) (zero_more ∙ ap (λ i. i + 0) (sym g.1)) ∙ g.0.reads 0 in
        let all : read_goals S (n + k) store ≡ some (gs ++ ps) = first_part ∙ ap (before gs) r ∙ ap (λ x. some (gs ++ x)) (append-nil ps) in (
          record { pending = map (λ m. m.goal) gs; parked = ps },
          ap (as_open n terms) all ∙ open-parts gs ps f.1 f.0.passes g.0.passes,
          omega (arith, f.0.words, map-words gs),
          g.0.words,
          g.0.inside,
        )

    pub none-parked : GoalsFound S (fits_as true terms) store middle k None → OpenFound S store n k terms None
    unfolding before
    none-parked h = not-open (λ ms r p q. go ms r q (read_goals S k (drop middle store)) refl)
      where
        go : (ms : List Marked) → read_goals S (n + k) store ≡ some ms → every (parked_fits terms) (drop n ms) ≡ true → (o : Option (List Marked)) → read_goals S k (drop middle store) ≡ o → ⊥
        go ms r q none e = none-ne-some ms (sym (first_part ∙ ap (before f.0.goals) e) ∙ r)
        go ms r q (some ns) e =
            let same : f.0.goals ++ ns ≡ ms = some-injective _ ms (sym (first_part ∙ ap (before f.0.goals) e) ∙ r) in
            let rest : drop n ms ≡ ns = ap (drop n) (sym same) ∙ drop_at f.0.goals ns n f.1 in
            h 0 ns (ap (λ i. read_goals S i (drop middle store)) (sym zero_more) ∙ e)
            (every_take (fits_as true terms) k ns (subst (λ x. every (parked_fits terms) x ≡ true) rest q))

-- An opened deck has the symbols of its symbol words.
pub deck-symbols : (ws symbols : List ℕ) (d : Deck) → open_deck ws ≡ accepted d → symbols ≡ symbol_words ws → symbols_of symbols ≡ d.symbols
deck-symbols ws symbols d e s = ap symbols_of s ∙ sym (accepted-symbols ws d e)
