-- Writing and reading goals: the words that goals take; well-formed goals, once written, are read as themselves;
-- and whatever is read is the writing of the goals that it was read as.
use Prim.Native.Nat.{ℕ, zero, suc, ◌+◌, ◌-◌, ◌*◌, ◌/◌, ◌%◌, ◌≤◌}
use mathlib.Core.Path.{◌≡◌, refl, ap, ap₂, sym, ◌∙◌, subst}
use mathlib.Core.Bool.{Bool, true, false, ◌&&◌, and-eq-true_iff}
use mathlib.Core.Option.{Option, none, some, none-ne-some, some-injective}
use mathlib.Core.List.{List, [], ◌∷◌, ◌++◌, append_assoc}
use native.Mathlib.Omega.{arith}
use lib.ListN.{length, take, drop, length-append, take-append-drop}
use lib.Seq.{take_at, drop_at, length-take-le}
use lib.Dec.{leb, eqb}
use borrow.Author.Tests.{le-leb, leb-true, eq-eqb, eqb-true}
use Rattle.rules.specs.Terms.{sizes}
use Rattle.rules.specs.Syntax.{Symbol, Goal, vars_literals, vars_goal}
use Rattle.rules.specs.Cells.{Row, row, read_row}
use Rattle.rules.specs.Goals.{Mark, pending, floundered, undecided, oversized, deep, mark_number, Marked, marked, unmarked, goal_cells, goal_words, write_goal, write_goals, words_of, marked_words, read_mark, GoalRead, goal_read, as_goal, read_goal, with_goal, goals_after, read_goals}
use Rattle.rules.specs.WellFormed.{All, WfTerms, WfLiterals, WfGoal, WfMarked}
use Rattle.rules.proofs.CellLaws.{Small, literal_sizes, row-length, terms-vars, literals-vars, in_order-small, read-row, Reads, row_reads}

-- The words that goals take.
pub goal-words : (g : Goal) → goal_words g ≡ 2 + (sizes g.answer_terms + literal_sizes g.literals)
unfolding goal_words goal_cells
goal-words g = ap (2 +◌) (row-length g.answer_terms g.literals)

pub goal-length : (m : Marked) → length (write_goal m) ≡ goal_words m.goal
unfolding write_goal goal_words
goal-length m = omega arith

pub goals-length : (ms : List Marked) → length (write_goals ms) ≡ marked_words ms
unfolding write_goals
goals-length [] = refl
goals-length (m ∷ ms) = omega (arith, length-append (write_goal m) (write_goals ms), goal-length m, goals-length ms)

pub unmarked-words : (gs : List Goal) → marked_words (unmarked gs) ≡ words_of gs
unmarked-words [] = refl
unmarked-words (g ∷ gs) = ap (goal_words g +◌) (unmarked-words gs)

-- One list of goals and then another.
pub goals-append : (ms ns : List Marked) → write_goals (ms ++ ns) ≡ write_goals ms ++ write_goals ns
unfolding write_goals
goals-append [] ns = refl
goals-append (m ∷ ms) ns = ap (write_goal m ++◌) (goals-append ms ns) ∙ simp append_assoc

pub marked_words-append : (ms ns : List Marked) → marked_words (ms ++ ns) ≡ marked_words ms + marked_words ns
marked_words-append [] ns = omega arith
marked_words-append (m ∷ ms) ns = omega (arith, marked_words-append ms ns)

pub words_of-append : (gs hs : List Goal) → words_of (gs ++ hs) ≡ words_of gs + words_of hs
words_of-append [] hs = omega arith
words_of-append (g ∷ gs) hs = omega (arith, words_of-append gs hs)

pub unmarked-append : (gs hs : List Goal) → unmarked (gs ++ hs) ≡ unmarked gs ++ unmarked hs
unmarked-append [] hs = refl
unmarked-append (g ∷ gs) hs = ap {B = List Marked} (λ ms. marked pending g ∷ ms) (unmarked-append gs hs)

-- A well-formed goal's variables can be held by cells.
pub goal-small : (S : List Symbol) (g : Goal) → WfGoal S g → All Small (vars_goal g)
goal-small S g w =
    in_order-small (vars_goal g) w.in_order
    (omega (arith, terms-vars g.answer_terms (vars_literals g.literals), literals-vars g.literals, goal-words g, w.short))

-- What is written is read.
mark-read : (m : Mark) → read_mark (mark_number m) ≡ some m
unfolding read_mark mark_number
mark-read pending = refl
mark-read floundered = refl
mark-read undecided = refl
mark-read oversized = refl
mark-read deep = refl

goal-row : (S : List Symbol) (g : Goal) → WfGoal S g → read_row S (goal_cells g) ≡ some (row g.answer_terms g.literals)
unfolding goal_cells
goal-row S g w = read-row S g.answer_terms g.literals w.answer_terms w.literals (goal-small S g w)

as_goal-row : (m : Mark) (g : Goal) (rest : List ℕ) → as_goal (some m) (sizes g.answer_terms) (some (row g.answer_terms g.literals)) rest ≡ some (goal_read (marked m g) rest)
unfolding as_goal
as_goal-row m g rest = rw (eq-eqb (sizes g.answer_terms) (sizes g.answer_terms) refl, as_goal)

-- A goal of n cells, and the words after it.
goal-cut :
    (S : List Symbol) (w a n : ℕ) (ws : List ℕ) → w % 4096 ≡ 2 + n → n ≤ length ws
    → read_goal S (w ∷ a ∷ ws) ≡ as_goal (read_mark (w / 4096)) a (read_row S (take n ws)) (drop n ws)
unfolding read_goal
goal-cut S w a n ws e h =
    let m : w % 4096 - 2 ≡ n = omega arith in
    rw (le-leb 2 (w % 4096) (omega arith), le-leb (w % 4096 - 2) (length ws) (omega arith), read_goal)
    (ap (λ k. as_goal (read_mark (w / 4096)) a (read_row S (take k ws)) (drop k ws)) m)

pub read-goal : (S : List Symbol) (m : Marked) (rest : List ℕ) → WfMarked S m → read_goal S (write_goal m ++ rest) ≡ some (goal_read m rest)
unfolding write_goal goal_words
read-goal S m rest w =
    let n = length (goal_cells m.goal) in
    let short : 2 + n ≤ 1024 = w.short in
    let k : (2 + n + 4096 * mark_number m.mark) / 4096 ≡ mark_number m.mark = omega arith in
    goal-cut S (2 + n + 4096 * mark_number m.mark) (sizes m.goal.answer_terms) n (goal_cells m.goal ++ rest) (omega arith) (omega (arith, length-append (goal_cells m.goal) rest))
    ∙ rw (k, mark-read, take_at (goal_cells m.goal) rest n refl, drop_at (goal_cells m.goal) rest n refl)
    (ap (λ r. as_goal (some m.mark) (sizes m.goal.answer_terms) r rest) (goal-row S m.goal w) ∙ as_goal-row m.mark m.goal rest)

pub read-goals : (S : List Symbol) (ms : List Marked) (rest : List ℕ) → All (WfMarked S) ms → read_goals S (length ms) (write_goals ms ++ rest) ≡ some ms
unfolding read_goals write_goals goals_after with_goal
read-goals S [] rest w = refl
read-goals S (m ∷ ms) rest w = rw (append_assoc, read-goal S m (write_goals ms ++ rest) w.0, read-goals S ms rest w.1)

-- What is read was written.
mark-written : (k : ℕ) (m : Mark) → read_mark k ≡ some m → k ≡ mark_number m
unfolding read_mark mark_number
mark-written zero m e = ap mark_number (some-injective pending m e)
mark-written (suc zero) m e = ap mark_number (some-injective floundered m e)
mark-written (suc (suc zero)) m e = ap mark_number (some-injective undecided m e)
mark-written (suc (suc (suc zero))) m e = ap mark_number (some-injective oversized m e)
mark-written (suc (suc (suc (suc zero)))) m e = ap mark_number (some-injective deep m e)
mark-written (suc (suc (suc (suc (suc k))))) m e = absurd (none-ne-some m e)

-- The goal that words begin with, and what is after it.
pub record GoalReads (S : List Symbol) (ws : List ℕ) (m : Marked) (rest : List ℕ) : Type 0 where
  pub written : ws ≡ write_goal m ++ rest
  pub answer_terms : WfTerms S m.goal.answer_terms
  pub literals : WfLiterals S m.goal.literals

-- The parts that a goal was put together from, and the words that they were read from.
as_goal-parts :
    (o : Option Mark) (a : ℕ) (r : Option Row) (rest : List ℕ) (m : Marked) (rest' : List ℕ) → as_goal o a r rest ≡ some (goal_read m rest')
    → (o ≡ some m.mark) × (r ≡ some (row m.goal.answer_terms m.goal.literals)) × (sizes m.goal.answer_terms ≡ a) × (rest ≡ rest')
unfolding as_goal
as_goal-parts none a r rest m rest' e = absurd (none-ne-some (goal_read m rest') e)
as_goal-parts (some k) a none rest m rest' e = absurd (none-ne-some (goal_read m rest') e)
as_goal-parts (some k) a (some (row ts ls)) rest m rest' e = go (eqb (sizes ts) a) refl
  where
    g : Marked
    g = marked k (record { answer_terms = ts; literals = ls })

    go :
        (b : Bool) → eqb (sizes ts) a ≡ b
        → (some k ≡ some m.mark) × (some (row ts ls) ≡ some (row m.goal.answer_terms m.goal.literals)) × (sizes m.goal.answer_terms ≡ a) × (rest ≡ rest')
    go true q =
        let same : some (goal_read g rest) ≡ some (goal_read m rest') = sym (rw (q, as_goal)) ∙ e in
        let h : g ≡ m = cc in (
          ap (λ (x : Marked). some x.mark) h,
          ap (λ (x : Marked). some (row x.goal.answer_terms x.goal.literals)) h,
          ap (λ (x : Marked). sizes x.goal.answer_terms) (sym h) ∙ eqb-true (sizes ts) a q,
          cc,
        )
    go false q = absurd (none-ne-some (goal_read m rest') (sym (rw (q, as_goal)) ∙ e))

goal-parts :
    (S : List Symbol) (w a n : ℕ) (ws : List ℕ) (m : Marked) (rest : List ℕ) → w % 4096 ≡ 2 + n → n ≤ length ws → w / 4096 ≡ mark_number m.mark
    → Reads S (take n ws) m.goal.answer_terms m.goal.literals → sizes m.goal.answer_terms ≡ a → drop n ws ≡ rest → GoalReads S (w ∷ a ∷ ws) m rest
unfolding write_goal goal_words goal_cells
goal-parts S w a n ws m rest e fits k r s d =
    let l : length (goal_cells m.goal) ≡ n = ap length (sym r.written) ∙ length-take-le n ws fits in
    let first : w ≡ goal_words m.goal + 4096 * mark_number m.mark = omega arith in
    let after : ws ≡ goal_cells m.goal ++ rest = sym (take-append-drop n ws) ∙ ap₂ ◌++◌ r.written d in
    record { written = ap₂ ◌∷◌ first (ap₂ ◌∷◌ (sym s) after); answer_terms = r.terms; literals = r.literals }

pub goal-reads : (S : List Symbol) (ws : List ℕ) (m : Marked) (rest : List ℕ) → read_goal S ws ≡ some (goal_read m rest) → GoalReads S ws m rest
unfolding read_goal
goal-reads S [] m rest e = absurd (none-ne-some (goal_read m rest) e)
goal-reads S (w ∷ []) m rest e = absurd (none-ne-some (goal_read m rest) e)
goal-reads S (w ∷ a ∷ ws) m rest e = go (leb 2 (w % 4096) && leb (w % 4096 - 2) (length ws)) refl
  where
    go : (b : Bool) → (leb 2 (w % 4096) && leb (w % 4096 - 2) (length ws)) ≡ b → GoalReads S (w ∷ a ∷ ws) m rest
    go true q =
        let n = w % 4096 - 2 in
        let t = (and-eq-true_iff (leb 2 (w % 4096)) (leb n (length ws))).0 q in
        let least : 2 ≤ w % 4096 = leb-true 2 (w % 4096) t.0 in
        let fits : n ≤ length ws = leb-true n (length ws) t.1 in
        let p = as_goal-parts (read_mark (w / 4096)) a (read_row S (take n ws)) (drop n ws) m rest (sym (goal-cut S w a n ws (omega arith) fits) ∙ e) in
        goal-parts S w a n ws m rest (omega arith) fits (mark-written (w / 4096) m.mark p.0) (row_reads S (take n ws) m.goal.answer_terms m.goal.literals p.1) p.2 p.3
    go false q = absurd (none-ne-some (goal_read m rest) (sym (rw (q, read_goal)) ∙ e))

-- The goals that words begin with.
pub record GoalsReads (S : List Symbol) (n : ℕ) (ws : List ℕ) (ms : List Marked) : Type 0 where
  pub rest : List ℕ
  pub many : length ms ≡ n
  pub written : ws ≡ write_goals ms ++ rest
  pub symbols : All (λ m. WfTerms S m.goal.answer_terms × WfLiterals S m.goal.literals) ms

goals-one :
    (S : List Symbol) (n : ℕ) (ws rest : List ℕ) (m : Marked) (ms : List Marked) → GoalReads S ws m rest → GoalsReads S n rest ms → GoalsReads S (suc n) ws (m ∷ ms)
unfolding write_goals
goals-one S n ws rest m ms h r =
    record {
      rest = r.rest;
      many = ap suc r.many;
      written = h.written ∙ ap (write_goal m ++◌) r.written ∙ simp append_assoc;
      symbols = ((h.answer_terms, h.literals), r.symbols);
    }

pub goals-reads : (S : List Symbol) (n : ℕ) (ws : List ℕ) (ms : List Marked) → read_goals S n ws ≡ some ms → GoalsReads S n ws ms
unfolding read_goals goals_after with_goal write_goals
goals-reads S zero ws [] e = record { rest = ws; many = refl; written = refl; symbols = tt }
goals-reads S zero ws (m ∷ ms) e = absurd (let z : ◌≡◌ {A = ℕ} 0 1 = cc in omega arith)
goals-reads S (suc n) ws ms e = go (read_goal S ws) refl e (λ rest ms' q. goals-reads S n rest ms' q)
  where
    others :
        (m : Marked) (rest : List ℕ) (o : Option (List Marked)) → GoalReads S ws m rest → ((ms' : List Marked) → o ≡ some ms' → GoalsReads S n rest ms') → with_goal m o ≡ some ms
        → GoalsReads S (suc n) ws ms
    others m rest none h more q = absurd (none-ne-some ms q)
    others m rest (some ms') h more q = subst (GoalsReads S (suc n) ws) (some-injective (m ∷ ms') ms q) (goals-one S n ws rest m ms' h (more ms' refl))

    go :
        (o : Option GoalRead) → read_goal S ws ≡ o → goals_after (λ rest. read_goals S n rest) o ≡ some ms
        → ((rest : List ℕ) (ms' : List Marked) → read_goals S n rest ≡ some ms' → GoalsReads S n rest ms') → GoalsReads S (suc n) ws ms
    go none r q more = absurd (none-ne-some ms q)
    go (some (goal_read m rest)) r q more = others m rest (read_goals S n rest) (goal-reads S ws m rest r) (more rest) q
