-- A goal without its negative literal, and the goal of a new level behind the words held.
use Prim.Native.Nat.{ℕ, suc, ◌+◌, ◌-◌, ◌≤◌, ◌<◌}
use mathlib.Core.Path.{◌≡◌, sym, ◌∙◌, ap, ap₂}
use mathlib.Core.List.{List, [], ◌∷◌, ◌++◌, reverse, reverse-reverse, append_assoc, append-nil}
use native.Mathlib.Omega.{arith}
use lib.ListN.{length, get_or, take, drop, length-append, length-reverse, length-drop}
use lib.Seq.{sets, sets-eq, take_at, drop_at, take-take, length-take-le, length-sets}
use borrow.Rule.Slice.PartMut.{mid_of}
use Rattle.rules.specs.Terms.{Terms, sizes}
use Rattle.rules.specs.Syntax.{Symbol, Literal, pos, neg, Goal, arguments}
use Rattle.rules.specs.Cells.{numbered, write_terms, write_literal, write_literals}
use Rattle.rules.specs.Goals.{unmarked, goal_cells, goal_words, write_goals}
use Rattle.rules.specs.WellFormed.{WfGoal}
use Rattle.rules.proofs.CellLaws.{literal_sizes, terms-length, literals-length, write-append, write_literals-append}
use Rattle.rules.proofs.GoalLaws.{goal-words, goals-length}
use Rattle.rules.specs.Resolution.{negative}
use Rattle.rules.proofs.FormedLaws.{literals-size, atom-wf}
use Rattle.rules.proofs.SelectLaws.{Selected, select-selected}
use Rattle.rules.proofs.GoalsKept.{wf-kept}
use Rattle.words.proofs.StoreLaws.{take-sets-before}
use Rattle.resolvents.specs.Selecting.{Spans}
use Rattle.goals.specs.Store.{Holding, atom_goal}
use Rattle.levels.specs.Levels.{Asking, Negates}
use Rattle.goals.proofs.HeldLaws.{pending_words, goals-first, held-words, first-length, part_length}

-- THE CELLS OF A GOAL WITH THE LITERAL l
literal-cells : (l : Literal) (rest : List ℕ) → write_literal l rest ≡ write_literal l [] ++ rest
literal-cells (pos p ts) rest = ap {B = List ℕ} (λ x. p ∷ x) (write-append ts rest)
literal-cells (neg p ts) rest = ap {B = List ℕ} (λ x. (16384 + p) ∷ x) (write-append ts rest)

pub literal-length : (l : Literal) → length (write_literal l []) ≡ suc (sizes (arguments l))
literal-length (pos p ts) = omega (arith, terms-length ts [])
literal-length (neg p ts) = omega (arith, terms-length ts [])

-- The cells before a literal.
abbrev pub cells_before : Terms → List Literal → List ℕ
cells_before answer_terms before = write_terms answer_terms [] ++ write_literals before

pub before-length : (answer_terms : Terms) (before : List Literal) → length (cells_before answer_terms before) ≡ sizes answer_terms + literal_sizes before
before-length answer_terms before =
    length-append (write_terms answer_terms []) (write_literals before) ∙ omega (arith, terms-length answer_terms [], literals-length before)

goal-cells : (answer_terms : Terms) (before others : List Literal)
    → goal_cells (record { answer_terms = answer_terms; literals = before ++ others }) ≡ cells_before answer_terms before ++ write_literals others
unfolding goal_cells
goal-cells answer_terms before others =
    write-append answer_terms (write_literals (before ++ others))
    ∙ ap (write_terms answer_terms [] ++◌) (write_literals-append before others)
    ∙ sym (append_assoc (write_terms answer_terms []) (write_literals before) (write_literals others))

module _ (g : Goal) (before : List Literal) (l : Literal) (after : List Literal) (e : g.literals ≡ before ++ (l ∷ after)) where
  pub cells-around : goal_cells g ≡ cells_before g.answer_terms before ++ (write_literal l [] ++ write_literals after)
  cells-around =
      ap (λ ls. goal_cells (record { answer_terms = g.answer_terms; literals = ls })) e
      ∙ goal-cells g.answer_terms before (l ∷ after)
      ∙ ap (cells_before g.answer_terms before ++◌) (literal-cells l (write_literals after))

  -- The goal without the literal.
  abbrev pub without_literal : Goal
  without_literal = record { answer_terms = g.answer_terms; literals = before ++ after }

  without-words : goal_words without_literal + suc (sizes (arguments l)) ≡ goal_words g
  without-words =
      omega (
        arith,
        goal-words without_literal,
        goal-words g,
        ap literal_sizes e,
        literals-size before after,
        literals-size before (l ∷ after),
      )

  module _ (s e' : ℕ) (span : Spans g.answer_terms before l s e') (rest : List ℕ) where
    -- The words with the cells from s up to e' taken out.
    words-without : let ws = pending_words g ++ rest in
        (goal_words g - (e' - s)) ∷ (take (s + 1) (drop 1 ws) ++ drop (e' + 2) ws) ≡ pending_words without_literal ++ rest
    words-without =
        let ws = pending_words g ++ rest in
        let A = cells_before g.answer_terms before in
        let L = write_literal l [] in
        let B = write_literals after in
        let na : length A ≡ s = before-length g.answer_terms before ∙ sym span.start in
        let nl : length L ≡ e' - s = literal-length l ∙ omega (arith, span.end) in
        let cells : goal_cells g ++ rest ≡ A ++ (L ++ (B ++ rest)) = ap (◌++ rest) cells-around ∙ simp append_assoc in
        let front : take (s + 1) (drop 1 ws) ≡ sizes g.answer_terms ∷ A =
        ap (λ (r : List ℕ). take (s + 1) (sizes g.answer_terms ∷ r)) cells
        ∙ take_at (sizes g.answer_terms ∷ A) (L ++ (B ++ rest)) (s + 1) (omega arith) in
        let behind : drop (e' + 2) ws ≡ B ++ rest =
        ap (λ (r : List ℕ). drop (e' + 2) (goal_words g ∷ (sizes g.answer_terms ∷ r))) (cells ∙ sym (append_assoc A L (B ++ rest)))
        ∙ drop_at (goal_words g ∷ (sizes g.answer_terms ∷ (A ++ L))) (B ++ rest) (e' + 2) (omega (arith, length-append A L, span.end)) in
        let words : goal_words g - (e' - s) ≡ goal_words without_literal = omega (arith, without-words, span.end) in
        let others : A ++ (B ++ rest) ≡ goal_cells without_literal ++ rest =
        sym (append_assoc A B rest) ∙ ap (◌++ rest) (sym (goal-cells g.answer_terms before after)) in
        ap₂ (λ (w : ℕ) (r : List ℕ). w ∷ r) words
        (ap₂ (λ (x y : List ℕ). x ++ y) front behind ∙ ap (λ (r : List ℕ). sizes g.answer_terms ∷ r) others)

-- A goal that loses a negative literal without variables.
pub removed-held : {S : List Symbol} {store store' : List ℕ} {held s e : ℕ} {g : Goal} {gs : List Goal} {before : List Literal} {p : ℕ} {ts : Terms} {after : List Literal}
    → Negates S store held s e g gs before p ts after → length store' ≡ length store
    → take (held - (e - s)) store'
    ≡ reverse ((get_or store (held - 1) 0 - (e - s)) ∷ (take (s + 1) (drop 1 (reverse (take held store))) ++ drop (e + 2) (reverse (take held store))))
    → Holding S store' (held - (e - s)) (record { answer_terms = g.answer_terms; literals = before ++ after } ∷ gs)
removed-held {S} {store} {held = held} {s} {e} {g} {gs} {before} {p} {ts} {after} n l w =
    let h = n.holding in
    let chosen : Selected g.literals (negative before p ts after) = rw n.selects at (select-selected g.literals) in
    let ws = reverse-of store (pending_words g ++ write_goals (unmarked gs)) held (h.words ∙ ap reverse (goals-first g gs)) in
    let same : (get_or store (held - 1) 0 - (e - s)) ∷ (take (s + 1) (drop 1 (reverse (take held store))) ++ drop (e + 2) (reverse (take held store)))
    ≡ pending_words (record { answer_terms = g.answer_terms; literals = before ++ after }) ++ write_goals (unmarked gs)
    = rw (first-length h, ws) (words-without g before (neg p ts) after chosen.0 s e n.span (write_goals (unmarked gs))) in
    record {
      inside = omega (arith, h.inside);
      well_formed = (((wf-kept S [] tt g h.well_formed.0).asks before p ts after chosen.0 chosen.1).1, h.well_formed.1);
      words = w ∙ ap reverse same ∙ ap reverse (sym (goals-first (record { answer_terms = g.answer_terms; literals = before ++ after }) gs));
    }
  where
    reverse-of : (s ys : List ℕ) (k : ℕ) → take k s ≡ reverse ys → reverse (take k s) ≡ ys
    reverse-of s ys k h = ap reverse h ∙ reverse-reverse ys

-- Where the literal stands.
pub negates-inside : {S : List Symbol} {store : List ℕ} {held s e : ℕ} {g : Goal} {gs : List Goal} {before : List Literal} {p : ℕ} {ts : Terms} {after : List Literal}
    → Negates S store held s e g gs before p ts after
    → (s ≤ e) × (e + 2 ≤ get_or store (held - 1) 0) × (get_or store (held - 1) 0 ≤ held) × (held ≤ length store) × (0 < held)
negates-inside {g = g} {gs} {before} {p} {ts} {after} n =
    let chosen : Selected g.literals (negative before p ts after) = rw n.selects at (select-selected g.literals) in
    let h = n.holding in
    let words = goal-words g in
    let all = ap literal_sizes chosen.0 in
    let parts = literals-size before (neg p ts ∷ after) in
    let start = n.span.start in
    let end = n.span.end in
    let size = first-length h in
    let whole = held-words h in
    (omega arith, omega arith, omega arith, h.inside, omega arith)

-- THE GOAL OF A NEW LEVEL
atom-words : (p : ℕ) (ts : Terms) → write_goals (unmarked (atom_goal p ts ∷ [])) ≡ (sizes ts + 3) ∷ 0 ∷ p ∷ write_terms ts []
unfolding goal_cells goal_words write_goals
atom-words p ts =
    let n : goal_words (atom_goal p ts) ≡ sizes ts + 3 = omega (arith, terms-length ts []) in
    goals-first (atom_goal p ts) [] ∙ append-nil (pending_words (atom_goal p ts)) ∙ ap (λ (w : ℕ). w ∷ 0 ∷ p ∷ write_terms ts []) n

pub atom-size : (p : ℕ) (ts : Terms) → goal_words (atom_goal p ts) ≡ sizes ts + 3
atom-size p ts = goal-words (atom_goal p ts) ∙ omega arith

module _ {cells : List ℕ} {s e : ℕ} {S : List Symbol} {p : ℕ} {ts : Terms} (a : Asking cells s e S p ts) where
  -- Its cells: as many as its terms have and one, first its predicate, then its terms.
  abbrev literal : List ℕ
  literal = take (e - s) (drop s cells)

  asked-length : length literal ≡ sizes ts + 1
  asked-length = ap length a.cells ∙ omega (arith, terms-length ts [])

  asked-first : get_or literal 0 0 ≡ 16384 + p
  asked-first = ap (λ (r : List ℕ). get_or r 0 0) a.cells

  pub asked-size : e - s ≡ length literal
  asked-size = sym (length-take-le (e - s) (drop s cells) (omega (arith, length-drop s cells, a.order, a.inside)))

  pub asked-inside : (s ≤ e) × (e ≤ length cells) × (0 < length literal) × (16384 ≤ get_or literal 0 0) × (length literal ≤ 1022)
  asked-inside = (a.order, a.inside, omega (arith, asked-length), omega (arith, asked-first), omega (arith, asked-length, atom-size p ts, a.short))

  -- The words that are written for it.
  asked-words : (length literal + 2) ∷ 0 ∷ (get_or literal 0 0 - 16384) ∷ drop 1 literal ≡ write_goals (unmarked (atom_goal p ts ∷ []))
  asked-words =
      let w : length literal + 2 ≡ sizes ts + 3 = omega (arith, asked-length) in
      let q : get_or literal 0 0 - 16384 ≡ p = omega (arith, asked-first) in
      let r : drop 1 literal ≡ write_terms ts [] = ap (drop 1) a.cells in
      rw (w, q, r) (sym (atom-words p ts))

  asked-wf : WfGoal S (atom_goal p ts)
  unfolding numbered
  asked-wf = record {
    answer_terms = tt;
    literals = (atom-wf S p ts a.literal, tt);
    in_order = rw a.ground;
    short = a.short;
  }

  pub asked-held : (store store' : List ℕ) (held : ℕ) → held + length literal + 2 ≤ length store
      → store' ≡ sets store held (reverse ((length literal + 2) ∷ 0 ∷ (get_or literal 0 0 - 16384) ∷ drop 1 literal))
      → Holding S (mid_of held (length store' - held) store') (length literal + 2) (atom_goal p ts ∷ [])
  asked-held store store' held fits q =
      let ws = write_goals (unmarked (atom_goal p ts ∷ [])) in
      let vs = reverse ws in
      let n : length vs ≡ length literal + 2 = length-reverse ws ∙ goals-length (unmarked (atom_goal p ts ∷ [])) ∙ omega (arith, atom-size p ts, asked-length) in
      let t : store' ≡ sets store held vs = q ∙ ap (λ (r : List ℕ). sets store held (reverse r)) asked-words in
      let d : drop held store' ≡ vs ++ drop (held + length vs) store =
      ap (drop held) (t ∙ sets-eq vs store held (omega arith) ∙ append_assoc (take held store) vs (drop (held + length vs) store))
      ∙ drop_at (take held store) (vs ++ drop (held + length vs) store) held (length-take-le held store (omega arith)) in
      let l = part_length store store' held (omega arith) (ap length t ∙ simp length-sets) in
      record {
        inside = omega arith;
        well_formed = (asked-wf, tt);
        words =
            take-take (length literal + 2) (length store' - held) (drop held store') (omega (arith, ap length t, length-sets store held vs))
            ∙ ap (take (length literal + 2)) d
            ∙ take_at vs (drop (held + length vs) store) (length literal + 2) n;
      }

  pub asked-kept : (store store' : List ℕ) (held : ℕ)
      → store' ≡ sets store held (reverse ((length literal + 2) ∷ 0 ∷ (get_or literal 0 0 - 16384) ∷ drop 1 literal))
      → take held store' ≡ take held store
  asked-kept store store' held q =
      ap (take held) q
      ∙ take-sets-before (reverse ((length literal + 2) ∷ 0 ∷ (get_or literal 0 0 - 16384) ∷ drop 1 literal)) store held held (omega arith)
