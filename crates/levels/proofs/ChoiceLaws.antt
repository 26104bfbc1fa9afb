-- What is known once the first goal's cells are copied and a literal is selected in them.
use Prim.Native.Nat.{ℕ, ◌+◌, ◌-◌, ◌≤◌}
use mathlib.Core.Path.{◌≡◌, refl, sym, ◌∙◌, ap}
use mathlib.Core.List.{List, [], ◌∷◌, ◌++◌, reverse, append_assoc}
use native.Mathlib.Omega.{arith}
use lib.ListN.{length, get_or, take, drop, length-reverse, length-append, length-drop, take-append-drop}
use lib.Seq.{length-take-le, take_at, drop_at}
use Rattle.rules.specs.Terms.{Terms}
use Rattle.rules.specs.Syntax.{Symbol, Literal, pos, neg, Deck, Goal}
use Rattle.rules.specs.Refusals.{accepted}
use Rattle.rules.specs.Decks.{open_deck, symbol_words}
use Rattle.rules.specs.Cells.{write_literal, write_literals}
use Rattle.rules.specs.Goals.{goal_cells, goal_words}
use Rattle.rules.specs.WellFormed.{WfLiteral}
use Rattle.rules.proofs.ListLaws.{all_split}
use Rattle.rules.proofs.GoalsKept.{wf-kept}
use Rattle.rules.specs.Resolution.{Selection, nothing, positive, negative, select}
use Rattle.rules.proofs.DeckLaws.{steps-open}
use Rattle.rules.proofs.SelectLaws.{Selected, select-selected}
use Rattle.words.proofs.Reverse.{reverse_end}
use Rattle.resolvents.specs.Selecting.{GoalCells, Spans, Selects}
use Rattle.resolvents.specs.declared.select.Selected.TheVariants as selected
use Rattle.goals.specs.Store.{Holding, atom_goal}
use Rattle.derivation.specs.Derives.{Deriving}
use Rattle.levels.specs.Levels.{Asking, Negates, Negating}
use Rattle.goals.proofs.HeldLaws.{still-held, cells-length, first-room, first-length, first-answers, first-cells}
use Rattle.levels.proofs.NegativeLaws.{atom-size, cells_before, before-length, literal-length, cells-around}

-- THE SELECTED LITERAL, and where it stands.
pub record Positive (g : Goal) (s e : ℕ) : Type 0 where
  pub before : List Literal
  pub predicate : ℕ
  pub terms : Terms
  pub after : List Literal
  pub selects : select g.literals ≡ positive before predicate terms after
  pub span : Spans g.answer_terms before (pos predicate terms) s e

pub record Negative (g : Goal) (s e : ℕ) : Type 0 where
  pub before : List Literal
  pub predicate : ℕ
  pub terms : Terms
  pub after : List Literal
  pub selects : select g.literals ≡ negative before predicate terms after
  pub span : Spans g.answer_terms before (neg predicate terms) s e

module _ (g : Goal) where
  chosen-nothing : (c : Selection) → Selects g c selected.Nothing → c ≡ nothing
  chosen-nothing nothing h = refl
  chosen-nothing (positive before p ts after) h = absurd h
  chosen-nothing (negative before p ts after) h = absurd h

  pub is-nothing : Selects g (select g.literals) selected.Nothing → select g.literals ≡ nothing
  is-nothing h = chosen-nothing (select g.literals) h

  module _ (s e : ℕ) where
    chosen-positive : (c : Selection) → select g.literals ≡ c → Selects g c (selected.Positive s e) → Positive g s e
    chosen-positive nothing q h = absurd h
    chosen-positive (positive before p ts after) q h = record { before = before; predicate = p; terms = ts; after = after; selects = q; span = h }
    chosen-positive (negative before p ts after) q h = absurd h

    pub is_positive : Selects g (select g.literals) (selected.Positive s e) → Positive g s e
    is_positive h = chosen-positive (select g.literals) refl h

    chosen-negative : (c : Selection) → select g.literals ≡ c → Selects g c (selected.Negative s e) → Negative g s e
    chosen-negative nothing q h = absurd h
    chosen-negative (positive before p ts after) q h = absurd h
    chosen-negative (negative before p ts after) q h = record { before = before; predicate = p; terms = ts; after = after; selects = q; span = h }

    pub is_negative : Selects g (select g.literals) (selected.Negative s e) → Negative g s e
    is_negative h = chosen-negative (select g.literals) refl h

-- THE GOAL'S CELLS, copied to the start of `row`; its length and the number of its answer-term cells read.
pub record Copied (store : List ℕ) (held w a : ℕ) (row : List ℕ) : Type 0 where
  pub words : w ≡ get_or store (held - 1) 0
  pub answer_cells : a ≡ get_or store (held - 2) 0
  pub long : w ≤ length row
  pub cells : take (w - 2) row ≡ take (w - 2) (reverse (take (held - 2) store))

-- `image` is the mirror image that was written over the start of `row`.
pub copied : {S : List Symbol} {store : List ℕ} {held : ℕ} {g : Goal} {gs : List Goal} → Holding S store held (g ∷ gs)
    → (row image : List ℕ) (w a : ℕ) → w ≡ get_or store (held - 1) 0 → a ≡ get_or store (held - 2) 0 → 8192 ≤ length row
    → image ≡ reverse (take (held - 2 - (held - 2 - (w - 2))) (drop (held - 2 - (w - 2)) store)) → Copied store held w a (image ++ drop (w - 2) row)
copied {store = store} {held} h row image w a q r l e =
    let k = first-room h in
    let i : image ≡ take (w - 2) (reverse (take (held - 2) store)) = e ∙ reverse_end store (held - 2) (w - 2) (omega arith) (omega arith) in
    let n : length image ≡ w - 2 =
    ap length i
    ∙ length-take-le (w - 2) (reverse (take (held - 2) store))
    (omega (arith, length-reverse (take (held - 2) store), length-take-le (held - 2) store (omega arith))) in
    record {
      words = q;
      answer_cells = r;
      long = omega (arith, length-append image (drop (w - 2) row), length-drop (w - 2) row);
      cells = take_at image (drop (w - 2) row) (w - 2) n ∙ i;
    }

module _ (deck_words : List ℕ) {store row : List ℕ} {held w a : ℕ} (c : Copied store held w a row) {d : Deck} {g : Goal} {gs : List Goal}
    (o : open_deck deck_words ≡ accepted d) (h : Holding d.symbols store held (g ∷ gs)) where
  size : w ≡ goal_words g
  size = c.words ∙ first-length h

  row-cells : take (w - 2) row ≡ goal_cells g
  row-cells = c.cells ∙ first-cells h (w - 2) (omega (arith, size, cells-length g))

  pub goal-row : (ar : List ℕ) (n : ℕ) → ar ≡ symbol_words deck_words → n ≡ w - 2 → GoalCells ar (take n row) a d.symbols g
  goal-row ar n p q = record {
    symbols = rw p (steps-open deck_words d o).symbols;
    well_formed = h.well_formed.0;
    goal = rw q row-cells;
    wide = c.answer_cells ∙ first-answers h;
  }

  pub to-derive : (s e : ℕ) (k : Positive g s e) → Deriving deck_words store row held (w - 2) a s e d g gs k.before k.predicate k.terms k.after
  to-derive s e k =
      let chosen : Selected g.literals (positive k.before k.predicate k.terms k.after) = rw k.selects at (select-selected g.literals) in
      record {
        opens = o;
        holding = h;
        sized = omega (arith, size, cells-length g);
        calls = record {
          inside = omega (arith, c.long);
          goal = goal-row (symbol_words deck_words) (w - 2) refl refl;
          literals = chosen;
          span = k.span;
          fresh = refl;
        };
      }

  pub to-negate : (s e : ℕ) (k : Negative g s e) → Negating deck_words store row held s e d g gs k.before k.predicate k.terms k.after
  to-negate s e k =
      let n : length (goal_cells g) ≡ w - 2 = omega (arith, size, cells-length g) in
      record { opens = o; negates = record { holding = h; selects = k.selects; span = k.span }; cells = rw n row-cells }

-- What a selected negative literal asks.
cells_at : (row A L B : List ℕ) (n s k : ℕ) → take n row ≡ A ++ (L ++ B) → length A ≡ s → length L ≡ k → take k (drop s row) ≡ L
cells_at row A L B n s k e la lk =
    let all : row ≡ A ++ (L ++ (B ++ drop n row)) = sym (take-append-drop n row) ∙ ap (◌++ drop n row) e ∙ simp append_assoc in
    ap (λ (r : List ℕ). take k (drop s r)) all ∙ ap (take k) (drop_at A (L ++ (B ++ drop n row)) s la) ∙ take_at L (B ++ drop n row) k lk

module _ {deck_words store row : List ℕ} {held s e : ℕ} {d : Deck} {g : Goal} {gs : List Goal} {before : List Literal} {p : ℕ} {ts : Terms} {after : List Literal}
    (n : Negating deck_words store row held s e d g gs before p ts after) where
  chosen : Selected g.literals (negative before p ts after)
  chosen = rw n.negates.selects at (select-selected g.literals)

  pub to-ask : goal_words g ≤ length row → Asking row s e d.symbols p ts
  to-ask l =
      let span = n.negates.span in
      let w = n.negates.holding.well_formed.0 in
      let A = cells_before g.answer_terms before in
      let L = write_literal (neg p ts) [] in
      let B = write_literals after in
      let na : length A ≡ s = before-length g.answer_terms before ∙ sym span.start in
      let nl : length L ≡ e - s = literal-length (neg p ts) ∙ omega (arith, span.end) in
      let around = cells-around g before (neg p ts) after chosen.0 in
      let all = ap length around ∙ length-append A (L ++ B) in
      let more = length-append L B in
      let whole = cells-length g in
      record {
        order = omega (arith, span.end);
        inside = omega (arith, span.end);
        literal = (all_split (WfLiteral d.symbols) before (neg p ts ∷ after) (rw chosen.0 at w.literals)).1.0;
        ground = chosen.1;
        cells = cells_at row A L B (length (goal_cells g)) s (e - s) (n.cells ∙ around) na nl;
        short = ((wf-kept d.symbols [] tt g w).asks before p ts after chosen.0 chosen.1).0.short;
      }

  -- Still, after something was written behind the words held.
  pub still-negates : (store' : List ℕ) → length store' ≡ length store → take held store' ≡ take held store → Negates d.symbols store' held s e g gs before p ts after
  still-negates store' l q = record { holding = still-held n.negates.holding l q; selects = n.negates.selects; span = n.negates.span }

  -- The atom's goal is as long as the literal, and two words.
  pub atom-room : goal_words (atom_goal p ts) ≡ e - s + 2
  atom-room = atom-size p ts ∙ omega (arith, n.negates.span.end)
