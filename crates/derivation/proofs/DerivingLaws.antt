-- The store before and after a step on a selected positive literal. Assumes nothing.
use Prim.Native.Nat.{ℕ, suc, ◌+◌, ◌-◌, ◌*◌, ◌≤◌, ◌<◌}
use mathlib.Core.Path.{◌≡◌, refl, ap, sym, ◌∙◌, subst}
use mathlib.Core.List.{List, ◌∷◌, ◌++◌, reverse, reverse-append}
use native.Mathlib.Omega.{arith}
use lib.ListN.{length, take, drop, length-append, length-reverse}
use lib.Seq.{sets, drop-drop, take_at, take-take, length-take-le}
use borrow.Rule.Slice.PartMut.{put_mid}
use Rattle.rules.specs.Terms.{Terms}
use Rattle.rules.specs.Syntax.{Literal, Deck, Goal, top_goal}
use Rattle.rules.specs.Decks.{symbol_words}
use Rattle.rules.specs.Goals.{pending, mark_number, marked, unmarked, goal_words, write_goal, write_goals}
use Rattle.rules.specs.Resolution.{positive, resolvents, selected_cost}
use Rattle.rules.specs.WellFormed.{WfGoal}
use Rattle.rules.proofs.ListLaws.{all_append}
use Rattle.rules.proofs.GoalLaws.{goal-words, goal-length, goals-length, unmarked-words, goals-append, words_of-append, unmarked-append}
use Rattle.rules.proofs.DeckLaws.{opened-written}
use Rattle.rules.proofs.FormedLaws.{resolvents-wf}
use Rattle.words.proofs.StoreLaws.{rev, length-rev, take-sets, mirror-length, children-on}
use Rattle.resolvents.specs.Deriving.{Calls, leading_symbol}
use Rattle.derivation.proofs.ChildrenLaws.{calls-kept}
use Rattle.derivation.specs.Derives.{Tries, sum_of, Deriving, DerivesTo, Derives, WritesTo, Writes}
use Rattle.derivation.specs.declared.Derived.{Derived}
use Rattle.goals.specs.Store.{Holding}
use Rattle.report.specs.declared.Stop.TheVariants as stops
use Rattle.std.proofs.Common.{Option, Some, None, Ok, Err}

goals-one : (g : Goal) (gs : List Goal) → write_goals (unmarked (g ∷ gs)) ≡ write_goal (marked pending g) ++ write_goals (unmarked gs)
unfolding write_goals
goals-one g gs = refl

-- A store of which the words from a up to b are reversed.
pub turned : (a b : ℕ) (s : List ℕ) → a ≤ b → put_mid a (b - a) s (reverse (take (b - a) (drop a s))) ≡ rev a b s
turned a b s h = let e : a + (b - a) ≡ b = omega arith in rw (drop-drop (b - a) a s, e)

-- What the code's numbers satisfy.
pub record Numbers (store cells : List ℕ) (held size answer_cells : ℕ) : Type 0 where
  pub low : size + 2 ≤ held
  pub inside : held ≤ length store
  pub short : size ≤ 1022
  pub few : answer_cells ≤ 1024
  pub room : size ≤ length cells

module _
    {ws store cells : List ℕ} {held size answer_cells s e : ℕ} {d : Deck} {g : Goal} {gs : List Goal} {before : List Literal} {p : ℕ} {ts : Terms} {after : List Literal}
    (x : Deriving ws store cells held size answer_cells s e d g gs before p ts after) where
  -- Where the goal begins.
  abbrev base : ℕ
  base = held - 2 - size

  begins : base + goal_words g ≡ held
  begins =
      omega (
        arith,
        x.sized,
        mirror-length store (write_goals (unmarked (g ∷ gs))) held x.holding.inside x.holding.words,
        ap length (goals-one g gs),
        length-append (write_goal (marked pending g)) (write_goals (unmarked gs)),
        goal-length (marked pending g),
      )

  pub numbers : Numbers store cells held size answer_cells
  unfolding goal_words
  numbers =
      let short = x.holding.well_formed.0.short in
      record {
        low = omega (arith, begins, x.sized);
        inside = x.holding.inside;
        short = omega (arith, x.sized, short);
        few = omega (arith, x.calls.goal.wide, goal-words g, short);
        room = x.calls.inside;
      }

  pub tries : (n : ℕ) (first : Option ℕ) → n ≡ top_goal g → first ≡ leading_symbol ts
      → Tries ws cells (record { call = record { len = size; answer_cells = answer_cells; s = s; e = e }; offset = n; first = first }) d g before p ts after
  tries n first q r =
      let c = x.calls in
      record { opens = x.opens; calls = record { inside = c.inside; goal = c.goal; literals = c.literals; span = c.span; fresh = q }; first = r }

  -- The goal's cells alone.
  pub row-calls : (ar row : List ℕ) → ar ≡ symbol_words ws → row ≡ take size cells → Calls ar row (record { len = size; answer_cells = answer_cells; s = s; e = e }) (top_goal g) d.symbols g before p ts after
  row-calls ar row q r = rw (q, r) (calls-kept (take size cells) (take-take size size cells (omega arith)) x.calls)

  -- The first goal's words, and those of the others.
  first-words : write_goal (marked pending g) ≡ (size + 2) ∷ answer_cells ∷ take size cells
  unfolding write_goal mark_number
  first-words =
      let w : goal_words g + 4096 * mark_number pending ≡ size + 2 = omega (arith, x.sized) in
      let c = x.calls.goal in
      rw (w, c.goal, c.wide)

  rest-length : length (write_goals (unmarked gs)) ≡ base
  unfolding write_goals
  rest-length =
      omega (
        arith,
        begins,
        mirror-length store (write_goals (unmarked (g ∷ gs))) held x.holding.inside x.holding.words,
        length-append (write_goal (marked pending g)) (write_goals (unmarked gs)),
        goal-length (marked pending g),
      )

  parts : take held store ≡ reverse (write_goals (unmarked gs)) ++ reverse (write_goal (marked pending g))
  unfolding write_goals
  parts = x.holding.words ∙ reverse-append (write_goal (marked pending g)) (write_goals (unmarked gs))

  rest-words : take base store ≡ reverse (write_goals (unmarked gs))
  rest-words =
      let R = reverse (write_goals (unmarked gs)) in
      sym (take-take base held store (omega (arith, begins))) ∙ ap (take base) parts
      ∙ take_at R (reverse (write_goal (marked pending g))) base (length-reverse (write_goals (unmarked gs)) ∙ rest-length)

  -- What the step costs.
  abbrev cost : ℕ
  cost = selected_cost d.clauses g (positive before p ts after)

  cost-is : cost ≡ suc (sum_of d g p ts)
  unfolding selected_cost
  cost-is = refl

  -- The goal is written back.
  abbrev back : List ℕ → List ℕ → List ℕ
  back store₁ words = sets store₁ (held - 2 - length words) (reverse ((length words + 2) ∷ answer_cells ∷ words))

  module _ (store₁ cells₁ : List ℕ) (kept : take base store₁ ≡ take base store) (same : take size cells₁ ≡ take size cells) (long : length store₁ ≡ length store) where
    restored : take held (back store₁ (take size cells₁)) ≡ take held store
    restored =
        let G = write_goal (marked pending g) in
        let n : base + length (reverse G) ≡ held = omega (arith, length-reverse G, goal-length (marked pending g), begins) in
        let m : length (take size cells) ≡ size = length-take-le size cells x.calls.inside in
        rw (same, m, ← first-words, take-sets (reverse G) store₁ held base n (omega (arith, x.holding.inside)), kept, rest-words) (sym parts)

    abbrev ds : List Goal
    ds = resolvents d.clauses g before p ts after

    pub derives-oversized : (left : ℕ) (r : Derived) → r.held ≡ None → 0 < left → Writes store base ds (sum_of d g p ts) (left - 1) store₁ (Some r)
        → Derives d.symbols store held gs ds cost left (back store₁ (take size cells₁)) (Ok r)
    derives-oversized left r e some w =
        (subst (DerivesTo d.symbols store held gs ds (back store₁ (take size cells₁))) (sym e) (subst (WritesTo store base ds store₁) e w.0, restored), omega (arith, cost-is, w.2))

    pub derives-no-room : (left end : ℕ) (r : Derived) → r.held ≡ Some end → 0 < left → Writes store base ds (sum_of d g p ts) (left - 1) store₁ (Some r) → length store₁ < end
        → Derives d.symbols store held gs ds cost left (back store₁ (take size cells₁)) (Err stops.Store)
    derives-no-room left end r e some w h =
        let v = subst (WritesTo store base ds store₁) e w.0 in
        (v.0, omega (arith, v.1, words_of-append ds gs, rest-length, goals-length (unmarked gs), unmarked-words gs), restored, omega (arith, cost-is, w.2))

    pub derives-unpaid : (left : ℕ) → 0 < left → Writes store base ds (sum_of d g p ts) (left - 1) store₁ None
        → Derives d.symbols store held gs ds cost left (back store₁ (take size cells₁)) (Err stops.Budget)
    derives-unpaid left some w = (omega (arith, cost-is, w.0), restored)

  pub derives-words : (store₁ : List ℕ) (left end : ℕ) (r : Derived) → length store₁ ≡ length store → r.held ≡ Some end → 0 < left
      → Writes store base (resolvents d.clauses g before p ts after) (sum_of d g p ts) (left - 1) store₁ (Some r) → end ≤ length store₁
      → Derives d.symbols store held gs (resolvents d.clauses g before p ts after) cost left (rev base end store₁) (Ok r)
  derives-words store₁ left end r long e some w h =
      let ds = resolvents d.clauses g before p ts after in
      let cs = write_goals (unmarked ds) in
      let v = subst (WritesTo store base ds store₁) e w.0 in
      let b : base ≤ end = omega (arith, v.1) in
      let n : base + length cs ≡ end = omega (arith, v.1, goals-length (unmarked ds), unmarked-words ds) in
      let goal = x.holding.well_formed.0 in
      let all : write_goals (unmarked (ds ++ gs)) ≡ cs ++ write_goals (unmarked gs) = ap write_goals (unmarked-append ds gs) ∙ goals-append (unmarked ds) (unmarked gs) in
      let holding : Holding d.symbols (rev base end store₁) end (ds ++ gs) =
      record {
        inside = omega (arith, length-rev store₁ base end b);
        well_formed =
            all_append (WfGoal d.symbols) ds gs
            (resolvents-wf d.symbols d.clauses (opened-written ws d x.opens).1.clauses g (record { answer_terms = goal.answer_terms; literals = goal.literals }) before p ts after
            x.calls.literals v.0)
            x.holding.well_formed.1;
        words = rw all (children-on store₁ cs (write_goals (unmarked gs)) base end rest-length n (v.2 (omega arith) ∙ rw rest-words)).0;
      } in
      (subst (DerivesTo d.symbols store held gs ds (rev base end store₁)) (sym e) (v.0, holding), omega (arith, cost-is, w.2))
