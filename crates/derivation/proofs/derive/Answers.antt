-- `derive` meets its contract: the goals that the clauses give are turned over where they all have room; else the goal is written back.
-- Assumes nothing.
use Rattle.std.proofs.Common.{ℕ, ◌≡◌, ◌+◌, ◌-◌, ◌≤◌, Option, Some, None, List, length, take, sym, subst, arith}
use lib.Seq.{length-take-le}
use Rattle.rules.specs.Terms.{Terms}
use Rattle.rules.specs.Syntax.{Literal, Deck, Goal, top_goal}
use Rattle.rules.specs.Decks.{symbol_words}
use Rattle.rules.specs.Resolution.{resolvents}
use Rattle.derivation.specs.Derives.{sum_of, Deriving, WritesTo, Writes}
use Rattle.derivation.specs.declared.Derived.{Derived}
use Rattle.resolvents.specs.Selecting.{GoalCells}
use Rattle.resolvents.specs.Deriving.{leading_symbol}
use Rattle.derivation.proofs.ChildrenLaws.{kept-inside}
use Rattle.derivation.proofs.DerivingLaws.{turned, numbers, tries, row-calls, derives-oversized, derives-no-room, derives-unpaid, derives-words}
use Rattle.derivation.proofs.derive.Goals as goal
use Rattle.derivation.proofs.derive.Goals.{After-put_children}

-- The number of variables is that of the goal.
fresh : (k : goal.After-put_children) (d : Deck) (g : Goal) (gs : List Goal) (before : List Literal) (p : ℕ) (ts : Terms) (after : List Literal)
    → let a = k.args in
    Deriving a.clauses.now.deck.words.now a.store.now a.work.now.cells.now a.held a.call.len a.call.answer_cells a.call.s a.call.e d g gs before p ts after
    → k.variables-offset.result ≡ top_goal g
fresh k d g gs before p ts after x =
    k.variables-offset.ensures (symbol_words k.args.clauses.now.deck.words.now) k.args.call.answer_cells d.symbols g
    (subst (λ w. GoalCells (symbol_words k.args.clauses.now.deck.words.now) w k.args.call.answer_cells d.symbols g) (sym k.goal-cells.ensures) x.calls.goal)

-- The first argument's symbol is that of the literal.
leads : (k : goal.After-put_children) (d : Deck) (g : Goal) (gs : List Goal) (before : List Literal) (p : ℕ) (ts : Terms) (after : List Literal)
    → let a = k.args in
    Deriving a.clauses.now.deck.words.now a.store.now a.work.now.cells.now a.held a.call.len a.call.answer_cells a.call.s a.call.e d g gs before p ts after
    → k.first_symbol-first.result ≡ leading_symbol ts
leads k d g gs before p ts after x =
    k.first_symbol-first.ensures d.symbols g before p ts after (top_goal g) (row-calls x k.symbols.result.now k.goal-cells.result.now k.symbols.ensures k.goal-cells.ensures)

-- What the loop's call leaves.
writes : (k : goal.After-put_children) (r : Option Derived) → k.put_children.result ≡ r
    → (d : Deck) (g : Goal) (gs : List Goal) (before : List Literal) (p : ℕ) (ts : Terms) (after : List Literal)
    → let a = k.args in
    Deriving a.clauses.now.deck.words.now a.store.now a.work.now.cells.now a.held a.call.len a.call.answer_cells a.call.s a.call.e d g gs before p ts after
    → Writes a.store.now (a.held - 2 - a.call.len) (resolvents d.clauses g before p ts after) (sum_of d g p ts) (a.left - 1) k.put_children.new.store r
writes k r e d g gs before p ts after x =
    let a = k.args in
    subst (Writes a.store.now (a.held - 2 - a.call.len) (resolvents d.clauses g before p ts after) (sum_of d g p ts) (a.left - 1) k.put_children.new.store) e
    (k.put_children.ensures.writes d g before p ts after (tries x k.variables-offset.result k.first_symbol-first.result (fresh k d g gs before p ts after x) (leads k d g gs before p ts after x)))

pub overflow_sub-base : goal.overflow_sub-base
overflow_sub-base c = omega (arith, (numbers c.requires.some_deriving.is).low)

pub overflow_sub-base-2 : goal.overflow_sub-base-2
overflow_sub-base-2 c = omega (arith, (numbers c.requires.some_deriving.is).low)

pub first_symbol-first-requires : goal.first_symbol-first-requires
first_symbol-first-requires c =
    let t = c.requires.some_deriving in
    record {
      offset = top_goal t.first;
      symbols = t.deck.symbols;
      goal = t.first;
      before = t.before;
      predicate = t.predicate;
      terms = t.terms;
      after = t.after;
      calls = row-calls t.is c.symbols.result.now c.goal-cells.result.now c.symbols.ensures c.goal-cells.ensures;
    }

pub put_children-requires : goal.put_children-requires
put_children-requires c =
    let t = c.requires.some_deriving in
    let ws = c.args.clauses.now.deck.words.now in
    let fresh : c.variables-offset.result ≡ top_goal t.first =
    c.variables-offset.ensures (symbol_words ws) c.args.call.answer_cells t.deck.symbols t.first
    (subst (λ w. GoalCells (symbol_words ws) w c.args.call.answer_cells t.deck.symbols t.first) (sym c.goal-cells.ensures) t.is.calls.goal) in
    let row = row-calls t.is c.symbols.result.now c.goal-cells.result.now c.symbols.ensures c.goal-cells.ensures in
    record {
      some_tries = record {
        deck = t.deck;
        goal = t.first;
        before = t.before;
        predicate = t.predicate;
        terms = t.terms;
        after = t.after;
        is =
            tries t.is c.variables-offset.result c.first_symbol-first.result fresh
            (c.first_symbol-first.ensures t.deck.symbols t.first t.before t.predicate t.terms t.after (top_goal t.first) row);
      };
      base = omega (arith, (numbers t.is).low, (numbers t.is).inside);
    }

-- The derived goals end behind their place.
reaches : (k : goal.After-put_children) (r : Derived) (end : ℕ) → k.put_children.result ≡ Some r → r.held ≡ Some end
    → (d : Deck) (g : Goal) (gs : List Goal) (before : List Literal) (p : ℕ) (ts : Terms) (after : List Literal)
    → let a = k.args in
    Deriving a.clauses.now.deck.words.now a.store.now a.work.now.cells.now a.held a.call.len a.call.answer_cells a.call.s a.call.e d g gs before p ts after
    → a.held - 2 - a.call.len ≤ end
reaches k r end e q d g gs before p ts after x =
    let a = k.args in
    let w = writes k (Some r) e d g gs before p ts after x in
    let v = subst (WritesTo a.store.now (a.held - 2 - a.call.len) (resolvents d.clauses g before p ts after) k.put_children.new.store) q w.0 in
    omega (arith, v.1)

-- The goal is written back from cells that it has room for.
back-fits : (k : goal.After-put_children)
    → let a = k.args in
    let cells = take a.call.len k.put_children.new.work.cells.now in
    (length cells + 2 ≤ a.held) × (a.held ≤ length k.put_children.new.store) × (length cells ≤ 1022) × (a.call.answer_cells ≤ 1024)
back-fits k =
    let n = numbers k.requires.some_deriving.is in
    let m = length-take-le k.args.call.len k.put_children.new.work.cells.now (kept-inside k.put_children.new.work.cells.now k.args.work.now.cells.now k.args.call.len k.put_children.ensures.cells_unchanged n.room) in
    (omega (arith, m, n.low), omega (arith, n.inside, k.put_children.auto.store), omega (arith, m, n.short), n.few)

pub restore-requires : goal.restore-requires
restore-requires c = rw c.goal.ensures (back-fits (goal.at.restore-requires c).After-put_children)

pub restore-requires-in_default-held : goal.restore-requires-in_default-held
restore-requires-in_default-held c = rw c.goal-in_default-held.ensures (back-fits (goal.at.restore-requires-in_default-held c).After-put_children)

pub restore-requires-then-store-end : goal.restore-requires-then-store-end
restore-requires-then-store-end c = rw c.goal-then-store-end.ensures (back-fits (goal.at.restore-requires-then-store-end c).After-put_children)

pub returns-in_default : goal.returns-in_default
returns-in_default c =
    let k = (goal.at.returns-in_default c).After-put_children in
    let x₁ = c.put_children in
    record {
      derives = λ d g gs before p ts after x.
          let w = writes k None c.in_default.is d g gs before p ts after x in
          rw (c.restore.ensures, c.goal.ensures) (derives-unpaid x x₁.new.store x₁.new.work.cells.now w.1 x₁.ensures.cells_unchanged x₁.auto.store c.args.left c.requires.left w);
    }

pub returns-in_default-held : goal.returns-in_default-held
returns-in_default-held c =
    let k = (goal.at.returns-in_default-held c).After-put_children in
    let x₁ = c.put_children in
    let r = c.in-Some.derived in
    record {
      derives = λ d g gs before p ts after x.
          let w = writes k (Some r) c.in-Some.is d g gs before p ts after x in
          rw (c.restore-in_default-held.ensures, c.goal-in_default-held.ensures)
          (derives-oversized x x₁.new.store x₁.new.work.cells.now w.1 x₁.ensures.cells_unchanged x₁.auto.store c.args.left r c.in_default-held.is c.requires.left w);
    }

pub returns-then-store-end : goal.returns-then-store-end
returns-then-store-end c =
    let k = (goal.at.returns-then-store-end c).After-put_children in
    let x₁ = c.put_children in
    let r = c.in-Some.derived in
    record {
      derives = λ d g gs before p ts after x.
          let w = writes k (Some r) c.in-Some.is d g gs before p ts after x in
          rw (c.restore-then-store-end.ensures, c.goal-then-store-end.ensures)
          (derives-no-room x x₁.new.store x₁.new.work.cells.now w.1 x₁.ensures.cells_unchanged x₁.auto.store c.args.left c.in-Some-held.end r c.in-Some-held.is c.requires.left w c.if-store-end.true);
    }

pub returns : goal.returns
returns c =
    let k = (goal.at.returns c).After-put_children in
    let x₁ = c.put_children in
    let r = c.in-Some.derived in
    record {
      derives = λ d g gs before p ts after x.
          let w = writes k (Some r) c.in-Some.is d g gs before p ts after x in
          let b = c.args.held - 2 - c.args.call.len in
          let end = c.in-Some-held.end in
          let least = reaches k r end c.in-Some.is c.in-Some-held.is d g gs before p ts after x in
          rw (c.reverse.ensures.after, turned b end x₁.new.store least)
          (derives-words x x₁.new.store c.args.left end r x₁.auto.store c.in-Some-held.is c.requires.left w c.if-store-end.false);
    }
