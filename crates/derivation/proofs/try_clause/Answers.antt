-- `try_clause` meets its contract. Assumes nothing.
use Prim.Native.Nat.{ℕ, ◌+◌}
use mathlib.Core.Path.{◌≡◌, sym, subst}
use mathlib.Core.List.{List, ◌∷◌}
use lib.ListN.{drop}
use Rattle.rules.specs.Terms.{Terms}
use Rattle.rules.specs.Syntax.{Literal, Clause, Deck, Goal}
use Rattle.rules.specs.WellFormed.{WfClause}
use Rattle.resolvents.specs.Deriving.{Calls, About}
use Rattle.rules.specs.Unification.{unify, fails}
use Rattle.rules.specs.Resolution.{fresh}
use Rattle.resolvents.proofs.CallLaws.{head-count, first-of-head}
use Rattle.resolvents.proofs.LeadingLaws.{failed-attempt}
use Rattle.derivation.specs.Derives.{Tries}
use Rattle.clauses.specs.Clauses.{ClauseAt}
use Rattle.clauses.proofs.ClauseLaws.{clause-of}
use Rattle.derivation.proofs.try_clause.Goals as goal
use Rattle.derivation.proofs.try_clause.Goals.{After-cells-clause, Then-begins_otherwise, After-symbols}

-- The clause is about the predicate, and the call is that of the deck's symbol words.
about : (k : goal.After-cells-clause) (d : Deck) (g : Goal) (before : List Literal) (p : ℕ) (ts : Terms) (after : List Literal) (c : Clause)
    → let a = k.args in
    Tries a.clauses.now.deck.words.now a.work.now.cells.now a.attempt d g before p ts after → ClauseAt d.clauses a.i c → About k.cells-clause.result.now d.symbols p c
about k d g before p ts after c t place =
    let a = k.args in
    let r = clause-of a.clauses.now.deck.words.now d a.i t.opens k.requires.i_in_bounds in
    let place' : drop a.i d.clauses ≡ r.clause ∷ drop (a.i + 1) d.clauses = r.place in
    let same : r.clause ≡ c = cc in
    record {
      well_formed = subst (WfClause d.symbols) same r.well_formed;
      cells = k.cells-clause.ensures d c t.opens place;
      about = k.requires.about_call d g before p ts after c t place;
    }

calls : (k : goal.After-symbols) (d : Deck) (g : Goal) (before : List Literal) (p : ℕ) (ts : Terms) (after : List Literal)
    → let a = k.args in
    Tries a.clauses.now.deck.words.now a.work.now.cells.now a.attempt d g before p ts after
    → Calls k.symbols.result.now a.work.now.cells.now a.attempt.call a.attempt.offset d.symbols g before p ts after
calls k d g before p ts after t =
    let a = k.args in
    subst (λ ar. Calls ar a.work.now.cells.now a.attempt.call a.attempt.offset d.symbols g before p ts after) (sym k.symbols.ensures) t.calls

pub begins_otherwise-requires : goal.begins_otherwise-requires
begins_otherwise-requires c =
    let t = c.requires.some_tries in
    let k = (goal.at.begins_otherwise-requires c).After-cells-clause in
    let r = clause-of c.args.clauses.now.deck.words.now t.deck c.args.i t.is.opens c.requires.i_in_bounds in
    first-of-head t.is.calls (about k t.deck t.goal t.before t.predicate t.terms t.after r.clause t.is r.place) c.args.attempt.first t.is.first

-- A clause that begins with another symbol fails at its first equation.
failed : (k : goal.Then-begins_otherwise) (d : Deck) (g : Goal) (before : List Literal) (p : ℕ) (ts : Terms) (after : List Literal) (c : Clause)
    → let a = k.args in
    Tries a.clauses.now.deck.words.now a.work.now.cells.now a.attempt d g before p ts after → About k.cells-clause.result.now d.symbols p c
    → unify ts (fresh a.attempt.offset c.arguments) ≡ fails 1
failed k d g before p ts after c t o =
    k.begins_otherwise.ensures.fails k.if-begins_otherwise.true ts c k.args.attempt.offset t.first (sym (head-count t.calls o)) o.cells

pub returns-then-begins_otherwise-clause-attempt : goal.returns-then-begins_otherwise-clause-attempt
returns-then-begins_otherwise-clause-attempt c =
    λ d g before p ts after c' t place.
    let o = about (goal.at.returns-then-begins_otherwise-clause-attempt c).After-cells-clause d g before p ts after c' t place in
    let child = c.args.work.now.draft.child in
    failed-attempt c.args.attempt.offset g.answer_terms before ts after c' c.args.left child c.fails_at_once.result
    (failed (goal.at.returns-then-begins_otherwise-clause-attempt c).Then-begins_otherwise d g before p ts after c' t o) (c.fails_at_once.ensures child)

pub resolve_clause-requires : goal.resolve_clause-requires
resolve_clause-requires c =
    let t = c.requires.some_tries in
    let r = clause-of c.args.clauses.now.deck.words.now t.deck c.args.i t.is.opens c.requires.i_in_bounds in
    record {
      symbols = t.deck.symbols;
      goal = t.goal;
      before = t.before;
      predicate = t.predicate;
      terms = t.terms;
      after = t.after;
      clause' = r.clause;
      calls = calls (goal.at.resolve_clause-requires c).After-symbols t.deck t.goal t.before t.predicate t.terms t.after t.is;
      about = about (goal.at.resolve_clause-requires c).After-cells-clause t.deck t.goal t.before t.predicate t.terms t.after r.clause t.is r.place;
    }

pub returns : goal.returns
returns c =
    record {
      attempt = λ d g before p ts after c' t place.
          c.resolve_clause.ensures.attempt d.symbols g before p ts after c' (calls (goal.at.returns c).After-symbols d g before p ts after t)
          (about (goal.at.returns c).After-cells-clause d g before p ts after c' t place);
      cells_unchanged = c.resolve_clause.ensures.cells_unchanged;
    }
