-- `add_bodies` meets its contract.
use Rattle.std.proofs.Common.{ℕ, ◌≡◌, ◌+◌, ◌≤◌, ◌<◌, List, [], length, drop, ap, ap₂, sym, ◌∙◌, subst, arith}
use lib.ListN.{length-drop}
use Rattle.rules.specs.Terms.{nil}
use Rattle.rules.specs.Syntax.{Deck}
use Rattle.rules.specs.Refusals.{accepted}
use Rattle.rules.specs.Decks.{write_clause, clause_words, open_deck}
use Rattle.rules.specs.Goals.{appearing}
use Rattle.rules.specs.Resolution.{clauses_about}
use Rattle.deck.specs.Kinds.{symbols_of}
use Rattle.deck.proofs.OpenLaws.{accepted-deck, accepted-symbols}
use Rattle.clauses.specs.Tried.{left, Gives, Leaves}
use Rattle.clauses.proofs.ClauseLaws.{clause-count, clause-at, first_cell}
use Rattle.clauses.proofs.GroupLaws.{few-symbols}
use Rattle.rules.proofs.DeckLaws.{opened-written}
use Rattle.rules.specs.Ranks.{bodies}
use Rattle.rules.specs.Rights.{predicates}
use Rattle.rights.specs.Named.{named}
use Rattle.rights.proofs.NamedLaws.{body-names}
use Rattle.rights.proofs.MarkLaws.{appearing-none, appearing-then}
use Rattle.rights.proofs.ReachedLaws.{tried-all, bodies-next, bodies-rest, row-nil, tail-whole}
use Rattle.rights.proofs.reached.Reached.add_bodies.Goals as goal
use Rattle.rights.proofs.reached.Reached.add_bodies.Goals.{In-Some}

-- The clause that is given, and those that are still to be looked at.
clause : (k : goal.In-Some) (d : Deck) → open_deck k.args.clauses.now.deck.words.now ≡ accepted d
    → Gives d.clauses k.loop-i.i-iterator.p k.in-Some.i (left d k.loop-i.i-iterator) (left d k.next.new.self)
clause k d e =
    let s = k.loop-i.i-iterator in
    subst (λ o. Leaves d.clauses s.p (left d s) o (left d k.next.new.self)) k.in-Some.is
    (k.next.ensures.steps.leaves d (ap (λ c. open_deck c.deck.words.now) k.loop-i.invariant.same_clauses ∙ e))

inside : (k : goal.In-Some) → k.in-Some.i < length (clause_words k.args.clauses.now.deck.words.now)
inside k =
    let ws = k.args.clauses.now.deck.words.now in
    let d = accepted-deck ws k.args.clauses.now.deck.opens in
    let r = clause k d.0 d.1 in
    omega (arith, clause-count ws d.0 d.1, ap length r.at, length-drop k.in-Some.i d.0.clauses, length-drop (k.in-Some.i + 1) d.0.clauses)

pub loop-i-init : goal.loop-i-init
loop-i-init c =
    let same : c.into_iter-i-iterator.result ≡ c.tried-i-items.result = c.into_iter-i-iterator.ensures.into_iter_gives in
    record {
      same_clauses = ap (λ b. b.clauses) same ∙ c.tried-i-items.ensures.clauses;
      predicate = ap (λ b. b.p) same ∙ c.tried-i-items.ensures.predicate;
      rest = λ d e.
          let all : left d c.into_iter-i-iterator.result ≡ clauses_about c.args.p d.clauses =
          ap (left d) same ∙ c.tried-i-items.ensures.tried d nil e row-nil ∙ tried-all (clauses_about c.args.p d.clauses) in
          ap (λ x. appearing c.args.self.now.list.items (predicates (bodies x))) all ∙ ap (λ x. appearing c.args.self.now.list.items (predicates x)) (bodies-rest d.clauses c.args.p);
    }

pub cells-requires : goal.cells-requires
cells-requires c = inside (goal.at.cells-requires c).In-Some

some-cell : (k : goal.In-Some) (cells : List ℕ) → ((d : Deck) → open_deck k.args.clauses.now.deck.words.now ≡ accepted d → (r : Gives d.clauses k.loop-i.i-iterator.p k.in-Some.i (left d k.loop-i.i-iterator) (left d k.next.new.self)) → cells ≡ write_clause r.clause) → 1 ≤ length cells
some-cell k cells h =
    let ws = k.args.clauses.now.deck.words.now in
    let d = accepted-deck ws k.args.clauses.now.deck.opens in
    let r = clause k d.0 d.1 in
    omega (arith, (first_cell cells r.clause (h d.0 d.1 r)).0)

pub slice_bounds-add_named-count : goal.slice_bounds-add_named-count
slice_bounds-add_named-count c = some-cell (goal.at.slice_bounds-add_named-count c).In-Some _ (λ d e r. c.cells.ensures d r.clause e r.at)

pub slice_bounds-add_named-start : goal.slice_bounds-add_named-start
slice_bounds-add_named-start c = omega (arith, some-cell (goal.at.slice_bounds-add_named-start c).In-Some _ (λ d e r. c.cells.ensures d r.clause e r.at))

pub add_named-requires : goal.add_named-requires
add_named-requires c =
    let ws = c.args.clauses.now.deck.words.now in
    let d = accepted-deck ws c.args.clauses.now.deck.opens in
    omega (arith, ap length c.symbols.ensures, few-symbols ws d.0 d.1)

pub loop-i-preserved : goal.loop-i-preserved
loop-i-preserved c =
    let h = c.loop-i.invariant in
    let steps = c.next.ensures.steps in
    let list = c.loop-i.self.list.items in
    record {
      same_clauses = steps.clauses ∙ h.same_clauses;
      predicate = steps.predicate ∙ h.predicate;
      rest = λ d e.
          let ws = c.args.clauses.now.deck.words.now in
          let r = clause (goal.at.loop-i-preserved c).In-Some d e in
          let others = left d c.next.new.self in
          let w = clause-at d.symbols d.clauses c.in-Some.i r.clause (opened-written ws d e).1.clauses r.at in
          let S : symbols_of c.symbols.result.now ≡ d.symbols = ap symbols_of c.symbols.ensures ∙ sym (accepted-symbols ws d e) in
          let cells : named (symbols_of c.symbols.result.now) (drop 1 c.cells.result.now) ≡ predicates r.clause.body =
          ap₂ named S (ap (drop 1) (c.cells.ensures d r.clause e r.at)) ∙ body-names d.symbols r.clause w in
          ap (λ x. appearing x (predicates (bodies others))) (c.add_named.ensures ∙ ap (λ x. appearing list (named (symbols_of c.symbols.result.now) x)) (tail-whole c.cells.result.now) ∙ ap (appearing list) cells)
          ∙ appearing-then list (predicates r.clause.body) (predicates (bodies others))
          ∙ ap (appearing list) (sym (bodies-next r.clause others) ∙ ap (λ x. predicates (bodies x)) (sym r.first)) ∙ h.rest d e;
    }

pub returns : goal.returns
returns c d e =
    let h = c.loop-i.invariant in
    let s = c.loop-i.i-iterator in
    let none : left d s ≡ [] = subst (λ o. Leaves d.clauses s.p (left d s) o (left d c.next.new.self)) c.in-None.is
    (c.next.ensures.steps.leaves d (ap (λ c. open_deck c.deck.words.now) h.same_clauses ∙ e)) in
    sym (appearing-none c.loop-i.self.list.items) ∙ ap (λ x. appearing c.loop-i.self.list.items (predicates (bodies x))) (sym none) ∙ h.rest d e
