-- `follow` meets its contract. Assumes nothing.
use Rattle.std.proofs.Common.{◌≡◌, ℕ, List, [], ◌++◌, get_or, sym, ap, ◌∙◌, subst, arith}
use Rattle.rules.specs.Terms.{nil}
use Rattle.rules.specs.Syntax.{Literal, Clause, Deck}
use Rattle.rules.specs.Refusals.{accepted}
use Rattle.rules.specs.Decks.{open_deck}
use Rattle.rules.specs.Resolution.{clauses_about}
use Rattle.rules.specs.Ranks.{bodies, rests_on}
use Rattle.deck.proofs.OpenLaws.{accepted-deck}
use Rattle.clauses.specs.Tried.{left, Gives, Leaves}
use Rattle.clauses.proofs.ClauseLaws.{clause-count}
use Rattle.ranks.specs.Searching.{Follows}
use Rattle.ranks.proofs.ClauseFacts.{symbols-few}
use Rattle.ranks.proofs.RaiseLaws.{at-below}
use Rattle.ranks.proofs.SearchLaws.{Going, going-start, going-more, going_end, rests-bodies, row-nil, tried-nil}
use Rattle.ranks.proofs.searching.Search.follow.Goals as goal
use Rattle.ranks.proofs.searching.Search.follow.Goals.{In-Some}

-- The clause that is given, about q, and those that are left.
given : (k : goal.In-Some) (d : Deck) → open_deck k.args.clauses.now.deck.words.now ≡ accepted d
    → Gives d.clauses k.loop-i.i-iterator.p k.in-Some.i (left d k.loop-i.i-iterator) (left d k.next.new.self)
given k d e =
    let s = k.loop-i.i-iterator in
    let e' : open_deck s.clauses.deck.words.now ≡ accepted d = ap (λ c. open_deck c.deck.words.now) k.loop-i.invariant.same_clauses ∙ e in
    subst (λ o. Leaves d.clauses s.p (left d s) o (left d k.next.new.self)) k.in-Some.is (k.next.ensures.steps.leaves d e')

pub bounds-self-p : goal.bounds-self-p
bounds-self-p c =
    let ws = c.args.clauses.now.deck.words.now in
    let d = accepted-deck ws c.args.clauses.now.deck.opens in
    omega (arith, c.from-p.ensures, c.requires, symbols-few ws d.0 d.1)

pub loop-i-init : goal.loop-i-init
loop-i-init c =
    let same : c.into_iter-i-iterator.result ≡ c.tried-i-items.result = c.into_iter-i-iterator.ensures.into_iter_gives in
    let old = c.args.self.now in
    let mark = get_or old.marks c.from-p.result 0 in
    record {
      same_clauses = ap (λ t. t.clauses) same ∙ c.tried-i-items.ensures.clauses;
      predicate = ap (λ t. t.p) same ∙ c.tried-i-items.ensures.predicate ∙ c.from-p.ensures;
      going = λ d e.
          let todo : left d c.into_iter-i-iterator.result ≡ clauses_about c.args.q d.clauses =
          ap (left d) same ∙ c.tried-i-items.ensures.tried d nil e row-nil ∙ tried-nil (clauses_about c.from-p.result d.clauses)
          ∙ ap (λ x. clauses_about x d.clauses) c.from-p.ensures in
          let all : rests_on d.clauses c.args.q ≡ bodies (left d c.into_iter-i-iterator.result) = sym (ap bodies todo ∙ rests-bodies d.clauses c.args.q) in
          subst (λ (ls : List Literal). Going (rests_on d.clauses c.args.q) mark old.marks old.waiting.items ls old.marks old.waiting.items) all
          (going-start (rests_on d.clauses c.args.q) mark old.marks old.waiting.items);
    }

pub visit-requires : goal.visit-requires
visit-requires c =
    let ws = c.args.clauses.now.deck.words.now in
    let d = accepted-deck ws c.args.clauses.now.deck.opens in
    let g = given (goal.at.visit-requires c).In-Some d.0 d.1 in
    (c.args.self.now.ready.two c.from-p.result, omega (arith, at-below d.0.clauses c.in-Some.i g.clause g.at, clause-count ws d.0 d.1))

pub loop-i-preserved : goal.loop-i-preserved
loop-i-preserved c =
    let l = c.loop-i in
    let s = l.i-iterator in
    let s' = c.next.new.self in
    let old = c.args.self.now in
    let q = c.args.q in
    let mark = get_or old.marks c.from-p.result 0 in
    record {
      same_clauses = c.next.ensures.steps.clauses ∙ l.invariant.same_clauses;
      predicate = c.next.ensures.steps.predicate ∙ l.invariant.predicate;
      going = λ d e.
          let g = given (goal.at.loop-i-preserved c).In-Some d e in
          let f = c.visit.ensures d g.clause e g.at in
          let first : bodies (left d s) ≡ g.clause.body ++ bodies (left d s') = ap bodies g.first in
          going-more (rests_on d.clauses q) mark old.marks old.waiting.items g.clause.body (bodies (left d s')) l.self.marks l.self.waiting.items c.visit.new.self.marks c.visit.new.self.waiting.items
          (subst (λ (ls : List Literal). Going (rests_on d.clauses q) mark old.marks old.waiting.items ls l.self.marks l.self.waiting.items) first (l.invariant.going d e)) f;
    }

pub returns : goal.returns
returns c d e =
    let l = c.loop-i in
    let s = l.i-iterator in
    let old = c.args.self.now in
    let q = c.args.q in
    let mark = get_or old.marks c.from-p.result 0 in
    let e' : open_deck s.clauses.deck.words.now ≡ accepted d = ap (λ c. open_deck c.deck.words.now) l.invariant.same_clauses ∙ e in
    let none : left d s ≡ [] = subst (λ o. Leaves d.clauses s.p (left d s) o (left d c.next.new.self)) c.in-None.is (c.next.ensures.steps.leaves d e') in
    let f : Follows (rests_on d.clauses q) mark old.marks old.waiting.items l.self.marks l.self.waiting.items =
    going_end (rests_on d.clauses q) mark old.marks old.waiting.items l.self.marks l.self.waiting.items
    (subst (λ (cs : List Clause). Going (rests_on d.clauses q) mark old.marks old.waiting.items (bodies cs) l.self.marks l.self.waiting.items) none (l.invariant.going d e)) in
    subst (λ (x : ℕ). Follows (rests_on d.clauses q) (get_or old.marks x 0) old.marks old.waiting.items l.self.marks l.self.waiting.items) c.from-p.ensures f
