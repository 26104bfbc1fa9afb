-- `clauses_tight`: the clauses before i are tight.
use Prim.Native.Nat.{◌+◌, ◌<◌}
use mathlib.Core.Path.{◌≡◌, refl, sym, ◌∙◌}
use native.Mathlib.Omega.{arith}
use Rattle.rules.specs.Syntax.{Clause, Deck}
use Rattle.rules.specs.Refusals.{accepted}
use Rattle.rules.specs.Loose.{tight_clause}
use Rattle.rules.specs.Decks.{open_deck}
use Rattle.deck.proofs.OpenLaws.{accepted-deck}
use Rattle.clauses.specs.Clauses.{ClauseAt}
use Rattle.clauses.proofs.ClauseLaws.{few-clauses, clause-count, clause-of}
use Rattle.loose.proofs.LooseLaws.{clauses-next, clauses-fail, clauses-end, blank-marks}
use Rattle.loose.proofs.clauses_tight.Goals as goal
use Rattle.loose.proofs.clauses_tight.Goals.{In-loop-i, After-clause_tight}

-- The clause that is looked at, and what was found.
module _ (c : goal.After-clause_tight) (d : Deck) (o : open_deck c.args.deck.now.words.now ≡ accepted d) where
  looked : (k : Clause) × ClauseAt d.clauses c.loop-i.i k × (c.clause_tight.result ≡ tight_clause k)
  looked =
      let r = clause-of c.args.deck.now.words.now d c.loop-i.i o (omega (arith, c.clause_count-i-end.ensures, c.loop-i-test.true)) in
      (r.clause, r.place, c.clause_tight.ensures.0 d r.clause o r.place)

-- The stamp is small.
small : (c : goal.In-loop-i) → c.loop-i.stamp + 2 < 65535
small c =
    let ws = c.args.deck.now.words.now in
    let d = accepted-deck ws c.args.deck.now.opens in
    omega (arith, few-clauses ws d.0 d.1, c.clause_count-i-end.ensures, c.loop-i.invariant.stamped, c.loop-i-test.true)

pub loop-i-init : goal.loop-i-init
loop-i-init c = record { inside = omega arith; stamped = refl; below = blank-marks 1024 refl; rest = λ d o. refl }

pub clause_tight-requires-clause-below : goal.clause_tight-requires-clause-below
clause_tight-requires-clause-below c = (c.loop-i.invariant.below, omega (arith, small (goal.at.clause_tight-requires-clause-below c).In-loop-i))

pub returns-then-not-clause_tight : goal.returns-then-not-clause_tight
returns-then-not-clause_tight c d o =
    let r = looked (goal.at.returns-then-not-clause_tight c).After-clause_tight d o in
    sym (sym (c.loop-i.invariant.rest d o) ∙ clauses-fail d.clauses c.loop-i.i r.0 r.1 (sym r.2 ∙ c.if-not-clause_tight.true))

pub overflow_add-stamp : goal.overflow_add-stamp
overflow_add-stamp c = omega (arith, small (goal.at.overflow_add-stamp c).In-loop-i)

pub loop-i-preserved : goal.loop-i-preserved
loop-i-preserved c =
    let l = c.loop-i in
    record {
      inside = omega (arith, c.clause_count-i-end.ensures, c.loop-i-test.true);
      stamped = omega (arith, l.invariant.stamped);
      below = c.clause_tight.ensures.1;
      rest = λ d o.
          let r = looked (goal.at.loop-i-preserved c).After-clause_tight d o in
          sym (clauses-next d.clauses l.i r.0 r.1 (sym r.2 ∙ c.if-not-clause_tight.false)) ∙ l.invariant.rest d o;
    }

pub returns : goal.returns
returns c d o =
    let l = c.loop-i in
    sym (sym (l.invariant.rest d o)
    ∙ clauses-end d.clauses l.i (omega (arith, c.clause_count-i-end.ensures, clause-count c.args.deck.now.words.now d o, c.loop-i-test.false)))
