-- What a step came to, by what the code found out about the first goal.
use Prim.Native.Nat.{ℕ, suc, ◌+◌, ◌-◌, ◌≤◌, ◌<◌}
use mathlib.Core.Path.{◌≡◌, refl, ◌∙◌, ap, subst}
use mathlib.Core.List.{List, [], ◌∷◌, ◌++◌, reverse}
use native.Mathlib.Omega.{arith}
use lib.ListN.{length, get_or, take, drop}
use Rattle.rules.specs.Terms.{Terms, sizes}
use Rattle.rules.specs.Syntax.{Symbol, Literal, Clause, Deck, Goal}
use Rattle.rules.specs.Goals.{goal_words, words_of}
use Rattle.rules.specs.Resolution.{nothing, positive, negative, select, resolvents, selected_cost, cost_of}
use Rattle.rules.specs.Evaluation as rules
use Rattle.rules.specs.Evaluation.{with_pending, with_parked, park, decide, act_of}
use Rattle.rules.proofs.CellLaws.{literal_sizes}
use Rattle.rules.proofs.GoalLaws.{goal-words}
use Rattle.rules.proofs.NextLaws.{cost-positive}
use Rattle.report.specs.Reports.{stop_of}
use Rattle.report.specs.declared.Stop.{Stop}
use Rattle.report.specs.declared.Stop.TheVariants.{Finished, Budget, Answers, Store}
use Rattle.goals.specs.Store.{Holding, atom_goal, mark_of}
use Rattle.derivation.specs.Derives.{DerivesTo, Derives}
use Rattle.levels.specs.Levels.{account_of, paid, paid_one, Later, Onward, Halts, Turned, Decides, said_by, account_after, Negates, Asked, turn_of, expanded_to}
use Rattle.goals.specs.declared.Mark as declared
use Rattle.goals.specs.declared.Mark.TheVariants as marks
use Rattle.derivation.specs.declared.Derived.{Derived}
use Rattle.levels.specs.declared.Account.{Account}
use Rattle.levels.specs.declared.Turn.{Turn}
use Rattle.levels.specs.declared.Turn.TheVariants.{Empty, Park, More}
use Rattle.levels.specs.declared.Halt.{Halt}
use Rattle.std.specs.Prelude.{Option, Some, None, Result, Ok, Err, IfOk}
use Rattle.levels.specs.declared.Reply.{Reply}
use Rattle.goals.proofs.HeldLaws.{held-words, first-length, rest-held}
use Rattle.levels.proofs.NegativeLaws.{removed-held}
use Rattle.levels.proofs.StepLaws.{flounders, overflows, resolves, bottoms, asks, cost-is, Pays, parks, replaces, overfills, unpaid, crowds, proves, disproves, unsettles, interrupts}

-- A goal all of whose cells are answer terms has no literals.
no-literals : (ls : List Literal) → literal_sizes ls ≡ 0 → ls ≡ []
no-literals [] e = refl
no-literals (l ∷ ls) e = absurd (omega arith)

pub answers-only : (g : Goal) → sizes g.answer_terms + 2 ≡ goal_words g → g.literals ≡ []
answers-only g e = no-literals g.literals (omega (arith, goal-words g))

pub more-than-answers : (g : Goal) → (sizes g.answer_terms + 2 ≡ goal_words g → ⊥) → g.literals ≡ [] → ⊥
more-than-answers g n e = n (omega (arith, goal-words g, ap literal_sizes e))

-- What a step leaves of the account.
one-paid : (clauses : List Clause) (g : Goal) (a : Account) → 0 < a.left → cost_of clauses g ≡ 1 → Pays clauses g (account_of a) (account_of (paid_one a))
one-paid clauses g a some c = record { left = omega arith; steps = refl }

pub bare-paid : (clauses : List Clause) (g : Goal) (a : Account) → 0 < a.left → g.literals ≡ [] → Pays clauses g (account_of a) (account_of (paid_one a))
unfolding select selected_cost
bare-paid clauses g a some e = one-paid clauses g a some (cost-is clauses g nothing (ap select e))

module _ (d : Deck) (below : ℕ) {store : List ℕ} {held : ℕ} (a : Account) {g : Goal} {gs : List Goal}
    (some : 0 < a.left) (h : Holding d.symbols store held (g ∷ gs)) where
  fits : goal_words g + words_of gs ≤ length store
  fits = omega (arith, held-words h, h.inside)

  parked : (store' : List ℕ) (m : declared.Mark) (b : Account) → Pays d.clauses g (account_of a) (account_of b) → act_of d.clauses below g ≡ park (mark_of m)
      → take held store' ≡ take held store → Turned d below store held a g gs store' (Ok (Park m b))
  parked store' m b pays e q =
      let c = cost-positive d.clauses g in
      (omega (arith, pays.left), (omega (arith, pays.left), omega (arith, pays.left, pays.steps)), q, parks d.clauses below (length store) g gs (account_of a) (account_of b) pays (mark_of m) e fits)

  pub turned-floundered : (store' : List ℕ) → (g.literals ≡ [] → ⊥) → select g.literals ≡ nothing → take held store' ≡ take held store
      → Turned d below store held a g gs store' (Ok (Park marks.Floundered (paid_one a)))
  unfolding selected_cost
  turned-floundered store' n q e =
      parked store' marks.Floundered (paid_one a) (one-paid d.clauses g a some (cost-is d.clauses g nothing q)) (flounders d.clauses below g n q) e

  module _ {before after : List Literal} {p : ℕ} {ts : Terms} where
    pub turned-deep : below ≡ 0 → select g.literals ≡ negative before p ts after → Turned d below store held a g gs store (Ok (Park marks.Deep (paid_one a)))
    unfolding selected_cost
    turned-deep z q =
        parked store marks.Deep (paid_one a) (one-paid d.clauses g a some (cost-is d.clauses g (negative before p ts after) q)) (bottoms d.clauses below g z q) refl

    pub turned-crowded : (n : ℕ) → below ≡ suc n → select g.literals ≡ negative before p ts after
        → length store < held + goal_words (atom_goal p ts) → Turned d below store held a g gs store (Err (record { stop = Store; account = a }))
    unfolding selected_cost
    turned-crowded n z q f =
        rw z (
          (omega arith, omega arith),
          refl,
          crowds d.clauses n (length store) g gs (account_of a) (account_of (paid_one a)) (one-paid d.clauses g a some (cost-is d.clauses g (negative before p ts after) q)) p ts (before ++ after)
              (asks d.clauses (suc n) g n refl q) (omega (arith, held-words h)),
        )

    module _ (q : select g.literals ≡ positive before p ts after) where
      abbrev cost : ℕ
      cost = selected_cost d.clauses g (positive before p ts after)

      whole : (left : ℕ) → cost + left ≡ a.left → Pays d.clauses g (account_of a) (account_of (paid a left))
      whole left e = record { left = omega (arith, cost-is d.clauses g (positive before p ts after) q); steps = refl }

      abbrev ds : List Goal
      ds = resolvents d.clauses g before p ts after

      turned-derived : (store' : List ℕ) (held' : Option ℕ) (left : ℕ) → length store' ≡ length store → DerivesTo d.symbols store held gs ds store' held' → cost + left ≡ a.left
          → Turned d below store held a g gs store' (Ok (turn_of held' (paid a left)))
      turned-derived store' (Some end) left l w e =
          let pays = whole left e in
          let c = cost-positive d.clauses g in (
            omega (arith, pays.left),
            (omega (arith, pays.left), omega (arith, pays.left)),
            (ds ++ gs, w.1, replaces d.clauses below (length store) g gs (account_of a) (account_of (paid a left)) pays ds (resolves d.clauses below g q w.0) (omega (arith, held-words w.1, w.1.inside, l))),
          )
      turned-derived store' None left l w e = parked store' marks.Oversized (paid a left) (whole left e) (overflows d.clauses below g q w.0) w.1

      pub turned-expanded : (store' : List ℕ) (r : Result Derived Stop) → length store' ≡ length store
          → Derives d.symbols store held gs ds cost a.left store' r → Turned d below store held a g gs store' (expanded_to r a)
      turned-expanded store' (Ok r) l w = turned-derived store' r.held r.left l w.0 w.1
      turned-expanded store' (Err Store) l w = (
        (omega arith, omega arith),
        w.2,
        overfills d.clauses below (length store) g gs (account_of a) (account_of (paid a (a.left - cost))) (whole (a.left - cost) (omega (arith, w.3)))
            ds (resolves d.clauses below g q w.0) w.1,
      )
      turned-expanded store' (Err Budget) l w =
          ((omega arith, omega arith), w.1, unpaid d.clauses below (length store) g gs (account_of a) (omega (arith, w.0, cost-is d.clauses g (positive before p ts after) q)))
      turned-expanded store' (Err Answers) l w = absurd w
      turned-expanded store' (Err Finished) l w = absurd w

-- A step on a positive literal that is taken costs something.
pub derives-less : (clauses : List Clause) (g : Goal) (before after : List Literal) (p : ℕ) (ts : Terms) → select g.literals ≡ positive before p ts after
    → (S : List Symbol) (store : List ℕ) (held left : ℕ) (gs ds : List Goal) (store' : List ℕ) (r : Result Derived Stop)
    → Derives S store held gs ds (selected_cost clauses g (positive before p ts after)) left store' r → IfOk r (λ (x : Derived). x.left < left)
derives-less clauses g before after p ts q S store held left gs ds store' (Ok r) w = omega (arith, cost-positive clauses g, cost-is clauses g (positive before p ts after) q, w.1)
derives-less clauses g before after p ts q S store held left gs ds store' (Err stop) w = tt

-- Whether the words held were read before or after something was written behind them.
kept-from : (d : Deck) (below : ℕ) (store store' : List ℕ) (held : ℕ) (a : Account) (g : Goal) (gs : List Goal) (x : List ℕ) (r : Result Turn Halt)
    → length store' ≡ length store → take held store' ≡ take held store
    → Turned d below store' held a g gs x r → Turned d below store held a g gs x r
kept-from d below store store' held a g gs x (Ok Empty) l e h = (h.0, h.1 ∙ e)
kept-from d below store store' held a g gs x (Ok (Park m b)) l e h =
    (h.0, h.1, h.2 ∙ e, subst (λ n. Onward d.clauses below n (g ∷ gs) (account_of a) (with_parked (mark_of m) g gs) (account_of b)) l h.3)
kept-from d below store store' held a g gs x (Ok (More m b)) l e h =
    (h.0, h.1, (h.2.0, h.2.1, subst (λ n. Onward d.clauses below n (g ∷ gs) (account_of a) (with_pending h.2.0) (account_of b)) l h.2.2))
kept-from d below store store' held a g gs x (Err halt) l e h =
    (h.0, h.1 ∙ e, subst (λ n. Halts d.clauses below n (g ∷ gs) (account_of a) (stop_of halt.stop) (account_of halt.account)) l h.2)

pub turned-from : (d : Deck) (n below : ℕ) (store store' : List ℕ) (held : ℕ) (a : Account) (g : Goal) (gs : List Goal) (x : List ℕ) (r : Result Turn Halt)
    → n ≡ below → length store' ≡ length store → take held store' ≡ take held store
    → Turned d n store' held a g gs x r → Turned d below store held a g gs x r
turned-from d n below store store' held a g gs x r b l e h =
    kept-from d below store store' held a g gs x r l e (subst (λ (m : ℕ). Turned d m store' held a g gs x r) b h)

-- By what a new level said of the atom of the selected negative literal.
module _ (d : Deck) (below : ℕ) {store : List ℕ} {held s e : ℕ} {a : Account} {g : Goal} {gs : List Goal} {before : List Literal} {p : ℕ} {ts : Terms}
    {after : List Literal} {r : Result Reply Halt} (n : Negates d.symbols store held s e g gs before p ts after) (k : Asked d below store held a p ts r) where
  act : act_of d.clauses (suc below) g ≡ decide p ts (before ++ after)
  act = asks d.clauses (suc below) g below refl n.selects

  room : goal_words g + words_of gs + goal_words (atom_goal p ts) ≤ length store
  room = omega (arith, held-words n.holding, k.fits)

  pays : Pays d.clauses g (account_of a) (account_of (paid_one a))
  unfolding selected_cost
  pays = one-paid d.clauses g a k.pays (cost-is d.clauses g (negative before p ts after) n.selects)

  says : Decides d.clauses below (length store - (goal_words g + words_of gs)) (atom_goal p ts ∷ []) (account_of (paid_one a)) (said_by r) (account_of (account_after r))
  says = rw (held-words n.holding) at k.replied.decides

  after-later : Later a (account_after r)
  after-later = (omega (arith, k.replied.later.0), omega (arith, k.replied.later.1, k.pays))

  -- Proved: the goal is dropped.
  pub settled-succeeds : (size : ℕ) → size ≡ get_or store (held - 1) 0 → said_by r ≡ rules.succeeds
      → Turned d (suc below) store held a g gs store (Ok (More (held - size) (account_after r)))
  settled-succeeds size l v = (
    omega (arith, k.replied.later.0, k.pays),
    after-later,
    (
      gs,
      rw (l, first-length n.holding) (rest-held n.holding),
      proves d.clauses below (length store) g gs (account_of a) (account_of (paid_one a)) pays p ts (before ++ after) act room (account_of (account_after r)) (rw v at says),
    ),
  )

  -- Refuted: the goal loses the literal.
  pub settled-fails : (store' : List ℕ) → length store' ≡ length store
      → take (held - (e - s)) store'
      ≡ reverse ((get_or store (held - 1) 0 - (e - s)) ∷ (take (s + 1) (drop 1 (reverse (take held store))) ++ drop (e + 2) (reverse (take held store))))
      → said_by r ≡ rules.fails → Turned d (suc below) store held a g gs store' (Ok (More (held - (e - s)) (account_after r)))
  settled-fails store' l w v = (
    omega (arith, k.replied.later.0, k.pays),
    after-later,
    (
      record { answer_terms = g.answer_terms; literals = before ++ after } ∷ gs,
      removed-held n l w,
      disproves d.clauses below (length store) g gs (account_of a) (account_of (paid_one a)) pays p ts (before ++ after) act room (account_of (account_after r)) (rw v at says),
    ),
  )

  -- Neither: the goal is parked.
  pub settled-unsettled : said_by r ≡ rules.unsettled → Turned d (suc below) store held a g gs store (Ok (Park marks.Undecided (account_after r)))
  settled-unsettled v = (
    omega (arith, k.replied.later.0, k.pays),
    after-later,
    refl,
    unsettles d.clauses below (length store) g gs (account_of a) (account_of (paid_one a)) pays p ts (before ++ after) act room (account_of (account_after r)) (rw v at says),
  )

  -- The run stops.
  settled-interrupted : (stop : rules.Stop) → said_by r ≡ rules.interrupted stop
      → Later a (account_after r) × (take held store ≡ take held store) × Halts d.clauses (suc below) (length store) (g ∷ gs) (account_of a) stop (account_of (account_after r))
  settled-interrupted stop v = (
    after-later,
    refl,
    interrupts d.clauses below (length store) g gs (account_of a) (account_of (paid_one a)) pays p ts (before ++ after) act room (account_of (account_after r)) stop (rw v at says),
  )

pub settled-halted : (d : Deck) (below : ℕ) {store : List ℕ} {held s e : ℕ} {a : Account} {g : Goal} {gs : List Goal} {before : List Literal} {p : ℕ} {ts : Terms}
    {after : List Literal} (halt : Halt) → Negates d.symbols store held s e g gs before p ts after → Asked d below store held a p ts (Err halt)
    → Turned d (suc below) store held a g gs store (Err halt)
settled-halted d below halt n k = settled-interrupted d below n k (stop_of halt.stop) refl
