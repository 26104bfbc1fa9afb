-- The derived goals, clause by clause, where they are written, and the equations that their clauses take. Assumes nothing.
use Prim.Native.Nat.{ℕ, ◌+◌, ◌≤◌, ◌<◌}
use mathlib.Core.Path.{◌≡◌, refl, ap, sym, ◌∙◌, subst}
use mathlib.Core.Logic.{⊎_elim}
use mathlib.Core.Bool.{Bool, true, false, ◌||◌}
use mathlib.Core.Option.{Option, none, some}
use mathlib.Core.List.{List, [], ◌∷◌, ◌++◌, append_assoc, append-nil}
use native.Mathlib.Omega.{arith}
use lib.ListN.{length, take}
use lib.Seq.{length-sets, length-take-le}
use lib.Dec.{ltb}
use borrow.Author.Tests.{lt-ltb, le-ltb}
use Rattle.rules.specs.Terms.{Terms}
use Rattle.rules.specs.Syntax.{Symbol, Literal, Clause, Deck, Goal, top_goal}
use Rattle.rules.specs.Goals.{pending, marked, unmarked, goal_words, write_goal, write_goals}
use Rattle.rules.specs.Resolution.{clauses_about, tried, resolvent, keep_some, collect, resolvents, any_oversized, matchings}
use Rattle.rules.proofs.IndexLaws.{tried-resolvents}
use Rattle.rules.proofs.GoalLaws.{goal-length, goals-append, unmarked-append, words_of-append}
use Rattle.std.proofs.lemmas.List.{length-take}
use Rattle.words.proofs.StoreLaws.{take-sets-before, take-sets}
use Rattle.resolvents.specs.Selecting.{GoalCells}
use Rattle.resolvents.specs.Deriving.{Calls, equations_of, IsResolvent}
use Rattle.resolvents.specs.declared.resolve.Call.{Call}
use Rattle.resolvents.specs.declared.resolve.Resolved.{Resolved}
use Rattle.resolvents.specs.declared.resolve.Resolved.TheVariants.{Nothing, Child, Oversized}
use Rattle.derivation.specs.declared.Attempt.{Attempt}
use Rattle.derivation.specs.Derives.{Tries, sum_of, Fitting, Placed, WritesTo, Writes}
use Rattle.std.proofs.Common.{Option as Maybe, Some, None}

matchings-none : (N : ℕ) (ts : Terms) → matchings N ts [] ≡ 0
unfolding matchings
matchings-none N ts = refl

matchings-one : (N : ℕ) (ts : Terms) (c : Clause) (cs : List Clause) → matchings N ts (c ∷ cs) ≡ equations_of N ts c + matchings N ts cs
unfolding matchings
matchings-one N ts c cs = refl

-- With as many variables in the goal as n, by the clauses that the literal tries.
pub resolvents-by :
    (clauses : List Clause) (g : Goal) (before : List Literal) (p : ℕ) (ts : Terms) (after : List Literal) (n : ℕ) → n ≡ top_goal g
    → resolvents clauses g before p ts after ≡ collect (resolvent n g.answer_terms before ts after) (tried ts (clauses_about p clauses))
resolvents-by clauses g before p ts after n e =
    tried-resolvents clauses g before p ts after ∙ ap (λ m. collect (resolvent m g.answer_terms before ts after) (tried ts (clauses_about p clauses))) (sym e)

pub sum_by : (d : Deck) (g : Goal) (p : ℕ) (ts : Terms) (n : ℕ) → n ≡ top_goal g → sum_of d g p ts ≡ matchings n ts (tried ts (clauses_about p d.clauses))
sum_by d g p ts n e = ap (λ m. matchings m ts (tried ts (clauses_about p d.clauses))) (sym e)

-- The cells after the goal's may change.
pub kept-inside : (cells cells₀ : List ℕ) (size : ℕ) → take size cells ≡ take size cells₀ → size ≤ length cells₀ → size ≤ length cells
kept-inside cells cells₀ size k l = omega (arith, ap length k, length-take-le size cells₀ l, length-take size cells)

pub calls-kept :
    {ar cells₀ : List ℕ} {call : Call} {n : ℕ} {S : List Symbol} {g : Goal} {before : List Literal} {p : ℕ} {ts : Terms} {after : List Literal} (cells : List ℕ)
    → take call.len cells ≡ take call.len cells₀ → Calls ar cells₀ call n S g before p ts after → Calls ar cells call n S g before p ts after
calls-kept {ar} {cells₀} {call} {S = S} {g = g} cells k c =
    record {
      inside = kept-inside cells cells₀ call.len k c.inside;
      goal = subst (λ (cs : List ℕ). GoalCells ar cs call.answer_cells S g) (sym k) c.goal;
      literals = c.literals;
      span = c.span;
      fresh = c.fresh;
    }

pub tries-kept :
    {ws cells₀ : List ℕ} {a : Attempt} {d : Deck} {g : Goal} {before : List Literal} {p : ℕ} {ts : Terms} {after : List Literal} (cells : List ℕ)
    → take a.call.len cells ≡ take a.call.len cells₀ → Tries ws cells₀ a d g before p ts after → Tries ws cells a d g before p ts after
tries-kept cells k t = record { opens = t.opens; calls = calls-kept cells k t.calls; first = t.first }

-- Oversized goals in one list and then another.
or_assoc : (a b c : Bool) → (a || (b || c)) ≡ ((a || b) || c)
or_assoc true b c = refl
or_assoc false b c = refl

or-true : (b : Bool) → (b || true) ≡ true
or-true true = refl
or-true false = refl

over-append : (gs hs : List Goal) → any_oversized (gs ++ hs) ≡ (any_oversized gs || any_oversized hs)
unfolding any_oversized
over-append [] hs = refl
over-append (g ∷ gs) hs = rw (over-append gs hs) (or_assoc (ltb 1024 (goal_words g)) (any_oversized gs) (any_oversized hs))

some-over : (gs : List Goal) (g : Goal) (hs : List Goal) → 1024 < goal_words g → any_oversized (gs ++ (g ∷ hs)) ≡ true
unfolding any_oversized
some-over gs g hs h = rw (over-append gs (g ∷ hs), any_oversized, lt-ltb 1024 (goal_words g) h) (or-true (any_oversized gs))

over-more : (gs : List Goal) (g : Goal) → any_oversized gs ≡ true → any_oversized (gs ++ (g ∷ [])) ≡ true
over-more gs g e = rw (over-append gs (g ∷ []), e) refl

or-false : (b : Bool) → (b || false) ≡ b
or-false true = refl
or-false false = refl

one-more-short : (gs : List Goal) (g : Goal) (b : Bool) → any_oversized gs ≡ b → goal_words g ≤ 1024 → any_oversized (gs ++ (g ∷ [])) ≡ b
unfolding any_oversized
one-more-short gs g b e h = rw (over-append gs (g ∷ []), e, le-ltb 1024 (goal_words g) h) (or-false b)

one-more-written : (gs : List Goal) (g : Goal) → write_goals (unmarked (gs ++ (g ∷ []))) ≡ write_goals (unmarked gs) ++ write_goal (marked pending g)
unfolding write_goals
one-more-written gs g =
    ap write_goals (unmarked-append gs (g ∷ [])) ∙ goals-append (unmarked gs) (unmarked (g ∷ [])) ∙ ap (write_goals (unmarked gs) ++◌) (append-nil (write_goal (marked pending g)))

-- What a clause gives has its place.
pub child-short : (o : Option Goal) (child : List ℕ) (w : ℕ) → IsResolvent o child (Child w) → w ≤ 1024
child-short none child w h = elim h [ ]
child-short (some g) child w h = h.1

pub given-fits : (o : Option Goal) (child : List ℕ) (answer : Resolved) (end : Maybe ℕ) → IsResolvent o child answer
    → ((e : ℕ) → end ≡ Some e → e + 1024 < 18446744073709551616) → Fitting answer end
given-fits o child Nothing end h f = tt
given-fits o child (Child w) (Some e) h f = (child-short o child w h, omega (arith, child-short o child w h, f e refl))
given-fits o child (Child w) None h f = tt
given-fits o child Oversized end h f = tt

module _ (store child store' : List ℕ) (end' : Maybe ℕ) where
  pub placed-length : (end : Maybe ℕ) (answer : Resolved) → Placed store end child answer store' end' → length store' ≡ length store
  placed-length None answer k = ap length k.0
  placed-length (Some e) Nothing k = ap length k.0
  placed-length (Some e) (Child w) k = ⊎_elim (λ q. ap length q.1 ∙ length-sets store e (take w child)) (λ q. ap length q.1) k.0
  placed-length (Some e) Oversized k = ap length k.0

  -- The place after one more goal is at most as far as a goal is long.
  pub placed-few : (o : Option Goal) (end : Maybe ℕ) (answer : Resolved) (most : ℕ) → IsResolvent o child answer → Placed store end child answer store' end'
      → ((e : ℕ) → end ≡ Some e → e + 1024 ≤ most) → (e : ℕ) → end' ≡ Some e → e ≤ most
  placed-few o None answer most h k b e q = cc
  placed-few o (Some e₀) Nothing most h k b e q = let same : e ≡ e₀ = cc in omega (arith, b e₀ refl)
  placed-few o (Some e₀) (Child w) most h k b e q = let same : e ≡ e₀ + w = cc in omega (arith, b e₀ refl, child-short o child w h)
  placed-few o (Some e₀) Oversized most h k b e q = cc

-- After some clauses: the goals that they gave, and that they are in the store from base on as far as there is room, unless one is
-- oversized; and what is left after their equations. The clauses `todo` are still to be tried. `all` is what all clauses give, and `sum`
-- the equations that they take.
pub record Going (by : Clause → Option Goal) (N : ℕ) (ts : Terms) (all : List Goal) (sum : ℕ) (store₀ : List ℕ) (base left : ℕ) (store : List ℕ) (end : Maybe ℕ) (rest : ℕ) (todo : List Clause) : Type 0 where
  pub given : List Goal
  pub whole : all ≡ given ++ collect by todo
  pub kept : take base store ≡ take base store₀
  pub low : (e : ℕ) → end ≡ Some e → base ≤ e
  pub reached : WritesTo store₀ base given store end
  pub paid : rest + sum ≡ left + matchings N ts todo

module _ (by : Clause → Option Goal) (N : ℕ) (ts : Terms) (all : List Goal) (sum : ℕ) (store₀ : List ℕ) (base left : ℕ) where
  abbrev pub Reaching : List ℕ → Maybe ℕ → ℕ → List Clause → Type 0
  Reaching store end rest todo = Going by N ts all sum store₀ base left store end rest todo

  pub going-first : (todo : List Clause) → all ≡ collect by todo → sum ≡ matchings N ts todo → Reaching store₀ (Some base) left todo
  unfolding any_oversized write_goals
  going-first todo e q =
      record {
        given = [];
        whole = e;
        kept = refl;
        low = λ k z. let same : k ≡ base = cc in omega arith;
        reached = (refl, omega arith, λ h. sym (append-nil (take base store₀)));
        paid = ap (left +◌) q;
      }

  -- No clause is left.
  pub going-last : {store : List ℕ} {end : Maybe ℕ} {rest : ℕ} → Reaching store end rest [] → Writes store₀ base all sum left store (Some (record { held = end; left = rest }))
  unfolding collect
  going-last {store} {end} {rest} r =
      let all-given : all ≡ r.given = r.whole ∙ append-nil r.given in
      rw all-given (r.reached, r.kept, omega (arith, r.paid, matchings-none N ts))

  -- One more clause.
  module _ {store : List ℕ} {end : Maybe ℕ} {rest : ℕ} {todo : List Clause} (c : Clause) (later : List Clause) (first : todo ≡ c ∷ later) (r : Reaching store end rest todo) where
    next-whole : all ≡ r.given ++ keep_some (by c) (collect by later)
    unfolding collect
    next-whole = r.whole ∙ ap (λ l. r.given ++ collect by l) first

    next-paid : rest + sum ≡ left + (equations_of N ts c + matchings N ts later)
    next-paid = r.paid ∙ ap (left +◌) (ap (matchings N ts) first ∙ matchings-one N ts c later)

    pub going-unpaid : rest < equations_of N ts c → Writes store₀ base all sum left store None
    going-unpaid h = (omega (arith, next-paid), r.kept)

    pub going_on : (child : List ℕ) (answer : Resolved) (l : ℕ) → equations_of N ts c + l ≡ rest → IsResolvent (by c) child answer → length store ≡ length store₀
        → (store' : List ℕ) (end' : Maybe ℕ) → Placed store end child answer store' end' → Reaching store' end' l later
    unfolding keep_some
    going_on child answer l q h long store' end' k = go (by c) answer h next-whole end r.low r.reached k
      where
        paid' : l + sum ≡ left + matchings N ts later
        paid' = omega (arith, next-paid, q)

        go : (o : Option Goal) (answer : Resolved) → IsResolvent o child answer → all ≡ r.given ++ keep_some o (collect by later)
            → (end : Maybe ℕ) → ((e : ℕ) → end ≡ Some e → base ≤ e) → WritesTo store₀ base r.given store end → Placed store end child answer store' end' → Reaching store' end' l later
        go none Nothing h e None b w k = rw (k.0, k.1) record { given = r.given; whole = e; kept = r.kept; low = λ n z. cc; reached = w; paid = paid' }
        go none Nothing h e (Some at) b w k = rw (k.0, k.1) record { given = r.given; whole = e; kept = r.kept; low = b; reached = w; paid = paid' }
        go none (Child n) h e end b w k = elim h [ ]
        go none Oversized h e end b w k = elim h [ ]
        go (some g) Nothing h e end b w k = elim h [ ]
        go (some g) (Child n) h e None b w k =
            rw (k.0, k.1)
            record { given = r.given ++ (g ∷ []); whole = e ∙ simp append_assoc; kept = r.kept; low = λ n z. cc; reached = over-more r.given g w; paid = paid' }
        go (some g) (Child n) h e (Some at) b w k =
            let xs = take n child in
            let low : base ≤ at = b at refl in
            let m : at + length xs ≡ at + n = ap (at +◌) (ap length h.2 ∙ goal-length (marked pending g) ∙ sym h.0) in
            let longer = words_of-append r.given (g ∷ []) in
            rw k.1
            record {
              given = r.given ++ (g ∷ []);
              whole = e ∙ simp append_assoc;
              kept = ⊎_elim (λ q. rw q.1 (take-sets-before xs store base at low ∙ r.kept)) (λ q. rw q.1 r.kept) k.0;
              low = λ k z. let same : k ≡ at + n = cc in omega arith;
              reached = (
                one-more-short r.given g false w.0 (omega (arith, h.0, h.1)),
                omega (arith, w.1, longer, h.0),
                λ f.
                    ⊎_elim
                    (λ q. rw (q.1, one-more-written r.given g, take-sets xs store (at + n) at m q.0, w.2 (omega arith), h.2)
                    (append_assoc (take base store₀) (write_goals (unmarked r.given)) (write_goal (marked pending g))))
                    (λ q. absurd (omega arith)) k.0,
              );
              paid = paid';
            }
        go (some g) Oversized h e None b w k =
            rw (k.0, k.1)
            record { given = r.given ++ (g ∷ []); whole = e ∙ simp append_assoc; kept = r.kept; low = λ n z. cc; reached = over-more r.given g w; paid = paid' }
        go (some g) Oversized h e (Some at) b w k =
            rw (k.0, k.1)
            record { given = r.given ++ (g ∷ []); whole = e ∙ simp append_assoc; kept = r.kept; low = λ n z. cc; reached = some-over r.given g [] h; paid = paid' }
