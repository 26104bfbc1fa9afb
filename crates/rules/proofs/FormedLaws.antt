-- Substitution, renaming, unification and resolution keep terms, literals and goals well formed; and how the sizes of goals change.
use Prim.Native.Nat.{ℕ, zero, suc, ◌+◌, ◌-◌, ◌≤◌, ◌<◌, max}
use mathlib.Core.Path.{◌≡◌, refl, sym, ◌∙◌, ap}
use mathlib.Core.Logic.{dite, ite}
use mathlib.Core.Bool.{Bool, true, false, ◌||◌, true≢false}
use mathlib.Core.Option.{Option, none, some}
use mathlib.Core.List.{List, [], ◌∷◌, ◌++◌}
use native.Mathlib.Decide.{ℕ_discrete}
use native.Mathlib.Omega.{arith}
use lib.Dec.{leb, ltb, eqb}
use lib.ListN.{get_elem?}
use borrow.Author.Tests.{ltb-false, leb-false, le-leb, lt-leb}
use Rattle.rules.specs.Terms.{Term, var, app, Terms, nil, cons, ◌+++◌, count, sizes, occs, tops, sub, subs, rename, renames}
use Rattle.rules.specs.Syntax.{Symbol, functor, predicate, Literal, pos, neg, Clause, Goal, arguments, map_literal, map_literals, map_goal, vars_goal, top_goal}
use Rattle.rules.specs.Cells.{function, positive, negative, symbol_cell, negated_cell, variable_cell, read_cell}
use Rattle.rules.specs.Goals.{goal_words, renumber, appearing, position}
use Rattle.rules.specs.Unification.{Substitution, done, bind, applys, Unification, fails, spent, solved, tick, bound, eliminate, unify_front, unify_step, unify_round, unify_within, unify}
use Rattle.rules.specs.Resolution.{clauses_about, fresh, place, resolved, resolvent, keep_some, collect, resolvents, any_oversized}
use Rattle.rules.specs.WellFormed.{All, WfTerm, WfTerms, WfLiteral, WfLiterals, InOrder, clause_literals, WfClause, WfGoal}
use Rattle.rules.proofs.ListLaws.{all_append, all_split, all-weaken, all_both}
use Rattle.rules.proofs.TermLaws.{subs-count, applys-count}
use Rattle.rules.proofs.CellLaws.{literal_sizes}
use Rattle.rules.proofs.GoalLaws.{goal-words}
use Rattle.rules.proofs.NumberingLaws.{renumber-in_order}
use Rattle.rules.proofs.NextLaws.{either}

pub renames-count : (ρ : ℕ → ℕ) (ts : Terms) → count (renames ρ ts) ≡ count ts
renames-count ρ nil = refl
renames-count ρ (cons t ts) = ap suc (renames-count ρ ts)

-- What holds of what each clause gives holds of all derived goals.
abbrev pub Perhaps : (Goal → Type 0) → Option Goal → Type 0
Perhaps P none = Unit {0}
Perhaps P (some g) = P g

keep_all : (P : Goal → Type 0) (o : Option Goal) (gs : List Goal) → Perhaps P o → All P gs → All P (keep_some o gs)
unfolding keep_some
keep_all P none gs h k = k
keep_all P (some g) gs h k = (h, k)

module _ (P : Goal → Type 0) (Q : Clause → Type 0) where
  pub collect-all :
      (by : Clause → Option Goal) → ((c : Clause) → Q c → Perhaps P (by c)) → (cs : List Clause) → All Q cs → All P (collect by cs)
  unfolding collect
  collect-all by h [] k = tt
  collect-all by h (c ∷ cs) k = keep_all P (by c) (collect by cs) (h c k.0) (collect-all by h cs k.1)

pub about-all : (Q : Clause → Type 0) (p : ℕ) (cs : List Clause) → All Q cs → All Q (clauses_about p cs)
unfolding clauses_about
about-all Q p [] k = tt
about-all Q p (c ∷ cs) k =
    either (All Q) (eqb c.predicate p) (c ∷ clauses_about p cs) (clauses_about p cs)
    (λ _. (k.0, about-all Q p cs k.1)) (λ _. about-all Q p cs k.1)

or-none : (a b : Bool) → (a || b) ≡ false → (a ≡ false) × (b ≡ false)
or-none true b e = absurd (true≢false e)
or-none false b e = (refl, e)

short-all : (gs : List Goal) → any_oversized gs ≡ false → All (λ g. goal_words g ≤ 1024) gs
unfolding any_oversized
short-all [] e = tt
short-all (g ∷ gs) e =
    let r = or-none (ltb 1024 (goal_words g)) (any_oversized gs) e in (ltb-false 1024 (goal_words g) r.0, short-all gs r.1)

-- A goal without one of its literals is shorter, and the goal of an atom alone is not longer than a goal with it.
pub literals-size : (ls ms : List Literal) → literal_sizes (ls ++ ms) ≡ literal_sizes ls + literal_sizes ms
literals-size [] ms = omega arith
literals-size (l ∷ ls) ms = omega (arith, literals-size ls ms)

module _ (ans : Terms) (before : List Literal) (l : Literal) (after : List Literal) where
  abbrev whole : Goal
  whole = record { answer_terms = ans; literals = before ++ (l ∷ after) }

  abbrev rest : Goal
  rest = record { answer_terms = ans; literals = before ++ after }

  pub without-shorter : goal_words rest < goal_words whole
  without-shorter = omega (arith, goal-words rest, goal-words whole, literals-size before after, literals-size before (l ∷ after))

  pub atom-shorter : (p : ℕ) → goal_words (record { answer_terms = nil; literals = pos p (arguments l) ∷ [] }) ≤ goal_words whole
  atom-shorter p =
      omega (arith, goal-words (record { answer_terms = nil; literals = pos p (arguments l) ∷ [] }), goal-words whole, literals-size before (l ∷ after))

-- A cell of a negated predicate is that predicate's number plus 16,384.
symbol-positive : (p k : ℕ) (o : Option Symbol) → negated_cell p o ≡ negative p k → symbol_cell p o ≡ positive p k
unfolding negated_cell symbol_cell
symbol-positive p k none e = cc
symbol-positive p k (some (functor j)) e = cc
symbol-positive p k (some (predicate j)) e = cc

variable-not : (v p k : ℕ) → variable_cell v ≡ negative p k → ⊥
unfolding variable_cell
variable-not v p k e = go (leb v 1023) refl
  where
    go : (b : Bool) → leb v 1023 ≡ b → ⊥
    go true q = let z : ◌≡◌ {A = ℕ} 0 1 = cc (rw (q, variable_cell) at e) in omega arith
    go false q = let z : ◌≡◌ {A = ℕ} 0 1 = cc (rw (q, variable_cell) at e) in omega arith

negated-cell : (S : List Symbol) (p k : ℕ) → read_cell S (16384 + p) ≡ negative p k → read_cell S p ≡ positive p k
unfolding read_cell
negated-cell S p k e = go (leb 32768 (16384 + p)) refl
  where
    go : (b : Bool) → leb 32768 (16384 + p) ≡ b → read_cell S p ≡ positive p k
    go true q = absurd (variable-not (16384 + p - 32768) p k (rw (q, read_cell) at e))
    go false q =
        let l : 16384 + p < 32768 = leb-false 32768 (16384 + p) q in
        let m : 16384 + p - 16384 ≡ p = omega arith in
        rw (lt-leb 32768 p (omega arith), lt-leb 16384 p (omega arith), read_cell)
        (symbol-positive p k (get_elem? S p) (rw (q, le-leb 16384 (16384 + p) (omega arith), m, read_cell) at e))

module _ (S : List Symbol) where
  -- SUBSTITUTION AND RENAMING
  module _ (x : ℕ) (s : Term) (ws : WfTerm S s) where
    mutual
      sub-wf : (t : Term) → WfTerm S t → WfTerm S (sub x s t)
      sub-wf (var y) h = elim (ℕ_discrete x y) as (λ d. WfTerm S (ite d s (var y))) [ yes e ↦ ws | no n ↦ tt ]
      sub-wf (app f ts) h = (h.0 ∙ ap (function f) (sym (subs-count x s ts)), subs-wf ts h.1)

      pub subs-wf : (ts : Terms) → WfTerms S ts → WfTerms S (subs x s ts)
      subs-wf nil h = tt
      subs-wf (cons t ts) h = (sub-wf t h.0, subs-wf ts h.1)

  module _ (ρ : ℕ → ℕ) where
    mutual
      rename-wf : (t : Term) → WfTerm S t → WfTerm S (rename ρ t)
      rename-wf (var y) h = tt
      rename-wf (app f ts) h = (h.0 ∙ ap (function f) (sym (renames-count ρ ts)), renames-wf ts h.1)

      pub renames-wf : (ts : Terms) → WfTerms S ts → WfTerms S (renames ρ ts)
      renames-wf nil h = tt
      renames-wf (cons t ts) h = (rename-wf t h.0, renames-wf ts h.1)

  abbrev pub WfSubstitution : Substitution → Type 0
  WfSubstitution done = Unit {0}
  WfSubstitution (bind x s es) = WfTerm S s × WfSubstitution es

  pub applys-wf : (es : Substitution) → WfSubstitution es → (ts : Terms) → WfTerms S ts → WfTerms S (applys es ts)
  applys-wf done h ts w = w
  applys-wf (bind x s es) h ts w = applys-wf es h.1 (subs x s ts) (subs-wf x s h.0 ts w)

  -- A change of terms that keeps their number and that they are well formed.
  abbrev Keeps : (Terms → Terms) → Type 0
  Keeps F = (ts : Terms) → WfTerms S ts → WfTerms S (F ts)

  module _ (F : Terms → Terms) (same : (ts : Terms) → count (F ts) ≡ count ts) (keeps : Keeps F) where
    literal-wf : (l : Literal) → WfLiteral S l → WfLiteral S (map_literal F l)
    literal-wf (pos p ts) h = (h.0 ∙ ap (positive p) (sym (same ts)), keeps ts h.1)
    literal-wf (neg p ts) h = (h.0 ∙ ap (negative p) (sym (same ts)), keeps ts h.1)

    pub literals-wf : (ls : List Literal) → WfLiterals S ls → WfLiterals S (map_literals F ls)
    literals-wf [] h = tt
    literals-wf (l ∷ ls) h = (literal-wf l h.0, literals-wf ls h.1)

  -- UNIFICATION
  abbrev pub WfUnification : Unification → Type 0
  WfUnification (fails k) = Unit {0}
  WfUnification spent = Unit {0}
  WfUnification (solved k es) = WfSubstitution es

  tick-wf : (u : Unification) → WfUnification u → WfUnification (tick u)
  tick-wf (fails k) h = tt
  tick-wf spent h = tt
  tick-wf (solved k es) h = h

  bound-wf : (x : ℕ) (s : Term) → WfTerm S s → (u : Unification) → WfUnification u → WfUnification (bound x s u)
  bound-wf x s w (fails k) h = tt
  bound-wf x s w spent h = tt
  bound-wf x s w (solved k es) h = (w, h)

  join-wf : (us ts : Terms) → WfTerms S us → WfTerms S ts → WfTerms S (us +++ ts)
  join-wf nil ts h k = k
  join-wf (cons u us) ts h k = (h.0, join-wf us ts h.1 k)

  either-wf : {A : Type 0} (d : Dec A) (u v : Unification) → WfUnification u → WfUnification v → WfUnification (dite d (λ _. u) (λ _. v))
  either-wf (yes a) u v p q = p
  either-wf (no a) u v p q = q

  abbrev WfUnifier : (Terms → Terms → Unification) → Type 0
  WfUnifier f = (l r : Terms) → WfTerms S l → WfTerms S r → WfUnification (f l r)

  module _ (next shorter : Terms → Terms → Unification) (next-wf : WfUnifier next) (shorter-wf : WfUnifier shorter) where
    eliminate-wf : (x : ℕ) (s : Term) (l r : Terms) → WfTerm S s → WfTerms S l → WfTerms S r → WfUnification (eliminate next shorter x s l r)
    eliminate-wf x s l r w a b =
        bound-wf x s w (next (subs x s l) (subs x s r)) (next-wf (subs x s l) (subs x s r) (subs-wf x s w l a) (subs-wf x s w r b))

    front-wf : (a b : Term) (l r : Terms) → WfTerm S a → WfTerm S b → WfTerms S l → WfTerms S r → WfUnification (unify_front next shorter a b l r)
    unfolding unify_front
    front-wf (var x) (var y) l r p q h k =
        either-wf (ℕ_discrete x y) (tick (shorter l r)) (eliminate next shorter x (var y) l r)
        (tick-wf (shorter l r) (shorter-wf l r h k)) (eliminate-wf x (var y) l r tt h k)
    front-wf (var x) (app g vs) l r p q h k =
        either-wf (ℕ_discrete (occs x vs) 0) (eliminate next shorter x (app g vs) l r) (fails 1) (eliminate-wf x (app g vs) l r q h k) tt
    front-wf (app f us) (var y) l r p q h k =
        either-wf (ℕ_discrete (occs y us) 0) (eliminate next shorter y (app f us) l r) (fails 1) (eliminate-wf y (app f us) l r p h k) tt
    front-wf (app f us) (app g vs) l r p q h k =
        either-wf (ℕ_discrete f g) (dite (ℕ_discrete (count us) (count vs)) (λ _. tick deeper) (λ _. fails 1)) (fails 1)
        (either-wf (ℕ_discrete (count us) (count vs)) (tick deeper) (fails 1)
        (tick-wf deeper (shorter-wf (us +++ l) (vs +++ r) (join-wf us l p.1 h) (join-wf vs r q.1 k))) tt) tt
      where
        deeper : Unification
        deeper = shorter (us +++ l) (vs +++ r)

    step-wf : WfUnifier (unify_step next shorter)
    unfolding unify_step
    step-wf nil nil h k = tt
    step-wf nil (cons b r) h k = tt
    step-wf (cons a l) nil h k = tt
    step-wf (cons a l) (cons b r) h k = front-wf a b l r h.0 k.0 h.1 k.1

  round-wf : (next : Terms → Terms → Unification) → WfUnifier next → (n : ℕ) → WfUnifier (unify_round next n)
  unfolding unify_round
  round-wf next next-wf zero l r h k = tt
  round-wf next next-wf (suc n) l r h k = step-wf next (unify_round next n) next-wf (round-wf next next-wf n) l r h k

  within-wf : (n : ℕ) → WfUnifier (unify_within n)
  unfolding unify_within
  within-wf zero l r h k = round-wf (λ l' r'. spent) (λ l' r' a b. tt) (suc (sizes l)) l r h k
  within-wf (suc n) l r h k = round-wf (unify_within n) (within-wf n) (suc (sizes l)) l r h k

  -- The terms of the substitution are well formed where those of the equations are.
  pub unify-wf : WfUnifier unify
  unfolding unify
  unify-wf l r h k = within-wf (max (tops l) (tops r)) l r h k

  -- RESOLUTION
  -- A goal that is well formed but for its numbering and its size; but for its size.
  pub record Formed (g : Goal) : Type 0 where
    pub answer_terms : WfTerms S g.answer_terms
    pub literals : WfLiterals S g.literals

  abbrev pub Derived : Goal → Type 0
  Derived g = Formed g × InOrder (vars_goal g)

  map_goal-formed : (F : Terms → Terms) → ((ts : Terms) → count (F ts) ≡ count ts) → Keeps F → (g : Goal) → Formed g → Formed (map_goal F g)
  map_goal-formed F same keeps g h =
      record { answer_terms = keeps g.answer_terms h.answer_terms; literals = literals-wf F same keeps g.literals h.literals }

  pub renumber-formed : (g : Goal) → Formed g → Formed (renumber g)
  unfolding renumber
  renumber-formed g h =
      let ρ : ℕ → ℕ = position (appearing [] (vars_goal g)) in map_goal-formed (renames ρ) (renames-count ρ) (renames-wf ρ) g h

  resolved-derived : (g : Goal) → Formed g → (u : Unification) → WfUnification u → Perhaps Derived (resolved g u)
  unfolding resolved
  resolved-derived g h (fails k) w = tt
  resolved-derived g h spent w = tt
  resolved-derived g h (solved k es) w =
      let d : Goal = map_goal (applys es) g in
      (renumber-formed d (map_goal-formed (applys es) (applys-count es) (applys-wf es w) g h), renumber-in_order d)

  -- The derived goal of a clause, and those of all clauses about a predicate.
  pub resolvent-derived :
      (N : ℕ) (ans : Terms) (before : List Literal) (p : ℕ) (ts : Terms) (after : List Literal) → WfTerms S ans → WfLiterals S (before ++ (pos p ts ∷ after))
      → (c : Clause) → WfLiterals S (clause_literals c) → Perhaps Derived (resolvent N ans before ts after c)
  unfolding resolvent
  resolvent-derived N ans before p ts after wa wl c wc =
      resolved-derived (record { answer_terms = ans; literals = place before body after }) (record { answer_terms = wa; literals = literals })
      (unify ts (fresh N c.arguments)) (unify-wf ts (fresh N c.arguments) parts.1.0.1 (renames-wf (λ v. N + v) c.arguments wc.0.1))
    where
      body : List Literal
      body = map_literals (fresh N) c.body

      body-wf : WfLiterals S body
      body-wf = literals-wf (fresh N) (renames-count (λ v. N + v)) (renames-wf (λ v. N + v)) c.body wc.1

      parts : WfLiterals S before × WfLiterals S (pos p ts ∷ after)
      parts = all_split (WfLiteral S) before (pos p ts ∷ after) wl

      literals : WfLiterals S (place before body after)
      literals = all_append (WfLiteral S) before (after ++ body) parts.0 (all_append (WfLiteral S) after body parts.1.1 body-wf)

  module _ (clauses : List Clause) (wf : All (WfClause S) clauses) (g : Goal) (h : Formed g) where
    module _ (before : List Literal) (p : ℕ) (ts : Terms) (after : List Literal) (e : g.literals ≡ before ++ (pos p ts ∷ after)) where
      pub resolvents-derived : All Derived (resolvents clauses g before p ts after)
      unfolding resolvents
      resolvents-derived =
          collect-all Derived (WfClause S) (resolvent (top_goal g) g.answer_terms before ts after)
          (λ c w. resolvent-derived (top_goal g) g.answer_terms before p ts after h.answer_terms (rw e at h.literals) c w.literals)
          (clauses_about p clauses) (about-all (WfClause S) p clauses wf)

      pub resolvents-wf : any_oversized (resolvents clauses g before p ts after) ≡ false → All (WfGoal S) (resolvents clauses g before p ts after)
      resolvents-wf none_over =
          let ds : List Goal = resolvents clauses g before p ts after in
          all-weaken (λ d. Derived d × (goal_words d ≤ 1024)) (WfGoal S)
          (λ d w. record { answer_terms = w.0.0.answer_terms; literals = w.0.0.literals; in_order = w.0.1; short = w.1 }) ds
          (all_both Derived (λ d. goal_words d ≤ 1024) ds resolvents-derived (short-all ds none_over))

  -- The atom of a negative literal is well formed.
  pub atom-wf : (p : ℕ) (ts : Terms) → WfLiteral S (neg p ts) → WfLiteral S (pos p ts)
  atom-wf p ts h = (negated-cell S p (count ts) h.0, h.1)
