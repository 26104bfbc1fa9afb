-- A goal covers what its resolvents cover together (Clark's theorem 1).
use Prim.Native.Nat.{ℕ, ◌≤◌}
use mathlib.Core.Path.{◌≡◌, refl, sym, ◌∙◌, ap, subst, transport}
use mathlib.Core.Logic.{◌↔◌, ◌⊎◌, inl, inr}
use mathlib.Core.Bool.{Bool, true, false}
use mathlib.Core.Option.{Option, none, some}
use mathlib.Core.List.{List, [], ◌∷◌, ◌++◌}
use native.Mathlib.Omega.{arith}
use lib.Dec.{eqb}
use borrow.Author.Tests.{eqb-true, eqb-false}
use Rattle.rules.specs.Terms.{Terms, tops}
use Rattle.rules.specs.Syntax.{Literal, pos, Clause, Goal, map_literals, map_goal, top_literals, top_goal}
use Rattle.rules.specs.Unification.{Unification, fails, spent, solved, applys, unify}
use Rattle.rules.specs.Resolution.{clauses_about, fresh, place, resolved, resolvent, keep_some, collect, resolvents}
use Rattle.rules.specs.Meaning.{Inds, Filling, evals, Atoms, Reading, two_valued, Holds, Some, Gives, SatisfiesBy, CoversBy}
use Rattle.rules.proofs.UnifyLaws.{unify-unspent}
use Rattle.rules.proofs.Existence.{Existence, Into}
use Rattle.rules.proofs.Values.{evals-below, holds-append, holds-map}
use Rattle.rules.proofs.UnifySound.{Solves, extend, extend_same, applys-eval, unify-fails, unify-solves, unify-extends}
use Rattle.rules.proofs.Renaming.{CoversAt, covers-map, covers_below, merge, merge-below, fresh-merge, fresh-own, renumber-covers}

abbrev pub goal_of : Terms → List Literal → Goal
goal_of ts ls = record { answer_terms = ts; literals = ls }

-- The literals of a resolvent hold exactly if those of the goal around the selected one and the clause's body do.
pub place-holds :
    (I : Reading) (ν : Filling) (before body after : List Literal)
    → Holds I ν (place before body after) ↔ (Holds I ν before × Holds I ν body × Holds I ν after)
place-holds I ν before body after =
    let outer = holds-append I ν before (after ++ body) in
    let inner = holds-append I ν after body in
    (λ h. ((outer.0 h).0, (inner.0 (outer.0 h).1).1, (inner.0 (outer.0 h).1).0), λ h. outer.1 (h.0, inner.1 (h.2, h.1)))

module _ (I : Reading) (choice : Inds) where
  abbrev pub CoversOption : Option Goal → Type 0
  CoversOption none = ⊥
  CoversOption (some g) = CoversBy I choice g

  -- A goal, all substituted, covers what it covers under the solutions of the equations.
  pub resolved-covers : (l r : Terms) (g : Goal) → CoversOption (resolved g (unify l r)) ↔ ((ν : Filling) × Solves ν l r × CoversAt I choice g ν)
  unfolding resolved
  resolved-covers l r g = go (unify l r) refl
    where
      go : (o : Unification) → unify l r ≡ o → CoversOption (resolved g o) ↔ ((ν : Filling) × Solves ν l r × CoversAt I choice g ν)
      go (fails k) e = (λ h. absurd h, λ h. unify-fails l r k e h.0 h.1)
      go spent e = absurd (unify-unspent l r e)
      go (solved k es) e = (
        λ h.
            let m = (renumber-covers I choice (map_goal (applys es) g)).0 h in
            (extend es m.0, unify-extends l r k es e m.0, transport (covers-map I choice g m.0 (extend es m.0) (applys es) (applys-eval m.0 es)) (m.1, m.2)),
        λ h.
            let ν : Filling = h.0 in
            let same = extend_same ν es ((unify-solves l r k es e ν).0 h.1) in
            let m = transport (sym (covers-map I choice g ν ν (applys es) (λ ts. applys-eval ν es ts ∙ ap (λ (μ : Filling). evals μ ts) same))) h.2 in
            (renumber-covers I choice (map_goal (applys es) g)).1 (ν, m.0, m.1),
      )

  -- The goals collected from a first clause and the others.
  kept : (o : Option Goal) (gs : List Goal) → Some (CoversBy I choice) (keep_some o gs) ↔ (CoversOption o ⊎ Some (CoversBy I choice) gs)
  unfolding keep_some
  kept none gs = (λ h. inr h, λ h. elim h [ inl b ↦ absurd b | inr k ↦ k ])
  kept (some g) gs = (λ h. h, λ h. h)

  collected :
      (by : Clause → Option Goal) (p : ℕ) (c : Clause) (cs : List Clause)
      → Some (CoversBy I choice) (collect by (clauses_about p (c ∷ cs)))
      ↔ (((c.predicate ≡ p) × CoversOption (by c)) ⊎ Some (CoversBy I choice) (collect by (clauses_about p cs)))
  unfolding clauses_about collect
  collected by p c cs = go (eqb c.predicate p) refl
    where
      go : (b : Bool) → eqb c.predicate p ≡ b
          → Some (CoversBy I choice) (collect by (clauses_about p (c ∷ cs)))
          ↔ (((c.predicate ≡ p) × CoversOption (by c)) ⊎ Some (CoversBy I choice) (collect by (clauses_about p cs)))
      go true e =
          let r = kept (by c) (collect by (clauses_about p cs)) in
          rw (e, clauses_about, collect) (
            λ h. elim (r.0 h) [ inl k ↦ inl (eqb-true c.predicate p e, k) | inr k ↦ inr k ],
            λ h. r.1 (elim h [ inl k ↦ inl k.1 | inr k ↦ inr k ]),
          )
      go false e = rw (e, clauses_about) (λ h. inr h, λ h. elim h [ inl k ↦ absurd (eqb-false c.predicate p e k.0) | inr k ↦ k ])

  module _ (N : ℕ) (ans : Terms) (before : List Literal) (p : ℕ) (ts : Terms) (after : List Literal) where
    -- The goal, and the rest of it without the selected literal.
    abbrev selected : Goal
    selected = goal_of ans (before ++ (pos p ts ∷ after))

    abbrev Rest : Filling → Type 0
    Rest ν = (evals ν ans ≡ choice) × Holds I ν before × Holds I ν after

    -- What a clause gives, its resolvent covers; and what the resolvent covers, the clause gives.
    clause-covers :
        (c : Clause) (ν : Filling) → tops ts ≤ N → top_goal selected ≤ N → CoversAt I choice selected ν → Gives I p (evals ν ts) c
        → CoversOption (resolvent N ans before ts after c)
    unfolding resolvent
    clause-covers c ν low lows k gives =
        (resolved-covers ts (fresh N c.arguments) (goal_of ans (place before (map_literals (fresh N) c.body) after))).1
        (κ, solves, (all.0, (place-holds I κ before (map_literals (fresh N) c.body) after).1 (parts.0, body, parts.1.1)))
      where
        κ : Filling
        κ = merge N ν gives.0

        all : CoversAt I choice selected κ
        all = transport (covers_below I choice selected ν κ N (merge-below N ν gives.0) lows) k

        parts : Holds I κ before × Holds I κ (pos p ts ∷ after)
        parts = (holds-append I κ before (pos p ts ∷ after)).0 all.1

        solves : Solves κ ts (fresh N c.arguments)
        solves = sym (evals-below ν κ N (merge-below N ν gives.0) ts low) ∙ sym gives.2 ∙ sym (fresh-merge N ν gives.0 c.arguments)

        body : Holds I κ (map_literals (fresh N) c.body)
        body = transport (sym (holds-map I κ gives.0 (fresh N) (fresh-merge N ν gives.0) c.body)) gives.3

    clause-gives : (c : Clause) → c.predicate ≡ p → CoversOption (resolvent N ans before ts after c) → (ν : Filling) × Rest ν × Gives I p (evals ν ts) c
    unfolding resolvent
    clause-gives c e k =
        let h = (resolved-covers ts (fresh N c.arguments) (goal_of ans (place before (map_literals (fresh N) c.body) after))).0 k in
        let ν : Filling = h.0 in
        let parts = (place-holds I ν before (map_literals (fresh N) c.body) after).0 h.2.1 in
        let own = fresh-own N ν in (
          ν,
          (h.2.0, parts.0, parts.2),
          (own.0, e, sym (own.1 c.arguments) ∙ sym h.1, transport (holds-map I ν own.0 (fresh N) own.1 c.body) parts.1),
        )

    -- The clauses in turn.
    all-cover :
        (cs : List Clause) (ν : Filling) → tops ts ≤ N → top_goal selected ≤ N → CoversAt I choice selected ν → Some (Gives I p (evals ν ts)) cs
        → Some (CoversBy I choice) (collect (resolvent N ans before ts after) (clauses_about p cs))
    all-cover [] ν low lows k g = absurd g
    all-cover (c ∷ cs) ν low lows k (inl g) = (collected (resolvent N ans before ts after) p c cs).1 (inl (g.1, clause-covers c ν low lows k g))
    all-cover (c ∷ cs) ν low lows k (inr g) = (collected (resolvent N ans before ts after) p c cs).1 (inr (all-cover cs ν low lows k g))

    all_give :
        (cs : List Clause) → Some (CoversBy I choice) (collect (resolvent N ans before ts after) (clauses_about p cs))
        → (ν : Filling) × Rest ν × Some (Gives I p (evals ν ts)) cs
    unfolding collect clauses_about
    all_give [] k = absurd k
    all_give (c ∷ cs) k = elim ((collected (resolvent N ans before ts after) p c cs).0 k) [
      | inl h ↦ (let r = clause-gives c h.0 h.1 in (r.0, r.1, inl r.2))
      | inr h ↦ (let r = all_give cs h in (r.0, r.1, inr r.2))
    ]

top-selected : (before : List Literal) (p : ℕ) (ts : Terms) (after : List Literal) → tops ts ≤ top_literals (before ++ (pos p ts ∷ after))
top-selected [] p ts after = omega arith
top-selected (l ∷ before) p ts after = omega (arith, top-selected before p ts after)

-- A goal with a selected positive literal covers a choice under ν: so does a resolvent, if some clause gives the literal's atom under ν.
module _ (I : Reading) (choice : Inds) (clauses : List Clause) (g : Goal) (before : List Literal) (p : ℕ) (ts : Terms) (after : List Literal) (e : g.literals ≡ before ++ (pos p ts ∷ after)) where
  pub resolvents-cover : (ν : Filling) → CoversAt I choice g ν → Some (Gives I p (evals ν ts)) clauses → Some (CoversBy I choice) (resolvents clauses g before p ts after)
  unfolding resolvents
  resolvents-cover ν k gives =
      let l : List Literal = before ++ (pos p ts ∷ after) in
      let t : top_literals g.literals ≡ top_literals l = ap top_literals e in
      all-cover I choice _ g.answer_terms before p ts after clauses ν (omega (arith, top-selected before p ts after)) (omega arith) (k.0, subst (Holds I ν) e k.1) gives

  -- What a resolvent covers, the goal covers, if the atoms that the clauses give are true.
  pub resolvents-give : ((us : Inds) → Some (Gives I p us) clauses → I.inside p us) → Some (CoversBy I choice) (resolvents clauses g before p ts after) → CoversBy I choice g
  unfolding resolvents
  resolvents-give true-atoms k =
      let r = all_give I choice _ g.answer_terms before p ts after clauses k in
      let ν : Filling = r.0 in
      (ν, r.1.0, subst (Holds I ν) (sym e) ((holds-append I ν before (pos p ts ∷ after)).1 (r.1.1, (true-atoms (evals ν ts) r.2, r.1.2))))

-- What one way of the argument asks of two readings of a deck: some clause gives each atom of I, and what the clauses give is an atom of J;
-- atoms of J are not outside I, and what is not an atom of I is outside J.
pub record OneWay (X : Existence) (I J : Reading) (clauses : List Clause) : Type 0 where
  pub given : (p : ℕ) (us : Inds) → I.inside p us → X.M (Some (Gives I p us) clauses)
  pub gives : (p : ℕ) (us : Inds) → Some (Gives J p us) clauses → J.inside p us
  pub apart : (p : ℕ) (us : Inds) → J.inside p us → I.outside p us → X.Absurd
  pub other : (p : ℕ) (us : Inds) → (I.inside p us → X.Absurd) → J.outside p us

-- With two values one reading does for both.
pub two-valued-way :
    (X : Existence) → ¬ X.Absurd → (I : Atoms) (clauses : List Clause) → SatisfiesBy X.M (two_valued I) clauses → OneWay X (two_valued I) (two_valued I) clauses
two-valued-way X nothing I clauses sat = record {
  given = λ p us a. (sat p us).0 a;
  gives = λ p us g. (sat p us).1 (X.unit g);
  apart = λ p us a n. absurd (n a);
  other = λ p us n a. nothing (n a);
}

-- Clark's theorem 1: a goal with a selected positive literal, into its resolvents.
pub resolvents-sound :
    (X : Existence) (I J : Reading) (clauses : List Clause) → OneWay X I J clauses
    → (choice : Inds) (g : Goal) (before : List Literal) (p : ℕ) (ts : Terms) (after : List Literal) → g.literals ≡ before ++ (pos p ts ∷ after)
    → Into X (Some (CoversBy I choice)) (Some (CoversBy J choice)) (g ∷ []) (resolvents clauses g before p ts after)
resolvents-sound X I J clauses way choice g before p ts after e = (
  λ h. elim h [
    | inl k ↦ (
        let ν : Filling = k.0 in
        let atom : I.inside p (evals ν ts) = ((holds-append I ν before (pos p ts ∷ after)).0 (subst (Holds I ν) e k.2)).1.0 in
        X.bind (way.given p (evals ν ts) atom) (λ gives. X.unit (resolvents-cover I choice clauses g before p ts after e ν (k.1, k.2) gives)))
    | inr b ↦ absurd b
  ],
  λ k. inl (resolvents-give J choice clauses g before p ts after e (way.gives p) k),
)
