-- No loose variables (document 02, U5): what the tests say, and that a fresh run on what they accept parks no goal as floundered, on any
-- level, and has answers without variables. In every goal that is passed each variable occurs in a positive literal.
use Prim.Native.Nat.{ℕ, ◌+◌, ◌<◌}
use mathlib.Core.Path.{◌≡◌, refl, ap}
use mathlib.Core.Logic.{◌↔◌, ◌⊎◌, inl, inr, ◌≢◌}
use mathlib.Core.Bool.{Bool, true, false, and-eq-true_iff}
use mathlib.Core.List.Memᴰ
use mathlib.Core.List.{List, [], ◌∷◌, ◌++◌, append-nil, Memᴰ}
use native.Mathlib.Decide.{ℕ_discrete}
use native.Mathlib.Omega.{arith}
use Rattle.rules.specs.Terms.{Term, Terms, var, nil, ◌+++◌, occ, occs, vars_terms, rename, renames}
use Rattle.rules.specs.Syntax.{Literal, pos, neg, Clause, Deck, Goal, arguments, map_literals, map_goal, vars_literals, vars_goal, top_goal}
use Rattle.rules.specs.Goals.{Mark, pending, floundered, undecided, oversized, deep, Marked, member, appearing, position, renumber, variables, query_variables, first_goal}
use Rattle.rules.specs.Unification.{Substitution, apply, applys, Unification, fails, spent, solved, unify}
use Rattle.rules.specs.Resolution.{Selection, nothing, positive, negative, ground, behind, select, clauses_about, fresh, place, resolved, resolvent, resolvents}
use Rattle.rules.specs.Evaluation.{Level, Place, Account, zeroth, evaluate}
use Rattle.rules.specs.WellFormed.{All}
use Rattle.rules.specs.Passes.{FreshPasses}
use Rattle.rules.specs.Loose.{positives, among, tight, tight_clause, tight_query, tight_clauses}
use Rattle.rules.proofs.TermLaws.{occs-join}
use Rattle.rules.proofs.NumberingLaws.{In, member-in, in-member, sum-pos, occs-vars, appearing-only}
use Rattle.rules.proofs.FirstGoal.{variables-vars}
use Rattle.rules.proofs.FormedLaws.{Perhaps, collect-all, about-all}
use Rattle.rules.proofs.Keeps.{Invariant, Parks, Stuck, Kept, LevelHas, start_has}
use Rattle.rules.proofs.OccursLaws.{Within, terms, place-adds, in-literals, InPositive, in-positives, positives-in, occurs-vars, occs-terms, positives-occs, Change, applied, renamed, change-join, change-terms, change-positives, sources, images, change-within, unified-within}
use Rattle.rules.proofs.PassLaws.{passes-keep, has_kept, fresh-end}

-- Each variable of the terms and of the literals occurs in a positive one of the literals.
abbrev pub Tight : Terms → List Literal → Type 0
Tight ts ls = Within (ts +++ terms ls) (terms (positives ls))

-- WHAT THE TESTS SAY
among-says : (xs ys : List ℕ) → (among xs ys ≡ true) ↔ ((x : ℕ) → In x xs → In x ys)
unfolding among
among-says [] ys = (λ e x h. absurd (Memᴰ.not-nil h), λ h. refl)
among-says (x ∷ xs) ys = (
  λ e z h.
      let r = (and-eq-true_iff (member x ys) (among xs ys)).0 e in
      elim (Memᴰ.cases_cons h) [ inl q ↦ rw q (member-in x ys r.0) | inr k ↦ (among-says xs ys).0 r.1 z k ],
  λ h. (and-eq-true_iff (member x ys) (among xs ys)).1
      (in-member x (h x (Memᴰ.head refl)), (among-says xs ys).1 (λ z k. h z (Memᴰ.tail k))),
)

pub tight-says : (ts : Terms) (ls : List Literal) → (tight ts ls ≡ true) ↔ Tight ts ls
unfolding tight
tight-says ts ls = (
  λ e x h. (occurs-vars x nil (positives ls)).1 (says.0 e x ((occurs-vars x ts ls).0 h)),
  λ h. says.1 (λ x k. (occurs-vars x nil (positives ls)).0 (h x ((occurs-vars x ts ls).1 k))),
)
  where
    says : (among (vars_terms ts (vars_literals ls)) (vars_literals (positives ls)) ≡ true)
        ↔ ((x : ℕ) → In x (vars_terms ts (vars_literals ls)) → In x (vars_literals (positives ls)))
    says = among-says (vars_terms ts (vars_literals ls)) (vars_literals (positives ls))

-- Word for word: each variable of the terms, or of a literal, occurs in a positive literal.
pub tight-means : (ts : Terms) (ls : List Literal)
    → (tight ts ls ≡ true) ↔ ((x : ℕ) → (0 < occs x ts) ⊎ ((l : Literal) × Memᴰ l ls × (0 < occs x (arguments l))) → InPositive x ls)
tight-means ts ls = (
  λ e x h. in-positives x ls ((tight-says ts ls).0 e x (elim h [
    | inl i ↦ omega (arith, occs-join x ts (terms ls))
    | inr r ↦ omega (arith, occs-join x ts (terms ls), (in-literals x ls).1 r)
  ])),
  λ h. (tight-says ts ls).1 (λ x k. let r = h x (elim (sum-pos (occs x ts) (occs x (terms ls)) (omega (arith, occs-join x ts (terms ls)))) [
    | inl i ↦ inl i
    | inr j ↦ inr ((in-literals x ls).0 j)
  ]) in positives-in x r.0 r.1 r.2 r.3),
)

abbrev pub TightClause : Clause → Type 0
TightClause c = Tight c.arguments c.body

pub clauses-say : (cs : List Clause) → (tight_clauses cs ≡ true) ↔ All TightClause cs
unfolding tight_clauses tight_clause
clauses-say [] = (λ e. tt, λ h. refl)
clauses-say (c ∷ cs) = (
  λ e. let r = (and-eq-true_iff (tight_clause c) (tight_clauses cs)).0 e in ((tight-says c.arguments c.body).0 r.0, (clauses-say cs).0 r.1),
  λ h. (and-eq-true_iff (tight_clause c) (tight_clauses cs)).1 ((tight-says c.arguments c.body).1 h.0, (clauses-say cs).1 h.1),
)

-- A CHANGE OF ALL TERMS of a goal.
abbrev pub TightGoal : Goal → Type 0
TightGoal g = Tight g.answer_terms g.literals

change-tight : (f : Term → Term) (F : Terms → Terms) → Change f F → (ts : Terms) (ls : List Literal)
    → Within (F (ts +++ terms ls)) (F (terms (positives ls))) → Tight (F ts) (map_literals F ls)
change-tight f F c ts ls h =
    rw (change-terms f F c ls, ← change-join f F c ts (terms ls), change-positives f F c ls, change-terms f F c (positives ls)) h

rename-tight : (ρ : ℕ → ℕ) (ts : Terms) (ls : List Literal) → Tight ts ls → Tight (renames ρ ts) (map_literals (renames ρ) ls)
rename-tight ρ ts ls h =
    change-tight (rename ρ) (renames ρ) (renamed ρ) ts ls (change-within (rename ρ) (renames ρ) (renamed ρ) (ts +++ terms ls) (terms (positives ls)) h)

renumber-tight : (g : Goal) → TightGoal g → TightGoal (renumber g)
unfolding renumber
renumber-tight g h = rename-tight (position (appearing [] (vars_goal g))) g.answer_terms g.literals h

-- RESOLUTION. A variable of the selected literal is unified with terms of the head, whose variables all occur in positive literals of the body.
module _ (ans : Terms) (before : List Literal) (p : ℕ) (ts : Terms) (after : List Literal) (goal : Tight ans (before ++ (pos p ts ∷ after)))
    (args : Terms) (body : List Literal) (clause : Tight args body) where
  abbrev lits : List Literal
  lits = place before body after

  positive-lits : (x : ℕ) → occs x (terms (positives lits)) ≡ occs x (terms (positives before)) + occs x (terms (positives body)) + occs x (terms (positives after))
  positive-lits x = place-adds (λ ls. occs x (terms (positives ls))) (positives-occs x) before body after

  -- A variable of the derived goal, before the substitution, occurs in a positive literal of it, or in the selected one.
  places : (x : ℕ) → 0 < occs x (ans +++ terms lits) → (0 < occs x (terms (positives lits))) ⊎ (0 < occs x ts)
  places x h = elim (ℕ_discrete (occs x ts) 0) [
    | no n ↦ inr (omega arith)
    | yes z ↦ inl (elim (sum-pos (occs x (terms body)) (occs x ans + occs x (terms before) + occs x (terms after)) (omega (arith, all))) [
      | inl i ↦ omega (arith, positive-lits x, clause x (omega (arith, occs-join x args (terms body))))
      | inr j ↦ omega (arith, positive-lits x, positive-whole, goal x (omega (arith, whole)))
    ])
  ]
    where
      all : occs x (ans +++ terms lits) ≡ occs x ans + (occs x (terms before) + occs x (terms body) + occs x (terms after))
      all = omega (arith, occs-join x ans (terms lits), place-adds (λ ls. occs x (terms ls)) (occs-terms x) before body after)

      whole : occs x (ans +++ terms (before ++ (pos p ts ∷ after))) ≡ occs x ans + (occs x (terms before) + (occs x ts + occs x (terms after)))
      whole = omega (arith, occs-join x ans (terms (before ++ (pos p ts ∷ after))), occs-terms x before (pos p ts ∷ after), occs-join x ts (terms after))

      positive-whole : occs x (terms (positives (before ++ (pos p ts ∷ after)))) ≡ occs x (terms (positives before)) + (occs x ts + occs x (terms (positives after)))
      positive-whole = omega (arith, positives-occs x before (pos p ts ∷ after), occs-join x ts (terms (positives after)))

  -- A variable of the head occurs in a positive literal of the body.
  head-places : (x : ℕ) → 0 < occs x args → 0 < occs x (terms (positives lits))
  head-places x h = omega (arith, positive-lits x, clause x (omega (arith, occs-join x args (terms body))))

  module _ (k : ℕ) (es : Substitution) (e : unify ts args ≡ solved k es) where
    abbrev image : (v x : ℕ) → 0 < occ v (apply es (var x)) → (us : Terms) → 0 < occs x us → 0 < occs v (applys es us)
    image v x there us h = images (apply es) (applys es) (applied es) v x there us h

    substituted : Within (applys es (ans +++ terms lits)) (applys es (terms (positives lits)))
    substituted v h =
        let s = sources (apply es) (applys es) (applied es) v (ans +++ terms lits) h in
        elim (places s.0 s.1) [
          | inl i ↦ image v s.0 s.2 (terms (positives lits)) i
          | inr j ↦ (
              let u = sources (apply es) (applys es) (applied es) v args (unified-within ts args k es e v (image v s.0 s.2 ts j)) in
              image v u.0 u.2 (terms (positives lits)) (head-places u.0 u.1))
        ]

  resolved-tight : (u : Unification) → unify ts args ≡ u → Perhaps TightGoal (resolved (record { answer_terms = ans; literals = lits }) u)
  unfolding resolved
  resolved-tight (fails k) e = tt
  resolved-tight spent e = tt
  resolved-tight (solved k es) e =
      renumber-tight (map_goal (applys es) (record { answer_terms = ans; literals = lits }))
      (change-tight (apply es) (applys es) (applied es) ans lits (substituted k es e))

resolvents-tight : (clauses : List Clause) → All TightClause clauses → (g : Goal) → TightGoal g
    → (before : List Literal) (p : ℕ) (ts : Terms) (after : List Literal) → g.literals ≡ before ++ (pos p ts ∷ after)
    → All TightGoal (resolvents clauses g before p ts after)
unfolding resolvents resolvent
resolvents-tight clauses tightened g h before p ts after e =
    collect-all TightGoal TightClause (resolvent (top_goal g) g.answer_terms before ts after)
    (λ c w. resolved-tight g.answer_terms before p ts after (rw e at h) (fresh (top_goal g) c.arguments) (map_literals (fresh (top_goal g)) c.body)
    (rename-tight (λ v. top_goal g + v) c.arguments c.body w) (unify ts (fresh (top_goal g) c.arguments)) refl)
    (clauses_about p clauses) (about-all TightClause p clauses tightened)

-- SELECTION. Where none can be selected all literals are negative and have variables.
behind-nothing : (l : Literal) (s : Selection) → behind l s ≡ nothing → s ≡ nothing
unfolding behind
behind-nothing l nothing e = refl
behind-nothing l (positive before p ts after) e = let z : ◌≡◌ {A = ℕ} 0 1 = cc in absurd (omega arith)
behind-nothing l (negative before p ts after) e = let z : ◌≡◌ {A = ℕ} 0 1 = cc in absurd (omega arith)

nothing-positive : (ls : List Literal) → select ls ≡ nothing → positives ls ≡ []
unfolding select
nothing-positive [] e = refl
nothing-positive (pos p ts ∷ ls) e = let z : ◌≡◌ {A = ℕ} 0 1 = cc in absurd (omega arith)
nothing-positive (neg p ts ∷ ls) e = go (ground ts) refl (nothing-positive ls)
  where
    go : (b : Bool) → ground ts ≡ b → (select ls ≡ nothing → positives ls ≡ []) → positives ls ≡ []
    go true q h = let c : negative [] p ts ls ≡ nothing = rw (q, select) at e in let z : ◌≡◌ {A = ℕ} 0 1 = cc in absurd (omega arith)
    go false q h = h (behind-nothing (neg p ts) (select ls) (rw (q, select) at e))

vars-ground : (ts : Terms) → ((x : ℕ) → 0 < occs x ts → ⊥) → vars_terms ts [] ≡ []
vars-ground ts h = go (vars_terms ts []) refl
  where
    go : (vs : List ℕ) → vars_terms ts [] ≡ vs → vs ≡ []
    go [] e = refl
    go (v ∷ vs) e = absurd (h v ((occs-vars v ts).1 (rw e (Memᴰ.head refl))))

-- A goal with literals of which none can be selected is not tight.
selects : (ls : List Literal) → (ls ≡ [] → ⊥) → ((x : ℕ) → 0 < occs x (terms ls) → ⊥) → select ls ≡ nothing → ⊥
unfolding select ground
selects [] n h e = n refl
selects (pos p ts ∷ ls) n h e = let z : ◌≡◌ {A = ℕ} 0 1 = cc in omega arith
selects (neg p ts ∷ ls) n h e =
    let g : vars_terms ts [] ≡ [] = vars-ground ts (λ x k. h x (omega (arith, occs-join x ts (terms ls)))) in
    let c : negative [] p ts ls ≡ nothing = rw (g, ground, select) at e in
    let z : ◌≡◌ {A = ℕ} 0 1 = cc in omega arith

tight-selects : (g : Goal) → TightGoal g → Stuck g floundered → ⊥
tight-selects g h s =
    selects g.literals s.0
    (λ x k. let z : 0 < occs x (terms (positives g.literals)) = h x (omega (arith, occs-join x g.answer_terms (terms g.literals))) in
    omega (arith, ap (λ ls. occs x (terms ls)) (nothing-positive g.literals s.1))) s.1

-- WHAT A FRESH RUN KEEPS
abbrev pub Unfloundered : Marked → Type 0
Unfloundered m = m.mark ≢ floundered

abbrev pub Closed : Goal → Type 0
Closed g = vars_goal g ≡ []

abbrev Kempt : Invariant
Kempt = record { pending = TightGoal; parked = Unfloundered; answer = Closed }

other-marks : (g : Goal) → TightGoal g → (m : Mark) → Parks m → Stuck g m → m ≢ floundered
other-marks g h pending p s e = p
other-marks g h floundered p s e = tight-selects g h s
other-marks g h undecided p s e = let z : ◌≡◌ {A = ℕ} 0 1 = cc in omega arith
other-marks g h oversized p s e = let z : ◌≡◌ {A = ℕ} 0 1 = cc in omega arith
other-marks g h deep p s e = let z : ◌≡◌ {A = ℕ} 0 1 = cc in omega arith

bare-closed : (ts : Terms) (ls : List Literal) → Tight ts ls → ls ≡ [] → vars_terms ts (vars_literals ls) ≡ []
bare-closed ts [] h e = vars-ground ts (λ x k. omega (arith, h x (omega (arith, occs-join x ts nil))))
bare-closed ts (l ∷ ls) h e = let z : ◌≡◌ {A = ℕ} 0 1 = cc in absurd (omega arith)

-- A negative literal without variables takes no variable away.
without-tight : (ans : Terms) (before : List Literal) (p : ℕ) (ts : Terms) (after : List Literal)
    → Tight ans (before ++ (neg p ts ∷ after)) → Tight ans (before ++ after)
without-tight ans before p ts after h x k =
    omega (
      arith,
      positives-occs x before after,
      positives-occs x before (neg p ts ∷ after),
      h x (omega (
        arith,
        occs-join x ans (terms (before ++ after)),
        occs-join x ans (terms (before ++ (neg p ts ∷ after))),
        occs-terms x before after,
        occs-terms x before (neg p ts ∷ after),
        occs-join x ts (terms after),
      )),
    )

kempt-kept : (clauses : List Clause) → All TightClause clauses → (g : Goal) → TightGoal g → Kept Kempt clauses g
kempt-kept clauses tightened g h = record {
  answered = bare-closed g.answer_terms g.literals h;
  parks = other-marks g h;
  derives = λ before p ts after e o. resolvents-tight clauses tightened g h before p ts after e;
  asks = λ before p ts after e closed. (λ x k. k, without-tight g.answer_terms before p ts after (rw e at h));
}

-- The first goal.
first-tight : (query : List Literal) → Tight nil query → TightGoal (first_goal query)
unfolding first_goal query_variables
first-tight query h x k =
    elim (sum-pos (occs x (variables asked)) (occs x (terms query)) (omega (arith, occs-join x (variables asked) (terms query)))) [
      | inl i ↦ elim (appearing-only x [] (vars_literals query) (listed ((occs-vars x (variables asked)).0 i))) [
        | inl n ↦ absurd (Memᴰ.not-nil n)
        | inr j ↦ h x ((occurs-vars x nil query).1 j)
      ]
      | inr j ↦ h x j
    ]
  where
    asked : List ℕ
    asked = appearing [] (vars_literals query)

    listed : In x (vars_terms (variables asked) []) → In x asked
    listed i = rw (variables-vars asked [], append-nil asked) at i

module _ (deck : Deck) (query : List Literal) (tight-deck : tight_clauses deck.clauses ≡ true) (tight-query : tight_query query ≡ true)
    (answer_room store_size total : ℕ) where
  kempt-passed : (below : ℕ) (at : Place) (l : Level) (left : Account) → FreshPasses deck answer_room store_size query total below at l left → LevelHas Kempt l
  unfolding tight_query
  kempt-passed below at l left p =
      passes-keep deck.clauses answer_room store_size (λ below l. LevelHas Kempt l)
      (has_kept deck.clauses answer_room store_size Kempt (kempt-kept deck.clauses ((clauses-say deck.clauses).0 tight-deck)))
      (start_has Kempt (first_goal query) (first-tight query ((tight-says nil query).0 tight-query))) p

  -- A FRESH RUN NEVER PARKS WITH MARK 1, ON ANY LEVEL,
  pub never-flounders : (below : ℕ) (at : Place) (l : Level) (left : Account) → FreshPasses deck answer_room store_size query total below at l left
      → All Unfloundered l.parked
  never-flounders below at l left p = (kempt-passed below at l left p).parked

  -- AND NONE OF ITS ANSWERS HAS A VARIABLE.
  pub answers-closed : All Closed (evaluate deck answer_room store_size (first_goal query ∷ []) [] total).answers
  answers-closed = fresh-end (λ ps ks us. All Closed us) deck answer_room store_size query total (λ l left p. (kempt-passed 32 zeroth l left p).answers)
