-- The evaluation uses the clauses about the predicates that its goals reach, and no others: two decks that have the same clauses about those,
-- in the same order, give the same outcome, from any goals.
use Prim.Native.Nat.{ℕ, suc, ◌-◌}
use mathlib.Core.Path.{◌≡◌, refl, sym, ◌∙◌, ap, ap₂, subst}
use mathlib.Core.Logic.{inl, inr}
use mathlib.Core.Bool.{Bool, true, false}
use mathlib.Core.List.Memᴰ
use mathlib.Core.List.{List, [], ◌∷◌, ◌++◌, Memᴰ}
use lib.Dec.{leb, eqb}
use borrow.Author.Tests.{eqb-true, eqb-false}
use Rattle.rules.specs.Terms.{Terms}
use Rattle.rules.specs.Syntax.{Literal, pos, neg, Clause, Deck, Goal, predicate_of, top_goal, map_literals}
use Rattle.rules.specs.Goals.{Marked, unmarked, renumber}
use Rattle.rules.specs.Unification.{Unification, fails, spent, solved, applys}
use Rattle.rules.specs.Resolution.{Selection, nothing, positive, negative, select, clauses_about, fresh, resolved, resolvent, collect, resolvents, selected_cost, cost_of}
use Rattle.rules.specs.WellFormed.{All}
use Rattle.rules.specs.Rights.{predicates, literals_of, named, onward, Reaches}
use Rattle.rules.specs.Ranks.{bodies, rests_on, Chain, stays, goes}
use Rattle.rules.specs.Evaluation.{budget, Level, Place, zeroth, Act, derive_act, selected_act, literals_act, act_of, Next, halt, act_step, check_store, Account, opening, first_cost, pay, succeeded, Ended, ended, next_from, next_of, evaluate_level, Outcome, outcome, evaluate}
use Rattle.rules.proofs.ListLaws.{all_append, all_split, all_in, unmarked-all}
use Rattle.rules.proofs.NumberingLaws.{In}
use Rattle.rules.proofs.NextLaws.{either, Ahead}
use Rattle.rules.proofs.SelectLaws.{Selected, select-selected}
use Rattle.rules.proofs.FormedLaws.{Perhaps, collect-all}
use Rattle.rules.proofs.LevelLaws.{Runs, halts, steps, wins, proves, disproves, unsettles, interrupts, next-ahead, runs, runs-level}
use Rattle.rules.proofs.Keeps.{Invariant, Kept, LevelHas, NextHas, start_has, ahead-has, evaluate-has}
use Rattle.rules.proofs.RankLaws.{rests-in}
use Rattle.rules.proofs.Reach.{Spreads, reaches_all}

-- CLAUSES ABOUT A PREDICATE
pub about-in : (c : Clause) (p : ℕ) (cs : List Clause) → Memᴰ c (clauses_about p cs) → Memᴰ c cs × (c.predicate ≡ p)
unfolding clauses_about
about-in c p [] i = absurd (Memᴰ.not-nil i)
about-in c p (d ∷ ds) i = go (eqb d.predicate p) refl (about-in c p ds) i
  where
    go : (b : Bool) → eqb d.predicate p ≡ b → (Memᴰ c (clauses_about p ds) → Memᴰ c ds × (c.predicate ≡ p))
        → Memᴰ c (elim b as (λ _. List Clause) [ true ↦ d ∷ clauses_about p ds | false ↦ clauses_about p ds ])
        → Memᴰ c (d ∷ ds) × (c.predicate ≡ p)
    go true e later j = elim (Memᴰ.cases_cons j) [
      | inl q ↦ (Memᴰ.head q, ap (λ (x : Clause). x.predicate) q ∙ eqb-true d.predicate p e)
      | inr k ↦ let r = later k in (Memᴰ.tail r.0, r.1)
    ]
    go false e later j = let r = later j in (Memᴰ.tail r.0, r.1)

pub in-about : {c : Clause} {cs : List Clause} → Memᴰ c cs → Memᴰ c (clauses_about c.predicate cs)
unfolding clauses_about
in-about {c} (Memᴰ.head {x = d} {xs = ds} e) =
    either (Memᴰ c) (eqb d.predicate c.predicate) (d ∷ clauses_about c.predicate ds) (clauses_about c.predicate ds)
    (λ t. Memᴰ.head e) (λ t. absurd (eqb-false d.predicate c.predicate t (ap (λ (x : Clause). x.predicate) (sym e))))
in-about {c} (Memᴰ.tail {x = d} {xs = ds} i) =
    either (Memᴰ c) (eqb d.predicate c.predicate) (d ∷ clauses_about c.predicate ds) (clauses_about c.predicate ds)
    (λ t. Memᴰ.tail (in-about i)) (λ t. in-about i)

-- GOALS THAT NAME ONLY PREDICATES OF A KIND
module _ (P : ℕ → Type 0) where
  abbrev pub NamesOnly : List Literal → Type 0
  NamesOnly ls = All (λ l. P (predicate_of l)) ls

  pub names-only : (ls : List Literal) → ((p : ℕ) → In p (predicates ls) → P p) → NamesOnly ls
  names-only [] h = tt
  names-only (l ∷ ls) h = (h (predicate_of l) (Memᴰ.head refl), names-only ls (λ p i. h p (Memᴰ.tail i)))

  pub only-names : {p : ℕ} (ls : List Literal) → NamesOnly ls → In p (predicates ls) → P p
  only-names [] h i = absurd (Memᴰ.not-nil i)
  only-names (l ∷ ls) h i = elim (Memᴰ.cases_cons i) [ inl e ↦ subst P (sym e) h.0 | inr j ↦ only-names ls h.1 j ]

  mapped : (F : Terms → Terms) (ls : List Literal) → NamesOnly ls → NamesOnly (map_literals F ls)
  mapped F [] h = tt
  mapped F (pos p ts ∷ ls) h = (h.0, mapped F ls h.1)
  mapped F (neg p ts ∷ ls) h = (h.0, mapped F ls h.1)

  -- As a property that runs keep.
  abbrev pub Naming : Invariant
  Naming = record { pending = λ g. NamesOnly g.literals; parked = λ m. NamesOnly m.goal.literals; answer = λ g. Unit {0} }

  resolved-names : (g : Goal) → NamesOnly g.literals → (u : Unification) → Perhaps (λ d. NamesOnly d.literals) (resolved g u)
  unfolding resolved renumber
  resolved-names g h (fails k) = tt
  resolved-names g h spent = tt
  resolved-names g h (solved k es) = mapped _ (map_literals (applys es) g.literals) (mapped (applys es) g.literals h)

  module _ (clauses : List Clause) (spreads : Spreads (λ q. Unit {0}) clauses P) where
    resolvents-name : (g : Goal) (before : List Literal) (p : ℕ) (ts : Terms) (after : List Literal) → NamesOnly (before ++ (pos p ts ∷ after))
        → All (λ d. NamesOnly d.literals) (resolvents clauses g before p ts after)
    unfolding resolvents resolvent
    resolvents-name g before p ts after h =
        collect-all (λ d. NamesOnly d.literals) (λ c. NamesOnly c.body) (resolvent (top_goal g) g.answer_terms before ts after)
        (λ c b. resolved-names _
        (all_append Named before _ parts.0 (all_append Named after (map_literals (fresh (top_goal g)) c.body) parts.1.1 (mapped (fresh (top_goal g)) c.body b))) _)
        (clauses_about p clauses) (all_in (λ c. NamesOnly c.body) (clauses_about p clauses) (λ c i.
        let r = about-in c p clauses i in
        names-only c.body (spreads c r.0 tt (subst P (sym r.1) parts.1.0))))
      where
        Named : Literal → Type 0
        Named l = P (predicate_of l)

        parts : NamesOnly before × NamesOnly (pos p ts ∷ after)
        parts = all_split Named before (pos p ts ∷ after) h

    pub names-kept : (g : Goal) → NamesOnly g.literals → Kept Naming clauses g
    names-kept g h = record {
      answered = λ e. tt;
      parks = λ m q s. h;
      derives = λ before p ts after e o. resolvents-name g before p ts after (subst NamesOnly e h);
      asks = λ before p ts after e o.
          let parts = all_split (λ l. P (predicate_of l)) before (neg p ts ∷ after) (subst NamesOnly e h) in
          ((parts.1.0, tt), all_append (λ l. P (predicate_of l)) before after parts.0 parts.1.1);
    }

-- TWO LISTS OF CLAUSES that agree about the predicates of a kind, where the kind spreads.
module _ (P : ℕ → Type 0) (cs ds : List Clause) (agree : (p : ℕ) → P p → clauses_about p cs ≡ clauses_about p ds) where
  selected-same : (below : ℕ) (g : Goal) (ls : List Literal) → NamesOnly P ls → (s : Selection) → Selected ls s
      → selected_act cs below g s ≡ selected_act ds below g s
  unfolding selected_act resolvents
  selected-same below g ls h nothing e = refl
  selected-same below g ls h (positive before p ts after) e =
      let parts = all_split (λ l. P (predicate_of l)) before (pos p ts ∷ after) (subst (NamesOnly P) e h) in
      ap (λ ks. derive_act (collect (resolvent (top_goal g) g.answer_terms before ts after) ks)) (agree p parts.1.0)
  selected-same below g ls h (negative before p ts after) e = refl

  act-same : (below : ℕ) (g : Goal) (ls : List Literal) → NamesOnly P ls → literals_act cs below g ls ≡ literals_act ds below g ls
  unfolding literals_act
  act-same below g [] h = refl
  act-same below g (l ∷ ls) h = selected-same below g (l ∷ ls) h (select (l ∷ ls)) (select-selected (l ∷ ls))

  -- What a step costs is the same too: it is a function of the clauses about the selected predicate.
  cost-same : (g : Goal) → NamesOnly P g.literals → cost_of cs g ≡ cost_of ds g
  unfolding cost_of selected_cost
  cost-same g h = go (select g.literals) (select-selected g.literals)
    where
      go : (s : Selection) → Selected g.literals s → selected_cost cs g s ≡ selected_cost ds g s
      go nothing e = refl
      go (positive before p ts after) e =
          let parts = all_split (λ l. P (predicate_of l)) before (pos p ts ∷ after) (subst (NamesOnly P) e h) in
          rw (agree p parts.1.0)
      go (negative before p ts after) e = refl

  first-same : (gs : List Goal) → All (λ g. NamesOnly P g.literals) gs → first_cost cs gs ≡ first_cost ds gs
  unfolding first_cost
  first-same [] h = refl
  first-same (g ∷ gs) h = cost-same g h.0

  pub pay-same : (l : Level) (a : Account) → LevelHas (Naming P) l → pay cs l a ≡ pay ds l a
  pay-same l a h = ap (λ n. record { left = a.left - n; steps = suc a.steps }) (first-same l.pending h.pending)

  module _ (answer_room store_size : ℕ) where
    from-same : (below : ℕ) (at : Place) (l : Level) (gs : List Goal) → All (λ g. NamesOnly P g.literals) gs → (left : ℕ)
        → next_from cs answer_room store_size below at l gs left ≡ next_from ds answer_room store_size below at l gs left
    unfolding next_from act_of
    from-same below at l [] h left = refl
    from-same below at l (g ∷ gs) h left =
        ap₂ {B = Act} {C = Next} (λ n a. elim (leb n left) as (λ _. Next) [ true ↦ check_store store_size at (act_step answer_room at l g gs a) | false ↦ halt budget ])
        (cost-same g h.0) (act-same below g g.literals h.0)

    pub next-same : (below : ℕ) (at : Place) (l : Level) (left : ℕ) → LevelHas (Naming P) l → {n : Next} → next_of cs answer_room store_size below at l left ≡ n
        → next_of ds answer_room store_size below at l left ≡ n
    unfolding next_of
    next-same below at l left h e = sym (from-same below at l l.pending h.pending left) ∙ e

    module _ (spreads : Spreads (λ q. Unit {0}) cs P) where
      pub after : {below left : ℕ} {at : Place} {l : Level} {n : Next} → Ahead cs answer_room store_size below at l left n → LevelHas (Naming P) l → NextHas (Naming P) n
      after = ahead-has (Naming P) cs (names-kept P cs spreads) answer_room store_size

      paid : (k : Level) (a : Account) → LevelHas (Naming P) k → {below : ℕ} {at : Place} {l : Level} {e : Ended}
          → Runs ds answer_room store_size below at l (pay cs k a) e → Runs ds answer_room store_size below at l (pay ds k a) e
      paid k a h {below} {at} {l} {e} r = subst (λ (x : Account). Runs ds answer_room store_size below at l x e) (pay-same k a h) r

      runs_same : {below : ℕ} {a : Account} {at : Place} {l : Level} {e : Ended} → Runs cs answer_room store_size below at l a e → LevelHas (Naming P) l
          → Runs ds answer_room store_size below at l a e
      runs_same (halts {below} {a} {at} {l} n) h = halts (next-same below at l a.left h n)
      runs_same (steps {below} {a} {at} {l} n r) h = steps (next-same below at l a.left h n) (paid l a h (runs_same r (after (next-ahead n) h)))
      runs_same (wins {below} {a} {at} {l} n) h =
          subst (λ (x : Account). Runs ds answer_room store_size below at l a (ended succeeded l x)) (sym (pay-same l a h)) (wins (next-same below at l a.left h n))
      runs_same (proves {below} {a} {at = at} {l} {q = q} n i r) h =
          let k = after (next-ahead n) h in
          proves (next-same (suc below) at l a.left h n) (paid l a h (runs_same i (start_has (Naming P) q.goal k.0))) (runs_same r k.1)
      runs_same (disproves {below} {a} {at = at} {l} {q = q} n i f r) h =
          let k = after (next-ahead n) h in
          disproves (next-same (suc below) at l a.left h n) (paid l a h (runs_same i (start_has (Naming P) q.goal k.0))) f (runs_same r k.2)
      runs_same (unsettles {below} {a} {at = at} {l} {q = q} n i f r) h =
          let k = after (next-ahead n) h in
          unsettles (next-same (suc below) at l a.left h n) (paid l a h (runs_same i (start_has (Naming P) q.goal k.0))) f (runs_same r k.3)
      runs_same (interrupts {below} {a} {at = at} {l} {q = q} n i f) h =
          let k = after (next-ahead n) h in
          interrupts (next-same (suc below) at l a.left h n) (paid l a h (runs_same i (start_has (Naming P) q.goal k.0))) f

      pub level-same : (below : ℕ) (at : Place) (l : Level) (a : Account) → LevelHas (Naming P) l
          → evaluate_level cs answer_room store_size below at l a ≡ evaluate_level ds answer_room store_size below at l a
      level-same below at l a h = sym (runs-level ds answer_room store_size (runs_same (runs cs answer_room store_size below at l a) h))

-- THE EVALUATION. The starting points are the literals of the open goals.
pub reaches-spreads : (clauses : List Clause) (starts : List Literal) → Spreads (λ q. Unit {0}) clauses (Reaches clauses starts)
reaches-spreads clauses starts c i a r p m = onward r tt i m

-- The open goals name only what they reach.
literals-named : (P : ℕ → Type 0) (ms : List Marked) → NamesOnly P (literals_of ms) → All (λ m. NamesOnly P m.goal.literals) ms
literals-named P [] h = tt
literals-named P (m ∷ ms) h =
    let parts = all_split (λ l. P (predicate_of l)) m.goal.literals (literals_of ms) h in (parts.0, literals-named P ms parts.1)

unmarked-split : (Q : Goal → Type 0) (gs : List Goal) (ms : List Marked) → All (λ m. Q m.goal) (unmarked gs ++ ms) → All Q gs × All (λ m. Q m.goal) ms
unmarked-split Q [] ms h = (tt, h)
unmarked-split Q (g ∷ gs) ms h = let r = unmarked-split Q gs ms h.1 in ((h.0, r.0), r.1)

-- What is reached from open goals.
abbrev pub ReachedFrom : List Clause → List Goal → List Marked → ℕ → Type 0
ReachedFrom clauses gs ms = Reaches clauses (literals_of (unmarked gs ++ ms))

pub start-names : (clauses : List Clause) (gs : List Goal) (ms : List Marked)
    → All (λ g. NamesOnly (ReachedFrom clauses gs ms) g.literals) gs × All (λ m. NamesOnly (ReachedFrom clauses gs ms) m.goal.literals) ms
start-names clauses gs ms =
    unmarked-split (λ g. NamesOnly (ReachedFrom clauses gs ms) g.literals) gs ms
    (literals-named (ReachedFrom clauses gs ms) (unmarked gs ++ ms) (names-only (ReachedFrom clauses gs ms) (literals_of (unmarked gs ++ ms)) (λ p i. named i)))

pub evaluate-same :
    (d e : Deck) (gs : List Goal) (ms : List Marked)
    → ((p : ℕ) → ReachedFrom d.clauses gs ms p → clauses_about p d.clauses ≡ clauses_about p e.clauses)
    → (answer_room store_size total : ℕ) → evaluate d answer_room store_size gs ms total ≡ evaluate e answer_room store_size gs ms total
unfolding evaluate
evaluate-same d e gs ms agree answer_room store_size total =
    let P : ℕ → Type 0 = ReachedFrom d.clauses gs ms in
    let names = start-names d.clauses gs ms in
    ap (outcome total) (level-same P d.clauses e.clauses agree answer_room store_size (reaches-spreads d.clauses _) 32 zeroth _ (opening total)
    (record { pending = names.0; parked = names.1; answers = tt }))

-- What an evaluation leaves reaches only what was reached before it.
names-literals : (P : ℕ → Type 0) (ms : List Marked) → All (λ m. NamesOnly P m.goal.literals) ms → NamesOnly P (literals_of ms)
names-literals P [] h = tt
names-literals P (m ∷ ms) h = all_append (λ l. P (predicate_of l)) m.goal.literals (literals_of ms) h.0 (names-literals P ms h.1)

pub left-reaches :
    (d : Deck) (gs : List Goal) (ms : List Marked) (answer_room store_size total p : ℕ)
    → ReachedFrom d.clauses (evaluate d answer_room store_size gs ms total).pending (evaluate d answer_room store_size gs ms total).parked p
    → ReachedFrom d.clauses gs ms p
left-reaches d gs ms answer_room store_size total p r =
    let P : ℕ → Type 0 = ReachedFrom d.clauses gs ms in
    let o : Outcome = evaluate d answer_room store_size gs ms total in
    let spreads = reaches-spreads d.clauses (literals_of (unmarked gs ++ ms)) in
    let names = start-names d.clauses gs ms in
    let kept = evaluate-has (Naming P) d (names-kept P d.clauses spreads) answer_room store_size gs ms total names.0 names.1 in
    let ls : List Literal = literals_of (unmarked o.pending ++ o.parked) in
    let named-left : NamesOnly P ls = names-literals P (unmarked o.pending ++ o.parked)
    (all_append (λ m. NamesOnly P m.goal.literals) (unmarked o.pending) o.parked (unmarked-all (λ g. NamesOnly P g.literals) o.pending kept.pending) kept.parked) in
    reaches_all (λ q. Unit {0}) d.clauses ls P (λ q i. only-names P ls named-left i) spreads r

-- THE SAME BY CHAINS (U8): a predicate is reached exactly if a chain leads to it from the predicate of a starting literal.
named_by : (p : ℕ) (ls : List Literal) → In p (predicates ls) → (l : Literal) × Memᴰ l ls × (predicate_of l ≡ p)
named_by p [] h = absurd (Memᴰ.not-nil h)
named_by p (l ∷ ls) h = elim (Memᴰ.cases_cons h) [
  | inl e ↦ (l, Memᴰ.head refl, sym e)
  | inr k ↦ (let r = named_by p ls k in (r.0, Memᴰ.tail r.1, r.2))
]

predicate-in : {l : Literal} {ls : List Literal} → Memᴰ l ls → In (predicate_of l) (predicates ls)
predicate-in (Memᴰ.head e) = Memᴰ.head (ap predicate_of e)
predicate-in (Memᴰ.tail m) = Memᴰ.tail (predicate-in m)

bodies-in : (l : Literal) (cs : List Clause) → Memᴰ l (bodies cs) → (c : Clause) × Memᴰ c cs × Memᴰ l c.body
bodies-in l [] h = absurd (Memᴰ.not-nil h)
bodies-in l (c ∷ cs) h = elim (Memᴰ.append_cases c.body h) [
  | inl i ↦ (c, Memᴰ.head refl, i)
  | inr j ↦ (let r = bodies-in l cs j in (r.0, Memᴰ.tail r.1, r.2))
]

chain-on : {clauses : List Clause} {p q n : ℕ} → Chain clauses p q n → (l : Literal) → Memᴰ l (rests_on clauses q) → (m : ℕ) × Chain clauses p (predicate_of l) m
chain-on stays l m = (_, goes l m stays)
chain-on (goes k i c) l m = let r = chain-on c l m in (_, goes k i r.1)

module _ (clauses : List Clause) (starts : List Literal) where
  pub reaches-chain : {q : ℕ} → Reaches clauses starts q → (l : Literal) × Memᴰ l starts × (n : ℕ) × Chain clauses (predicate_of l) q n
  reaches-chain (named {p} m) =
      let b = named_by p starts m in
      (b.0, b.1, 0, subst (λ x. Chain clauses (predicate_of b.0) x 0) b.2 stays)
  reaches-chain (onward {c} {p} r a i m) =
      let h = reaches-chain r in
      let b = named_by p c.body m in
      let x = chain-on h.3 b.0 (rests-in b.0 i b.1) in
      (h.0, h.1, x.0, subst (λ y. Chain clauses (predicate_of h.0) y x.0) b.2 x.1)

  pub chain-reaches : {p q n : ℕ} → Chain clauses p q n → Reaches clauses starts p → Reaches clauses starts q
  unfolding rests_on
  chain-reaches stays r = r
  chain-reaches (goes {p} l m c) r =
      let b = bodies-in l (clauses_about p clauses) m in
      let d = about-in b.0 p clauses b.1 in
      chain-reaches c (onward (subst (Reaches clauses starts) (sym d.1) r) tt d.0 (predicate-in b.2))
