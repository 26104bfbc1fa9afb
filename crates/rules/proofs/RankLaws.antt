-- Ranks (document 02, U8): where there are any, no predicate is on a chain through a "not" back to itself, and a fresh run opens no level deeper
-- than the highest rank among the query's literals.
use Prim.Native.Nat.{ℕ, suc, ◌+◌, ◌-◌, ◌≤◌, ◌<◌, max}
use mathlib.Core.Path.{◌≡◌, refl, sym, ap, subst}
use mathlib.Core.Logic.{◌↔◌}
use mathlib.Core.List.Memᴰ
use mathlib.Core.List.{List, [], ◌∷◌, ◌++◌, Memᴰ}
use native.Mathlib.Omega.{arith}
use lib.Dec.{eqb}
use borrow.Author.Tests.{eqb-true, eqb-false}
use Rattle.rules.specs.Terms.{Terms, renames}
use Rattle.rules.specs.Syntax.{Literal, pos, neg, Clause, Deck, Goal, predicate_of, map_literals, map_goal, top_goal, vars_goal}
use Rattle.rules.specs.Goals.{appearing, position, first_goal, renumber}
use Rattle.rules.specs.Unification.{Unification, fails, spent, solved, applys, unify}
use Rattle.rules.specs.Resolution.{negative, clauses_about, fresh, place, resolved, resolvent, resolvents}
use Rattle.rules.specs.Evaluation.{Level, Place, question, ask, Question, Account}
use Rattle.rules.specs.WellFormed.{All}
use Rattle.rules.specs.Passes.{FreshPasses, level_number}
use Rattle.rules.specs.Ranks.{nots, greatest, highest, bodies, rests_on, Ranked, Chain, stays, goes, Circular}
use Rattle.rules.proofs.SelectLaws.{Selected, select-selected}
use Rattle.rules.proofs.NextLaws.{either, asks, Ahead, inquires}
use Rattle.rules.proofs.LevelLaws.{next-ahead}
use Rattle.rules.proofs.FormedLaws.{Perhaps, collect-all}
use Rattle.rules.proofs.Keeps.{Invariant, Kept, LevelHas, start_has}
use Rattle.rules.proofs.ListLaws.{all_in}
use Rattle.rules.proofs.PassLaws.{Keeping, passes-keep, has_kept}

-- THE GREATEST
module _ (number : Literal → ℕ) where
  pub greatest-append : (ls ms : List Literal) → greatest number (ls ++ ms) ≡ max (greatest number ls) (greatest number ms)
  greatest-append [] ms = omega arith
  greatest-append (l ∷ ls) ms = omega (arith, greatest-append ls ms)

  pub greatest-in : {l : Literal} {ls : List Literal} → Memᴰ l ls → number l ≤ greatest number ls
  greatest-in (Memᴰ.head e) = rw (ap number e) (omega arith)
  greatest-in (Memᴰ.tail h) = omega (arith, greatest-in h)

  pub greatest-all : (n : ℕ) (ls : List Literal) → ((l : Literal) → Memᴰ l ls → number l ≤ n) → greatest number ls ≤ n
  greatest-all n [] h = omega arith
  greatest-all n (l ∷ ls) h = omega (arith, h l (Memᴰ.head refl), greatest-all n ls (λ k m. h k (Memᴰ.tail m)))

-- Where the clause's body goes does not matter.
place-greatest : (number : Literal → ℕ) (before body after : List Literal)
    → greatest number (place before body after) ≡ max (greatest number before) (max (greatest number body) (greatest number after))
place-greatest number before body after = omega (arith, greatest-append number before (after ++ body), greatest-append number after body)

-- The terms do not matter to ranks.
pub highest-map : (rank : ℕ → ℕ) (F : Terms → Terms) (ls : List Literal) → highest rank (map_literals F ls) ≡ highest rank ls
highest-map rank F [] = refl
highest-map rank F (pos p ts ∷ ls) = ap (max (nots (pos p ts) + rank (predicate_of (pos p ts)))) (highest-map rank F ls)
highest-map rank F (neg p ts ∷ ls) = ap (max (nots (neg p ts) + rank (predicate_of (neg p ts)))) (highest-map rank F ls)

bodies-under : (number : Literal → ℕ) (n : ℕ) (cs : List Clause) → greatest number (bodies cs) ≤ n → All (λ c. greatest number c.body ≤ n) cs
bodies-under number n [] h = tt
bodies-under number n (c ∷ cs) h =
    let e = greatest-append number c.body (bodies cs) in (omega arith, bodies-under number n cs (omega arith))

-- CLAUSE BY CLAUSE, as a program goes over a deck.
-- One more clause is about its predicate, and about no other.
pub rests-more : (Q : List Literal → Type 0) (p : ℕ) (c : Clause) (cs : List Clause)
    → (c.predicate ≡ p → Q (c.body ++ rests_on cs p)) → ((c.predicate ≡ p → ⊥) → Q (rests_on cs p)) → Q (rests_on (c ∷ cs) p)
unfolding rests_on clauses_about
rests-more Q p c cs h k =
    either (λ ds. Q (bodies ds)) (eqb c.predicate p) (c ∷ clauses_about p cs) (clauses_about p cs)
    (λ e. h (eqb-true c.predicate p e)) (λ e. k (eqb-false c.predicate p e))

pub rests-in : (l : Literal) {c : Clause} {cs : List Clause} → Memᴰ c cs → Memᴰ l c.body → Memᴰ l (rests_on cs c.predicate)
rests-in l {c} (Memᴰ.head {x = d} {xs = cs} e) m =
    rests-more (Memᴰ l) c.predicate d cs (λ q. Memᴰ.append_left (rests_on cs c.predicate) (subst (λ (b : Clause). Memᴰ l b.body) e m))
    (λ n. absurd (n (ap (λ (b : Clause). b.predicate) (sym e))))
rests-in l {c} (Memᴰ.tail {x = d} {xs = cs} h) m =
    let r = rests-in l h m in
    rests-more (Memᴰ l) c.predicate d cs (λ q. Memᴰ.append_right d.body r) (λ n. r)

module _ (number : Literal → ℕ) (bound : ℕ → ℕ) where
  pub by-clauses : (cs : List Clause) → All (λ c. greatest number c.body ≤ bound c.predicate) cs → (p : ℕ) → greatest number (rests_on cs p) ≤ bound p
  unfolding rests_on clauses_about
  by-clauses [] h p = omega arith
  by-clauses (c ∷ cs) h p =
      rests-more (λ ls. greatest number ls ≤ bound p) p c cs
      (λ e. omega (arith, h.0, ap bound e, greatest-append number c.body (rests_on cs p), by-clauses cs h.1 p)) (λ n. by-clauses cs h.1 p)

-- Word for word: a predicate's rank is at least that of each predicate in its bodies, and at least one more where that one is negated.
pub ranked-says : (clauses : List Clause) (rank : ℕ → ℕ) → Ranked clauses rank
    ↔ ((c : Clause) (l : Literal) → Memᴰ c clauses → Memᴰ l c.body → nots l + rank (predicate_of l) ≤ rank c.predicate)
ranked-says clauses rank = (
  λ h c l m k. omega (arith, h c.predicate, greatest-in (λ l. nots l + rank (predicate_of l)) (rests-in l m k)),
  λ h. by-clauses (λ l. nots l + rank (predicate_of l)) rank clauses
      (all_in (λ c. highest rank c.body ≤ rank c.predicate) clauses
      (λ c m. greatest-all (λ l. nots l + rank (predicate_of l)) (rank c.predicate) c.body (λ l k. h c l m k))),
)

module _ (clauses : List Clause) (rank : ℕ → ℕ) (ranked : Ranked clauses rank) where
  -- The rank of a literal, as a number that it has.
  abbrev of : Literal → ℕ
  of l = nots l + rank (predicate_of l)

  -- CHAINS
  -- Along a chain the rank falls at least by the "nots" that it goes through.
  pub chain_rank : {p q n : ℕ} → Chain clauses p q n → n + rank q ≤ rank p
  chain_rank stays = omega arith
  chain_rank (goes {p} l m c) = omega (arith, ranked p, greatest-in of m, chain_rank c)

  -- WHERE THERE ARE RANKS NO SUCH CHAIN EXISTS.
  pub ranked-not-circular : (p : ℕ) → Circular clauses p → ⊥
  ranked-not-circular p c = omega (arith, chain_rank c.1)

  -- A RUN
  about-ranked : (p : ℕ) → All (λ c. highest rank c.body ≤ rank p) (clauses_about p clauses)
  unfolding rests_on
  about-ranked p = bodies-under of (rank p) (clauses_about p clauses) (ranked p)

  module _ (n : ℕ) where
    abbrev Under : Goal → Type 0
    Under g = highest rank g.literals ≤ n

    renumber-under : (g : Goal) → Under g → Under (renumber g)
    unfolding renumber
    renumber-under g h = omega (arith, highest-map rank (renames (position (appearing [] (vars_goal g)))) g.literals)

    resolved-under : (g : Goal) (u : Unification) → Under g → Perhaps Under (resolved g u)
    unfolding resolved
    resolved-under g (fails k) h = tt
    resolved-under g spent h = tt
    resolved-under g (solved k es) h = renumber-under (map_goal (applys es) g) (omega (arith, highest-map rank (applys es) g.literals))

    -- The ranks of a goal's literals do not rise.
    abbrev Low : Invariant
    Low = record { pending = Under; parked = λ m. Unit {0}; answer = λ g. Unit {0} }

    low-kept : (g : Goal) → Under g → Kept Low clauses g
    unfolding resolvents resolvent
    low-kept g h = record {
      answered = λ e. tt;
      parks = λ m p s. tt;
      derives = λ before p ts after e o.
          collect-all Under (λ c. highest rank c.body ≤ rank p) (resolvent (top_goal g) g.answer_terms before ts after)
          (λ c w. resolved-under _ (unify ts (fresh (top_goal g) c.arguments)) (omega (
            arith,
            w,
            ap (highest rank) e,
            greatest-append of before (pos p ts ∷ after),
            place-greatest of before (map_literals (fresh (top_goal g)) c.body) after,
            highest-map rank (fresh (top_goal g)) c.body,
          )))
          (clauses_about p clauses) (about-ranked p);
      asks = λ before p ts after e closed. (
        omega (arith, ap (highest rank) e, greatest-append of before (neg p ts ∷ after)),
        omega (arith, ap (highest rank) e, greatest-append of before (neg p ts ∷ after), greatest-append of before after),
      );
    }

  -- The goal of a new level, from the negated literal that it is asked for.
  asked-under : (n : ℕ) {answer_room store_size below left : ℕ} {at : Place} {l : Level} {q : Question} → Ahead clauses answer_room store_size below at l left (ask q)
      → LevelHas (Low n) l → highest rank q.goal.literals < n
  unfolding question
  asked-under n (inquires {g = g} {gs} e c (asks {before} {after} {p = p} {ts = ts} f z) w) h =
      let s : Selected g.literals (negative before p ts after) = rw f at (select-selected g.literals) in
      let k : All (Under n) (g ∷ gs) = rw e at h.pending in
      omega (arith, k.0, ap (highest rank) s.0, greatest-append of before (neg p ts ∷ after))

  module _ (answer_room store_size H : ℕ) where
    -- Level number d has goals of ranks at most H - d.
    abbrev Deep : ℕ → Level → Type 0
    Deep below l = (32 ≤ below + H) × LevelHas (Low (below + H - 32)) l

    deep-kept : Keeping clauses answer_room store_size Deep
    deep-kept = record {
      by_step = λ below left at l l' e h. (h.0, (has_kept clauses answer_room store_size (Low (below + H - 32)) (low-kept (below + H - 32))).by_step below left at l l' e h.1);
      by_ask = λ below left at l q e h.
          let n : ℕ = suc below + H - 32 in
          let a = (has_kept clauses answer_room store_size (Low n) (low-kept n)).by_ask below left at l q e h.1 in
          let u : highest rank q.goal.literals < n = asked-under n (next-ahead e) h.1 in
          ((omega arith, start_has (Low (below + H - 32)) q.goal (omega arith)), (h.0, a.1), (h.0, a.2), (h.0, a.3));
    }

-- A FRESH RUN OPENS NO LEVEL DEEPER THAN THE HIGHEST AMONG THE QUERY'S LITERALS.
pub level-bounded : (deck : Deck) (rank : ℕ → ℕ) → Ranked deck.clauses rank
    → (query : List Literal) (answer_room store_size total : ℕ) (below : ℕ) (at : Place) (l : Level) (left : Account)
    → FreshPasses deck answer_room store_size query total below at l left → level_number below ≤ highest rank query
unfolding first_goal
level-bounded deck rank ranked query answer_room store_size total below at l left p =
    let H : ℕ = highest rank query in
    let d = passes-keep deck.clauses answer_room store_size (Deep deck.clauses rank ranked answer_room store_size H)
    (deep-kept deck.clauses rank ranked answer_room store_size H)
    (omega arith, start_has (Low deck.clauses rank ranked (32 + H - 32)) (first_goal query) (omega arith)) p in
    omega (arith, d.0)
