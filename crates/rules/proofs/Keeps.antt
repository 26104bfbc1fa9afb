-- A property that every act keeps holds of every goal that a run leaves: one property of pending goals, one of parked ones, one of answers.
use Prim.Native.Nat.{ℕ}
use mathlib.Core.Path.{◌≡◌, subst}
use mathlib.Core.Logic.{◌⊎◌, inl, inr}
use mathlib.Core.Bool.{false}
use mathlib.Core.List.{List, [], ◌∷◌, ◌++◌, Memᴰ}
use Rattle.rules.specs.Terms.{Terms, nil, vars_terms}
use Rattle.rules.specs.Syntax.{Literal, pos, neg, Clause, Deck, Goal}
use Rattle.rules.specs.Goals.{Mark, pending, floundered, undecided, oversized, deep, Marked, marked}
use Rattle.rules.specs.Resolution.{nothing, select, resolvents, any_oversized}
use Rattle.rules.specs.WellFormed.{All}
use Rattle.rules.specs.Evaluation.{Level, start_level, with_pending, with_parked, with_answer, Place, zeroth, Act, no_literals, park, derive, decide, question, Next, halt, step, success, ask, Account, opening, Ended, ended, next_of, evaluate_level, Outcome, outcome, evaluate}
use Rattle.rules.proofs.ListLaws.{all_append, all_snoc, all_of, all_in}
use Rattle.rules.proofs.SelectLaws.{Selected, select-selected}
use Rattle.rules.proofs.NextLaws.{Acts, bare, flounders, overflows, resolves, bottoms, asks, Ahead, emptied, unpaid, unlisted, unstored, lists, parks, replaces, succeeds, inquires, ahead}
use Rattle.rules.proofs.LevelLaws.{Runs, halts, steps, wins, proves, disproves, unsettles, interrupts, next-ahead, runs}

pub record Invariant : Type 1 where
  pub pending : Goal → Type 0
  pub parked : Marked → Type 0
  pub answer : Goal → Type 0

-- The goal of a new level, and a goal that has lost a literal.
abbrev pub atom_goal : ℕ → Terms → Goal
atom_goal p ts = record { answer_terms = nil; literals = pos p ts ∷ [] }

abbrev pub with_literals : Goal → List Literal → Goal
with_literals g others = record { answer_terms = g.answer_terms; literals = others }

-- The marks of parked goals: all but mark 0.
abbrev pub Parks : Mark → Type 0
Parks pending = ⊥
Parks floundered = Unit {0}
Parks undecided = Unit {0}
Parks oversized = Unit {0}
Parks deep = Unit {0}

-- A goal is parked as floundered only if it has literals and none of them can be selected.
abbrev pub Stuck : Goal → Mark → Type 0
Stuck g pending = Unit {0}
Stuck g floundered = (g.literals ≡ [] → ⊥) × (select g.literals ≡ nothing)
Stuck g undecided = Unit {0}
Stuck g oversized = Unit {0}
Stuck g deep = Unit {0}

-- What is asked of a goal, so that each step on it keeps the property.
pub record Kept (J : Invariant) (clauses : List Clause) (g : Goal) : Type 0 where
  pub answered : g.literals ≡ [] → J.answer g
  pub parks : (m : Mark) → Parks m → Stuck g m → J.parked (marked m g)
  pub derives :
      (before : List Literal) (p : ℕ) (ts : Terms) (after : List Literal) → g.literals ≡ before ++ (pos p ts ∷ after)
      → any_oversized (resolvents clauses g before p ts after) ≡ false → All J.pending (resolvents clauses g before p ts after)
  pub asks :
      (before : List Literal) (p : ℕ) (ts : Terms) (after : List Literal) → g.literals ≡ before ++ (neg p ts ∷ after) → vars_terms ts [] ≡ []
      → J.pending (atom_goal p ts) × J.pending (with_literals g (before ++ after))

-- What an act makes of a goal.
abbrev Makes : Invariant → Goal → Act → Type 0
Makes J g no_literals = J.answer g
Makes J g (park m) = J.parked (marked m g)
Makes J g (derive ds) = All J.pending ds
Makes J g (decide p ts others) = J.pending (atom_goal p ts) × J.pending (with_literals g others) × J.parked (marked undecided g)

module _ (J : Invariant) (clauses : List Clause) (g : Goal) (h : Kept J clauses g) where
  makes : {below : ℕ} {a : Act} → Acts clauses below g a → Makes J g a
  makes (bare e) = h.answered e
  makes (flounders n e) = h.parks floundered tt (n, e)
  makes (overflows e o) = h.parks oversized tt tt
  makes (resolves {before} {after} {p} {ts} e o) = h.derives before p ts after (subst (Selected g.literals) e (select-selected g.literals)) o
  makes (bottoms e z) = h.parks deep tt tt
  makes (asks {before} {after} {p} {ts = ts} e z) =
      let s = subst (Selected g.literals) e (select-selected g.literals) in
      let k = h.asks before p ts after s.0 s.1 in
      (k.0, k.1, h.parks undecided tt tt)

-- LEVELS
module _ (J : Invariant) where
  pub record Has (gs : List Goal) (ms : List Marked) (done : List Goal) : Type 0 where
    pub pending : All J.pending gs
    pub parked : All J.parked ms
    pub answers : All J.answer done

  abbrev pub LevelHas : Level → Type 0
  LevelHas l = Has l.pending l.parked l.answers

  abbrev pub OutcomeHas : Outcome → Type 0
  OutcomeHas o = Has o.pending o.parked o.answers

  -- What is next keeps it, whatever a new level tells.
  abbrev pub NextHas : Next → Type 0
  NextHas (halt s) = Unit {0}
  NextHas (step l) = LevelHas l
  NextHas success = Unit {0}
  NextHas (ask q) = J.pending q.goal × LevelHas q.on_success × LevelHas q.on_failure × LevelHas q.on_unsettled

  abbrev pub EndedHas : Ended → Type 0
  EndedHas (ended e l left) = LevelHas l

  pub start_has : (g : Goal) → J.pending g → LevelHas (start_level g)
  unfolding start_level
  start_has g h = record { pending = (h, tt); parked = tt; answers = tt }

  -- Levels made of one that has it.
  module _ (l : Level) (h : LevelHas l) where
    pending-has : (gs : List Goal) → All J.pending gs → LevelHas (with_pending gs l)
    unfolding with_pending
    pending-has gs k = record { pending = k; parked = h.parked; answers = h.answers }

    parked-has : (m : Mark) (g : Goal) (gs : List Goal) → J.parked (marked m g) → All J.pending gs → LevelHas (with_parked m g gs l)
    unfolding with_parked
    parked-has m g gs q k = record { pending = k; parked = all_snoc J.parked l.parked (marked m g) h.parked q; answers = h.answers }

    answer-has : (g : Goal) (gs : List Goal) → J.answer g → All J.pending gs → LevelHas (with_answer g gs l)
    unfolding with_answer
    answer-has g gs a k = record { pending = k; parked = h.parked; answers = all_snoc J.answer l.answers g h.answers a }

    question-has :
        (at : Place) (g : Goal) (gs : List Goal) (p : ℕ) (ts : Terms) (others : List Literal) → Makes J g (decide p ts others) → All J.pending gs
        → NextHas (ask (question at l g gs p ts others))
    unfolding question
    question-has at g gs p ts others (a, b, c) k =
        (a, pending-has gs k, pending-has (with_literals g others ∷ gs) (b, k), parked-has undecided g gs c k)

  module _ (clauses : List Clause) (kept : (g : Goal) → J.pending g → Kept J clauses g) (answer_room store_size : ℕ) where
    -- Of the first pending goal and those after it, and what an act makes of the first.
    first-has : {below : ℕ} {l : Level} {g : Goal} {gs : List Goal} {a : Act} → l.pending ≡ g ∷ gs → LevelHas l → Acts clauses below g a
        → All J.pending gs × Makes J g a
    first-has {g = g} e h a = let k = subst (All J.pending) e h.pending in (k.1, makes J clauses g (kept g k.0) a)

    pub ahead-has : {below left : ℕ} {at : Place} {l : Level} {n : Next} → Ahead clauses answer_room store_size below at l left n → LevelHas l → NextHas n
    ahead-has (emptied e) h = tt
    ahead-has (unpaid e c) h = tt
    ahead-has (unlisted e c a f) h = tt
    ahead-has (unstored e c) h = tt
    ahead-has (lists {l} {left} {g} {gs} e c a f s) h = let k = first-has e h a in answer-has l h g gs k.1 k.0
    ahead-has (parks {l = l} {g = g} {gs} {m} e c a s) h = let k = first-has e h a in parked-has l h m g gs k.1 k.0
    ahead-has (replaces {l = l} {gs = gs} {ds} e c a s) h = let k = first-has e h a in pending-has l h (ds ++ gs) (all_append J.pending ds gs k.1 k.0)
    ahead-has (succeeds e c a) h = tt
    ahead-has (inquires {at} {l} {g = g} {gs} {p} {ts} {others} e c a s) h =
        let k = first-has e h a in question-has l h at g gs p ts others k.1 k.0

    pub next-has : (below : ℕ) (at : Place) (l : Level) (left : ℕ) → LevelHas l → NextHas (next_of clauses answer_room store_size below at l left)
    next-has below at l left = ahead-has (ahead clauses answer_room store_size below at l left)

    -- So does a level's run, at any place, and so does each of the levels that it asks.
    runs-has : {below : ℕ} {a : Account} {at : Place} {l : Level} {e : Ended} → Runs clauses answer_room store_size below at l a e → LevelHas l → EndedHas e
    runs-has (halts n) h = h
    runs-has (steps n r) h = runs-has r (ahead-has (next-ahead n) h)
    runs-has (wins n) h = h
    runs-has (proves n a r) h = runs-has r (ahead-has (next-ahead n) h).1
    runs-has (disproves n a f r) h = runs-has r (ahead-has (next-ahead n) h).2
    runs-has (unsettles n a f r) h = runs-has r (ahead-has (next-ahead n) h).3
    runs-has (interrupts n a f) h = h

    pub level-has : (below : ℕ) (at : Place) (l : Level) (a : Account) → LevelHas l → EndedHas (evaluate_level clauses answer_room store_size below at l a)
    level-has below at l a = runs-has (runs clauses answer_room store_size below at l a)

outcome-has : (J : Invariant) (total : ℕ) (e : Ended) → EndedHas J e → OutcomeHas J (outcome total e)
unfolding outcome
outcome-has J total (ended e l left) h = record { pending = h.pending; parked = h.parked; answers = h.answers }

pub evaluate-has :
    (J : Invariant) (deck : Deck) → ((g : Goal) → J.pending g → Kept J deck.clauses g)
    → (answer_room store_size : ℕ) (gs : List Goal) (ms : List Marked) (total : ℕ) → All J.pending gs → All J.parked ms
    → OutcomeHas J (evaluate deck answer_room store_size gs ms total)
unfolding evaluate
evaluate-has J deck kept answer_room store_size gs ms total h k =
    outcome-has J total (evaluate_level deck.clauses answer_room store_size 32 zeroth start (opening total))
    (level-has J deck.clauses kept answer_room store_size 32 zeroth start (opening total) (record { pending = h; parked = k; answers = tt }))
  where
    start : Level
    start = record { pending = gs; parked = ms; answers = [] }

-- SHAPE
-- An answer has no literals, and a goal that was not parked before the run has one of the marks of parked goals.
abbrev pub Shape : List Marked → Invariant
Shape before = record {
  pending = λ g. Unit {0};
  parked = λ m. Memᴰ m before ⊎ Parks m.mark;
  answer = λ g. g.literals ≡ [];
}

shape-kept : (before : List Marked) (clauses : List Clause) (g : Goal) → Kept (Shape before) clauses g
shape-kept before clauses g = record {
  answered = λ e. e;
  parks = λ m h s. inr h;
  derives = λ b p ts a e o. all_of (λ g. Unit {0}) (λ g. tt) (resolvents clauses g b p ts a);
  asks = λ b p ts a e o. (tt, tt);
}

pub evaluate-shape :
    (deck : Deck) (answer_room store_size : ℕ) (gs : List Goal) (ms : List Marked) (total : ℕ)
    → OutcomeHas (Shape ms) (evaluate deck answer_room store_size gs ms total)
evaluate-shape deck answer_room store_size gs ms total =
    evaluate-has (Shape ms) deck (λ g h. shape-kept ms deck.clauses g) answer_room store_size gs ms total
    (all_of (λ g. Unit {0}) (λ g. tt) gs) (all_in (Shape ms).parked ms (λ m h. inl h))
