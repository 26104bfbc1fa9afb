-- Goals at the start of a list, and whether they are bare.
use Prim.Native.Nat.{ℕ, ◌+◌, ◌*◌, ◌≤◌, ◌<◌}
use mathlib.Core.Path.{◌≡◌, refl, ◌∙◌, ap}
use mathlib.Core.Bool.{Bool, true, false}
use mathlib.Core.Option.{none, some}
use mathlib.Core.List.{List, [], ◌∷◌, ◌++◌, append_assoc}
use native.Mathlib.Omega.{arith}
use lib.ListN.{length, get_or, drop, length-append}
use lib.Seq.{drop_at}
use Rattle.rules.specs.Terms.{count, sizes}
use Rattle.rules.specs.Syntax.{Symbol, Literal, Goal, Deck}
use Rattle.rules.specs.Goals.{pending, marked, unmarked, mark_number, goal_words, write_goal, write_goals}
use Rattle.rules.specs.WellFormed.{WfGoal}
use Rattle.rules.specs.Stored.{every, OpenGoals, read_open}
use Rattle.rules.specs.Decks.{symbol_words, open_deck}
use Rattle.rules.specs.Refusals.{accepted}
use Rattle.rules.specs.Column.{bare, only_answers, read_answers}
use Rattle.rules.proofs.ListLaws.{all-weaken}
use Rattle.rules.proofs.CellLaws.{literal_sizes}
use Rattle.rules.proofs.GoalLaws.{goal-words}
use Rattle.rules.proofs.StoredLaws.{open-reads}
use Rattle.rules.proofs.ColumnLaws.{Answer, AnswersRead, none-parked}
use Rattle.rules.proofs.DeckLaws.{steps-open}
use Rattle.deck.specs.Answers.{found}
use Rattle.std.specs.Prelude as std
use Rattle.std.specs.Option.{is_some}
use Rattle.stored.specs.Passing.{OpenFound}
use Rattle.column.specs.Entries.{GoalsAt, ColumnAt}

-- The first goal's words, and the others' words after them.
pub record GoalHere (list : List ℕ) (gs : List Goal) : Type 0 where
  pub goal : Goal
  pub others : List Goal
  pub same : gs ≡ goal ∷ others
  pub word : get_or list 0 0 ≡ goal_words goal
  pub cells : get_or list 1 0 ≡ sizes goal.answer_terms
  pub least : 2 ≤ goal_words goal
  pub fits : goal_words goal ≤ length list
  pub after : GoalsAt (drop (goal_words goal) list) others

pub goal-here : (list : List ℕ) (gs : List Goal) → GoalsAt list gs → (length gs ≡ 0 → ⊥) → GoalHere list gs
unfolding write_goals write_goal mark_number goal_words
goal-here list [] a h = absurd (h refl)
goal-here list (g ∷ gs) a h =
    let more = write_goals (unmarked gs) ++ a.rest in
    let all : list ≡ write_goal (marked pending g) ++ more = a.written ∙ append_assoc (write_goal (marked pending g)) (write_goals (unmarked gs)) a.rest in
    let size : length (write_goal (marked pending g)) ≡ goal_words g = omega arith in
    let unmarked-word : goal_words g + 4096 * 0 ≡ goal_words g = omega arith in
    record {
      goal = g;
      others = gs;
      same = refl;
      word = ap (λ (l : List ℕ). get_or l 0 0) all ∙ unmarked-word;
      cells = ap (λ (l : List ℕ). get_or l 1 0) all;
      least = omega arith;
      fits = omega (arith, ap length all, length-append (write_goal (marked pending g)) more);
      after = record { rest = a.rest; written = ap (drop (goal_words g)) all ∙ drop_at (write_goal (marked pending g)) more (goal_words g) size };
    }

-- A goal is bare just if its answer terms' cells are all of its cells.
pub bare-goal : (g : Goal) → goal_words g ≡ sizes g.answer_terms + 2 → bare g.literals ≡ true
unfolding bare
bare-goal g e = go g.literals (omega (arith, goal-words g, e))
  where
    go : (ls : List Literal) → literal_sizes ls ≡ 0 → bare ls ≡ true
    go [] q = refl
    go (l ∷ ls) q = absurd (omega (arith, q))

pub full-goal : (g : Goal) → (goal_words g ≡ sizes g.answer_terms + 2 → ⊥) → bare g.literals ≡ false
unfolding bare
full-goal g h = go g.literals (λ q. h (omega (arith, goal-words g, q)))
  where
    go : (ls : List Literal) → (literal_sizes ls ≡ 0 → ⊥) → bare ls ≡ false
    go [] q = absurd (q refl)
    go (l ∷ ls) q = refl

abbrev pub all_bare : List Goal → Bool
all_bare gs = every (λ g. bare g.literals) gs

pub bare-more : (g : Goal) (gs : List Goal) → bare g.literals ≡ true → all_bare (g ∷ gs) ≡ all_bare gs
unfolding every
bare-more g gs e = rw e refl

pub bare-ends : (g : Goal) (gs : List Goal) → bare g.literals ≡ false → all_bare (g ∷ gs) ≡ false
unfolding every
bare-ends g gs e = rw e refl

pub bare-none : (gs : List Goal) → length gs ≡ 0 → all_bare gs ≡ true
unfolding every
bare-none [] e = refl
bare-none (g ∷ gs) e = absurd (omega (arith, e))

-- WHAT THE READER OF OPEN GOALS SAYS, with none parked.
pub goals-read : (S : List Symbol) (n terms : ℕ) (list : List ℕ) (o : OpenGoals) → read_open S n 0 terms list ≡ some o → GoalsAt list o.pending × (length o.pending ≡ n)
goals-read S n terms list o e =
    let r = open-reads S n 0 terms list o e in
    (record { rest = r.rest; written = r.written ∙ ap (λ xs. write_goals xs ++ r.rest) (none-parked o r.parked_many) }, r.pending_many)

pub answers-found : (S : List Symbol) (n terms : ℕ) (list : List ℕ) (o : OpenGoals) → read_open S n 0 terms list ≡ some o → found (read_answers S n terms list) ≡ all_bare o.pending
unfolding read_answers only_answers found
answers-found S n terms list o e = ap (λ x. found (only_answers x)) e ∙ go (all_bare o.pending) refl
  where
    go : (b : Bool) → all_bare o.pending ≡ b → found (only_answers (some o)) ≡ b
    go true q = rw (q, only_answers) refl
    go false q = rw (q, only_answers) refl

pub none-found : (S : List Symbol) (n terms : ℕ) (list : List ℕ) → read_open S n 0 terms list ≡ none → found (read_answers S n terms list) ≡ false
unfolding read_answers only_answers found
none-found S n terms list e = ap (λ x. found (only_answers x)) e

-- What the code finds of it.
pub nothing-found : (d : Deck) (n terms : ℕ) (list : List ℕ) (r : std.Option (ℕ × ℕ)) → is_some r ≡ false → OpenFound d.symbols list n 0 terms r → found (read_answers d.symbols n terms list) ≡ false
nothing-found d n terms list std.None e f = none-found d.symbols n terms list f
nothing-found d n terms list (std.Some p) e f = absurd (let z : ◌≡◌ {A = ℕ} 0 1 = cc in omega arith)

pub goals-found : (d : Deck) (n terms : ℕ) (list : List ℕ) (r : std.Option (ℕ × ℕ)) → is_some r ≡ true → OpenFound d.symbols list n 0 terms r
    → (gs : List Goal) × GoalsAt list gs × (length gs ≡ n) × (found (read_answers d.symbols n terms list) ≡ all_bare gs)
goals-found d n terms list std.None e f = absurd (let z : ◌≡◌ {A = ℕ} 0 1 = cc in omega arith)
goals-found d n terms list (std.Some p) e f =
    let g = goals-read d.symbols n terms list f.0 f.1 in
    (f.0.pending, g.0, g.1, answers-found d.symbols n terms list f.0 f.1)

-- The answers that were read, as the walk asks for them.
pub column-at : (ws list : List ℕ) (d : Deck) (n terms place : ℕ) (gs : List Goal) → open_deck ws ≡ accepted d → AnswersRead d.symbols n terms list gs → place < terms → ColumnAt (symbol_words ws) list gs place
column-at ws list d n terms place gs opens r h =
    record {
      answers = record {
        symbols = d.symbols;
        rest = r.rest;
        read = (steps-open ws d opens).symbols;
        written = r.written;
        formed = all-weaken (Answer d.symbols terms) (WfGoal d.symbols) (λ g a. a.fits.wf) gs r.answers;
        bare = all-weaken (Answer d.symbols terms) (λ g. g.literals ≡ []) (λ g a. a.plain) gs r.answers;
      };
      inside = all-weaken (Answer d.symbols terms) (λ g. place < count g.answer_terms) (λ g a. omega (arith, a.fits.many, h)) gs r.answers;
    }
