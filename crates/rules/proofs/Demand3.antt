-- Demand 3 about the words in the slices: of every accepted run, whatever its deck, query, budget and slices, and wherever it stops.
-- The goals of the statement are read from the words that the run left.
use Prim.Native.Nat.{ℕ, ◌+◌, ◌≤◌}
use mathlib.Core.Path.{◌≡◌, refl, sym, ◌∙◌, ap, subst}
use mathlib.Core.Logic.{◌↔◌, ∥∥₁_elim}
use mathlib.Core.HLevel.{⊥_prop}
use mathlib.Core.Bool.{Bool, true, false}
use mathlib.Core.List.{List, [], ◌∷◌, ◌++◌, append-nil}
use mathlib.Core.Option.{some}
use native.Mathlib.Omega.{arith}
use lib.ListN.{length, drop, length-append, take-append-drop}
use Rattle.rules.specs.Syntax.{Literal, Deck, Goal, vars_literals}
use Rattle.rules.specs.Refusals.{Refusal, loose_clause, loose_query, Checked, refused, accepted, and_then, require}
use Rattle.rules.specs.Decks.{open_deck, read_query}
use Rattle.rules.specs.Goals.{Marked, unmarked, write_goals, read_goals, query_variables, first_goal}
use Rattle.rules.specs.Loose.{tight_query, tight_clauses, check_tight, check_tight_query}
use Rattle.rules.specs.Rights.{check_rights}
use Rattle.rules.specs.Evaluation.{Outcome, evaluate}
use Rattle.rules.specs.Run.{run_from, check_sizes, run, Report, report, returned, answers_after, store_start, Slices, Filled, Leaves, run_on, Ran}
use Rattle.rules.specs.Meaning.{Inds, Interpretation, Satisfies, individuals, QueryHolds, SomeCovers}
use Rattle.rules.specs.ThreeValues.{◌≈◌, Interpretation3, Satisfies3, query_value, goals_value, ExcludedMiddle}
use Rattle.rules.specs.Demand.{Read, Covered, Valued, Known, Said, Demand3}
use Rattle.rules.specs.WellFormed.{All, InOrder, WfGoal, WfMarked}
use Rattle.rules.proofs.ListLaws.{all_append, unmarked-all, length-unmarked}
use Rattle.rules.proofs.GoalLaws.{read-goals}
use Rattle.rules.proofs.DeckLaws.{opened-written, query-reads}
use Rattle.rules.proofs.FirstGoal.{first_goal-wf}
use Rattle.rules.proofs.Keeps.{OutcomeHas}
use Rattle.rules.proofs.GoalsKept.{WellFormed, evaluate-keeps}
use Rattle.rules.proofs.EndLaws.{Bare, cost-within, steps-cost, answers-bare}
use Rattle.rules.proofs.Cover.{query-covers}
use Rattle.rules.proofs.ThreeCover.{query-stays, query-values}

-- An accepted run is the evaluation of the query that was read, over the deck that was opened; neither has a loose variable.
pub record Accepted (deck_words query_words : List ℕ) (budget answer_room store_size : ℕ) (o : Outcome) : Type 0 where
  pub deck : Deck
  pub query : List Literal
  pub opens : open_deck deck_words ≡ accepted deck
  pub asks : read_query deck query_words ≡ accepted query
  pub tight_deck : tight_clauses deck.clauses ≡ true
  pub tight_asked : tight_query query ≡ true
  pub evaluates : o ≡ evaluate deck answer_room store_size (first_goal query ∷ []) [] budget

pub passed : {A B : Type 0} {b : B} (c : Checked A) (next : A → Checked B) → and_then c next ≡ accepted b → (a : A) × (c ≡ accepted a) × (next a ≡ accepted b)
unfolding and_then
passed (refused n) next e = absurd (let z : ◌≡◌ {A = ℕ} 0 1 = cc in omega arith)
passed (accepted a) next e = (a, refl, e)

pub required : (n : Refusal) (b : Bool) {u : Unit {0}} → require n b ≡ accepted u → b ≡ true
unfolding require
required n true e = refl
required n false e = absurd (let z : ◌≡◌ {A = ℕ} 0 1 = cc in omega arith)

tight-passed : (deck : Deck) (query : List Literal) (u : Unit {0}) → check_tight_query deck query ≡ accepted u
    → (tight_clauses deck.clauses ≡ true) × (tight_query query ≡ true)
unfolding check_tight_query check_tight
tight-passed deck query u e =
    let d = passed (check_tight deck) _ e in
    (required loose_clause (tight_clauses deck.clauses) d.1, required loose_query (tight_query query) d.2)

pub run-accepted :
    (deck_words query_words bars : List ℕ) (budget answer_room store_size scratch_size : ℕ) (o : Outcome) → run deck_words query_words bars budget answer_room store_size scratch_size ≡ accepted o
    → Accepted deck_words query_words budget answer_room store_size o
unfolding run run_from
run-accepted deck_words query_words bars budget answer_room store_size scratch_size o e =
    let d = passed (open_deck deck_words) _ e in
    let q = passed (read_query d.0 query_words) _ d.2 in
    let s = passed (check_sizes store_size scratch_size) _ q.2 in
    let t = passed (check_tight_query d.0 q.0) _ s.2 in
    let b = tight-passed d.0 q.0 t.0 t.1 in
    let r = passed (check_rights d.0 bars _) _ t.2 in
    record { deck = d.0; query = q.0; opens = d.1; asks = q.1; tight_deck = b.0; tight_asked = b.1; evaluates = cc }

-- Goals that are well formed are read from words that begin with their writing.
pub left-read :
    (deck : Deck) (o : Outcome) (entry exit : Slices) → OutcomeHas (WellFormed deck.symbols) o → All Bare o.answers → Filled o entry exit
    → Read deck (report o) exit (unmarked o.answers) (unmarked o.pending ++ o.parked)
unfolding report answers_after store_start
left-read deck o entry exit w bare f = record {
  plain = unmarked-all Bare o.answers bare;
  answers = subst (λ n. read_goals deck.symbols n exit.answers ≡ some (unmarked o.answers)) (length-unmarked o.answers)
      (rw f.answers (read-goals deck.symbols (unmarked o.answers) _ (unmarked-all (WfGoal deck.symbols) o.answers w.answers)));
  store =
      let open' : List Marked = unmarked o.pending ++ o.parked in
      let many : length open' ≡ length o.pending + length o.parked = length-append (unmarked o.pending) o.parked ∙ ap (λ n. n + length o.parked) (length-unmarked o.pending) in
      let begins : write_goals open' ++ drop (length (write_goals open')) exit.store ≡ exit.store =
      ap (λ ws. ws ++ drop (length (write_goals open')) exit.store) (sym f.store) ∙ take-append-drop (length (write_goals open')) exit.store in
      subst (λ n. read_goals deck.symbols n exit.store ≡ some open') many
      (subst (λ ws. read_goals deck.symbols (length open') ws ≡ some open') begins
      (read-goals deck.symbols open' _ (all_append (WfMarked deck.symbols) (unmarked o.pending) o.parked (unmarked-all (WfGoal deck.symbols) o.pending w.pending) w.parked)));
}

-- A statement about what every evaluation of a query leaves is one about the words that an accepted run leaves.
module _
    (Statement : Deck → List Literal → List Marked → List Marked → Type 1)
    (holds : (deck : Deck) (query : List Literal) → InOrder (vars_literals query) → (answer_room store_size total : ℕ)
    → let o = evaluate deck answer_room store_size (first_goal query ∷ []) [] total in Statement deck query (unmarked o.answers) (unmarked o.pending ++ o.parked))
    (deck_words query_words bars : List ℕ) (budget : ℕ) (entry exit : Slices) (r : Report) where
  run-says : Ran deck_words query_words bars budget entry (accepted r) exit → Said Statement deck_words query_words r exit
  unfolding Leaves returned run_on
  run-says ran = go (run_on deck_words query_words bars budget entry) refl ran.returns ran.leaves
    where
      go : (c : Checked Outcome) → run_on deck_words query_words bars budget entry ≡ c → accepted r ≡ returned c → Leaves c entry exit → Said Statement deck_words query_words r exit
      go (refused n) e back left = absurd (let z : ◌≡◌ {A = ℕ} 0 1 = cc in omega arith)
      go (accepted o) e back left =
          let a = run-accepted deck_words query_words bars budget (length entry.answers) (length entry.store) (length entry.scratch) o e in
          let same : r ≡ report o = cc in
          let deck : Deck = a.deck in
          let query : List Literal = a.query in
          let wf = (opened-written deck_words deck a.opens).1 in
          let q = query-reads deck query_words query a.asks in
          let first = first_goal-wf deck.symbols query q.1 in
          let kept = evaluate-keeps deck wf (length entry.answers) (length entry.store) (first_goal query ∷ []) [] budget (first, tt) tt in
          record {
            deck = deck;
            query = query;
            listed = unmarked o.answers;
            left_open = unmarked o.pending ++ o.parked;
            opens = a.opens;
            asks = a.asks;
            reads = subst (λ (x : Report). Read deck x exit (unmarked o.answers) (unmarked o.pending ++ o.parked)) (sym same)
                (left-read deck o entry exit (subst (OutcomeHas (WellFormed deck.symbols)) (sym a.evaluates) kept)
                (subst (λ (x : Outcome). All Bare x.answers) (sym a.evaluates) (answers-bare deck (length entry.answers) (length entry.store) (first_goal query ∷ []) [] budget)) left);
            covered = subst (λ (x : Outcome). Statement deck query (unmarked x.answers) (unmarked x.pending ++ x.parked)) (sym a.evaluates)
                (holds deck query q.1.in_order (length entry.answers) (length entry.store) budget);
          }

-- DEMAND 3
pub demand-3 :
    (deck_words query_words bars : List ℕ) (budget : ℕ) (entry exit : Slices) (r : Report) → Ran deck_words query_words bars budget entry (accepted r) exit
    → Demand3 deck_words query_words r exit
demand-3 = run-says Covered (λ deck query ordered answer_room store_size total I sat choice many. query-covers query ordered choice many deck answer_room store_size total I sat)

-- In three values, by excluded middle; and what needs none.
pub demand-3-valued :
    ExcludedMiddle → (deck_words query_words bars : List ℕ) (budget : ℕ) (entry exit : Slices) (r : Report) → Ran deck_words query_words bars budget entry (accepted r) exit
    → Said Valued deck_words query_words r exit
demand-3-valued em = run-says Valued (λ deck query ordered answer_room store_size total I sat choice many. query-values query ordered choice many I deck sat answer_room store_size total em)

pub demand-3-known :
    (deck_words query_words bars : List ℕ) (budget : ℕ) (entry exit : Slices) (r : Report) → Ran deck_words query_words bars budget entry (accepted r) exit
    → Said Known deck_words query_words r exit
demand-3-known = run-says Known (λ deck query ordered answer_room store_size total I sat choice many. query-stays query ordered choice many I deck sat answer_room store_size total)

-- What a run returns: no more steps than its cost, and a cost of at most its budget (U6).
pub ran-spends :
    (deck_words query_words bars : List ℕ) (budget : ℕ) (entry exit : Slices) (r : Report) → Ran deck_words query_words bars budget entry (accepted r) exit
    → (r.steps ≤ r.cost) × (r.cost ≤ budget)
unfolding returned run_on report
ran-spends deck_words query_words bars budget entry exit r ran = go (run_on deck_words query_words bars budget entry) refl ran.returns
  where
    go : (c : Checked Outcome) → run_on deck_words query_words bars budget entry ≡ c → accepted r ≡ returned c → (r.steps ≤ r.cost) × (r.cost ≤ budget)
    go (refused n) e back = absurd (let z : ◌≡◌ {A = ℕ} 0 1 = cc in omega arith)
    go (accepted o) e back =
        let a = run-accepted deck_words query_words bars budget (length entry.answers) (length entry.store) (length entry.scratch) o e in
        let first : List Goal = first_goal a.query ∷ [] in
        let same : report o ≡ r = cc in
        subst (λ (x : Report). (x.steps ≤ x.cost) × (x.cost ≤ budget)) same
        (subst (λ (x : Outcome). (x.steps ≤ x.cost) × (x.cost ≤ budget)) (sym a.evaluates)
        (steps-cost a.deck (length entry.answers) (length entry.store) first [] budget, cost-within a.deck (length entry.answers) (length entry.store) first [] budget))

-- Where the counts are 0 there are no such goals.
module _ {Statement : Deck → List Literal → List Marked → List Marked → Type 1} {deck_words query_words : List ℕ} {r : Report} {exit : Slices} (d : Said Statement deck_words query_words r exit) where
  none_open : r.pending + r.parked ≡ 0 → d.listed ++ d.left_open ≡ d.listed
  unfolding read_goals
  none_open b =
      let k : read_goals d.deck.symbols 0 exit.store ≡ some d.left_open = rw b at d.reads.store in
      let f : d.left_open ≡ [] = cc in
      ap (d.listed ++◌) f ∙ append-nil d.listed

  none-listed : r.answers ≡ 0 → d.listed ≡ []
  unfolding read_goals
  none-listed a = let l : read_goals d.deck.symbols 0 exit.answers ≡ some d.listed = rw a at d.reads.answers in cc

-- THE COROLLARIES in the user's words. Where nothing is left open, the query holds exactly for the choices that a listed answer covers;
pub all_listed :
    {deck_words query_words : List ℕ} {r : Report} {exit : Slices} (d : Demand3 deck_words query_words r exit) → r.pending + r.parked ≡ 0
    → (I : Interpretation) → Satisfies I d.deck → (choice : Inds) → individuals choice ≡ length (query_variables d.query)
    → QueryHolds I d.query choice ↔ SomeCovers I choice d.listed
all_listed d b I sat choice many = rw (none_open d b) at (d.covered I sat choice many)

-- and where nothing is listed either, it holds for no choice.
pub nothing_left :
    {deck_words query_words : List ℕ} {r : Report} {exit : Slices} (d : Demand3 deck_words query_words r exit) → r.answers ≡ 0 → r.pending + r.parked ≡ 0
    → (I : Interpretation) → Satisfies I d.deck → (choice : Inds) → individuals choice ≡ length (query_variables d.query) → ¬ QueryHolds I d.query choice
unfolding SomeCovers
nothing_left d a b I sat choice many h =
    let none : SomeCovers I choice [] = rw (none-listed d a) at ((all_listed d b I sat choice many).0 h) in
    ∥∥₁_elim none ⊥_prop (λ x. x)

-- In three values: the query's value is the highest that a listed answer gives;
pub all-listed-valued :
    {deck_words query_words : List ℕ} {r : Report} {exit : Slices} (d : Said Valued deck_words query_words r exit) → r.pending + r.parked ≡ 0
    → (I : Interpretation3) → Satisfies3 I d.deck → (choice : Inds) → individuals choice ≡ length (query_variables d.query)
    → query_value I d.query choice ≈ goals_value I choice d.listed
all-listed-valued d b I sat choice many = rw (none_open d b) at (d.covered I sat choice many)

-- and where nothing is listed either, it is false.
pub nothing-left-false :
    {deck_words query_words : List ℕ} {r : Report} {exit : Slices} (d : Said Valued deck_words query_words r exit) → r.answers ≡ 0 → r.pending + r.parked ≡ 0
    → (I : Interpretation3) → Satisfies3 I d.deck → (choice : Inds) → individuals choice ≡ length (query_variables d.query) → (query_value I d.query choice).is_false
unfolding goals_value
nothing-left-false d a b I sat choice many = (all-listed-valued d b I sat choice many).1.1 (rw (none-listed d a) tt)
