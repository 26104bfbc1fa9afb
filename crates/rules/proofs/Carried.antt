-- Runs that carry on (document 02, U4), about the words in the slices: the cover statement, and the next run is let carry on from what this one leaves.
use Prim.Native.Nat.{ℕ, suc, ◌+◌, ◌≤◌}
use mathlib.Core.Path.{◌≡◌, refl, sym, ◌∙◌, ap, subst}
use mathlib.Core.Logic.Iff
use mathlib.Core.Logic.{◌↔◌}
use mathlib.Core.Bool.{true}
use mathlib.Core.Option.{Option, none, some, some-injective}
use mathlib.Core.List.{List, [], ◌∷◌, ◌++◌, append_assoc}
use native.Mathlib.Omega.{arith}
use lib.ListN.{length, take, drop, take-append-drop}
use Rattle.rules.specs.Terms.{count}
use Rattle.rules.specs.Syntax.{Symbol, Literal, Deck, Goal}
use Rattle.rules.specs.Refusals.{Refusal, bad_goals, loose_clause, Checked, refused, accepted, and_then, obtain, require}
use Rattle.rules.specs.Decks.{open_deck, read_query}
use Rattle.rules.specs.Goals.{Marked, unmarked, write_goals, read_goals, variables, query_variables, first_goal}
use Rattle.rules.specs.Stored.{OpenGoals, read_open}
use Rattle.rules.specs.Loose.{tight_clauses, check_tight}
use Rattle.rules.specs.Rights.{check_rights}
use Rattle.rules.specs.Evaluation.{Outcome, evaluate}
use Rattle.rules.specs.Run.{run_from, check_sizes, Carried, carry, carry_on, carry_from, run_on, Report, report, returned, store_start, Slices, Filled, Leaves, Ran, RanOn}
use Rattle.rules.specs.WellFormed.{All, WfGoal, WfMarked}
use Rattle.rules.specs.Meaning.{Inds, Interpretation, Satisfies, SomeCovers}
use Rattle.rules.specs.ThreeValues.{◌⊑◌, Interpretation3, Satisfies3, goal_value, goals_value, ExcludedMiddle}
use Rattle.rules.specs.Demand.{Read, Covered, Valued, Known, Said, Demand3, CoveredFrom, ValuedFrom, KnownFrom, SaidOn, DemandOn}
use Rattle.rules.proofs.Existence.{some-behind}
use Rattle.rules.proofs.ListLaws.{all_append, all_split, all-weaken}
use Rattle.rules.proofs.DeckLaws.{opened-written, query-reads}
use Rattle.rules.proofs.FirstGoal.{first_goal-wf}
use Rattle.rules.proofs.Keeps.{OutcomeHas}
use Rattle.rules.proofs.GoalsKept.{WellFormed, evaluate-keeps}
use Rattle.rules.proofs.EndLaws.{Bare, cost-within, steps-cost, steps-within, answers-bare}
use Rattle.rules.proofs.Cover.{remaining, evaluate-covers}
use Rattle.rules.proofs.ThreeCover.{evaluate-stays, evaluate-values}
use Rattle.rules.proofs.Demand3.{passed, required, run-accepted, left-read}
use Rattle.rules.proofs.StoredLaws.{Fits, ParkedFits, OpenReads, open-reads, open-list, read-open, left-fit}

-- An accepted run is the evaluation of the open goals that were read, over the deck that was opened, which has no loose variable.
pub record AcceptedOn (deck_words : List ℕ) (pending parked terms budget answer_room : ℕ) (store_words : List ℕ) (o : Outcome) : Type 0 where
  pub deck : Deck
  pub goals : OpenGoals
  pub opens : open_deck deck_words ≡ accepted deck
  pub carries : read_open deck.symbols pending parked terms store_words ≡ some goals
  pub tight_deck : tight_clauses deck.clauses ≡ true
  pub evaluates : o ≡ evaluate deck answer_room (length store_words) goals.pending goals.parked budget

obtained : {A : Type 0} {a : A} (n : Refusal) (x : Option A) → obtain n x ≡ accepted a → x ≡ some a
unfolding obtain
obtained n none e = absurd (let z : ◌≡◌ {A = ℕ} 0 1 = cc in omega arith)
obtained n (some b) e = cc

pub carry-parts : (deck_words : List ℕ) (pending parked terms : ℕ) (store_words : List ℕ) (scratch_size : ℕ) (c : Carried)
    → carry deck_words pending parked terms store_words scratch_size ≡ accepted c
    → (open_deck deck_words ≡ accepted c.deck) × (read_open c.deck.symbols pending parked terms store_words ≡ some c.goals) × (tight_clauses c.deck.clauses ≡ true)
unfolding carry check_tight
carry-parts deck_words pending parked terms store_words scratch_size c e =
    let d = passed (open_deck deck_words) _ e in
    let s = passed (check_sizes (length store_words) scratch_size) _ d.2 in
    let g = passed (obtain bad_goals (read_open d.0.symbols pending parked terms store_words)) _ s.2 in
    let t = passed (check_tight d.0) _ g.2 in
    let k : Carried = record { deck = d.0; goals = g.0 } in
    let back : accepted k ≡ accepted c = t.2 in
    let same : k ≡ c = cc in
    subst (λ (x : Carried). (open_deck deck_words ≡ accepted x.deck) × (read_open x.deck.symbols pending parked terms store_words ≡ some x.goals) × (tight_clauses x.deck.clauses ≡ true)) same
    (d.1, obtained bad_goals (read_open d.0.symbols pending parked terms store_words) g.1, required loose_clause (tight_clauses d.0.clauses) t.1)

pub carry-accepted :
    (deck_words : List ℕ) (pending parked terms : ℕ) (bars : List ℕ) (budget answer_room : ℕ) (store_words : List ℕ) (scratch_size : ℕ) (o : Outcome)
    → carry_on (carry deck_words pending parked terms store_words scratch_size) bars budget answer_room (length store_words) ≡ accepted o
    → AcceptedOn deck_words pending parked terms budget answer_room store_words o
unfolding carry_on run_from
carry-accepted deck_words pending parked terms bars budget answer_room store_words scratch_size o e =
    let c = passed (carry deck_words pending parked terms store_words scratch_size) _ e in
    let parts = carry-parts deck_words pending parked terms store_words scratch_size c.0 c.1 in
    let r = passed (check_rights c.0.deck bars _) _ c.2 in
    record { deck = c.0.deck; goals = c.0.goals; opens = parts.0; carries = parts.1; tight_deck = parts.2; evaluates = cc }

-- The words of open goals, pending ones first.
abbrev pub open_words : OpenGoals → List ℕ
open_words o = write_goals (unmarked o.pending ++ o.parked)

-- From what a run leaves the next one is let carry on: with the counts that were returned, over any store of an allowed size that begins with those words.
-- A member's list is checked after this; one that was let through is so again (`MemberRuns.LetOn`).
pub record CarriesOn (deck_words : List ℕ) (terms : ℕ) (r : Report) (exit : Slices) : Type 0 where
  pub deck : Deck
  pub goals : OpenGoals
  pub left : take (length (open_words goals)) exit.store ≡ open_words goals
  pub carries : (store_words : List ℕ) (scratch_size : ℕ) → take (length (open_words goals)) store_words ≡ open_words goals
      → check_sizes (length store_words) scratch_size ≡ accepted tt
      → carry deck_words r.pending r.parked terms store_words scratch_size ≡ accepted (record { deck = deck; goals = goals })

-- All checks are passed.
all_pass : (deck_words : List ℕ) (pending parked terms : ℕ) (store_words : List ℕ) (scratch_size : ℕ) (deck : Deck) (goals : OpenGoals) → open_deck deck_words ≡ accepted deck
    → check_sizes (length store_words) scratch_size ≡ accepted tt → read_open deck.symbols pending parked terms store_words ≡ some goals → tight_clauses deck.clauses ≡ true
    → carry deck_words pending parked terms store_words scratch_size ≡ accepted (record { deck = deck; goals = goals })
unfolding carry check_tight and_then obtain require
all_pass deck_words pending parked terms store_words scratch_size deck goals o s g t = rw (o, s, g, t)

-- The goals that an outcome leaves are read from the start of any store that begins with their words.
pub goals-open : (terms : ℕ) (deck : Deck) (goals : OpenGoals) → All (Fits deck.symbols terms) goals.pending → All (ParkedFits deck.symbols terms) goals.parked → (ws : List ℕ)
    → take (length (open_words goals)) ws ≡ open_words goals → read_open deck.symbols (length goals.pending) (length goals.parked) terms ws ≡ some goals
goals-open terms deck goals p q ws begins =
    let n : ℕ = length (open_words goals) in
    let whole : open_words goals ++ drop n ws ≡ ws = ap (λ xs. xs ++ drop n ws) (sym begins) ∙ take-append-drop n ws in
    subst (λ xs. read_open deck.symbols (length goals.pending) (length goals.parked) terms xs ≡ some goals) whole
    (read-open deck.symbols terms goals.pending goals.parked (drop n ws) p q)

-- So a store is let through that begins with goals as they must be.
pub left-accepted : (deck_words : List ℕ) (terms : ℕ) (deck : Deck) → open_deck deck_words ≡ accepted deck → tight_clauses deck.clauses ≡ true → (goals : OpenGoals)
    → All (Fits deck.symbols terms) goals.pending → All (ParkedFits deck.symbols terms) goals.parked → (store_words : List ℕ) (scratch_size : ℕ)
    → take (length (open_words goals)) store_words ≡ open_words goals → check_sizes (length store_words) scratch_size ≡ accepted tt
    → carry deck_words (length goals.pending) (length goals.parked) terms store_words scratch_size ≡ accepted (record { deck = deck; goals = goals })
left-accepted deck_words terms deck opens tight goals p q ws scratch_size begins sizes =
    all_pass deck_words (length goals.pending) (length goals.parked) terms ws scratch_size deck goals opens sizes (goals-open terms deck goals p q ws begins) tight

left-carries : (deck_words : List ℕ) (terms : ℕ) (exit entry : Slices) (deck : Deck) → open_deck deck_words ≡ accepted deck → tight_clauses deck.clauses ≡ true → (o : Outcome)
    → Filled o entry exit → All (Fits deck.symbols terms) o.pending → All (ParkedFits deck.symbols terms) o.parked → CarriesOn deck_words terms (report o) exit
unfolding report store_start
left-carries deck_words terms exit entry deck opens tight o left p q =
    let goals : OpenGoals = record { pending = o.pending; parked = o.parked } in
    record { deck = deck; goals = goals; left = left.store; carries = left-accepted deck_words terms deck opens tight goals p q }

-- A statement about the goals before and after every evaluation.
abbrev pub Always : (Deck → List Marked → List Marked → Type 1) → Type 1
Always Statement =
    (deck : Deck) (answer_room store_size : ℕ) (gs : List Goal) (ms : List Marked) (total : ℕ)
    → Statement deck (unmarked gs ++ ms) (remaining (evaluate deck answer_room store_size gs ms total))

pub covered-always : Always CoveredFrom
covered-always deck answer_room store_size gs ms total I sat choice = evaluate-covers deck answer_room store_size gs ms total I sat choice

pub valued-always : ExcludedMiddle → Always ValuedFrom
valued-always em deck answer_room store_size gs ms total I sat choice = evaluate-values deck answer_room store_size gs ms total I sat choice em

pub known-always : Always KnownFrom
known-always deck answer_room store_size gs ms total I sat choice = evaluate-stays deck answer_room store_size gs ms total I sat choice

-- Of an accepted outcome and what it leaves.
module _ (deck_words : List ℕ) (pending parked terms budget : ℕ) (entry exit : Slices) (o : Outcome)
    (a : AcceptedOn deck_words pending parked terms budget (length entry.answers) entry.store o) (left : Filled o entry exit) where
  abbrev deck : Deck
  deck = a.deck

  before-reads : OpenReads deck.symbols pending parked terms entry.store a.goals
  before-reads = open-reads deck.symbols pending parked terms entry.store a.goals a.carries

  left-reads : Read deck (report o) exit (unmarked o.answers) (unmarked o.pending ++ o.parked)
  left-reads =
      let gs : List Goal = a.goals.pending in
      let ms : List Marked = a.goals.parked in
      let kept = evaluate-keeps deck (opened-written deck_words deck a.opens).1 (length entry.answers) (length entry.store) gs ms budget
      (all-weaken (Fits deck.symbols terms) (WfGoal deck.symbols) (λ g h. h.wf) gs before-reads.pending)
      (all-weaken (ParkedFits deck.symbols terms) (WfMarked deck.symbols) (λ m h. h.1.wf) ms before-reads.parked) in
      left-read deck o entry exit (subst (OutcomeHas (WellFormed deck.symbols)) (sym a.evaluates) kept)
      (subst (λ (x : Outcome). All Bare x.answers) (sym a.evaluates) (answers-bare deck (length entry.answers) (length entry.store) gs ms budget)) left

  -- The answers are read at the start of the answer list.
  pub left-lists : read_goals deck.symbols (length o.answers) exit.answers ≡ some (unmarked o.answers)
  unfolding report
  left-lists = left-reads.answers

  -- The statement, with the goals that the store began with in place of the query.
  pub says_of : (Statement : Deck → List Marked → List Marked → Type 1) → Always Statement → SaidOn Statement deck_words pending parked terms entry (report o) exit
  says_of Statement always = record {
    deck = deck;
    before = a.goals;
    listed = unmarked o.answers;
    left_open = unmarked o.pending ++ o.parked;
    opens = a.opens;
    carries = a.carries;
    reads = left-reads;
    covered = subst (λ (x : Outcome). Statement deck (unmarked a.goals.pending ++ a.goals.parked) (remaining x)) (sym a.evaluates)
        (always deck (length entry.answers) (length entry.store) a.goals.pending a.goals.parked budget);
  }

  fits-of : All (Fits deck.symbols terms) o.pending × All (ParkedFits deck.symbols terms) o.parked
  fits-of = subst (λ (x : Outcome). All (Fits deck.symbols terms) x.pending × All (ParkedFits deck.symbols terms) x.parked) (sym a.evaluates)
      (left-fit deck (opened-written deck_words deck a.opens).1 terms a.goals.pending a.goals.parked before-reads.pending before-reads.parked
      (length entry.answers) (length entry.store) budget)

  pub left-opens : read_open deck.symbols (length o.pending) (length o.parked) terms exit.store ≡ some (record { pending = o.pending; parked = o.parked })
  unfolding store_start
  left-opens = goals-open terms deck (record { pending = o.pending; parked = o.parked }) fits-of.0 fits-of.1 exit.store left.store

  pub carries-of : CarriesOn deck_words terms (report o) exit
  carries-of = left-carries deck_words terms exit entry deck a.opens a.tight_deck o left fits-of.0 fits-of.1

-- A RUN THAT CARRIES ON.
module _ (deck_words : List ℕ) (pending parked terms : ℕ) (bars : List ℕ) (budget : ℕ) (entry exit : Slices) (r : Report)
    (ran : RanOn deck_words pending parked terms bars budget entry (accepted r) exit) where
  -- What holds of the accepted outcome holds of the run.
  pub accepted-on {ℓ} : (Q : Report → Type ℓ)
      → ((o : Outcome) → AcceptedOn deck_words pending parked terms budget (length entry.answers) entry.store o → Filled o entry exit → Q (report o)) → Q r
  unfolding Leaves returned carry_from
  accepted-on Q h = go (carry_from deck_words pending parked terms bars budget entry) refl ran.returns ran.leaves
    where
      go : (c : Checked Outcome) → carry_from deck_words pending parked terms bars budget entry ≡ c → accepted r ≡ returned c → Leaves c entry exit → Q r
      go (refused n) e back left = absurd (let z : ◌≡◌ {A = ℕ} 0 1 = cc in omega arith)
      go (accepted o) e back left =
          let same : report o ≡ r = cc in
          subst Q same (h o (carry-accepted deck_words pending parked terms bars budget (length entry.answers) entry.store (length entry.scratch) o e) left)

  says_on : (Statement : Deck → List Marked → List Marked → Type 1) → Always Statement → SaidOn Statement deck_words pending parked terms entry r exit
  says_on Statement always = accepted-on (λ x. SaidOn Statement deck_words pending parked terms entry x exit)
      (λ o a left. says_of deck_words pending parked terms budget entry exit o a left Statement always)

  -- The cover statement; in three values, by excluded middle; and what needs none.
  pub demand-on : DemandOn deck_words pending parked terms entry r exit
  demand-on = says_on CoveredFrom covered-always

  pub demand-on-valued : ExcludedMiddle → SaidOn ValuedFrom deck_words pending parked terms entry r exit
  demand-on-valued em = says_on ValuedFrom (valued-always em)

  pub demand-on-known : SaidOn KnownFrom deck_words pending parked terms entry r exit
  demand-on-known = says_on KnownFrom known-always

  -- The steps are at most the budget.
  pub on-within : r.steps ≤ budget
  unfolding report
  on-within = accepted-on (λ x. x.steps ≤ budget) (λ o a left.
      subst (λ (x : Outcome). x.steps ≤ budget) (sym a.evaluates) (steps-within a.deck (length entry.answers) (length entry.store) a.goals.pending a.goals.parked budget))

  -- No more steps than its cost, and a cost of at most its budget (U6).
  pub on-spends : (r.steps ≤ r.cost) × (r.cost ≤ budget)
  unfolding report
  on-spends = accepted-on (λ x. (x.steps ≤ x.cost) × (x.cost ≤ budget)) (λ o a left.
      let room : ℕ = length entry.answers in
      let size : ℕ = length entry.store in
      subst (λ (y : Outcome). (y.steps ≤ y.cost) × (y.cost ≤ budget)) (sym a.evaluates)
      (steps-cost a.deck room size a.goals.pending a.goals.parked budget, cost-within a.deck room size a.goals.pending a.goals.parked budget))

  -- And the next run is let carry on, with the counts returned and as many answer terms.
  pub carries-on : CarriesOn deck_words terms r exit
  carries-on = accepted-on (λ x. CarriesOn deck_words terms x exit) (λ o a left. carries-of deck_words pending parked terms budget entry exit o a left)

-- After a fresh run too; the number of answer terms is that of the query's variables.
pub variables-count : (vs : List ℕ) → count (variables vs) ≡ length vs
unfolding variables
variables-count [] = refl
variables-count (v ∷ vs) = ap suc (variables-count vs)

pub first_fits : (deck : Deck) (query_words : List ℕ) (query : List Literal) → read_query deck query_words ≡ accepted query
    → Fits deck.symbols (length (query_variables query)) (first_goal query)
unfolding first_goal
first_fits deck query_words query asks = record {
  wf = first_goal-wf deck.symbols query (query-reads deck query_words query asks).1;
  many = variables-count (query_variables query);
}

pub fresh-carries :
    (deck_words query_words bars : List ℕ) (budget : ℕ) (entry exit : Slices) (r : Report) → Ran deck_words query_words bars budget entry (accepted r) exit
    → (deck : Deck) × (query : List Literal) × (open_deck deck_words ≡ accepted deck) × (read_query deck query_words ≡ accepted query)
    × CarriesOn deck_words (length (query_variables query)) r exit
unfolding Leaves returned run_on
fresh-carries deck_words query_words bars budget entry exit r ran = go (run_on deck_words query_words bars budget entry) refl ran.returns ran.leaves
  where
    go : (c : Checked Outcome) → run_on deck_words query_words bars budget entry ≡ c → accepted r ≡ returned c → Leaves c entry exit
        → (deck : Deck) × (query : List Literal) × (open_deck deck_words ≡ accepted deck) × (read_query deck query_words ≡ accepted query)
        × CarriesOn deck_words (length (query_variables query)) r exit
    go (refused n) e back left = absurd (let z : ◌≡◌ {A = ℕ} 0 1 = cc in omega arith)
    go (accepted o) e back left =
        let a = run-accepted deck_words query_words bars budget (length entry.answers) (length entry.store) (length entry.scratch) o e in
        let deck : Deck = a.deck in
        let terms : ℕ = length (query_variables a.query) in
        let fit = left-fit deck (opened-written deck_words deck a.opens).1 terms (first_goal a.query ∷ []) [] (first_fits deck query_words a.query a.asks, tt) tt (length entry.answers) (length entry.store) budget in
        let same : report o ≡ r = cc in (
          deck,
          a.query,
          a.opens,
          a.asks,
          subst (λ (x : Report). CarriesOn deck_words terms x exit) same (left-carries deck_words terms exit entry deck a.opens a.tight_deck o left
              (subst (λ (x : Outcome). All (Fits deck.symbols terms) x.pending) (sym a.evaluates) fit.0)
              (subst (λ (x : Outcome). All (ParkedFits deck.symbols terms) x.parked) (sym a.evaluates) fit.1)),
        )

-- RUNS CONTINUED ONE FROM THE OTHER, on one deck, from the goals that `store_words` begins with: each has a store that begins with the goals that the one
-- before has left, and the counts that it returned; members' lists, budgets, answer lists and the stores' sizes may be any. Then `listed` are the answers of all
-- of them, each read from its own answer list, and `left_open` the goals at the start of the last store.
pub data CarriedOn (deck_words : List ℕ) (symbols : List Symbol) (terms : ℕ) : ℕ → ℕ → List ℕ → List Marked → List Marked → Type 0 where
  rests : {pending parked : ℕ} {store_words : List ℕ} {left_open : List Marked} → read_goals symbols (pending + parked) store_words ≡ some left_open
      → CarriedOn deck_words symbols terms pending parked store_words [] left_open
  goes_on : (bars : List ℕ) (budget : ℕ) {pending parked : ℕ} {store_words : List ℕ} {entry exit : Slices} {r : Report} {listed later left_open : List Marked}
      → read_goals symbols (pending + parked) entry.store ≡ read_goals symbols (pending + parked) store_words
      → RanOn deck_words pending parked terms bars budget entry (accepted r) exit → read_goals symbols r.answers exit.answers ≡ some listed
      → CarriedOn deck_words symbols terms r.pending r.parked exit.store later left_open
      → CarriedOn deck_words symbols terms pending parked store_words (listed ++ later) left_open

-- A statement that lasts: it holds of the same goals, from the first to the last of three lists, and behind goals that stay.
pub record Lasting (Statement : Deck → List Marked → List Marked → Type 1) : Type 1 where
  pub same : (deck : Deck) (ms : List Marked) → Statement deck ms ms
  pub onward : (deck : Deck) (ms ns os : List Marked) → Statement deck ms ns → Statement deck ns os → Statement deck ms os
  pub behind : (deck : Deck) (first ms ns : List Marked) → Statement deck ms ns → Statement deck (first ++ ms) (first ++ ns)

covers-behind : (I : Interpretation) (choice : Inds) (first bs cs : List Marked) → SomeCovers I choice bs ↔ SomeCovers I choice cs
    → SomeCovers I choice (first ++ bs) ↔ SomeCovers I choice (first ++ cs)
unfolding SomeCovers
covers-behind I choice first bs cs e = (some-behind _ first bs cs e.0, some-behind _ first cs bs e.1)

value-behind : (I : Interpretation3) (choice : Inds) (first bs cs : List Marked) → goals_value I choice bs ⊑ goals_value I choice cs
    → goals_value I choice (first ++ bs) ⊑ goals_value I choice (first ++ cs)
unfolding goals_value
value-behind I choice first bs cs e = (
  some-behind (λ m. (goal_value I choice m.goal).is_true) first bs cs e.0,
  λ h.
      let r = all_split (λ m. (goal_value I choice m.goal).is_false) first bs h in
      all_append (λ m. (goal_value I choice m.goal).is_false) first cs r.0 (e.1 r.1),
)

covered-lasts : Lasting CoveredFrom
covered-lasts = record {
  same = λ deck ms I sat choice. Iff.rfl;
  onward = λ deck ms ns os a b I sat choice. Iff.trans (a I sat choice) (b I sat choice);
  behind = λ deck first ms ns a I sat choice. covers-behind I choice first ms ns (a I sat choice);
}

valued-lasts : Lasting ValuedFrom
valued-lasts = record {
  same = λ deck ms I sat choice. (Iff.rfl, Iff.rfl);
  onward = λ deck ms ns os a b I sat choice. (Iff.trans (a I sat choice).0 (b I sat choice).0, Iff.trans (a I sat choice).1 (b I sat choice).1);
  behind = λ deck first ms ns a I sat choice.
      let e = a I sat choice in
      let on = value-behind I choice first ms ns (e.0.0, e.1.0) in
      let back = value-behind I choice first ns ms (e.0.1, e.1.1) in
      ((on.0, back.0), (on.1, back.1));
}

known-lasts : Lasting KnownFrom
known-lasts = record {
  same = λ deck ms I sat choice. (λ h. h, λ h. h);
  onward = λ deck ms ns os a b I sat choice. (λ h. (b I sat choice).0 ((a I sat choice).0 h), λ h. (b I sat choice).1 ((a I sat choice).1 h));
  behind = λ deck first ms ns a I sat choice. value-behind I choice first ms ns (a I sat choice);
}

pub same_read : {A : Type 0} {x y : A} {o : Option A} → o ≡ some x → o ≡ some y → x ≡ y
same_read {x = x} {y} p q = some-injective x y (sym p ∙ q)

-- A statement that holds of each run.
abbrev OfEach : (Deck → List Marked → List Marked → Type 1) → Type 1
OfEach Statement = (deck_words : List ℕ) (pending parked terms : ℕ) (bars : List ℕ) (budget : ℕ) (entry exit : Slices) (r : Report)
    → RanOn deck_words pending parked terms bars budget entry (accepted r) exit → SaidOn Statement deck_words pending parked terms entry r exit

each-valued : ExcludedMiddle → OfEach ValuedFrom
each-valued em deck_words pending parked terms bars budget entry exit r ran = demand-on-valued deck_words pending parked terms bars budget entry exit r ran em

module _ (deck_words : List ℕ) (deck : Deck) (opens : open_deck deck_words ≡ accepted deck) where
  -- From the goals that the first store began with to the answers of all of the runs and the goals open after the last.
  module _ (Statement : Deck → List Marked → List Marked → Type 1) (lasts : Lasting Statement) (each : OfEach Statement) where
    carried-says : {terms pending parked : ℕ} {store_words : List ℕ} {listed left_open : List Marked}
        → CarriedOn deck_words deck.symbols terms pending parked store_words listed left_open
        → (before : List Marked) → read_goals deck.symbols (pending + parked) store_words ≡ some before → Statement deck before (listed ++ left_open)
    carried-says (rests {left_open = ms} e) before b = subst (Statement deck before) (same_read b e) (lasts.same deck before)
    carried-says {terms} (goes_on bars budget {pending} {parked} {store_words} {entry} {exit} {r} {listed} {later} {left_open} w ran answers rest) before b =
        let d = each deck_words pending parked terms bars budget entry exit r ran in
        let same : d.deck ≡ deck = let e = d.opens in cc in
        let S : List Symbol = d.deck.symbols in
        let first = open-list S pending parked terms entry.store d.before (open-reads S pending parked terms entry.store d.before d.carries) in
        let b' : read_goals S (pending + parked) entry.store ≡ some before = ap (λ (x : Deck). read_goals x.symbols (pending + parked) entry.store) same ∙ w ∙ b in
        let after : read_goals deck.symbols (r.pending + r.parked) exit.store ≡ some d.left_open =
        ap (λ (x : Deck). read_goals x.symbols (r.pending + r.parked) exit.store) (sym same) ∙ d.reads.store in
        let heard : d.listed ≡ listed = same_read (ap (λ (x : Deck). read_goals x.symbols r.answers exit.answers) (sym same) ∙ d.reads.answers) answers in
        let one : Statement deck before (listed ++ d.left_open) =
        subst (λ (x : Deck). Statement x before (listed ++ d.left_open)) same
        (subst (λ (x : List Marked). Statement d.deck x (listed ++ d.left_open)) (same_read first b')
        (subst (λ (x : List Marked). Statement d.deck (unmarked d.before.pending ++ d.before.parked) (x ++ d.left_open)) heard d.covered)) in
        rw (append_assoc listed later left_open)
        (lasts.onward deck _ _ _ one (lasts.behind deck listed d.left_open (later ++ left_open) (carried-says rest d.left_open after)))

    -- From a query: of a fresh run, and of runs continued from it.
    after-fresh : (Fresh : Deck → List Literal → List Marked → List Marked → Type 1) → (query_words : List ℕ) (r : Report) (exit : Slices) (d : Said Fresh deck_words query_words r exit)
        → {terms : ℕ} {later left_open : List Marked} → CarriedOn deck_words deck.symbols terms r.pending r.parked exit.store later left_open
        → (d.deck ≡ deck) × Statement deck (d.listed ++ d.left_open) (d.listed ++ (later ++ left_open))
    after-fresh Fresh query_words r exit d {later = later} {left_open} rest =
        let same : d.deck ≡ deck = let e = d.opens in cc in
        let after : read_goals deck.symbols (r.pending + r.parked) exit.store ≡ some d.left_open =
        ap (λ (x : Deck). read_goals x.symbols (r.pending + r.parked) exit.store) (sym same) ∙ d.reads.store in
        (same, lasts.behind deck d.listed d.left_open (later ++ left_open) (carried-says rest d.left_open after))

  -- What the goals covered that the first store began with, an answer of any of the runs covers or a goal open after the last, and nothing else;
  -- and the same in three values.
  module _ {terms pending parked : ℕ} {store_words : List ℕ} {listed left_open : List Marked} where
    pub carried-covers : CarriedOn deck_words deck.symbols terms pending parked store_words listed left_open
        → (before : List Marked) → read_goals deck.symbols (pending + parked) store_words ≡ some before → CoveredFrom deck before (listed ++ left_open)
    carried-covers = carried-says CoveredFrom covered-lasts demand-on

    pub carried-values : ExcludedMiddle → CarriedOn deck_words deck.symbols terms pending parked store_words listed left_open
        → (before : List Marked) → read_goals deck.symbols (pending + parked) store_words ≡ some before → ValuedFrom deck before (listed ++ left_open)
    carried-values em = carried-says ValuedFrom valued-lasts (each-valued em)

    pub carried-stays : CarriedOn deck_words deck.symbols terms pending parked store_words listed left_open
        → (before : List Marked) → read_goals deck.symbols (pending + parked) store_words ≡ some before → KnownFrom deck before (listed ++ left_open)
    carried-stays = carried-says KnownFrom known-lasts demand-on-known

  module _ (query_words : List ℕ) (r : Report) (exit : Slices) {terms : ℕ} {later left_open : List Marked}
      (rest : CarriedOn deck_words deck.symbols terms r.pending r.parked exit.store later left_open) where
    pub query-carried : (d : Demand3 deck_words query_words r exit) → Covered deck d.query d.listed (later ++ left_open)
    query-carried d I sat choice many =
        let f = after-fresh CoveredFrom covered-lasts demand-on Covered query_words r exit d rest in
        Iff.trans (d.covered I (subst (Satisfies I) (sym f.0) sat) choice many) (f.1 I sat choice)

    pub query-carried-values : ExcludedMiddle → (d : Said Valued deck_words query_words r exit) → Valued deck d.query d.listed (later ++ left_open)
    query-carried-values em d I sat choice many =
        let f = after-fresh ValuedFrom valued-lasts (each-valued em) Valued query_words r exit d rest in
        let a = d.covered I (subst (Satisfies3 I) (sym f.0) sat) choice many in
        let b = f.1 I sat choice in
        (Iff.trans a.0 b.0, Iff.trans a.1 b.1)

    pub query-carried-stays : (d : Said Known deck_words query_words r exit) → Known deck d.query d.listed (later ++ left_open)
    query-carried-stays d I sat choice many =
        let f = after-fresh KnownFrom known-lasts demand-on-known Known query_words r exit d rest in
        let a = d.covered I (subst (Satisfies3 I) (sym f.0) sat) choice many in
        let b = f.1 I sat choice in
        (λ h. b.0 (a.0 h), λ h. b.1 (a.1 h))
