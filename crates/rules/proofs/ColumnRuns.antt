-- The answers that a run lists pass check 17 (document 02, U10), with the returned number of answers and the number of answer terms: those of a
-- fresh run and of one that carries on. So on them a column is refused only with 18.
use Prim.Native.Nat.{ℕ, ◌≤◌, ◌<◌}
use mathlib.Core.Path.{◌≡◌, refl, sym, subst}
use mathlib.Core.List.{List, [], ◌∷◌}
use mathlib.Core.Option.{some}
use lib.ListN.{length}
use borrow.Author.Tests.{le-leb, lt-ltb}
use Rattle.rules.specs.Syntax.{Literal, Deck, Goal}
use Rattle.rules.specs.Refusals.{not_number, Checked, refused, accepted, and_then, require, obtain}
use Rattle.rules.specs.Decks.{open_deck, read_query}
use Rattle.rules.specs.Goals.{Marked, query_variables, first_goal}
use Rattle.rules.specs.WellFormed.{All}
use Rattle.rules.specs.Evaluation.{Outcome, evaluate}
use Rattle.rules.specs.Run.{Report, report, returned, answers_after, Slices, Filled, Leaves, run_on, Ran, RanOn}
use Rattle.rules.specs.Column.{read_answers, column_words, total, mean, column}
use Rattle.rules.proofs.ListLaws.{all-weaken, all_both}
use Rattle.rules.proofs.EndLaws.{Bare, answers-bare}
use Rattle.rules.proofs.DeckLaws.{refused-accepted, opened-written, query-reads}
use Rattle.rules.proofs.FirstGoal.{first_goal-wf}
use Rattle.rules.proofs.Demand3.{run-accepted}
use Rattle.rules.proofs.StoredLaws.{Fits, ParkedFits, open-reads, listed-fit}
use Rattle.rules.proofs.Carried.{accepted-on, variables-count}
use Rattle.rules.proofs.ColumnLaws.{Answer, read-answers}

-- The answers at the start of the answer list, of a run on a deck that opens, are read with the returned number.
pub record Listed (deck_words : List ℕ) (terms : ℕ) (r : Report) (exit : Slices) : Type 0 where
  pub deck : Deck
  pub answers : List Goal
  pub opens : open_deck deck_words ≡ accepted deck
  pub reads : read_answers deck.symbols r.answers terms exit.answers ≡ some answers

module _ (deck_words : List ℕ) (terms budget : ℕ) (entry exit : Slices) (deck : Deck) (opens : open_deck deck_words ≡ accepted deck) (gs : List Goal) (ms : List Marked)
    (p : All (Fits deck.symbols terms) gs) (q : All (ParkedFits deck.symbols terms) ms) (o : Outcome)
    (is : o ≡ evaluate deck (length entry.answers) (length entry.store) gs ms budget) (left : Filled o entry exit) where
  all-answers : All (Answer deck.symbols terms) o.answers
  all-answers =
      let outcome : Outcome = evaluate deck (length entry.answers) (length entry.store) gs ms budget in
      let fit = listed-fit deck (opened-written deck_words deck opens).1 terms gs ms p q (length entry.answers) (length entry.store) budget in
      let bare = answers-bare deck (length entry.answers) (length entry.store) gs ms budget in
      subst (λ (x : Outcome). All (Answer deck.symbols terms) x.answers) (sym is)
      (all-weaken (λ g. Fits deck.symbols terms g × Bare g) (Answer deck.symbols terms) (λ g h. record { fits = h.0; plain = h.1 }) outcome.answers
      (all_both (Fits deck.symbols terms) Bare outcome.answers fit bare))

  lists : Listed deck_words terms (report o) exit
  unfolding report answers_after
  lists =
      record {
        deck = deck;
        answers = o.answers;
        opens = opens;
        reads = subst (λ ws. read_answers deck.symbols (length o.answers) terms ws ≡ some o.answers) (sym left.answers) (read-answers deck.symbols terms o.answers _ all-answers);
      }

-- A fresh run: its answers have as many terms as the query has variables.
pub run-answers :
    (deck_words query_words bars : List ℕ) (budget : ℕ) (entry exit : Slices) (r : Report) → Ran deck_words query_words bars budget entry (accepted r) exit
    → (deck : Deck) × (query : List Literal) × (open_deck deck_words ≡ accepted deck) × (read_query deck query_words ≡ accepted query)
    × Listed deck_words (length (query_variables query)) r exit
unfolding Leaves returned run_on first_goal
run-answers deck_words query_words bars budget entry exit r ran = go (run_on deck_words query_words bars budget entry) refl ran.returns ran.leaves
  where
    go : (c : Checked Outcome) → run_on deck_words query_words bars budget entry ≡ c → accepted r ≡ returned c → Leaves c entry exit
        → (deck : Deck) × (query : List Literal) × (open_deck deck_words ≡ accepted deck) × (read_query deck query_words ≡ accepted query)
        × Listed deck_words (length (query_variables query)) r exit
    go (refused n) e back left = absurd (refused-accepted (sym back))
    go (accepted o) e back left =
        let a = run-accepted deck_words query_words bars budget (length entry.answers) (length entry.store) (length entry.scratch) o e in
        let terms : ℕ = length (query_variables a.query) in
        let first : Fits a.deck.symbols terms (first_goal a.query) = record {
          wf = first_goal-wf a.deck.symbols a.query (query-reads a.deck query_words a.query a.asks).1;
          many = variables-count (query_variables a.query);
        } in
        let same : report o ≡ r = cc in (
          a.deck,
          a.query,
          a.opens,
          a.asks,
          subst (λ (x : Report). Listed deck_words terms x exit) same
              (lists deck_words terms budget entry exit a.deck a.opens (first_goal a.query ∷ []) [] (first, tt) tt o a.evaluates left),
        )

-- A run that carries on, from goals of so many answer terms.
pub on-answers :
    (deck_words : List ℕ) (pending parked terms : ℕ) (bars : List ℕ) (budget : ℕ) (entry exit : Slices) (r : Report) → RanOn deck_words pending parked terms bars budget entry (accepted r) exit
    → Listed deck_words terms r exit
on-answers deck_words pending parked terms bars budget entry exit r ran =
    accepted-on deck_words pending parked terms bars budget entry exit r ran (λ x. Listed deck_words terms x exit) (λ o a left.
    let before = open-reads a.deck.symbols pending parked terms entry.store a.goals a.carries in
    lists deck_words terms budget entry exit a.deck a.opens a.goals.pending a.goals.parked before.pending before.parked o a.evaluates left)

-- A column of them is refused only with 18.
pub run-column :
    (deck_words : List ℕ) (terms : ℕ) (r : Report) (exit : Slices) (l : Listed deck_words terms r exit) (place : ℕ) → 1 ≤ r.answers → r.answers ≤ 65535 → place < terms
    → column deck_words exit.answers r.answers terms place
    ≡ and_then (obtain not_number (column_words l.deck.format place l.answers)) (λ words. accepted (mean r.answers (total words)))
unfolding column and_then require obtain
run-column deck_words terms r exit l place least most inside =
    rw (l.opens, le-leb 1 r.answers least, le-leb r.answers 65535 most, lt-ltb place terms inside, l.reads) refl
