-- The public run put together: which refusal it returns, and an accepted run from what level 0 left.
use Prim.Native.Nat.{ℕ, ◌-◌, ◌≤◌, ◌<◌}
use mathlib.Core.Path.{◌≡◌, refl, sym, ◌∙◌, ap, subst}
use mathlib.Core.Bool.{Bool, true, false, ◌&&◌, and-eq-true_iff}
use mathlib.Core.List.{List, [], ◌∷◌, ◌++◌}
use native.Mathlib.Omega.{arith}
use lib.ListN.{length, drop}
use lib.Dec.{leb}
use borrow.Author.Tests.{le-leb, lt-leb, leb-true}
use Rattle.rules.specs.Syntax.{Literal, Deck}
use Rattle.rules.specs.Refusals.{Refusal, bad_store, bad_scratch, Checked, refused, accepted, and_then, require, checked_number}
use Rattle.rules.specs.Decks.{open_deck, read_query, symbol_words}
use Rattle.rules.specs.Loose.{check_tight_query}
use Rattle.rules.specs.Goals.{unmarked, write_goals, words_of, first_goal}
use Rattle.rules.specs.Evaluation as rules
use Rattle.rules.specs.Evaluation.{Outcome, evaluate, evaluate_level, zeroth, outcome, stop_of, stopped}
use Rattle.rules.specs.Rights.{check_rights}
use Rattle.rules.specs.Run.{run_from, run, check_sizes, report, returned, answers_after, store_start, Slices, Leaves, Gives}
use Rattle.rules.proofs.GoalLaws.{goals-length, unmarked-words}
use Rattle.rules.proofs.DeckLaws.{steps-open, query-reads}
use Rattle.deck.specs.declared.Refusal as declared
use Rattle.std.specs.Prelude.{Ok, Err}
use Rattle.std.specs.Ordering.{nat_cmp, is_le}
use Rattle.std.proofs.lemmas.Bool.Decides.{nat_tests}
use Rattle.deck.specs.Answers.{number_of, refusal_for}
use Rattle.deck.proofs.RefusalLaws.{refused-number, number-accepts, number-refuses}
use Rattle.report.specs.Reports.{stop_of as stop_of'}
use Rattle.report.specs.declared.Report.{Report}
use Rattle.top_level.specs.Top.{Queries, opening, TopLevelEnds, of_report}
use Rattle.rules.specs.Goals.{Marked}
use Rattle.rules.specs.Syntax.{Goal}
use Rattle.evaluation.specs.Results.{check_fresh, result_of, slices}

-- CHECKS ONE AFTER THE OTHER
module _ {A B : Type 0} where
  pub passes : (c : Checked A) (next : A → Checked B) (b : B) → and_then c next ≡ accepted b → (a : A) × (c ≡ accepted a) × (next a ≡ accepted b)
  unfolding and_then
  passes (refused n) next b e = absurd (let z : ◌≡◌ {A = ℕ} 0 1 = cc in omega arith)
  passes (accepted a) next b e = (a, refl, e)

required : (n : Refusal) (b : Bool) (u : Unit {0}) → require n b ≡ accepted u → b ≡ true
unfolding require
required n true u e = refl
required n false u e = absurd (let z : ◌≡◌ {A = ℕ} 0 1 = cc in omega arith)

-- Of two checks, where the first refuses and where it does not.
then-refused : {A B : Type 0} (c : Checked A) (next : A → Checked B) (why : declared.Refusal) → number_of (Err why) ≡ checked_number c → number_of (Err why) ≡ checked_number (and_then c next)
unfolding and_then
then-refused (refused n) next why e = e
then-refused (accepted a) next why e = absurd (refused-number why e)

then_accepted : {A B : Type 0} (c : Checked A) (a : A) (next : A → Checked B) → c ≡ accepted a → and_then c next ≡ next a
unfolding and_then
then_accepted c a next e = rw e refl

-- A check gives its number, whatever it lets through.
last-number : {A B : Type 0} (c : Checked A) (b : B) → checked_number c ≡ checked_number (and_then c (λ _. accepted b))
unfolding and_then
last-number (refused n) b = refl
last-number (accepted a) b = refl

-- The test of a range of numbers.
pub is_le-leb : (a b : ℕ) → is_le (nat_cmp a b) ≡ leb a b
is_le-leb a b = grind (arith, nat_tests)

-- The sizes that are refused, and those that are let through.
module _ (store_size scratch_size : ℕ) where
  abbrev within_store : Bool
  within_store = leb 1024 store_size && leb store_size 65535

  pub store-refused : within_store ≡ false → 8 ≡ checked_number (check_sizes store_size scratch_size)
  unfolding check_sizes and_then require
  store-refused e = rw e

  pub scratch-small : within_store ≡ true → scratch_size < 8192 → 9 ≡ checked_number (check_sizes store_size scratch_size)
  unfolding check_sizes and_then require
  scratch-small e h = rw (e, lt-leb 8192 scratch_size h)

  pub sizes-fit : within_store ≡ true → 8192 ≤ scratch_size → 0 ≡ checked_number (check_sizes store_size scratch_size)
  unfolding check_sizes and_then require
  sizes-fit e h = rw (e, le-leb 8192 scratch_size h)

  -- What sizes that are let through are.
  pub sizes-are : (u : Unit {0}) → check_sizes store_size scratch_size ≡ accepted u → (1024 ≤ store_size) × (store_size ≤ 65535) × (8192 ≤ scratch_size)
  unfolding check_sizes
  sizes-are u e =
      let s = passes (require bad_store (leb 1024 store_size && leb store_size 65535)) _ u e in
      let b = (and-eq-true_iff (leb 1024 store_size) (leb store_size 65535)).0 (required bad_store (leb 1024 store_size && leb store_size 65535) s.0 s.1) in
      (leb-true 1024 store_size b.0, leb-true store_size 65535 b.1, leb-true 8192 scratch_size (required bad_scratch (leb 8192 scratch_size) u s.2))

-- THE CHECKS of a fresh run over an opened deck, one after the other.
module _ (d : Deck) (query_words : List ℕ) (store_size scratch_size : ℕ) where
  abbrev checks : Checked (List Literal)
  checks = check_fresh d query_words store_size scratch_size

  pub query-refused : (why : declared.Refusal) → number_of (Err why) ≡ checked_number (read_query d query_words) → number_of (Err why) ≡ checked_number checks
  unfolding check_fresh
  query-refused = then-refused (read_query d query_words) _

  module _ (q : List Literal) (asks : read_query d query_words ≡ accepted q) where
    pub sizes-refused : (why : declared.Refusal) → number_of (Err why) ≡ checked_number (check_sizes store_size scratch_size) → number_of (Err why) ≡ checked_number checks
    unfolding check_fresh and_then
    sizes-refused why e = rw asks (then-refused (check_sizes store_size scratch_size) _ why e)

    pub looseness-left : (u : Unit {0}) → check_sizes store_size scratch_size ≡ accepted u → checked_number (check_tight_query d q) ≡ checked_number checks
    unfolding check_fresh and_then
    looseness-left u s = rw (asks, s) (last-number (check_tight_query d q) q)

  -- What all of them let through.
  pub record Fresh : Type 0 where
    pub query : List Literal
    pub asks : read_query d query_words ≡ accepted query
    pub passes_all : checks ≡ accepted query
    pub least : 1024 ≤ store_size
    pub most : store_size ≤ 65535
    pub scratch : 8192 ≤ scratch_size

  pub fresh-passes : 0 ≡ checked_number checks → Fresh
  unfolding check_fresh
  fresh-passes z =
      let r = number-accepts checks z in
      let q = passes (read_query d query_words) _ r.0 r.1 in
      let s = passes (check_sizes store_size scratch_size) _ r.0 q.2 in
      let t = passes (check_tight_query d q.0) _ r.0 s.2 in
      let sizes = sizes-are store_size scratch_size s.0 s.1 in
      record {
        query = q.0;
        asks = q.1;
        passes_all = r.1 ∙ sym t.2;
        least = sizes.0;
        most = sizes.1;
        scratch = sizes.2;
      }

  pub asked-query : (deck_words : List ℕ) → open_deck deck_words ≡ accepted d → (f : Fresh) → Queries (symbol_words deck_words) query_words d.symbols f.query
  asked-query deck_words opens f =
      let q = query-reads d query_words f.query f.asks in
      record { symbols = (steps-open deck_words d opens).symbols; well_formed = q.1; are = q.0 }

-- A MEMBER'S RIGHTS, the last checks of every run.
module _ (d : Deck) (bars : List ℕ) (gs : List Goal) (ms : List Marked) (total answer_room store_size : ℕ) where
  pub from-refused : (why : declared.Refusal) → number_of (Err why) ≡ checked_number (check_rights d bars (unmarked gs ++ ms))
      → run_from d bars gs ms total answer_room store_size ≡ refused (refusal_for why)
  unfolding run_from and_then
  from-refused why e = let r = number-refuses why (check_rights d bars (unmarked gs ++ ms)) e in rw r

  pub from-accepted : 0 ≡ checked_number (check_rights d bars (unmarked gs ++ ms))
      → run_from d bars gs ms total answer_room store_size ≡ accepted (evaluate d answer_room store_size gs ms total)
  unfolding run_from and_then
  from-accepted e = let r = number-accepts (check_rights d bars (unmarked gs ++ ms)) e in rw r.1

-- A fresh run is refused with the deck;
module _ (deck_words query_words bars : List ℕ) (total answer_room store_size scratch_size : ℕ) where
  abbrev whole : Checked Outcome
  whole = run deck_words query_words bars total answer_room store_size scratch_size

  pub deck-refused : (why : declared.Refusal) → number_of (Err why) ≡ checked_number (open_deck deck_words) → whole ≡ refused (refusal_for why)
  unfolding run and_then
  deck-refused why e = let r = number-refuses why (open_deck deck_words) e in rw r refl

  -- and over one that opens it is its other checks, and then the run from the first goal.
  module _ (d : Deck) (opens : open_deck deck_words ≡ accepted d) where
    abbrev next_of : List Literal → Checked Outcome
    next_of q = run_from d bars (first_goal q ∷ []) [] total answer_room store_size

    run-then : whole ≡ and_then (check_fresh d query_words store_size scratch_size) next_of
    unfolding run check_fresh and_then
    run-then = rw opens (query (read_query d query_words))
      where
        tight : (t : Checked (Unit {0})) (q : List Literal) → and_then t (λ _. next_of q) ≡ and_then (and_then t (λ _. accepted q)) next_of
        tight (refused n) q = refl
        tight (accepted u) q = refl

        size : (s : Checked (Unit {0})) (q : List Literal)
            → and_then s (λ _. and_then (check_tight_query d q) (λ _. next_of q)) ≡ and_then (and_then s (λ _. and_then (check_tight_query d q) (λ _. accepted q))) next_of
        size (refused n) q = refl
        size (accepted u) q = tight (check_tight_query d q) q

        query : (c : Checked (List Literal))
            → and_then c (λ q. and_then (check_sizes store_size scratch_size) (λ _. and_then (check_tight_query d q) (λ _. next_of q)))
            ≡ and_then (and_then c (λ q. and_then (check_sizes store_size scratch_size) (λ _. and_then (check_tight_query d q) (λ _. accepted q)))) next_of
        query (refused n) = refl
        query (accepted q) = size (check_sizes store_size scratch_size) q

    pub run-refused : (why : declared.Refusal) → number_of (Err why) ≡ checked_number (check_fresh d query_words store_size scratch_size) → whole ≡ refused (refusal_for why)
    unfolding and_then
    run-refused why e = let r = number-refuses why (check_fresh d query_words store_size scratch_size) e in run-then ∙ rw r

    pub run-next : (f : Fresh d query_words store_size scratch_size) → whole ≡ run_from d bars (first_goal f.query ∷ []) [] total answer_room store_size
    unfolding and_then
    run-next f = let r = f.passes_all in run-then ∙ rw r

-- A RUN, refused and accepted: fresh, or carrying on.
pub gives-refused : (c : Checked Outcome) (s : Slices) (why : declared.Refusal) → c ≡ refused (refusal_for why) → Gives c s (result_of (Err why)) s
unfolding returned Leaves
gives-refused c s why r = record { returns = sym (ap returned r); leaves = subst (λ (x : Checked Outcome). Leaves x s s) (sym r) refl }

-- What level 0's run leaves, from the goals gs pending and ms parked, in a store of so many words.
abbrev pub RunTops : Deck → ℕ → List ℕ → List Goal → List Marked → ℕ → List ℕ → List ℕ → Report → Type 0
RunTops d store_size answers gs ms total answers' store' r =
    TopLevelEnds (evaluate_level d.clauses (length answers) store_size 32 zeroth (opening gs ms) (rules.opening total)) (stopped (stop_of' r.stop)) answers total answers' store' (of_report r)

-- It asks of the store at its start only how long it is.
pub topped-as : (d : Deck) (gs : List Goal) (ms : List Marked) (r : Report) {n m total : ℕ} {answers answers' store' : List ℕ} → n ≡ m
    → RunTops d n answers gs ms total answers' store' r → RunTops d m answers gs ms total answers' store' r
topped-as d gs ms r {total = total} {answers} {answers'} {store'} e t = subst (λ (k : ℕ). RunTops d k answers gs ms total answers' store' r) e t

module _ (d : Deck) (gs : List Goal) (ms : List Marked) (total : ℕ) (answers store scratch answers' store' scratch' : List ℕ) (r : Report) where
  pub gives-accepted : (c : Checked Outcome) → c ≡ accepted (evaluate d (length answers) (length store) gs ms total)
      → length store' ≡ length store → length scratch' ≡ length scratch → RunTops d (length store) answers gs ms total answers' store' r
      → Gives c (slices answers store scratch) (result_of (Ok r)) (slices answers' store' scratch')
  unfolding evaluate outcome stop_of returned report Leaves answers_after store_start
  gives-accepted c e same rest t =
      let l = t.level in
      let o : Outcome = record { stop = stop_of' r.stop; steps = t.account.steps; cost = total - t.account.left; answers = l.answers; pending = l.pending; parked = l.parked } in
      let is : c ≡ accepted o =
      e ∙ ap accepted (ap (outcome total) t.ends) in
      let n : length (write_goals (unmarked l.answers)) ≡ words_of l.answers = goals-length (unmarked l.answers) ∙ unmarked-words l.answers in
      record {
        returns =
            (λ i. accepted (record { stop = stop_of' r.stop; steps = t.steps i; cost = t.cost i; answers = t.answered i; pending = t.ordered.pending i; parked = t.ordered.parked i }))
            ∙ ap returned (sym is);
        leaves = subst (λ (x : Checked Outcome). Leaves x (slices answers store scratch) (slices answers' store' scratch')) (sym is)
            (record {
              answers = t.listed ∙ ap (λ (k : ℕ). write_goals (unmarked l.answers) ++ drop k answers) (sym n);
              store = t.ordered.begins;
              store_length = same;
              scratch_length = rest;
            });
      }
