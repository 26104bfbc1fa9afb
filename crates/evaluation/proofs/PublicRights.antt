-- What the contracts of `run`, `carry_on` and `press_display` say to a member whose list bars predicates (document 02, U9). Of whatever words are passed over two decks with the
-- same symbols, which open and have no loose variables, and with the same clauses in the same order about each predicate that is not barred and that the
-- query or the open goals reach: as long as both calls meet what the contract ensures (its reading `Post`), the member gets the same.
use Prim.Native.Nat.{ℕ}
use mathlib.Core.Path.{◌≡◌, refl, sym, ◌∙◌, ap}
use mathlib.Core.Bool.{true}
use mathlib.Core.Option.{some}
use mathlib.Core.List.{List, ◌++◌}
use native.Mathlib.Omega.{arith}
use lib.ListN.{length, take, drop}
use lib.Seq.{take_at}
use contract.Lifetimes.{Lfts}
use denote.Triple.Clauses.{AtExit}
use borrow.Fn.World.{ArgsD}
use Rattle.rules.specs.Syntax.{Literal, Deck}
use Rattle.rules.specs.Refusals.{Checked, refused, accepted}
use Rattle.rules.specs.Decks.{open_deck, read_query}
use Rattle.rules.specs.Goals.{unmarked, write_goals}
use Rattle.rules.specs.Loose.{tight_clauses}
use Rattle.rules.specs.Rights.{literals_of, SameClauses}
use Rattle.rules.specs.Stored.{OpenGoals, read_open}
use Rattle.rules.specs.Evaluation.{Outcome}
use Rattle.rules.specs.Run as rules
use Rattle.rules.specs.Run.{report, returned, answers_after, store_start, Slices, Leaves, Gives, run_on, carry_from}
use Rattle.rules.specs.Press.{Pressed, PressLeaves}
use Rattle.rules.proofs.ClosedSites.{run-same, carry_same}
use Rattle.rules.proofs.ClosedRuns.{SameSizes, pressed-same}
use Rattle.deck.specs.declared.Refusal.{Refusal}
use Rattle.report.specs.declared.Report.{Report}
use Rattle.report.specs.declared.Advance.{Advance}
use Rattle.std.specs.Prelude.{Result}
use Rattle.evaluation.specs.Results.{result_of}
use Rattle.evaluation.specs.Displays.{advanced_of}
use Rattle.evaluation.specs.contracts.run as fresh
use Rattle.evaluation.specs.contracts.carry.carry_on as carrying
use Rattle.evaluation.specs.contracts.press.press_display as pressing
use Rattle.evaluation.proofs.run.Reads as fresh-reads
use Rattle.evaluation.proofs.carry.carry_on.Reads as carrying-reads
use Rattle.evaluation.proofs.press.press_display.Reads as pressing-reads
use Rattle.evaluation.proofs.PublicRun.{left_in}
use Rattle.evaluation.proofs.PublicCarry.{lent_on, left_on}
use Rattle.evaluation.proofs.PublicPress.{lent_press, left_press, shown_before, shown_after}

-- Both answer lists begin with the same answers, and both stores with the same open goals.
pub record SameWords (exit other : Slices) (r : rules.Report) : Type 0 where
  pub outcome : Outcome
  pub reports : report outcome ≡ r
  pub answers : take (length (write_goals (unmarked outcome.answers))) exit.answers ≡ write_goals (unmarked outcome.answers)
  pub other_answers : take (length (write_goals (unmarked outcome.answers))) other.answers ≡ write_goals (unmarked outcome.answers)
  pub goals : take (length (store_start outcome)) exit.store ≡ store_start outcome
  pub other_goals : take (length (store_start outcome)) other.store ≡ store_start outcome

-- The same refusal, or the same report and the same words.
pub record SameGot (result other_result : Checked rules.Report) (exit other : Slices) : Type 0 where
  pub result_same : other_result ≡ result
  pub words : (r : rules.Report) → result ≡ accepted r → SameWords exit other r

pub gives-same : (c : Checked Outcome) (entry entry' exit exit' : Slices) (r r' : Checked rules.Report) → Gives c entry r exit → Gives c entry' r' exit' → SameGot r r' exit exit'
unfolding returned Leaves answers_after
gives-same (refused n) entry entry' exit exit' r r' g g' = record {
  result_same = g'.returns ∙ sym g.returns;
  words = λ x e. absurd (let z : ◌≡◌ {A = Checked rules.Report} (refused n) (accepted x) = sym g.returns ∙ e in let y : ◌≡◌ {A = ℕ} 0 1 = cc in omega arith);
}
gives-same (accepted o) entry entry' exit exit' r r' g g' =
    let ws = write_goals (unmarked o.answers) in
    record {
      result_same = g'.returns ∙ sym g.returns;
      words = λ x e. record {
        outcome = o;
        reports = (let z : ◌≡◌ {A = Checked rules.Report} (accepted (report o)) (accepted x) = sym g.returns ∙ e in cc);
        answers = ap (take (length ws)) g.leaves.answers ∙ take_at ws (drop (length ws) entry.answers) (length ws) refl;
        other_answers = ap (take (length ws)) g'.leaves.answers ∙ take_at ws (drop (length ws) entry'.answers) (length ws) refl;
        goals = g.leaves.store;
        other_goals = g'.leaves.store;
      };
    }

-- A FRESH RUN over each of the decks, with the same query, list, budget and buffer sizes.
module _ (κs λs : Lfts 6) (entry : ArgsD fresh.signature κs) (other : ArgsD fresh.signature λs) (exit : AtExit fresh.ended κs) (other_exit : AtExit fresh.ended λs)
    (result other_result : Result Report Refusal) (post : fresh-reads.Post κs entry result exit) (other_post : fresh-reads.Post λs other other_result other_exit) where
  pub public-run-same : (d e : Deck) → open_deck entry.0.now ≡ accepted d → open_deck other.0.now ≡ accepted e → tight_clauses d.clauses ≡ true → tight_clauses e.clauses ≡ true
      → d.symbols ≡ e.symbols → other.1.0.now ≡ entry.1.0.now → other.1.1.0.now ≡ entry.1.1.0.now → other.1.1.1.0 ≡ entry.1.1.1.0
      → length other.1.1.1.1.0.now ≡ length entry.1.1.1.1.0.now → length other.1.1.1.1.1.0.now ≡ length entry.1.1.1.1.1.0.now → length other.1.1.1.1.1.1.0.now ≡ length entry.1.1.1.1.1.1.0.now
      → ((query : List Literal) → read_query d entry.1.0.now ≡ accepted query → SameClauses d.clauses e.clauses entry.1.1.0.now query)
      → SameGot (result_of result) (result_of other_result) (left_in κs exit) (left_in λs other_exit)
  unfolding run_on
  public-run-same d e o p t u s query bars budget answers store scratch h =
      let q = run-same entry.0.now other.0.now entry.1.0.now entry.1.1.0.now d e o p t u s h entry.1.1.1.0 (length entry.1.1.1.1.0.now) (length entry.1.1.1.1.1.0.now) (length entry.1.1.1.1.1.1.0.now) in
      gives-same _ _ _ (left_in κs exit) (left_in λs other_exit) (result_of result) (result_of other_result) post (rw (query, bars, budget, answers, store, scratch, ← q) at other_post)

-- A RUN THAT CARRIES ON over each of them, from stores of one size that begin with the same open goals.
module _ (κs λs : Lfts 5) (entry : ArgsD carrying.signature κs) (other : ArgsD carrying.signature λs) (exit : AtExit carrying.ended κs) (other_exit : AtExit carrying.ended λs)
    (result other_result : Result Report Refusal) (post : carrying-reads.Post κs entry result exit) (other_post : carrying-reads.Post λs other other_result other_exit) where
  pub public-on-same : (d e : Deck) → open_deck entry.0.now ≡ accepted d → open_deck other.0.now ≡ accepted e → tight_clauses d.clauses ≡ true → tight_clauses e.clauses ≡ true
      → d.symbols ≡ e.symbols → other.1.0 ≡ entry.1.0 → other.1.1.0 ≡ entry.1.1.0 → other.1.1.1.0 ≡ entry.1.1.1.0 → other.1.1.1.1.0.now ≡ entry.1.1.1.1.0.now → other.1.1.1.1.1.0 ≡ entry.1.1.1.1.1.0
      → length (lent_on λs other).answers ≡ length (lent_on κs entry).answers → length (lent_on λs other).store ≡ length (lent_on κs entry).store
      → length (lent_on λs other).scratch ≡ length (lent_on κs entry).scratch
      → read_open d.symbols entry.1.0 entry.1.1.0 entry.1.1.1.0 (lent_on λs other).store ≡ read_open d.symbols entry.1.0 entry.1.1.0 entry.1.1.1.0 (lent_on κs entry).store
      → ((g : OpenGoals) → read_open d.symbols entry.1.0 entry.1.1.0 entry.1.1.1.0 (lent_on κs entry).store ≡ some g
      → SameClauses d.clauses e.clauses entry.1.1.1.1.0.now (literals_of (unmarked g.pending ++ g.parked)))
      → SameGot (result_of result) (result_of other_result) (left_on κs exit) (left_on λs other_exit)
  unfolding carry_from
  public-on-same d e o p t u s pending parked terms bars budget answers store scratch goals h =
      let q = carry_same entry.0.now other.0.now entry.1.1.1.1.0.now entry.1.0 entry.1.1.0 entry.1.1.1.0 (lent_on κs entry).store (lent_on λs other).store (length (lent_on κs entry).scratch)
      d e o p t u s store goals h entry.1.1.1.1.1.0 (length (lent_on κs entry).answers) in
      gives-same _ _ _ (left_on κs exit) (left_on λs other_exit) (result_of result) (result_of other_result) post
      (rw (pending, parked, terms, bars, budget, answers, scratch, ← q) at other_post)

-- A PRESS over each of them, with the same record, from stores of one size that begin with the same open goals: both say the same and show the same,
-- and leave what one press, or one refusal, says.
module _ (κs λs : Lfts 6) (entry : ArgsD pressing.signature κs) (other : ArgsD pressing.signature λs) (exit : AtExit pressing.ended κs) (other_exit : AtExit pressing.ended λs)
    (result other_result : Result Advance Refusal) (post : pressing-reads.Post κs entry result exit) (other_post : pressing-reads.Post λs other other_result other_exit) where
  pub public-press-same : (d e : Deck) → open_deck entry.0.now ≡ accepted d → open_deck other.0.now ≡ accepted e → tight_clauses d.clauses ≡ true → tight_clauses e.clauses ≡ true
      → d.symbols ≡ e.symbols → other.1.0 ≡ entry.1.0 → other.1.1.0.now ≡ entry.1.1.0.now → other.1.1.1.0 ≡ entry.1.1.1.0 → shown_before λs other ≡ shown_before κs entry
      → SameSizes (lent_press κs entry) (lent_press λs other)
      → let shown = shown_before κs entry in
      read_open d.symbols shown.pending shown.parked entry.1.0 (lent_press λs other).store ≡ read_open d.symbols shown.pending shown.parked entry.1.0 (lent_press κs entry).store
      → ((g : OpenGoals) → read_open d.symbols shown.pending shown.parked entry.1.0 (lent_press κs entry).store ≡ some g
      → SameClauses d.clauses e.clauses entry.1.1.0.now (literals_of (unmarked g.pending ++ g.parked)))
      → (advanced_of other_result ≡ advanced_of result) × (shown_after λs other_exit ≡ shown_after κs exit)
      × (c : Checked Pressed) × PressLeaves c (lent_press κs entry) (left_press κs exit) × PressLeaves c (lent_press λs other) (left_press λs other_exit)
  public-press-same d e o p t u s terms bars budget shown sizes goals h =
      pressed-same entry.0.now other.0.now entry.1.1.0.now d e o p t u s entry.1.0 entry.1.1.1.0 (shown_before κs entry) (lent_press κs entry) (lent_press λs other) sizes (goals, h)
      (left_press κs exit) (left_press λs other_exit) (advanced_of result) (advanced_of other_result) (shown_after κs exit) (shown_after λs other_exit) post
      (rw (terms, bars, budget, shown) at other_post)
