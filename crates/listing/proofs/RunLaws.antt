-- What an accepted run returns and leaves can be listed: whatever report stands for what it returns, with the deck's symbol words.
use Prim.Native.Nat.{ℕ}
use mathlib.Core.Path.{◌≡◌, refl, sym, subst}
use mathlib.Core.List.{List, [], ◌∷◌}
use lib.ListN.{length, drop}
use Rattle.rules.specs.Refusals.{accepted}
use Rattle.rules.specs.Syntax.{Deck, Goal}
use Rattle.rules.specs.Decks.{symbol_words, open_deck}
use Rattle.rules.specs.Goals.{Marked, unmarked, write_goals, first_goal}
use Rattle.rules.specs.Evaluation.{Outcome, evaluate}
use Rattle.rules.specs.Run.{answers_after}
use Rattle.rules.specs.WellFormed.{All, WfGoal, WfMarked}
use Rattle.rules.specs.Run as run
use Rattle.rules.proofs.DeckLaws.{steps-open, opened-written, query-reads}
use Rattle.rules.proofs.FirstGoal.{first_goal-wf}
use Rattle.rules.proofs.GoalsKept.{evaluate-keeps}
use Rattle.rules.proofs.EndLaws.{Bare, answers-bare}
use Rattle.rules.proofs.Demand3.{run-accepted}
use Rattle.report.specs.Reports.{report_of}
use Rattle.report.specs.declared.Report.{Report}
use Rattle.listing.specs.Shown.{Shown}

-- From any well-formed goals.
pub evaluated-shown :
    (deck_words : List ℕ) (deck : Deck) → open_deck deck_words ≡ accepted deck → (answer_room store_size : ℕ) (gs : List Goal) (ms : List Marked) (budget : ℕ)
    → All (WfGoal deck.symbols) gs → All (WfMarked deck.symbols) ms → (o : Outcome) → o ≡ evaluate deck answer_room store_size gs ms budget
    → (report : Report) → report_of report ≡ run.report o → (entry : List ℕ) → Shown o report (answers_after o entry) (symbol_words deck_words)
unfolding answers_after
evaluated-shown deck_words deck opens answer_room store_size gs ms budget p q o evaluates report same entry =
    let kept = evaluate-keeps deck (opened-written deck_words deck opens).1 answer_room store_size gs ms budget p q in
    record {
      reported = same;
      answers = record {
        symbols = deck.symbols;
        rest = drop (length (write_goals (unmarked o.answers))) entry;
        read = (steps-open deck_words deck opens).symbols;
        written = refl;
        formed = subst (λ (x : Outcome). All (WfGoal deck.symbols) x.answers) (sym evaluates) kept.answers;
        bare = subst (λ (x : Outcome). All Bare x.answers) (sym evaluates) (answers-bare deck answer_room store_size gs ms budget);
      };
    }

pub run-shown :
    (deck_words query_words bars : List ℕ) (budget answer_room store_size scratch_size : ℕ) (o : Outcome)
    → run.run deck_words query_words bars budget answer_room store_size scratch_size ≡ accepted o → (report : Report) → report_of report ≡ run.report o → (entry : List ℕ)
    → Shown o report (answers_after o entry) (symbol_words deck_words)
run-shown deck_words query_words bars budget answer_room store_size scratch_size o e report same entry =
    let a = run-accepted deck_words query_words bars budget answer_room store_size scratch_size o e in
    let q = query-reads a.deck query_words a.query a.asks in
    evaluated-shown deck_words a.deck a.opens answer_room store_size (first_goal a.query ∷ []) [] budget (first_goal-wf a.deck.symbols a.query q.1, tt) tt o a.evaluates report same entry
