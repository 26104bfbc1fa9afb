-- Answers whose words stand in the answer list, what is printed of them, and the first two lines of an accepted run's listing.
use Rattle.std.specs.Prelude.{ℕ, ◌≡◌, List, [], ◌∷◌, ◌++◌, length}
use Rattle.std.proofs.Math.Option.{some}
use Rattle.rules.specs.Terms.{Terms, sizes}
use Rattle.rules.specs.Syntax.{Symbol, Goal}
use Rattle.rules.specs.Decks.{read_symbol, read_all}
use Rattle.rules.specs.Goals.{unmarked, write_goals}
use Rattle.rules.specs.Evaluation.{Outcome}
use Rattle.rules.specs.WellFormed.{All, WfGoal}
use Rattle.rules.specs.Listing.{decimal, print_answers, verdict_text, stop_text}
use Rattle.rules.specs.Run as run
use Rattle.report.specs.Reports.{report_of}
use Rattle.report.specs.declared.Report.{Report}
use Rattle.listing.specs.declared.output.Output.{Output}
use Rattle.listing.specs.Put.{Fits, Adds}
use Rattle.listing.specs.Standing.{TermsAt}

-- Terms whose cells are a whole row: room for a text of them, and that this text is what is printed.
module _ (symbol_words row : List ℕ) (text : Terms → List ℕ) where
  abbrev pub RowFits : Output → Type 0
  RowFits out = (ts : Terms) × TermsAt symbol_words row ts × (length row ≡ sizes ts) × Fits out (text ts)

  abbrev pub RowPrinted : Output → Output → Type 0
  RowPrinted out after = (ts : Terms) → TermsAt symbol_words row ts → length row ≡ sizes ts → Adds out (text ts) after

-- The list begins with the words of answers: well-formed goals without literals.
pub record AnswersAt (symbol_words list : List ℕ) (gs : List Goal) : Type 0 where
  pub symbols : List Symbol
  pub rest : List ℕ
  pub read : read_all read_symbol symbol_words ≡ some symbols
  pub written : list ≡ write_goals (unmarked gs) ++ rest
  pub formed : All (WfGoal symbols) gs
  pub bare : All (λ g. g.literals ≡ []) gs

-- The same for so many answers.
module _ (symbol_words list : List ℕ) (number : ℕ) where
  abbrev pub AnswersFit : Output → Type 0
  AnswersFit out = (gs : List Goal) × AnswersAt symbol_words list gs × (length gs ≡ number) × Fits out (print_answers gs)

  abbrev pub AnswersPrinted : Output → Output → Type 0
  AnswersPrinted out after = (gs : List Goal) → AnswersAt symbol_words list gs → length gs ≡ number → Adds out (print_answers gs) after

-- Numbers with a space in front of each, and the line's end.
abbrev pub numbers_text : List ℕ → List ℕ
numbers_text [] = 10 ∷ []
numbers_text (n ∷ ns) = 32 ∷ decimal n (numbers_text ns)

-- The second line's numbers, and the first two lines of a listing.
abbrev pub counts_text : ℕ → ℕ → ℕ → ℕ → ℕ → List ℕ
counts_text steps answers pending parked cost = numbers_text (steps ∷ answers ∷ pending ∷ parked ∷ cost ∷ [])

abbrev pub head_text : Outcome → List ℕ
head_text o =
    verdict_text o.stop o.parked o.answers
    ++ (10 ∷ (stop_text o.stop ++ counts_text o.steps (length o.answers) (length o.pending) (length o.parked) o.cost))

-- The report and the answer list are what a run of this outcome returns and leaves.
pub record Shown (o : Outcome) (report : Report) (list symbol_words : List ℕ) : Type 0 where
  pub reported : report_of report ≡ run.report o
  pub answers : AnswersAt symbol_words list o.answers
