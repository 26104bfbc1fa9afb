-- The checks and the result of the public runs as the rules': a refusal, or the report.
use Rattle.std.specs.Prelude.{ℕ, ◌≡◌, List, ◌++◌, Result, Ok, Err}
use Rattle.rules.specs.Refusals as rules
use Rattle.rules.specs.Refusals.{and_then as ◌>>=◌}
use Rattle.rules.specs.Run as run
use Rattle.rules.specs.Syntax.{Symbol, Literal, Deck, Goal}
use Rattle.rules.specs.Goals.{Marked, unmarked}
use Rattle.rules.specs.Stored.{OpenGoals, read_open}
use Rattle.rules.specs.Decks.{read_query}
use Rattle.rules.specs.Loose.{check_tight, check_tight_query}
use Rattle.rules.specs.Rights.{check_rights}
use Rattle.report.specs.Reports.{report_of}
use Rattle.deck.specs.Answers.{refusal_for}
use Rattle.top_level.specs.Top.{Stored, opening, InOrder}
use Rattle.top_level.specs.declared.Start.{Start}
use Rattle.evaluation.specs.declared.carry.Open.{Open}
use Rattle.deck.specs.declared.Refusal.{Refusal}
use Rattle.report.specs.declared.Report.{Report}

-- Refusals 6 to 9 over an opened deck, of the query and of the sizes, then 13 and 14, loose variables; or the query.
unfoldable pub check_fresh : Deck → List ℕ → ℕ → ℕ → rules.Checked (List Literal)
check_fresh deck query_words store_size scratch_size = do
  query ← read_query deck query_words
  _ ← run.check_sizes store_size scratch_size
  _ ← check_tight_query deck query
  rules.accepted query

-- Refusal 12, open goals that are not as they must be, then 13, a loose variable in a clause.
unfoldable pub check_goals : Deck → ℕ → ℕ → ℕ → List ℕ → rules.Checked OpenGoals
check_goals deck pending parked terms store =
    rules.and_then (rules.obtain rules.bad_goals (read_open deck.symbols pending parked terms store)) (λ goals. rules.and_then (check_tight deck) (λ _. rules.accepted goals))

-- The result of a run.
abbrev pub result_of : Result Report Refusal → rules.Checked run.Report
result_of (Ok r) = rules.accepted (report_of r)
result_of (Err why) = rules.refused (refusal_for why)

-- What checks 12 and 13 come to: a refusal, or the open goals in order, the pending ones up to the first place and all of them up to the second.
abbrev pub OpenAs : List Symbol → rules.Checked OpenGoals → List ℕ → Result (ℕ × ℕ) Refusal → Type 0
OpenAs S c store (Ok p) = (o : OpenGoals) × (c ≡ rules.accepted o) × InOrder S store p.0 p.1 o.pending o.parked
OpenAs S c store (Err why) = c ≡ rules.refused (refusal_for why)

-- What the checks of open goals come to.
abbrev pub CarriedAs : rules.Checked run.Carried → List ℕ → Result (ℕ × ℕ) Refusal → Type 0
CarriedAs c store (Ok p) =
    (x : run.Carried) × (c ≡ rules.accepted x) × InOrder x.deck.symbols store p.0 p.1 x.goals.pending x.goals.parked
CarriedAs c store (Err why) = c ≡ rules.refused (refusal_for why)

-- Last come 15 and 16, of the member's list and all the open goals. So a run that carries on and a press go on from the same goals, or are both refused.
unfoldable pub admitted : rules.Checked run.Carried → List ℕ → rules.Checked run.Carried
admitted carried bars = do
  c ← carried
  _ ← check_rights c.deck bars (unmarked c.goals.pending ++ c.goals.parked)
  rules.accepted c

abbrev pub places : Result Open Refusal → Result (ℕ × ℕ) Refusal
places (Ok o) = Ok ((o.held, o.end))
places (Err why) = Err why

-- The goals stored in order, as a run holds them.
pub record Resumed (store : List ℕ) (middle end total : ℕ) (store' : List ℕ) (start : Start) : Type 0 where
  pub budget : start.budget ≡ total
  pub stored : (S : List Symbol) (gs : List Goal) (ms : List Marked) → InOrder S store middle end gs ms → Stored S store' start.parts.parked start.parts.held (opening gs ms)

abbrev pub slices : List ℕ → List ℕ → List ℕ → run.Slices
slices answers store scratch = record { answers = answers; store = store; scratch = scratch }
