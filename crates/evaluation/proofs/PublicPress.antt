-- What the contracts of the presses say, of whatever words are passed and whatever comes back, as long as it meets what the contract ensures (its
-- reading `Post`): of one press the cover statement, in two values and in three, and that the next press or run is let carry on; that a press on a
-- finished query changes nothing; and of every list of presses after a fresh run of budget 0 what request U14 says.
use Prim.Native.Nat.{ℕ, ◌≤◌}
use mathlib.Core.Path.{◌≡◌, refl}
use mathlib.Core.List.{List, ◌∷◌}
use lib.ListN.{length}
use contract.Lifetimes.{Lfts}
use denote.Triple.Clauses.{AtExit}
use borrow.Fn.World.{ArgsD}
use Rattle.rules.specs.Syntax.{Symbol}
use Rattle.rules.specs.Refusals.{accepted}
use Rattle.rules.specs.Goals.{query_variables}
use Rattle.rules.specs.Evaluation.{finished}
use Rattle.rules.specs.Stored.{read_open}
use Rattle.rules.specs.Run.{Slices}
use Rattle.rules.specs.Press as rules
use Rattle.rules.specs.Press.{prevented, displayed, PressedWith}
use Rattle.rules.proofs.Continued.{Lent}
use Rattle.rules.proofs.PressWords.{PressCarries, press-carries, press-unchanged, pressed-spends, PressChain, presses}
use Rattle.rules.proofs.PressedQuery.{display_from, FirstRecord, first-record, QueryPressed, query-presses}
use Rattle.std.specs.Prelude.{Ok}
use Rattle.report.specs.Reports.{report_of, advance_of, counted_of}
use Rattle.report.specs.declared.Report.{Report}
use Rattle.report.specs.declared.Advance.{Advance}
use Rattle.report.specs.declared.Pressed.{Pressed}
use Rattle.evaluation.specs.Results.{slices}
use Rattle.evaluation.specs.Displays.{display_of}
use Rattle.evaluation.specs.contracts.run as fresh
use Rattle.evaluation.proofs.run.Reads as fresh-reads
use Rattle.evaluation.specs.contracts.press.press as plain
use Rattle.evaluation.proofs.press.press.Reads as plain-reads
use Rattle.evaluation.specs.contracts.press.press_display.{signature, ended}
use Rattle.evaluation.proofs.press.press_display.Reads.{Post}
use Rattle.evaluation.proofs.PublicRun.{left_in}
use Rattle.evaluation.proofs.PressLaws.{display-accepted}

-- The words of the slices and the record that were lent, and as the press leaves them.
abbrev pub lent_press : (κs : Lfts 6) → ArgsD signature κs → Slices
lent_press κs entry = slices entry.1.1.1.1.1.0.now entry.1.1.1.1.1.1.0.now entry.1.1.1.1.1.1.1.0.now

abbrev pub left_press : (κs : Lfts 6) → AtExit ended κs → Slices
left_press κs exit = slices exit.1.1.1.1.1.0.now exit.1.1.1.1.1.1.0.now exit.1.1.1.1.1.1.1.0.now

abbrev pub shown_before : (κs : Lfts 6) → ArgsD signature κs → rules.Display
shown_before κs entry = display_of entry.1.1.1.1.0.now

abbrev pub shown_after : (κs : Lfts 6) → AtExit ended κs → rules.Display
shown_after κs exit = display_of exit.1.1.1.1.0.now

module _ (κs : Lfts 6) (entry : ArgsD signature κs) (exit : AtExit ended κs) (a : Advance) (post : Post κs entry (Ok a) exit) where
  -- THE COVER STATEMENT, from the goals before the press to those after it; the next press or run is let carry on, and the same member's is accepted.
  pub public-press-carries : PressCarries entry.0.now entry.1.0 entry.1.1.0.now (lent_press κs entry) (shown_before κs entry) (left_press κs exit) (shown_after κs exit)
  public-press-carries =
      press-carries entry.0.now entry.1.0 entry.1.1.0.now entry.1.1.1.0 (lent_press κs entry) (left_press κs exit) (shown_before κs entry) (shown_after κs exit) (advance_of a) post

  -- A FINISHED QUERY: no word of the slices changes, and no number of the record.
  pub public-unchanged : advance_of a ≡ prevented finished
      → (shown_before κs entry).steps ≤ 18446744073709551615 → (shown_before κs entry).cost ≤ 18446744073709551615 → (shown_before κs entry).answers ≤ 18446744073709551615
      → (left_press κs exit ≡ lent_press κs entry) × (shown_after κs exit ≡ shown_before κs entry)
  public-unchanged =
      press-unchanged entry.0.now entry.1.0 entry.1.1.0.now entry.1.1.1.0 (lent_press κs entry) (left_press κs exit) (shown_before κs entry) (shown_after κs exit) (advance_of a) post

  -- ONE LINK: this press, on a store that begins with the goals of `store_words`, and then the later ones.
  pub public-presses : {symbols : List Symbol} {bs : List Lent} {store_words last : List ℕ} {d : rules.Display}
      → let shown = shown_before κs entry in
      read_open symbols shown.pending shown.parked entry.1.0 (lent_press κs entry).store ≡ read_open symbols shown.pending shown.parked entry.1.0 store_words
      → PressChain entry.0.now symbols entry.1.0 bs (left_press κs exit).store (shown_after κs exit) last d
      → PressChain entry.0.now symbols entry.1.0
      (record { budget = entry.1.1.1.0; answer_room = length (lent_press κs entry).answers; store_size = length (lent_press κs entry).store } ∷ bs) store_words shown last d
  public-presses w rest = presses w post rest

-- THE PRESS ON PLAIN PARAMETERS spends at most its budget, and takes no more steps than that; it lists one answer at most.
module _ (κs : Lfts 5) (entry : ArgsD plain.signature κs) (exit : AtExit plain.ended κs) (p : Pressed) (post : plain-reads.Post κs entry (Ok p) exit) where
  abbrev lent_plain : Slices
  lent_plain = slices entry.1.1.1.1.1.1.0.now entry.1.1.1.1.1.1.1.0.now entry.1.1.1.1.1.1.1.1.0.now

  abbrev left_plain : Slices
  left_plain = slices exit.1.1.1.1.1.1.0.now exit.1.1.1.1.1.1.1.0.now exit.1.1.1.1.1.1.1.1.0.now

  pub public-press-spends : (p.steps ≤ p.cost) × (p.cost ≤ entry.1.1.1.1.1.0) × (p.answers ≤ 1)
  public-press-spends = pressed-spends entry.0.now entry.1.0 entry.1.1.0 entry.1.1.1.0 entry.1.1.1.1.0.now entry.1.1.1.1.1.0 lent_plain left_plain (counted_of p) post

  -- With a record of these goal counts beside it, it is a press with a display: so all that is said above holds of it too.
  pub public-shown : (d : rules.Display) → d.pending ≡ entry.1.0 → d.parked ≡ entry.1.1.0
      → PressedWith entry.0.now entry.1.1.1.0 entry.1.1.1.1.0.now entry.1.1.1.1.1.0 lent_plain d (accepted (advance_of p.advance)) left_plain (displayed d (counted_of p))
  public-shown d e f =
      display-accepted entry.0.now entry.1.1.1.0 entry.1.1.1.1.0.now entry.1.1.1.1.1.0 lent_plain left_plain d p (displayed d (counted_of p)) (rw (e, f) post) refl

-- AFTER A FRESH RUN OF BUDGET 0, whose result is the first record.
module _ (κs : Lfts 6) (entry : ArgsD fresh.signature κs) (exit : AtExit fresh.ended κs) (r : Report) (post : fresh-reads.Post κs entry (Ok r) exit) (zero-budget : entry.1.1.1.0 ≡ 0) where
  abbrev lent_in : Slices
  lent_in = slices entry.1.1.1.1.0.now entry.1.1.1.1.1.0.now entry.1.1.1.1.1.1.0.now

  pub public-first-record : FirstRecord entry.0.now entry.1.0.now (report_of r) (left_in κs exit)
  public-first-record = first-record entry.0.now entry.1.0.now entry.1.1.0.now lent_in (left_in κs exit) (report_of r) (rw zero-budget at post)

  -- EVERY LIST OF PRESSES: the goals are the evaluation's, the counts are the sums, and the query is covered.
  pub public-query-pressed :
      let f = public-first-record in
      (bs : List Lent) (last : List ℕ) (d : rules.Display)
      (chain : PressChain entry.0.now f.deck.symbols (length (query_variables f.query)) bs (left_in κs exit).store (display_from (report_of r)) last d) → QueryPressed f.deck f.query chain
  unfolding public-first-record
  public-query-pressed bs last d chain =
      query-presses entry.0.now entry.1.0.now entry.1.1.0.now lent_in (left_in κs exit) (report_of r) (rw zero-budget at post) bs last d chain
