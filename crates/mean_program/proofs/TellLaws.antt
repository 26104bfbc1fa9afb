-- What a run and a column's mean come to, and how large the numbers are.
use Prim.Native.Nat.{ℕ, suc, ◌≤◌, ◌<◌}
use mathlib.Core.Path.{◌≡◌, sym, ◌∙◌, ap, ap₂}
use mathlib.Core.Option.{none}
use mathlib.Core.List.{List, [], ◌∷◌}
use native.Mathlib.Omega.{arith}
use lib.ListN.{length, get_or, replicate}
use lib.IntN.{ℤ, pos, negsuc}
use Rattle.std.proofs.Math.Nat.{div-le_self}
use Rattle.std.specs.Int.RustNames.{unsigned_abs}
use Rattle.rules.specs.Syntax.{Literal, Deck}
use Rattle.rules.specs.Refusals.{Refusal, Checked, refused, accepted, and_then}
use Rattle.rules.specs.Decks.{open_deck, check_query}
use Rattle.rules.specs.Goals.{query_variables}
use Rattle.rules.specs.Evaluation.{Outcome}
use Rattle.rules.specs.Run.{run, report, answers_after}
use Rattle.rules.specs.Run as rules
use Rattle.rules.specs.CarryProgram.{Kept, bars_from, open_words}
use Rattle.rules.specs.Column.{Mean, whole_part, column}
use Rattle.rules.proofs.DeckLaws.{refused-accepted, accepted-same}
use Rattle.rules.proofs.ColumnLaws.{column-says}
use Rattle.rules.proofs.MeanLaws.{mean-only}
use Rattle.report.specs.declared.Report.{Report}
use Rattle.column.proofs.SumLaws.{within-short}
use Rattle.column.proofs.BoundLaws.{Words, column-within}
use Rattle.program.specs.Runs.{words_run}
use Rattle.program.proofs.PartLaws.{and_then-refused, and_then-accepted, words-run}
use Rattle.carry_program.specs.Finished.{Finished}
use Rattle.mean_program.specs.MeanProgram.{words_mean}

module _ (deck_words query_words : List ℕ) (place : ℕ) where
  pub mean-unasked : (n : Refusal) → open_words deck_words query_words none 100000 ≡ refused n → words_mean place deck_words query_words ≡ refused n
  unfolding words_mean
  mean-unasked n e = and_then-refused (open_words deck_words query_words none 100000) _ n e

  -- The outcome is that of the program's run.
  kept-outcome : (c : Checked (List Literal)) (o : Outcome) (k : Kept) → and_then c (λ q. accepted (record { outcome = o; terms = length (query_variables q) })) ≡ accepted k → k.outcome ≡ o
  unfolding and_then
  kept-outcome (refused n) o k e = absurd (refused-accepted e)
  kept-outcome (accepted q) o k e = ap (λ (x : Kept). x.outcome) (sym (accepted-same e))

  module _ (d : Deck) (opens : open_deck deck_words ≡ accepted d) (answers store : List ℕ) (r : Report) (terms : ℕ)
      (f : Finished (open_words deck_words query_words none 100000) deck_words terms answers store r)
      (o : Outcome) (runs : words_run deck_words query_words ≡ accepted o) (left : answers ≡ answers_after o (replicate 8192 0)) where
    same : f.outcome ≡ o
    unfolding open_words bars_from
    same = kept-outcome (check_query deck_words query_words) o (record { outcome = f.outcome; terms = terms })
        (sym (and_then-accepted (open_deck deck_words) _ d opens ∙ and_then-accepted (run deck_words query_words (replicate (length d.symbols) 0) 100000 8192 16384 8192) _ o (sym (words-run deck_words query_words d opens) ∙ runs))
        ∙ f.comes)

    number : r.answers ≡ length f.outcome.answers
    unfolding report
    number = ap (λ (x : rules.Report). x.answers) f.shown.reported

    asks : column deck_words answers r.answers terms place ≡ column deck_words (answers_after f.outcome (replicate 8192 0)) (length f.outcome.answers) terms place
    asks = ap₂ (λ list n. column deck_words list n terms place) (left ∙ ap (λ x. answers_after x (replicate 8192 0)) (sym same)) number

    pub mean-refused : (n : Refusal) → column deck_words answers r.answers terms place ≡ refused n → words_mean place deck_words query_words ≡ refused n
    unfolding words_mean
    mean-refused n e = and_then-accepted (open_words deck_words query_words none 100000) _ _ f.comes ∙ and_then-refused (column deck_words (answers_after f.outcome (replicate 8192 0)) (length f.outcome.answers) terms place) _ n (sym asks ∙ e)

    pub mean-done : (m : Mean) → column deck_words answers r.answers terms place ≡ accepted m → words_mean place deck_words query_words ≡ accepted (record { outcome = f.outcome; mean = m })
    unfolding words_mean
    mean-done m e = and_then-accepted (open_words deck_words query_words none 100000) _ _ f.comes ∙ and_then-accepted (column deck_words (answers_after f.outcome (replicate 8192 0)) (length f.outcome.answers) terms place) _ m (sym asks ∙ e)

-- The mean is no larger than the sum.
whole-small : (z : ℤ) (n : ℕ) → unsigned_abs (whole_part z n) ≤ unsigned_abs z
unfolding whole_part
whole-small (pos s) n = div-le_self s n
whole-small (negsuc m) n = omega (arith, div-le_self m n)

pub record Short (n : ℕ) (m : Mean) : Type 0 where
  pub some : 1 ≤ n
  pub few : n < 65536
  pub sum : unsigned_abs m.sum < 4294967296
  pub whole : unsigned_abs m.whole < 4294967296
  pub remainder : m.remainder < 65536

pub mean-short : (deck_words list : List ℕ) (n terms place : ℕ) (m : Mean) → Words deck_words → column deck_words list n terms place ≡ accepted m → Short n m
mean-short deck_words list n terms place m w e =
    let s = column-says deck_words list n terms place m e in
    let least = s.least in
    let most = s.most in
    let below = s.below in
    let z = within-short m.sum n (omega arith) (column-within w s) in
    let whole : m.whole ≡ whole_part m.sum n = (mean-only m.sum n m.whole m.remainder s.divides below).0 in
    record {
      some = least;
      few = omega arith;
      sum = z;
      whole = omega (arith, z, ap unsigned_abs whole, whole-small m.sum n);
      remainder = omega arith;
    }

-- Words of 16 bits, one by one.
pub words-each : (ws : List ℕ) → ((i : ℕ) → get_or ws i 0 < 65536) → Words ws
words-each [] h = tt
words-each (w ∷ ws) h = (h 0, words-each ws (λ i. h (suc i)))
