-- A preview put together: what opening the copy refuses, and the run over a copy that opens.
use Prim.Native.Nat.{ℕ}
use mathlib.Core.Path.{◌≡◌, sym, subst}
use mathlib.Core.List.{List}
use lib.ListN.{length}
use Rattle.std.specs.Prelude.{Err}
use Rattle.rules.specs.Refusals.{Checked, refused, checked_number}
use Rattle.rules.specs.Evaluation.{Outcome}
use Rattle.rules.specs.Run.{Report, Slices, Gives, run_on, Ran}
use Rattle.rules.specs.Preview.{lengthened, open_copy, preview_on, Previewed}
use Rattle.rules.proofs.PreviewRuns as rules
use Rattle.rules.proofs.PreviewRuns.{preview-opens}
use Rattle.deck.specs.declared.Refusal as declared
use Rattle.deck.specs.Answers.{number_of, refusal_for}
use Rattle.deck.proofs.RefusalLaws.{number-accepts, number-refuses}

module _ (deck_words clause_words query_words bars : List ℕ) (budget : ℕ) (entry : Slices) where
  -- A run on the copy is refused with the copy.
  pub copy-refused : (why : declared.Refusal) → number_of (Err why) ≡ checked_number (open_copy deck_words clause_words)
      → preview_on deck_words clause_words query_words bars budget entry ≡ refused (refusal_for why)
  unfolding preview_on
  copy-refused why e =
      rules.copy-refused deck_words clause_words query_words bars budget (length entry.answers) (length entry.store) (length entry.scratch) (refusal_for why)
      (number-refuses why (open_copy deck_words clause_words) e)

  pub copy-ran : (result : Checked Report) (exit : Slices) → 0 ≡ checked_number (open_copy deck_words clause_words)
      → Ran (lengthened deck_words clause_words) query_words bars budget entry result exit → Previewed deck_words clause_words query_words bars budget entry result exit
  unfolding preview_on run_on
  copy-ran result exit e ran =
      let o = number-accepts (open_copy deck_words clause_words) e in
      let same = (preview-opens deck_words clause_words query_words bars budget (length entry.answers) (length entry.store) (length entry.scratch) o.0 o.1).1 in
      subst (λ (c : Checked Outcome). Gives c entry result exit) (sym same) ran
