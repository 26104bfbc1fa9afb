-- What the program's preview comes to, test by test, and what the preview on the program's buffers returns and leaves.
use Prim.Native.Nat.{ℕ, ◌≤◌}
use mathlib.Core.Path.{◌≡◌, refl, sym, ◌∙◌, subst}
use mathlib.Core.Bool.{Bool, true, false, ◌&&◌}
use mathlib.Core.Option.{Option, none, some}
use mathlib.Core.List.{List, []}
use native.Mathlib.Omega.{arith}
use borrow.Author.Tests.{le-leb}
use lib.Dec.{leb}
use lib.ListN.{length, take}
use Rattle.std.proofs.lemmas.List.{length-take}
use Rattle.rules.specs.Syntax.{Deck}
use Rattle.rules.specs.Refusals.{Refusal, Checked, refused, accepted, and_then}
use Rattle.rules.specs.Decks.{open_deck}
use Rattle.rules.specs.Evaluation.{Outcome}
use Rattle.rules.specs.Run.{run, Report, report, answers_after, Slices, Filled, Leaves}
use Rattle.rules.specs.Preview.{lengthened, open_copy, preview, preview_on, Previewed}
use Rattle.rules.specs.Program.{words_from, even, query_input}
use Rattle.rules.specs.CarryProgram.{deck_input, bars_from}
use Rattle.rules.specs.PreviewProgram.{clause_from, preview_words, preview_run}
use Rattle.program.proofs.PartLaws.{Buffers, and_then-refused, and_then-accepted, returned-refused, returned-accepted}

-- THE CLAUSE'S BYTES.
abbrev pub clause_size : List ℕ → Bool
clause_size bytes = even bytes && (leb 0 (length bytes) && leb (length bytes) 32768)

same_size : (bytes : List ℕ) → clause_size (take 32768 bytes) ≡ even (take 32768 bytes)
same_size bytes =
    let few : length (take 32768 bytes) ≤ 32768 = omega (arith, length-take 32768 bytes) in
    rw (le-leb 0 (length (take 32768 bytes)) (omega arith), le-leb (length (take 32768 bytes)) 32768 few) (alone (even (take 32768 bytes)))
  where
    alone : (b : Bool) → (b && (true && true)) ≡ b
    alone true = refl
    alone false = refl

pub no-clause : ◌≡◌ {A = List ℕ} [] (clause_from none)
unfolding clause_from
no-clause = refl

pub clause-unfit : (bytes : List ℕ) → clause_size (take 32768 bytes) ≡ false → ◌≡◌ {A = List ℕ} [] (clause_from (some bytes))
unfolding clause_from
clause-unfit bytes e = rw (clause_from, sym (same_size bytes) ∙ e)

pub clause-fit : (bytes : List ℕ) → clause_size (take 32768 bytes) ≡ true → words_from (take 32768 bytes) ≡ clause_from (some bytes)
unfolding clause_from
clause-fit bytes e = rw (clause_from, sym (same_size bytes) ∙ e)

-- THE CHECKS, one after the other.
module _ (file clause : Option (List ℕ)) (input : List ℕ) (bars : Option (List ℕ)) where
  pub preview-deck : (n : Refusal) → deck_input file ≡ refused n → preview_run file clause input bars ≡ refused n
  unfolding preview_run
  preview-deck n e = and_then-refused (deck_input file) _ n e

  module _ (deck_words : List ℕ) (d : deck_input file ≡ accepted deck_words) where
    pub preview-copy : (n : Refusal) → open_copy deck_words (clause_from clause) ≡ refused n → preview_run file clause input bars ≡ refused n
    unfolding preview_run
    preview-copy n e = and_then-accepted (deck_input file) _ deck_words d ∙ and_then-refused (open_copy deck_words (clause_from clause)) _ n e

    module _ (copy : Deck) (o : open_copy deck_words (clause_from clause) ≡ accepted copy) where
      pub preview-query : (n : Refusal) → query_input input ≡ refused n → preview_run file clause input bars ≡ refused n
      unfolding preview_run
      preview-query n e =
          and_then-accepted (deck_input file) _ deck_words d ∙ and_then-accepted (open_copy deck_words (clause_from clause)) _ copy o ∙ and_then-refused (query_input input) _ n e

      pub preview-listed : (query_words : List ℕ) → query_input input ≡ accepted query_words
          → preview_run file clause input bars ≡ preview_words deck_words (clause_from clause) query_words bars
      unfolding preview_run
      preview-listed query_words e =
          and_then-accepted (deck_input file) _ deck_words d
          ∙ and_then-accepted (open_copy deck_words (clause_from clause)) _ copy o
          ∙ and_then-accepted (query_input input) _ query_words e

-- A deck that is refused, whatever is asked.
pub deck-refused : (deck_words clause_words query_words : List ℕ) (bars : Option (List ℕ)) (n : Refusal) → open_deck deck_words ≡ refused n
    → preview_words deck_words clause_words query_words bars ≡ refused n
unfolding preview_words and_then
deck-refused deck_words clause_words query_words bars n e = rw e

-- THE PREVIEW on the program's buffers.
module _ (deck_words clause_words query_words list : List ℕ) (bars : Option (List ℕ)) (d : Deck) (o : open_deck deck_words ≡ accepted d)
    (listed : list ≡ bars_from (length d.symbols) bars) (entry exit : Slices) (b : Buffers entry) where
  same-preview : preview_words deck_words clause_words query_words bars ≡ preview_on deck_words clause_words query_words list 100000 entry
  unfolding preview_words preview_on and_then
  same-preview = rw (o, listed, b.answers, b.store, b.scratch)

  pub preview-refused : (n : Refusal) → Previewed deck_words clause_words query_words list 100000 entry (refused n) exit
      → preview_words deck_words clause_words query_words bars ≡ refused n
  preview-refused n r = same-preview ∙ returned-refused _ n r.returns

  pub preview-done : (r : Report) → Previewed deck_words clause_words query_words list 100000 entry (accepted r) exit
      → (x : Outcome) × (preview_words deck_words clause_words query_words bars ≡ accepted x) × (r ≡ report x) × (exit.answers ≡ answers_after x entry.answers)
      × (run (lengthened deck_words clause_words) query_words list 100000 8192 16384 8192 ≡ accepted x)
  unfolding Leaves preview_on preview and_then
  preview-done r p =
      let t = returned-accepted _ r p.returns in
      let left : Filled t.0 entry exit = subst (λ (x : Checked Outcome). Leaves x entry exit) t.1 p.leaves in
      let same : run (lengthened deck_words clause_words) query_words list 100000 8192 16384 8192 ≡ preview_on deck_words clause_words query_words list 100000 entry =
      rw (o, b.answers, b.store, b.scratch) refl in
      (t.0, same-preview ∙ t.1, t.2, left.answers, same ∙ t.1)
