-- What a preview says (document 02, U11): an accepted one is a run on the lengthened copy. So all that is shown of runs holds of it, with the copy
-- as the deck, which is the deck with the clause at its end.
use Prim.Native.Nat.{ℕ}
use mathlib.Core.Path.{◌≡◌, refl, ap, sym, ◌∙◌}
use mathlib.Core.Bool.{true}
use mathlib.Core.List.{List}
use lib.ListN.{length}
use Rattle.rules.specs.Syntax.{Literal, Clause, Deck}
use Rattle.rules.specs.Refusals.{Refusal, Checked, refused, accepted, and_then}
use Rattle.rules.specs.Decks.{open_deck, read_query}
use Rattle.rules.specs.Loose.{tight_clauses}
use Rattle.rules.specs.Rights.{SameClauses}
use Rattle.rules.specs.Run.{run, Report, returned, Slices, run_on, Ran}
use Rattle.rules.specs.Preview.{lengthened, open_copy, preview, preview_on, Previewed, with_clause}
use Rattle.rules.proofs.DeckLaws.{refused-accepted}
use Rattle.rules.proofs.Demand3.{passed}
use Rattle.rules.proofs.ClosedSites.{run-same}
use Rattle.rules.proofs.CopyLaws.{Addable, copy-accepted}

-- A deck that is refused is refused with the same number in a preview; over one that opens a preview is a run on the copy.
module _ (deck_words clause_words query_words bars : List ℕ) (budget : ℕ) (entry : Slices) where
  pub preview-refused : (n : Refusal) → open_deck deck_words ≡ refused n → preview_on deck_words clause_words query_words bars budget entry ≡ refused n
  unfolding preview_on preview and_then
  preview-refused n e = rw e refl

  pub preview-runs : (d : Deck) → open_deck deck_words ≡ accepted d
      → preview_on deck_words clause_words query_words bars budget entry ≡ run_on (lengthened deck_words clause_words) query_words bars budget entry
  unfolding preview_on preview run_on and_then
  preview-runs d e = rw e refl

  -- So an accepted preview is an accepted run,
  pub preview-ran : (exit : Slices) (r : Report) → Previewed deck_words clause_words query_words bars budget entry (accepted r) exit
      → Ran (lengthened deck_words clause_words) query_words bars budget entry (accepted r) exit
  unfolding returned
  preview-ran exit r p = go (open_deck deck_words) refl
    where
      go : (o : Checked Deck) → open_deck deck_words ≡ o → Ran (lengthened deck_words clause_words) query_words bars budget entry (accepted r) exit
      go (refused n) e = absurd (refused-accepted (sym (ap returned (preview-refused n e)) ∙ sym p.returns))
      go (accepted d) e = rw (preview-runs d e) at p

-- and the deck that any statement of such a run speaks of is the deck with the clause at its end.
pub preview-deck : (deck_words clause_words : List ℕ) (d d' : Deck) → open_deck deck_words ≡ accepted d → open_deck (lengthened deck_words clause_words) ≡ accepted d'
    → (c : Clause) × Addable (length deck_words) d clause_words c × (d' ≡ with_clause d c)
preview-deck deck_words clause_words d d' e o = (copy-accepted deck_words d clause_words e).1 d' o

-- A preview is refused with the copy;
then-refused : {A B C : Type 0} (o : Checked A) (p : Checked B) (next : B → Checked C) (n : Refusal) → and_then o (λ _. p) ≡ refused n → and_then o (λ _. and_then p next) ≡ refused n
unfolding and_then
then-refused (refused m) p next n e = ap refused (let q : m ≡ n = cc in q)
then-refused (accepted a) (refused m) next n e = ap refused (let q : m ≡ n = cc in q)
then-refused (accepted a) (accepted b) next n e = absurd (refused-accepted (sym e))

pub copy-refused : (deck_words clause_words query_words bars : List ℕ) (budget answer_room store_size scratch_size : ℕ) (n : Refusal)
    → open_copy deck_words clause_words ≡ refused n → preview deck_words clause_words query_words bars budget answer_room store_size scratch_size ≡ refused n
unfolding preview open_copy run
copy-refused deck_words clause_words query_words bars budget answer_room store_size scratch_size n e =
    then-refused (open_deck deck_words) (open_deck (lengthened deck_words clause_words)) _ n e

-- and over a copy that opens it is the run there.
pub preview-opens : (deck_words clause_words query_words bars : List ℕ) (budget answer_room store_size scratch_size : ℕ) (d' : Deck)
    → open_copy deck_words clause_words ≡ accepted d'
    → (open_deck (lengthened deck_words clause_words) ≡ accepted d')
    × (preview deck_words clause_words query_words bars budget answer_room store_size scratch_size
    ≡ run (lengthened deck_words clause_words) query_words bars budget answer_room store_size scratch_size)
unfolding open_copy preview and_then
preview-opens deck_words clause_words query_words bars budget answer_room store_size scratch_size d' e =
    let p = passed (open_deck deck_words) _ e in
    (p.2, rw p.1 refl)

-- CLOSED SITES: over two decks whose copies have the same symbols, no loose variables and the same clauses for all that the query reaches and the
-- member's list does not bar, previews come to the same.
pub preview-same :
    (deck_words clause_words other_words other_clause query_words bars : List ℕ) (d e : Deck) → open_copy deck_words clause_words ≡ accepted d
    → open_copy other_words other_clause ≡ accepted e → tight_clauses d.clauses ≡ true → tight_clauses e.clauses ≡ true → d.symbols ≡ e.symbols
    → ((query : List Literal) → read_query d query_words ≡ accepted query → SameClauses d.clauses e.clauses bars query)
    → (budget answer_room store_size scratch_size : ℕ)
    → preview deck_words clause_words query_words bars budget answer_room store_size scratch_size
    ≡ preview other_words other_clause query_words bars budget answer_room store_size scratch_size
preview-same deck_words clause_words other_words other_clause query_words bars d e p q t u s h budget answer_room store_size scratch_size =
    let one = preview-opens deck_words clause_words query_words bars budget answer_room store_size scratch_size d p in
    let other = preview-opens other_words other_clause query_words bars budget answer_room store_size scratch_size e q in
    one.1
    ∙ run-same (lengthened deck_words clause_words) (lengthened other_words other_clause) query_words bars d e one.0 other.0 t u s h budget answer_room store_size scratch_size
    ∙ sym other.1
