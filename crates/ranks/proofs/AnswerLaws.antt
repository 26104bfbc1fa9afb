-- What the call answers. Assumes nothing.
use Prim.Native.Nat.{ℕ, ◌≤◌}
use mathlib.Core.Path.{◌≡◌, refl, sym, ◌∙◌, ap, ap₂, subst}
use mathlib.Core.List.{List, ◌++◌, append-nil}
use native.Mathlib.Omega.{arith}
use native.Mathlib.Decide.{dec_lt}
use lib.ListN.{length, replicate, length-replicate, get_or-replicate, take-append-drop, drop_of_length-le}
use lib.Seq.{take_all}
use Rattle.rules.specs.Syntax.{Deck}
use Rattle.rules.specs.Refusals.{refused, accepted}
use Rattle.rules.specs.Decks.{open_deck}
use Rattle.rules.specs.Ranks.{Least, ranks, circular, turned_down, told, Levelled}
use Rattle.rules.specs.Ranks as spec
use Rattle.rules.proofs.RankTelling.{levels-same, levels-length}
use Rattle.deck.specs.declared.Refusal.{Refusal}
use Rattle.deck.specs.Answers.{refusal_for}
use Rattle.std.proofs.Common.{Result, Ok, Err, Option, Some, None}
use Rattle.ranks.specs.Raising.{at, Zero}
use Rattle.ranks.specs.Answers.{answered, written, Answers}
use Rattle.ranks.specs.Searching.{Named}
use Rattle.ranks.proofs.RaiseLaws.{words-numbers, past_end}

pub zero-at : (n p : ℕ) → at (replicate n 0) p ≡ 0
zero-at n p = elim (dec_lt p n) [
  | yes h ↦ get_or-replicate {A = ℕ} n p 0 0 h
  | no k ↦ past_end (replicate n 0) p (omega (arith, length-replicate {A = ℕ} n 0))
]

pub zero-words : (n : ℕ) → n ≡ 4096 → Zero (replicate n 0)
zero-words n e = (length-replicate {A = ℕ} n 0 ∙ e, zero-at n)

-- A REFUSAL leaves the list as it was.
written_over : (old : List ℕ) → written old old ≡ old
written_over old = take-append-drop (length old) old

pub refused-call : (deck_words old : List ℕ) (why : Refusal) → open_deck deck_words ≡ refused (refusal_for why) → Answers deck_words (Err why) old old
refused-call deck_words old why e = record { numbers = old; levelled = turned_down e; list = sym (written_over old) }

pub untouched : (deck_words old new : List ℕ) (why : Refusal) → Answers deck_words (Err why) old new → new ≡ old
untouched deck_words old new why h = h.list ∙ ap (λ ns. written ns old) (same-list h.levelled) ∙ written_over old
  where
    same-list : {ns : List ℕ} → Levelled deck_words old (refused (refusal_for why)) ns → ns ≡ old
    same-list (turned_down e) = refl

-- A DECK THAT OPENS
module _ (deck_words : List ℕ) (d : Deck) (e : open_deck deck_words ≡ accepted d) (old new : List ℕ) where
  pub ranked : (ws : List ℕ) → length ws ≡ 4096 → Least d.clauses (at ws) → new ≡ written ws old → Answers deck_words (Ok None) old new
  ranked ws n h l = record {
    numbers = spec.numbers (ranks (at ws)) 4096;
    levelled = told (ranks (at ws)) e h;
    list = l ∙ ap (λ (w : List ℕ). written w old) (words-numbers (ranks (at ws)) ws n (λ i. refl));
  }

  pub unranked : (o : Option ℕ) → Named d.clauses o → (s : ℕ) × spec.Circular d.clauses s → new ≡ written (replicate 4096 0) old → Answers deck_words (Ok o) old new
  unranked None h c l = absurd (h c.0 c.1)
  unranked (Some p) h c l =
      let z = zero-words 4096 refl in
      record {
        numbers = spec.numbers (circular p) 4096;
        levelled = told (circular p) e h;
        list = l ∙ ap (λ (w : List ℕ). written w old) (words-numbers (circular p) (replicate 4096 0) z.0 z.1);
      }

-- THE ANSWER IS DETERMINED, and so is every word of the list.
pub answers-same : (deck_words : List ℕ) (r s : Result (Option ℕ) Refusal) (old new other : List ℕ) → Answers deck_words r old new → Answers deck_words s old other
    → (answered r ≡ answered s) × (new ≡ other)
answers-same deck_words r s old new other h k =
    let e = levels-same h.levelled k.levelled in
    (e.0, h.list ∙ ap (λ (ns : List ℕ). written ns old) e.1 ∙ sym k.list)

-- A list of 4,096 words has just the numbers.
pub exact : (deck_words : List ℕ) (r : Result (Option ℕ) Refusal) (old new : List ℕ) → length old ≡ 4096 → Answers deck_words r old new → Levelled deck_words old (answered r) new
exact deck_words r old new n h =
    let size : length h.numbers ≡ 4096 = levels-length n h.levelled in
    let same : written h.numbers old ≡ h.numbers =
    ap₂ ◌++◌ (take_all (length old) h.numbers (omega arith)) (drop_of_length-le old (let g : length old ≤ length h.numbers = omega arith in g)) ∙ append-nil h.numbers in
    subst (Levelled deck_words old (answered r)) (sym (h.list ∙ same)) h.levelled
