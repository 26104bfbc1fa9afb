-- What the call answers: the refusals in their order, and the mean.
use Prim.Native.Nat.{ℕ, ◌≤◌, ◌<◌}
use mathlib.Core.Path.{◌≡◌, refl, sym, ◌∙◌, ap}
use mathlib.Core.Bool.{Bool, true, false, ◌&&◌, and-eq-true_iff}
use mathlib.Core.Option.{Option, none, some}
use mathlib.Core.List.{List}
use native.Mathlib.Omega.{arith}
use lib.Dec.{leb, ltb}
use lib.IntN.{ℤ}
use borrow.Author.Tests.{leb-true, ltb-true, le-leb, lt-ltb}
use Rattle.std.proofs.Common.{Ok, Err, Some, None}
use Rattle.rules.specs.Syntax.{Deck, Goal}
use Rattle.rules.specs.Column as rules
use Rattle.rules.specs.Refusals.{Checked, checked_number, refused, accepted, and_then, require, obtain}
use Rattle.rules.specs.Decks.{open_deck}
use Rattle.rules.specs.Column.{read_answers, column_words, total, mean, column}
use Rattle.deck.proofs.RefusalLaws.{number-refuses}
use Rattle.deck.specs.Answers.{number_of, found, refusal_for}
use Rattle.deck.specs.declared.Refusal.{Refusal}
use Rattle.deck.specs.declared.Refusal.TheVariants as code
use Rattle.means.specs.declared.Mean.{Mean}
use Rattle.means.specs.Means.{as_mean}
use Rattle.column.specs.Entries.{Summed}
use Rattle.column.specs.Results.{Answers}

module _ (ws list : List ℕ) (n terms place : ℕ) where
  pub refused-deck : (why : Refusal) → open_deck ws ≡ refused (refusal_for why) → Answers (column ws list n terms place) (Err why)
  unfolding column and_then
  refused-deck why e = rw e refl

  module _ (d : Deck) (opens : open_deck ws ≡ accepted d) where
    -- 17: the counts,
    pub refused-counts : (1 ≤ n → n ≤ 65535 → place < terms → ⊥) → Answers (column ws list n terms place) (Err code.Answers)
    unfolding column and_then require
    refused-counts h = go (leb 1 n && leb n 65535 && ltb place terms) refl
      where
        go : (b : Bool) → (leb 1 n && leb n 65535 && ltb place terms) ≡ b → Answers (column ws list n terms place) (Err code.Answers)
        go true e =
            let t = (and-eq-true_iff (leb 1 n && leb n 65535) (ltb place terms)).0 e in
            let b = (and-eq-true_iff (leb 1 n) (leb n 65535)).0 t.0 in
            absurd (h (leb-true 1 n b.0) (leb-true n 65535 b.1) (ltb-true place terms t.1))
        go false e = rw (opens, e) refl

    module _ (least : 1 ≤ n) (most : n ≤ 65535) (inside : place < terms) where
      -- and the answers.
      pub refused-list : found (read_answers d.symbols n terms list) ≡ false → Answers (column ws list n terms place) (Err code.Answers)
      unfolding column and_then require obtain found
      refused-list e = go (read_answers d.symbols n terms list) refl e
        where
          go : (o : Option (List Goal)) → read_answers d.symbols n terms list ≡ o → found o ≡ false → Answers (column ws list n terms place) (Err code.Answers)
          go none q e = rw (opens, le-leb 1 n least, le-leb n 65535 most, lt-ltb place terms inside, q) refl
          go (some gs) q e = absurd (let z : ◌≡◌ {A = ℕ} 0 1 = cc in omega arith)

      module _ (gs : List Goal) (reads : read_answers d.symbols n terms list ≡ some gs) where
        -- 18, and the mean.
        pub refused-entry : Summed (column_words d.format place gs) None → Answers (column ws list n terms place) (Err code.NotNumber)
        unfolding column and_then require obtain
        refused-entry s = go (column_words d.format place gs) refl s
          where
            go : (o : Option (List ℕ)) → column_words d.format place gs ≡ o → Summed o None → Answers (column ws list n terms place) (Err code.NotNumber)
            go none q s = rw (opens, le-leb 1 n least, le-leb n 65535 most, lt-ltb place terms inside, reads, q) refl
            go (some us) q s = absurd (let z : ◌≡◌ {A = ℕ} 0 1 = cc in omega arith)

        pub has-mean : (sum : ℤ) (m : Mean) → Summed (column_words d.format place gs) (Some sum) → as_mean m ≡ mean n sum → Answers (column ws list n terms place) (Ok m)
        unfolding column and_then require obtain
        has-mean sum m s e = go (column_words d.format place gs) refl s
          where
            go : (o : Option (List ℕ)) → column_words d.format place gs ≡ o → Summed o (Some sum) → Answers (column ws list n terms place) (Ok m)
            go none q s = absurd (let z : ◌≡◌ {A = ℕ} 0 1 = cc in omega arith)
            go (some us) q s = let same : sum ≡ total us = cc in rw (opens, le-leb 1 n least, le-leb n 65535 most, lt-ltb place terms inside, reads, q) (e ∙ ap (mean n) same)

-- What was found is there.
pub is-found : (o : Option (List Goal)) → found o ≡ true → (gs : List Goal) × (o ≡ some gs)
unfolding found
is-found none e = absurd (let z : ◌≡◌ {A = ℕ} 0 1 = cc in omega arith)
is-found (some gs) e = (gs, refl)

pub answered : (c : Checked rules.Mean) (m : Mean) → Answers c (Ok m) → c ≡ accepted (as_mean m)
answered (refused n) m a = absurd a
answered (accepted x) m a = ap accepted (sym a)

pub turned_down : (c : Checked rules.Mean) (why : Refusal) → Answers c (Err why) → c ≡ refused (refusal_for why)
turned_down c why a = number-refuses why c (as_number c a)
  where
    as_number : (c : Checked rules.Mean) → Answers c (Err why) → number_of (Err why) ≡ checked_number c
    as_number (refused n) a = a
    as_number (accepted m) a = absurd a
