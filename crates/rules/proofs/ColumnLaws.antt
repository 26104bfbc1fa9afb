-- The column of an answer list (document 02, U10): what check 17 lets through, and what an accepted column says.
use Prim.Native.Nat.{ℕ, suc, ◌≤◌, ◌<◌}
use mathlib.Core.Path.{◌≡◌, refl, ap, sym, ◌∙◌, subst}
use mathlib.Core.Bool.{Bool, true, false, ◌&&◌, and-eq-true_iff}
use mathlib.Core.Option.{Option, none, some, none-ne-some, some-injective}
use mathlib.Core.List.{List, [], ◌∷◌, ◌++◌, append-nil}
use native.Mathlib.Omega.{arith}
use lib.ListN.{length}
use lib.Dec.{leb, ltb}
use lib.IntN.{pos, ◌+ℤ◌, ◌*ℤ◌}
use borrow.Author.Tests.{leb-true, ltb-true}
use Rattle.rules.specs.Syntax.{Symbol, Literal, Deck, Goal}
use Rattle.rules.specs.Refusals.{bad_answers, not_number, Checked, refused, accepted, and_then}
use Rattle.rules.specs.Decks.{read_all, open_deck}
use Rattle.rules.specs.Goals.{Marked, unmarked, write_goals}
use Rattle.rules.specs.Stored.{every, OpenGoals, read_open}
use Rattle.rules.specs.Column.{bare, only_answers, read_answers, column_words, total, Mean, mean, column}
use Rattle.rules.specs.WellFormed.{All}
use Rattle.rules.proofs.ListLaws.{all-weaken}
use Rattle.rules.proofs.SymbolLaws.{both, read_next_lem}
use Rattle.rules.proofs.StoredLaws.{Fits, OpenReads, open-reads, read-open}
use Rattle.rules.proofs.DeckLaws.{refused-accepted, accepted-same, required, obtained}
use Rattle.rules.proofs.MeanLaws.{mean-is}

-- A well-formed answer of so many terms.
pub record Answer (S : List Symbol) (terms : ℕ) (g : Goal) : Type 0 where
  pub fits : Fits S terms g
  pub plain : g.literals ≡ []

bare-none : (ls : List Literal) → bare ls ≡ true → ls ≡ []
unfolding bare
bare-none [] e = refl
bare-none (l ∷ ls) e = absurd (let z : ◌≡◌ {A = ℕ} 0 1 = cc in omega arith)

all-plain : (S : List Symbol) (terms : ℕ) (gs : List Goal) → All (Fits S terms) gs → every (λ g. bare g.literals) gs ≡ true → All (Answer S terms) gs
unfolding every
all-plain S terms [] h e = tt
all-plain S terms (g ∷ gs) h e =
    let t = (and-eq-true_iff (bare g.literals) (every (λ (x : Goal). bare x.literals) gs)).0 e in
    (record { fits = h.0; plain = bare-none g.literals t.0 }, all-plain S terms gs h.1 t.1)

plain-bare : (S : List Symbol) (terms : ℕ) (gs : List Goal) → All (Answer S terms) gs → every (λ g. bare g.literals) gs ≡ true
unfolding every bare
plain-bare S terms [] h = refl
plain-bare S terms (g ∷ gs) h = both (bare g.literals) (every (λ (x : Goal). bare x.literals) gs) (ap bare h.0.plain) (plain-bare S terms gs h.1)

-- What 17 lets through: the list begins with that many answers, written.
pub record AnswersRead (S : List Symbol) (n terms : ℕ) (ws : List ℕ) (gs : List Goal) : Type 0 where
  pub rest : List ℕ
  pub written : ws ≡ write_goals (unmarked gs) ++ rest
  pub many : length gs ≡ n
  pub answers : All (Answer S terms) gs

pub none-parked : (o : OpenGoals) → length o.parked ≡ 0 → unmarked o.pending ++ o.parked ≡ unmarked o.pending
none-parked o e = go o.parked e
  where
    go : (ms : List Marked) → length ms ≡ 0 → unmarked o.pending ++ ms ≡ unmarked o.pending
    go [] h = append-nil (unmarked o.pending)
    go (m ∷ ms) h = absurd (omega (arith, h))

pub answers-read : (S : List Symbol) (n terms : ℕ) (ws : List ℕ) (gs : List Goal) → read_answers S n terms ws ≡ some gs → AnswersRead S n terms ws gs
unfolding read_answers only_answers
answers-read S n terms ws gs e = go (read_open S n 0 terms ws) refl e
  where
    tested : (o : OpenGoals) → OpenReads S n 0 terms ws o → (b : Bool) → every (λ g. bare g.literals) o.pending ≡ b
        → (elim b as (λ _. Option (List Goal)) [ true ↦ some o.pending | false ↦ none ]) ≡ some gs → AnswersRead S n terms ws gs
    tested o r true t q =
        subst (AnswersRead S n terms ws) (some-injective o.pending gs q)
        (record {
          rest = r.rest;
          written = r.written ∙ ap (λ (xs : List Marked). write_goals xs ++ r.rest) (none-parked o r.parked_many);
          many = r.pending_many;
          answers = all-plain S terms o.pending r.pending t;
        })
    tested o r false t q = absurd (none-ne-some gs q)

    go : (x : Option OpenGoals) → read_open S n 0 terms ws ≡ x → only_answers x ≡ some gs → AnswersRead S n terms ws gs
    go none r q = absurd (none-ne-some gs q)
    go (some o) r q = tested o (open-reads S n 0 terms ws o r) (every (λ g. bare g.literals) o.pending) refl q

-- And the other way: answers that are written pass.
pub read-answers : (S : List Symbol) (terms : ℕ) (gs : List Goal) (rest : List ℕ) → All (Answer S terms) gs → read_answers S (length gs) terms (write_goals (unmarked gs) ++ rest) ≡ some gs
unfolding read_answers only_answers
read-answers S terms gs rest a =
    let fit = all-weaken (Answer S terms) (Fits S terms) (λ g h. h.fits) gs a in
    let r : read_open S (length gs) 0 terms (write_goals (unmarked gs) ++ rest) ≡ some (record { pending = gs; parked = [] }) =
    ap (λ (xs : List Marked). read_open S (length gs) 0 terms (write_goals xs ++ rest)) (sym (append-nil (unmarked gs))) ∙ read-open S terms gs [] rest fit tt in
    ap only_answers r ∙ rw (plain-bare S terms gs a, only_answers) refl

-- As many words as answers.
words-many : {A : Type 0} (read : A → Option ℕ) (xs : List A) (ws : List ℕ) → read_all read xs ≡ some ws → length ws ≡ length xs
unfolding read_all
words-many read [] ws e = ap length (sym (some-injective [] ws e))
words-many read (x ∷ xs) ws e = let n = read_next_lem (read x) (read_all read xs) ws e in ap length (sym n.4) ∙ ap suc (words-many read xs n.1 n.3)

-- WHAT AN ACCEPTED COLUMN SAYS
pub record ColumnSays (deck_words answer_words : List ℕ) (n terms place : ℕ) (m : Mean) : Type 0 where
  pub deck : Deck
  pub answers : List Goal
  pub words : List ℕ
  pub opens : open_deck deck_words ≡ accepted deck
  pub least : 1 ≤ n
  pub most : n ≤ 65535
  pub inside : place < terms
  pub reads : AnswersRead deck.symbols n terms answer_words answers
  pub entries : column_words deck.format place answers ≡ some words
  pub many : length words ≡ n
  pub sums : m.sum ≡ total words
  pub divides : m.sum ≡ m.whole *ℤ pos n +ℤ pos m.remainder
  pub below : m.remainder < n

opened : (c : Checked Deck) (next : Deck → Checked Mean) (m : Mean) → and_then c next ≡ accepted m → (d : Deck) × (c ≡ accepted d) × (next d ≡ accepted m)
unfolding and_then
opened (refused r) next m e = absurd (refused-accepted e)
opened (accepted d) next m e = (d, refl, e)

pub column-says : (deck_words answer_words : List ℕ) (n terms place : ℕ) (m : Mean) → column deck_words answer_words n terms place ≡ accepted m → ColumnSays deck_words answer_words n terms place m
unfolding column mean column_words
column-says deck_words answer_words n terms place m e =
    let h1 = opened (open_deck deck_words) _ m e in
    let S = h1.0.symbols in
    let F = h1.0.format in
    let h2 = required bad_answers (leb 1 n && leb n 65535 && ltb place terms) _ h1.2 in
    let h3 = obtained bad_answers (read_answers S n terms answer_words) _ h2.1 in
    let h4 = obtained not_number (column_words F place h3.0) _ h3.2 in
    let q : mean n (total h4.0) ≡ m = accepted-same h4.2 in
    let t = (and-eq-true_iff (leb 1 n && leb n 65535) (ltb place terms)).0 h2.0 in
    let b = (and-eq-true_iff (leb 1 n) (leb n 65535)).0 t.0 in
    let least : 1 ≤ n = leb-true 1 n b.0 in
    let r = answers-read S n terms answer_words h3.0 h3.1 in
    let is = mean-is (total h4.0) n least in
    subst (ColumnSays deck_words answer_words n terms place) q
    (record {
      deck = h1.0;
      answers = h3.0;
      words = h4.0;
      opens = h1.1;
      least = least;
      most = leb-true n 65535 b.1;
      inside = ltb-true place terms t.1;
      reads = r;
      entries = h4.1;
      many = words-many _ h3.0 h4.0 h4.1 ∙ r.many;
      sums = refl;
      divides = is.0;
      below = is.1;
    })
