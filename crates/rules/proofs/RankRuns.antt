-- What given levels say of accepted runs (document 02, U8): a fresh run opens no level deeper than the highest among the query's literals.
use Prim.Native.Nat.{ℕ, zero, suc, ◌+◌, ◌≤◌, max}
use mathlib.Core.Path.{◌≡◌, refl, sym, ◌∙◌, ap, ap₂, subst}
use mathlib.Core.List.{List, [], ◌∷◌}
use native.Mathlib.Omega.{arith}
use native.Mathlib.Decide.{dec_lt}
use lib.ListN.{length, get_or}
use Rattle.rules.specs.Syntax.{Literal, Deck, predicate_of}
use Rattle.rules.specs.Refusals.{Checked, refused, accepted}
use Rattle.rules.specs.Decks.{open_deck, read_query}
use Rattle.rules.specs.Goals.{first_goal}
use Rattle.rules.specs.Evaluation.{Level, Place, Account, Outcome, evaluate}
use Rattle.rules.specs.Run.{Report, report, returned, Slices, run_on, Ran}
use Rattle.rules.specs.Passes.{FreshPasses, level_number}
use Rattle.rules.specs.Ranks.{nots, highest, Least, ranks, circular, numbers, Levels, given, Levelled, turned_down, told}
use Rattle.rules.proofs.DeckLaws.{opened-written}
use Rattle.rules.proofs.Demand3.{run-accepted}
use Rattle.rules.proofs.RankLaws.{level-bounded}
use Rattle.rules.proofs.RankSearch.{rests-none}
use Rattle.rules.proofs.RankTelling.{numbers-many, numbers-at, least_zero, heads-symbols}

-- The word of a predicate in a list of levels, 0 past the end.
abbrev pub listed : List ℕ → ℕ → ℕ
listed ns p = get_or ns p 0

past_end : (ns : List ℕ) (p : ℕ) → length ns ≤ p → listed ns p ≡ 0
past_end [] p h = refl
past_end (n ∷ ns) zero h = absurd (omega arith)
past_end (n ∷ ns) (suc p) h = past_end ns p (omega arith)

-- The least ranks of an opened deck are the words of their numbers, since no clause is about a predicate past 4,096.
pub numbers-listed : (deck_words : List ℕ) (deck : Deck) → open_deck deck_words ≡ accepted deck → (rank : ℕ → ℕ) → Least deck.clauses rank
    → (p : ℕ) → rank p ≡ listed (numbers (ranks rank) 4096) p
numbers-listed deck_words deck e rank h p = elim (dec_lt p 4096) [
  | yes l ↦ sym (numbers-at (ranks rank) 4096 p l)
  | no n ↦ (
      let w = (opened-written deck_words deck e).1 in
      let none = rests-none deck.clauses p (omega (arith, heads-symbols deck.symbols deck.clauses w.clauses, w.few_symbols)) in
      least_zero deck.clauses rank h p none ∙ sym (past_end (numbers (ranks rank) 4096) p (omega (arith, numbers-many (ranks rank) 4096))))
]

highest-same : (f g : ℕ → ℕ) → ((p : ℕ) → f p ≡ g p) → (ls : List Literal) → highest f ls ≡ highest g ls
highest-same f g h [] = refl
highest-same f g h (l ∷ ls) = ap₂ (λ a b. max (nots l + a) b) (h (predicate_of l)) (highest-same f g h ls)

-- Given levels bound what a fresh run passes.
pub given-bounded : (deck_words entry ns : List ℕ) → Levelled deck_words entry (accepted given) ns → (deck : Deck) → open_deck deck_words ≡ accepted deck
    → (query : List Literal) (answer_room store_size total below : ℕ) (at : Place) (l : Level) (left : Account)
    → FreshPasses deck answer_room store_size query total below at l left → level_number below ≤ highest (listed ns) query
given-bounded deck_words entry ns h deck e query answer_room store_size total below at l left p = go h refl
  where
    go : {r : Checked Levels} {ms : List ℕ} → Levelled deck_words entry r ms → r ≡ accepted given → level_number below ≤ highest (listed ms) query
    go (turned_down f) z = absurd (let x : ◌≡◌ {A = ℕ} 0 1 = cc in omega arith)
    go (told {deck = d} (ranks rank) f k) z =
        let same : d ≡ deck = cc in
        let least : Least deck.clauses rank = subst (λ (x : Deck). Least x.clauses rank) same k in
        let b = level-bounded deck rank least.ranked query answer_room store_size total below at l left p in
        omega (arith, b, highest-same rank (listed (numbers (ranks rank) 4096)) (numbers-listed deck_words deck e rank least) query)
    go (told (circular q) f k) z = absurd (let x : ◌≡◌ {A = ℕ} 0 1 = cc in omega arith)

-- OF A RUN THAT RETURNED A REPORT: it comes from the evaluation of the deck and the query, and that passes no deeper level.
pub record Bounded (deck_words query_words : List ℕ) (budget answer_room store_size : ℕ) (r : Report) (ns : List ℕ) : Type 0 where
  pub deck : Deck
  pub query : List Literal
  pub opens : open_deck deck_words ≡ accepted deck
  pub asks : read_query deck query_words ≡ accepted query
  pub returns : r ≡ report (evaluate deck answer_room store_size (first_goal query ∷ []) [] budget)
  pub bounded : (below : ℕ) (at : Place) (l : Level) (left : Account) → FreshPasses deck answer_room store_size query budget below at l left
      → level_number below ≤ highest (listed ns) query

module _ (deck_words query_words bars : List ℕ) (budget : ℕ) (entry exit : Slices) (r : Report) (ran : Ran deck_words query_words bars budget entry (accepted r) exit) where
  pub ran-bounded : (old ns : List ℕ) → Levelled deck_words old (accepted given) ns → Bounded deck_words query_words budget (length entry.answers) (length entry.store) r ns
  unfolding returned run_on
  ran-bounded old ns h = go (run_on deck_words query_words bars budget entry) refl ran.returns
    where
      go : (c : Checked Outcome) → run_on deck_words query_words bars budget entry ≡ c → accepted r ≡ returned c
          → Bounded deck_words query_words budget (length entry.answers) (length entry.store) r ns
      go (refused n) e back = absurd (let z : ◌≡◌ {A = ℕ} 0 1 = cc in omega arith)
      go (accepted o) e back =
          let a = run-accepted deck_words query_words bars budget (length entry.answers) (length entry.store) (length entry.scratch) o e in
          let same : r ≡ report o = cc in
          record {
            deck = a.deck;
            query = a.query;
            opens = a.opens;
            asks = a.asks;
            returns = same ∙ ap report a.evaluates;
            bounded = given-bounded deck_words old ns h a.deck a.opens a.query (length entry.answers) (length entry.store) budget;
          }
