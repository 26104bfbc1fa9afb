-- What the program's run comes to, test by test, and what the run on the program's buffers returns and leaves.
use Prim.Native.Nat.{ℕ, zero, suc, ◌≤◌}
use mathlib.Core.Path.{◌≡◌, refl, ap, ◌∙◌, subst}
use mathlib.Core.Option.{Option}
use mathlib.Core.List.{List, ◌∷◌}
use native.Mathlib.Omega.{arith}
use lib.ListN.{length, take, replicate, length-replicate}
use Rattle.rules.specs.Syntax.{Deck}
use Rattle.rules.specs.Refusals.{Refusal, Checked, refused, accepted, and_then}
use Rattle.rules.specs.Decks.{open_deck}
use Rattle.rules.specs.Evaluation.{Outcome}
use Rattle.rules.specs.Run.{run, Report, report, returned, answers_after, Slices, Filled, Leaves, run_on, Ran}
use Rattle.rules.specs.Program.{deck_file, query_input, program_run}
use Rattle.rules.specs.CarryProgram.{deck_input}
use Rattle.program.specs.Runs.{words_run}

-- A check, and then others.
module _ {A B : Type 0} (c : Checked A) (next : A → Checked B) where
  pub and_then-refused : (n : Refusal) → c ≡ refused n → and_then c next ≡ refused n
  unfolding and_then
  and_then-refused n e = rw e

  pub and_then-accepted : (a : A) → c ≡ accepted a → and_then c next ≡ next a
  unfolding and_then
  and_then-accepted a e = rw e

-- The run after the deck's refusals, and then those of the query's bytes.
abbrev asked_run : List ℕ → List ℕ → Checked Outcome
asked_run input deck_words = and_then (query_input input) (λ query_words. words_run deck_words query_words)

program_run-and_then : (file : Option (List ℕ)) (input : List ℕ) → program_run file input ≡ and_then (deck_input file) (asked_run input)
unfolding program_run deck_input words_run and_then
program_run-and_then file input = go (deck_file file)
  where
    program_next : List ℕ → Deck → List ℕ → Checked Outcome
    program_next deck_words d query_words = run deck_words query_words (replicate (length d.symbols) 0) 100000 8192 16384 8192

    asked : (deck_words : List ℕ) (d : Deck) → open_deck deck_words ≡ accepted d → (q : Checked (List ℕ)) → and_then q (program_next deck_words d) ≡ and_then q (words_run deck_words)
    asked deck_words d e (refused n) = refl
    asked deck_words d e (accepted query_words) = rw e refl

    opened : (deck_words : List ℕ) (d : Checked Deck) → open_deck deck_words ≡ d
        → and_then d (λ k. and_then (query_input input) (program_next deck_words k)) ≡ and_then (and_then d (λ _. accepted deck_words)) (asked_run input)
    opened deck_words (refused n) e = refl
    opened deck_words (accepted d) e = asked deck_words d e (query_input input)

    go : (c : Checked (List ℕ)) → and_then c (λ deck_words. and_then (open_deck deck_words) (λ k. and_then (query_input input) (program_next deck_words k)))
        ≡ and_then (and_then c (λ deck_words. and_then (open_deck deck_words) (λ _. accepted deck_words))) (asked_run input)
    go (refused n) = refl
    go (accepted deck_words) = opened deck_words (open_deck deck_words) refl

module _ (file : Option (List ℕ)) (input : List ℕ) where
  pub program_run-deck : (n : Refusal) → deck_input file ≡ refused n → program_run file input ≡ refused n
  program_run-deck n e = program_run-and_then file input ∙ and_then-refused (deck_input file) (asked_run input) n e

  module _ (deck_words : List ℕ) (d : deck_input file ≡ accepted deck_words) where
    pub program_run-query : (n : Refusal) → query_input input ≡ refused n → program_run file input ≡ refused n
    program_run-query n e =
        program_run-and_then file input ∙ and_then-accepted (deck_input file) (asked_run input) deck_words d ∙ and_then-refused (query_input input) (words_run deck_words) n e

    pub program_run-words : (query_words : List ℕ) → query_input input ≡ accepted query_words → program_run file input ≡ words_run deck_words query_words
    program_run-words query_words e =
        program_run-and_then file input ∙ and_then-accepted (deck_input file) (asked_run input) deck_words d ∙ and_then-accepted (query_input input) (words_run deck_words) query_words e

-- The run on the program's buffers.
pub record Buffers (s : Slices) : Type 0 where
  pub answers : length s.answers ≡ 8192
  pub store : length s.store ≡ 16384
  pub scratch : length s.scratch ≡ 8192

pub zeros-buffers : {s : Slices} → s.answers ≡ replicate 8192 0 → s.store ≡ replicate 16384 0 → s.scratch ≡ replicate 8192 0 → Buffers s
zeros-buffers a b c = record {
  answers = ap length a ∙ length-replicate {A = ℕ} 8192 0;
  store = ap length b ∙ length-replicate {A = ℕ} 16384 0;
  scratch = ap length c ∙ length-replicate {A = ℕ} 8192 0;
}

pub returned-refused : (x : Checked Outcome) (n : Refusal) → refused n ≡ returned x → x ≡ refused n
unfolding returned
returned-refused (refused m) n e = let q : m ≡ n = cc in ap refused q
returned-refused (accepted o) n e = absurd (let z : ◌≡◌ {A = ℕ} 0 1 = cc in omega arith)

pub returned-accepted : (x : Checked Outcome) (r : Report) → accepted r ≡ returned x → (o : Outcome) × (x ≡ accepted o) × (r ≡ report o)
unfolding returned
returned-accepted (refused m) r e = absurd (let z : ◌≡◌ {A = ℕ} 0 1 = cc in omega arith)
returned-accepted (accepted o) r e = let q : r ≡ report o = cc in (o, refl, q)

-- A list with as many zeros as there are symbols.
pub zeros-part : (n k : ℕ) → n ≤ k → take {A = ℕ} n (replicate k 0) ≡ replicate n 0
zeros-part zero k h = refl
zeros-part (suc n) zero h = absurd (omega arith)
zeros-part (suc n) (suc k) h = ap (0 ∷◌) (zeros-part n k (omega arith))

pub words-run : (deck_words query_words : List ℕ) (d : Deck) → open_deck deck_words ≡ accepted d
    → words_run deck_words query_words ≡ run deck_words query_words (replicate (length d.symbols) 0) 100000 8192 16384 8192
unfolding words_run and_then
words-run deck_words query_words d e = rw e refl

-- A deck that is refused, whatever is asked.
pub deck-refused : (deck_words query_words : List ℕ) (n : Refusal) → open_deck deck_words ≡ refused n → words_run deck_words query_words ≡ refused n
unfolding words_run and_then
deck-refused deck_words query_words n e = rw e

module _ (deck_words query_words bars : List ℕ) (d : Deck) (o : open_deck deck_words ≡ accepted d) (zeros : bars ≡ replicate (length d.symbols) 0) (entry exit : Slices) (b : Buffers entry) where
  same-run : words_run deck_words query_words ≡ run_on deck_words query_words bars 100000 entry
  unfolding words_run run_on and_then
  same-run = rw (o, zeros, b.answers, b.store, b.scratch)

  pub run-refused : (n : Refusal) → Ran deck_words query_words bars 100000 entry (refused n) exit → words_run deck_words query_words ≡ refused n
  run-refused n r = same-run ∙ returned-refused _ n r.returns

  pub run-done : (r : Report) → Ran deck_words query_words bars 100000 entry (accepted r) exit
      → (o : Outcome) × (words_run deck_words query_words ≡ accepted o) × (r ≡ report o) × (exit.answers ≡ answers_after o entry.answers)
  unfolding Leaves
  run-done r ran =
      let t = returned-accepted _ r ran.returns in
      let left : Filled t.0 entry exit = subst (λ (x : Checked Outcome). Leaves x entry exit) t.1 ran.leaves in
      (t.0, same-run ∙ t.1, t.2, left.answers)
