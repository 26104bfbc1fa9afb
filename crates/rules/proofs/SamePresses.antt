-- A press too uses the clauses about the predicates that its goals reach, and no others (document 02, U9 and U14): over two decks that differ
-- only behind predicates that are barred to the member, it comes to the same.
use Prim.Native.Nat.{ℕ}
use mathlib.Core.Path.{◌≡◌, refl, ap}
use mathlib.Core.Bool.{true}
use mathlib.Core.Option.{some}
use mathlib.Core.List.{List, ◌++◌}
use lib.ListN.{length}
use Rattle.rules.specs.Syntax.{Clause, Deck, Goal}
use Rattle.rules.specs.Refusals.{accepted, and_then}
use Rattle.rules.specs.Decks.{open_deck}
use Rattle.rules.specs.Goals.{Marked, unmarked}
use Rattle.rules.specs.Stored.{OpenGoals, read_open}
use Rattle.rules.specs.Loose.{tight_clauses}
use Rattle.rules.specs.Resolution.{clauses_about}
use Rattle.rules.specs.Rights.{literals_of, check_rights, SameClauses}
use Rattle.rules.specs.Evaluation.{Level, start_level, zeroth, deeper, Next, halt, step, success, ask, Account, opening, pay, succeeded, ended, reply_of, close, proceed, decide_by, next_of, evaluate_level}
use Rattle.rules.specs.Run.{carry}
use Rattle.rules.specs.Press.{one_step, press_level, pressed_of, press, press_once}
use Rattle.rules.proofs.LevelLaws.{next-ahead}
use Rattle.rules.proofs.Keeps.{LevelHas, start_has}
use Rattle.rules.proofs.Reach.{Spreads}
use Rattle.rules.proofs.SameDecks.{Naming, pay-same, next-same, after, level-same, ReachedFrom, reaches-spreads, start-names}
use Rattle.rules.proofs.ClosedSites.{same-clauses, rights-clear, then_same, rights-same, carried_same}

module _ (P : ℕ → Type 0) (cs ds : List Clause) (agree : (p : ℕ) → P p → clauses_about p cs ≡ clauses_about p ds) (answer_room store_size : ℕ)
    (spreads : Spreads (λ q. Unit {0}) cs P) where
  press_level_same : (l : Level) (a : Account) → LevelHas (Naming P) l → press_level cs answer_room store_size l a ≡ press_level ds answer_room store_size l a
  unfolding press_level one_step proceed decide_by
  press_level_same l a h =
      rw (next-same P cs ds agree answer_room store_size 32 zeroth l a.left h refl, ← pay-same P cs ds agree l a h) (go (next_of cs answer_room store_size 32 zeroth l a.left) refl)
    where
      go : (n : Next) → next_of cs answer_room store_size 32 zeroth l a.left ≡ n
          → proceed (ended succeeded) (decide_by (evaluate_level cs answer_room store_size 31)) l a (pay cs l a) n
          ≡ proceed (ended succeeded) (decide_by (evaluate_level ds answer_room store_size 31)) l a (pay cs l a) n
      go (halt s) e = refl
      go (step l') e = refl
      go success e = refl
      go (ask q) e = ap (λ i. close (ended succeeded) l q (reply_of i))
          (level-same P cs ds agree answer_room store_size spreads 31 (deeper q.held_outside) (start_level q.goal) (pay cs l a)
          (start_has (Naming P) q.goal (after P cs ds agree answer_room store_size spreads (next-ahead e) h).0))

pub press-same :
    (d e : Deck) (gs : List Goal) (ms : List Marked)
    → ((p : ℕ) → ReachedFrom d.clauses gs ms p → clauses_about p d.clauses ≡ clauses_about p e.clauses)
    → (answer_room store_size total : ℕ) → press d answer_room store_size gs ms total ≡ press e answer_room store_size gs ms total
unfolding press
press-same d e gs ms agree answer_room store_size total =
    let names = start-names d.clauses gs ms in
    ap (pressed_of total) (press_level_same (ReachedFrom d.clauses gs ms) d.clauses e.clauses agree answer_room store_size (reaches-spreads d.clauses _) _ (opening total)
    (record { pending = names.0; parked = names.1; answers = tt }))

-- From open goals, with the checks of the member's rights.
from-goals : (d e : Deck) → d.symbols ≡ e.symbols → (bars : List ℕ) (gs : List Goal) (ms : List Marked) → SameClauses d.clauses e.clauses bars (literals_of (unmarked gs ++ ms))
    → (budget answer_room store_size : ℕ)
    → and_then (check_rights d bars (unmarked gs ++ ms)) (λ _. accepted (press d answer_room store_size gs ms budget))
    ≡ and_then (check_rights e bars (unmarked gs ++ ms)) (λ _. accepted (press e answer_room store_size gs ms budget))
from-goals d e symbols bars gs ms h budget answer_room store_size =
    rw (← rights-same d e symbols bars gs ms h) (then_same (check_rights d bars (unmarked gs ++ ms)) (λ a q.
    ap accepted (press-same d e gs ms (same-clauses d.clauses e.clauses bars _ h (rights-clear d bars (unmarked gs ++ ms) q)) answer_room store_size budget)))

-- From stores of the same length that begin with the same open goals.
module _ (deck_words other_words bars : List ℕ) (pending parked terms : ℕ) (store_words other_store : List ℕ) (scratch_size : ℕ) (d e : Deck)
    (opens : open_deck deck_words ≡ accepted d) (other : open_deck other_words ≡ accepted e)
    (tight : tight_clauses d.clauses ≡ true) (other_tight : tight_clauses e.clauses ≡ true) (symbols : d.symbols ≡ e.symbols)
    (long : length other_store ≡ length store_words) (reads : read_open d.symbols pending parked terms other_store ≡ read_open d.symbols pending parked terms store_words)
    (h : (g : OpenGoals) → read_open d.symbols pending parked terms store_words ≡ some g → SameClauses d.clauses e.clauses bars (literals_of (unmarked g.pending ++ g.parked))) where
  pub press_once_same : (budget answer_room : ℕ)
      → press_once (carry deck_words pending parked terms store_words scratch_size) bars budget answer_room (length store_words)
      ≡ press_once (carry other_words pending parked terms other_store scratch_size) bars budget answer_room (length other_store)
  unfolding press_once
  press_once_same budget answer_room =
      rw long (carried_same deck_words other_words bars pending parked terms store_words other_store scratch_size d e opens other tight other_tight symbols long reads h _
      (λ g r. from-goals d e symbols bars g.pending g.parked (h g r) budget answer_room (length store_words)))
