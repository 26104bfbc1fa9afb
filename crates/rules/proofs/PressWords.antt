-- Presses about the words in the slices (document 02, U14): what a press leaves is what a run with the press's cost for its budget leaves, so the
-- cover statement holds of it, and the next press or run is let carry on with the display's counts; and presses one after another.
use Prim.Native.Nat.{ℕ, ◌+◌, ◌≤◌}
use mathlib.Core.Path.{◌≡◌, refl, sym, ◌∙◌, ap, ap₂, subst}
use mathlib.Core.Bool.{true}
use mathlib.Core.Option.{some}
use mathlib.Core.List.{List, [], ◌∷◌, ◌++◌, append-nil, append_assoc}
use native.Mathlib.Omega.{arith}
use lib.ListN.{length, take, drop}
use Rattle.rules.specs.Syntax.{Symbol, Deck, Goal}
use Rattle.rules.specs.Refusals.{Checked, refused, accepted}
use Rattle.rules.specs.Decks.{open_deck}
use Rattle.rules.specs.Goals.{unmarked, write_goals, read_goals}
use Rattle.rules.specs.Stored.{OpenGoals, read_open}
use Rattle.rules.specs.Loose.{tight_clauses}
use Rattle.rules.specs.Rights.{check_rights}
use Rattle.rules.specs.Evaluation.{finished, Level, Outcome, evaluate}
use Rattle.rules.specs.Run.{carry, Report, report, answers_after, store_start, Slices, Filled}
use Rattle.rules.specs.Press.{Advance, prevented, Pressed, press, press_once, press_from, Counted, counted, counts, left_by, PressFilled, PressLeaves, PressedOn, Display, capped, displayed, display_after, advanced, press_with, PressedWith}
use Rattle.rules.specs.ThreeValues.{ExcludedMiddle}
use Rattle.rules.specs.Demand.{CoveredFrom, ValuedFrom, KnownFrom, SaidOn, DemandOn}
use Rattle.rules.proofs.LevelSound.{level}
use Rattle.rules.proofs.PressLaws.{press-prevented, press-steps, press-cost, press-lists, finished-display}
use Rattle.rules.proofs.Continued.{Lent, goals_of}
use Rattle.rules.proofs.Demand3.{passed}
use Rattle.rules.proofs.Carried.{AcceptedOn, carry-parts, CarriesOn, covered-always, valued-always, known-always, says_of, left-lists, left-opens, carries-of, same_read}
use Rattle.rules.proofs.StoredLaws.{open-reads}
use Rattle.rules.proofs.MemberRuns.{LetOn, let-on}
use Rattle.rules.proofs.PressList.{press_on, after_press, press_all, steps_taken, cost_taken, displays}
use Rattle.rules.proofs.Presses.{ComesTo, press-leaves, presses-cover, presses-value, presses-stay}

-- An accepted press is a press on the open goals that were read, over the deck that was opened, which has no loose variable.
record AcceptedPress (deck_words : List ℕ) (pending parked terms : ℕ) (bars : List ℕ) (budget answer_room : ℕ) (store_words : List ℕ) (p : Pressed) : Type 0 where
  deck : Deck
  goals : OpenGoals
  opens : open_deck deck_words ≡ accepted deck
  carries : read_open deck.symbols pending parked terms store_words ≡ some goals
  tight_deck : tight_clauses deck.clauses ≡ true
  right : check_rights deck bars (unmarked goals.pending ++ goals.parked) ≡ accepted tt
  presses : press deck answer_room (length store_words) goals.pending goals.parked budget ≡ p

press-accepted :
    (deck_words : List ℕ) (pending parked terms : ℕ) (bars : List ℕ) (budget answer_room : ℕ) (store_words : List ℕ) (scratch_size : ℕ) (p : Pressed)
    → press_once (carry deck_words pending parked terms store_words scratch_size) bars budget answer_room (length store_words) ≡ accepted p
    → AcceptedPress deck_words pending parked terms bars budget answer_room store_words p
unfolding press_once
press-accepted deck_words pending parked terms bars budget answer_room store_words scratch_size p e =
    let c = passed (carry deck_words pending parked terms store_words scratch_size) _ e in
    let parts = carry-parts deck_words pending parked terms store_words scratch_size c.0 c.1 in
    let r = passed (check_rights c.0.deck bars _) _ c.2 in
    record { deck = c.0.deck; goals = c.0.goals; opens = parts.0; carries = parts.1; tight_deck = parts.2; right = r.1; presses = cc }

-- What slices are filled with depends on answers and goals alone.
pub filled-same : (o o' : Outcome) (entry exit : Slices) → o.answers ≡ o'.answers → o.pending ≡ o'.pending → o.parked ≡ o'.parked → Filled o' entry exit → Filled o entry exit
unfolding answers_after store_start
filled-same o o' entry exit a p k f =
    let words : write_goals (unmarked o.pending ++ o.parked) ≡ write_goals (unmarked o'.pending ++ o'.parked) = ap₂ (λ gs ms. write_goals (unmarked gs ++ ms)) p k in
    record {
      answers = f.answers ∙ ap (λ us. write_goals (unmarked us) ++ drop (length (write_goals (unmarked us))) entry.answers) (sym a);
      store = ap (λ ws. take (length ws) exit.store) words ∙ f.store ∙ sym words;
      store_length = f.store_length;
      scratch_length = f.scratch_length;
    }

-- What is left after a press: the cover statement holds, and the next press or run is let carry on, with the display's counts; the same member's is accepted.
pub record PressCarries (deck_words : List ℕ) (terms : ℕ) (bars : List ℕ) (entry : Slices) (d : Display) (exit : Slices) (d' : Display) : Type 1 where
  pub numbers : Report
  pub pending : numbers.pending ≡ d'.pending
  pub parked : numbers.parked ≡ d'.parked
  pub answers : d'.answers ≡ capped (d.answers + numbers.answers)
  pub demand : DemandOn deck_words d.pending d.parked terms entry numbers exit
  pub valued : ExcludedMiddle → SaidOn ValuedFrom deck_words d.pending d.parked terms entry numbers exit
  pub known : SaidOn KnownFrom deck_words d.pending d.parked terms entry numbers exit
  pub carries : CarriesOn deck_words terms numbers exit
  pub let_on : LetOn deck_words bars terms numbers exit

-- What a press does, over the deck that opened and the goals that were read: its answer list begins with the answer that it found, if there is one, the store
-- with the goals after it, and the display shows it.
pub record PressDoes (deck : Deck) (terms budget : ℕ) (entry : Slices) (d : Display) (g : OpenGoals) (advance : Advance) (exit : Slices) (d' : Display) : Type 0 where
  pub returns : (press deck (length entry.answers) (length entry.store) g.pending g.parked budget).advance ≡ advance
  pub display : d' ≡ displayed d (counted (press deck (length entry.answers) (length entry.store) g.pending g.parked budget))
  pub lists :
      let p = press deck (length entry.answers) (length entry.store) g.pending g.parked budget in
      read_goals deck.symbols (length p.answers) exit.answers ≡ some (unmarked p.answers)
  pub opens :
      let p = press deck (length entry.answers) (length entry.store) g.pending g.parked budget in
      read_open deck.symbols d'.pending d'.parked terms exit.store ≡ some (record { pending = p.pending; parked = p.parked })

-- Of an accepted press and what it leaves.
module _ (deck_words : List ℕ) (terms : ℕ) (bars : List ℕ) (budget : ℕ) (entry exit : Slices) (d d' : Display) (p : Pressed)
    (a : AcceptedPress deck_words d.pending d.parked terms bars budget (length entry.answers) entry.store p)
    (full : Filled (left_by p) entry exit) (display : d' ≡ displayed d (counted p)) where
  abbrev deck : Deck
  deck = a.deck

  abbrev done : Pressed
  done = press deck (length entry.answers) (length entry.store) a.goals.pending a.goals.parked budget

  -- The run with the press's cost for its budget.
  abbrev o : Outcome
  o = evaluate deck (length entry.answers) (length entry.store) a.goals.pending a.goals.parked (cost_taken done)

  leaves : ComesTo o (steps_taken done) (cost_taken done) (after_press (level [] [] []) done)
  leaves = press-leaves deck (record { budget = budget; answer_room = length entry.answers; store_size = length entry.store }) (level a.goals.pending a.goals.parked [])

  abbrev ran-as : AcceptedOn deck_words d.pending d.parked terms (cost_taken done) (length entry.answers) entry.store o
  ran-as = record { deck = deck; goals = a.goals; opens = a.opens; carries = a.carries; tight_deck = a.tight_deck; evaluates = refl }

  filled : Filled o entry exit
  filled = filled-same o (left_by p) entry exit (leaves.answers ∙ ap (λ (x : Pressed). x.answers) a.presses)
      (leaves.pending ∙ ap (λ (x : Pressed). x.pending) a.presses) (leaves.parked ∙ ap (λ (x : Pressed). x.parked) a.presses) full

  pending-count : length o.pending ≡ d'.pending
  unfolding displayed counted
  pending-count = ap length (leaves.pending ∙ ap (λ (x : Pressed). x.pending) a.presses) ∙ ap (λ (x : Display). x.pending) (sym display)

  parked-count : length o.parked ≡ d'.parked
  unfolding displayed counted
  parked-count = ap length (leaves.parked ∙ ap (λ (x : Pressed). x.parked) a.presses) ∙ ap (λ (x : Display). x.parked) (sym display)

  answer-count : d'.answers ≡ capped (d.answers + length o.answers)
  unfolding displayed counted
  answer-count = ap (λ (x : Display). x.answers) display ∙ ap (λ gs. capped (d.answers + length gs)) (sym (leaves.answers ∙ ap (λ (x : Pressed). x.answers) a.presses))

  carries-all : PressCarries deck_words terms bars entry d exit d'
  unfolding report
  carries-all = record {
    numbers = report o;
    pending = pending-count;
    parked = parked-count;
    answers = answer-count;
    demand = says_of deck_words d.pending d.parked terms (cost_taken done) entry exit o ran-as filled CoveredFrom covered-always;
    valued = λ em. says_of deck_words d.pending d.parked terms (cost_taken done) entry exit o ran-as filled ValuedFrom (valued-always em);
    known = says_of deck_words d.pending d.parked terms (cost_taken done) entry exit o ran-as filled KnownFrom known-always;
    carries = carries-of deck_words d.pending d.parked terms (cost_taken done) entry exit o ran-as filled;
    let_on =
        let reads = open-reads deck.symbols d.pending d.parked terms entry.store a.goals a.carries in
        let-on deck_words bars deck a.opens a.tight_deck terms a.goals.pending a.goals.parked reads.pending reads.parked a.right
        (length entry.answers) (length entry.store) (cost_taken done) entry exit filled;
  }

  does : PressDoes deck terms budget entry d a.goals p.advance exit d'
  does = record {
    returns = ap (λ (x : Pressed). x.advance) a.presses;
    display = display ∙ ap (λ (x : Pressed). displayed d (counted x)) (sym a.presses);
    lists = subst (λ gs. read_goals deck.symbols (length gs) exit.answers ≡ some (unmarked gs)) leaves.answers
        (left-lists deck_words d.pending d.parked terms (cost_taken done) entry exit o ran-as filled);
    opens =
        subst (λ (l : Level). read_open deck.symbols d'.pending d'.parked terms exit.store ≡ some (record { pending = l.pending; parked = l.parked }))
        (λ i. record { pending = leaves.pending i; parked = leaves.parked i; answers = [] })
        (subst (λ k. read_open deck.symbols d'.pending k terms exit.store ≡ some (record { pending = o.pending; parked = o.parked })) parked-count
        (subst (λ n. read_open deck.symbols n (length o.parked) terms exit.store ≡ some (record { pending = o.pending; parked = o.parked })) pending-count
        (left-opens deck_words d.pending d.parked terms (cost_taken done) entry exit o ran-as filled)));
  }

module _ (deck_words : List ℕ) (terms : ℕ) (bars : List ℕ) (budget : ℕ) (entry exit : Slices) (d d' : Display) (advance : Advance)
    (ran : PressedWith deck_words terms bars budget entry d (accepted advance) exit d') where
  -- What holds of the accepted press holds of the call.
  accepted-press {ℓ} : (Q : Advance → Type ℓ)
      → ((p : Pressed) → AcceptedPress deck_words d.pending d.parked terms bars budget (length entry.answers) entry.store p → PressFilled p entry exit → d' ≡ displayed d (counted p)
      → Q p.advance) → Q advance
  unfolding press_with press_from counts counted advanced display_after PressLeaves
  accepted-press Q h = go (press_with deck_words terms bars budget d entry) refl ran.returns ran.leaves ran.display
    where
      go : (c : Checked Pressed) → press_with deck_words terms bars budget d entry ≡ c → accepted advance ≡ advanced (counts c) → PressLeaves c entry exit → d' ≡ display_after d (counts c)
          → Q advance
      go (refused n) e back left shown = absurd (let z : ◌≡◌ {A = ℕ} 0 1 = cc in omega arith)
      go (accepted p) e back left shown =
          let same : p.advance ≡ advance = cc in
          subst Q same (h p (press-accepted deck_words d.pending d.parked terms bars budget (length entry.answers) entry.store (length entry.scratch) p e) left shown)

  pub press-carries : PressCarries deck_words terms bars entry d exit d'
  press-carries = accepted-press (λ _. PressCarries deck_words terms bars entry d exit d') (λ p a full e. carries-all deck_words terms bars budget entry exit d d' p a full.filled e)

  pub press-does : (deck : Deck) → open_deck deck_words ≡ accepted deck → (g : OpenGoals) → read_open deck.symbols d.pending d.parked terms entry.store ≡ some g
      → PressDoes deck terms budget entry d g advance exit d'
  press-does deck opens g reads = accepted-press (λ x. PressDoes deck terms budget entry d g x exit d') (λ p a full e.
      let same : a.deck ≡ deck = let x = a.opens in cc in
      let goals : a.goals ≡ g = same_read a.carries (ap (λ (k : Deck). read_open k.symbols d.pending d.parked terms entry.store) same ∙ reads) in
      subst (λ (h : OpenGoals). PressDoes deck terms budget entry d h p.advance exit d') goals
      (subst (λ (k : Deck). PressDoes k terms budget entry d a.goals p.advance exit d') same (does deck_words terms bars budget entry exit d d' p a full.filled e)))

  -- A press on a finished query changes nothing: no word of the slices, and no number of the record, whose counts have 64 bits.
  pub press-unchanged : advance ≡ prevented finished → d.steps ≤ 18446744073709551615 → d.cost ≤ 18446744073709551615 → d.answers ≤ 18446744073709551615
      → (exit ≡ entry) × (d' ≡ d)
  press-unchanged says s c n = accepted-press (λ x. x ≡ prevented finished → (exit ≡ entry) × (d' ≡ d)) (λ p a full e f. (full.untouched f, unchanged p a e f)) says
    where
      unchanged : (p : Pressed) → AcceptedPress deck_words d.pending d.parked terms bars budget (length entry.answers) entry.store p → d' ≡ displayed d (counted p)
          → p.advance ≡ prevented finished → d' ≡ d
      unchanged p a e f =
          let reads = open-reads a.deck.symbols d.pending d.parked terms entry.store a.goals a.carries in
          let empty : a.goals.pending ≡ [] =
          press-prevented a.deck (length entry.answers) (length entry.store) a.goals.pending a.goals.parked budget (ap (λ (x : Pressed). x.advance) a.presses ∙ f) in
          e ∙ ap (λ (x : Pressed). displayed d (counted x)) (sym a.presses)
          ∙ ap (λ gs. displayed d (counted (press a.deck (length entry.answers) (length entry.store) gs a.goals.parked budget))) empty
          ∙ finished-display a.deck (length entry.answers) (length entry.store) a.goals.parked budget d s c n
          (sym reads.pending_many ∙ ap length empty) (sym reads.parked_many)

-- An accepted press on plain parameters takes no more steps than their cost, costs at most the budget, and lists one answer at most.
pub pressed-spends : (deck_words : List ℕ) (pending parked terms : ℕ) (bars : List ℕ) (budget : ℕ) (entry exit : Slices) (c : Counted)
    → PressedOn deck_words pending parked terms bars budget entry (accepted c) exit → (c.steps ≤ c.cost) × (c.cost ≤ budget) × (c.answers ≤ 1)
unfolding press_from counts counted
pressed-spends deck_words pending parked terms bars budget entry exit c ran = go (press_from deck_words pending parked terms bars budget entry) refl ran.returns
  where
    Spent : Counted → Type 0
    Spent x = (x.steps ≤ x.cost) × (x.cost ≤ budget) × (x.answers ≤ 1)

    go : (x : Checked Pressed) → press_from deck_words pending parked terms bars budget entry ≡ x → accepted c ≡ counts x → Spent c
    go (refused n) e back = absurd (let z : ◌≡◌ {A = ℕ} 0 1 = cc in omega arith)
    go (accepted p) e back =
        let a = press-accepted deck_words pending parked terms bars budget (length entry.answers) entry.store (length entry.scratch) p e in
        let room : ℕ = length entry.answers in
        let size : ℕ = length entry.store in
        let same : counted p ≡ c = cc in
        subst Spent same (subst (λ (x : Pressed). Spent (counted x)) a.presses (
          press-steps a.deck room size a.goals.pending a.goals.parked budget,
          press-cost a.deck room size a.goals.pending a.goals.parked budget,
          press-lists a.deck room size a.goals.pending a.goals.parked budget,
        ))

-- PRESSES ONE AFTER ANOTHER, on words: each has a store, of any size, that begins with the goals as the one before has left them, and the display as it came
-- back.
pub data PressChain (deck_words : List ℕ) (symbols : List Symbol) (terms : ℕ) : List Lent → List ℕ → Display → List ℕ → Display → Type 0 where
  rests : {ws : List ℕ} {d : Display} → PressChain deck_words symbols terms [] ws d ws d
  presses : {bs : List Lent} {bars : List ℕ} {budget : ℕ} {entry exit : Slices} {d d' d'' : Display} {advance : Advance} {ws last : List ℕ}
      → read_open symbols d.pending d.parked terms entry.store ≡ read_open symbols d.pending d.parked terms ws
      → PressedWith deck_words terms bars budget entry d (accepted advance) exit d' → PressChain deck_words symbols terms bs exit.store d' last d''
      → PressChain deck_words symbols terms (record { budget = budget; answer_room = length entry.answers; store_size = length entry.store } ∷ bs) ws d last d''

-- The store begins with the goals after all presses, and the display is as they show it one after another: so the counts are the sums over all
-- presses (`displays-show`), and the goals are the evaluation's (`presses-leave`).
pub record ChainShows (deck : Deck) (terms : ℕ) (bs : List Lent) (d : Display) (l : Level) (last : List ℕ) (d' : Display) : Type 0 where
  pub display : d' ≡ displays deck bs l d
  pub opens : read_open deck.symbols d'.pending d'.parked terms last ≡ some (record { pending = (press_all deck bs l).pending; parked = (press_all deck bs l).parked })

pub chain-shows : (deck_words : List ℕ) (terms : ℕ) (k : Deck) → open_deck deck_words ≡ accepted k → {bs : List Lent} {ws last : List ℕ} {d d' : Display}
    → PressChain deck_words k.symbols terms bs ws d last d' → (l : Level)
    → read_open k.symbols d.pending d.parked terms ws ≡ some (record { pending = l.pending; parked = l.parked })
    → ChainShows k terms bs d l last d'
unfolding displays press_all
chain-shows deck_words terms k opens rests l reads = record { display = refl; opens = reads }
chain-shows deck_words terms k opens (presses {bs} {bars} {budget} {entry} {exit} {d} {d'} {d''} {advance} {ws} {last} w ran rest) l reads =
    let b : Lent = record { budget = budget; answer_room = length entry.answers; store_size = length entry.store } in
    let p : Pressed = press_on k b l in
    let one = press-does deck_words terms bars budget entry exit d d' advance ran k opens (record { pending = l.pending; parked = l.parked }) (w ∙ reads) in
    let later = chain-shows deck_words terms k opens rest (after_press l p) one.opens in
    record { display = later.display ∙ ap (displays k bs (after_press l p)) one.display; opens = later.opens }

-- THE ANSWERS OF ALL PRESSES are those read at the start of their answer lists, one list after the other.
unfoldable pub ChainLists : {deck_words : List ℕ} {symbols : List Symbol} {terms : ℕ} {bs : List Lent} {ws last : List ℕ} {d d' : Display}
    → PressChain deck_words symbols terms bs ws d last d' → List Goal → Type 0
ChainLists rests gs = gs ≡ []
ChainLists {symbols = symbols} (presses {exit = exit} w ran rest) gs =
    (found : List Goal) × (later : List Goal) × (gs ≡ found ++ later) × (read_goals symbols (length found) exit.answers ≡ some (unmarked found)) × ChainLists rest later

pub chain-lists : (deck_words : List ℕ) (terms : ℕ) (k : Deck) → open_deck deck_words ≡ accepted k → {bs : List Lent} {ws last : List ℕ} {d d' : Display}
    → (chain : PressChain deck_words k.symbols terms bs ws d last d') → (l : Level)
    → read_open k.symbols d.pending d.parked terms ws ≡ some (record { pending = l.pending; parked = l.parked })
    → (gs : List Goal) × ((press_all k bs l).answers ≡ l.answers ++ gs) × ChainLists chain gs
unfolding press_all ChainLists
chain-lists deck_words terms k opens rests l reads = ([], sym (append-nil l.answers), refl)
chain-lists deck_words terms k opens (presses {bs} {bars} {budget} {entry} {exit} {d} {d'} {d''} {advance} {ws} {last} w ran rest) l reads =
    let b : Lent = record { budget = budget; answer_room = length entry.answers; store_size = length entry.store } in
    let p : Pressed = press_on k b l in
    let one = press-does deck_words terms bars budget entry exit d d' advance ran k opens (record { pending = l.pending; parked = l.parked }) (w ∙ reads) in
    let more = chain-lists deck_words terms k opens rest (after_press l p) one.opens in
    (p.answers ++ more.0, more.1 ∙ append_assoc l.answers p.answers more.0, (p.answers, more.0, refl, one.lists, more.2))

-- BETWEEN ANY TWO PRESSES, or from goals filled in by hand: of the goals that the store begins with before the one, and the answers and goals after the other,
-- the cover statement holds, in two values and in three.
pub record ChainCovers (deck : Deck) (g : OpenGoals) (after : Level) {deck_words : List ℕ} {terms : ℕ} {bs : List Lent} {ws last : List ℕ} {d d' : Display}
    (chain : PressChain deck_words deck.symbols terms bs ws d last d') : Type 1 where
  pub opens : read_open deck.symbols d'.pending d'.parked terms last ≡ some (record { pending = after.pending; parked = after.parked })
  pub listed : ChainLists chain after.answers
  pub covered : CoveredFrom deck (unmarked g.pending ++ g.parked) (goals_of after)
  pub valued : ExcludedMiddle → ValuedFrom deck (unmarked g.pending ++ g.parked) (goals_of after)
  pub known : KnownFrom deck (unmarked g.pending ++ g.parked) (goals_of after)

pub chain-covers : (deck_words : List ℕ) (terms : ℕ) (k : Deck) → open_deck deck_words ≡ accepted k → {bs : List Lent} {ws last : List ℕ} {d d' : Display}
    → (chain : PressChain deck_words k.symbols terms bs ws d last d') → (g : OpenGoals) → read_open k.symbols d.pending d.parked terms ws ≡ some g
    → ChainCovers k g (press_all k bs (level g.pending g.parked [])) chain
chain-covers deck_words terms k opens {bs} chain g reads = record {
  opens = (chain-shows deck_words terms k opens chain (level g.pending g.parked []) reads).opens;
  listed = (let lists = chain-lists deck_words terms k opens chain (level g.pending g.parked []) reads in subst (ChainLists chain) (sym lists.1) lists.2);
  covered = λ I sat choice. presses-cover k bs g.pending g.parked I sat choice;
  valued = λ em I sat choice. presses-value em k bs g.pending g.parked I sat choice;
  known = λ I sat choice. presses-stay k bs g.pending g.parked I sat choice;
}
