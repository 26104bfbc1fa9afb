-- Closed sites on words (document 02, U9): a member's calls over two decks side by side, with slices of the same sizes. The words after the goals in
-- a store are free, so the two stores need only begin with the same open goals.
use Prim.Native.Nat.{ℕ}
use mathlib.Core.Path.{◌≡◌, refl, sym, ◌∙◌, ap, subst}
use mathlib.Core.Bool.{true}
use mathlib.Core.Option.{some}
use mathlib.Core.List.{List, [], ◌∷◌, ◌++◌}
use native.Mathlib.Omega.{arith}
use lib.ListN.{length}
use Rattle.rules.specs.Syntax.{Literal, Deck, Goal}
use Rattle.rules.specs.Refusals.{Checked, refused, accepted}
use Rattle.rules.specs.Decks.{open_deck, read_query}
use Rattle.rules.specs.Goals.{Marked, unmarked, query_variables, first_goal}
use Rattle.rules.specs.WellFormed.{All}
use Rattle.rules.specs.Stored.{OpenGoals, read_open}
use Rattle.rules.specs.Loose.{tight_clauses}
use Rattle.rules.specs.Rights.{literals_of, check_rights, SameClauses}
use Rattle.rules.specs.Evaluation.{Outcome, evaluate}
use Rattle.rules.specs.Run.{Report, report, returned, Slices, Filled, Leaves, run_on, carry_from, Gives, Ran, RanOn}
use Rattle.rules.specs.Press.{Advance, Pressed, press, counted, counts, left_by, PressLeaves, Display, displayed, display_after, advanced, press_with, press_from, PressedWith}
use Rattle.rules.proofs.LevelSound.{level}
use Rattle.rules.proofs.StoredLaws.{Fits, ParkedFits, open-reads}
use Rattle.rules.proofs.Carried.{first_fits, same_read}
use Rattle.rules.proofs.ClosedSites.{first-starts, run-same, carry_same, same-later}
use Rattle.rules.proofs.SamePresses.{press_once_same}
use Rattle.rules.proofs.MemberRuns.{left-reads, fresh-accepted, carried-accepted, pressed-accepted}
use Rattle.rules.proofs.PressList.{cost_taken}
use Rattle.rules.proofs.Presses.{press-leaves}
use Rattle.rules.proofs.PressWords.{filled-same}

pub record SameSizes (entry other : Slices) : Type 0 where
  pub answers : length other.answers ≡ length entry.answers
  pub store : length other.store ≡ length entry.store
  pub scratch : length other.scratch ≡ length entry.scratch

-- The member gets the same from both calls: they return and leave what one outcome, or one refusal, says.
abbrev pub GetSame : Slices → Checked Report → Slices → Slices → Checked Report → Slices → Type 0
GetSame entry r exit other s left = (c : Checked Outcome) × Gives c entry r exit × Gives c other s left

module _ (deck_words other_words bars : List ℕ) (d e : Deck) (opens : open_deck deck_words ≡ accepted d) (other_opens : open_deck other_words ≡ accepted e)
    (tight : tight_clauses d.clauses ≡ true) (other_tight : tight_clauses e.clauses ≡ true) (symbols : d.symbols ≡ e.symbols) where
  -- Stores that begin with the same open goals, or are both refused with 12; and the two decks have the same clauses for these goals.
  abbrev pub Alike : ℕ → ℕ → ℕ → List ℕ → List ℕ → Type 0
  Alike pending parked terms store_words other_store =
      (read_open d.symbols pending parked terms other_store ≡ read_open d.symbols pending parked terms store_words)
      × ((g : OpenGoals) → read_open d.symbols pending parked terms store_words ≡ some g
      → SameClauses d.clauses e.clauses bars (literals_of (unmarked g.pending ++ g.parked)))

  -- So what two runs with one outcome leave is alike again.
  left-alike : (terms : ℕ) (gs : List Goal) (ms : List Marked) → All (Fits d.symbols terms) gs → All (ParkedFits d.symbols terms) ms
      → {u : Unit {0}} → check_rights d bars (unmarked gs ++ ms) ≡ accepted u → SameClauses d.clauses e.clauses bars (literals_of (unmarked gs ++ ms))
      → (answer_room store_size budget : ℕ) (entry exit other left : Slices) (o : Outcome) → o ≡ evaluate d answer_room store_size gs ms budget
      → Filled o entry exit → Filled o other left → Alike (length o.pending) (length o.parked) terms exit.store left.store
  left-alike terms gs ms p q right same answer_room store_size budget entry exit other left o ev f f' =
      let one = left-reads deck_words bars d opens terms gs ms p q answer_room store_size budget entry exit o ev f in
      let two = left-reads deck_words bars d opens terms gs ms p q answer_room store_size budget other left o ev f' in
      let later : SameClauses d.clauses e.clauses bars (literals_of (unmarked o.pending ++ o.parked)) =
      subst (λ (x : Outcome). SameClauses d.clauses e.clauses bars (literals_of (unmarked x.pending ++ x.parked))) (sym ev)
      (same-later d bars gs ms right answer_room store_size budget e same) in
      (two ∙ sym one, λ g r. subst (λ (x : OpenGoals). SameClauses d.clauses e.clauses bars (literals_of (unmarked x.pending ++ x.parked))) (same_read one r) later)

  -- A FRESH RUN.
  module _ (query_words : List ℕ) (h : (query : List Literal) → read_query d query_words ≡ accepted query → SameClauses d.clauses e.clauses bars query)
      (budget : ℕ) (entry other : Slices) (sizes : SameSizes entry other) where
    fresh-equal : run_on other_words query_words bars budget other ≡ run_on deck_words query_words bars budget entry
    unfolding run_on
    fresh-equal = rw (sizes.answers, sizes.store, sizes.scratch) (sym (run-same deck_words other_words query_words bars d e opens other_opens tight other_tight symbols h budget
        (length entry.answers) (length entry.store) (length entry.scratch)))

    pub fresh-same : (exit left : Slices) (r s : Checked Report) → Ran deck_words query_words bars budget entry r exit → Ran other_words query_words bars budget other s left
        → GetSame entry r exit other s left
    fresh-same exit left r s ran ran' = (run_on deck_words query_words bars budget entry, ran, subst (λ c. Gives c other s left) fresh-equal ran')

    -- Both leave stores from which the next calls go on alike, with as many answer terms as the query has variables.
    pub fresh-alike : (exit left : Slices) (r : Report) (s : Checked Report) → Ran deck_words query_words bars budget entry (accepted r) exit
        → Ran other_words query_words bars budget other s left
        → (s ≡ accepted r) × ((query : List Literal) → read_query d query_words ≡ accepted query → Alike r.pending r.parked (length (query_variables query)) exit.store left.store)
    unfolding Leaves returned report
    fresh-alike exit left r s ran ran' =
        let ran'' : Gives (run_on deck_words query_words bars budget entry) other s left = subst (λ c. Gives c other s left) fresh-equal ran' in
        go (run_on deck_words query_words bars budget entry) refl ran.returns ran.leaves ran''.returns ran''.leaves
      where
        go : (c : Checked Outcome) → run_on deck_words query_words bars budget entry ≡ c → accepted r ≡ returned c → Leaves c entry exit → s ≡ returned c → Leaves c other left
            → (s ≡ accepted r) × ((query : List Literal) → read_query d query_words ≡ accepted query → Alike r.pending r.parked (length (query_variables query)) exit.store left.store)
        go (refused n) eq back f back' f' = absurd (let z : ◌≡◌ {A = ℕ} 0 1 = cc in omega arith)
        go (accepted o) eq back f back' f' =
            let a = fresh-accepted deck_words bars d opens query_words budget entry o eq in
            let same : report o ≡ r = cc in (
              back' ∙ sym back,
              λ query asks.
                  let q : a.0 ≡ query = let z = a.2 in cc in
                  let right = subst (λ (x : List Literal). check_rights d bars (unmarked (first_goal x ∷ []) ++ []) ≡ accepted a.1) q a.3 in
                  let ev = subst (λ (x : List Literal). o ≡ evaluate d (length entry.answers) (length entry.store) (first_goal x ∷ []) [] budget) q a.4 in
                  subst (λ (x : Report). Alike x.pending x.parked (length (query_variables query)) exit.store left.store) same
                  (left-alike (length (query_variables query)) (first_goal query ∷ []) [] (first_fits d query_words query asks, tt) tt right
                  (rw (first-starts query) (h query asks)) (length entry.answers) (length entry.store) budget entry exit other left o ev f f'),
            )

  -- A RUN THAT CARRIES ON.
  module _ (pending parked terms budget : ℕ) (entry other : Slices) (sizes : SameSizes entry other) (alike : Alike pending parked terms entry.store other.store) where
    carried-equal : carry_from other_words pending parked terms bars budget other ≡ carry_from deck_words pending parked terms bars budget entry
    unfolding carry_from
    carried-equal = rw (sizes.answers, sizes.scratch) (sym (carry_same deck_words other_words bars pending parked terms entry.store other.store (length entry.scratch) d e
        opens other_opens tight other_tight symbols sizes.store alike.0 alike.1 budget (length entry.answers)))

    pub carried_same : (exit left : Slices) (r s : Checked Report) → RanOn deck_words pending parked terms bars budget entry r exit
        → RanOn other_words pending parked terms bars budget other s left → GetSame entry r exit other s left
    carried_same exit left r s ran ran' = (carry_from deck_words pending parked terms bars budget entry, ran, subst (λ c. Gives c other s left) carried-equal ran')

    -- Both leave stores from which the next calls go on alike, and so on for any list of them.
    pub carried-alike : (exit left : Slices) (r : Report) (s : Checked Report) → RanOn deck_words pending parked terms bars budget entry (accepted r) exit
        → RanOn other_words pending parked terms bars budget other s left → (s ≡ accepted r) × Alike r.pending r.parked terms exit.store left.store
    unfolding Leaves returned report
    carried-alike exit left r s ran ran' =
        let ran'' : Gives (carry_from deck_words pending parked terms bars budget entry) other s left = subst (λ c. Gives c other s left) carried-equal ran' in
        go (carry_from deck_words pending parked terms bars budget entry) refl ran.returns ran.leaves ran''.returns ran''.leaves
      where
        go : (c : Checked Outcome) → carry_from deck_words pending parked terms bars budget entry ≡ c → accepted r ≡ returned c → Leaves c entry exit → s ≡ returned c → Leaves c other left
            → (s ≡ accepted r) × Alike r.pending r.parked terms exit.store left.store
        go (refused n) eq back f back' f' = absurd (let z : ◌≡◌ {A = ℕ} 0 1 = cc in omega arith)
        go (accepted o) eq back f back' f' =
            let a = carried-accepted deck_words bars d opens pending parked terms budget entry o eq in
            let g : OpenGoals = a.0 in
            let reads = open-reads d.symbols pending parked terms entry.store g a.2 in
            let same : report o ≡ r = cc in (
              back' ∙ sym back,
              subst (λ (x : Report). Alike x.pending x.parked terms exit.store left.store) same
                  (left-alike terms g.pending g.parked reads.pending reads.parked a.3 (alike.1 g a.2)
                  (length entry.answers) (length entry.store) budget entry exit other left o a.4 f f'),
            )

  -- A PRESS, with the same record.
  module _ (terms budget : ℕ) (shown : Display) (entry other : Slices) (sizes : SameSizes entry other) (alike : Alike shown.pending shown.parked terms entry.store other.store) where
    pressed-equal : press_with other_words terms bars budget shown other ≡ press_with deck_words terms bars budget shown entry
    unfolding press_with press_from
    pressed-equal = rw (sizes.answers, sizes.scratch) (sym (press_once_same deck_words other_words bars shown.pending shown.parked terms entry.store other.store (length entry.scratch) d e
        opens other_opens tight other_tight symbols sizes.store alike.0 alike.1 budget (length entry.answers)))

    -- Both say the same, show the same, and leave what one press, or one refusal, says.
    pub pressed-same : (exit left : Slices) (r s : Checked Advance) (after after' : Display) → PressedWith deck_words terms bars budget entry shown r exit after
        → PressedWith other_words terms bars budget other shown s left after'
        → (s ≡ r) × (after' ≡ after) × (c : Checked Pressed) × PressLeaves c entry exit × PressLeaves c other left
    pressed-same exit left r s after after' ran ran' = (
      ran'.returns ∙ ap (λ c. advanced (counts c)) pressed-equal ∙ sym ran.returns,
      ran'.display ∙ ap (λ c. display_after shown (counts c)) pressed-equal ∙ sym ran.display,
      press_with deck_words terms bars budget shown entry,
      ran.leaves,
      subst (λ c. PressLeaves c other left) pressed-equal ran'.leaves,
    )

    -- And stores from which the next calls go on alike.
    pub pressed-alike : (exit left : Slices) (r : Advance) (s : Checked Advance) (after after' : Display) → PressedWith deck_words terms bars budget entry shown (accepted r) exit after
        → PressedWith other_words terms bars budget other shown s left after' → Alike after.pending after.parked terms exit.store left.store
    unfolding press_with counts counted advanced display_after displayed PressLeaves
    pressed-alike exit left r s after after' ran ran' =
        go (press_with deck_words terms bars budget shown entry) refl ran.returns ran.display ran.leaves (subst (λ c. PressLeaves c other left) pressed-equal ran'.leaves)
      where
        go : (c : Checked Pressed) → press_with deck_words terms bars budget shown entry ≡ c → accepted r ≡ advanced (counts c) → after ≡ display_after shown (counts c)
            → PressLeaves c entry exit → PressLeaves c other left → Alike after.pending after.parked terms exit.store left.store
        go (refused n) eq back shows f f' = absurd (let z : ◌≡◌ {A = ℕ} 0 1 = cc in omega arith)
        go (accepted p) eq back shows f f' =
            let a = pressed-accepted deck_words bars d opens shown.pending shown.parked terms budget entry p eq in
            let g : OpenGoals = a.0 in
            let reads = open-reads d.symbols shown.pending shown.parked terms entry.store g a.2 in
            let spent : ℕ = cost_taken (press d (length entry.answers) (length entry.store) g.pending g.parked budget) in
            let o : Outcome = evaluate d (length entry.answers) (length entry.store) g.pending g.parked spent in
            let run = press-leaves d (record { budget = budget; answer_room = length entry.answers; store_size = length entry.store }) (level g.pending g.parked []) in
            let answers : o.answers ≡ p.answers = run.answers ∙ ap (λ (x : Pressed). x.answers) a.4 in
            let pending : o.pending ≡ p.pending = run.pending ∙ ap (λ (x : Pressed). x.pending) a.4 in
            let parked : o.parked ≡ p.parked = run.parked ∙ ap (λ (x : Pressed). x.parked) a.4 in
            let shown-pending : length o.pending ≡ after.pending = ap length pending ∙ sym (ap (λ (x : Display). x.pending) shows) in
            let shown-parked : length o.parked ≡ after.parked = ap length parked ∙ sym (ap (λ (x : Display). x.parked) shows) in
            subst (λ (k : ℕ). Alike after.pending k terms exit.store left.store) shown-parked
            (subst (λ (n : ℕ). Alike n (length o.parked) terms exit.store left.store) shown-pending
            (left-alike terms g.pending g.parked reads.pending reads.parked a.3 (alike.1 g a.2) (length entry.answers) (length entry.store) spent entry exit other left o refl
            (filled-same o (left_by p) entry exit answers pending parked f.filled) (filled-same o (left_by p) other left answers pending parked f'.filled)))
