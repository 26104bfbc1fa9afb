-- Level 0's run: after any number of steps the evaluation comes to what it comes to from the level that the store and the answer list hold; and how it ends.
use Prim.Native.Nat.{ℕ, ◌+◌, ◌-◌, ◌≤◌, ◌<◌}
use mathlib.Core.Path.{◌≡◌, refl, sym, ◌∙◌, ap, subst}
use mathlib.Core.List.{List, [], ◌∷◌, ◌++◌, reverse, append-nil}
use native.Mathlib.Omega.{arith}
use borrow.Author.Tests.{le-leb, lt-leb}
use lib.ListN.{length, get_or, take, drop, length-append, length-drop}
use lib.Seq.{sets, length-sets, sets-eq, take_at, drop_at, drop-drop}
use borrow.Rule.Slice.PartMut.{mid_of, put_mid, same_len_mid}
use Rattle.rules.specs.Syntax.{Symbol, Clause, Deck, Goal}
use Rattle.rules.specs.Refusals.{accepted}
use Rattle.rules.specs.Decks.{open_deck}
use Rattle.rules.specs.Goals.{Marked, unmarked, goal_words, write_goals, words_of, marked_words}
use Rattle.rules.specs.Evaluation as rules
use Rattle.rules.specs.Evaluation.{Level, zeroth, held, with_pending, with_parked, with_answer, no_literals, step, answer_step, act_step, check_store, next_of, Ended, ended, stopped, evaluate_level}
use Rattle.rules.proofs.GoalLaws.{goals-length, goals-append, unmarked-append, unmarked-words, words_of-append}
use Rattle.rules.specs.Press.{one_step, press_level}
use Rattle.rules.proofs.LevelLaws.{level-one_step, step-halts, step-moves, step-empty, step-spent}
use Rattle.report.specs.Reports.{ending_of}
use Rattle.report.specs.declared.Stop.TheVariants.{Finished, Budget, Answers}
use Rattle.goals.specs.Store.{Holding, SomeFirst, mark_of}
use Rattle.levels.specs.Levels.{account_of, paid_one, LevelHolds, Turned}
use Rattle.top_level.specs.Top.{Stored, Totalled, TopLevelEnds, Started, opening, Again, evaluates, step_then, Lists, Goes, Rests, Stops, Bare, Waits, Stepped, Follows, begun, advance_by}
use Rattle.goals.specs.declared.Mark as declared
use Rattle.top_level.specs.declared.Start.{Start}
use Rattle.top_level.specs.declared.Totals.{Totals}
use Rattle.top_level.specs.declared.Progress.{Progress}
use Rattle.top_level.specs.declared.End.{End}
use Rattle.levels.specs.declared.Account.{Account}
use Rattle.levels.specs.declared.Turn.{Turn}
use Rattle.levels.specs.declared.Turn.TheVariants.{Empty, Park, More}
use Rattle.levels.specs.declared.Halt.{Halt}
use Rattle.std.specs.Prelude.{Result, Ok, Err}
use Rattle.goals.proofs.HeldLaws.{pending_words, goals-first, cells-length, FirstOf, first_of, none-held}
use Rattle.levels.proofs.StepLaws.{bare, within, Pays, next-is, paid}
use Rattle.levels.proofs.TurnLaws.{bare-paid}
use Rattle.top_level.proofs.StoredLaws.{part-all, put_all, parked-words, stored-inside, stored-stands, put_back, kept_back, first_fits, first_word, first-copied, rest-stored}

-- A GOAL WITHOUT LITERALS at level 0: it is listed, or there is no room for its words.
module _ (clauses : List Clause) (answer_room store_size below : ℕ) (again : Again) (g : Goal) (gs : List Goal) (a : Account) (some : 0 < a.left) (l : Level)
    (p : l.pending ≡ g ∷ gs) (e : g.literals ≡ []) where
  pays : Pays clauses g (account_of a) (account_of (paid_one a))
  pays = bare-paid clauses g a some e

  next : next_of clauses answer_room store_size below zeroth l a.left ≡ check_store store_size zeroth (answer_step answer_room zeroth l g gs)
  unfolding act_step
  next = next-is clauses below 0 g gs (account_of a) (account_of (paid_one a)) pays answer_room store_size zeroth l p no_literals (bare clauses below g e)

  pub lists : words_of l.answers + goal_words g ≤ answer_room → words_of gs + marked_words l.parked ≤ store_size
      → one_step clauses answer_room store_size below zeroth again l (account_of a) ≡ again (with_answer g gs l) (account_of (paid_one a))
  unfolding answer_step check_store held with_answer
  lists f h =
      step-moves clauses answer_room store_size below zeroth again l (account_of a) (with_answer g gs l)
      (next ∙ rw (le-leb (words_of l.answers + goal_words g) answer_room f, answer_step) (within store_size (words_of gs + marked_words l.parked) (step (with_answer g gs l)) h))
      ∙ ap (again (with_answer g gs l)) (paid clauses below 0 g gs (account_of a) (account_of (paid_one a)) pays l p)

  pub unlisted : answer_room < words_of l.answers + goal_words g
      → one_step clauses answer_room store_size below zeroth again l (account_of a) ≡ ended (stopped rules.answers) l (account_of a)
  unfolding answer_step check_store
  unlisted f =
      step-halts clauses answer_room store_size below zeroth again l (account_of a) rules.answers
      (next ∙ rw (lt-leb (words_of l.answers + goal_words g) answer_room f, answer_step))

-- Level 0 at its start, and what is to come of it.
abbrev pub starts : Deck → List ℕ → List ℕ → ℕ → Ended → Started
starts d answers store budget total = record { deck = d; answers = answers; store = store; budget = budget; ends = total }

pub goes_first : {d : Deck} {answers store : List ℕ} {gs : List Goal} {ms : List Marked} {total : Ended} (start : Start) (again : Again)
    → total ≡ again (opening gs ms) (rules.opening start.budget) → Stored d.symbols store start.parts.parked start.parts.held (opening gs ms)
    → Goes (starts d answers store start.budget total) again answers store (begun start)
unfolding write_goals
goes_first {gs = gs} {ms} start again e h = record {
  level = opening gs ms;
  same = e;
  stored = h;
  lists = record { listed = refl; words = refl; counted = refl };
  size = refl;
  room = refl;
  inside = omega arith;
  paid = omega arith;
  few = omega arith;
}

-- Level 0's run from given goals; and a press.
abbrev pub run_from : Deck → List ℕ → List ℕ → List Goal → List Marked → ℕ → Started
run_from d answers store gs ms budget = starts d answers store budget (evaluate_level d.clauses (length answers) (length store) 32 zeroth (opening gs ms) (rules.opening budget))

abbrev pub press_from : Deck → List ℕ → List ℕ → List Goal → List Marked → ℕ → Started
press_from d answers store gs ms budget = starts d answers store budget (press_level d.clauses (length answers) (length store) (opening gs ms) (rules.opening budget))

-- A press takes its one step.
pub goes-press : (d : Deck) (answers store : List ℕ) (gs : List Goal) (ms : List Marked) (start : Start) → Stored d.symbols store start.parts.parked start.parts.held (opening gs ms)
    → let s = press_from d answers store gs ms start.budget in Goes s (step_then s (ended rules.succeeded)) answers store (begun start)
unfolding press_level
goes-press d answers store gs ms start h = goes_first start (step_then (press_from d answers store gs ms start.budget) (ended rules.succeeded)) refl h

-- A run takes one step more.
pub goes-one_step : {s : Started} {answers store : List ℕ} {p : Progress} → Goes s (evaluates s) answers store p → Goes s (step_then s (evaluates s)) answers store p
goes-one_step {s} {p = p} r = record {
  level = r.level;
  same = r.same ∙ level-one_step s.deck.clauses (length s.answers) (length s.store) 32 zeroth r.level (account_of p.account);
  stored = r.stored;
  lists = r.lists;
  size = r.size;
  room = r.room;
  inside = r.inside;
  paid = r.paid;
  few = r.few;
}

-- One more answer.
answer-listed : {l : Level} {answers₀ answers' : List ℕ} {used count : ℕ} (g : Goal) (gs : List Goal) (answers'' : List ℕ) → Lists l answers₀ answers' used count
    → used + goal_words g ≤ length answers₀ → answers'' ≡ sets answers' used (pending_words g) → Lists (with_answer g gs l) answers₀ answers'' (used + goal_words g) (count + 1)
unfolding with_answer write_goals
answer-listed {l} {answers₀} {answers'} {used} {count} g gs answers'' h f e =
    let ws = write_goals (unmarked l.answers) in
    let n : length (pending_words g) ≡ goal_words g = omega (arith, cells-length g) in
    let lw : length ws ≡ used = goals-length (unmarked l.answers) ∙ unmarked-words l.answers ∙ sym h.words in
    let la : length answers' ≡ length answers₀ = ap length h.listed ∙ length-append ws (drop used answers₀) ∙ omega (arith, length-drop used answers₀) in
    let after : drop (used + length (pending_words g)) answers' ≡ drop (used + goal_words g) answers₀ =
    ap (λ (k : ℕ). drop (used + k) answers') n ∙ sym (drop-drop (goal_words g) used answers')
    ∙ ap (drop (goal_words g)) (ap (drop used) h.listed ∙ drop_at ws (drop used answers₀) used lw) ∙ drop-drop (goal_words g) used answers₀ in
    let all : write_goals (unmarked (l.answers ++ (g ∷ []))) ≡ ws ++ pending_words g =
    ap write_goals (unmarked-append l.answers (g ∷ [])) ∙ goals-append (unmarked l.answers) (unmarked (g ∷ [])) ∙ ap (ws ++◌) (goals-first g [] ∙ append-nil (pending_words g)) in
    record {
      listed =
          e ∙ sets-eq (pending_words g) answers' used (omega arith) ∙ ap (λ (r : List ℕ). take used answers' ++ pending_words g ++ r) after
          ∙ ap (λ (r : List ℕ). r ++ pending_words g ++ drop (used + goal_words g) answers₀) (ap (take used) h.listed ∙ take_at ws (drop used answers₀) used lw)
          ∙ sym (ap (◌++ drop (used + goal_words g) answers₀) all);
      words = omega (arith, h.words, words_of-append l.answers (g ∷ []));
      counted = omega (arith, h.counted, length-append l.answers (g ∷ []));
    }

module _ {s : Started} (again : Again) {answers store : List ℕ} {p : Progress} (r : Goes s (step_then s again) answers store p) where
  -- NOTHING IS HELD
  pub stops-empty : p.parts.held ≤ 0 → Stops s answers store (record { stop = Finished; at = p })
  stops-empty z = record {
    level = r.level;
    same =
        r.same
        ∙ step-empty s.deck.clauses (length s.answers) (length s.store) 32 zeroth again r.level (account_of p.account) (none-held r.level.pending r.stored.pending z);
    stored = r.stored;
    lists = r.lists;
    size = r.size;
    room = r.room;
    paid = omega (arith, r.paid);
  }

  -- SOMETHING IS HELD
  module _ (some : 0 < p.parts.held) where
    first : FirstOf r.level.pending
    first = first_of r.level.pending r.stored.pending some

    first-held : Holding s.deck.symbols (drop p.parts.parked store) p.parts.held (first.first ∷ first.rest)
    first-held = subst (Holding s.deck.symbols (drop p.parts.parked store) p.parts.held) first.same r.stored.pending

    pub some_first : (deck_words : List ℕ) → open_deck deck_words ≡ accepted s.deck → SomeFirst deck_words (mid_of p.parts.parked (length store - p.parts.parked) store) p.parts.held
    some_first deck_words o = rw (part-all store p.parts.parked r.stored.inside) (record { deck = s.deck; first = first.first; goals = first.rest; opens = o; holding = first-held })

    pub stops-spent : p.account.left ≡ 0 → Stops s answers store (record { stop = Budget; at = p })
    stops-spent z =
        record {
          level = r.level;
          same =
              r.same
              ∙ step-spent s.deck.clauses (length s.answers) (length s.store) 32 zeroth again r.level (account_of p.account) first.first first.rest first.same z;
          stored = r.stored;
          lists = r.lists;
          size = r.size;
          room = r.room;
          paid = omega (arith, r.paid);
        }

    -- A STEP, which leaves `part` past the parked goals.
    module _ (pays : 0 < p.account.left) (deck_words : List ℕ) (opens : open_deck deck_words ≡ accepted s.deck) (part : List ℕ)
        (long : length part ≡ length (mid_of p.parts.parked (length store - p.parts.parked) store)) where
      -- The store with the part in its place.
      abbrev stepped-store : List ℕ
      stepped-store = put_mid p.parts.parked (length store - p.parts.parked) store part

      back : stepped-store ≡ take p.parts.parked store ++ part
      back = put_all store part p.parts.parked r.stored.inside

      part-long : length part ≡ length (drop p.parts.parked store)
      part-long = long ∙ ap length (part-all store p.parts.parked r.stored.inside)

      all-long : length stepped-store ≡ length s.store
      all-long = same_len_mid p.parts.parked (length store - p.parts.parked) store part long ∙ r.size

      stands : LevelHolds zeroth r.level (first.first ∷ first.rest) (length (drop p.parts.parked store)) (length s.store)
      stands =
          subst (LevelHolds zeroth r.level (first.first ∷ first.rest) (length (drop p.parts.parked store))) r.size
          (stored-stands r.stored (first.first ∷ first.rest) first.same)

      -- The first goals are as they were.
      unchanged : take p.parts.held part ≡ take p.parts.held (drop p.parts.parked store) → Goes s (step_then s again) answers stepped-store p
      unchanged e = record {
        level = r.level;
        same = r.same;
        stored = kept_back r.stored part back part-long e;
        lists = r.lists;
        size = all-long;
        room = r.room;
        inside = r.inside;
        paid = r.paid;
        few = r.few;
      }

      by_turn : (t : Result Turn Halt) → Turned s.deck 32 (drop p.parts.parked store) p.parts.held p.account first.first first.rest part t
          → Stepped s again answers stepped-store p t
      unfolding with_pending unchanged
      by_turn (Ok Empty) u = record { goes = unchanged u.1; goal = first.first; others = first.rest; first = first.same; empty = u.0; pays = pays }
      by_turn (Ok (Park m k)) u = record {
        goes = unchanged u.2;
        goal = first.first;
        others = first.rest;
        first = first.same;
        less = u.0;
        later = u.1;
        same = u.3 (length s.answers) (length s.store) zeroth again r.level stands;
      }
      by_turn (Ok (More h k)) u = (
        u.0,
        record {
          level = with_pending u.2.0 r.level;
          same = r.same ∙ u.2.2 (length s.answers) (length s.store) zeroth again r.level stands;
          stored = put_back r.stored part back h u.2.0 u.2.1;
          lists = record { listed = r.lists.listed; words = r.lists.words; counted = r.lists.counted };
          size = all-long;
          room = r.room;
          inside = r.inside;
          paid = omega (arith, r.paid, u.1.1);
          few = r.few;
        },
      )
      by_turn (Err halt) u = record {
        level = r.level;
        same = r.same ∙ u.2 (length s.answers) (length s.store) zeroth again r.level stands;
        stored = kept_back r.stored part back part-long u.1;
        lists = r.lists;
        size = all-long;
        room = r.room;
        paid = omega (arith, r.paid, u.0.0);
      }

      -- What a step came to, whatever the deck and the first goal.
      pub stepped : (t : Result Turn Halt)
          → ((d : Deck) (g : Goal) (gs : List Goal) → open_deck deck_words ≡ accepted d
          → Holding d.symbols (mid_of p.parts.parked (length store - p.parts.parked) store) p.parts.held (g ∷ gs)
          → Turned d 32 (mid_of p.parts.parked (length store - p.parts.parked) store) p.parts.held p.account g gs part t)
          → Stepped s again answers stepped-store p t
      stepped t took =
          let e = part-all store p.parts.parked r.stored.inside in
          by_turn t ((rw e at took) s.deck first.first first.rest opens first-held)

-- Where a goal is pending, words are held.
some-held : {S : List Symbol} {store : List ℕ} {parked held' : ℕ} {l : Level} {g : Goal} {gs : List Goal} → Stored S store parked held' l → l.pending ≡ g ∷ gs → 0 < held'
some-held {g = g} {gs} h e = omega (arith, first_fits h g gs e, cells-length g)

-- The first pending goal has no literals: its words go to the answer list, or there is no room for them.
module _ {s : Started} {again : Again} {answers store : List ℕ} {p : Progress} (b : Bare s again answers store p) where
  pub bare-held : 0 < p.parts.held
  bare-held = some-held b.goes.stored b.first

  bare-size : get_or store (p.parts.parked + p.parts.held - 1) 0 ≡ goal_words b.goal
  bare-size = first_word b.goes.stored b.goal b.others b.first

  pub stops-unlisted : length answers - p.filled < get_or store (p.parts.parked + p.parts.held - 1) 0 → Stops s answers store (record { stop = Answers; at = p })
  stops-unlisted f =
      let r = b.goes in
      record {
        level = r.level;
        same =
            r.same
            ∙ unlisted s.deck.clauses (length s.answers) (length s.store) 32 again b.goal b.others p.account b.pays r.level b.first
            b.empty (omega (arith, bare-size, r.lists.words, r.room, r.inside));
        stored = r.stored;
        lists = r.lists;
        size = r.size;
        room = r.room;
        paid = omega (arith, r.paid);
      }

  pub goes-listed : (answers' : List ℕ) → p.filled + get_or store (p.parts.parked + p.parts.held - 1) 0 ≤ length answers
      → answers' ≡ sets answers p.filled (take (get_or store (p.parts.parked + p.parts.held - 1) 0) (reverse (take (p.parts.parked + p.parts.held) store)))
      → let n = get_or store (p.parts.parked + p.parts.held - 1) 0 in
      Goes s again answers' store (record { parts = record { parked = p.parts.parked; held = p.parts.held - n }; account = paid_one p.account; filled = p.filled + n; listed = p.listed + 1 })
  goes-listed answers' f q =
      let r = b.goes in
      let same-room : length answers' ≡ length answers = ap length q ∙ length-sets answers p.filled (take (get_or store (p.parts.parked + p.parts.held - 1) 0) (reverse (take (p.parts.parked + p.parts.held) store))) in
      record {
        level = with_answer b.goal b.others r.level;
        same =
            r.same
            ∙ lists s.deck.clauses (length s.answers) (length s.store) 32 again b.goal b.others p.account b.pays r.level b.first b.empty
            (omega (arith, bare-size, r.lists.words, r.room)) (omega (arith, stored-inside r.stored, parked-words r.stored, first_fits r.stored b.goal b.others b.first, r.size));
        stored = rw bare-size (rest-stored r.stored b.goal b.others b.first);
        lists = rw bare-size (answer-listed b.goal b.others answers' r.lists (omega (arith, bare-size, r.room))
            (q ∙ ap (sets answers p.filled) (ap (λ (k : ℕ). take k (reverse (take (p.parts.parked + p.parts.held) store))) bare-size ∙ first-copied r.stored b.goal b.others b.first)));
        size = r.size;
        room = same-room ∙ r.room;
        inside = omega (arith, same-room);
        paid = omega (arith, r.paid, b.pays);
        few = omega (arith, r.few, bare-size, cells-length b.goal);
      }

-- The first pending goal is parked.
module _ {s : Started} {again : Again} {answers store : List ℕ} {p : Progress} {m : declared.Mark} {k : Account} (w : Waits s again answers store p m k) where
  pub waits-held : 0 < p.parts.held
  waits-held = some-held w.goes.stored w.first

  -- What parking leaves, whatever the first goal.
  abbrev Parks : ℕ → List ℕ → Type 0
  Parks n store' = (S : List Symbol) (l : Level) (g : Goal) (gs : List Goal) → l.pending ≡ g ∷ gs → Stored S store p.parts.parked p.parts.held l
      → (n ≡ goal_words g) × (n ≤ p.parts.held) × Stored S store' (p.parts.parked + n) (p.parts.held - n) (with_parked (mark_of m) g gs l)

  pub parks-within : (n : ℕ) (store' : List ℕ) → Parks n store' → n ≤ p.parts.held
  parks-within n store' z = (z s.deck.symbols w.goes.level w.goal w.others w.first w.goes.stored).1

  pub goes-parked : (n : ℕ) (store' : List ℕ) → Parks n store' → length store' ≡ length store
      → Goes s again answers store' (record { parts = record { parked = p.parts.parked + n; held = p.parts.held - n }; account = k; filled = p.filled; listed = p.listed })
  unfolding with_parked
  goes-parked n store' z e =
      let r = w.goes in
      record {
        level = with_parked (mark_of m) w.goal w.others r.level;
        same = r.same ∙ w.same;
        stored = (z s.deck.symbols r.level w.goal w.others w.first r.stored).2;
        lists = record { listed = r.lists.listed; words = r.lists.words; counted = r.lists.counted };
        size = e ∙ r.size;
        room = r.room;
        inside = r.inside;
        paid = omega (arith, r.paid, w.later.1);
        few = r.few;
      }

-- The end, in numbers, with the goals put in order.
pub topped : (s : Started) {ending : rules.Ending} {answers store : List ℕ} {p : Progress} (store' : List ℕ) (t : Totals) → Rests s ending answers store p
    → ((S : List Symbol) (l : Level) → Stored S store p.parts.parked p.parts.held l → Totalled p s.budget l store' t) → TopLevelEnds s.ends ending s.answers s.budget answers store' t
topped s {p = p} store' t h o =
    let k = o s.deck.symbols h.level h.stored in
    record {
      level = h.level;
      account = account_of p.account;
      ends = h.same;
      steps = k.steps;
      cost = k.cost;
      listed = h.lists.listed ∙ ap (λ (n : ℕ). write_goals (unmarked h.level.answers) ++ drop n s.answers) h.lists.words;
      answered = k.answers ∙ h.lists.counted;
      ordered = k.ordered;
    }

-- A press goes on no further: it rests where its step has brought it, or stops.
pub rests-advanced : (s : Started) (k : ℕ) {answers store : List ℕ} (taken : Result Progress End) → Follows s (ended rules.succeeded) k answers store taken
    → Rests s (ending_of (advance_by taken).0) answers store (advance_by taken).1
rests-advanced s k (Ok p) h = let r = h.1 in record { level = r.level; same = r.same; stored = r.stored; lists = r.lists; size = r.size; room = r.room; paid = omega (arith, r.paid) }
rests-advanced s k (Err e) h = h
