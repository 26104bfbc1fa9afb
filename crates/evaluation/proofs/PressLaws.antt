-- A press: refused, on a finished query, and from the goals that were let through; and what its display shows.
use Prim.Native.Nat.{ℕ, ◌-◌, ◌≤◌, ◌<◌}
use mathlib.Core.Path.{◌≡◌, refl, sym, ◌∙◌, ap, subst}
use mathlib.Core.List.{List, [], ◌∷◌, ◌++◌}
use native.Mathlib.Omega.{arith}
use lib.ListN.{length, take, drop}
use lib.Seq.{take_at}
use Rattle.std.specs.Prelude.{Ok, Err}
use Rattle.rules.specs.Syntax.{Deck, Goal}
use Rattle.rules.specs.Refusals.{Checked, refused, accepted, and_then}
use Rattle.rules.specs.Goals.{Marked, unmarked, goal_words, marked_words, write_goals, words_of}
use Rattle.rules.specs.Evaluation as rules
use Rattle.rules.specs.Evaluation.{finished}
use Rattle.rules.specs.Run.{Carried, carry, answers_after, store_start, Slices}
use Rattle.rules.specs.Press as press
use Rattle.rules.specs.Press.{prevented, press_level, press_once, press_from, counted, counts, PressFilled, PressLeaves, PressedOn, displayed, display_after, advanced, press_with, PressedWith}
use Rattle.rules.proofs.GoalLaws.{goals-length, unmarked-words}
use Rattle.rules.proofs.StoredLaws.{OpenReads, open-reads}
use Rattle.rules.proofs.PressLaws.{press-finished, press-prevented}
use Rattle.rules.proofs.Carried.{carry-parts}
use Rattle.deck.specs.Answers.{refusal_for}
use Rattle.deck.specs.declared.Refusal.{Refusal}
use Rattle.report.specs.Reports.{ending_of, advance_of, counted_of}
use Rattle.report.specs.declared.Advance.{Advance}
use Rattle.report.specs.declared.Advance.TheVariants.{Stepped, Prevented}
use Rattle.report.specs.declared.Pressed.{Pressed}
use Rattle.top_level.specs.Top.{opening, TopLevelEnds, of_press}
use Rattle.evaluation.specs.Results.{slices, CarriedAs, admitted}
use Rattle.evaluation.specs.Displays.{finished_press, pressed_of}
use Rattle.evaluation.proofs.CarryLaws.{admitted-then, let-carries, carried-sizes}

-- What a press leaves, from the goals gs pending and ms parked, in a store of so many words. It asks of the store only how long it is.
abbrev pub PressTops : Deck → ℕ → List ℕ → List Goal → List Marked → ℕ → List ℕ → List ℕ → Pressed → Type 0
PressTops d store_size answers gs ms total answers' store' r =
    TopLevelEnds (press_level d.clauses (length answers) store_size (opening gs ms) (rules.opening total)) (ending_of r.advance) answers total answers' store' (of_press r)

pub press-as : (d : Deck) (gs : List Goal) (ms : List Marked) (r : Pressed) {n m total : ℕ} {answers answers' store' : List ℕ} → n ≡ m
    → PressTops d n answers gs ms total answers' store' r → PressTops d m answers gs ms total answers' store' r
press-as d gs ms r {total = total} {answers} {answers'} {store'} e t = subst (λ (k : ℕ). PressTops d k answers gs ms total answers' store' r) e t

advance-same : (a : Advance) → press.advance_of (ending_of a) ≡ advance_of a
advance-same Stepped = refl
advance-same (Prevented s) = refl

-- Goals are as few as their words.
marked-few : (ms : List Marked) → length ms ≤ marked_words ms
unfolding goal_words
marked-few [] = omega arith
marked-few (m ∷ ms) = omega (arith, marked-few ms)

none-left : (gs : List Goal) → length gs ≡ 0 → gs ≡ []
none-left [] e = refl
none-left (g ∷ gs) e = absurd (omega (arith, e))

module _ (deck_words : List ℕ) (n k terms : ℕ) (store scratch bars : List ℕ) (budget : ℕ) (answers : List ℕ) where
  abbrev admits : Checked Carried
  admits = admitted (carry deck_words n k terms store (length scratch)) bars

  from-admitted : press_from deck_words n k terms bars budget (slices answers store scratch)
      ≡ and_then admits (λ x. accepted (press.press x.deck (length answers) (length store) x.goals.pending x.goals.parked budget))
  unfolding press_from press_once
  from-admitted =
      admitted-then (carry deck_words n k terms store (length scratch)) bars (λ x. press.press x.deck (length answers) (length store) x.goals.pending x.goals.parked budget)

  pub pressed-refused : (w : Refusal) → admits ≡ refused (refusal_for w)
      → PressedOn deck_words n k terms bars budget (slices answers store scratch) (pressed_of (Err w)) (slices answers store scratch)
  unfolding counts and_then PressLeaves
  pressed-refused w e =
      let s : Slices = slices answers store scratch in
      let c : press_from deck_words n k terms bars budget s ≡ refused (refusal_for w) = from-admitted ∙ rw e in
      record { returns = sym (ap counts c); leaves = subst (λ (x : Checked press.Pressed). PressLeaves x s s) (sym c) refl }

  module _ (p : ℕ × ℕ) (h : CarriedAs admits store (Ok p)) where
    abbrev gs : List Goal
    gs = h.0.goals.pending

    abbrev ms : List Marked
    ms = h.0.goals.parked

    reads : OpenReads h.0.deck.symbols n k terms store h.0.goals
    reads = open-reads h.0.deck.symbols n k terms store h.0.goals
        (carry-parts deck_words n k terms store (length scratch) h.0 (let-carries deck_words n k terms store (length scratch) bars p h)).1

    pub parked-small : k ≤ 65535
    parked-small =
        let o = h.2 in
        omega (arith, reads.parked_many, marked-few ms, o.parked_words, o.inside, (carried-sizes deck_words n k terms store (length scratch) bars p h).1)

    presses : press_from deck_words n k terms bars budget (slices answers store scratch) ≡ accepted (press.press h.0.deck (length answers) (length store) gs ms budget)
    unfolding and_then
    presses = from-admitted ∙ (let e = h.1 in rw e)

    -- ON A FINISHED QUERY
    pub pressed-finished : n ≡ 0
        → PressedOn deck_words n k terms bars budget (slices answers store scratch) (pressed_of (Ok (finished_press k))) (slices answers store scratch)
    unfolding counts counted PressLeaves answers_after store_start write_goals
    pressed-finished z =
        let s : Slices = slices answers store scratch in
        let empty : gs ≡ [] = none-left gs (reads.pending_many ∙ z) in
        let o : press.Pressed = record { advance = prevented finished; steps = 0; cost = 0; answers = []; pending = []; parked = ms } in
        let is : press_from deck_words n k terms bars budget s ≡ accepted o =
        presses ∙ ap (λ x. accepted (press.press h.0.deck (length answers) (length store) x ms budget)) empty
        ∙ ap accepted (press-finished h.0.deck (length answers) (length store) ms budget) in
        let begins : store ≡ write_goals ms ++ reads.rest = reads.written ∙ ap (λ x. write_goals (unmarked x ++ ms) ++ reads.rest) empty in
        record {
          returns = (λ i. accepted (record { advance = prevented finished; steps = 0; cost = 0; answers = 0; pending = 0; parked = sym reads.parked_many i })) ∙ ap counts (sym is);
          leaves = subst (λ (x : Checked press.Pressed). PressLeaves x s s) (sym is) (record {
            filled = record {
              answers = refl;
              store = ap (take (length (write_goals ms))) begins ∙ take_at (write_goals ms) reads.rest (length (write_goals ms)) refl;
              store_length = refl;
              scratch_length = refl;
            };
            untouched = λ _. refl;
          });
        }

    -- FROM GOALS THAT ARE PENDING
    pub pressed-accepted : (answers' store' scratch' : List ℕ) (r : Pressed) → length store' ≡ length store → length scratch' ≡ length scratch → 0 < n
        → PressTops h.0.deck (length store) answers gs ms budget answers' store' r
        → PressedOn deck_words n k terms bars budget (slices answers store scratch) (pressed_of (Ok r)) (slices answers' store' scratch')
    unfolding press.press counts counted PressLeaves answers_after store_start
    pressed-accepted answers' store' scratch' r same rest some t =
        let l = t.level in
        let o : press.Pressed =
        record { advance = press.advance_of (ending_of r.advance); steps = t.account.steps; cost = budget - t.account.left; answers = l.answers; pending = l.pending; parked = l.parked } in
        let does : press.press h.0.deck (length answers) (length store) gs ms budget ≡ o = ap (press.pressed_of budget) t.ends in
        let is : press_from deck_words n k terms bars budget (slices answers store scratch) ≡ accepted o = presses ∙ ap accepted does in
        let m : length (write_goals (unmarked l.answers)) ≡ words_of l.answers = goals-length (unmarked l.answers) ∙ unmarked-words l.answers in
        record {
          returns =
              (λ i. accepted (record {
                advance = sym (advance-same r.advance) i;
                steps = t.steps i;
                cost = t.cost i;
                answers = t.answered i;
                pending = t.ordered.pending i;
                parked = t.ordered.parked i;
              }))
              ∙ ap counts (sym is);
          leaves = subst (λ (x : Checked press.Pressed). PressLeaves x (slices answers store scratch) (slices answers' store' scratch')) (sym is) (record {
            filled = record {
              answers = t.listed ∙ ap (λ (j : ℕ). write_goals (unmarked l.answers) ++ drop j answers) (sym m);
              store = t.ordered.begins;
              store_length = same;
              scratch_length = rest;
            };
            untouched = λ e.
                let empty : gs ≡ [] = press-prevented h.0.deck (length answers) (length store) gs ms budget (ap (λ (x : press.Pressed). x.advance) does ∙ e) in
                absurd (omega (arith, reads.pending_many, ap length empty));
          });
        }

-- THE DISPLAY
module _ (deck_words : List ℕ) (terms : ℕ) (bars : List ℕ) (budget : ℕ) (entry exit : Slices) (d : press.Display) where
  pub display-refused : (w : Refusal) → PressedOn deck_words d.pending d.parked terms bars budget entry (pressed_of (Err w)) exit
      → PressedWith deck_words terms bars budget entry d (refused (refusal_for w)) exit d
  unfolding press_with advanced display_after
  display-refused w p = record { returns = ap advanced p.returns; leaves = p.leaves; display = ap (display_after d) p.returns }

  pub display-accepted : (r : Pressed) (d' : press.Display) → PressedOn deck_words d.pending d.parked terms bars budget entry (pressed_of (Ok r)) exit → d' ≡ displayed d (counted_of r)
      → PressedWith deck_words terms bars budget entry d (accepted (advance_of r.advance)) exit d'
  unfolding press_with advanced display_after
  display-accepted r d' p e = record { returns = ap advanced p.returns; leaves = p.leaves; display = e ∙ ap (display_after d) p.returns }
