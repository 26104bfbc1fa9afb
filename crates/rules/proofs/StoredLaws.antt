-- Open goals in a store (document 02, U4): what is read was written and is well formed; what is written is read; and so a run can carry on from
-- what a run leaves.
use Prim.Native.Nat.{ℕ, ◌+◌, ◌≤◌}
use mathlib.Core.Path.{◌≡◌, refl, sym, ◌∙◌, ap, ap₂, subst}
use mathlib.Core.Logic.{◌⊎◌, inl, inr}
use mathlib.Core.Bool.{Bool, true, false, ◌&&◌, and-eq-true_iff}
use mathlib.Core.Option.{Option, none, some, none-ne-some, some-injective}
use mathlib.Core.List.{List, [], ◌∷◌, ◌++◌, map, append-nil, append_assoc, Memᴰ}
use native.Mathlib.Omega.{arith}
use lib.ListN.{length, take, drop, length-append, length-map, length-take, length-drop, take-append-drop}
use lib.Seq.{take_at, drop_at}
use lib.Dec.{leb, eqb}
use borrow.Author.Tests.{eqb-true, eq-eqb, leb-true, le-leb}
use Rattle.rules.specs.Terms.{Terms, count}
use Rattle.rules.specs.Syntax.{Symbol, Literal, Clause, Deck, Goal, top_goal}
use Rattle.rules.specs.Goals.{Mark, pending, floundered, undecided, oversized, deep, mark_number, Marked, marked, unmarked, goal_words, write_goals, read_goals, renumber}
use Rattle.rules.specs.Unification.{Unification, fails, spent, solved, applys}
use Rattle.rules.specs.Resolution.{clauses_about, resolved, resolvent, resolvents}
use Rattle.rules.specs.WellFormed.{All, WfTerms, WfLiterals, WfGoal, WfMarked, WfDeck}
use Rattle.rules.specs.Stored.{goal_fits, pending_fits, parked_fits, every, OpenGoals, as_open, read_open}
use Rattle.rules.specs.Evaluation.{Level, with_pending, with_parked, with_answer, Place, zeroth, derive, Question, question, step, ask, Outcome, evaluate}
use Rattle.rules.proofs.ListLaws.{all_append, all_split, all_snoc, all_of, all-weaken, all_both, in_all, unmarked-all, length-unmarked}
use Rattle.rules.proofs.TermLaws.{applys-count}
use Rattle.rules.proofs.FormedLaws.{renames-count, Perhaps, collect-all}
use Rattle.rules.proofs.NextLaws.{Acts, resolves, Ahead, lists, parks, replaces, inquires}
use Rattle.rules.proofs.EndLaws.{Keeps, runs-keep, evaluated}
use Rattle.rules.proofs.GoalLaws.{read-goals, GoalsReads, goals-reads}
use Rattle.rules.proofs.Keeps.{Parks, evaluate-shape}
use Rattle.rules.proofs.GoalsKept.{evaluate-keeps}

-- TESTS OF LISTS
module _ {ℓ} {A : Type ℓ} (test : A → Bool) where
  every-all : (xs : List A) → every test xs ≡ true → All (λ x. test x ≡ true) xs
  unfolding every
  every-all [] e = tt
  every-all (x ∷ xs) e = let r = (and-eq-true_iff (test x) (every test xs)).0 e in (r.0, every-all xs r.1)

  all-every : (xs : List A) → All (λ x. test x ≡ true) xs → every test xs ≡ true
  unfolding every
  all-every [] h = refl
  all-every (x ∷ xs) h = (and-eq-true_iff (test x) (every test xs)).1 (h.0, all-every xs h.1)

-- A well-formed goal of so many answer terms.
pub record Fits (S : List Symbol) (terms : ℕ) (g : Goal) : Type 0 where
  pub wf : WfGoal S g
  pub many : count g.answer_terms ≡ terms

abbrev pub ParkedFits : List Symbol → ℕ → Marked → Type 0
ParkedFits S terms m = Parks m.mark × Fits S terms m.goal

fits-test : (S : List Symbol) (terms : ℕ) (g : Goal) → Fits S terms g → goal_fits terms g ≡ true
unfolding goal_fits
fits-test S terms g h = rw (eq-eqb (count g.answer_terms) terms h.many, le-leb (goal_words g) 1024 h.wf.short) h.wf.in_order

test_fits : (S : List Symbol) (terms : ℕ) (g : Goal) → WfTerms S g.answer_terms → WfLiterals S g.literals → goal_fits terms g ≡ true → Fits S terms g
unfolding goal_fits
test_fits S terms g a l e =
    let r = (and-eq-true_iff (eqb (count g.answer_terms) terms) _).0 e in
    let s = (and-eq-true_iff (leb (goal_words g) 1024) _).0 r.1 in
    record {
      wf = record { answer_terms = a; literals = l; in_order = s.1; short = leb-true (goal_words g) 1024 s.0 };
      many = eqb-true (count g.answer_terms) terms r.0;
    }

mark-0 : (m : Mark) → mark_number m ≡ 0 → m ≡ pending
unfolding mark_number
mark-0 pending e = refl
mark-0 floundered e = absurd (omega arith)
mark-0 undecided e = absurd (omega arith)
mark-0 oversized e = absurd (omega arith)
mark-0 deep e = absurd (omega arith)

mark-parks : (m : Mark) → 1 ≤ mark_number m → Parks m
unfolding mark_number
mark-parks pending h = absurd (omega arith)
mark-parks floundered h = tt
mark-parks undecided h = tt
mark-parks oversized h = tt
mark-parks deep h = tt

parks-mark : (m : Mark) → Parks m → 1 ≤ mark_number m
unfolding mark_number
parks-mark pending h = absurd h
parks-mark floundered h = omega arith
parks-mark undecided h = omega arith
parks-mark oversized h = omega arith
parks-mark deep h = omega arith

-- WHAT IS READ
abbrev Symbols : List Symbol → Marked → Type 0
Symbols S m = WfTerms S m.goal.answer_terms × WfLiterals S m.goal.literals

pendings-unmarked : (terms : ℕ) (ms : List Marked) → All (λ m. pending_fits terms m ≡ true) ms → unmarked (map (λ m. m.goal) ms) ≡ ms
unfolding pending_fits
pendings-unmarked terms [] h = refl
pendings-unmarked terms (m ∷ ms) h =
    let e = mark-0 m.mark (eqb-true (mark_number m.mark) 0 ((and-eq-true_iff (eqb (mark_number m.mark) 0) _).0 h.0).0) in
    ap₂ ◌∷◌ (λ i. record { mark = sym e i; goal = m.goal }) (pendings-unmarked terms ms h.1)

pendings-fit : (S : List Symbol) (terms : ℕ) (ms : List Marked) → All (Symbols S) ms → All (λ m. pending_fits terms m ≡ true) ms → All (Fits S terms) (map (λ m. m.goal) ms)
unfolding pending_fits
pendings-fit S terms [] w h = tt
pendings-fit S terms (m ∷ ms) w h =
    (test_fits S terms m.goal w.0.0 w.0.1 ((and-eq-true_iff (eqb (mark_number m.mark) 0) _).0 h.0).1, pendings-fit S terms ms w.1 h.1)

parkeds-fit : (S : List Symbol) (terms : ℕ) (ms : List Marked) → All (Symbols S) ms → All (λ m. parked_fits terms m ≡ true) ms → All (ParkedFits S terms) ms
unfolding parked_fits
parkeds-fit S terms [] w h = tt
parkeds-fit S terms (m ∷ ms) w h =
    let r = (and-eq-true_iff (leb 1 (mark_number m.mark)) _).0 h.0 in
    ((mark-parks m.mark (leb-true 1 (mark_number m.mark) r.0), test_fits S terms m.goal w.0.0 w.0.1 r.1), parkeds-fit S terms ms w.1 h.1)

-- The open goals that a store begins with.
pub record OpenReads (S : List Symbol) (pendings parkeds terms : ℕ) (ws : List ℕ) (o : OpenGoals) : Type 0 where
  pub rest : List ℕ
  pub written : ws ≡ write_goals (unmarked o.pending ++ o.parked) ++ rest
  pub pending_many : length o.pending ≡ pendings
  pub parked_many : length o.parked ≡ parkeds
  pub pending : All (Fits S terms) o.pending
  pub parked : All (ParkedFits S terms) o.parked

pub open-reads : (S : List Symbol) (n k terms : ℕ) (ws : List ℕ) (o : OpenGoals) → read_open S n k terms ws ≡ some o → OpenReads S n k terms ws o
unfolding read_open as_open
open-reads S n k terms ws o e = go (read_goals S (n + k) ws) refl e
  where
    split : (ms : List Marked) → GoalsReads S (n + k) ws ms → All (λ m. pending_fits terms m ≡ true) (take n ms) → All (λ m. parked_fits terms m ≡ true) (drop n ms)
        → OpenReads S n k terms ws (record { pending = map (λ m. m.goal) (take n ms); parked = drop n ms })
    split ms r p q =
        let w = all_split (Symbols S) (take n ms) (drop n ms) (subst (All (Symbols S)) (sym (take-append-drop n ms)) r.symbols) in
        record {
          rest = r.rest;
          written = r.written ∙ ap (λ (xs : List Marked). write_goals xs ++ r.rest) (sym (take-append-drop n ms) ∙ ap (λ (xs : List Marked). xs ++ drop n ms) (sym (pendings-unmarked terms (take n ms) p)));
          pending_many = length-map (take n ms) (λ m. m.goal) ∙ omega (arith, length-take n ms, r.many);
          parked_many = omega (arith, length-drop n ms, r.many);
          pending = pendings-fit S terms (take n ms) w.0 p;
          parked = parkeds-fit S terms (drop n ms) w.1 q;
        }

    tested : (ms : List Marked) → GoalsReads S (n + k) ws ms → (b : Bool) → (every (pending_fits terms) (take n ms) && every (parked_fits terms) (drop n ms)) ≡ b
        → (elim b as (λ _. Option OpenGoals) [ true ↦ some (record { pending = map (λ m. m.goal) (take n ms); parked = drop n ms }) | false ↦ none ]) ≡ some o
        → OpenReads S n k terms ws o
    tested ms r true t q =
        let s = (and-eq-true_iff (every (pending_fits terms) (take n ms)) _).0 t in
        subst (OpenReads S n k terms ws) (some-injective _ o q)
        (split ms r (every-all (pending_fits terms) (take n ms) s.0) (every-all (parked_fits terms) (drop n ms) s.1))
    tested ms r false t q = absurd (none-ne-some o q)

    go : (r : Option (List Marked)) → read_goals S (n + k) ws ≡ r → as_open n terms r ≡ some o → OpenReads S n k terms ws o
    go none r q = absurd (none-ne-some o q)
    go (some ms) r q = tested ms (goals-reads S (n + k) ws ms r) (every (pending_fits terms) (take n ms) && every (parked_fits terms) (drop n ms)) refl q

-- As one list, pending ones first.
pub open-list : (S : List Symbol) (n k terms : ℕ) (ws : List ℕ) (o : OpenGoals) → OpenReads S n k terms ws o → read_goals S (n + k) ws ≡ some (unmarked o.pending ++ o.parked)
open-list S n k terms ws o r =
    let ms : List Marked = unmarked o.pending ++ o.parked in
    let many : length ms ≡ n + k = omega (arith, length-append (unmarked o.pending) o.parked, length-unmarked o.pending, r.pending_many, r.parked_many) in
    let wf = all_append (WfMarked S) (unmarked o.pending) o.parked
    (unmarked-all (WfGoal S) o.pending (all-weaken (Fits S terms) (WfGoal S) (λ g h. h.wf) o.pending r.pending))
    (all-weaken (ParkedFits S terms) (WfMarked S) (λ m h. h.1.wf) o.parked r.parked) in
    subst (λ x. read_goals S x ws ≡ some ms) many (subst (λ xs. read_goals S (length ms) xs ≡ some ms) (sym r.written) (read-goals S ms r.rest wf))

-- WHAT IS WRITTEN
unmarked-goals : (gs : List Goal) → map (λ m. m.goal) (unmarked gs) ≡ gs
unmarked-goals [] = refl
unmarked-goals (g ∷ gs) = ap (◌∷◌ g) (unmarked-goals gs)

pendings-test : (S : List Symbol) (terms : ℕ) (gs : List Goal) → All (Fits S terms) gs → All (λ m. pending_fits terms m ≡ true) (unmarked gs)
unfolding pending_fits mark_number
pendings-test S terms [] h = tt
pendings-test S terms (g ∷ gs) h = (fits-test S terms g h.0, pendings-test S terms gs h.1)

parkeds-test : (S : List Symbol) (terms : ℕ) (ms : List Marked) → All (ParkedFits S terms) ms → All (λ m. parked_fits terms m ≡ true) ms
unfolding parked_fits
parkeds-test S terms [] h = tt
parkeds-test S terms (m ∷ ms) h =
    (rw (le-leb 1 (mark_number m.mark) (parks-mark m.mark h.0.0)) (fits-test S terms m.goal h.0.1), parkeds-test S terms ms h.1)

as-open : (n terms : ℕ) (ms : List Marked) → every (pending_fits terms) (take n ms) ≡ true → every (parked_fits terms) (drop n ms) ≡ true
    → as_open n terms (some ms) ≡ some (record { pending = map (λ m. m.goal) (take n ms); parked = drop n ms })
unfolding as_open
as-open n terms ms p q = rw (p, q, as_open)

pub read-open : (S : List Symbol) (terms : ℕ) (gs : List Goal) (ms : List Marked) (rest : List ℕ) → All (Fits S terms) gs → All (ParkedFits S terms) ms
    → read_open S (length gs) (length ms) terms (write_goals (unmarked gs ++ ms) ++ rest) ≡ some (record { pending = gs; parked = ms })
unfolding read_open as_open
read-open S terms gs ms rest p q =
    let wf = all_append (WfMarked S) (unmarked gs) ms (unmarked-all (WfGoal S) gs (all-weaken (Fits S terms) (WfGoal S) (λ g h. h.wf) gs p)) (all-weaken (ParkedFits S terms) (WfMarked S) (λ m h. h.1.wf) ms q) in
    let many : length (unmarked gs ++ ms) ≡ length gs + length ms = omega (arith, length-append (unmarked gs) ms, length-unmarked gs) in
    let r : read_goals S (length gs + length ms) (write_goals (unmarked gs ++ ms) ++ rest) ≡ some (unmarked gs ++ ms) =
    subst (λ n. read_goals S n (write_goals (unmarked gs ++ ms) ++ rest) ≡ some (unmarked gs ++ ms)) many (read-goals S (unmarked gs ++ ms) rest wf) in
    ap (as_open (length gs) terms) r ∙ parts
  where
    parts : as_open (length gs) terms (some (unmarked gs ++ ms)) ≡ some (record { pending = gs; parked = ms })
    parts =
        let first = take_at (unmarked gs) ms (length gs) (length-unmarked gs) in
        let last = drop_at (unmarked gs) ms (length gs) (length-unmarked gs) in
        as-open (length gs) terms (unmarked gs ++ ms)
        (ap (every (pending_fits terms)) first ∙ all-every (pending_fits terms) (unmarked gs) (pendings-test S terms gs p))
        (ap (every (parked_fits terms)) last ∙ all-every (parked_fits terms) ms (parkeds-test S terms ms q))
        ∙ (λ i. some (record { pending = (ap (map (λ m. m.goal)) first ∙ unmarked-goals gs) i; parked = last i }))

-- WHAT A RUN LEAVES. The number of a goal's answer terms stays, at level 0.
resolved-many : (g : Goal) (u : Unification) → Perhaps (λ d. count d.answer_terms ≡ count g.answer_terms) (resolved g u)
unfolding resolved renumber
resolved-many g (fails k) = tt
resolved-many g spent = tt
resolved-many g (solved k es) = renames-count _ (applys es g.answer_terms) ∙ applys-count es g.answer_terms

resolvents-many : (clauses : List Clause) (g : Goal) (before : List Literal) (p : ℕ) (ts : Terms) (after : List Literal)
    → All (λ d. count d.answer_terms ≡ count g.answer_terms) (resolvents clauses g before p ts after)
unfolding resolvents resolvent
resolvents-many clauses g before p ts after =
    collect-all (λ d. count d.answer_terms ≡ count g.answer_terms) (λ c. Unit {0}) (resolvent (top_goal g) g.answer_terms before ts after)
    (λ c h. resolved-many _ _) (clauses_about p clauses) (all_of (λ c. Unit {0}) (λ c. tt) (clauses_about p clauses))

module _ (terms : ℕ) where
  abbrev Of : Goal → Type 0
  Of g = count g.answer_terms ≡ terms

  pub record LevelOf (l : Level) : Type 0 where
    pub pending : All Of l.pending
    pub parked : All (λ m. Of m.goal) l.parked
    pub answers : All Of l.answers

  derived-of : {clauses : List Clause} {below : ℕ} {g : Goal} {ds : List Goal} → Acts clauses below g (derive ds) → Of g → All Of ds
  derived-of {clauses} {g = g} (resolves {before} {after} {p} {ts} q o) k =
      all-weaken (λ d. count d.answer_terms ≡ count g.answer_terms) Of (λ d x. x ∙ k) (resolvents clauses g before p ts after) (resolvents-many clauses g before p ts after)

  step_of : {clauses : List Clause} {room store_size below left : ℕ} {at : Place} {l l' : Level} → Ahead clauses room store_size below at l left (step l') → LevelOf l → LevelOf l'
  unfolding with_answer with_parked with_pending
  step_of (lists {l} {g = g} e c a f s) h =
      let k = subst (All Of) e h.pending in record { pending = k.1; parked = h.parked; answers = all_snoc Of l.answers g h.answers k.0 }
  step_of (parks {l = l} {g = g} {m = m} e c a s) h =
      let k = subst (All Of) e h.pending in
      record { pending = k.1; parked = all_snoc (λ m. Of m.goal) l.parked (marked m g) h.parked k.0; answers = h.answers }
  step_of (replaces {gs = gs} {ds = ds} e c a s) h =
      let k = subst (All Of) e h.pending in
      record { pending = all_append Of ds gs (derived-of a k.0) k.1; parked = h.parked; answers = h.answers }

  ask-of : {clauses : List Clause} {room store_size below left : ℕ} {at : Place} {l : Level} {q : Question} → Ahead clauses room store_size below at l left (ask q) → LevelOf l
      → LevelOf q.on_success × LevelOf q.on_failure × LevelOf q.on_unsettled
  unfolding question with_pending with_parked
  ask-of (inquires {l = l} {g = g} {gs} e c a s) h =
      let k = subst (All Of) e h.pending in (
        record { pending = k.1; parked = h.parked; answers = h.answers },
        record { pending = (k.0, k.1); parked = h.parked; answers = h.answers },
        record { pending = k.1; parked = all_snoc (λ m. Of m.goal) l.parked (marked undecided g) h.parked k.0; answers = h.answers },
      )

  of-keeps : {clauses : List Clause} {room store_size : ℕ} (at : Place) → Keeps clauses room store_size at LevelOf
  of-keeps at = record { by_step = step_of; by_ask = ask-of }

-- Parked goals remain parked: those given stand first among those left, in order and with their marks.
abbrev Behind : List Marked → Level → Type 0
Behind ms l = (new : List Marked) × (l.parked ≡ ms ++ new)

behind-parked : (ms : List Marked) (l : Level) (m : Mark) (g : Goal) → Behind ms l → (new : List Marked) × (l.parked ++ (marked m g ∷ []) ≡ ms ++ new)
behind-parked ms l m g (new, e) = (new ++ (marked m g ∷ []), ap (λ (xs : List Marked). xs ++ (marked m g ∷ [])) e ∙ append_assoc ms new (marked m g ∷ []))

module _ (ms : List Marked) {clauses : List Clause} {room store_size : ℕ} where
  behind-step : {below left : ℕ} {at : Place} {l l' : Level} → Ahead clauses room store_size below at l left (step l') → Behind ms l → Behind ms l'
  unfolding with_answer with_parked with_pending
  behind-step (lists e c a f s) h = h
  behind-step (parks {l = l} {g = g} {m = m} e c a s) h = behind-parked ms l m g h
  behind-step (replaces e c a s) h = h

  behind-ask : {below left : ℕ} {at : Place} {l : Level} {q : Question} → Ahead clauses room store_size below at l left (ask q) → Behind ms l
      → Behind ms q.on_success × Behind ms q.on_failure × Behind ms q.on_unsettled
  unfolding question with_pending with_parked
  behind-ask (inquires {l = l} {g = g} e c a s) h = (h, h, behind-parked ms l undecided g h)

pub parked-remain : (deck : Deck) (answer_room store_size : ℕ) (gs : List Goal) (ms : List Marked) (total : ℕ)
    → (new : List Marked) × ((evaluate deck answer_room store_size gs ms total).parked ≡ ms ++ new)
parked-remain deck answer_room store_size gs ms total =
    evaluated deck answer_room store_size gs ms total (λ o. (new : List Marked) × (o.parked ≡ ms ++ new))
    (λ s l left r. runs-keep (Behind ms) (record { by_step = behind-step ms; by_ask = behind-ask ms }) r ([], sym (append-nil ms)))

-- So the goals that a run leaves, from open goals of so many answer terms, are such goals again.
module _ (deck : Deck) (wf : WfDeck deck) (terms : ℕ) (gs : List Goal) (ms : List Marked) (p : All (Fits deck.symbols terms) gs) (q : All (ParkedFits deck.symbols terms) ms)
    (answer_room store_size total : ℕ) where
  abbrev after : Outcome
  after = evaluate deck answer_room store_size gs ms total

  after-fit : All (Fits deck.symbols terms) after.pending × All (ParkedFits deck.symbols terms) after.parked × All (Fits deck.symbols terms) after.answers
  after-fit =
      let S : List Symbol = deck.symbols in
      let kept = evaluate-keeps deck wf answer_room store_size gs ms total
      (all-weaken (Fits S terms) (WfGoal S) (λ g h. h.wf) gs p) (all-weaken (ParkedFits S terms) (WfMarked S) (λ m h. h.1.wf) ms q) in
      let marks = all-weaken (λ m. Memᴰ m ms ⊎ Parks m.mark) (λ m. Parks m.mark) parks-left after.parked
      (evaluate-shape deck answer_room store_size gs ms total).parked in (
        all-weaken (λ g. WfGoal S g × Of terms g) (Fits S terms) (λ g h. record { wf = h.0; many = h.1 }) after.pending
            (all_both (WfGoal S) (Of terms) after.pending kept.pending counts.0),
        all-weaken (λ m. Parks m.mark × (WfMarked S m × Of terms m.goal)) (ParkedFits S terms) (λ m h. (h.0, record { wf = h.1.0; many = h.1.1 })) after.parked
            (all_both (λ m. Parks m.mark) (λ m. WfMarked S m × Of terms m.goal) after.parked marks
            (all_both (WfMarked S) (λ m. Of terms m.goal) after.parked kept.parked counts.1)),
        all-weaken (λ g. WfGoal S g × Of terms g) (Fits S terms) (λ g h. record { wf = h.0; many = h.1 }) after.answers
            (all_both (WfGoal S) (Of terms) after.answers kept.answers counts.2),
      )
    where
      parks-left : (m : Marked) → Memᴰ m ms ⊎ Parks m.mark → Parks m.mark
      parks-left m (inl i) = (in_all (ParkedFits deck.symbols terms) ms q m i).0
      parks-left m (inr h) = h

      counts : All (Of terms) after.pending × All (λ m. Of terms m.goal) after.parked × All (Of terms) after.answers
      counts = evaluated deck answer_room store_size gs ms total (λ o. All (Of terms) o.pending × All (λ m. Of terms m.goal) o.parked × All (Of terms) o.answers) (λ s l left r.
          let h = runs-keep (LevelOf terms) (of-keeps terms zeroth) r (record {
            pending = all-weaken (Fits deck.symbols terms) (Of terms) (λ g h. h.many) gs p;
            parked = all-weaken (ParkedFits deck.symbols terms) (λ m. Of terms m.goal) (λ m h. h.1.many) ms q;
            answers = tt;
          }) in (h.pending, h.parked, h.answers))

  pub left-fit : All (Fits deck.symbols terms) after.pending × All (ParkedFits deck.symbols terms) after.parked
  left-fit = (after-fit.0, after-fit.1)

  pub listed-fit : All (Fits deck.symbols terms) after.answers
  listed-fit = after-fit.2
