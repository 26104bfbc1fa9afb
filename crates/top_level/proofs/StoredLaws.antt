-- Level 0 in the store: its words, its first pending goal, the part past the parked goals put back, the first goal parked, and the goals in order at the end.
use Prim.Native.Nat.{ℕ, ◌+◌, ◌-◌, ◌*◌, ◌≤◌, ◌<◌}
use mathlib.Core.Path.{◌≡◌, refl, sym, ◌∙◌, ap, ap₂, subst}
use mathlib.Core.List.{List, [], ◌∷◌, ◌++◌, reverse, reverse-append, reverse-reverse, append_assoc, append-nil}
use native.Mathlib.Omega.{arith}
use lib.ListN.{length, get_or, take, drop, set, length-append, length-drop, length-reverse, take-append-drop}
use lib.Seq.{take_at, drop_at, set_at, get_or_at, take-add, take_all, take-length, drop-length, length-take-le, get_or-drop}
use borrow.Rule.Slice.PartMut.{mid_of, put_mid}
use Rattle.rules.specs.Terms.{sizes}
use Rattle.rules.specs.Syntax.{Symbol, Goal}
use Rattle.rules.specs.Goals.{Mark, Marked, pending, floundered, undecided, oversized, deep, mark_number, marked, unmarked, goal_cells, goal_words, write_goal, write_goals, words_of, marked_words}
use Rattle.rules.specs.WellFormed.{All, WfGoal, WfMarked}
use Rattle.rules.specs.Evaluation.{Level, zeroth, with_pending, with_parked, with_answer}
use Rattle.rules.proofs.ListLaws.{all_snoc, length-unmarked}
use Rattle.rules.proofs.GoalLaws.{goals-length, unmarked-words, goals-append, marked_words-append}
use Rattle.words.proofs.StoreLaws.{rev, rev-fronted, parked-on, turned, read_first}
use Rattle.goals.specs.Store.{Holding}
use Rattle.levels.specs.Levels.{LevelHolds}
use Rattle.top_level.specs.Top.{Stored, Written, Ordered, InOrder, opening}
use Rattle.top_level.specs.declared.Counts.{Counts}
use Rattle.goals.proofs.HeldLaws.{pending_words, goals-first, cells-length, held-words, first-length, rest-held, still-held, first_of}

-- A part that goes to the end.
pub part-all : (s : List ℕ) (a : ℕ) → a ≤ length s → mid_of a (length s - a) s ≡ drop a s
part-all s a h = take_all (length s - a) (drop a s) (omega (arith, length-drop a s))

pub put_all : (s part : List ℕ) (a : ℕ) → a ≤ length s → put_mid a (length s - a) s part ≡ take a s ++ part
put_all s part a h =
    let none : drop (length s - a) (drop a s) ≡ [] = ap (λ (n : ℕ). drop n (drop a s)) (sym (length-drop a s)) ∙ drop-length (drop a s) in
    ap (λ (r : List ℕ). take a s ++ (part ++ r)) none ∙ ap (take a s ++◌) (append-nil part)

-- The level whose goals the words hold, by the words themselves.
stored-as : (S : List Symbol) (s rest : List ℕ) (parked held : ℕ) (l : Level) → s ≡ write_goals l.parked ++ (reverse (write_goals (unmarked l.pending)) ++ rest)
    → parked ≡ marked_words l.parked → held ≡ words_of l.pending → All (WfMarked S) l.parked → All (WfGoal S) l.pending → Stored S s parked held l
stored-as S s rest parked held l e p h pf gf =
    let lp : length (write_goals l.parked) ≡ parked = goals-length l.parked ∙ sym p in
    let ws = reverse (write_goals (unmarked l.pending)) in
    let lh : length ws ≡ held = length-reverse (write_goals (unmarked l.pending)) ∙ goals-length (unmarked l.pending) ∙ unmarked-words l.pending ∙ sym h in
    let d : drop parked s ≡ ws ++ rest = ap (drop parked) e ∙ drop_at (write_goals l.parked) (ws ++ rest) parked lp in
    record {
      inside = omega (arith, ap length e, length-append (write_goals l.parked) (ws ++ rest));
      first = ap (take parked) e ∙ take_at (write_goals l.parked) (ws ++ rest) parked lp;
      parked_formed = pf;
      pending = rw d (record { inside = omega (arith, length-append ws rest); well_formed = gf; words = take_at ws rest held lh });
    }

unmarked-formed : (S : List Symbol) (gs : List Goal) → All (WfGoal S) gs → All (WfMarked S) (unmarked gs)
unmarked-formed S [] w = tt
unmarked-formed S (g ∷ gs) w = (w.0, unmarked-formed S gs w.1)

-- At the start nothing is parked.
pub stored-first : {S : List Symbol} {store : List ℕ} {held : ℕ} {gs : List Goal} → Holding S store held gs
    → Stored S store 0 held (record { pending = gs; parked = []; answers = [] })
unfolding write_goals
stored-first h = record { inside = omega arith; first = refl; parked_formed = tt; pending = h }

-- Goals in order, with the parked ones reversed and then all of them, are stored.
pub resumed : {S : List Symbol} {store : List ℕ} {held end : ℕ} {gs : List Goal} {ms : List Marked} → InOrder S store held end gs ms
    → (t : List ℕ) → t ≡ rev 0 end (rev held end store) → Stored S t (end - held) held (opening gs ms)
resumed {S} {store} {held} {end} {gs} {ms} o t e =
    let ys = write_goals (unmarked gs) in
    let ps = write_goals ms in
    let ly : length ys ≡ held = goals-length (unmarked gs) ∙ unmarked-words gs ∙ sym o.pending_words in
    let lp : held + length ps ≡ end = omega (arith, goals-length ms, o.parked_words) in
    let one = rev-fronted store ys ps held end ly lp (o.begins ∙ goals-append (unmarked gs) ms) in
    let n : 0 + length (ys ++ reverse ps) ≡ end = omega (arith, length-append ys (reverse ps), length-reverse ps) in
    let two = rev-fronted (rev held end store) [] (ys ++ reverse ps) 0 end refl n one.0 in
    let all : reverse (ys ++ reverse ps) ≡ ps ++ reverse ys = rw (reverse-append ys (reverse ps), reverse-reverse) in
    let words : t ≡ ps ++ (reverse ys ++ drop end t) =
    sym (take-append-drop end t) ∙ ap (◌++ drop end t) (ap (take end) e ∙ two.0 ∙ all) ∙ append_assoc ps (reverse ys) (drop end t) in
    stored-as S t (drop end t) (end - held) held (opening gs ms) words (omega (arith, o.parked_words)) o.pending_words o.parked_formed o.pending_formed

module _ {S : List Symbol} {store : List ℕ} {parked held : ℕ} {l : Level} (h : Stored S store parked held l) where
  pub parked-words : parked ≡ marked_words l.parked
  parked-words = sym (length-take-le parked store h.inside) ∙ ap length h.first ∙ goals-length l.parked

  pub stored-inside : parked + held ≤ length store
  stored-inside = omega (arith, h.inside, h.pending.inside, length-drop parked store)

  stored-words : take (parked + held) store ≡ write_goals l.parked ++ reverse (write_goals (unmarked l.pending))
  stored-words = take-add parked held store ∙ ap₂ ◌++◌ h.first h.pending.words

  parked-length : length (write_goals l.parked) ≡ parked
  parked-length = goals-length l.parked ∙ sym parked-words

  pending-length : length (write_goals (unmarked l.pending)) ≡ held
  pending-length = goals-length (unmarked l.pending) ∙ unmarked-words l.pending ∙ sym (held-words h.pending)

  -- The part past the parked goals has room for pending goals.
  pub stored-stands : (gs : List Goal) → l.pending ≡ gs → LevelHolds zeroth l gs (length (drop parked store)) (length store)
  stored-stands gs e = record { pending = e; room = omega (arith, parked-words, h.inside, length-drop parked store) }

  -- That part with other goals, or with the same ones.
  pub put_back : {store' : List ℕ} (part : List ℕ) → store' ≡ take parked store ++ part → (n : ℕ) (hs : List Goal) → Holding S part n hs
      → Stored S store' parked n (with_pending hs l)
  unfolding with_pending
  put_back part e n hs k =
      let lp = length-take-le parked store h.inside in
      record {
        inside = omega (arith, ap length e, length-append (take parked store) part);
        first = ap (take parked) e ∙ take_at (take parked store) part parked lp ∙ h.first;
        parked_formed = h.parked_formed;
        pending = subst (λ (p : List ℕ). Holding S p n hs) (sym (ap (drop parked) e ∙ drop_at (take parked store) part parked lp)) k;
      }

  pub kept_back : {store' : List ℕ} (part : List ℕ) → store' ≡ take parked store ++ part → length part ≡ length (drop parked store)
      → take held part ≡ take held (drop parked store) → Stored S store' parked held l
  unfolding with_pending
  kept_back part e n k = put_back part e held l.pending (still-held h.pending n k)

  -- The pending goals first, in order, then the parked ones.
  module _ (t : List ℕ) (e : t ≡ rev held (parked + held) (rev 0 (parked + held) store)) where
    in_order_lem : take (parked + held) t ≡ write_goals (unmarked l.pending) ++ write_goals l.parked
    in_order_lem = ap (take (parked + held)) e ∙ (turned store (write_goals l.parked) (write_goals (unmarked l.pending)) parked held parked-length pending-length stored-words).0

    split-order : t ≡ write_goals (unmarked l.pending) ++ (write_goals l.parked ++ drop (parked + held) t)
    split-order = sym (take-append-drop (parked + held) t) ∙ ap (◌++ drop (parked + held) t) in_order_lem ∙ append_assoc (write_goals (unmarked l.pending)) (write_goals l.parked) (drop (parked + held) t)

    pub pending-written : Written S (take held t) (unmarked l.pending)
    pending-written = record {
      well_formed = unmarked-formed S l.pending h.pending.well_formed;
      are = ap (take held) split-order ∙ take_at (write_goals (unmarked l.pending)) (write_goals l.parked ++ drop (parked + held) t) held pending-length;
    }

    pub parked-written : Written S (take (parked + held - held) (drop held t)) l.parked
    parked-written =
        let n : length (write_goals l.parked) ≡ parked + held - held = omega (arith, parked-length) in
        record {
          well_formed = h.parked_formed;
          are =
              ap (λ (r : List ℕ). take (parked + held - held) (drop held r)) split-order
              ∙ ap (take (parked + held - held)) (drop_at (write_goals (unmarked l.pending)) (write_goals l.parked ++ drop (parked + held) t) held pending-length)
              ∙ take_at (write_goals l.parked) (drop (parked + held) t) (parked + held - held) n;
        }

    pub ordered : (c : Counts) → c.pending ≡ length (unmarked l.pending) → c.parked ≡ length l.parked → Ordered l t c
    ordered c p k =
        let both = goals-append (unmarked l.pending) l.parked in
        let n : length (write_goals (unmarked l.pending ++ l.parked)) ≡ parked + held =
        ap length both ∙ length-append (write_goals (unmarked l.pending)) (write_goals l.parked) ∙ omega (arith, parked-length, pending-length) in
        record { begins = ap (λ (m : ℕ). take m t) n ∙ in_order_lem ∙ sym both; pending = p ∙ length-unmarked l.pending; parked = k }

  -- THE FIRST PENDING GOAL
  module _ (g : Goal) (gs : List Goal) (p : l.pending ≡ g ∷ gs) where
    first-held : Holding S (drop parked store) held (g ∷ gs)
    first-held = subst (Holding S (drop parked store) held) p h.pending

    pub first_fits : goal_words g + words_of gs ≡ held
    first_fits = sym (held-words first-held)

    first-words : take (parked + held) store ≡ write_goals l.parked ++ reverse (pending_words g ++ write_goals (unmarked gs))
    first-words = stored-words ∙ ap (λ (hs : List Goal). write_goals l.parked ++ reverse (write_goals (unmarked hs))) p ∙ ap (λ (r : List ℕ). write_goals l.parked ++ reverse r) (goals-first g gs)

    pub first_word : get_or store (parked + held - 1) 0 ≡ goal_words g
    first_word =
        let n : parked + held - 1 ≡ parked + (held - 1) = omega (arith, first_fits, cells-length g) in
        ap (λ (i : ℕ). get_or store i 0) n ∙ sym (get_or-drop parked store (held - 1) 0) ∙ first-length first-held

    -- Its words, read from the end.
    pub first-copied : take (goal_words g) (reverse (take (parked + held) store)) ≡ pending_words g
    first-copied =
        let ys = write_goals (unmarked gs) in
        let ps = write_goals l.parked in
        let n : goal_words g ≡ length (pending_words g) = omega (arith, cells-length g) in
        let e : ps ++ reverse (pending_words g ++ ys) ≡ reverse (pending_words g ++ (ys ++ reverse ps)) =
        sym (rw (← append_assoc (pending_words g) ys (reverse ps), reverse-append (pending_words g ++ ys) (reverse ps), reverse-reverse ps)) in
        read_first store (pending_words g) (ys ++ reverse ps) (parked + held) (goal_words g) (first-words ∙ e) (omega arith)
        ∙ ap (λ (k : ℕ). take k (pending_words g)) n ∙ take-length (pending_words g)

    -- The others, without it.
    pub rest-stored : Stored S store parked (held - goal_words g) (with_answer g gs l)
    unfolding with_answer
    rest-stored = record { inside = h.inside; first = h.first; parked_formed = h.parked_formed; pending = rest-held first-held }

    -- It is parked: two reversals, and its mark.
    module _ (t : List ℕ) (e : t ≡ rev (parked + goal_words g) (parked + held) (rev parked (parked + held) store)) where
      last-first : t ≡ write_goals l.parked ++ (goal_words g ∷ ((sizes g.answer_terms ∷ goal_cells g) ++ (reverse (write_goals (unmarked gs)) ++ drop (parked + held) t)))
      last-first =
          let ys = write_goals (unmarked gs) in
          let n : length (pending_words g) ≡ goal_words g = omega (arith, cells-length g) in
          let lh : length (pending_words g ++ ys) ≡ held =
          ap length (sym (goals-first g gs)) ∙ ap (λ (hs : List Goal). length (write_goals (unmarked hs))) (sym p) ∙ pending-length in
          let front = ap (take (parked + held)) e ∙ (parked-on store (write_goals l.parked) (pending_words g) ys parked held (goal_words g) parked-length lh n first-words).0 in
          sym (take-append-drop (parked + held) t) ∙ ap (◌++ drop (parked + held) t) front ∙ simp append_assoc

      parked-word : get_or t parked 0 ≡ goal_words g
      parked-word = ap (λ (r : List ℕ). get_or r parked 0) last-first ∙ get_or_at (write_goals l.parked) (goal_words g) _ 0 parked parked-length

      pub goal-parked : (m : Mark) (w : ℕ) → w ≡ get_or t parked 0 + 4096 * mark_number m
          → Stored S (set t parked w) (parked + goal_words g) (held - goal_words g) (with_parked m g gs l)
      unfolding with_parked write_goals write_goal
      goal-parked m w v =
          let ps = write_goals l.parked in
          let cs = sizes g.answer_terms ∷ goal_cells g in
          let rest = drop (parked + held) t in
          let others = reverse (write_goals (unmarked gs)) ++ rest in
          let new : set t parked w ≡ ps ++ (w ∷ (cs ++ others)) = ap (λ (r : List ℕ). set r parked w) last-first ∙ set_at ps (goal_words g) (cs ++ others) w parked parked-length in
          let more : write_goals (l.parked ++ (marked m g ∷ [])) ≡ ps ++ (w ∷ cs) =
          goals-append l.parked (marked m g ∷ [])
          ∙ ap (ps ++◌) (append-nil (write_goal (marked m g)) ∙ ap (λ (x : ℕ). x ∷ cs) (sym (v ∙ ap (◌+ 4096 * mark_number m) parked-word))) in
          stored-as S (set t parked w) rest (parked + goal_words g) (held - goal_words g) (with_parked m g gs l)
          (new ∙ sym (ap (◌++ others) more ∙ append_assoc ps (w ∷ cs) others))
          (omega (arith, parked-words, marked_words-append l.parked (marked m g ∷ []))) (omega (arith, first_fits))
          (all_snoc (WfMarked S) l.parked (marked m g) h.parked_formed first-held.well_formed.0) first-held.well_formed.1

-- What is known of the places and the sizes where something is pending.
pub record Sized (store : List ℕ) (parked held : ℕ) : Type 0 where
  pub whole : parked + held ≤ length store
  pub least : 2 ≤ get_or store (parked + held - 1) 0
  pub most : get_or store (parked + held - 1) 0 ≤ 1024
  pub within : get_or store (parked + held - 1) 0 ≤ held
  pub kept : (t : List ℕ) → t ≡ rev (parked + get_or store (parked + held - 1) 0) (parked + held) (rev parked (parked + held) store)
      → get_or t parked 0 ≡ get_or store (parked + held - 1) 0

pub sized : {S : List Symbol} {store : List ℕ} {parked held : ℕ} {l : Level} → Stored S store parked held l → 0 < held → Sized store parked held
sized {store = store} {parked} {held} {l} h some =
    let f = first_of l.pending h.pending some in
    let n = first_word h f.first f.rest f.same in
    let w : WfGoal _ f.first = (first-held h f.first f.rest f.same).well_formed.0 in
    record {
      whole = stored-inside h;
      least = omega (arith, cells-length f.first);
      most = omega (arith, w.short);
      within = omega (arith, first_fits h f.first f.rest f.same);
      kept = λ t e. parked-word h f.first f.rest f.same t (e ∙ ap (λ (k : ℕ). rev (parked + k) (parked + held) (rev parked (parked + held) store)) n) ∙ sym n;
    }

pub mark-small : (m : Mark) → mark_number m ≤ 4
unfolding mark_number
mark-small pending = omega arith
mark-small floundered = omega arith
mark-small undecided = omega arith
mark-small oversized = omega arith
mark-small deep = omega arith
