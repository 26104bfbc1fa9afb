-- The goals held in a store: the words of the first one, at the end; the goals below it; the part of the store behind them.
use Prim.Native.Nat.{ℕ, ◌+◌, ◌-◌, ◌*◌, ◌≤◌, ◌<◌}
use mathlib.Core.Path.{◌≡◌, refl, sym, ◌∙◌, ap}
use mathlib.Core.List.{List, [], ◌∷◌, ◌++◌, reverse, reverse-append, reverse-reverse}
use native.Mathlib.Omega.{arith}
use lib.ListN.{length, get_or, take, length-append, length-reverse}
use lib.Seq.{take_at, take-take}
use borrow.Rule.Slice.PartMut.{mid_of, put_mid, mid_len, take_put}
use Rattle.rules.specs.Terms.{sizes}
use Rattle.rules.specs.Syntax.{Symbol, Goal}
use Rattle.rules.specs.Goals.{mark_number, unmarked, goal_cells, goal_words, write_goal, write_goals, words_of}
use Rattle.rules.proofs.GoalLaws.{goals-length, unmarked-words}
use Rattle.words.proofs.StoreLaws.{mirror-length, read_word}
use Rattle.goals.specs.Store.{Holding}

-- The words of a pending goal.
abbrev pub pending_words : Goal → List ℕ
pending_words g = goal_words g ∷ sizes g.answer_terms ∷ goal_cells g

pub goals-first : (g : Goal) (gs : List Goal) → write_goals (unmarked (g ∷ gs)) ≡ pending_words g ++ write_goals (unmarked gs)
unfolding write_goals write_goal mark_number
goals-first g gs =
    let e : goal_words g + 4096 * 0 ≡ goal_words g = omega arith in
    ap (λ (w : ℕ). w ∷ (sizes g.answer_terms ∷ (goal_cells g ++ write_goals (unmarked gs)))) e

pub cells-length : (g : Goal) → goal_words g ≡ 2 + length (goal_cells g)
unfolding goal_words
cells-length g = refl

pub held-words : {S : List Symbol} {store : List ℕ} {held : ℕ} {gs : List Goal} → Holding S store held gs → held ≡ words_of gs
held-words {store = store} {held} {gs} h =
    sym (mirror-length store (write_goals (unmarked gs)) held h.inside h.words) ∙ goals-length (unmarked gs) ∙ unmarked-words gs

-- What lies below the words xs on top.
below-first : (s xs zs : List ℕ) (held x : ℕ) → held ≤ length s → length xs ≡ x → take held s ≡ reverse (xs ++ zs) → take (held - x) s ≡ reverse zs
below-first s xs zs held x k l h =
    let n : length (reverse zs) ≡ held - x = length-reverse zs ∙ omega (arith, mirror-length s (xs ++ zs) held k h, length-append xs zs) in
    sym (take-take (held - x) held s (omega arith)) ∙ ap (take (held - x)) (h ∙ reverse-append xs zs) ∙ take_at (reverse zs) (reverse xs) (held - x) n

module _ {S : List Symbol} {store : List ℕ} {held : ℕ} {g : Goal} {gs : List Goal} (h : Holding S store held (g ∷ gs)) where
  first-words : take held store ≡ reverse (pending_words g ++ write_goals (unmarked gs))
  first-words = h.words ∙ ap reverse (goals-first g gs)

  -- A goal has two words at least.
  pub first-inside : goal_words g + words_of gs ≡ held
  first-inside = sym (held-words h)

  first-least : 2 ≤ goal_words g
  first-least = omega (arith, cells-length g)

  pub first-length : get_or store (held - 1) 0 ≡ goal_words g
  first-length =
      let i : held - 1 - 0 ≡ held - 1 = omega arith in
      ap (λ (n : ℕ). get_or store n 0) (sym i)
      ∙ read_word store (pending_words g ++ write_goals (unmarked gs)) held 0 h.inside first-words (omega (arith, first-inside, first-least))

  pub first-answers : get_or store (held - 2) 0 ≡ sizes g.answer_terms
  first-answers =
      let i : held - 1 - 1 ≡ held - 2 = omega arith in
      ap (λ (n : ℕ). get_or store n 0) (sym i)
      ∙ read_word store (pending_words g ++ write_goals (unmarked gs)) held 1 h.inside first-words (omega (arith, first-inside, first-least))

  -- The numbers that are read.
  pub first-room : (2 ≤ held) × (held ≤ length store) × (2 ≤ get_or store (held - 1) 0) × (get_or store (held - 1) 0 ≤ held) × (get_or store (held - 1) 0 ≤ 1024)
  first-room =
      let l = first-length in
      let i = first-inside in
      let least = first-least in
      (omega arith, h.inside, omega arith, omega arith, omega (arith, h.well_formed.0.short))

  pub first-cells : (n : ℕ) → n + 2 ≡ goal_words g → take n (reverse (take (held - 2) store)) ≡ goal_cells g
  first-cells n e =
      let b = below-first store (goal_words g ∷ sizes g.answer_terms ∷ []) (goal_cells g ++ write_goals (unmarked gs)) held 2 h.inside refl first-words in
      ap (λ (l : List ℕ). take n (reverse l)) b
      ∙ ap (take n) (reverse-reverse (goal_cells g ++ write_goals (unmarked gs)))
      ∙ take_at (goal_cells g) (write_goals (unmarked gs)) n (omega (arith, cells-length g))

  pub rest-held : Holding S store (held - goal_words g) gs
  rest-held =
      record {
        inside = omega (arith, h.inside);
        well_formed = h.well_formed.1;
        words = below-first store (pending_words g) (write_goals (unmarked gs)) held (goal_words g) h.inside (omega (arith, cells-length g)) first-words;
      }

-- What is held is held as long as the words are.
pub still-held : {S : List Symbol} {store store' : List ℕ} {held : ℕ} {gs : List Goal} → Holding S store held gs → length store' ≡ length store
    → take held store' ≡ take held store → Holding S store' held gs
still-held h l e = record { inside = omega (arith, h.inside); well_formed = h.well_formed; words = e ∙ h.words }

-- Something is held: there is a first goal.
pub record FirstOf (gs : List Goal) : Type 0 where
  pub first : Goal
  pub rest : List Goal
  pub same : gs ≡ first ∷ rest

pub first_of : {S : List Symbol} {store : List ℕ} {held : ℕ} (gs : List Goal) → Holding S store held gs → 0 < held → FirstOf gs
first_of [] h l = absurd (omega (arith, held-words h))
first_of (g ∷ gs) h l = record { first = g; rest = gs; same = refl }

pub none-held : {S : List Symbol} {store : List ℕ} {held : ℕ} (gs : List Goal) → Holding S store held gs → held ≤ 0 → gs ≡ []
none-held [] h l = refl
none-held (g ∷ gs) h l = absurd (omega (arith, held-words h, cells-length g))

-- The part of a store behind the words held, and the store with the part put back.
module _ (store store' : List ℕ) (held : ℕ) (fits : held ≤ length store) (same : length store' ≡ length store) where
  pub part_length : length (mid_of held (length store' - held) store') ≡ length store - held
  part_length = mid_len held (length store') store' (omega arith) ∙ ap (λ (n : ℕ). n - held) same

  pub back-held : (ys : List ℕ) → take held store' ≡ take held store → take held (put_mid held (length store' - held) store' ys) ≡ take held store
  back-held ys e = take_put held (length store' - held) store' ys (omega arith) ∙ e
