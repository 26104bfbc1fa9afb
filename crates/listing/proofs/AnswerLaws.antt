-- Answers whose words stand in the answer list: the first of them, and those after it.
use Prim.Native.Nat.{ℕ, suc, ◌+◌, ◌-◌, ◌*◌, ◌≤◌}
use mathlib.Core.Path.{◌≡◌, refl, ap, ◌∙◌}
use mathlib.Core.List.{List, [], ◌∷◌, ◌++◌, append_assoc}
use native.Mathlib.Omega.{arith}
use lib.ListN.{length, get_or, take, drop, length-append, length-drop}
use lib.Seq.{take_at, drop_at, take_all, length-take-le}
use Rattle.rules.specs.Terms.{sizes}
use Rattle.rules.specs.Syntax.{Goal}
use Rattle.rules.specs.Cells.{write_terms}
use Rattle.rules.specs.Goals.{pending, marked, unmarked, mark_number, goal_cells, goal_words, write_goal, write_goals, words_of}
use Rattle.rules.specs.Listing.{print_answers}
use Rattle.rules.proofs.CellLaws.{literal_sizes, terms-length}
use Rattle.rules.proofs.GoalLaws.{goal-words, goal-small, goals-length, unmarked-words}
use Rattle.listing.specs.Standing.{TermsAt}
use Rattle.listing.specs.Shown.{AnswersAt}

-- An answer's words: its length, the number of its cells, and its cells.
bare-words : (g : Goal) → g.literals ≡ [] → write_goal (marked pending g) ≡ (2 + sizes g.answer_terms) ∷ sizes g.answer_terms ∷ write_terms g.answer_terms []
unfolding write_goal goal_cells mark_number
bare-words g b =
    let n : goal_words g + 4096 * 0 ≡ 2 + sizes g.answer_terms = omega (arith, goal-words g, ap literal_sizes b) in
    rw (n, b)

module _ (words list : List ℕ) where
  -- The first answer's words, its cells, and the others' words after them.
  pub record AnswerHere (gs : List Goal) : Type 0 where
    pub goal : Goal
    pub others : List Goal
    pub same : gs ≡ goal ∷ others
    pub word : get_or list 0 0 ≡ 2 + sizes goal.answer_terms
    pub fits : 2 + sizes goal.answer_terms ≤ length list
    pub cells : TermsAt words (drop 2 (take (get_or list 0 0) list)) goal.answer_terms
    pub after : AnswersAt words (drop (get_or list 0 0) list) others

  pub answer-here : (gs : List Goal) → AnswersAt words list gs → (length gs ≡ 0 → ⊥) → AnswerHere gs
  unfolding write_goals
  answer-here [] a h = absurd (h refl)
  answer-here (g ∷ gs) a h =
      let ts = g.answer_terms in
      let n = sizes ts in
      let more = write_goals (unmarked gs) ++ a.rest in
      let all : list ≡ (2 + n) ∷ n ∷ (write_terms ts [] ++ more) =
      a.written ∙ append_assoc (write_goal (marked pending g)) (write_goals (unmarked gs)) a.rest ∙ ap (◌++ more) (bare-words g a.bare.0) in
      let two : 2 + n ≡ suc (suc n) = omega arith in
      let w : get_or list 0 0 ≡ 2 + n = ap (λ (l : List ℕ). get_or l 0 0) all in
      record {
        goal = g;
        others = gs;
        same = refl;
        word = w;
        fits = omega (arith, ap length all, length-append (write_terms ts []) more, terms-length ts []);
        cells = record {
          symbols = a.symbols;
          rest = [];
          read = a.read;
          written = rw (w, two, all) (take_at (write_terms ts []) more n (omega (arith, terms-length ts [])));
          formed = a.formed.0.answer_terms;
          small = rw a.bare.0 at (goal-small a.symbols g a.formed.0);
        };
        after = record {
          symbols = a.symbols;
          rest = a.rest;
          read = a.read;
          written = rw (w, two, all) (drop_at (write_terms ts []) more n (omega (arith, terms-length ts [])));
          formed = a.formed.1;
          bare = a.bare.1;
        };
      }

-- The answer's words without its two counts are the row of its cells.
pub row-here :
    {words list : List ℕ} {gs : List Goal} (h : AnswerHere words list gs) {answer : List ℕ} → answer ≡ take (get_or list 0 0) list → let row = take (length answer - 2) (drop 2 answer) in
    (2 ≤ length answer) × TermsAt words row h.goal.answer_terms × (length row ≡ sizes h.goal.answer_terms)
row-here {list} h {answer} e =
    let n : length answer ≡ 2 + sizes h.goal.answer_terms = ap length e ∙ length-take-le (get_or list 0 0) list (omega (arith, h.word, h.fits)) ∙ h.word in
    let all : take (length answer - 2) (drop 2 answer) ≡ drop 2 answer = take_all (length answer - 2) (drop 2 answer) (omega (arith, length-drop 2 answer)) in
    (omega arith, rw (all, e) h.cells, omega (arith, ap length all, length-drop 2 answer))

pub answers-inside : (words list : List ℕ) (gs : List Goal) → AnswersAt words list gs → words_of gs ≤ length list
answers-inside words list gs a =
    omega (arith, ap length a.written, length-append (write_goals (unmarked gs)) a.rest, goals-length (unmarked gs), unmarked-words gs)

pub no-answers : (gs : List Goal) → length gs ≡ 0 → print_answers gs ≡ []
unfolding print_answers
no-answers [] e = refl
no-answers (g ∷ gs) e = absurd (omega arith)
